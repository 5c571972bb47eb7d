-- The two laws of frame files of a type that lowers: what is written is read as itself, and what is read is exactly what the writer makes.
-- A frame of the right length is read unless a padding or tail bit is 1.
use Rattle.std.specs.Prelude.{◌≡◌, refl, true, false, ℕ, ◌-◌, ◌*◌, eqb, take, drop}
use Rattle.std.proofs.Common.{sym, ◌∙◌, arith, length-take, length-drop, take-append-drop, take_at, drop_at}
use Rattle.std.proofs.Math.Path.{ap, ap₂}
use mathlib.Core.List.{List, ◌++◌}
use Rattle.std.proofs.Math.Bool.{Bool}
use Rattle.std.proofs.Math.Option.{some}
use Rattle.std.proofs.Math.ListN.{length}
use borrow.Author.Tests.{eqb-true, eqb-false, eq-eqb}
use Rattle.model.specs.Numbers.{frame_length, stray_bit}
use Rattle.model.specs.Outcome.{done, refused}
use Rattle.model.specs.Options.{any}
use Rattle.model.specs.Bytes.{Bytes, bits_of, bytes_for, zeros}
use Rattle.model.specs.Types.{Ty}
use Rattle.model.specs.Lowering.{lower}
use Rattle.model.specs.Values.{Value, Valid, inject}
use Rattle.model.specs.Reconstruct.{reconstruct}
use Rattle.model.specs.Frames.{Place, width, bits, frame, frame_file, stray_bits, from_bits, padding, unframe}
use Rattle.model.proofs.Laws.Outcome.{refused_done, done_injective}
use Rattle.model.proofs.Laws.Bytes.{length_bits_of, filled, filled_is}
use Rattle.model.proofs.Laws.Frames.{any_append, append_any, any_zeros, zeros_any, length_bits, from_bits_bits, padding_bits, from_bits_belongs, bits_from_bits}
use Rattle.model.proofs.Laws.Shapes.{Lowers, inject_belongs, reconstruct_inject, reconstructs_shape}

module _ (p : Place) where
  pub length_frame : (t : Ty) (v : Value t) → Valid t v → length (frame p t v) ≡ width (lower t)
  unfolding frame
  length_frame t v h = length_bits p (inject_belongs t v h)

  pub length_frame_file : (t : Ty) (v : Value t) → Valid t v → length (frame_file p t v) ≡ bytes_for (width (lower t))
  unfolding frame_file
  length_frame_file t v h = (filled (frame p t v)).size ∙ ap bytes_for (length_frame t v h)

  pub bytes_frame_file : (t : Ty) (v : Value t) → Bytes (frame_file p t v)
  unfolding frame_file
  bytes_frame_file t v = (filled (frame p t v)).bytes

  -- the bits of a frame file: the frame's, and then zeros
  pub bits_frame_file : (t : Ty) (v : Value t) → Valid t v → bits_of (frame_file p t v) ≡ frame p t v ++ zeros (8 * bytes_for (width (lower t)) - width (lower t))
  unfolding frame_file
  bits_frame_file t v h = (filled (frame p t v)).bits ∙ ap (λ n. frame p t v ++ zeros (8 * bytes_for n - n)) (length_frame t v h)

  clean : (t : Ty) (v : Value t) → Valid t v → any (padding p (lower t) (frame p t v)) ≡ false
  unfolding frame
  clean t v h = padding_bits p (inject_belongs t v h)

  said : (t : Ty) (v : Value t) → Valid t v → reconstruct t (from_bits p (lower t) (frame p t v)) ≡ some v
  unfolding frame
  said t v h = ap (reconstruct t) (from_bits_bits p (inject_belongs t v h)) ∙ reconstruct_inject t v h

  -- what is written is read as itself
  pub frame_read_written : (t : Ty) (v : Value t) → Valid t v → unframe p t (frame_file p t v) ≡ done v
  unfolding unframe
  frame_read_written t v h =
      rw (
        eq-eqb (length (frame_file p t v)) (bytes_for (width (lower t))) (length_frame_file t v h),
        front,
        back,
        append_any (padding p (lower t) (frame p t v)) z (clean t v h) (any_zeros (8 * bytes_for (width (lower t)) - width (lower t))),
        said t v h,
      )
    where
      z : List Bool
      z = zeros (8 * bytes_for (width (lower t)) - width (lower t))

      front : take (width (lower t)) (bits_of (frame_file p t v)) ≡ frame p t v
      front = ap (take (width (lower t))) (bits_frame_file t v h) ∙ take_at (frame p t v) z (width (lower t)) (length_frame t v h)

      back : drop (width (lower t)) (bits_of (frame_file p t v)) ≡ zeros (8 * bytes_for (width (lower t)) - width (lower t))
      back = ap (drop (width (lower t))) (bits_frame_file t v h) ∙ drop_at (frame p t v) z (width (lower t)) (length_frame t v h)

  -- what reading a file of the type comes to
  pub data Framing (t : Ty) (file : List ℕ) : Type 0 where
    other_length : (length file ≡ bytes_for (width (lower t)) → ⊥) → unframe p t file ≡ refused frame_length → Framing t file
    stray : length file ≡ bytes_for (width (lower t)) → any (stray_bits p t file) ≡ true → ((v : Value t) → Valid t v → file ≡ frame_file p t v → ⊥) → unframe p t file ≡ refused stray_bit → Framing t file
    whole : any (stray_bits p t file) ≡ false → (v : Value t) → Valid t v → file ≡ frame_file p t v → unframe p t file ≡ done v → Framing t file

  -- bits of the right length without a stray bit are those of a value
  module _ (t : Ty) (l : Lowers t) (file : List ℕ) (b : Bytes file) (n : length file ≡ bytes_for (width (lower t))) where
    abbrev own : List Bool
    own = take (width (lower t)) (bits_of file)

    length_own : length own ≡ width (lower t)
    length_own = length-take (width (lower t)) (bits_of file) ∙ omega (arith, length_bits_of file)

    frame_of_bits : (v : Value t) → any (padding p (lower t) own) ≡ false → inject t v ≡ from_bits p (lower t) own → frame p t v ≡ own
    unfolding frame
    frame_of_bits v c e = ap (bits p (lower t)) e ∙ bits_from_bits p (lower t) own length_own c

    length_tail : length (drop (width (lower t)) (bits_of file)) ≡ 8 * bytes_for (width (lower t)) - width (lower t)
    length_tail = length-drop (width (lower t)) (bits_of file) ∙ omega (arith, length_bits_of file)

    file_of_bits : (v : Value t) → Valid t v → frame p t v ≡ own → any (drop (width (lower t)) (bits_of file)) ≡ false → file ≡ frame_file p t v
    unfolding frame_file
    file_of_bits v h e c =
        let m : length (frame p t v) ≡ width (lower t) = length_frame t v h in
        filled_is (frame p t v) file b (n ∙ ap bytes_for (sym m))
        (sym (take-append-drop (width (lower t)) (bits_of file))
        ∙ ap₂ ◌++◌ (sym e) (zeros_any (drop (width (lower t)) (bits_of file)) c ∙ ap zeros (length_tail ∙ ap (λ k. 8 * bytes_for k - k) (sym m))))

    accepted : any (padding p (lower t) own ++ drop (width (lower t)) (bits_of file)) ≡ false → Framing t file
    unfolding unframe
    accepted c =
        let (x, y) = any_append (padding p (lower t) own) (drop (width (lower t)) (bits_of file)) c in
        let r = reconstructs_shape t l (from_bits p (lower t) own) (from_bits_belongs p (lower t) own length_own) in
        let e = frame_of_bits r.value x r.back in
        whole c r.value r.valid (file_of_bits r.value r.valid e y) (rw (eq-eqb (length file) (bytes_for (width (lower t))) n, c, r.reads))

    strayed : any (padding p (lower t) own ++ drop (width (lower t)) (bits_of file)) ≡ true → unframe p t file ≡ refused stray_bit
    unfolding unframe
    strayed c = rw (eq-eqb (length file) (bytes_for (width (lower t))) n, c)

    right_length : Framing t file
    right_length = go (any (padding p (lower t) own ++ drop (width (lower t)) (bits_of file))) refl
      where
        go : (x : Bool) → any (padding p (lower t) own ++ drop (width (lower t)) (bits_of file)) ≡ x → Framing t file
        go true c = stray n c (λ v h e. refused_done stray_bit v (sym (strayed c) ∙ ap (unframe p t) e ∙ frame_read_written t v h)) (strayed c)
        go false c = accepted c

  wrong_length : (t : Ty) (file : List ℕ) → eqb (length file) (bytes_for (width (lower t))) ≡ false → unframe p t file ≡ refused frame_length
  unfolding unframe
  wrong_length t file e = rw e

  pub framing : (t : Ty) → Lowers t → (file : List ℕ) → Bytes file → Framing t file
  framing t l file b = go (eqb (length file) (bytes_for (width (lower t)))) refl
    where
      go : (x : Bool) → eqb (length file) (bytes_for (width (lower t))) ≡ x → Framing t file
      go true e = right_length t l file b (eqb-true (length file) (bytes_for (width (lower t))) e)
      go false e = other_length (eqb-false (length file) (bytes_for (width (lower t))) e) (wrong_length t file e)

  -- what is read is exactly what the writer makes
  pub frame_written_read : (t : Ty) → Lowers t → (file : List ℕ) (v : Value t) → Bytes file → unframe p t file ≡ done v → Valid t v × (file ≡ frame_file p t v)
  frame_written_read t l file v b h = go (framing t l file b)
    where
      go : Framing t file → Valid t v × (file ≡ frame_file p t v)
      go (other_length n e) = absurd (refused_done frame_length v (sym e ∙ h))
      go (stray n c k e) = absurd (refused_done stray_bit v (sym e ∙ h))
      go (whole c w k f e) = let q : w ≡ v = done_injective w v (sym e ∙ h) in rw (← q) (k, f)
