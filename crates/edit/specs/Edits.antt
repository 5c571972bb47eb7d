-- What `edit_part` knows at each of its answers: the value and the part as `Opened` tells them, and the new value that the check of its file tells.
-- The new value's bits, written where the part begins, make the old frame the frame of the whole with the part replaced.
use Rattle.std.specs.Prelude.{◌≡◌, refl, List, ◌++◌, ℕ, ◌+◌, ◌/◌, ◌<◌, length, get_or, Result, Ok, Err}
use Rattle.std.proofs.Math.Path.{sym, ap, ap₂, subst}
use Rattle.std.proofs.Common.{◌∙◌}
use Rattle.std.proofs.Math.Option.{some}
use Rattle.std.proofs.Math.ListN.{take, drop}
use Rattle.model.specs.Outcome.{done, ◌>>=◌}
use Rattle.model.specs.Bytes.{bits_of}
use Rattle.model.specs.Types.{Ty}
use Rattle.model.specs.Values.{Value, Valid, inject}
use Rattle.model.specs.ValueFiles.{value_file, value_of}
use Rattle.model.specs.Frames.{after, bits, frame, frame_file}
use Rattle.model.specs.Paths.{replaced}
use Rattle.model.specs.Parts.{extent}
use Rattle.model.specs.Operations.{framed, edited}
use Rattle.model.proofs.Laws.Bytes.{bits_of_injective}
use Rattle.model.proofs.Laws.ValueFiles.{value_written_read}
use Rattle.model.proofs.Laws.FrameFiles.{length_frame, length_frame_file, bytes_frame_file}
use Rattle.model.proofs.Laws.Operations.{there, replaced_file, edited_bits, framed_is}
use Rattle.model.proofs.Laws.Demands.{edit_in_place}
use Rattle.reply.specs.declared.Refusal.{Refusal}
use Rattle.types.specs.Trees.{tree}
use Rattle.bits.specs.Bits.{Wrote}
use Rattle.bits.specs.Laws.Integers.{bytes_each}
use Rattle.value.specs.Check.{file_answer}
use Rattle.told.specs.Forms as told
use Rattle.told.specs.Laws.Whole.{whole_told}
use Rattle.frame.specs.Forms.{frame_at, Fitted, Framed}
use Rattle.frame.proofs.Laws.Told.{shape_fitted, shape_framed}
use Rattle.delivery.specs.Delivering.{Delivers, deliver_refusal}
use Rattle.delivery.specs.Values.{value_refused, value_read, value_valid}
use Rattle.part.specs.Laws.Holds.{holding_type, holding_inside}
use Rattle.edit.specs.Opened.{Opened, Arrived, lies, PartRefused, bad_frame, bad_path}

-- rows 11 to 14
pub edit_bad_part : {s E fr path : List ℕ} {x : Refusal} → PartRefused s E fr path x → (val : List ℕ) → Delivers (edited after s fr path val) fr fr (Err x)
unfolding edited
edit_bad_part {s} {E} {fr} {path} {x} (bad_frame e f) val = deliver_refusal (edited after s fr path val) fr x (rw (e, f) refl)
edit_bad_part {s} {E} {fr} {path} {x} (bad_path o f) val =
    deliver_refusal (edited after s fr path val) fr x (rw (o.lowers, o.reads) (f (λ f. value_of f.type val >>= λ v. framed after s (replaced f (value_file (tree 32 s 0) o.value) val))))

module _ {s E fr path : List ℕ} {o : Opened s E fr} {p d b : ℕ} (a : Arrived s E fr path o p d b) (val : List ℕ) {c : Result (ℕ × ℕ) Refusal} (k : c ≡ file_answer (tree d s p) val) where
  abbrev own : Ty
  own = a.place.type

  -- the check is of the part's type
  checked : c ≡ file_answer own val
  checked = k ∙ ap (λ t. file_answer t val) a.holding.same

  -- rows 15, 16, 21 and 22
  pub edit_bad_value : {x : Refusal} → c ≡ Err x → Delivers (edited after s fr path val) fr fr (Err x)
  unfolding edited
  edit_bad_value {x} h = deliver_refusal (edited after s fr path val) fr x (rw (o.lowers, o.reads, a.even, a.stands.leads, value_refused own val checked h) refl)

  module _ {i size : ℕ} (h : c ≡ Ok (i, size)) where
    -- the value that the file says
    value : Value own
    value = (value_read own val checked h).had

    value_is : value_of own val ≡ done value
    unfolding value
    value_is = (value_read own val checked h).is

    -- it is told from the file's first record
    told_is : told.standing d s val p 0 ≡ some (inject own value, length val / 36)
    told_is = subst (λ t. (x : Value t) → value_of t val ≡ done x → told.standing d s val p 0 ≡ some (inject t x, length val / 36)) a.holding.same (λ x q. whole_told s E val x a.holding.given q) value value_is

    pub edit_fitted : Fitted (frame_at d s val p 0) fr b
    edit_fitted = shape_fitted d s val p 0 (inject own value) (length val / 36) told_is (holding_inside a.holding)

    module _ (sb : (i : ℕ) → get_or s i 0 < 256) (vb : (i : ℕ) → get_or val i 0 < 256) (fb : (i : ℕ) → get_or fr i 0 < 256) where
      valid : Valid own value
      valid = value_valid own val value value_is

      -- the whole with the part replaced
      new : Value (tree 32 s 0)
      new = a.place.put value

      new_valid : Valid (tree 32 s 0) new
      unfolding new
      new_valid = (lies a).puts value valid

      abbrev result : List ℕ
      result = frame_file after (tree 32 s 0) new

      edited_is : edited after s fr path val ≡ done result
      unfolding edited new
      edited_is =
          let t = tree 32 s 0 in
          let f : val ≡ value_file own value = (value_written_read own val value (bytes_each val vb) value_is).1 in
          let e = ap (replaced (there after t o.value a.place (lies a) _ a.stands) (value_file t o.value)) f ∙ replaced_file after t o.value a.place (lies a) _ a.stands value in
          rw (o.lowers, o.reads, a.even, a.stands.leads, value_is) (ap (framed after s) e ∙ framed_is after s t o.lowers o.known new new_valid)

      module _ {fr' : List ℕ} {next end : ℕ} (f : Framed (frame_at d s val p 0) fr b fr' next end) (nb : (i : ℕ) → get_or fr' i 0 < 256) where
        wrote : Wrote fr b (frame after own value) fr'
        unfolding frame
        wrote = subst (λ t. Wrote fr b (bits after t (inject own value)) fr') (holding_type a.holding) (shape_framed d s val p 0 (inject own value) (length val / 36) told_is f).1

        same_bits : bits_of fr' ≡ bits_of result
        unfolding new
        same_bits =
            let F = frame after own value in
            wrote.bits
            ∙ ap₂ (λ m n. take m (bits_of fr) ++ F ++ drop (m + n) (bits_of fr)) a.begins (length_frame after own value valid)
            ∙ ap (λ l. take (length a.place.ahead) (bits_of l) ++ F ++ drop (length a.place.ahead + extent a.place) (bits_of l)) o.same
            ∙ sym (edited_bits after (tree 32 s 0) o.value a.picks a.place o.valid a.leads value valid)

        same_length : length fr' ≡ length result
        same_length = wrote.same ∙ ap length o.same ∙ length_frame_file after (tree 32 s 0) o.value o.valid ∙ sym (length_frame_file after (tree 32 s 0) new new_valid)

        result_is : edited after s fr path val ≡ done fr'
        result_is = edited_is ∙ ap done (sym (bits_of_injective fr' result (bytes_each fr' nb) (bytes_frame_file after (tree 32 s 0) new) same_length same_bits))

        pub edit_done : Delivers (edited after s fr path val) fr fr' (Ok (length fr'))
        edit_done = ap (λ n. (0, n, fr')) wrote.same ∙ sym (edit_in_place after s fr path val (bytes_each s sb) (bytes_each fr fb) (bytes_each val vb) fr' result_is)
