-- What stands at a place that holds a value: its lowered type, its shape, its records; and that each part of the value holds at its own place.
use Rattle.std.specs.Prelude.{◌≡◌, refl, Bool, false, List, ◌++◌, ℕ, ◌+◌, take, drop}
use Rattle.std.proofs.Common.{sym, subst, ◌∙◌, append_assoc, arith, length-append, take-append-drop, take_at, drop_at, drop-drop}
use Rattle.std.proofs.Math.Path.{ap, ap₂}
use Rattle.std.proofs.Math.Option.{some}
use Rattle.std.proofs.Math.ListN.{length}
use Rattle.model.specs.Options.{map_o, any}
use Rattle.model.specs.Bytes.{bits_of}
use Rattle.model.specs.Types.{Ty}
use Rattle.model.specs.Lowering.{lower}
use Rattle.model.specs.Values.{Value, Valid, inject}
use Rattle.model.specs.Reconstruct.{reconstruct}
use Rattle.model.specs.ValueFiles.{encode}
use Rattle.model.specs.Frames.{after, width, frame, frame_file, from_bits, padding}
use Rattle.model.specs.Parts.{Part}
use Rattle.model.proofs.Laws.Frames.{from_bits_bits, padding_bits}
use Rattle.model.proofs.Laws.FrameFiles.{length_frame, length_frame_file, bits_frame_file}
use Rattle.model.proofs.Laws.Shapes.{reconstruct_inject, inject_belongs}
use Rattle.model.proofs.Laws.Parts.{Lies}
use Rattle.types.specs.Trees.{tree}
use Rattle.types.specs.Lows.{low}
use Rattle.types.specs.Steps.{Given}
use Rattle.structural.specs.Forms.{Stands}
use Rattle.structural.specs.Forms as structural
use Rattle.structural.proofs.Laws.Forms.{stands, standing_is}
use Rattle.bits.specs.Bits.{Inside, bits_at}
use Rattle.told.specs.Widths.{Wide}
use Rattle.record.specs.Trees.{value_in, part}
use Rattle.record.specs.Laws.Products.{part_is}
use Rattle.accept.specs.Forms.{shape_at, stray_at, unless, seen}
use Rattle.unframe.specs.Forms as unframe
use Rattle.part.specs.Holds.{Holding}

-- the lowered type of the type at a record
lowered : {d : ℕ} {s E : List ℕ} {p : ℕ} → Given d false s E p → structural.standing d s p ≡ lower (tree d s p)
unfolding low
lowered g = standing_is g

-- what stands in the middle of a run begins behind its front
middle : (l : List Bool) (at w n : ℕ) (front mid back : List Bool) → take w (drop at l) ≡ front ++ mid ++ back → length mid ≡ n → take n (drop (at + length front) l) ≡ mid
middle l at w n front mid back e m =
    let behind = back ++ drop w (drop at l) in
    ap (take n) (sym (drop-drop (length front) at l)
    ∙ ap (drop (length front)) (sym (take-append-drop w (drop at l)) ∙ ap (λ x. x ++ drop w (drop at l)) e ∙ simp append_assoc)
    ∙ drop_at front (mid ++ behind) (length front) refl)
    ∙ take_at mid behind n m

module _ {d : ℕ} {s E : List ℕ} {p : ℕ} {fr : List ℕ} {bit : ℕ} {t : Ty} {v : Value t} (h : Holding d s E p fr bit t v) where
  pub holding_stands : Stands d s E p
  holding_stands = stands h.given

  -- the lowered type that stands there is the value's
  pub holding_type : structural.standing d s p ≡ lower t
  holding_type = lowered h.given ∙ ap lower h.same

  pub holding_inside : Inside fr bit (width (structural.standing d s p))
  holding_inside = subst (λ a. Inside fr bit (width a)) (sym holding_type) h.inside

  -- the frame says its shape
  holding_shape : shape_at (structural.standing d s p) fr bit ≡ inject t v
  unfolding shape_at frame
  holding_shape = ap (λ a. shape_at a fr bit) holding_type ∙ ap (from_bits after (lower t)) h.bits ∙ from_bits_bits after (inject_belongs t v h.valid)

  -- and no padding bit is 1
  no_stray : stray_at (structural.standing d s p) fr bit ≡ false
  unfolding stray_at frame
  no_stray = ap (λ a. stray_at a fr bit) holding_type ∙ ap (λ l. any (padding after (lower t) l)) h.bits ∙ padding_bits after (inject_belongs t v h.valid)

  -- its records are read
  pub holding_standing : unframe.standing d s p fr bit ≡ some (encode t v)
  unfolding unframe.standing value_in
  holding_standing =
      ap (part d s p) holding_shape ∙ part_is h.given (inject t v)
      ∙ ap (λ u. map_o (encode u) (reconstruct u (inject t v))) h.same ∙ ap (map_o (encode t)) (reconstruct_inject t v h.valid)

  -- and counted
  pub holding_seen : seen d s p fr bit ≡ some (length (encode t v))
  unfolding seen unframe.standing
  holding_seen = ap₂ (λ b o. unless b (map_o length o)) no_stray holding_standing

  -- a part of it holds where it begins
  pub part_holding : (c : Part (Value t)) → Lies after (Valid t) (frame after t) v c → {e q b : ℕ} → Given e false s E q → tree e s q ≡ c.type → b ≡ bit + length c.ahead → Holding e s E q fr b c.type c.value
  part_holding c l {e} {q} {b} g same begins = record { given = g; same = same; valid = l.valid; inside = inside; bits = bits }
    where
      own : List Bool
      own = frame after c.type c.value

      split : frame after t v ≡ c.ahead ++ own ++ l.stretch.back
      split = sym (ap (frame after t) l.same) ∙ l.stretch.splits c.value l.valid

      long : length own ≡ width (lower c.type)
      long = length_frame after c.type c.value l.valid

      whole : width (lower t) ≡ length c.ahead + width (lower c.type) + length l.stretch.back
      whole = sym (length_frame after t v h.valid) ∙ ap length split ∙ simp length-append (omega (arith, long))

      inside : Inside fr b (width (lower c.type))
      inside = let i = h.inside.0 in let j = h.inside.1 in (omega (arith, whole), omega (arith, whole))

      bits : bits_at fr b (width (lower c.type)) ≡ own
      bits = ap (λ k. bits_at fr k (width (lower c.type))) begins ∙ middle (bits_of fr) bit (width (lower t)) (width (lower c.type)) c.ahead own l.stretch.back (h.bits ∙ split) long

-- the whole value of a frame
pub whole_holding : {s E W fr : List ℕ} (v : Value (tree 32 s 0)) → Given 32 false s E 0 → Wide s E W → Valid (tree 32 s 0) v → fr ≡ frame_file after (tree 32 s 0) v → Holding 32 s E 0 fr 0 (tree 32 s 0) v
whole_holding {s} {E} {W} {fr} v g w o e = record { given = g; same = refl; valid = o; inside = inside; bits = bits }
  where
    t : Ty
    t = tree 32 s 0

    inside : Inside fr 0 (width (lower t))
    inside =
        let n = ap length e ∙ length_frame_file after t v o in
        let f = ap width (lowered g) in
        let i = w.right 32 0 (stands g) in
        let j = w.small 32 0 (stands g) in
        (omega arith, omega arith)

    bits : bits_at fr 0 (width (lower t)) ≡ frame after t v
    bits = ap (λ l. bits_at l 0 (width (lower t))) e ∙ ap (take (width (lower t))) (bits_frame_file after t v o) ∙ take_at (frame after t v) _ (width (lower t)) (length_frame after t v o)
