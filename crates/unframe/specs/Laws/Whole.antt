-- What the whole frame says: where it is the frame of a value, all of it lies inside the file, and the records that stand there are the value's own.
use Rattle.std.specs.Prelude.{◌≡◌, false, not, List, ℕ, ◌≤◌, eqb, length, take}
use Rattle.std.proofs.Common.{sym, ◌∙◌, arith, eqb-true}
use Rattle.std.proofs.Math.Path.{ap, subst}
use Rattle.std.proofs.Math.Option.{some, some-injective}
use Rattle.std.proofs.lemmas.Bool.{not-false}
use Rattle.model.specs.Numbers.{frame_length, stray_bit}
use Rattle.model.specs.Outcome.{done}
use Rattle.model.specs.Options.{map_o, any}
use Rattle.model.specs.Bytes.{bits_of}
use Rattle.model.specs.Types.{Ty}
use Rattle.model.specs.Lowering.{lower}
use Rattle.model.specs.Values.{Value}
use Rattle.model.specs.Reconstruct.{reconstruct}
use Rattle.model.specs.ValueFiles.{encode, value_file}
use Rattle.model.specs.Frames.{width, frame_bytes, from_bits, stray_bits, unframe}
use Rattle.model.proofs.Laws.Outcome.{refuse_step, or_refuse_done}
use Rattle.types.specs.Trees.{tree}
use Rattle.types.specs.Steps.{Given}
use Rattle.types.specs.Lows.{low}
use Rattle.structural.specs.Forms as structural
use Rattle.structural.proofs.Laws.Forms.{stands, standing_is}
use Rattle.structural.specs.Writing.{Wrote}
use Rattle.bits.specs.Bits.{Inside}
use Rattle.record.specs.Marks.{written}
use Rattle.record.specs.Trees.{value_in, part}
use Rattle.record.specs.Laws.Products.{part_is}
use Rattle.accept.specs.Forms.{place, shape_at}
use Rattle.told.specs.Widths.{Wide}
use Rattle.unframe.specs.Forms.{standing, Ready, Placed}

-- the file has the frame's length, and of the shape that it says the value is made
pub read : (t : Ty) (fr : List ℕ) (v : Value t) → unframe place t fr ≡ done v → (length fr ≡ frame_bytes t) × (reconstruct t (from_bits place (lower t) (take (width (lower t)) (bits_of fr))) ≡ some v)
unfolding unframe
read t fr v h =
    let (e, k) = refuse_step frame_length (not (eqb (length fr) (frame_bytes t))) _ v h in
    let (f, l) = refuse_step stray_bit (any (stray_bits place t fr)) _ v k in
    (eqb-true (length fr) (frame_bytes t) (not-false (eqb (length fr) (frame_bytes t)) e), or_refuse_done stray_bit _ v l)

module _ (s E : List ℕ) (fr : List ℕ) (v : Value (tree 32 s 0)) (g : Given 32 false s E 0) (h : unframe place (tree 32 s 0) fr ≡ done v) where
  lowered : structural.standing 32 s 0 ≡ lower (tree 32 s 0)
  unfolding low
  lowered = standing_is g

  -- the records that stand there
  whole_standing : standing 32 s 0 fr 0 ≡ some (encode (tree 32 s 0) v)
  unfolding standing shape_at value_in
  whole_standing =
      ap (λ a. part 32 s 0 (shape_at a fr 0)) lowered
      ∙ part_is g (shape_at (lower (tree 32 s 0)) fr 0)
      ∙ ap (map_o (encode (tree 32 s 0))) (read (tree 32 s 0) fr v h).1

  -- the bits lie inside the file
  pub whole_inside : {W : List ℕ} → Wide s E W → Inside fr 0 (width (structural.standing 32 s 0))
  whole_inside w =
      let e = (read (tree 32 s 0) fr v h).0 in
      let f = ap width lowered in
      let i = w.right 32 0 (stands g) in
      let j = w.small 32 0 (stands g) in
      (omega arith, omega arith)

  -- a buffer that has room for the value file is ready
  pub whole_ready : {out : List ℕ} → length (value_file (tree 32 s 0) v) ≤ length out → Ready (standing 32 s 0 fr 0) out
  unfolding value_file written
  whole_ready l = record { recs = encode (tree 32 s 0) v; there = whole_standing; room = l }

  -- and what was written is the value file
  pub whole_placed : {before after : List ℕ} {r : ℕ} → Placed (standing 32 s 0 fr 0) before after r → Wrote (value_file (tree 32 s 0) v) before after r
  unfolding value_file written
  whole_placed {before} {after} {r} p = subst (λ rs. Wrote (written rs) before after r) (some-injective _ _ (sym p.there ∙ whole_standing)) p.wrote
