-- What `seek` knows: the check of the value file tells the value, whose bits the writer puts in the front of the buffer.
use Rattle.std.specs.Prelude.{◌≡◌, true, false, List, ℕ, ◌/◌, length, take, Result, Ok, Err}
use Rattle.std.proofs.Common.{sym, ap, ◌∙◌, arith, take_at}
use Rattle.std.proofs.lemmas.Bool.{false≢true}
use Rattle.std.proofs.Math.Option.{some}
use Rattle.model.specs.Outcome.{done}
use Rattle.model.specs.Lowering.{lower}
use Rattle.model.specs.Values.{Value, inject}
use Rattle.model.specs.ValueFiles.{value_of}
use Rattle.model.specs.Frames.{after, width, frame}
use Rattle.model.proofs.Laws.Outcome.{refused_done}
use Rattle.model.proofs.Laws.FrameFiles.{length_frame}
use Rattle.reply.specs.declared.Refusal.{Refusal}
use Rattle.types.specs.Trees.{tree}
use Rattle.types.specs.Steps.{Given}
use Rattle.types.specs.Lows.{low}
use Rattle.structural.specs.Forms as structural
use Rattle.structural.proofs.Laws.Forms.{stands, standing_is}
use Rattle.bits.specs.Bits.{Inside, Wrote}
use Rattle.value.specs.Check.{file_answer}
use Rattle.told.specs.Forms as told
use Rattle.told.specs.Laws.Whole.{whole_told}
use Rattle.told.specs.Widths.{Wide}
use Rattle.frame.specs.Forms.{frame_at, Fitted, Framed}
use Rattle.frame.proofs.Laws.Told.{shape_fitted, shape_framed}
use Rattle.delivery.specs.Values.{value_refused, value_read, value_valid}
use Rattle.search.specs.Forms.{longest, Says}

module _ {d : ℕ} {s E : List ℕ} {p : ℕ} (g : Given d false s E p) where
  -- the lowered type that stands at the record
  pub type_there : structural.standing d s p ≡ lower (tree d s p)
  unfolding low
  type_there = standing_is g

  -- its bits fit in the longest frame
  pub seek_inside : {W : List ℕ} → Wide s E W → (buf : List ℕ) → length buf ≡ longest → Inside buf 0 (width (structural.standing d s p))
  seek_inside w buf l = let i = w.right d p (stands g) in let j = w.small d p (stands g) in (omega arith, omega arith)

  module _ (val : List ℕ) {c : Result (ℕ × ℕ) Refusal} (k : c ≡ file_answer (tree d s p) val) where
    pub seek_none : {x : Refusal} → c ≡ Err x → {buf : List ℕ} → Says (tree d s p) val buf false
    seek_none h = record { one = λ z. absurd (false≢true z); none_said = λ _ v e. refused_done _ v (sym (value_refused (tree d s p) val k h) ∙ e) }

    module _ {i size : ℕ} (h : c ≡ Ok (i, size)) where
      value : Value (tree d s p)
      value = (value_read (tree d s p) val k h).had

      value_is : value_of (tree d s p) val ≡ done value
      unfolding value
      value_is = (value_read (tree d s p) val k h).is

      -- it is told from the file's first record
      told_is : told.standing d s val p 0 ≡ some (inject (tree d s p) value, length val / 36)
      told_is = whole_told s E val value g value_is

      pub seek_fitted : {W : List ℕ} → Wide s E W → (buf : List ℕ) → length buf ≡ longest → Fitted (frame_at d s val p 0) buf 0
      seek_fitted w buf l = shape_fitted d s val p 0 (inject (tree d s p) value) (length val / 36) told_is (seek_inside w buf l)

      module _ {buf buf' : List ℕ} {next end : ℕ} (f : Framed (frame_at d s val p 0) buf 0 buf' next end) where
        wrote : Wrote buf 0 (frame after (tree d s p) value) buf'
        unfolding frame
        wrote = rw type_there at (shape_framed d s val p 0 (inject (tree d s p) value) (length val / 36) told_is f).1

        pub seek_said : Says (tree d s p) val buf' true
        seek_said = record {
          one = λ _. (value, value_is, ap (take (width (lower (tree d s p)))) wrote.bits ∙ take_at (frame after (tree d s p) value) _ (width (lower (tree d s p))) (length_frame after (tree d s p) value (value_valid (tree d s p) val value value_is)));
          none_said = λ z. absurd (false≢true (sym z));
        }
