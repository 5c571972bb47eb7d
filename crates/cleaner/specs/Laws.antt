-- What `make` knows at its two answers. A buffer of 65,536 bytes has room for every cleaned shape, so it is never 17.
use Rattle.std.specs.Prelude.{◌≡◌, refl, true, false, List, ℕ, ◌≤◌, length, take, drop, Result, Ok, Err}
use Rattle.std.proofs.Common.{sym, ap, ◌∙◌, arith, length-append}
use Rattle.model.specs.Outcome.{done, refused}
use Rattle.model.specs.Operations.{cleaned_shape, delivered}
use Rattle.model.specs.Calls.{CleanShape}
use Rattle.model.proofs.Laws.Cleaning.{cleaned_short}
use Rattle.model.proofs.Laws.Delivered.{Answer, parts, delivers, Told, gave, withheld, denied, told, accepted}
use Rattle.model.proofs.Laws.Numbered.{never_zero, cleaned_row}
use Rattle.reply.specs.declared.Refusal.{Refusal}
use Rattle.reply.specs.Numbers.{refusal_number, number_of, length_of}
use Rattle.structural.specs.Writing.{Wrote}
use Rattle.text.specs.Lines.{refusal_line}
use Rattle.text.proofs.Laws.Refusals.{number_range, refusal_room}
use Rattle.text.proofs.Laws.Written.{cut_out, wrote_counts}
use Rattle.io.specs.Counts.{IsPrefixLen}
use Rattle.cleaner.specs.Gives.{given}

module _ (ty shape out left : List ℕ) (r : Result ℕ Refusal) (room : 65536 ≤ length out) (h : CleanShape ty shape out (number_of r) (length_of r) left) where
  -- THE CLEANED SHAPE

  module _ (n : ℕ) (e : r ≡ Ok n) where
    call : CleanShape ty shape out 0 n left
    call = ap (λ (x : Result ℕ Refusal). (number_of x, length_of x, left)) (sym e) ∙ h

    cleans : cleaned_shape ty shape ≡ done (take n left)
    cleans = accepted (cleaned_shape ty shape) out (never_zero (cleaned_row ty shape) refl) n left call

    pub made_shape : (true, take n left) ≡ given (cleaned_shape ty shape)
    made_shape = rw cleans refl

    pub shape_counts : IsPrefixLen n left
    shape_counts =
        let l = cleaned_short ty shape (take n left) cleans in
        let (_, c, b) = parts _ _ (call ∙ delivers (cleaned_shape ty shape) (take n left) out cleans (omega arith)) in
        (omega (arith, ap length b, length-append (take n left) (drop (length (take n left)) out)), c)

  -- THE LINE

  module _ (x : Refusal) (e : r ≡ Err x) where
    answer : ◌≡◌ {A = Answer} (refusal_number x, 0, left) (delivered (cleaned_shape ty shape) out)
    answer = ap (λ (y : Result ℕ Refusal). (number_of y, length_of y, left)) (sym e) ∙ h

    refusal : (cleaned_shape ty shape ≡ refused (refusal_number x)) × (left ≡ out)
    refusal = go (told (cleaned_shape ty shape) out (refusal_number x) 0 left answer)
      where
        go : Told (cleaned_shape ty shape) out (refusal_number x) 0 left → (cleaned_shape ty shape ≡ refused (refusal_number x)) × (left ≡ out)
        go (gave file e l (z, _, _)) = absurd (omega (arith, (number_range x).0))
        go (withheld file e l _) = absurd (omega (arith, cleaned_short ty shape file e))
        go (denied m e (z, _, b)) = (e ∙ ap refused (sym z), b)

    pub line_room : 12 ≤ length left
    line_room = rw refusal.1 (omega arith)

    module _ (after : List ℕ) (n : ℕ) (w : Wrote (refusal_line (refusal_number x)) left after n) where
      pub made_line : (false, take n after) ≡ given (cleaned_shape ty shape)
      made_line = rw (refusal.0, cut_out w) refl

      pub line_counts : IsPrefixLen n after
      line_counts = wrote_counts (omega (arith, refusal_room x, line_room)) w
