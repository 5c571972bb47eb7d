-- Rows 8 and 9: what is told of a shape file is what the model's `shape_of` says of it.
use Rattle.std.specs.Prelude.{⊤, ◌≡◌, refl, List, ℕ, ◌<◌, ◌≤◌, length, Option, Some, Result, Ok, Err}
use Rattle.std.proofs.Common.{sym, ap, ◌∙◌, arith, lt-ltb}
use Rattle.array.specs.Ends.{tree_end_of}
use Rattle.array.specs.Laws.{whole_shape, no_shape}
use Rattle.reply.specs.declared.Refusal.TheVariants.{ShapeTooLong, NotOneTree}
use Rattle.reply.specs.Numbers.{refusal_number}
use Rattle.model.specs.Numbers.{most_shape_records}
use Rattle.model.specs.Outcome.{done, refused}
use Rattle.model.specs.Structural.{SValue}
use Rattle.model.specs.ShapeFiles.{shape_of}
use Rattle.reply.specs.declared.Refusal.{Refusal}

-- it says a shape, or is refused with the row's number
abbrev pub ShapeTold : List ℕ → Result ⊤ Refusal → Type 0
ShapeTold s (Ok tt) = (t : SValue) × (shape_of s ≡ done t)
ShapeTold s (Err x) = shape_of s ≡ refused (refusal_number x)

pub too_long : (s : List ℕ) → most_shape_records < length s → ShapeTold s (Err ShapeTooLong)
unfolding shape_of
too_long s h = rw (lt-ltb most_shape_records (length s) h) refl

module _ (s : List ℕ) (r : Option ℕ) (n : ℕ) (h : r ≡ tree_end_of s 0) (k : n ≡ length s) (l : n ≤ most_shape_records) where
  pub one_tree : r ≡ Some n → ShapeTold s (Ok tt)
  one_tree p = whole_shape s (omega arith) (sym h ∙ p ∙ ap Some k)

  pub not_one_tree : (r ≡ Some n → ⊥) → ShapeTold s (Err NotOneTree)
  not_one_tree f = no_shape s (omega arith) (λ z. f (h ∙ z ∙ ap Some (sym k)))
