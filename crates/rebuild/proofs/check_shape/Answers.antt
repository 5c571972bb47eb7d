-- The two tests are rows 8 and 9. Assumes nothing.
use Rattle.std.specs.Prelude.{◌≡◌, refl, true, false, ℕ, Option, Some, None}
use Rattle.std.specs.Option.{option_eq}
use Rattle.std.proofs.Common.{sym, ◌∙◌, arith}
use mathlib.Core.Bool.{not}
use lib.Dec.{eqb}
use borrow.Author.Rules.{rules}
use Rattle.rebuild.specs.ShapeRows.{too_long, one_tree, not_one_tree}
use Rattle.rebuild.proofs.check_shape.Goals as goal

pub returns-then-n-gt-RECORDS : goal.returns-then-n-gt-RECORDS
returns-then-n-gt-RECORDS c = search (too_long, rules)

-- whether a place is n
is_place : (o : Option ℕ) (n : ℕ) → not (option_eq eqb o (Some n)) ≡ false → o ≡ Some n
is_place None n e = cc
is_place (Some m) n e = grind arith

is_no_place : (o : Option ℕ) (n : ℕ) → not (option_eq eqb o (Some n)) ≡ true → o ≡ Some n → ⊥
is_no_place None n e = λ z. cc
is_no_place (Some m) n e = grind arith

pub returns-then-ne : goal.returns-then-ne
returns-then-ne c = not_one_tree _ _ _ c.tree_end.ensures refl c.if-n-gt-RECORDS.false (is_no_place _ _ (sym c.ne.ensures ∙ c.if-ne.true))

pub returns : goal.returns
returns c = one_tree _ _ _ c.tree_end.ensures refl c.if-n-gt-RECORDS.false (is_place _ _ (sym c.ne.ensures ∙ c.if-ne.false))
