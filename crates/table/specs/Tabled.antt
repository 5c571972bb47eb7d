-- Rows 1 to 7 of a type file and its whole table, as walks are given them.
use Rattle.std.specs.Prelude.{◌≡◌, ⊤, List, Bool, true, false, ℕ, ◌≤◌, length, Result, Ok, Err}
use Rattle.std.proofs.Common.{sym, ap, subst, ◌∙◌, arith}
use Rattle.reply.specs.declared.Refusal.{Refusal}
use Rattle.model.specs.Numbers.{never_stands, too_large}
use Rattle.model.specs.Outcome.{done, refuse, ◌>>◌}
use Rattle.model.specs.Lowering.{has_never, over_large}
use Rattle.model.specs.Operations.{lowering}
use Rattle.types.specs.Table.{Ends, EndsIf, Checked, type_answer}
use Rattle.types.specs.Trees.{tree}
use Rattle.types.specs.Accepted.{few}
use Rattle.types.specs.Model.{outcome_of, type_of_is}
use Rattle.table.specs.Facts.{Measured}
use Rattle.table.specs.Measuring.{Measurable, Measures, verdict}

-- the table of a type file that lowers: each record's end, size and width
pub record Table (s E S W : List ℕ) (n : ℕ) : Type 0 where
  pub accepted : type_answer s ≡ Ok n
  pub ends : Ends s E
  pub measured : Measured s S W 0

abbrev pub TableIf : Result ℕ Refusal → List ℕ → List ℕ → List ℕ → List ℕ → Type 0
TableIf (Ok n) s E S W = Table s E S W n
TableIf (Err x) s E S W = Unit

-- the answer is that of the papers, and the table is there if it is accepted
pub record Tabled (s : List ℕ) (r : Result ℕ Refusal) (E S W : List ℕ) : Type 0 where
  pub answer : lowering s ≡ outcome_of r (tree 32 s 0)
  pub table : TableIf r s E S W

-- n, unless it is refused
abbrev and_then : Result ⊤ Refusal → ℕ → Result ℕ Refusal
and_then (Ok tt) n = Ok n
and_then (Err x) n = Err x

module _ {s E S W : List ℕ} {r : Result ℕ Refusal} where
  -- rows 1 to 5
  pub tabled_refused : (x : Refusal) → Checked s r E → r ≡ Err x → Tabled s (Err x) E S W
  unfolding lowering
  tabled_refused x c e = record { answer = rw (type_of_is s, ← c.answer, e); table = tt }

  pub measurable : (n : ℕ) → Checked s r E → r ≡ Ok n → 1024 ≤ length S → 1024 ≤ length W → Measurable s E S W n
  measurable n c e a b =
      let p : type_answer s ≡ Ok n = sym c.answer ∙ e in
      let l = few s n p in
      record { ends = subst (λ (x : Result ℕ Refusal). EndsIf x s E) e c.table; accepted = p; sizes = omega arith; widths = omega arith }

  module _ (n : ℕ) (a : Result ⊤ Refusal) (c : Checked s r E) (e : r ≡ Ok n) (m : Measures s a S W) where
    by_rows : lowering s ≡ (refuse never_stands (has_never (tree 32 s 0)) >> (refuse too_large (over_large (tree 32 s 0)) >> done (tree 32 s 0)))
    unfolding lowering
    by_rows = rw (type_of_is s, ← c.answer, e)

    told_of : (x y : Bool) → a ≡ verdict x y → (refuse never_stands x >> (refuse too_large y >> done (tree 32 s 0))) ≡ outcome_of (and_then a n) (tree 32 s 0)
    told_of true y h = rw h
    told_of false true h = rw h
    told_of false false h = rw h

    -- rows 6 and 7
    pub tabled_not : (x : Refusal) → a ≡ Err x → Tabled s (Err x) E S W
    tabled_not x h = record { answer = by_rows ∙ told_of _ _ m.answer ∙ ap (λ a. outcome_of (and_then a n) (tree 32 s 0)) h; table = tt }

    pub tabled : a ≡ Ok tt → Tabled s (Ok n) E S W
    tabled h = record {
      answer = by_rows ∙ told_of _ _ m.answer ∙ ap (λ a. outcome_of (and_then a n) (tree 32 s 0)) h;
      table = record { accepted = sym c.answer ∙ e; ends = subst (λ (x : Result ℕ Refusal). EndsIf x s E) e c.table; measured = m.measured };
    }
