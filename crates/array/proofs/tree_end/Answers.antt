use Rattle.std.specs.Prelude.{Option, Some, None}
use mathlib.Core.Path.{◌≡◌, refl, sym, ap, ◌∙◌}
use mathlib.Core.List.{List, ◌∷◌}
use Prim.Native.Nat.{ℕ, zero, suc, ◌+◌, ◌-◌, ◌≤◌, ◌<◌}
use native.Mathlib.Numerals.{add-one}
use native.Mathlib.Omega.{arith}
use lib.ListN.{length, drop, get_or, drop_of_length-le}
use lib.Seq.{drop-cons}
use Rattle.array.specs.Ends.{closes, tree_end_of}
use Rattle.array.proofs.tree_end.Invariants.{Closing}
use Rattle.array.proofs.tree_end.Goals.{then-record-eq-UNIT+else-due-eq0, else-record-eq-UNIT+then-record-eq-PAIR, else-record-eq-UNIT+else-record-eq-PAIR+else-record-gt-PAIR}
use Rattle.array.proofs.tree_end.Goals as goal

-- ONE RECORD
closes_unit : (b due : ℕ) (l : List ℕ) (i : ℕ) → b ≡ 0 → (due ≡ 0 → ⊥) → closes due (b ∷ l) i ≡ closes (due - 1) l (i + 1)
unfolding closes
closes_unit b zero l i e z = absurd (z refl)
closes_unit b (suc due) l i e z = rw (e, closes) (ap (λ d. closes d l (i + 1)) (omega arith))

closes_last : (b due : ℕ) (l : List ℕ) (i : ℕ) → b ≡ 0 → due ≡ 0 → closes due (b ∷ l) i ≡ Some (i + 1)
unfolding closes
closes_last b due l i e z = rw (e, z, closes)

closes_pair : (b due : ℕ) (l : List ℕ) (i : ℕ) → b ≡ 3 → closes due (b ∷ l) i ≡ closes (due + 1) l (i + 1)
unfolding closes
closes_pair b due l i e = rw (e, add-one due, closes)

closes_child : (b due : ℕ) (l : List ℕ) (i : ℕ) → (b ≡ 0 → ⊥) → (b ≡ 3 → ⊥) → b ≤ 3 → closes due (b ∷ l) i ≡ closes due l (i + 1)
unfolding closes
closes_child zero due l i x y h = absurd (x refl)
closes_child (suc zero) due l i x y h = refl
closes_child (suc (suc zero)) due l i x y h = refl
closes_child (suc (suc (suc zero))) due l i x y h = absurd (y refl)
closes_child (suc (suc (suc (suc b)))) due l i x y h = absurd (omega arith)

closes_above : (b due : ℕ) (l : List ℕ) (i : ℕ) → 3 < b → closes due (b ∷ l) i ≡ None
unfolding closes
closes_above zero due l i h = absurd (omega arith)
closes_above (suc zero) due l i h = absurd (omega arith)
closes_above (suc (suc zero)) due l i h = absurd (omega arith)
closes_above (suc (suc (suc zero))) due l i h = absurd (omega arith)
closes_above (suc (suc (suc (suc b)))) due l i h = refl

-- THE LOOP
closing_start : (s : List ℕ) (at : ℕ) → Closing s at 0 at
unfolding tree_end_of
closing_start s at = record { same = refl; few = omega arith }

closing_short : (s : List ℕ) (at due i : ℕ) → length s ≤ i → Closing s at due i → None ≡ tree_end_of s at
unfolding closes
closing_short s at due i h c = sym (c.same ∙ ap (λ l. closes due l i) (drop_of_length-le s h))

module _ (s : List ℕ) (at due i : ℕ) (h : i < length s) (c : Closing s at due i) where
  -- the record at i decides
  closing_answer : (r : Option ℕ) → closes due (get_or s i 0 ∷ drop (i + 1) s) i ≡ r → r ≡ tree_end_of s at
  closing_answer r e = sym (c.same ∙ ap (λ l. closes due l i) (drop-cons s i 0 h ∙ ap (λ k. get_or s i 0 ∷ drop k s) (sym (add-one i))) ∙ e)

  closing_next : (due' : ℕ) → closes due (get_or s i 0 ∷ drop (i + 1) s) i ≡ closes due' (drop (i + 1) s) (i + 1) → due' ≤ due + 1 → Closing s at due' (i + 1)
  closing_next due' e n = let f = c.few in record { same = sym (closing_answer _ e); few = omega arith }

pub loop-i-init : goal.loop-i-init
loop-i-init c = closing_start _ _

pub returns-then-record-gt-PAIR : goal.returns-then-record-gt-PAIR
returns-then-record-gt-PAIR c = closing_answer _ _ _ _ c.loop-i-test.true c.loop-i.invariant _ (closes_above _ _ _ _ c.if-record-gt-PAIR.true)

pub returns-then-due-eq0 : goal.returns-then-due-eq0
returns-then-due-eq0 c = closing_answer _ _ _ _ c.loop-i-test.true c.loop-i.invariant _ (closes_last _ _ _ _ c.if-record-eq-UNIT.true c.if-due-eq0.true)

pub loop-i-preserved : goal.loop-i-preserved
loop-i-preserved c =
    elim c.if-record-eq-UNIT.branch [
      | then-record-eq-UNIT+else-due-eq0 w ↦ rw w.due-is (closing_next _ _ _ _ c.loop-i-test.true c.loop-i.invariant _ (closes_unit _ _ _ _ w.if-record-eq-UNIT.true w.if-due-eq0.false) (omega arith))
      | else-record-eq-UNIT+then-record-eq-PAIR w ↦ rw w.due-is (closing_next _ _ _ _ c.loop-i-test.true c.loop-i.invariant _ (closes_pair _ _ _ _ w.if-record-eq-PAIR.true) (omega arith))
      | else-record-eq-UNIT+else-record-eq-PAIR+else-record-gt-PAIR w ↦ rw w.due-is (closing_next _ _ _ _ c.loop-i-test.true c.loop-i.invariant _ (closes_child _ _ _ _ w.if-record-eq-UNIT.false w.if-record-eq-PAIR.false w.if-record-gt-PAIR.false) (omega arith))
    ]

pub returns : goal.returns
returns c = closing_short _ _ _ _ c.loop-i-test.false c.loop-i.invariant
