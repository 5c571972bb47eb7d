-- What a reader answers, by the record that stands at a place: in the form in which the code's needs ask it.
use Rattle.std.specs.Prelude.{◌≡◌, refl, List, ℕ, ◌+◌, ◌-◌, ◌^◌, ◌≤◌, ◌<◌, length, get_or, drop, Option, Some, None}
use Rattle.std.proofs.Math.Path.{sym, ap}
use Rattle.std.proofs.Common.{◌∙◌, arith, Fits}
use Rattle.std.specs.Int.{w64}
use Rattle.array.specs.Ends.{tree_end_of}
use Rattle.array.specs.Laws.{tree_end_at}
use Rattle.types.specs.declared.forms.Parts.{Parts}
use Rattle.types.specs.declared.forms.Parts.TheVariants.{Copies, Types}
use Rattle.rebuild.specs.declared.Read.{Read}
use Rattle.rebuild.specs.Places.{closed, side, both, passed, units, sums, pairs, passes}
use Rattle.rebuild.specs.Reads.{Reader, read_to, plus, next, counts}
use Rattle.rebuild.specs.Forms.{most_records, Few, count_of, surplus_of, skip, Hopped}
use Rattle.told.specs.Forms.{hops, Hops}
use Rattle.rebuild.specs.Laws.Taken.{UnitTaken, is_unit, no_unit, unit_taken, SumTaken, is_left, is_right, no_sum, sum_taken, PairTaken, is_pair, no_pair, pair_taken}
use Rattle.rebuild.specs.Laws.Small.{in_file}

module _ (n i : ℕ) (r : Option Read) (x : Read) (h : r ≡ Some x) where
  pub plus_of : read_to x.next (n + x.records) (i + x.surplus) ≡ plus n i r
  plus_of = sym (ap (plus n i) h)

  pub plus_fits : n ≤ most_records → Few (count_of r) (surplus_of r) → Fits w64 (n + x.records)
  plus_fits l m = let c : count_of r ≡ x.records = ap count_of h in let b = m.records in omega arith

  pub surplus_fits : i ≤ most_records → Few (count_of r) (surplus_of r) → Fits w64 (i + x.surplus)
  surplus_fits l m = let c : surplus_of r ≡ x.surplus = ap surplus_of h in let b = m.surplus in omega arith

pub plus_not : (n i : ℕ) (r : Option Read) → r ≡ None → None ≡ plus n i r
plus_not n i r h = sym (ap (plus n i) h)

-- a record of the value's own, which is no surplus
pub few_one : 1 ≤ most_records
few_one = omega arith

pub few_none : 0 ≤ most_records
few_none = omega arith

module _ (s : List ℕ) (p : ℕ) where
  pub any_at : (o : Option ℕ) (e : ℕ) → o ≡ tree_end_of s p → o ≡ Some e → read_to e 0 (e - (p + 1)) ≡ passes counts s p
  unfolding passes counts
  any_at o e h k = ap (passed counts p) (sym k ∙ h)

  -- a tree has a record
  pub any_after : (o : Option ℕ) (e : ℕ) → o ≡ tree_end_of s p → o ≡ Some e → p + 1 ≤ e
  any_after o e h k = let t = tree_end_at (length (drop p s)) s p e (omega arith) (sym h ∙ k) in let a = t.after in omega arith

  pub any_next : (o : Option ℕ) (e : ℕ) → o ≡ tree_end_of s p → o ≡ Some e → e < 2 ^ 64 → Fits w64 (p + 1)
  any_next o e h k l = omega (arith, any_after o e h k)

  pub any_nothing : (o : Option ℕ) → o ≡ tree_end_of s p → o ≡ None → None ≡ passes counts s p
  unfolding passes counts
  any_nothing o h k = ap (passed counts p) (sym k ∙ h)

  module _ (b : ℕ) (h : b ≡ get_or s p 4) (l : length s < 2 ^ 64) where
    pub unit_fits : b ≡ 0 → Fits w64 (p + 1)
    unit_fits e = omega (arith, in_file s p b (sym h) (omega arith))

    pub left_fits : b ≡ 1 → Fits w64 (p + 1)
    left_fits e = omega (arith, in_file s p b (sym h) (omega arith))

    pub right_fits : b ≡ 2 → Fits w64 (p + 1)
    right_fits e = omega (arith, in_file s p b (sym h) (omega arith))

    pub pair_fits : b ≡ 3 → Fits w64 (p + 1)
    pair_fits e = omega (arith, in_file s p b (sym h) (omega arith))

  module _ (b : ℕ) (h : b ≡ get_or s p 4) where
    pub unit_yes : b ≡ 0 → read_to (p + 1) 0 0 ≡ units counts s p
    unfolding units counts
    unit_yes e = ap (λ x. closed counts x (p + 1)) (sym e ∙ h)

    pub unit_no : (b ≡ 0 → ⊥) → None ≡ units counts s p
    unfolding counts
    unit_no e = go (unit_taken counts s p)
      where
        go : UnitTaken counts s p → None ≡ units counts s p
        go (is_unit f k) = absurd (e (h ∙ f))
        go (no_unit f k) = sym k

    pub sum_left : (l r : Reader) (x : Option Read) → b ≡ 1 → x ≡ l (p + 1) → x ≡ sums counts s l r p
    unfolding sums counts
    sum_left l r x e f = f ∙ ap (λ y. side counts y l r (p + 1)) (sym e ∙ h)

    pub sum_right : (l r : Reader) (x : Option Read) → b ≡ 2 → x ≡ r (p + 1) → x ≡ sums counts s l r p
    unfolding sums counts
    sum_right l r x e f = f ∙ ap (λ y. side counts y l r (p + 1)) (sym e ∙ h)

    pub sum_no : (l r : Reader) → (b ≡ 1 → ⊥) → (b ≡ 2 → ⊥) → None ≡ sums counts s l r p
    unfolding counts
    sum_no l r e f = go (sum_taken counts s p l r)
      where
        go : SumTaken counts s p l r → None ≡ sums counts s l r p
        go (is_left g k) = absurd (e (h ∙ g))
        go (is_right g k) = absurd (f (h ∙ g))
        go (no_sum g i k) = sym k

    pub pair_no : (l r : Reader) → (b ≡ 3 → ⊥) → None ≡ pairs counts s l r p
    unfolding counts
    pair_no l r e = go (pair_taken counts s p l r)
      where
        go : PairTaken counts s p l r → None ≡ pairs counts s l r p
        go (is_pair g k) = absurd (e (h ∙ g))
        go (no_pair g k) = sym k

    pub pair_stop : (l r : Reader) → b ≡ 3 → None ≡ l (p + 1) → None ≡ pairs counts s l r p
    unfolding pairs counts
    pair_stop l r e f = ap (λ y. next y r) f ∙ ap (λ y. both counts y l r (p + 1)) (sym e ∙ h)

    pub pair_on : (l r : Reader) (x : Read) (y z : Option Read) → b ≡ 3 → Some x ≡ l (p + 1) → y ≡ r x.next → z ≡ plus x.records x.surplus y → z ≡ pairs counts s l r p
    unfolding pairs counts
    pair_on l r x y z e f i j = j ∙ ap (plus x.records x.surplus) i ∙ ap (λ o. next o r) f ∙ ap (λ o. both counts o l r (p + 1)) (sym e ∙ h)

-- PLACES IN THE TYPE FILE

module _ (k : Parts) (E : List ℕ) (n p : ℕ) where
  pub types_hopped : Hopped k E n p → k ≡ Types → Hops E n p
  types_hopped h e = rw e at h

  pub skip_copies : k ≡ Copies → p ≡ skip k E n p
  skip_copies e = rw e refl

  pub skip_types : (q : ℕ) → k ≡ Types → q ≡ hops E n p → q ≡ skip k E n p
  skip_types q e h = rw e h
