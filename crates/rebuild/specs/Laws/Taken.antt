-- Which records a reader over places takes, whatever it answers: a unit, a left or a right, a pair.
use Rattle.std.specs.Prelude.{◌≡◌, List}
use Rattle.std.proofs.Math.Path.{refl}
use Prim.Native.Nat.{ℕ, zero, suc, ◌+◌}
use Rattle.std.proofs.Common.{arith}
use Rattle.std.proofs.Math.ListN.{get_or}
use Rattle.rebuild.specs.Places.{Answers, units, sums, pairs}

module _ {R : Type 0} (A : Answers R) (s : List ℕ) (p : ℕ) where
  pub data UnitTaken : Type 0 where
    is_unit : get_or s p 4 ≡ 0 → units A s p ≡ A.unit (p + 1) → UnitTaken
    no_unit : (get_or s p 4 ≡ 0 → ⊥) → units A s p ≡ A.nothing → UnitTaken

  pub unit_taken : UnitTaken
  unfolding units
  unit_taken = go (get_or s p 4) refl
    where
      go : (b : ℕ) → get_or s p 4 ≡ b → UnitTaken
      go zero e = is_unit e (rw e refl)
      go (suc b) e = no_unit (λ h. omega arith) (rw e refl)

  module _ (l r : ℕ → R) where
    pub data SumTaken : Type 0 where
      is_left : get_or s p 4 ≡ 1 → sums A s l r p ≡ A.lefts (l (p + 1)) → SumTaken
      is_right : get_or s p 4 ≡ 2 → sums A s l r p ≡ A.rights (r (p + 1)) → SumTaken
      no_sum : (get_or s p 4 ≡ 1 → ⊥) → (get_or s p 4 ≡ 2 → ⊥) → sums A s l r p ≡ A.nothing → SumTaken

    pub sum_taken : SumTaken
    unfolding sums
    sum_taken = go (get_or s p 4) refl
      where
        go : (b : ℕ) → get_or s p 4 ≡ b → SumTaken
        go zero e = no_sum (λ h. omega arith) (λ h. omega arith) (rw e refl)
        go (suc zero) e = is_left e (rw e refl)
        go (suc (suc zero)) e = is_right e (rw e refl)
        go (suc (suc (suc b))) e = no_sum (λ h. omega arith) (λ h. omega arith) (rw e refl)

    pub data PairTaken : Type 0 where
      is_pair : get_or s p 4 ≡ 3 → pairs A s l r p ≡ A.pairs (l (p + 1)) r → PairTaken
      no_pair : (get_or s p 4 ≡ 3 → ⊥) → pairs A s l r p ≡ A.nothing → PairTaken

    pub pair_taken : PairTaken
    unfolding pairs
    pair_taken = go (get_or s p 4) refl
      where
        go : (b : ℕ) → get_or s p 4 ≡ b → PairTaken
        go zero e = no_pair (λ h. omega arith) (rw e refl)
        go (suc zero) e = no_pair (λ h. omega arith) (rw e refl)
        go (suc (suc zero)) e = no_pair (λ h. omega arith) (rw e refl)
        go (suc (suc (suc zero))) e = is_pair e (rw e refl)
        go (suc (suc (suc (suc b)))) e = no_pair (λ h. omega arith) (rw e refl)
