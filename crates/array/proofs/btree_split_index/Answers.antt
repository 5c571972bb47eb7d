-- The library's power is the definition's: both are powers of two that are not below n, and half of neither is not below it.
use Rattle.std.specs.Prelude.{◌≡◌, ℕ, suc, zero, ◌/◌, ◌^◌, ◌≤◌, ◌<◌, max}
use Rattle.std.proofs.Common.{rules, ◌-◌, ap, ◌∙◌, arith}
use Rattle.std.proofs.Math.Nat.{two-pow-succ, pow-le-pow_right}
use Rattle.std.proofs.Math.Decide.{dec_le}
use Rattle.model.specs.Balanced.{next_power_of_two, btree_split_index}
use Rattle.array.specs.Lefts.{entry_split}
use Rattle.model.proofs.Laws.Balanced.{half_of}
use Rattle.array.proofs.btree_split_index.Goals as goal

-- the exponents of two powers keep their order
exponent_less : (i k : ℕ) → 2 ^ i < 2 ^ k → i < k
exponent_less i k h = go (dec_le k i)
  where
    go : Dec (k ≤ i) → i < k
    go (yes q) = let m = pow-le-pow_right {n = 2} (omega arith) {i = k} {j = i} q in absurd (omega arith)
    go (no q) = omega arith

same_power : (n k : ℕ) → 2 ≤ n → n ≤ 2 ^ k → 2 ^ k / 2 < max 1 n → 2 ^ k ≡ next_power_of_two n
same_power n zero h m l = absurd (omega arith)
same_power n (suc k) h m l =
    let r = half_of n h in
    let low : r.exponent < suc k = exponent_less r.exponent (suc k) (omega arith) in
    let high : k < suc r.exponent = exponent_less k (suc r.exponent) (omega (arith, two-pow-succ k, two-pow-succ r.exponent)) in
    let e : k ≡ r.exponent = omega arith in
    omega (arith, two-pow-succ k, ap (λ i. 2 ^ i) e)

pub returns-then-n-le-MOST_TABLED : goal.returns-then-n-le-MOST_TABLED
returns-then-n-le-MOST_TABLED c = entry_split c.left_sizes.ensures c.requires.0 c.if-n-le-MOST_TABLED.true

pub overflow_sub-result : goal.overflow_sub-result
overflow_sub-result c = let u = c.next_power_of_two.ensures.upper_bound in search (rules)

pub returns : goal.returns
unfolding btree_split_index
returns c =
    let (k, e) = c.next_power_of_two.ensures.power in
    ap (λ p. c.args.n - p / 2) (e ∙ same_power _ k c.requires.0 (rw (← e) c.next_power_of_two.ensures.lower_bound) (rw (← e) c.next_power_of_two.ensures.upper_bound))
