-- The table of left sizes for 0 to 1,024 parts: what it has to be, computed entry by entry, and what that tells of each entry.
use Rattle.std.specs.Prelude.{◌≡◌, refl, List, [], ◌∷◌, ℕ, zero, suc, ◌+◌, ◌^◌, ◌≤◌, ◌<◌, get_or}
use Rattle.std.proofs.Common.{ap, sym, ◌∙◌, add-zero, zero-add, add-suc, suc-add, le_of_suc-le-suc, not-suc-le-zero, arith}
use Rattle.model.specs.Balanced.{btree_split_index}
use Rattle.model.proofs.Laws.Balanced.{split_bounds}

-- the left size of a tree of n parts, 0 for none and for one
unfoldable pub left_size : ℕ → ℕ
left_size zero = 0
left_size (suc zero) = 0
left_size (suc (suc n)) = btree_split_index (suc (suc n))

-- from 2 on it is the formula
left_size_from_two : (n : ℕ) → 2 ≤ n → left_size n ≡ btree_split_index n
unfolding left_size
left_size_from_two zero h = absurd (omega arith)
left_size_from_two (suc zero) h = absurd (omega arith)
left_size_from_two (suc (suc n)) h = refl

-- it is not above n
left_size_most : (n : ℕ) → left_size n ≤ n
unfolding left_size
left_size_most zero = omega arith
left_size_most (suc zero) = omega arith
left_size_most (suc (suc n)) = let b = split_bounds (suc (suc n)) (omega arith) in omega arith

-- the left sizes of the n trees from i parts on
unfoldable pub lefts : ℕ → ℕ → List ℕ
lefts zero i = []
lefts (suc n) i = left_size i ∷ lefts n (suc i)

-- the table: the left sizes for 0 to 1,024 parts
unfoldable pub left_sizes : List ℕ
left_sizes = lefts 1025 0

lefts_entry : (n i k : ℕ) → k < n → get_or (lefts n i) k 0 ≡ left_size (i + k)
unfolding lefts
lefts_entry zero i k h = absurd (not-suc-le-zero h)
lefts_entry (suc n) i zero h = ap left_size (sym (add-zero i))
lefts_entry (suc n) i (suc k) h = lefts_entry n (suc i) k (le_of_suc-le-suc h) ∙ ap left_size (suc-add i k ∙ sym (add-suc i k))

-- each entry is the left size
left_sizes_entry : (n : ℕ) → n ≤ 1024 → get_or left_sizes n 0 ≡ left_size n
unfolding left_sizes
left_sizes_entry n h = lefts_entry 1025 0 n (omega arith) ∙ ap left_size (zero-add n)

-- an entry of the table from 2 on is the formula
pub entry_split : {l : List ℕ} {n : ℕ} → l ≡ left_sizes → 2 ≤ n → n ≤ 1024 → get_or l n 0 ≡ btree_split_index n
entry_split {l} {n} e two most = ap (λ k. get_or k n 0) e ∙ left_sizes_entry n most ∙ left_size_from_two n two

-- no entry is above the number of entries
lefts_small : (n i k : ℕ) → get_or (lefts n i) k 0 ≤ i + n
unfolding lefts
lefts_small zero i k = omega arith
lefts_small (suc n) i zero = omega (arith, left_size_most i)
lefts_small (suc n) i (suc k) = omega (arith, lefts_small n (suc i) k)

-- so that each fits
pub entry_fits : (n : ℕ) {l : List ℕ} → l ≡ left_sizes → get_or l n 0 < 2 ^ 64
unfolding left_sizes
entry_fits n e = let w = ap (λ k. get_or k n 0) e in omega (arith, lefts_small 1025 0 n)
