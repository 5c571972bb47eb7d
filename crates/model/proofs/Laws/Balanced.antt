-- Laws of balanced trees: the split is proper, a tree of n parts has n leaves, and it forks as the Rust's does.
use Rattle.std.specs.Prelude.{◌≡◌, refl, List, ◌++◌, Bool, true, false, ℕ, zero, suc, ◌+◌, ◌-◌, ◌≤◌, ◌<◌, ◌^◌, leb, length, take, drop}
use Rattle.std.proofs.Common.{sym, ◌∙◌, arith, length-take, length-drop, take_at, drop_at, le-leb, leb-true, leb-false}
use Rattle.std.proofs.Math.Path.{ap₂}
use Rattle.std.proofs.Math.Nat.{two-pow-succ}
use Rattle.std.proofs.lemmas.Bool.{lt-leb}
use Rattle.model.specs.Balanced.{next, next_power_of_two, btree_split_index, BTree, fork, leaves, grow, btree, fold}

-- the half is a power of two, below n, and twice it is not below n
pub record Half (n p : ℕ) : Type 0 where
  pub half : ℕ
  pub twice : p ≡ half + half
  pub exponent : ℕ
  pub power : half ≡ 2 ^ exponent
  pub below : half < n
  pub enough : n ≤ half + half
  pub some : 1 ≤ half

next_stop : (k p n : ℕ) → n ≤ p → next k p n ≡ p
unfolding next
next_stop zero p n h = refl
next_stop (suc k) p n h = rw (le-leb n p h, next)

next_half : (k p n e : ℕ) → p ≡ 2 ^ e → 1 ≤ p → p < n → n ≤ p + k → Half n (next k p n)
unfolding next
next_half zero p n e pe o h f = absurd (omega arith)
next_half (suc k) p n e pe o h f = rw (lt-leb n p h, next) (go (leb n (p + p)) refl (next_half k (p + p) n (suc e)))
  where
    go : (b : Bool) → leb n (p + p) ≡ b → (p + p ≡ 2 ^ suc e → 1 ≤ p + p → p + p < n → n ≤ p + p + k → Half n (next k (p + p) n)) → Half n (next k (p + p) n)
    go true q rec = let l : n ≤ p + p = leb-true _ _ q in record { half = p; twice = next_stop k (p + p) n l; exponent = e; power = pe; below = h; enough = l; some = o }
    go false q rec = let l : p + p < n = leb-false _ _ q in rec (ap₂ ◌+◌ pe pe ∙ sym (two-pow-succ e)) (omega arith) l (omega arith)

pub half_of : (n : ℕ) → 2 ≤ n → Half n (next_power_of_two n)
unfolding next_power_of_two
half_of n h = next_half n 1 n 0 refl (omega arith) h (omega arith)

-- the left side of a tree of n parts has at least one part, and so has the right side
pub split_bounds : (n : ℕ) → 2 ≤ n → (1 ≤ btree_split_index n) × (btree_split_index n < n)
unfolding btree_split_index
split_bounds n h = let r = half_of n h in omega (arith, r.twice)

-- the same of n parts of which the left side has `few`
pub record Shares (n few : ℕ) : Type 0 where
  pub split : few ≡ btree_split_index n
  pub some : 1 ≤ few
  pub less : few < n

pub shares : {n few : ℕ} → few ≡ btree_split_index n → 2 ≤ n → Shares n few
shares {n} e h = let b = split_bounds n h in record { split = e; some = omega arith; less = omega arith }

-- where there are neither none nor one
pub shares_else : {n few : ℕ} → few ≡ btree_split_index n → (n ≡ 0 → ⊥) → (n ≡ 1 → ⊥) → Shares n few
shares_else e z o = shares e (omega arith)

pub grow_leaves : (k n : ℕ) → n ≤ k → 1 ≤ n → leaves (grow k n) ≡ n
unfolding grow
grow_leaves zero n f h = omega arith
grow_leaves (suc k) zero f h = omega arith
grow_leaves (suc k) (suc zero) f h = refl
grow_leaves (suc k) (suc (suc n)) f h =
    let s = split_bounds (suc (suc n)) (omega arith) in
    omega (arith, grow_leaves k (btree_split_index (suc (suc n))) (omega arith) s.0, grow_leaves k (suc (suc n) - btree_split_index (suc (suc n))) (omega arith) (omega arith))

pub btree_leaves : (n : ℕ) → 1 ≤ n → leaves (btree n) ≡ n
unfolding btree
btree_leaves n h = grow_leaves n n (omega arith) h

pub grow_fuel : (k m n : ℕ) → n ≤ k → n ≤ m → grow k n ≡ grow m n
unfolding grow
grow_fuel zero zero n f g = refl
grow_fuel zero (suc m) zero f g = refl
grow_fuel zero (suc m) (suc n) f g = absurd (omega arith)
grow_fuel (suc k) zero zero f g = refl
grow_fuel (suc k) zero (suc n) f g = absurd (omega arith)
grow_fuel (suc k) (suc m) zero f g = refl
grow_fuel (suc k) (suc m) (suc zero) f g = refl
grow_fuel (suc k) (suc m) (suc (suc n)) f g =
    let s = split_bounds (suc (suc n)) (omega arith) in
    ap₂ {C = BTree} fork (grow_fuel k m _ (omega arith) (omega arith)) (grow_fuel k m _ (omega arith) (omega arith))

-- the tree of n parts, as the Rust builds it
pub btree_fork : (n : ℕ) → 2 ≤ n → btree n ≡ fork (btree (btree_split_index n)) (btree (n - btree_split_index n))
unfolding btree grow
btree_fork zero h = absurd (omega arith)
btree_fork (suc zero) h = absurd (omega arith)
btree_fork (suc (suc n)) h =
    let h = btree_split_index (suc (suc n)) in
    let s = split_bounds (suc (suc n)) (omega arith) in
    ap₂ {C = BTree} fork (grow_fuel (suc n) h h (omega arith) (omega arith)) (grow_fuel (suc n) (suc (suc n) - h) (suc (suc n) - h) (omega arith) (omega arith))

module _ {A : Type 0} (f : A → A → A) (d : A) where
  pub fold_fork : (l r : BTree) (xs ys : List A) → length xs ≡ leaves l → fold f d (fork l r) (xs ++ ys) ≡ f (fold f d l xs) (fold f d r ys)
  unfolding fold
  fold_fork l r xs ys h = ap₂ (λ u v. f (fold f d l u) (fold f d r v)) (take_at xs ys _ h) (drop_at xs ys _ h)

-- the lists that the two sides of a tree take
module _ {A : Type 0} (l r : BTree) (xs : List A) (h : length xs ≡ leaves (fork l r)) where
  pub size_left : length (take (leaves l) xs) ≡ leaves l
  size_left = length-take (leaves l) xs ∙ omega arith

  pub size_right : length (drop (leaves l) xs) ≡ leaves r
  size_right = length-drop (leaves l) xs ∙ omega arith
