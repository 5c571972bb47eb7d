-- Balanced binary trees over a list, as array.rs builds them (01, 'Lowered type').
-- A tree's shape is data of its own, and a list is folded over it.
use Rattle.std.specs.Prelude.{true, false, List, [], ◌∷◌, ℕ, zero, suc, ◌+◌, ◌-◌, ◌/◌, leb, take, drop}

-- the smallest of p, 2p, 4p .. that is not below n, with fuel k
unfoldable pub next : ℕ → ℕ → ℕ → ℕ
next zero p n = p
next (suc k) p n = elim (leb n p) [ true ↦ p | false ↦ next k (p + p) n ]

-- the smallest power of two not below n
unfoldable pub next_power_of_two : ℕ → ℕ
next_power_of_two n = next n 1 n

-- the parts that the left side of a tree of n parts has, n at least 2
unfoldable pub btree_split_index : ℕ → ℕ
btree_split_index n = n - next_power_of_two n / 2

pub data BTree : Type 0 where
  leaf : BTree
  fork : BTree → BTree → BTree

abbrev pub leaves : BTree → ℕ
leaves leaf = 1
leaves (fork l r) = leaves l + leaves r

-- the tree of n parts, with fuel k
unfoldable pub grow : ℕ → ℕ → BTree
grow zero n = leaf
grow (suc k) zero = leaf
grow (suc k) (suc zero) = leaf
grow (suc k) (suc (suc n)) = let h = btree_split_index (suc (suc n)) in fork (grow k h) (grow k (suc (suc n) - h))

-- the tree of n parts (a leaf for n = 0, which stands for no part)
unfoldable pub btree : ℕ → BTree
btree n = grow n n

-- a list folded over a tree, with d for a leaf that the list does not reach
module _ {A : Type 0} (f : A → A → A) (d : A) where
  unfoldable pub fold : BTree → List A → A
  fold leaf [] = d
  fold leaf (x ∷ xs) = x
  fold (fork l r) xs = f (fold l (take (leaves l) xs)) (fold r (drop (leaves l) xs))
