-- Sizes and widths: how many records a lowered type has, how many bits its frame, and both of them step by step as code counts them.
-- A tree of n parts has n - 1 records of its own, whatever its form; a shape has no more records than its type; and each bit of a frame has two records, so that 65,536 records never need more than 4,096 bytes of frame.
use Rattle.std.specs.Prelude.{◌≡◌, refl, ℕ, zero, suc, ◌+◌, ◌-◌, ◌*◌, ◌≤◌, ◌^◌, ltb, length, take, drop, replicate}
use Rattle.std.proofs.Common.{sym, ap, ap₂, ◌∙◌, zero-mul, suc-mul, length-append}
use mathlib.Core.List.{List, [], ◌∷◌}
use native.Mathlib.Omega.{arith}
use Rattle.std.proofs.Math.Nat.{one-le-pow}
use Rattle.std.proofs.lemmas.List.{length-replicate}
use Rattle.model.specs.Numbers.{most_shape_records}
use Rattle.model.specs.Options.{pick}
use Rattle.model.specs.Bytes.{bytes_for}
use Rattle.model.specs.Balanced.{BTree, leaf, fork, leaves, fold, grow, btree, btree_split_index}
use Rattle.model.specs.Structural.{SType, 𝟙, ◌⊕◌, ◌⊗◌, SValue, left, right, Belongs, is_unit, is_left, is_right, is_pair, type_records, shape_records, product, balanced_sum, product_of, enum_injection, block_type, partition_type}
use Rattle.model.specs.Frames.{width}
use Rattle.model.proofs.Laws.Balanced.{split_bounds, btree_leaves, btree_fork, size_left, size_right}

-- RECORDS AND BITS

-- the records of a type
abbrev pub nodes : SType → ℕ
nodes 𝟙 = 1
nodes (a ⊕ b) = suc (nodes a + nodes b)
nodes (a ⊗ b) = suc (nodes a + nodes b)

-- a type's file has one byte for each record
pub length_type_records : (t : SType) → length (type_records t) ≡ nodes t
unfolding type_records
length_type_records 𝟙 = refl
length_type_records (a ⊕ b) = ap suc (length-append (type_records a) (type_records b) ∙ ap₂ ◌+◌ (length_type_records a) (length_type_records b))
length_type_records (a ⊗ b) = ap suc (length-append (type_records a) (type_records b) ∙ ap₂ ◌+◌ (length_type_records a) (length_type_records b))

-- each bit has two records, and there is one more
pub width_nodes : (t : SType) → 2 * width t + 1 ≤ nodes t
width_nodes 𝟙 = omega arith
width_nodes (a ⊕ b) = omega (arith, width_nodes a, width_nodes b)
width_nodes (a ⊗ b) = omega (arith, width_nodes a, width_nodes b)

-- a shape has no more records than its type
pub shape_size : {t : SType} {s : SValue} → Belongs t s → length (shape_records s) ≤ nodes t
unfolding shape_records
shape_size is_unit = omega arith
shape_size (is_left h) = omega (arith, shape_size h)
shape_size (is_right h) = omega (arith, shape_size h)
shape_size (is_pair {s = s} {t = t} h k) = omega (arith, length-append (shape_records s) (shape_records t), shape_size h, shape_size k)

-- a type of at most 65,536 records has a frame of at most 4,096 bytes
pub frame_limit : (t : SType) → length (type_records t) ≤ most_shape_records → bytes_for (width t) ≤ 4096
frame_limit t h = omega (arith, length_type_records t, width_nodes t)

-- WHAT PARTS HAVE TOGETHER, by any measure

abbrev pub sum_of : (SType → ℕ) → List SType → ℕ
sum_of m [] = 0
sum_of m (t ∷ ts) = m t + sum_of m ts

module _ (m : SType → ℕ) where
  sum_take_drop : (n : ℕ) (ts : List SType) → sum_of m (take n ts) + sum_of m (drop n ts) ≡ sum_of m ts
  sum_take_drop zero ts = omega arith
  sum_take_drop (suc n) [] = omega arith
  sum_take_drop (suc n) (t ∷ ts) = omega (arith, sum_take_drop n ts)

  sum_replicate : (n : ℕ) (t : SType) → sum_of m (replicate n t) ≡ n * m t
  sum_replicate zero t = sym (zero-mul (m t))
  sum_replicate (suc n) t = omega (arith, sum_replicate n t, suc-mul n (m t))

  -- where a join counts one more than its two sides, a tree of n leaves counts n - 1 more than its parts
  module _ (f : SType → SType → SType) (k : (a b : SType) → m (f a b) ≡ suc (m a + m b)) where
    sum_fold : (t : BTree) (ts : List SType) → length ts ≡ leaves t → m (fold f 𝟙 t ts) + 1 ≡ sum_of m ts + leaves t
    unfolding fold
    sum_fold leaf [] h = absurd (omega arith)
    sum_fold leaf (t ∷ []) h = omega arith
    sum_fold leaf (t ∷ (u ∷ us)) h = absurd (omega arith)
    sum_fold (fork l r) ts h =
        omega (arith, k (fold f 𝟙 l (take (leaves l) ts)) (fold f 𝟙 r (drop (leaves l) ts)), sum_fold l (take (leaves l) ts) (size_left l r ts h), sum_fold r (drop (leaves l) ts) (size_right l r ts h), sum_take_drop (leaves l) ts)

    -- and so does one of n parts, n at least 1
    sum_parts : (n : ℕ) (ts : List SType) → length ts ≡ n → 1 ≤ n → m (fold f 𝟙 (btree n) ts) + 1 ≡ sum_of m ts + n
    sum_parts n ts e h = let l = btree_leaves n h in sum_fold (btree n) ts (e ∙ sym l) ∙ ap (λ i. sum_of m ts + i) l

  -- n parts that are the same, n at least 1
  pub sum_array : ((a b : SType) → m (a ⊗ b) ≡ suc (m a + m b)) → (n : ℕ) (t : SType) → 1 ≤ n → m (product_of (replicate n t)) + 1 ≡ n * m t + n
  sum_array k n t h = omega (arith, sum_parts ◌⊗◌ k (length (replicate n t)) (replicate n t) refl (omega (arith, length-replicate n t)), sum_replicate n t, length-replicate n t)

-- RECORDS OF BALANCED TREES

-- the records of all parts
abbrev pub nodes_all : List SType → ℕ
nodes_all = sum_of nodes

-- the type of the empty tuple, and of an array of 0, is one record
pub nodes_none : nodes (product_of []) ≡ 1
unfolding btree grow fold
nodes_none = refl

-- a tuple of n parts, n at least 1, has n - 1 records of its own
pub nodes_product_of : (ts : List SType) → 1 ≤ length ts → nodes (product_of ts) + 1 ≡ nodes_all ts + length ts
nodes_product_of ts h = sum_parts nodes ◌⊗◌ (λ a b. refl) (length ts) ts refl h

-- an array of n parts, n at least 1: n times the part's records, and n - 1 of its own
pub nodes_array : (n : ℕ) (t : SType) → 1 ≤ n → nodes (product_of (replicate n t)) + 1 ≡ n * nodes t + n
nodes_array = sum_array nodes (λ a b. refl)

-- a balanced sum of n types, n at least 1, has n - 1 records of its own
pub nodes_balanced_sum : (n : ℕ) (ts : List SType) → length ts ≡ n → 1 ≤ n → nodes (balanced_sum (btree n) ts) + 1 ≡ nodes_all ts + n
nodes_balanced_sum = sum_parts nodes ◌⊕◌ (λ a b. refl)

-- WIDTHS OF BALANCED TREES

-- the bits of all parts
abbrev pub width_all : List SType → ℕ
width_all = sum_of width

-- a product's frame is its parts' frames, whatever the tree
pub width_product : (t : BTree) (ts : List SType) → length ts ≡ leaves t → width (product t ts) ≡ width_all ts
unfolding fold
width_product leaf [] h = absurd (omega arith)
width_product leaf (t ∷ []) h = omega arith
width_product leaf (t ∷ (u ∷ us)) h = absurd (omega arith)
width_product (fork l r) ts h = ap₂ ◌+◌ (width_product l (take (leaves l) ts) (size_left l r ts h)) (width_product r (drop (leaves l) ts) (size_right l r ts h)) ∙ sum_take_drop width (leaves l) ts

-- a tuple's bits are those of its parts together
pub width_product_of : (ts : List SType) → width (product_of ts) ≡ width_all ts
unfolding btree grow fold
width_product_of [] = refl
width_product_of (t ∷ ts) = width_product (btree (suc (length ts))) (t ∷ ts) (sym (btree_leaves (suc (length ts)) (omega arith)))

-- an array's bits are n times those of its part
pub width_array : (n : ℕ) (t : SType) → width (product_of (replicate n t)) ≡ n * width t
width_array n t = width_product_of (replicate n t) ∙ sum_replicate width n t

-- ONE STEP OF A TREE OF n PARTS: none, one, or n at least 2, split as the Rust splits it

leaves_left : (n : ℕ) → 2 ≤ n → leaves (btree (btree_split_index n)) ≡ btree_split_index n
leaves_left n h = btree_leaves (btree_split_index n) (split_bounds n h).0

-- a fold over no part: the default
pub fold_none : {A : Type 0} (f : A → A → A) (d : A) → fold f d (btree 0) [] ≡ d
unfolding btree grow fold
fold_none f d = refl

-- a fold over one part: the part
pub fold_one : {A : Type 0} (f : A → A → A) (d x : A) (xs : List A) → fold f d (btree 1) (x ∷ xs) ≡ x
unfolding btree grow fold
fold_one f d x xs = refl

-- a fold over n parts: the two sides'
pub fold_step : {A : Type 0} (f : A → A → A) (d : A) (n : ℕ) → 2 ≤ n → (xs : List A)
    → fold f d (btree n) xs ≡ f (fold f d (btree (btree_split_index n)) (take (btree_split_index n) xs)) (fold f d (btree (n - btree_split_index n)) (drop (btree_split_index n) xs))
unfolding fold
fold_step f d n h xs = rw (btree_fork n h) (rw (leaves_left n h) refl)

-- the only variant: the payload
pub enum_one : (i : ℕ) (s : SValue) → enum_injection (btree 1) i s ≡ s
unfolding btree grow enum_injection
enum_one i s = refl

-- variant i of n: left if the left side has it, else right
pub enum_step : (n i : ℕ) (s : SValue) → 2 ≤ n → enum_injection (btree n) i s ≡ pick (ltb i (btree_split_index n)) (left (enum_injection (btree (btree_split_index n)) i s)) (right (enum_injection (btree (n - btree_split_index n)) (i - btree_split_index n) s))
unfolding enum_injection
enum_step n i s h = rw (btree_fork n h) (rw (leaves_left n h) refl)

-- LISTS

-- a block of n, n at least 1: an array, and two records more
pub nodes_block : (n : ℕ) (t : SType) → 1 ≤ n → nodes (block_type n t) ≡ n * nodes t + n + 1
nodes_block n t h = omega (arith, nodes_array n t h)

-- a block's bits: a tag and an array's
pub width_block : (n : ℕ) (t : SType) → width (block_type n t) ≡ suc (n * width t)
width_block n t = omega (arith, width_array n t)

-- a list of bound 2: a block of 1
pub nodes_partition_zero : (t : SType) → nodes (partition_type 0 t) ≡ nodes t + 2
unfolding partition_type
nodes_partition_zero t = omega (arith, nodes_block 1 t (omega arith))

-- a list of twice the bound: a block more, and the record that joins them
pub nodes_partition_suc : (e : ℕ) (t : SType) → nodes (partition_type (suc e) t) ≡ 2 ^ suc e * nodes t + 2 ^ suc e + 2 + nodes (partition_type e t)
unfolding partition_type
nodes_partition_suc e t = omega (arith, nodes_block (2 ^ suc e) t (one-le-pow (suc e) 2 (omega arith)))

-- a list of bound 2: a tag and one element
pub width_partition_zero : (t : SType) → width (partition_type 0 t) ≡ suc (width t)
unfolding partition_type
width_partition_zero t = omega (arith, width_block 1 t)

-- a list of twice the bound: a tag and a block more
pub width_partition_suc : (e : ℕ) (t : SType) → width (partition_type (suc e) t) ≡ suc (2 ^ suc e * width t) + width (partition_type e t)
unfolding partition_type
width_partition_suc e t = ap (λ w. w + width (partition_type e t)) (width_block (2 ^ suc e) t)
