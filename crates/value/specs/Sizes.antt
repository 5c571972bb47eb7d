-- How many records a shape has: those of its parts, and its own. Assumes nothing.
use Rattle.std.specs.Prelude.{◌≡◌, refl, Bool, true, false, List, [], ◌∷◌, map, ℕ, zero, suc, ◌+◌, ◌-◌, ◌*◌, ◌^◌, ◌<◌, ◌≤◌, ltb, eqb}
use Rattle.std.proofs.Common.{sym, ap, ◌∙◌, arith, ltb-true, ltb-false, ne_eqb}
use Rattle.std.proofs.Math.Nat.{one-le-pow, two-pow-succ}
use lib.ListN.{length, take, drop, length-append, length-take, length-drop}
use Rattle.model.specs.Options.{pick}
use Rattle.model.specs.Bytes.{to_bits}
use Rattle.model.specs.Balanced.{BTree, leaf, fork, leaves, btree, grow, fold}
use Rattle.model.specs.Structural.{SValue, unit, left, right, pair, shape_records, tuple, tuple_of, enum_injection, block, partition}
use Rattle.model.specs.Values.{bit}
use Rattle.model.proofs.Laws.Balanced.{btree_leaves, size_left, size_right}
use Rattle.model.proofs.Laws.Bytes.{length_to_bits}
use Rattle.table.specs.Facts.{cut}
use Rattle.value.specs.Lengths.{add, joints, blocks, tags}

-- the records of a shape
unfoldable pub shape_size : SValue → ℕ
shape_size s = length (shape_records s)

unfoldable pub sizes : List SValue → ℕ
sizes [] = 0
sizes (s ∷ ss) = shape_size s + sizes ss

pub add_add : (k a b : ℕ) → add (add k a) b ≡ add k (a + b)
unfolding add
add_add k a b = omega arith

size_pair : (a b : SValue) → shape_size (pair a b) ≡ suc (shape_size a + shape_size b)
unfolding shape_size shape_records
size_pair a b = ap suc (length-append (shape_records a) (shape_records b))

pub size_left_of : (s : SValue) → shape_size (left s) ≡ suc (shape_size s)
unfolding shape_size shape_records
size_left_of s = refl

pub size_right_of : (s : SValue) → shape_size (right s) ≡ suc (shape_size s)
unfolding shape_size shape_records
size_right_of s = refl

pub size_unit : shape_size unit ≡ 1
unfolding shape_size shape_records
size_unit = refl

sizes_take_drop : (n : ℕ) (ss : List SValue) → sizes (take n ss) + sizes (drop n ss) ≡ sizes ss
unfolding sizes
sizes_take_drop zero ss = omega arith
sizes_take_drop (suc n) [] = omega arith
sizes_take_drop (suc n) (s ∷ ss) = omega (arith, sizes_take_drop n ss)

size_tree : (t : BTree) (ss : List SValue) → length ss ≡ leaves t → shape_size (tuple t ss) + 1 ≡ sizes ss + leaves t
unfolding fold sizes
size_tree leaf [] h = absurd (omega arith)
size_tree leaf (s ∷ []) h = omega arith
size_tree leaf (s ∷ (r ∷ rs)) h = absurd (omega arith)
size_tree (fork l r) ss h =
    omega (arith, size_pair (tuple l (take (leaves l) ss)) (tuple r (drop (leaves l) ss)), size_tree l (take (leaves l) ss) (size_left l r ss h), size_tree r (drop (leaves l) ss) (size_right l r ss h), sizes_take_drop (leaves l) ss)

-- a tuple's
pub size_tuple : (ss : List SValue) → shape_size (tuple_of ss) ≡ joints (length ss) + sizes ss
unfolding joints sizes btree grow fold
size_tuple [] = size_unit
size_tuple (s ∷ ss) =
    let l = btree_leaves (length (s ∷ ss)) (omega arith) in
    let z : eqb (length (s ∷ ss)) 0 ≡ false = ne_eqb (length (s ∷ ss)) 0 (λ z. omega arith) in
    rw z (omega (arith, size_tree (btree (length (s ∷ ss))) (s ∷ ss) (sym l), l))

-- an integer's bits
sizes_bits : (bs : List Bool) → sizes (map bit bs) ≡ 2 * length bs
unfolding sizes shape_size shape_records
sizes_bits [] = omega arith
sizes_bits (true ∷ bs) = omega (arith, sizes_bits bs)
sizes_bits (false ∷ bs) = omega (arith, sizes_bits bs)

-- a list's own records
unfoldable own : ℕ → ℕ → ℕ
own zero m = pick (eqb m 0) 2 1
own (suc e) m = pick (ltb m (2 ^ suc e)) (3 + own e m) (2 ^ suc e + 1 + own e (m - 2 ^ suc e))

blocks_own : (e m k : ℕ) → blocks e m k ≡ add k (own e m)
unfolding blocks own
blocks_own zero m k = refl
blocks_own (suc e) m k = go (ltb m (2 ^ suc e)) (λ n j. blocks_own e n j)
  where
    go : (b : Bool) → ((n j : ℕ) → blocks e n j ≡ add j (own e n)) → pick b (blocks e m (add k 3)) (blocks e (m - 2 ^ suc e) (add k (2 ^ suc e + 1))) ≡ add k (pick b (3 + own e m) (2 ^ suc e + 1 + own e (m - 2 ^ suc e)))
    go true h = h m (add k 3) ∙ add_add k 3 (own e m)
    go false h = h (m - 2 ^ suc e) (add k (2 ^ suc e + 1)) ∙ add_add k (2 ^ suc e + 1) (own e (m - 2 ^ suc e))

size_block : (ss : List SValue) → 1 ≤ length ss → shape_size (block ss) ≡ length ss + sizes ss
unfolding joints
size_block [] h = absurd (omega arith)
size_block (s ∷ ss) h =
    let z : eqb (length (s ∷ ss)) 0 ≡ false = ne_eqb (length (s ∷ ss)) 0 (λ z. omega arith) in
    let t : shape_size (tuple_of (s ∷ ss)) ≡ length (s ∷ ss) - 1 + sizes (s ∷ ss) = size_tuple (s ∷ ss) ∙ rw z in
    omega (arith, size_right_of (tuple_of (s ∷ ss)), t)

size_empty : shape_size (block []) ≡ 2
unfolding shape_size shape_records
size_empty = refl

size_partition : (e : ℕ) (ss : List SValue) → length ss < 2 ^ suc e → shape_size (partition e ss) ≡ own e (length ss) + sizes ss
unfolding partition own sizes
size_partition zero [] h = size_empty
size_partition zero (s ∷ []) h = size_block (s ∷ []) (omega arith)
size_partition zero (s ∷ (r ∷ rs)) h = absurd (omega arith)
size_partition (suc e) ss h = go (ltb (length ss) (2 ^ suc e)) refl (λ rs l. size_partition e rs l)
  where
    go : (b : Bool) → ltb (length ss) (2 ^ suc e) ≡ b → ((rs : List SValue) → length rs < 2 ^ suc e → shape_size (partition e rs) ≡ own e (length rs) + sizes rs)
        → shape_size (pick b (pair (block []) (partition e ss)) (pair (block (take (2 ^ suc e) ss)) (partition e (drop (2 ^ suc e) ss)))) ≡ pick b (3 + own e (length ss)) (2 ^ suc e + 1 + own e (length ss - 2 ^ suc e)) + sizes ss
    go true p f = omega (arith, size_pair (block []) (partition e ss), size_empty, f ss (ltb-true (length ss) (2 ^ suc e) p))
    go false p f =
        let l = ltb-false (length ss) (2 ^ suc e) p in
        let o = one-le-pow (suc e) 2 (omega arith) in
        let a : length (take (2 ^ suc e) ss) ≡ 2 ^ suc e = simp length-take (omega arith) in
        let d : length (drop (2 ^ suc e) ss) ≡ length ss - 2 ^ suc e = length-drop (2 ^ suc e) ss in
        let r = f (drop (2 ^ suc e) ss) (omega (arith, two-pow-succ (suc e))) in
        let q : own e (length (drop (2 ^ suc e) ss)) ≡ own e (length ss - 2 ^ suc e) = ap (own e) d in
        omega (arith, size_pair (block (take (2 ^ suc e) ss)) (partition e (drop (2 ^ suc e) ss)), size_block (take (2 ^ suc e) ss) (omega arith), r, q, a, sizes_take_drop (2 ^ suc e) ss)

-- a tuple, an integer, a list and an enum, added to k
pub add_integer : (k w n : ℕ) → add k (joints w + 2 * w) ≡ add k (shape_size (tuple_of (map bit (to_bits w n))))
add_integer k w n = ap (add k) (sym (size_tuple (map bit (to_bits w n)) ∙ both))
  where
    both : joints (length (map bit (to_bits w n))) + sizes (map bit (to_bits w n)) ≡ joints w + 2 * w
    both = rw (lib.ListN.length-map (to_bits w n) bit, sizes_bits (to_bits w n), length_to_bits w n)

pub add_list : (k e : ℕ) (ss : List SValue) → length ss < 2 ^ suc e → add k (blocks e (length ss) 0 + sizes ss) ≡ add k (shape_size (partition e ss))
unfolding add
add_list k e ss h = let b = blocks_own e (length ss) 0 in let p = size_partition e ss h in omega (arith, b, p)

unfoldable depth : BTree → ℕ → ℕ
depth leaf i = 0
depth (fork l r) i = suc (pick (ltb i (leaves l)) (depth l i) (depth r (i - leaves l)))

tags_depth : (t : BTree) (i k : ℕ) → tags t i (cut k) ≡ cut (k + depth t i)
unfolding tags depth add
tags_depth leaf i k = omega arith
tags_depth (fork l r) i k = go (ltb i (leaves l)) (tags_depth l i (suc k)) (tags_depth r (i - leaves l) (suc k))
  where
    once : add (cut k) 1 ≡ cut (suc k)
    once = omega arith

    go : (b : Bool) → tags l i (cut (suc k)) ≡ cut (suc k + depth l i) → tags r (i - leaves l) (cut (suc k)) ≡ cut (suc k + depth r (i - leaves l)) → pick b (tags l i (add (cut k) 1)) (tags r (i - leaves l) (add (cut k) 1)) ≡ cut (k + suc (pick b (depth l i) (depth r (i - leaves l))))
    go true f g = rw once (f ∙ ap cut (omega arith))
    go false f g = rw once (g ∙ ap cut (omega arith))

size_injection : (t : BTree) (i : ℕ) (s : SValue) → shape_size (enum_injection t i s) ≡ depth t i + shape_size s
unfolding enum_injection depth
size_injection leaf i s = omega arith
size_injection (fork l r) i s = go (ltb i (leaves l)) (size_injection l i s) (size_injection r (i - leaves l) s)
  where
    go : (b : Bool) → shape_size (enum_injection l i s) ≡ depth l i + shape_size s → shape_size (enum_injection r (i - leaves l) s) ≡ depth r (i - leaves l) + shape_size s → shape_size (pick b (left (enum_injection l i s)) (right (enum_injection r (i - leaves l) s))) ≡ suc (pick b (depth l i) (depth r (i - leaves l))) + shape_size s
    go true f g = omega (arith, size_left_of (enum_injection l i s), f)
    go false f g = omega (arith, size_right_of (enum_injection r (i - leaves l) s), g)

pub add_enum : (k i : ℕ) (t : BTree) (s : SValue) → add k (tags t i 0 + shape_size s) ≡ add k (shape_size (enum_injection t i s))
unfolding add
add_enum k i t s = let b = tags_depth t i 0 in let p = size_injection t i s in omega (arith, b, p)
