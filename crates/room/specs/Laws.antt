-- The steps of the walk: that each part is small where the whole is, and what its number of records makes of the whole's.
use Rattle.std.specs.Prelude.{◌≡◌, true, List, ℕ, zero, suc, ◌+◌, ◌-◌, ◌*◌, ◌≤◌, get_or}
use Rattle.std.proofs.Math.Path.{refl, sym, ap, ap₂}
use Rattle.std.proofs.Common.{◌∙◌, inl, inr, suc-mul, mul-le-mul_right, arith}
use Rattle.num.specs.declared.NonZeroPow2Usize.{NonZeroPow2Usize}
use Rattle.num.specs.Powers.{bound_log2}
use Rattle.model.specs.Balanced.{btree_split_index}
use Rattle.model.specs.Structural.{SType, partition_type}
use Rattle.model.specs.Room.{longest_shape}
use Rattle.model.proofs.Laws.Balanced.{Shares}
use Rattle.model.proofs.Laws.Sizes.{nodes, nodes_array, nodes_partition_zero, nodes_partition_suc}
use Rattle.model.proofs.Laws.Room.{longest_nodes, longest_array, longest_list}
use Rattle.types.specs.Heads.{fair_bound_of}
use Rattle.structural.specs.declared.Parts.{Parts}
use Rattle.structural.specs.declared.Parts.TheVariants.{Bits, Copies, Types, Choices}
use Rattle.structural.specs.Forms.{join, all_same, standing, part, after, skip, balanced, GivenPart, listed}
use Rattle.structural.proofs.Laws.Bounds.{power_of}
use Rattle.structural.proofs.Laws.Trees.{skip_same, balanced_none, balanced_one, tree_join, same_parts}
use Rattle.structural.proofs.Laws.Forms.{stands_end, TreeOf, ListOf}
use Rattle.structural.proofs.Laws.Parts.{Told, InRow, told_is, part_given, sides_next}
use Rattle.room.specs.declared.Longest.{Longest}
use Rattle.room.specs.Counting.{Small, joined, Counted}

-- no shape of a small type is long
short : (t : SType) (n : ℕ) → Small t → n ≡ longest_shape t → n ≤ 65536
short t n h e = omega (arith, longest_nodes t)

-- LISTS

element_nodes : (e : ℕ) (t : SType) → nodes t ≤ nodes (partition_type e t)
element_nodes zero t = omega (arith, nodes_partition_zero t)
element_nodes (suc e) t = omega (arith, nodes_partition_suc e t, element_nodes e t)

module _ {b : NonZeroPow2Usize} {d : ℕ} {s E : List ℕ} {p : ℕ} {t : SType} (l : ListOf b d s E p t) where
  pub element_small : Small t → Small (standing d s p)
  unfolding listed
  element_small h = omega (arith, ap nodes l.same, element_nodes (bound_log2 b.value - 1) (standing d s p))

  pub element_short : (m : ℕ) → Small t → m ≡ longest_shape (standing d s p) → m ≤ 65536
  element_short m h = short (standing d s p) m (element_small h)

  pub list_counted : (m n : ℕ) → m ≡ longest_shape (standing d s p) → n ≡ (b.value - 1) * m + (b.value - 1) + (bound_log2 b.value - 1) → n ≡ longest_shape t
  unfolding listed
  list_counted m n e h =
      let k = power_of b in
      let f = fair_bound_of b in
      let z : bound_log2 b.value - 1 ≡ f.exponent = omega (arith, k.log2) in
      h ∙ ap₂ (λ i j. (b.value - 1) * i + (b.value - 1) + j) e z
      ∙ ap (λ i. (i - 1) * longest_shape (standing d s p) + (i - 1) + f.exponent) k.power
      ∙ sym (ap longest_shape (l.same ∙ ap (λ i. partition_type i (standing d s p)) z) ∙ longest_list f.exponent (standing d s p))

-- RECORDS

module _ {k : Parts} {n d : ℕ} {s E : List ℕ} {p : ℕ} {t : SType} (i : TreeOf k n d s E p t) where
  pub tree_small : Small t → Small (balanced k d s n p)
  tree_small h = rw (← i.same) h

  pub tree_counted : {q : ℕ} {r : Longest} → Counted (balanced k d s n p) q r → r.most ≡ longest_shape t
  tree_counted c = c.most ∙ ap longest_shape (sym i.same)

-- PARTS

module _ (k : Parts) (d : ℕ) (s : List ℕ) (p : ℕ) where
  pub bit_counted : k ≡ Bits → Counted (part k d s p) (after k d s p) (record { next = p; most = 2 })
  unfolding part after
  bit_counted e = rw e (record { next = refl; most = refl })

  pub copy_counted : (m : ℕ) → k ≡ Copies → m ≡ longest_shape (standing d s p) → Counted (part k d s p) (after k d s p) (record { next = p; most = m })
  unfolding part after
  copy_counted m e h = rw e (record { next = refl; most = h })

module _ (j k : Parts) (d : ℕ) (s : List ℕ) (p : ℕ) (e : k ≡ j) where
  pub part_small : Told j → Small (part k d s p) → Small (standing d s p)
  part_small t h = rw (← told_is j d s p t, ← e) h

-- a part that stands in a row
pub row_counted : (k : Parts) (d : ℕ) (s E : List ℕ) (p q : ℕ) → InRow k → GivenPart k d s E p → q ≡ get_or E p 0 → (m : ℕ) → m ≡ longest_shape (standing d s p) → Counted (part k d s p) (after k d s p) (record { next = q; most = m })
unfolding part after
row_counted k d s E p q (inl e) g n m h = let g' = part_given Types k d s E p e tt g in rw e (record { next = n ∙ stands_end g'; most = h })
row_counted k d s E p q (inr e) g n m h = let g' = part_given Choices k d s E p e tt g in rw e (record { next = n ∙ stands_end g'; most = h })

-- TREES

module _ (k : Parts) (d : ℕ) (s : List ℕ) (n p : ℕ) where
  pub none_counted : n ≡ 0 → Counted (balanced k d s n p) (skip k d s n p) (record { next = p; most = 1 })
  unfolding skip
  none_counted z = rw z (record { next = refl; most = rw (balanced_none k d s p) refl })

  pub one_small : Small (balanced k d s n p) → n ≡ 1 → Small (part k d s p)
  one_small h z = rw (← balanced_one k d s p, ← z) h

  pub one_counted : {r : Longest} → n ≡ 1 → Counted (part k d s p) (after k d s p) r → Counted (balanced k d s n p) (skip k d s n p) r
  unfolding skip
  one_counted z w = rw (z, balanced_one k d s p) w

  -- parts that are the same
  module _ (a : all_same k ≡ true) where
    times : (n x : ℕ) → 1 ≤ n → x ≤ n * x
    times zero x h = absurd (omega arith)
    times (suc n) x h = omega (arith, suc-mul n x)

    pub same_small : 1 ≤ n → Small (balanced k d s n p) → Small (part k d s p)
    same_small o h = omega (arith, ap nodes (same_parts k d s n p a), nodes_array n (part k d s p) o, times n (nodes (part k d s p)) o)

    pub same_short : (m : ℕ) → 1 ≤ n → Small (balanced k d s n p) → m ≡ longest_shape (part k d s p) → m ≤ 65536
    same_short m o h = short (part k d s p) m (same_small o h)

    pub same_counted : (m x : ℕ) → 1 ≤ n → m ≡ longest_shape (part k d s p) → x ≡ n * m + (n - 1) → Counted (balanced k d s n p) (skip k d s n p) (record { next = p; most = x })
    same_counted m x o e h = record {
      next = sym (skip_same k d s n p a);
      most = omega (arith, ap longest_shape (same_parts k d s n p a), longest_array n (part k d s p) o, h, ap (λ i. n * i) e);
    }

-- two sides that are joined
joined_nodes : (k : Parts) (a b : SType) → nodes (join k a b) ≡ suc (nodes a + nodes b)
joined_nodes Bits a b = refl
joined_nodes Copies a b = refl
joined_nodes Types a b = refl
joined_nodes Choices a b = refl

joined_longest : (k : Parts) (a b : SType) → longest_shape (join k a b) ≡ joined k (longest_shape a) (longest_shape b)
joined_longest Bits a b = refl
joined_longest Copies a b = refl
joined_longest Types a b = refl
joined_longest Choices a b = refl

module _ (k : Parts) (d : ℕ) (s : List ℕ) (n few p q : ℕ) (e : few ≡ btree_split_index n) (z : n ≡ 0 → ⊥) (o : n ≡ 1 → ⊥) (g : q ≡ skip k d s few p) where
  abbrev here : balanced k d s n p ≡ join k (balanced k d s few p) (balanced k d s (n - few) q)
  here = tree_join k d s n few p q e z o g

  pub left_small : Small (balanced k d s n p) → Small (balanced k d s few p)
  left_small h = omega (arith, ap nodes here, joined_nodes k (balanced k d s few p) (balanced k d s (n - few) q))

  pub right_small : Small (balanced k d s n p) → Small (balanced k d s (n - few) q)
  right_small h = omega (arith, ap nodes here, joined_nodes k (balanced k d s few p) (balanced k d s (n - few) q))

  pub left_short : (m : ℕ) → Small (balanced k d s n p) → m ≡ longest_shape (balanced k d s few p) → m ≤ 65536
  left_short m h = short (balanced k d s few p) m (left_small h)

  pub right_short : (m : ℕ) → Small (balanced k d s n p) → m ≡ longest_shape (balanced k d s (n - few) q) → m ≤ 65536
  right_short m h = short (balanced k d s (n - few) q) m (right_small h)

  pub sides_counted : Shares n few → {r : Longest} (l m : ℕ) → l ≡ longest_shape (balanced k d s few p) → Counted (balanced k d s (n - few) q) (skip k d s (n - few) q) r → m ≡ joined k l r.most → Counted (balanced k d s n p) (skip k d s n p) (record { next = r.next; most = m })
  sides_counted h {r} l m x y i = record {
    next = y.next ∙ sides_next h k d s p g;
    most = i ∙ ap₂ (joined k) x y.most ∙ sym (ap longest_shape here ∙ joined_longest k _ _);
  }

-- two small numbers have a product far below 2 ^ 64
pub product_small : (n m : ℕ) → n ≤ 65536 → m ≤ 65536 → n * m ≤ 65536 * 65536
product_small n m h k = let x : n * m ≤ 65536 * m = mul-le-mul_right m h in omega arith
