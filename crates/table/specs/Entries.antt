-- A record's entry, computed from its children's, is true of what stands at the record: by what the record says.
use Rattle.std.specs.Prelude.{◌≡◌, List, [], ◌∷◌, Bool, length, replicate, Ok}
use Rattle.std.proofs.Math.Path.{refl, sym, ap, ap₂}
use Rattle.std.proofs.Common.{◌∙◌, ne_eqb}
use Rattle.std.proofs.Math.Bool.{true, false}
use Prim.Native.Nat.{ℕ, zero, suc, ◌+◌, ◌-◌, ◌*◌, ◌≤◌, max}
use native.Mathlib.Omega.{arith}
use Rattle.model.specs.Balanced.{btree, leaves}
use Rattle.model.specs.Structural.{SType, 𝟙, ◌⊕◌, product_of, balanced_sum, partition_type}
use Rattle.model.specs.Frames.{width}
use Rattle.model.specs.Lowering.{lower, lowers}
use Rattle.model.proofs.Laws.Balanced.{btree_leaves}
use Rattle.model.proofs.Laws.Sizes.{nodes, nodes_all, width_all, nodes_none, nodes_product_of, nodes_array, width_product_of, width_array}
use Rattle.num.specs.Powers.{bound_log2}
use Rattle.num.specs.Laws.{bounded}
use Rattle.types.specs.declared.Head.{Head}
use Rattle.types.specs.declared.Head.TheVariants.{Missing, Faulty, Never, Boolean, UInt, Either, Opt, Tuple, Array, Listed, Variants, Payload}
use Rattle.types.specs.Record.{head_at, calls_for, rec_at}
use Rattle.types.specs.Heads.{Fair, width_range}
use Rattle.types.specs.Walks.{opens, many, walk}
use Rattle.types.specs.Table.{Ends}
use Rattle.types.specs.Trees.{end_of, node, payload, tree, treev}
use Rattle.types.specs.Steps.{count_cases}
use Rattle.types.specs.Unique.{bad_end, opened}
use Rattle.types.specs.Lows.{low, lows, length_lows, lows_kids, lows_cases}
use Rattle.table.specs.declared.Facts as facts
use Rattle.table.specs.Facts.{cut, entry, cut_entry, sums, sum, sum_facts, product, facts_of, facts_true, Measured}
use Rattle.table.specs.Rows.{first_of}
use Rattle.table.specs.Sums.{same_facts, sum_true, entry_facts, entry_size, entry_width, next_place, further, sums_right, sum_right}
use Rattle.table.specs.Right.{cut_mul, list_size, list_bits}

cut_plus : (a b c : ℕ) → cut a ≡ cut b → cut (cut a + c) ≡ cut (b + c)
cut_plus a b c e = ap (λ k. cut (k + c)) e ∙ again b c
  where
    again : (b c : ℕ) → cut (cut b + c) ≡ cut (b + c)
    again b c = omega arith

-- a product's facts, from what its parts' add up to
product_counted : (ts : List SType) (n : ℕ) → length ts ≡ n → product (record { size = cut (0 + nodes_all ts); width = cut (0 + width_all ts) }) n ≡ facts_true (product_of ts)
unfolding product
product_counted [] zero h = same_facts (ap cut (sym nodes_none)) (ap cut (sym (width_product_of [])))
product_counted [] (suc n) h = absurd (omega arith)
product_counted (t ∷ ts) zero h = absurd (omega arith)
product_counted (t ∷ ts) (suc n) h =
    let a = nodes_product_of (t ∷ ts) (omega arith) in
    let b = width_product_of (t ∷ ts) in
    rw (ne_eqb (suc n) 0 (λ z. omega arith)) (same_facts (omega arith) (omega arith))

-- an array's, from its element's
array_of : (n : ℕ) (t : SType) → product (record { size = cut (n * cut (nodes t)); width = cut (n * cut (width t)) }) n ≡ facts_true (product_of (replicate n t))
unfolding product
array_of zero t = same_facts (ap cut (sym nodes_none)) (ap cut (sym (width_product_of [])))
array_of (suc n) t =
    let a = nodes_array (suc n) t (omega arith) in
    let b = width_array (suc n) t in
    let c = cut_mul (suc n) (nodes t) in
    let e = cut_mul (suc n) (width t) in
    rw (ne_eqb (suc n) 0 (λ z. omega arith)) (same_facts (omega arith) (omega arith))

module _ (d : ℕ) (s E S W : List ℕ) (g : Ends s E) (p : ℕ) (m : Measured s S W p) where
  abbrev Tree : Head → SType
  Tree k = lower (node k (tree d s) (walk d false s) (treev d s) (walk d true s) p)

  uint_facts : (n : ℕ) → 1 ≤ n → n ≤ 256 → ◌≡◌ {A = facts.Facts} (record { size = 4 * n - 1; width = n }) (facts_true (product_of (replicate n (𝟙 ⊕ 𝟙))))
  uint_facts n h k = let a = nodes_array n (𝟙 ⊕ 𝟙) h in let b = width_array n (𝟙 ⊕ 𝟙) in same_facts (omega arith) (omega arith)

  either_facts : (e : ℕ) → many (walk d false s) 2 p ≡ Ok e → facts_of Either E S W p ≡ facts_true (low d false s p ⊕ low d false s (end_of (walk d false s p)))
  unfolding facts_of
  either_facts e h =
      let f = first_of d false s 1 p e h in
      let f2 = first_of d false s 0 (end_of (walk d false s p)) e f.rest in
      let n = next_place d false s E S W g p m p f.end f.walks in
      let l : p ≤ end_of (walk d false s p) = further d false s E S W g p m p f.end (omega arith) f.walks in
      let a = entry_facts d false s E S W g p m p f.end (omega arith) f.walks in
      let b = ap (cut_entry S W) n ∙ entry_facts d false s E S W g p m (end_of (walk d false s p)) f2.end l f2.walks in
      ap₂ sum a b ∙ sum_true _ _

  one_child : (e : ℕ) → many (walk d false s) 1 p ≡ Ok e → (entry S p ≡ cut (nodes (low d false s p))) × (entry W p ≡ cut (width (low d false s p)))
  one_child e h =
      let f = first_of d false s 0 p e h in
      (entry_size d false s E S W g p m p f.end (omega arith) f.walks, entry_width d false s E S W g p m p f.end (omega arith) f.walks)

  row_facts : (n e : ℕ) → many (walk d false s) n p ≡ Ok e → product (sums E S W n p 0 0) n ≡ facts_true (product_of (lows d false s n p))
  row_facts n e h = ap (λ f. product f n) (sums_right d false s E S W g p m n p e 0 0 (omega arith) h) ∙ product_counted (lows d false s n p) n (length_lows d false s n p)

  enum_facts : (n e : ℕ) → 1 ≤ n → many (walk d true s) n p ≡ Ok e → (sum_facts (btree n) E S W p).1 ≡ facts_true (balanced_sum (btree n) (lows d true s n p))
  enum_facts n e o h =
      let lv : leaves (btree n) ≡ n = btree_leaves n o in
      let r = sum_right d true s E S W g p m (btree n) p e (omega arith) (rw lv h) in
      ap (λ (f : ℕ × facts.Facts). f.1) r.0 ∙ ap (λ k. facts_true (balanced_sum (btree n) (lows d true s k p))) lv

  list_facts : (b k e : ℕ) → b ≡ Prim.Native.Nat.◌^◌ 2 (suc k) → bound_log2 b ≡ suc k → many (walk d false s) 1 p ≡ Ok e
      → ◌≡◌ {A = facts.Facts} (record { size = cut (cut ((b - 1) * entry S p) + ((b - 1) + 2 * bound_log2 b - 1)); width = cut (cut ((b - 1) * entry W p) + bound_log2 b) }) (facts_true (partition_type (bound_log2 b - 1) (low d false s p)))
  list_facts b k e q l h =
      let (a, c) = one_child e h in
      let t = low d false s p in
      let z : suc k - 1 ≡ k = omega arith in
      rw (l, z) (same_facts
      (ap (λ n. cut (cut ((b - 1) * n) + ((b - 1) + 2 * suc k - 1))) a ∙ cut_plus ((b - 1) * cut (nodes t)) ((b - 1) * nodes t) ((b - 1) + 2 * suc k - 1) (cut_mul (b - 1) (nodes t)) ∙ ap cut (sym (list_size k b t q)))
      (ap (λ n. cut (cut ((b - 1) * n) + suc k)) c ∙ cut_plus ((b - 1) * cut (width t)) ((b - 1) * width t) (suc k) (cut_mul (b - 1) (width t)) ∙ ap cut (sym (list_bits k b t q))))

  node_facts : (k : Head) → Fair k → (e : ℕ) → opens false (calls_for k) (λ b n. many (walk d b s) n p) ≡ Ok e → facts_of k E S W p ≡ facts_true (Tree k)
  unfolding facts_of opens node lower low
  node_facts Missing f e h = bad_end h
  node_facts Faulty f e h = bad_end h
  node_facts Never f e h = refl
  node_facts Boolean f e h = refl
  node_facts (UInt w) f e h = let (x, y) = width_range w in uint_facts w.value x y
  node_facts Either f e h = either_facts e h
  node_facts Opt f e h = let (a, b) = one_child e h in same_facts (ap (λ x. cut (x + 2)) a ∙ omega arith) (ap (λ x. cut (x + 1)) b ∙ omega arith)
  node_facts (Tuple n) f e h = row_facts n e h ∙ ap (λ l. facts_true (product_of l)) (sym (lows_kids d s n p))
  node_facts (Array n) f e h = let (a, b) = one_child e h in ap₂ (λ x y. product (record { size = cut (n * x); width = cut (n * y) }) n) a b ∙ array_of n (low d false s p)
  node_facts (Listed b) f e h = let x = bounded b.value f.exponent f.admitted in list_facts b.value f.exponent e x.power x.log2 h
  node_facts (Variants n) f e h =
      let z : suc (n - 1) ≡ n = let k = f.0 in omega arith in
      enum_facts n e f.0 h
      ∙ sym (ap₂ (λ k l. facts_true (balanced_sum (btree k) l)) (count_cases (treev d s) (walk d true s) (n - 1) p ∙ z) (lows_cases d s (n - 1) p ∙ ap (λ k. lows d true s k p) z))
  node_facts (Payload n) f e h = bad_end h

  payload_facts : (k : Head) (e : ℕ) → opens true (calls_for k) (λ b n. many (walk d b s) n p) ≡ Ok e → facts_of k E S W p ≡ facts_true (product_of (lowers (payload (calls_for k) (tree d s) (walk d false s) p)))
  unfolding facts_of opens payload
  payload_facts Missing e h = bad_end h
  payload_facts Faulty e h = bad_end h
  payload_facts Never e h = bad_end h
  payload_facts Boolean e h = bad_end h
  payload_facts (UInt w) e h = bad_end h
  payload_facts Either e h = bad_end h
  payload_facts Opt e h = bad_end h
  payload_facts (Tuple n) e h = bad_end h
  payload_facts (Array n) e h = bad_end h
  payload_facts (Listed b) e h = bad_end h
  payload_facts (Variants n) e h = bad_end h
  payload_facts (Payload n) e h = row_facts n e h ∙ ap (λ l. facts_true (product_of l)) (sym (lows_kids d s n p))

-- at each record of an accepted file
pub facts_right : (d : ℕ) (v : Bool) (s E S W : List ℕ) (at e : ℕ) → Ends s E → Measured s S W (at + 1) → Fair (head_at s at) → walk d v s at ≡ Ok e → facts_of (head_at s at) E S W (at + 1) ≡ facts_true (low d v s at)
unfolding walk low tree rec_at
facts_right zero false s E S W at e g m f h = bad_end (opened false (rec_at s at) _ e h)
facts_right zero true s E S W at e g m f h = bad_end (opened true (rec_at s at) _ e h)
facts_right (suc d) false s E S W at e g m f h = node_facts d s E S W g (at + 1) m (head_at s at) f e h
facts_right (suc d) true s E S W at e g m f h = payload_facts d s E S W g (at + 1) m (head_at s at) e h
