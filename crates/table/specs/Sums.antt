-- What the entries of a row of records add up to: the records and bits of what stands there, cut.
use Rattle.std.specs.Prelude.{◌≡◌, List, Bool, get_or, Ok}
use Rattle.std.proofs.Common.{sym, ap, ap₂, ◌∙◌, arith}
use Prim.Native.Nat.{ℕ, zero, suc, ◌+◌, ◌≤◌, max}
use Rattle.model.specs.Balanced.{BTree, leaf, fork, leaves, fold}
use Rattle.model.specs.Structural.{SType, ◌⊕◌, balanced_sum}
use Rattle.model.specs.Frames.{width}
use Rattle.model.proofs.Laws.Sizes.{nodes, nodes_all, width_all}
use Rattle.types.specs.Walks.{many, walk}
use Rattle.types.specs.Table.{Ends}
use Rattle.types.specs.Trees.{end_of}
use Rattle.types.specs.Runs.{up}
use Rattle.types.specs.Lows.{low, lows}
use Rattle.table.specs.declared.Facts as facts
use Rattle.table.specs.Facts.{cut, entry, cut_entry, sums, sum, sum_facts, facts_true, Measured}
use Rattle.table.specs.Rows.{skip, skip_add, take_lows, drop_lows, First, first_of, split_row}

-- CUTTING: what is cut twice is cut once

pub cut_cut : (a : ℕ) → cut (cut a) ≡ cut a
cut_cut a = omega arith

cut_sum : (a x : ℕ) → cut (cut a + cut x) ≡ cut (a + x)
cut_sum a x = omega arith

pub same_facts : {a b c e : ℕ} → a ≡ c → b ≡ e → ◌≡◌ {A = facts.Facts} (record { size = a; width = b }) (record { size = c; width = e })
same_facts p q = λ i. record { size = p i; width = q i }

pub cut_max : (a b : ℕ) → cut (max (cut a) (cut b) + 1) ≡ cut (suc (max a b))
cut_max a b = omega arith

-- the sum's facts, from those of its sides
pub sum_true : (t u : SType) → sum (facts_true t) (facts_true u) ≡ facts_true (t ⊕ u)
sum_true t u = same_facts (omega arith) (cut_max (width t) (width u))

module _ (d : ℕ) (v : Bool) (s E S W : List ℕ) (g : Ends s E) (low_place : ℕ) (m : Measured s S W low_place) where
  pub entry_size : (p e : ℕ) → low_place ≤ p → walk d v s p ≡ Ok e → entry S p ≡ cut (nodes (low d v s p))
  entry_size p e l h = ap cut (m.size p d e v l h) ∙ cut_cut (nodes (low d v s p))

  pub entry_width : (p e : ℕ) → low_place ≤ p → walk d v s p ≡ Ok e → entry W p ≡ cut (width (low d v s p))
  entry_width p e l h = ap cut (m.width p d e v l h) ∙ cut_cut (width (low d v s p))

  pub next_place : (p e : ℕ) → walk d v s p ≡ Ok e → get_or E p 0 ≡ end_of (walk d v s p)
  next_place p e h = g.at_each p d e v h ∙ sym (ap end_of h)

  pub further : (p e : ℕ) → low_place ≤ p → walk d v s p ≡ Ok e → low_place ≤ end_of (walk d v s p)
  further p e l h = rw h (let k = up d v s p e h in omega arith)

  -- added up from a and b on
  pub sums_right : (n p e a b : ℕ) → low_place ≤ p → many (walk d v s) n p ≡ Ok e → sums E S W n p (cut a) (cut b) ≡ record { size = cut (a + nodes_all (lows d v s n p)); width = cut (b + width_all (lows d v s n p)) }
  unfolding sums lows
  sums_right zero p e a b l h = same_facts (omega arith) (omega arith)
  sums_right (suc n) p e a b l h = go (first_of d v s n p e h) (sums_right n)
    where
      x : ℕ
      x = nodes (low d v s p)

      y : ℕ
      y = width (low d v s p)

      q : ℕ
      q = end_of (walk d v s p)

      go : First d v s n p e → ((p e a b : ℕ) → low_place ≤ p → many (walk d v s) n p ≡ Ok e → sums E S W n p (cut a) (cut b) ≡ record { size = cut (a + nodes_all (lows d v s n p)); width = cut (b + width_all (lows d v s n p)) })
          → sums E S W n (get_or E p 0) (cut (cut a + entry S p)) (cut (cut b + entry W p)) ≡ record { size = cut (a + (x + nodes_all (lows d v s n q))); width = cut (b + (y + width_all (lows d v s n q))) }
      go f ih =
          let here : get_or E p 0 ≡ q = next_place p f.end f.walks in
          let size : cut (cut a + entry S p) ≡ cut (a + x) = ap (λ k. cut (cut a + k)) (entry_size p f.end l f.walks) ∙ cut_sum a x in
          let wide : cut (cut b + entry W p) ≡ cut (b + y) = ap (λ k. cut (cut b + k)) (entry_width p f.end l f.walks) ∙ cut_sum b y in
          (λ i. sums E S W n (here i) (size i) (wide i)) ∙ ih q e (a + x) (b + y) (further p f.end l f.walks) f.rest ∙ same_facts (omega arith) (omega arith)

  pub entry_facts : (p e : ℕ) → low_place ≤ p → walk d v s p ≡ Ok e → cut_entry S W p ≡ facts_true (low d v s p)
  entry_facts p e l h = same_facts (entry_size p e l h) (entry_width p e l h)

  -- the place after what stands in a row, and the facts of the sum of it
  pub sum_right : (t : BTree) (p e : ℕ) → low_place ≤ p → many (walk d v s) (leaves t) p ≡ Ok e
      → (sum_facts t E S W p ≡ (skip d v s (leaves t) p, facts_true (balanced_sum t (lows d v s (leaves t) p)))) × (low_place ≤ skip d v s (leaves t) p)
  unfolding sum_facts lows skip fold
  sum_right leaf p e l h =
      let f = first_of d v s 0 p e h in
      (ap₂ {C = ℕ × facts.Facts} (λ x y. (x, y)) (next_place p f.end f.walks) (entry_facts p f.end l f.walks), further p f.end l f.walks)
  sum_right (fork x y) p e l h =
      let (h1, h2) = split_row d v s (leaves x) (leaves y) p e h in
      go (sum_right x p (skip d v s (leaves x) p) l h1) (λ k. sum_right y (skip d v s (leaves x) p) e k h2)
    where
      q : ℕ
      q = skip d v s (leaves x) p

      tx : SType
      tx = balanced_sum x (lows d v s (leaves x) p)

      ty : SType
      ty = balanced_sum y (lows d v s (leaves y) q)

      go : (sum_facts x E S W p ≡ (q, facts_true tx)) × (low_place ≤ q) → (low_place ≤ q → (sum_facts y E S W q ≡ (skip d v s (leaves y) q, facts_true ty)) × (low_place ≤ skip d v s (leaves y) q))
          → (sum_facts (fork x y) E S W p ≡ (skip d v s (leaves x + leaves y) p, facts_true (balanced_sum (fork x y) (lows d v s (leaves x + leaves y) p)))) × (low_place ≤ skip d v s (leaves x + leaves y) p)
      go a b =
          let c = b a.1 in
          let j : skip d v s (leaves x + leaves y) p ≡ skip d v s (leaves y) q = skip_add d v s (leaves x) (leaves y) p in
          let second : sum_facts y E S W (sum_facts x E S W p).0 ≡ (skip d v s (leaves y) q, facts_true ty) = ap (λ (k : ℕ × facts.Facts). sum_facts y E S W k.0) a.0 ∙ c.0 in (
            (λ i. ((second i).0, sum (a.0 i).1 (second i).1))
                ∙ ap₂ {C = ℕ × facts.Facts} (λ n f. (n, f)) (sym j) (sum_true tx ty ∙ ap₂ (λ t u. facts_true (balanced_sum x t ⊕ balanced_sum y u)) (sym (take_lows d v s (leaves x) (leaves y) p)) (sym (drop_lows d v s (leaves x) (leaves y) p))),
            rw j c.1,
          )
