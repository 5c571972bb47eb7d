-- How the code's loops and calls go by one step, in the form in which its needs ask it.
use Rattle.std.specs.Prelude.{◌≡◌, refl, List, ℕ, zero, suc, ◌+◌, ◌-◌, ◌≤◌, ◌<◌, get_or}
use Rattle.std.proofs.Common.{sym, ap, ◌∙◌, sub-one, arith}
use Rattle.model.specs.Balanced.{BTree, leaf, fork, btree, btree_split_index, grow}
use Rattle.model.proofs.Laws.Balanced.{btree_fork, split_bounds}
use Rattle.table.specs.declared.Facts as facts
use Rattle.table.specs.Facts.{cut, entry, cut_entry, sums, sum, sum_facts}

-- ADDING UP

pub record Summing (E S W : List ℕ) (n p left q a b : ℕ) : Type 0 where
  pub rest : sums E S W n p 0 0 ≡ sums E S W left q a b
  pub small : a ≤ 65537
  pub narrow : b ≤ 65537

one_more : (E S W : List ℕ) (left q a b : ℕ) → 0 < left → sums E S W left q a b ≡ sums E S W (left - 1) (get_or E q 0) (cut (a + entry S q)) (cut (b + entry W q))
unfolding sums
one_more E S W zero q a b h = absurd (omega arith)
one_more E S W (suc left) q a b h = rw sub-one refl

pub summing_next : {E S W : List ℕ} {n p left q a b : ℕ} (x y a' b' q' r : ℕ) → Summing E S W n p left q a b → 0 < left → x ≡ entry S q → a' ≡ cut (a + x) → y ≡ entry W q → b' ≡ cut (b + y) → q' ≡ get_or E q 0 → r ≡ left - 1 → Summing E S W n p r q' a' b'
summing_next {E} {S} {W} {n} {p} {left} {q} {a} {b} x y a' b' q' r s l ex ea ey eb eq er =
    let u : a' ≡ cut (a + entry S q) = ea ∙ ap (λ k. cut (a + k)) ex in
    let v : b' ≡ cut (b + entry W q) = eb ∙ ap (λ k. cut (b + k)) ey in
    record {
      rest = s.rest ∙ one_more E S W left q a b l ∙ (λ i. sums E S W (sym er i) (sym eq i) (sym u i) (sym v i));
      small = omega arith;
      narrow = omega arith;
    }

pub summing_end : {E S W : List ℕ} {n p left q a b : ℕ} → Summing E S W n p left q a b → left ≤ 0 → ◌≡◌ {A = facts.Facts} (record { size = a; width = b }) (sums E S W n p 0 0)
unfolding sums
summing_end {E} {S} {W} {n} {p} {left} {q} {a} {b} s l = sym (s.rest ∙ ap (λ k. sums E S W k q a b) (let z : left ≡ 0 = omega arith in z))

-- what is added up fits
pub sums_small : (E S W : List ℕ) (n p a b : ℕ) → a ≤ 65537 → (sums E S W n p a b).size ≤ 65537
unfolding sums
sums_small E S W zero p a b h = h
sums_small E S W (suc n) p a b h = sums_small E S W n (get_or E p 0) (cut (a + entry S p)) (cut (b + entry W p)) (omega arith)

pub row_small : (E S W : List ℕ) (n p : ℕ) (f : facts.Facts) → f ≡ sums E S W n p 0 0 → n < 65536 → (f.size ≤ 65537) × (n < 65536)
row_small E S W n p f e h = (rw e (sums_small E S W n p 0 0 (omega arith)), h)

-- SUMS

abbrev Small : facts.Facts → Type 0
Small f = (f.size ≤ 65537) × (f.width ≤ 65537)

sum_small : (t : BTree) (E S W : List ℕ) (p : ℕ) → Small (sum_facts t E S W p).1
unfolding sum_facts
sum_small leaf E S W p = (omega arith, omega arith)
sum_small (fork l r) E S W p = (omega arith, omega arith)

pub small_of : (n : ℕ) (E S W : List ℕ) (p : ℕ) (r : ℕ × facts.Facts) → r ≡ sum_facts (btree n) E S W p → (r.1.size ≤ 65537) × (r.1.width ≤ 65537)
small_of n E S W p r e = rw e (sum_small (btree n) E S W p)

pub sum_one : (n : ℕ) (E S W : List ℕ) (p : ℕ) (r : ℕ × facts.Facts) → n ≡ 1 → r ≡ (get_or E p 0, cut_entry S W p) → r ≡ sum_facts (btree n) E S W p
unfolding sum_facts btree grow
sum_one n E S W p r h e = rw h e

pub sum_fork : (n h : ℕ) (E S W : List ℕ) (p : ℕ) (l r : ℕ × facts.Facts) (f : facts.Facts) → 2 ≤ n → h ≡ btree_split_index n → l ≡ sum_facts (btree h) E S W p → r ≡ sum_facts (btree (n - h)) E S W l.0 → f ≡ sum l.1 r.1
    → ◌≡◌ {A = ℕ × facts.Facts} (r.0, f) (sum_facts (btree n) E S W p)
unfolding sum_facts
sum_fork n h E S W p l r f o eh el er ef =
    let second : r ≡ sum_facts (btree (n - h)) E S W (sum_facts (btree h) E S W p).0 = er ∙ ap (λ (k : ℕ × facts.Facts). sum_facts (btree (n - h)) E S W k.0) el in
    (λ i. (r.0, ef i))
    ∙ (λ i. ((second i).0, sum (el i).1 (second i).1))
    ∙ ap (λ k. sum_facts (fork (btree k) (btree (n - k))) E S W p) eh ∙ sym (ap (λ t. sum_facts t E S W p) (btree_fork n o))

-- the two sides of a balanced tree
module _ (n h t : ℕ) where
  pub two : (n ≡ 1 → ⊥) → 1 ≤ n → 2 ≤ n
  two x o = omega arith

  pub share_left : n ≡ t → (n ≡ 1 → ⊥) → 1 ≤ n → n ≤ 65536 → h ≡ btree_split_index n → (h < t) × ((1 ≤ h) × (h ≤ 65536))
  share_left e x o m q = let b = split_bounds n (two x o) in (omega arith, (omega arith, omega arith))

  pub share_sub : (n ≡ 1 → ⊥) → 1 ≤ n → h ≡ btree_split_index n → h ≤ n
  share_sub x o q = let b = split_bounds n (two x o) in omega arith

  pub share_right : n ≡ t → (n ≡ 1 → ⊥) → 1 ≤ n → n ≤ 65536 → h ≡ btree_split_index n → (n - h < t) × ((1 ≤ n - h) × (n - h ≤ 65536))
  share_right e x o m q = let b = split_bounds n (two x o) in (omega arith, (omega arith, omega arith))
