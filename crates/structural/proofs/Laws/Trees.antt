-- Laws of balanced trees of parts, as code writes them: none, one, or the two sides of the tree, each of the parts that are its share.
use Rattle.std.specs.Prelude.{◌≡◌, true, length, replicate}
use Rattle.std.proofs.Math.Path.{refl, ap, ap₂}
use Rattle.std.proofs.Common.{sym, subst, ◌∙◌, zero-add, suc-add}
use mathlib.Core.List.{List, [], ◌∷◌, ◌++◌}
use Prim.Native.Nat.{ℕ, zero, suc, ◌+◌, ◌-◌, ◌≤◌, ◌<◌}
use native.Mathlib.Omega.{arith}
use Rattle.std.proofs.Math.ListN.{take, drop}
use Rattle.std.proofs.lemmas.List.{length-replicate}
use Rattle.model.specs.Balanced.{btree_split_index, btree, fold}
use Rattle.model.specs.Structural.{SType, 𝟙, ◌⊕◌, ◌⊗◌, product_of, type_records}
use Rattle.model.proofs.Laws.Balanced.{split_bounds}
use Rattle.model.proofs.Laws.Sizes.{fold_none, fold_one, fold_step}
use Rattle.structural.specs.declared.Parts.{Parts}
use Rattle.structural.specs.declared.Parts.TheVariants.{Bits, Copies, Types, Choices}
use Rattle.structural.specs.Forms.{Room, standing, Stands, joint_of, join, all_same, part, after, skip, row, balanced, GivenPart, GivenParts}
use Rattle.structural.proofs.Laws.Writing.{Fork}

-- every type has a record
pub room_some : (t : SType) (out : List ℕ) → Room t out → 0 < length out
unfolding type_records
room_some 𝟙 out h = omega arith
room_some (a ⊕ b) out h = omega arith
room_some (a ⊗ b) out h = omega arith

-- ROWS OF PARTS

module _ (k : Parts) (d : ℕ) (s : List ℕ) where
  pub skip_add : (m n p : ℕ) → skip k d s (m + n) p ≡ skip k d s n (skip k d s m p)
  unfolding skip
  skip_add zero n p = ap (λ i. skip k d s i p) (zero-add n)
  skip_add (suc m) n p = ap (λ i. skip k d s i p) (suc-add m n) ∙ skip_add m n (after k d s p)

  take_row : (m n p : ℕ) → take m (row k d s (m + n) p) ≡ row k d s m p
  unfolding row
  take_row zero n p = refl
  take_row (suc m) n p = rw (suc-add m n) (ap {B = List SType} (λ l. part k d s p ∷ l) (take_row m n (after k d s p)))

  drop_row : (m n p : ℕ) → drop m (row k d s (m + n) p) ≡ row k d s n (skip k d s m p)
  unfolding row skip
  drop_row zero n p = ap (λ i. row k d s i p) (zero-add n)
  drop_row (suc m) n p = rw (suc-add m n) (drop_row m n (after k d s p))

  -- all at one place
  pub row_stays : ((q : ℕ) → after k d s q ≡ q) → (n p : ℕ) → row k d s n p ≡ replicate n (part k d s p)
  unfolding row
  row_stays h zero p = refl
  row_stays h (suc n) p = ap {B = List SType} (λ l. part k d s p ∷ l) (ap (λ q. row k d s n q) (h p) ∙ row_stays h n p)

  skip_stays : ((q : ℕ) → after k d s q ≡ q) → (n p : ℕ) → skip k d s n p ≡ p
  unfolding skip
  skip_stays h zero p = refl
  skip_stays h (suc n) p = ap (λ q. skip k d s n q) (h p) ∙ skip_stays h n p

  pub balanced_none : (p : ℕ) → balanced k d s 0 p ≡ 𝟙
  unfolding balanced row
  balanced_none p = fold_none (join k) 𝟙

  pub balanced_one : (p : ℕ) → balanced k d s 1 p ≡ part k d s p
  unfolding balanced row
  balanced_one p = fold_one (join k) 𝟙 (part k d s p) []

  balanced_step : (n p : ℕ) → 2 ≤ n → balanced k d s n p ≡ join k (balanced k d s (btree_split_index n) p) (balanced k d s (n - btree_split_index n) (skip k d s (btree_split_index n) p))
  unfolding balanced
  balanced_step n p h =
      let m = btree_split_index n in
      let b = split_bounds n h in
      let e : n ≡ m + (n - m) = omega arith in
      fold_step (join k) 𝟙 n h (row k d s n p)
      ∙ ap₂ (λ x y. join k (fold (join k) 𝟙 (btree m) x) (fold (join k) 𝟙 (btree (n - m)) y)) (ap (λ i. take m (row k d s i p)) e ∙ take_row m (n - m) p) (ap (λ i. drop m (row k d s i p)) e ∙ drop_row m (n - m) p)

records_join : (k : Parts) (a b : SType) → type_records (join k a b) ≡ joint_of k ∷ (type_records a ++ type_records b)
unfolding type_records
records_join Bits a b = refl
records_join Copies a b = refl
records_join Types a b = refl
records_join Choices a b = refl

-- a tree of two parts or more joins its sides
pub tree_join : (k : Parts) (d : ℕ) (s : List ℕ) (n few p q : ℕ) → few ≡ btree_split_index n → (n ≡ 0 → ⊥) → (n ≡ 1 → ⊥) → q ≡ skip k d s few p → balanced k d s n p ≡ join k (balanced k d s few p) (balanced k d s (n - few) q)
tree_join k d s n few p q e z o g = rw (g, e) (balanced_step k d s n p (omega arith))

-- and is written as the record that joins them, the left side and the right side
pub tree_fork : (k : Parts) (d : ℕ) (s : List ℕ) (p : ℕ) {n few q b : ℕ} {out : List ℕ} → few ≡ btree_split_index n → (n ≡ 0 → ⊥) → (n ≡ 1 → ⊥) → b ≡ joint_of k → q ≡ skip k d s few p → Room (balanced k d s n p) out
    → Fork b (type_records (balanced k d s few p)) (type_records (balanced k d s (n - few) q)) (type_records (balanced k d s n p)) out
tree_fork k d s p {n} {few} {q} e z o j g r = record { same = rw j (ap type_records (tree_join k d s n few p q e z o g) ∙ records_join k _ _); room = r }

-- the right side stands where the left side ends
pub tree_start : (k : Parts) (d : ℕ) (s : List ℕ) (p : ℕ) {n few b : ℕ} {out : List ℕ} → few ≡ btree_split_index n → (n ≡ 0 → ⊥) → (n ≡ 1 → ⊥) → b ≡ joint_of k → Room (balanced k d s n p) out
    → Fork b (type_records (balanced k d s few p)) (type_records (balanced k d s (n - few) (skip k d s few p))) (type_records (balanced k d s n p)) out
tree_start k d s p e z o j r = tree_fork k d s p e z o j refl r

-- PARTS THAT ARE THE SAME

same_after : (k : Parts) (d : ℕ) (s : List ℕ) → all_same k ≡ true → (q : ℕ) → after k d s q ≡ q
unfolding after
same_after Bits d s h q = refl
same_after Copies d s h q = refl
same_after Types d s h q = absurd (let z : ◌≡◌ {A = ℕ} 0 1 = cc in omega arith)
same_after Choices d s h q = absurd (let z : ◌≡◌ {A = ℕ} 0 1 = cc in omega arith)

-- where they stand, there is what is after them
pub skip_same : (k : Parts) (d : ℕ) (s : List ℕ) (n p : ℕ) → all_same k ≡ true → skip k d s n p ≡ p
skip_same k d s n p h = skip_stays k d s (same_after k d s h) n p

-- sides of as many parts are the same side twice
pub tree_twice : (k : Parts) (d : ℕ) (s : List ℕ) (p : ℕ) {n few b : ℕ} {out : List ℕ} → few ≡ btree_split_index n → (n ≡ 0 → ⊥) → (n ≡ 1 → ⊥) → b ≡ joint_of k → all_same k ≡ true → few ≡ n - few → Room (balanced k d s n p) out
    → Fork b (type_records (balanced k d s few p)) (type_records (balanced k d s few p)) (type_records (balanced k d s n p)) out
tree_twice k d s p {n} {few} {b} {out} e z o j h m r = subst (λ i. Fork b (type_records (balanced k d s few p)) (type_records (balanced k d s i p)) (type_records (balanced k d s n p)) out) (sym m) (tree_fork k d s p e z o j (sym (skip_same k d s few p h)) r)

-- their tree is an array's
pub same_parts : (k : Parts) (d : ℕ) (s : List ℕ) (n p : ℕ) → all_same k ≡ true → balanced k d s n p ≡ product_of (replicate n (part k d s p))
unfolding balanced
same_parts k d s n p h =
    ap (fold (join k) 𝟙 (btree n)) (row_stays k d s (same_after k d s h) n p)
    ∙ ap₂ (λ (f : SType → SType → SType) (i : ℕ). fold f 𝟙 (btree i) (replicate n (part k d s p))) (pairs k h) (sym (length-replicate n (part k d s p)))
  where
    pairs : (k : Parts) → all_same k ≡ true → join k ≡ ◌⊗◌
    pairs Bits h = refl
    pairs Copies h = refl
    pairs Types h = absurd (let z : ◌≡◌ {A = ℕ} 0 1 = cc in omega arith)
    pairs Choices h = absurd (let z : ◌≡◌ {A = ℕ} 0 1 = cc in omega arith)

-- all copies of what stands at p
pub copies : (d : ℕ) (s : List ℕ) (n p : ℕ) → balanced Copies d s n p ≡ product_of (replicate n (standing d s p))
unfolding part
copies d s n p = same_parts Copies d s n p refl

-- WHAT IS KNOWN OF PARTS

module _ {k : Parts} {d : ℕ} {s E : List ℕ} {n p : ℕ} (g : GivenParts k d s E n p) where
  pub given_one : 1 ≤ n → GivenPart k d s E p
  unfolding skip
  given_one h = g.each 0 h

  pub given_left : (m : ℕ) → m ≤ n → GivenParts k d s E m p
  given_left m h = record { each = λ i l. g.each i (omega arith) }

  pub given_right : (m : ℕ) → m ≤ n → GivenParts k d s E (n - m) (skip k d s m p)
  given_right m h = record { each = λ i l. rw (← skip_add k d s m i p) (g.each (m + i) (omega arith)) }

pub given_copies : {d : ℕ} {s E : List ℕ} {p : ℕ} (n : ℕ) → Stands d s E p → GivenParts Copies d s E n p
unfolding after
given_copies {d} {s} {E} {p} n g = record { each = λ i l. rw (skip_stays Copies d s (λ q. refl) i p) g }
