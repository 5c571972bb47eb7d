-- Laws of products in a frame: the parts stand one behind the other, and a product strays where a part of it does; the bits of an integer are its parts.
use Rattle.std.specs.Prelude.{◌≡◌, refl, Bool, true, false, ◌||◌, List, [], ◌∷◌, ◌++◌, ℕ, zero, suc, ◌+◌, ◌*◌, ◌≤◌, ◌<◌, length, take, drop, replicate}
use Rattle.std.proofs.Common.{sym, ap₂, ◌∙◌, arith, add-zero}
use Rattle.std.proofs.Math.Path.{ap}
use Rattle.std.proofs.Math.Bool.{or-false, or_assoc}
use Rattle.std.proofs.Math.Option.{Option, some}
use Rattle.std.proofs.lemmas.List.{length-replicate}
use Rattle.model.specs.Options.{map_o, bind_o, map_m}
use Rattle.model.specs.Balanced.{BTree, leaf, fork, leaves, btree, fold}
use Rattle.model.specs.Structural.{SType, 𝟙, ◌⊕◌, ◌⊗◌, SValue, left, right}
use Rattle.model.specs.Reconstruct.{unfold_tree, as_tuple, as_bit}
use Rattle.model.specs.Frames.{width}
use Rattle.model.proofs.Laws.Balanced.{btree_leaves, size_left, size_right}
use Rattle.model.proofs.Laws.Sizes.{fold_none, width_all, width_product}
use Rattle.bits.specs.Bits.{bits_at}
use Rattle.record.specs.Trees.{bit_row}
use Rattle.accept.specs.Forms.{shape_at, stray_at, tag_at, shapes_at, strays_at}
use Rattle.accept.specs.Laws.Bits.{first_bit, unit_shape, unit_stray, pair_shape, pair_stray, left_shape, right_shape, left_stray, right_stray}

-- PARTS IN A ROW

shapes_split : (n : ℕ) (ts : List SType) (fr : List ℕ) (bit : ℕ) → shapes_at (take n ts) fr bit ++ shapes_at (drop n ts) fr (bit + width_all (take n ts)) ≡ shapes_at ts fr bit
shapes_split zero ts fr bit = ap (shapes_at ts fr) (add-zero bit)
shapes_split (suc n) [] fr bit = refl
shapes_split (suc n) (t ∷ ts) fr bit =
    let e : bit + (width t + width_all (take n ts)) ≡ bit + width t + width_all (take n ts) = omega arith in
    ap {B = List SValue} (λ l. shape_at t fr bit ∷ l) (ap (λ i. shapes_at (take n ts) fr (bit + width t) ++ shapes_at (drop n ts) fr i) e ∙ shapes_split n ts fr (bit + width t))

strays_split : (n : ℕ) (ts : List SType) (fr : List ℕ) (bit : ℕ) → strays_at (take n ts) fr bit || strays_at (drop n ts) fr (bit + width_all (take n ts)) ≡ strays_at ts fr bit
strays_split zero ts fr bit = ap (strays_at ts fr) (add-zero bit)
strays_split (suc n) [] fr bit = refl
strays_split (suc n) (t ∷ ts) fr bit =
    let e : bit + (width t + width_all (take n ts)) ≡ bit + width t + width_all (take n ts) = omega arith in
    or_assoc (stray_at t fr bit) (strays_at (take n ts) fr (bit + width t)) _
    ∙ ap (λ x. stray_at t fr bit || x) (ap (λ i. strays_at (take n ts) fr (bit + width t) || strays_at (drop n ts) fr i) e ∙ strays_split n ts fr (bit + width t))

-- PRODUCTS

pub both_parts : (u v : Option (List SValue)) (xs ys : List SValue) → u ≡ some xs → v ≡ some ys → bind_o u (λ us. map_o (λ vs. us ++ vs) v) ≡ some (xs ++ ys)
both_parts u v xs ys e f = rw (e, f) refl

tree_shapes : (t : BTree) (ts : List SType) (fr : List ℕ) (bit : ℕ) → length ts ≡ leaves t → unfold_tree t (shape_at (fold ◌⊗◌ 𝟙 t ts) fr bit) ≡ some (shapes_at ts fr bit)
unfolding fold unfold_tree
tree_shapes leaf [] fr bit h = absurd (omega arith)
tree_shapes leaf (t ∷ []) fr bit h = refl
tree_shapes leaf (t ∷ (u ∷ ts)) fr bit h = absurd (omega arith)
tree_shapes (fork l r) ts fr bit h =
    let a = fold ◌⊗◌ 𝟙 l (take (leaves l) ts) in
    let b = fold ◌⊗◌ 𝟙 r (drop (leaves l) ts) in
    let w : width a ≡ width_all (take (leaves l) ts) = width_product l (take (leaves l) ts) (size_left l r ts h) in
    ap (unfold_tree (fork l r)) (pair_shape fr bit a b)
    ∙ both_parts _ _ _ _ (tree_shapes l (take (leaves l) ts) fr bit (size_left l r ts h)) (tree_shapes r (drop (leaves l) ts) fr (bit + width a) (size_right l r ts h))
    ∙ ap (λ i. some (shapes_at (take (leaves l) ts) fr bit ++ shapes_at (drop (leaves l) ts) fr (bit + i))) w
    ∙ ap some (shapes_split (leaves l) ts fr bit)

tree_stray : (t : BTree) (ts : List SType) (fr : List ℕ) (bit : ℕ) → length ts ≡ leaves t → stray_at (fold ◌⊗◌ 𝟙 t ts) fr bit ≡ strays_at ts fr bit
unfolding fold
tree_stray leaf [] fr bit h = absurd (omega arith)
tree_stray leaf (t ∷ []) fr bit h = sym (or-false (stray_at t fr bit))
tree_stray leaf (t ∷ (u ∷ ts)) fr bit h = absurd (omega arith)
tree_stray (fork l r) ts fr bit h =
    let a = fold ◌⊗◌ 𝟙 l (take (leaves l) ts) in
    let b = fold ◌⊗◌ 𝟙 r (drop (leaves l) ts) in
    let w : width a ≡ width_all (take (leaves l) ts) = width_product l (take (leaves l) ts) (size_left l r ts h) in
    pair_stray fr bit a b
    ∙ ap₂ ◌||◌ (tree_stray l (take (leaves l) ts) fr bit (size_left l r ts h)) (tree_stray r (drop (leaves l) ts) fr (bit + width a) (size_right l r ts h))
    ∙ ap (λ i. strays_at (take (leaves l) ts) fr bit || strays_at (drop (leaves l) ts) fr (bit + i)) w
    ∙ strays_split (leaves l) ts fr bit

-- the parts of a product stand one behind the other
pub product_shapes : (n : ℕ) (ts : List SType) (fr : List ℕ) (bit : ℕ) → length ts ≡ n → as_tuple n (shape_at (fold ◌⊗◌ 𝟙 (btree n) ts) fr bit) ≡ some (shapes_at ts fr bit)
product_shapes zero [] fr bit h = refl
product_shapes zero (t ∷ ts) fr bit h = absurd (omega arith)
product_shapes (suc n) ts fr bit h = tree_shapes (btree (suc n)) ts fr bit (h ∙ sym (btree_leaves (suc n) (omega arith)))

-- it strays where one of them does
pub product_stray : (n : ℕ) (ts : List SType) (fr : List ℕ) (bit : ℕ) → length ts ≡ n → stray_at (fold ◌⊗◌ 𝟙 (btree n) ts) fr bit ≡ strays_at ts fr bit
product_stray zero [] fr bit h = ap (λ t. stray_at t fr bit) (fold_none ◌⊗◌ 𝟙) ∙ unit_stray fr bit
product_stray zero (t ∷ ts) fr bit h = absurd (omega arith)
product_stray (suc n) ts fr bit h = tree_stray (btree (suc n)) ts fr bit (h ∙ sym (btree_leaves (suc n) (omega arith)))

-- BITS

module _ (fr : List ℕ) where
  pub bit_shape : (bit : ℕ) → bit < 8 * length fr → as_bit (shape_at (𝟙 ⊕ 𝟙) fr bit) ≡ some (tag_at fr bit)
  bit_shape bit h = go (tag_at fr bit) refl
    where
      go : (x : Bool) → tag_at fr bit ≡ x → as_bit (shape_at (𝟙 ⊕ 𝟙) fr bit) ≡ some x
      go true e = ap as_bit (right_shape fr bit 𝟙 𝟙 h e ∙ ap {B = SValue} right (unit_shape fr (bit + 1)))
      go false e = ap as_bit (left_shape fr bit 𝟙 𝟙 h e ∙ ap {B = SValue} left (unit_shape fr (bit + 1)))

  bit_stray : (bit : ℕ) → bit < 8 * length fr → stray_at (𝟙 ⊕ 𝟙) fr bit ≡ false
  bit_stray bit h = go (tag_at fr bit) refl
    where
      go : (x : Bool) → tag_at fr bit ≡ x → stray_at (𝟙 ⊕ 𝟙) fr bit ≡ false
      go true e = right_stray fr bit 𝟙 𝟙 h e ∙ unit_stray fr (bit + 1)
      go false e = left_stray fr bit 𝟙 𝟙 h e ∙ unit_stray fr (bit + 1)

  bits_row : (n bit : ℕ) → bit + n ≤ 8 * length fr → map_m as_bit (shapes_at (replicate n (𝟙 ⊕ 𝟙)) fr bit) ≡ some (bits_at fr bit n)
  bits_row zero bit h = refl
  bits_row (suc n) bit h = rw (bit_shape bit (omega arith), bits_row n (bit + 1) (omega arith)) (ap some (sym (first_bit fr bit n (omega arith))))

  bits_stray : (n bit : ℕ) → bit + n ≤ 8 * length fr → strays_at (replicate n (𝟙 ⊕ 𝟙)) fr bit ≡ false
  bits_stray zero bit h = refl
  bits_stray (suc n) bit h = ap₂ ◌||◌ (bit_stray bit (omega arith)) (bits_stray n (bit + 1) (omega arith))

  -- a product of bits is read as they stand there
  pub integer_bits : (n bit : ℕ) → bit + n ≤ 8 * length fr → bit_row n (shape_at (fold ◌⊗◌ 𝟙 (btree n) (replicate n (𝟙 ⊕ 𝟙))) fr bit) ≡ some (bits_at fr bit n)
  unfolding bit_row
  integer_bits n bit h = ap (λ o. bind_o o (λ xs. map_m as_bit xs)) (product_shapes n (replicate n (𝟙 ⊕ 𝟙)) fr bit (length-replicate n (𝟙 ⊕ 𝟙))) ∙ bits_row n bit h

  -- and never strays
  pub integer_stray : (n bit : ℕ) → bit + n ≤ 8 * length fr → stray_at (fold ◌⊗◌ 𝟙 (btree n) (replicate n (𝟙 ⊕ 𝟙))) fr bit ≡ false
  integer_stray n bit h = product_stray n (replicate n (𝟙 ⊕ 𝟙)) fr bit (length-replicate n (𝟙 ⊕ 𝟙)) ∙ bits_stray n bit h
