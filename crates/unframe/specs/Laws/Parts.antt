-- The records of products and lists that stand in a frame: those of their parts, one behind the other.
use Rattle.std.specs.Prelude.{◌≡◌, Bool, true, false, length, replicate}
use Rattle.std.proofs.Math.Path.{refl, ap, ap₂}
use Rattle.std.proofs.Common.{sym, ◌∙◌, length-append}
use mathlib.Core.List.{List, [], ◌∷◌, ◌++◌, append_assoc}
use Rattle.std.proofs.Math.Option.{Option, none, some}
use Prim.Native.Nat.{ℕ, zero, suc, ◌+◌, ◌-◌, ◌*◌, ◌^◌, ◌≤◌}
use native.Mathlib.Omega.{arith}
use Rattle.std.proofs.lemmas.List.{length-replicate}
use Rattle.num.specs.declared.NonZeroPow2Usize.{NonZeroPow2Usize}
use Rattle.num.specs.Powers.{bound_log2}
use Rattle.model.specs.Options.{map_o, bind_o}
use Rattle.model.specs.Balanced.{btree, fold}
use Rattle.model.specs.Structural.{SType, 𝟙, ◌⊗◌, SValue, block_type}
use Rattle.model.specs.ValueFiles.{Rec}
use Rattle.model.specs.Frames.{width}
use Rattle.model.proofs.Laws.Sizes.{width_block}
use Rattle.structural.specs.Forms as structural
use Rattle.types.specs.declared.forms.Parts.{Parts}
use Rattle.types.specs.declared.forms.Parts.TheVariants.{Copies}
use Rattle.told.specs.Forms.{after}
use Rattle.record.specs.Trees.{part, product, elements, numbered}
use Rattle.record.specs.Trees as trees
use Rattle.accept.specs.Forms.{shape_at, shapes_at, tag_at, types_in, block_at, elements_at}
use Rattle.accept.specs.Laws.Products.{product_shapes}
use Rattle.accept.specs.Laws.Lists.{list_shapes}
use Rattle.accept.specs.Laws.Seen.{length_types, length_shapes, types_copies}
use Rattle.unframe.specs.Forms.{standing, both, row, block, both_numbered, blocks, listed}

-- PRODUCTS

row_shapes : (k : Parts) (d : ℕ) (s : List ℕ) (n p : ℕ) (fr : List ℕ) (bit : ℕ) → trees.row k d s n p (shapes_at (types_in k d s n p) fr bit) ≡ row k d s n p fr bit
unfolding trees.row types_in row standing
row_shapes k d s zero p fr bit = refl
row_shapes k d s (suc n) p fr bit = ap (both (standing d s p fr bit)) (row_shapes k d s n (after k d s p) fr (bit + width (structural.standing d s p)))

-- the parts of a product
pub product_row : (k : Parts) (d : ℕ) (s : List ℕ) (n p : ℕ) (fr : List ℕ) (bit : ℕ) → product k d s n p (shape_at (fold ◌⊗◌ 𝟙 (btree n) (types_in k d s n p)) fr bit) ≡ row k d s n p fr bit
unfolding product
product_row k d s n p fr bit = ap (λ o. bind_o o (λ xs. trees.row k d s n p xs)) (product_shapes n (types_in k d s n p) fr bit (length_types k d s n p)) ∙ row_shapes k d s n p fr bit

-- LISTS

module _ (d : ℕ) (s : List ℕ) (p : ℕ) where
  -- elements and their number
  abbrev copies : List SValue → Option (ℕ × List Rec)
  copies xs = numbered (length xs) (trees.row Copies d s (length xs) p xs)

  row_append : (xs ys : List SValue) → trees.row Copies d s (length (xs ++ ys)) p (xs ++ ys) ≡ both (trees.row Copies d s (length xs) p xs) (trees.row Copies d s (length ys) p ys)
  unfolding trees.row after
  row_append [] ys = go (trees.row Copies d s (length ys) p ys)
    where
      go : (o : Option (List Rec)) → o ≡ map_o (λ ys. [] ++ ys) o
      go none = refl
      go (some rs) = refl
  row_append (x ∷ xs) ys = ap (both (part d s p x)) (row_append xs ys) ∙ go (part d s p x) (trees.row Copies d s (length xs) p xs) (trees.row Copies d s (length ys) p ys)
    where
      go : (o u v : Option (List Rec)) → both o (both u v) ≡ both (both o u) v
      go none u v = refl
      go (some rs) none v = refl
      go (some rs) (some us) none = refl
      go (some rs) (some us) (some vs) = ap some (sym (append_assoc rs us vs))

  copies_append : (xs ys : List SValue) → copies (xs ++ ys) ≡ both_numbered (copies xs) (copies ys)
  copies_append xs ys = ap₂ numbered (length-append xs ys) (row_append xs ys) ∙ go (length xs) (length ys) (trees.row Copies d s (length xs) p xs) (trees.row Copies d s (length ys) p ys)
    where
      go : (m n : ℕ) (u v : Option (List Rec)) → numbered (m + n) (both u v) ≡ both_numbered (numbered m u) (numbered n v)
      go m n none v = refl
      go m n (some us) none = refl
      go m n (some us) (some vs) = refl

  copies_row : (n : ℕ) (fr : List ℕ) (bit : ℕ) → copies (shapes_at (replicate n (structural.standing d s p)) fr bit) ≡ numbered n (row Copies d s n p fr bit)
  copies_row n fr bit =
      let ts = replicate n (structural.standing d s p) in
      ap (λ m. numbered m (trees.row Copies d s m p (shapes_at ts fr bit))) (length_shapes ts fr bit ∙ length-replicate n (structural.standing d s p))
      ∙ ap (λ ts. numbered n (trees.row Copies d s n p (shapes_at ts fr bit))) (sym (types_copies d s p n))
      ∙ ap (numbered n) (row_shapes Copies d s n p fr bit)

  block_copies : (n : ℕ) (fr : List ℕ) (bit : ℕ) → copies (block_at n (structural.standing d s p) fr bit) ≡ block d s n p fr bit
  unfolding block_at block trees.row
  block_copies n fr bit = go (tag_at fr bit)
    where
      t : SType
      t = structural.standing d s p

      go : (x : Bool) → copies (elim x [ false ↦ [] | true ↦ shapes_at (replicate n t) fr (bit + 1) ]) ≡ elim x [ false ↦ some (0, []) | true ↦ numbered n (row Copies d s n p fr (bit + 1)) ]
      go false = refl
      go true = copies_row n fr (bit + 1)

  blocks_copies : (e : ℕ) (fr : List ℕ) (bit : ℕ) → copies (elements_at e (structural.standing d s p) fr bit) ≡ blocks d s e p fr bit
  unfolding elements_at blocks
  blocks_copies zero fr bit = block_copies 1 fr bit
  blocks_copies (suc e) fr bit =
      let t = structural.standing d s p in
      let n = 2 ^ suc e in
      let i : bit + width (block_type n t) ≡ bit + 1 + n * width t = ap (λ w. bit + w) (width_block n t) ∙ omega arith in
      copies_append (block_at n t fr bit) (elements_at e t fr (bit + width (block_type n t)))
      ∙ ap₂ both_numbered (block_copies n fr bit) (ap (λ b. copies (elements_at e t fr b)) i ∙ blocks_copies e fr (bit + 1 + n * width t))

  -- the elements of a list
  pub elements_listed : (b : NonZeroPow2Usize) (fr : List ℕ) (bit : ℕ) → bit + width (structural.listed d s b p) ≤ 8 * length fr → elements d s b p (shape_at (structural.listed d s b p) fr bit) ≡ listed d s b p fr bit
  unfolding elements listed structural.listed
  elements_listed b fr bit h =
      let e = bound_log2 b.value - 1 in
      ap (λ o. bind_o o copies) (list_shapes e (structural.standing d s p) fr bit h) ∙ blocks_copies e fr bit
