-- Laws of lists in a frame: a block's tag tells whether its elements stand behind it or zeros; a list is its blocks, one behind the other.
use Rattle.std.specs.Prelude.{◌≡◌, Bool, ℕ, zero, suc, ◌+◌, ◌-◌, ◌*◌, ◌^◌, ◌≤◌, ◌<◌, length, replicate}
use Rattle.std.proofs.Math.Path.{refl, ap, ap₂}
use Rattle.std.proofs.Common.{◌∙◌}
use Rattle.std.proofs.Math.Bool.{true, false, ◌||◌, or-false}
use mathlib.Core.List.{List, []}
use Rattle.std.proofs.Math.Option.{some}
use native.Mathlib.Omega.{arith}
use Rattle.std.proofs.lemmas.List.{length-replicate}
use Rattle.model.specs.Options.{any}
use Rattle.model.specs.Structural.{SType, 𝟙, ◌⊗◌, SValue, left, product_of, block_type, partition_type}
use Rattle.model.specs.Balanced.{btree, fold}
use Rattle.model.specs.Reconstruct.{as_block, as_tuple, combine}
use Rattle.model.specs.Frames.{width}
use Rattle.bits.specs.Bits.{bits_at}
use Rattle.accept.specs.Forms.{shape_at, stray_at, tag_at, shapes_at, strays_at, block_at, block_stray, elements_at, list_stray}
use Rattle.accept.specs.Laws.Bits.{unit_shape, unit_stray, pair_shape, pair_stray, left_shape, right_shape, left_stray, right_stray}
use Rattle.accept.specs.Laws.Products.{both_parts, product_shapes, product_stray}

-- an array of n
module _ (n : ℕ) (t : SType) (fr : List ℕ) (bit : ℕ) where
  abbrev all : SType
  all = product_of (replicate n t)

  array_as : all ≡ fold ◌⊗◌ 𝟙 (btree n) (replicate n t)
  array_as = ap (λ m. fold ◌⊗◌ 𝟙 (btree m) (replicate n t)) (length-replicate n t)

  array_shapes : as_tuple n (shape_at (product_of (replicate n t)) fr bit) ≡ some (shapes_at (replicate n t) fr bit)
  array_shapes = ap (λ a. as_tuple n (shape_at a fr bit)) array_as ∙ product_shapes n (replicate n t) fr bit (length-replicate n t)

  array_stray : stray_at (product_of (replicate n t)) fr bit ≡ strays_at (replicate n t) fr bit
  array_stray = ap (λ a. stray_at a fr bit) array_as ∙ product_stray n (replicate n t) fr bit (length-replicate n t)

-- BLOCKS

module _ (n : ℕ) (t : SType) (fr : List ℕ) (bit : ℕ) (h : bit < 8 * length fr) where
  -- the elements of a block are none or all
  block_shapes : as_block n (shape_at (block_type n t) fr bit) ≡ some (block_at n t fr bit)
  unfolding block_at
  block_shapes = go (tag_at fr bit) refl
    where
      go : (x : Bool) → tag_at fr bit ≡ x → as_block n (shape_at (block_type n t) fr bit) ≡ some (elim x [ false ↦ [] | true ↦ shapes_at (replicate n t) fr (bit + 1) ])
      go false e = ap (as_block n) (left_shape fr bit 𝟙 (all n t fr bit) h e ∙ ap {B = SValue} left (unit_shape fr (bit + 1)))
      go true e = ap (as_block n) (right_shape fr bit 𝟙 (all n t fr bit) h e) ∙ array_shapes n t fr (bit + 1)

  -- what a missing block would take must be zeros
  block_strays : stray_at (block_type n t) fr bit ≡ block_stray n t fr bit
  unfolding block_stray
  block_strays = go (tag_at fr bit) refl
    where
      go : (x : Bool) → tag_at fr bit ≡ x → stray_at (block_type n t) fr bit ≡ elim x [ false ↦ any (bits_at fr (bit + 1) (width (all n t fr bit))) | true ↦ strays_at (replicate n t) fr (bit + 1) ]
      go false e =
          let i : bit + 1 + 0 ≡ bit + 1 = omega arith in
          let j : width (all n t fr bit) - 0 ≡ width (all n t fr bit) = omega arith in
          left_stray fr bit 𝟙 (all n t fr bit) h e ∙ ap₂ ◌||◌ (ap₂ (λ q m. any (bits_at fr q m)) i j) (unit_stray fr (bit + 1)) ∙ or-false (any (bits_at fr (bit + 1) (width (all n t fr bit))))
      go true e =
          let j : 0 - width (all n t fr bit) ≡ 0 = omega arith in
          right_stray fr bit 𝟙 (all n t fr bit) h e ∙ ap (λ m. any (bits_at fr (bit + 1 + width (all n t fr bit)) m) || stray_at (all n t fr bit) fr (bit + 1)) j ∙ array_stray n t fr (bit + 1)

-- LISTS

-- the elements of a list, block by block
pub list_shapes : (e : ℕ) (t : SType) (fr : List ℕ) (bit : ℕ) → bit + width (partition_type e t) ≤ 8 * length fr → combine e (shape_at (partition_type e t) fr bit) ≡ some (elements_at e t fr bit)
unfolding combine partition_type elements_at
list_shapes zero t fr bit h = block_shapes 1 t fr bit (omega arith)
list_shapes (suc e) t fr bit h =
    ap (combine (suc e)) (pair_shape fr bit (block_type (2 ^ suc e) t) (partition_type e t))
    ∙ both_parts _ _ _ _ (block_shapes (2 ^ suc e) t fr bit (omega arith)) (list_shapes e t fr (bit + width (block_type (2 ^ suc e) t)) (omega arith))

pub list_strays : (e : ℕ) (t : SType) (fr : List ℕ) (bit : ℕ) → bit + width (partition_type e t) ≤ 8 * length fr → stray_at (partition_type e t) fr bit ≡ list_stray e t fr bit
unfolding partition_type list_stray
list_strays zero t fr bit h = block_strays 1 t fr bit (omega arith)
list_strays (suc e) t fr bit h =
    pair_stray fr bit (block_type (2 ^ suc e) t) (partition_type e t)
    ∙ ap₂ ◌||◌ (block_strays (2 ^ suc e) t fr bit (omega arith)) (list_strays e t fr (bit + width (block_type (2 ^ suc e) t)) (omega arith))
