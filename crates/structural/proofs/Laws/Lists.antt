-- Laws of lists, as code writes them: a block of 1, or a block of half the bound and the list with that bound.
use Rattle.std.specs.Prelude.{◌≡◌, List, ℕ, suc, ◌-◌, ◌^◌, ◌<◌, Some, None}
use Rattle.std.proofs.Common.{sym, ap, sub-one}
use Rattle.num.specs.declared.NonZeroPow2Usize.{NonZeroPow2Usize}
use Rattle.num.specs.Powers.{half_bound}
use Rattle.num.specs.Laws.{no_half, HalfOf, half_of}
use Rattle.model.specs.Structural.{𝟙, ◌⊕◌, ◌⊗◌, partition_type, type_records}
use Rattle.structural.specs.Forms.{Room, standing, block_of, listed}
use Rattle.structural.proofs.Laws.Writing.{Fork}
use Rattle.structural.proofs.Laws.Trees.{copies}

-- with the bound 2 a list is a block of 1
pub list_two : (d : ℕ) (s : List ℕ) (p : ℕ) (b : NonZeroPow2Usize) → None ≡ half_bound b → listed d s b p ≡ block_of d s 1 p
unfolding listed block_of partition_type
list_two d s p b h = rw (no_half {b = b} h).log2 (ap (λ t. 𝟙 ⊕ t) (sym (copies d s 1 p)))

-- with a larger one it is a block of the half, and the list with that bound
pub record Halved (b h : NonZeroPow2Usize) (d : ℕ) (s : List ℕ) (p : ℕ) : Type 0 where
  pub less : h.value < b.value
  pub same : listed d s b p ≡ block_of d s h.value p ⊗ listed d s h p

pub list_more : {b h : NonZeroPow2Usize} (d : ℕ) (s : List ℕ) (p : ℕ) → Some h ≡ half_bound b → Halved b h d s p
unfolding listed block_of partition_type
list_more {b} {h} d s p q = go (half_of q)
  where
    go : HalfOf b h → Halved b h d s p
    go k = record {
      less = k.less;
      same = rw (k.log2_twice, k.log2, k.power, sub-one, sub-one) (ap (λ t. (𝟙 ⊕ t) ⊗ partition_type k.exponent (standing d s p)) (sym (copies d s (2 ^ suc k.exponent) p)));
    }

-- so it is written as the record of a product, the block and that list
pub record Sides (b h : NonZeroPow2Usize) (d : ℕ) (s : List ℕ) (p n : ℕ) (out : List ℕ) : Type 0 where
  pub less : h.value < b.value
  pub fork : Fork 2 (type_records (block_of d s n p)) (type_records (listed d s h p)) (type_records (listed d s b p)) out

pub list_sides : {b h : NonZeroPow2Usize} {n : ℕ} {out : List ℕ} (d : ℕ) (s : List ℕ) (p : ℕ) → Some h ≡ half_bound b → n ≡ h.value → Room (listed d s b p) out → Sides b h d s p n out
unfolding type_records
list_sides d s p q e r = let h = list_more d s p q in record { less = h.less; fork = record { same = rw e (ap type_records h.same); room = r } }
