-- Laws of lists, as code reads them: a block of 1, or a block of half the bound and the list with that bound.
use Rattle.std.proofs.Math.Path.{◌≡◌, refl}
use Rattle.std.specs.Prelude.{List, Some, None}
use Prim.Native.Nat.{ℕ, ◌-◌, ◌<◌}
use Rattle.std.proofs.Math.Numerals.{sub-one}
use Rattle.num.specs.declared.NonZeroPow2Usize.{NonZeroPow2Usize}
use Rattle.num.specs.Powers.{half_bound}
use Rattle.num.specs.Laws.{no_half, HalfOf, half_of}
use Rattle.rebuild.specs.Kinds.{Readers, lists}
use Rattle.rebuild.specs.Forms.{block_of, listed}

module _ {A : Type 0} (W : Readers A) where
  -- with the bound 2 a list is a block of 1
  pub list_two : (d : ℕ) (s : List ℕ) (p : ℕ) (b : NonZeroPow2Usize) → None ≡ half_bound b → listed W d s b p ≡ block_of W d s 1 p
  unfolding listed block_of lists
  list_two d s p b h = rw (no_half {b = b} h).log2 refl

  -- with a larger one it is a block of the half, and the list with that bound
  pub record Halved (b h : NonZeroPow2Usize) (d : ℕ) (s : List ℕ) (p : ℕ) : Type 0 where
    pub less : h.value < b.value
    pub same : listed W d s b p ≡ W.pairs (block_of W d s h.value p) (listed W d s h p)

  pub list_more : {b h : NonZeroPow2Usize} (d : ℕ) (s : List ℕ) (p : ℕ) → Some h ≡ half_bound b → Halved b h d s p
  unfolding listed block_of lists
  list_more {b} {h} d s p q = go (half_of q)
    where
      go : HalfOf b h → Halved b h d s p
      go k = record { less = k.less; same = rw (k.log2_twice, k.log2, k.power, sub-one, sub-one) refl }
