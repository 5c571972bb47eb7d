-- Laws of lists in a frame, as code reads them: a block of 1, or a block of half the bound and the list with that bound.
use Rattle.std.specs.Prelude.{◌≡◌, refl, Bool, ℕ, zero, suc, ◌+◌, ◌-◌, ◌*◌, ◌^◌, ◌≤◌, ◌<◌, Some, None}
use Rattle.std.proofs.Common.{sym, ◌∙◌, sub-one, arith}
use Rattle.std.proofs.Math.Path.{ap}
use Rattle.std.proofs.Math.Bool.{true, false}
use mathlib.Core.List.{List, [], append-nil}
use Rattle.std.proofs.Math.Option.{Option, none, some, some-injective}
use Rattle.std.proofs.Math.Nat.{two-pow-succ}
use Rattle.num.specs.declared.NonZeroPow2Usize.{NonZeroPow2Usize}
use Rattle.num.specs.Powers.{bound_log2, half_bound}
use Rattle.num.specs.Laws.{no_half, HalfOf, half_of}
use Rattle.model.specs.Structural.{block_type}
use Rattle.model.specs.ValueFiles.{Rec}
use Rattle.model.specs.Frames.{width}
use Rattle.model.proofs.Laws.Options.{bind_o_some, map_o_some}
use Rattle.model.proofs.Laws.Sizes.{width_block, width_partition_zero, width_partition_suc}
use Rattle.types.specs.Heads.{fair_bound_of}
use Rattle.structural.specs.Forms as structural
use Rattle.structural.proofs.Laws.Bounds.{Power, power_of}
use Rattle.types.specs.declared.forms.Parts.{Parts}
use Rattle.types.specs.declared.forms.Parts.TheVariants.{Copies}
use Rattle.record.specs.Trees.{numbered}
use Rattle.accept.specs.Forms.{tag_at}
use Rattle.unframe.specs.Forms.{standing, both, row, block, both_numbered, blocks, listed}

-- BLOCKS

-- a row of one is that one
pub row_one : (k : Parts) (d : ℕ) (s : List ℕ) (p : ℕ) (fr : List ℕ) (bit : ℕ) → row k d s 1 p fr bit ≡ standing d s p fr bit
unfolding row
row_one k d s p fr bit = go (standing d s p fr bit)
  where
    go : (o : Option (List Rec)) → both o (some []) ≡ o
    go none = refl
    go (some rs) = ap some (append-nil rs)

module _ (d : ℕ) (s : List ℕ) (n p : ℕ) (fr : List ℕ) (bit : ℕ) where
  at_tag : (x : Bool) → tag_at fr bit ≡ x → block d s n p fr bit ≡ elim x [ false ↦ some (0, []) | true ↦ numbered n (row Copies d s n p fr (bit + 1)) ]
  unfolding block
  at_tag x e = ap {B = Option (ℕ × List Rec)} (λ x. elim x [ false ↦ some (0, []) | true ↦ numbered n (row Copies d s n p fr (bit + 1)) ]) e

  pub block_none : tag_at fr bit ≡ false → block d s n p fr bit ≡ some (0, [])
  block_none e = at_tag false e

  pub block_all : tag_at fr bit ≡ true → block d s n p fr bit ≡ numbered n (row Copies d s n p fr (bit + 1))
  block_all e = at_tag true e

  -- no more than all
  block_below : (y : ℕ × List Rec) → block d s n p fr bit ≡ some y → y.0 ≤ n
  block_below y h = go (tag_at fr bit) refl
    where
      go : (x : Bool) → tag_at fr bit ≡ x → y.0 ≤ n
      go false e = let f = some-injective _ _ (sym (block_none e) ∙ h) in omega (arith, ap (λ (y : ℕ × List Rec). y.0) f)
      go true e = let (rs, i, f) = map_o_some (λ rs. (n, rs)) (row Copies d s n p fr (bit + 1)) y (sym (block_all e) ∙ h) in omega (arith, ap (λ (y : ℕ × List Rec). y.0) f)

-- LISTS

-- a list has fewer elements than its bound
blocks_below : (d : ℕ) (s : List ℕ) (e p : ℕ) (fr : List ℕ) (bit : ℕ) (y : ℕ × List Rec) → blocks d s e p fr bit ≡ some y → y.0 < 2 ^ suc e
unfolding blocks
blocks_below d s zero p fr bit y h = omega (arith, block_below d s 1 p fr bit y h)
blocks_below d s (suc e) p fr bit y h =
    let (a, i, f) = bind_o_some (block d s (2 ^ suc e) p fr bit) _ y h in
    let (b, j, g) = map_o_some _ (blocks d s e p fr (bit + 1 + 2 ^ suc e * width (structural.standing d s p))) y f in
    omega (arith, block_below d s (2 ^ suc e) p fr bit a i, blocks_below d s e p fr (bit + 1 + 2 ^ suc e * width (structural.standing d s p)) b j, ap (λ (y : ℕ × List Rec). y.0) g, two-pow-succ (suc e))

pub listed_below : (d : ℕ) (s : List ℕ) (p : ℕ) (fr : List ℕ) (bit : ℕ) (y : ℕ × List Rec) (b : NonZeroPow2Usize) → listed d s b p fr bit ≡ some y → y.0 < b.value
unfolding listed
listed_below d s p fr bit y b h =
    let f = fair_bound_of b in
    let k = power_of b in
    let e : suc (bound_log2 b.value - 1) ≡ suc f.exponent = omega (arith, k.log2) in
    rw (k.power, ← e) (blocks_below d s (bound_log2 b.value - 1) p fr bit y h)

-- with the bound 2 a list is a block of 1
pub record Two (b : NonZeroPow2Usize) (d : ℕ) (s : List ℕ) (p : ℕ) : Type 0 where
  pub wide : width (structural.listed d s b p) ≡ width (block_type 1 (structural.standing d s p))
  pub same : (fr : List ℕ) (bit : ℕ) → listed d s b p fr bit ≡ block d s 1 p fr bit

pub list_two : {b : NonZeroPow2Usize} (d : ℕ) (s : List ℕ) (p : ℕ) → None ≡ half_bound b → Two b d s p
unfolding listed blocks structural.listed
list_two d s p h =
    let k = no_half h in
    record { wide = rw k.log2 (omega (arith, width_partition_zero (structural.standing d s p), width_block 1 (structural.standing d s p))); same = λ fr bit. ap (λ m. blocks d s (m - 1) p fr bit) k.log2 }

-- with a larger one it is a block of the half, and the list with that bound
pub record Halved (b h : NonZeroPow2Usize) (d : ℕ) (s : List ℕ) (p : ℕ) : Type 0 where
  pub less : h.value < b.value
  pub wide : width (structural.listed d s b p) ≡ suc (h.value * width (structural.standing d s p)) + width (structural.listed d s h p)
  pub same : (fr : List ℕ) (bit : ℕ) → listed d s b p fr bit ≡ both_numbered (block d s h.value p fr bit) (listed d s h p fr (bit + 1 + h.value * width (structural.standing d s p)))

pub list_more : {b h : NonZeroPow2Usize} (d : ℕ) (s : List ℕ) (p : ℕ) → Some h ≡ half_bound b → Halved b h d s p
unfolding listed blocks structural.listed
list_more {b} {h} d s p q = go (half_of q)
  where
    go : HalfOf b h → Halved b h d s p
    go k = record {
      less = k.less;
      wide = rw (k.log2_twice, k.log2, k.power, sub-one, sub-one) (width_partition_suc k.exponent (structural.standing d s p));
      same = λ fr bit. rw (k.log2_twice, k.log2, k.power, sub-one, sub-one) refl;
    }
