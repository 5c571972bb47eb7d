-- The arms of `form_of`, in the form in which the code's needs ask it: what an arm may read.
use Rattle.std.specs.Prelude.{◌≡◌, List, ℕ, ◌/◌, ◌≤◌, ◌<◌, length}
use Rattle.std.proofs.Common.{subst, arith}
use Rattle.num.specs.declared.NonZeroPow2Usize.{NonZeroPow2Usize}
use Rattle.num.specs.declared.Pow2Usize.{Pow2Usize}
use Rattle.types.specs.declared.Head.{Head}
use Rattle.types.specs.declared.Head.TheVariants.{UInt, Either, Opt, Listed, Variants}
use Rattle.told.specs.Forms.{Read}

module _ (h : Head) (val : List ℕ) (v : ℕ) (f : Read h val v) where
  reads_uint : (w : Pow2Usize) → h ≡ UInt w → w.value ≤ 256
  reads_uint w e = subst (λ h. Read h val v) e f

  pub uint_fits : (w : Pow2Usize) (n : ℕ) → h ≡ UInt w → n ≡ w.value → n ≤ 288
  uint_fits w n e i = let l = reads_uint w e in omega arith

  pub reads_either : h ≡ Either → v < length val / 36
  reads_either e = subst (λ h. Read h val v) e f

  pub reads_option : h ≡ Opt → v < length val / 36
  reads_option e = subst (λ h. Read h val v) e f

  pub reads_list : (b : NonZeroPow2Usize) → h ≡ Listed b → v < length val / 36
  reads_list b e = subst (λ h. Read h val v) e f

  pub reads_enum : (n : ℕ) → h ≡ Variants n → v < length val / 36
  reads_enum n e = subst (λ h. Read h val v) e f
