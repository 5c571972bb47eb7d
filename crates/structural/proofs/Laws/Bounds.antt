-- What a type's records can say is small: a width and a list bound are at most as many parts as a tree may have, and a bound is 2 to the power of 1 to 15.
use Rattle.std.specs.Prelude.{◌≡◌, ℕ, suc, ◌^◌, ◌≤◌}
use Rattle.std.proofs.Common.{arith}
use Rattle.num.specs.declared.NonZeroPow2Usize.{NonZeroPow2Usize}
use Rattle.num.specs.declared.Pow2Usize.{Pow2Usize}
use Rattle.num.specs.Powers.{bound_log2}
use Rattle.num.specs.Laws.{bounded}
use Rattle.types.specs.Heads.{fair_bound_of, width_range, bound_range, log_range}
use Rattle.structural.specs.Forms.{most_parts}

pub width_small : (w : Pow2Usize) → w.value ≤ most_parts
width_small w = omega (arith, (width_range w).1)

-- a bound of 2 to the power of e + 1
pub record Power (b : NonZeroPow2Usize) (e : ℕ) : Type 0 where
  pub power : b.value ≡ 2 ^ suc e
  pub log2 : bound_log2 b.value ≡ suc e
  pub below : e ≤ 15

pub power_of : (b : NonZeroPow2Usize) → Power b (fair_bound_of b).exponent
power_of b =
    let f = fair_bound_of b in
    let k = bounded b.value f.exponent f.admitted in
    record { power = k.power; log2 = k.log2; below = omega (arith, k.log2, (log_range b).1) }

pub bound_small : (b : NonZeroPow2Usize) → b.value ≤ most_parts
bound_small b = omega (arith, (bound_range b).1)
