-- The record's 36 bytes are lent, and the bits are copied from them. Assumes nothing.
use mathlib.Core.Path.{◌≡◌, ap}
use mathlib.Core.List.{List}
use Prim.Native.Nat.{ℕ, ◌+◌, ◌-◌, ◌*◌}
use native.Mathlib.Omega.{arith}
use lib.ListN.{take, drop}
use Rattle.bits.specs.Bits.{bits_at}
use Rattle.bits.specs.Laws.Writing.{wrote_same}
use Rattle.told.specs.Forms.{record_bits}
use Rattle.frame.proofs.write_bits.Goals as goal

lent : (val : List ℕ) (v j n : ℕ) → bits_at (take (v * 36 + 36 - v * 36) (drop (v * 36) val)) j n ≡ record_bits val v j n
unfolding record_bits
lent val v j n = let e : v * 36 + 36 - v * 36 ≡ 36 = omega arith in ap (λ i. bits_at (take i (drop (v * 36) val)) j n) e

pub returns : goal.returns
returns c = let a = c.args in wrote_same c.copy_bits.ensures (lent a.val.now a.v a.j a.n)
