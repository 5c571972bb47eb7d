-- The invariant: the bits of the first i bytes are zeros.
use mathlib.Core.Path.{◌≡◌}
use mathlib.Core.Bool.{false}
use Prim.Native.Nat.{◌*◌}
use Rattle.model.specs.Options.{any}
use Rattle.bits.specs.Bits.{bits_at}
use Rattle.bits.proofs.are_zero_bytes.Given as goal

abbrev pub invariant-loop-i : goal.invariant-loop-i
invariant-loop-i l = any (bits_at l.s l.at (8 * l.i)) ≡ false
