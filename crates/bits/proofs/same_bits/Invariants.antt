-- The invariants: the bits of the first i bytes are the same; and so are the first i bits.
use mathlib.Core.Path.{◌≡◌}
use Prim.Native.Nat.{◌*◌}
use Rattle.bits.specs.Bits.{bits_at}
use Rattle.bits.proofs.same_bits.Given as goal

abbrev pub invariant-loop-i : goal.invariant-loop-i
invariant-loop-i l = bits_at l.s l.at (8 * l.i) ≡ bits_at l.other l.from (8 * l.i)

abbrev pub invariant-loop-i-2 : goal.invariant-loop-i-2
invariant-loop-i-2 l = bits_at l.s l.at l.i ≡ bits_at l.other l.from l.i
