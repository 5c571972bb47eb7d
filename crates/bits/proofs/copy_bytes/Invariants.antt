-- The invariant of both loops: the bits of the first i bytes are copied.
use Prim.Native.Nat.{◌*◌}
use Rattle.bits.specs.Bits.{bits_at, Wrote}
use Rattle.bits.proofs.copy_bytes.Given as goal

abbrev pub invariant-loop-i : goal.invariant-loop-i
invariant-loop-i l = Wrote l.fn.dst l.at (bits_at l.src l.from (8 * l.i)) l.dst

abbrev pub invariant-loop-i-2 : goal.invariant-loop-i-2
invariant-loop-i-2 l = Wrote l.fn.dst l.at (bits_at l.src l.from (8 * l.i)) l.dst
