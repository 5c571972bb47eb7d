-- The invariant: the first i bits are copied.
use Rattle.bits.specs.Bits.{bits_at, Wrote}
use Rattle.bits.proofs.copy_bits.Given as goal

abbrev pub invariant-loop-i : goal.invariant-loop-i
invariant-loop-i l = Wrote l.fn.dst l.at (bits_at l.src l.from l.i) l.dst
