-- The invariant: the first i bits are zeros.
use Rattle.model.specs.Bytes.{zeros}
use Rattle.bits.specs.Bits.{Wrote}
use Rattle.bits.proofs.write_zeros.Given as goal

abbrev pub invariant-loop-i : goal.invariant-loop-i
invariant-loop-i l = Wrote l.fn.buf l.at (zeros l.i) l.buf
