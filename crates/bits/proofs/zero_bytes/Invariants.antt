-- The invariants: the first bytes are zeros, and the others as they were; and so are the bits of the first i bytes.
use mathlib.Core.Path.{◌≡◌}
use mathlib.Core.List.{◌++◌}
use Prim.Native.Nat.{◌*◌}
use lib.ListN.{drop, replicate}
use Rattle.model.specs.Bytes.{zeros}
use Rattle.bits.specs.Bits.{Wrote}
use Rattle.bits.proofs.zero_bytes.Given as goal

abbrev pub invariant-loop-byte : goal.invariant-loop-byte
invariant-loop-byte l = l.byte-items ≡ replicate l.byte-index 0 ++ drop l.byte-index l.initial.byte-items

abbrev pub invariant-loop-i : goal.invariant-loop-i
invariant-loop-i l = Wrote l.fn.buf l.at (zeros (8 * l.i)) l.buf
