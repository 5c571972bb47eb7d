-- The invariant: the first i bits are zeros.
use mathlib.Core.Path.{◌≡◌}
use mathlib.Core.Bool.{false}
use Rattle.model.specs.Options.{any}
use Rattle.bits.specs.Bits.{bits_at}
use Rattle.bits.proofs.is_zero_run.Given as goal

abbrev pub invariant-loop-i : goal.invariant-loop-i
invariant-loop-i l = any (bits_at l.s l.at l.i) ≡ false
