-- The loop's invariant: the digits of the first i bytes are written, two for each. Assumes nothing.
use Rattle.std.proofs.Common.{◌*◌}
use Rattle.text.specs.Lines.{hex}
use Rattle.text.proofs.Laws.Contents.{Passed}
use Rattle.text.proofs.write_hex.Given as goal

abbrev pub invariant-loop-i : goal.invariant-loop-i
invariant-loop-i l = Passed hex l.s l.initial.out l.out l.i (2 * l.i)
