-- The loop's invariant: the digits of the first i records are written. Assumes nothing.
use Rattle.text.proofs.Laws.Contents.{Passed, as_digit}
use Rattle.text.proofs.write_digits.Given as goal

abbrev pub invariant-loop-i : goal.invariant-loop-i
invariant-loop-i l = Passed as_digit l.s l.initial.out l.out l.i l.i
