-- What is counted stays below 4.
use Rattle.std.proofs.Common.{◌≤◌}
use Rattle.files.proofs.left_over.Given as goal

abbrev pub invariant-loop : goal.invariant-loop
invariant-loop g l = l.over ≤ 3
