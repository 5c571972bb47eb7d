-- No more cases are counted than are read.
use Rattle.std.proofs.Common.{◌≤◌}
use Rattle.replay.proofs.count.Given as goal

abbrev pub invariant-loop-i : goal.invariant-loop-i
invariant-loop-i g l = (l.cases ≤ l.i) × (l.differ ≤ l.i)
