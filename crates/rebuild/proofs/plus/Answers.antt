-- What was read is known in each arm. Assumes nothing.
use Rattle.rebuild.specs.Laws.Steps.{plus_of, plus_not}
use Rattle.rebuild.proofs.plus.Goals as goal

pub returns-in_err-r : goal.returns-in_err-r
returns-in_err-r c = rw c.from_residual.ensures (plus_not _ _ _ c.in_err-r.was)

pub returns : goal.returns
returns c = plus_of _ _ _ _ c.in_ok-r.was
