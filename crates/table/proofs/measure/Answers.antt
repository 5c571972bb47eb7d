use Rattle.table.specs.Measuring.{flags_measure}
use Rattle.table.proofs.measure.Goals as goal

pub returns-then-never-clause-measures : goal.returns-then-never-clause-measures
returns-then-never-clause-measures c = flags_measure _ c.enter_all-never.ensures.flagged (rw c.if-never.true)

pub returns-then-large-clause-measures : goal.returns-then-large-clause-measures
returns-then-large-clause-measures c = flags_measure _ c.enter_all-never.ensures.flagged (rw (c.if-never.false, c.if-large.true))

pub returns-clause-measures : goal.returns-clause-measures
returns-clause-measures c = flags_measure _ c.enter_all-never.ensures.flagged (rw (c.if-never.false, c.if-large.false))
