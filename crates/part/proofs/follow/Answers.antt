use mathlib.Core.Path.{◌∙◌}
use Rattle.std.specs.Option.{option_copied}
use Rattle.types.specs.Entries.{ends, widths}
use Rattle.part.specs.Laws.Fixed.{following_start, following_nowhere, following_next, following_end}
use Rattle.part.proofs.follow.Goals as goal

pub loop-j-init : goal.loop-j-init
loop-j-init c = let a = c.args in following_start (option_copied a.frame) a.table.now.ty.now (ends a.table.now.entries.now) (widths a.table.now.entries.now) a.path.now c.requires.stood

pub returns-in_err-spot : goal.returns-in_err-spot
returns-in_err-spot c = c.from_residual.ensures ∙ following_nowhere c.loop-j.invariant c.loop-j-test.true c.step_number.ensures c.step.ensures c.in_err-spot.was

pub loop-j-preserved : goal.loop-j-preserved
loop-j-preserved c = following_next c.loop-j.invariant c.loop-j-test.true c.step_number.ensures c.step.ensures c.requires.wide c.in_ok-spot.was

pub returns : goal.returns
returns c = following_end c.loop-j.invariant c.loop-j-test.false
