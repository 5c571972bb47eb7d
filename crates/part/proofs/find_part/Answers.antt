-- A path of whole steps is followed in the frame. Assumes nothing.
use mathlib.Core.Path.{◌∙◌}
use Rattle.types.specs.Entries.{ends, widths}
use Rattle.part.specs.Laws.Asked.{path_odd_refused, found_led}
use Rattle.part.proofs.find_part.Goals as goal

pub returns-then-path-ne0 : goal.returns-then-path-ne0
returns-then-path-ne0 c = let a = c.args in path_odd_refused a.table.now.ty.now (ends a.table.now.entries.now) (widths a.table.now.entries.now) a.frame.now a.path.now c.if-path-ne0.true

pub returns : goal.returns
returns c = let a = c.args in c.ok_or.ensures.value ∙ found_led a.table.now.ty.now (ends a.table.now.entries.now) (widths a.table.now.entries.now) a.frame.now a.path.now c.if-path-ne0.false c.follow.ensures
