-- The arms are the list of the widths, into which the model looks.
use Rattle.std.proofs.Common.{⊎_elim}
use Rattle.num.specs.Laws.{some_width, no_width}
use Rattle.num.proofs.Pow2Usize.new.Goals as goal

pub returns-in-1 : goal.returns-in-1
returns-in-1 c = some_width _

pub returns-in-2 : goal.returns-in-2
returns-in-2 c = some_width _

pub returns-in_default : goal.returns-in_default
returns-in_default c = no_width _ (⊎_elim c.in_default.in_default-own.rest.0.1 c.in_default.in_default-own.rest.1)
