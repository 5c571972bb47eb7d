-- The arms are the list of the bounds, by which the model's search tells.
use Rattle.num.specs.Laws.{some_bound, no_bound}
use Rattle.num.proofs.NonZeroPow2Usize.new.Goals as goal

pub returns-in-2 : goal.returns-in-2
returns-in-2 c = some_bound _

pub returns-in_default : goal.returns-in_default
returns-in_default c = no_bound _ c.in_default.in_default-own.rest.1
