-- The line is that of an answer that keeps the promise.
use Rattle.finder.specs.Laws.{made_line}
use Rattle.finder.proofs.make.Goals as goal

pub returns-clause-tells : goal.returns-clause-tells
returns-clause-tells c = made_line c.search.result c.search.ensures c.say.ensures.wrote
