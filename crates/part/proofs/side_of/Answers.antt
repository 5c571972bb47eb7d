-- The tag leads to one of the two sides; that one is answered if it was asked for.
-- Assumes nothing.
use mathlib.Core.Path.{◌∙◌}
use Rattle.part.specs.Laws.Asked.{side_told}
use Rattle.part.proofs.side_of.Goals as goal

pub returns : goal.returns
returns c = let a = c.args in c.then_some.ensures ∙ side_told a.first.level a.i a.frame.now a.first.bit c.find_choice-choice.ensures
