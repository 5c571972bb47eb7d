-- A unit is one record; and a tree stands there, since what is copied is told. Assumes nothing.
use borrow.Author.Rules.{rules}
use Rattle.shape.specs.Laws.Writing.{ready_some}
use Rattle.shape_clean.proofs.Steps.{spot_placed}
use Rattle.shape_clean.proofs.copy_spot.Goals as goal

pub bounds-out-0 : goal.bounds-out-0
bounds-out-0 c = search (ready_some, rules)

pub returns : goal.returns
returns c = search (spot_placed, rules)
