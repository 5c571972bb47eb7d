-- The record decides, and behind a left or a right a unit is read. Assumes nothing.
use borrow.Author.Rules.{rules}
use Rattle.rebuild.specs.Laws.Steps.{sum_left, sum_right, sum_no}
use Rattle.rebuild.proofs.read_bit.Goals as goal

pub returns-in-1 : goal.returns-in-1
returns-in-1 c = search (sum_left, sum_right, sum_no, rules)

pub returns-in_default : goal.returns-in_default
returns-in_default c = search (sum_left, sum_right, sum_no, rules)

pub returns-in_default-2 : goal.returns-in_default-2
returns-in_default-2 c = search (sum_left, sum_right, sum_no, rules)
