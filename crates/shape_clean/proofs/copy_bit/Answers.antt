-- Two bytes are written, and a bit is two records. Assumes nothing.
use borrow.Author.Rules.{rules}
use Rattle.shape.specs.Laws.Writing.{ready_some}
use Rattle.shape_clean.proofs.Steps.{bit_inside, bit_second, bit_fits, bit_placed}
use Rattle.shape_clean.proofs.copy_bit.Goals as goal

ruleset steps = (ready_some, bit_inside, bit_second, bit_fits, bit_placed, rules)

pub bounds-out-0 : goal.bounds-out-0
bounds-out-0 c = search steps

pub bounds-out-1 : goal.bounds-out-1
bounds-out-1 c = search steps

pub overflow_add-result : goal.overflow_add-result
overflow_add-result c = search steps

pub returns : goal.returns
returns c = search steps

pub bounds-shape-p : goal.bounds-shape-p
bounds-shape-p c = search steps
