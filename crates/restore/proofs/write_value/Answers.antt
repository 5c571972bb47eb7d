-- A type stands at the first record, and `write_record` writes the value of what stands there. Assumes nothing.
use borrow.Author.Rules.{rules}
use Rattle.structural.proofs.Laws.Forms.{stands}
use Rattle.restore.proofs.Steps.{placed_whole, placed_length}
use Rattle.restore.proofs.write_value.Goals as goal

ruleset steps = (stands, placed_whole, placed_length, rules)

pub write_record-requires : goal.write_record-requires
write_record-requires c = search steps

pub shape_of-out : goal.shape_of-out
shape_of-out c = search steps

pub returns : goal.returns
returns c = search steps
