-- What stands at the first record is a type, and `write_record` writes what stands there. Assumes nothing.
use borrow.Author.Rules.{rules}
use Rattle.structural.proofs.Laws.Forms.{stands}
use Rattle.shape.proofs.write_shape.Goals as goal

pub write_record-requires : goal.write_record-requires
write_record-requires c = search (stands, rules)
