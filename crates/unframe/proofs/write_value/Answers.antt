-- The whole type stands at its first record, with all levels. Assumes nothing.
use borrow.Author.Rules.{rules}
use Rattle.structural.proofs.Laws.Forms.{stands}
use Rattle.unframe.proofs.write_value.Goals as goal

pub write_record-requires : goal.write_record-requires
write_record-requires c = search (stands, rules)
