-- The length that the entry answers counts bytes of the buffer.
use Rattle.std.proofs.Common.{sym, ap}
use Rattle.reply.specs.Numbers.{length_of}
use Rattle.both_orders.specs.Laws.{part_counts}
use Rattle.both_orders.proofs.write_part.Goals as goal

pub returns-in-Ok : goal.returns-in-Ok
returns-in-Ok c = part_counts _ _ _ _ _ _ _ c.part_read.ensures (sym (ap length_of c.in-Ok.is))
