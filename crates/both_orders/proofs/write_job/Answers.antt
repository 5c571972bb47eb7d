-- The length that the entry answers counts bytes of the buffer.
use Rattle.std.proofs.Common.{sym, ap}
use Rattle.reply.specs.Numbers.{length_of}
use Rattle.both_orders.specs.Laws.{frame_counts}
use Rattle.both_orders.proofs.write_job.Goals as goal

pub returns-in-Ok : goal.returns-in-Ok
returns-in-Ok g c = frame_counts _ _ _ _ _ _ c.write_frame.ensures (sym (ap length_of c.in-Ok.is))
