-- The record's frame, as the writers of `Source` write it. Assumes nothing.
use Rattle.frame.proofs.Steps.{record_done}
use Rattle.frame.proofs.write_record.Goals as goal

pub returns : goal.returns
returns c = record_done _ _ _ _ _ c.record.ensures
