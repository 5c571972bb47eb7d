-- `operations::part_read` meets its contract: all that `read_part` asks for comes with the type that was read. Assumes nothing.
use Rattle.delivery.specs.Tables.{measured_given, measured_wide, measured_lowers}
use Rattle.operations.proofs.part_read.Goals as goal

pub read_part-requires : goal.read_part-requires
read_part-requires c = record { given = measured_given c.requires; wide = measured_wide c.requires; lowered = measured_lowers c.requires }
