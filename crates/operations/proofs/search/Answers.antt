-- `operations::search` meets its contract: all that `search_day` asks for comes with the type that was read. Assumes nothing.
use Rattle.delivery.specs.Tables.{measured_given, measured_wide, measured_lowers}
use Rattle.operations.proofs.search.Goals as goal

pub search_day-requires : goal.search_day-requires
search_day-requires c = record { given = measured_given c.requires; wide = measured_wide c.requires; lowered = measured_lowers c.requires }
