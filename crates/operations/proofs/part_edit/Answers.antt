-- `operations::part_edit` meets its contract: all that `edit_part` asks for comes with the type that was read; demand 3 follows from the equation. Assumes nothing.
use Rattle.delivery.specs.Parts.{edit_demand}
use Rattle.delivery.specs.Tables.{measured_given, measured_wide, measured_lowers}
use Rattle.operations.proofs.part_edit.Goals as goal

pub edit_part-requires : goal.edit_part-requires
edit_part-requires c = record { given = measured_given c.requires; wide = measured_wide c.requires; lowered = measured_lowers c.requires }

pub returns : goal.returns
returns c = let delivers = c.edit_part.ensures in record { part_edit = delivers; edited = edit_demand _ _ _ _ _ c.edit_part.result c.type_is_bytes.ensures (λ i. (c.slice_known-1.given i).fits) (λ i. (c.type_inv.value i).fits) delivers }
