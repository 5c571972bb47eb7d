-- What stands at the record is a type, and `write_record` writes what stands there. Assumes nothing.
use mathlib.Core.Path.{sym, ap}
use Rattle.model.specs.Structural.{type_records}
use Rattle.structural.proofs.Laws.Writing.{wrote_as}
use Rattle.structural.proofs.Laws.Forms.{stands, standing_is}
use Rattle.structural.proofs.write_lowered.Goals as goal

pub write_record-requires : goal.write_record-requires
write_record-requires c = record { stands = stands c.requires.given; room = rw (standing_is c.requires.given) c.requires.room }

pub returns : goal.returns
returns c = wrote_as (ap type_records (sym (standing_is c.requires.given))) c.write_record.ensures
