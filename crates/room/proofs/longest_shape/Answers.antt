-- What stands at record 0 is a type, and `longest_record` counts what stands there. Assumes nothing.
use mathlib.Core.Path.{◌∙◌, ap}
use Rattle.model.specs.Room.{longest_shape}
use Rattle.structural.proofs.Laws.Forms.{stands, standing_is}
use Rattle.room.proofs.longest_shape.Goals as goal

pub longest_record-requires : goal.longest_record-requires
longest_record-requires c = record { stands = stands c.requires.given; small = rw (standing_is c.requires.given) c.requires.small }

pub returns : goal.returns
returns c = c.longest_record.ensures ∙ ap longest_shape (standing_is c.requires.given)
