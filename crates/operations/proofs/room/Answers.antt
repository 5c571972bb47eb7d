-- `operations::room` meets its contract. The first size and width are the lowered type's and the frame's, and no part of a type that lowers is too large for the walk that
-- counts. Each answer is one law of `Rooms`. Assumes nothing.
use Rattle.std.proofs.Common.{refl, arith}
use Rattle.delivery.specs.Rooms.{room_small, room_done}
use Rattle.delivery.specs.Tables.{sizes_long, widths_long, measured_given}
use Rattle.operations.proofs.room.Goals as goal

pub size-requires : goal.size-requires
size-requires c = let l = sizes_long c.requires in omega arith

pub width-requires : goal.width-requires
width-requires c = let l = widths_long c.requires in omega arith

pub longest_shape-requires : goal.longest_shape-requires
longest_shape-requires c = record { given = measured_given c.requires; small = room_small c.requires.tabled refl }

pub returns : goal.returns
returns c = rw c.width.ensures (room_done c.requires.tabled refl (widths_long c.requires) _ _ c.size.ensures c.longest_shape.ensures)
