-- `operations::lower` meets its contract. The first size is the lowered type's length, so the function's own test is row 17, and where it passes there is room for the
-- writer. Each answer is one law of `Lowers`. Assumes nothing.
use Rattle.std.proofs.Common.{refl, arith}
use Rattle.delivery.specs.Lowers.{lower_no_room, lower_room, lower_done}
use Rattle.delivery.specs.Tables.{sizes_long, measured_given}
use Rattle.operations.proofs.lower.Goals as goal

pub size-requires : goal.size-requires
size-requires c = let l = sizes_long c.requires in omega arith

pub returns-then-out-size : goal.returns-then-out-size
returns-then-out-size c = let short = c.if-out-size.true in lower_no_room c.requires.tabled refl (omega (arith, c.size.ensures))

pub write_lowered-requires : goal.write_lowered-requires
write_lowered-requires c =
    let enough = c.if-out-size.false in
    record { given = measured_given c.requires; room = lower_room c.requires.tabled refl c.args.out.now (omega (arith, c.size.ensures)) }

pub returns : goal.returns
returns c = let enough = c.if-out-size.false in lower_done c.requires.tabled refl (omega (arith, c.size.ensures)) c.write_lowered.ensures
