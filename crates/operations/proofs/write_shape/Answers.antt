-- `operations::write_shape` meets its contract. Rows 15, 16, 21 and 22 and the shape's length come from `check_file`, so the function's own test is row 17, and where it
-- passes there is room for the writer. Each answer is one law of `Shapes`. Assumes nothing.
use Rattle.std.proofs.Common.{◌≡◌, refl, rules, arith, Err}
use Rattle.delivery.specs.Shapes.{shape_bad_value, shape_no_room, shape_ready, shape_done}
use Rattle.delivery.specs.Tables.{measured_given}
use Rattle.operations.proofs.write_shape.Goals as goal

pub check_file-requires : goal.check_file-requires
check_file-requires c = measured_given c.requires

pub returns-in_err-size : goal.returns-in_err-size
returns-in_err-size c =
    let z : c.from_residual.result ≡ Err c.in_err-size.field-0.0 = search rules in
    rw z (shape_bad_value c.requires.tabled refl _ c.check_file.ensures c.in_err-size.was)

pub returns-then-out-size : goal.returns-then-out-size
returns-then-out-size c = let short = c.if-out-size.true in shape_no_room c.requires.tabled refl _ c.check_file.ensures c.in_ok-size.was (omega arith)

pub write_shape-requires : goal.write_shape-requires
write_shape-requires c =
    let enough = c.if-out-size.false in
    record { given = measured_given c.requires; ready = shape_ready c.requires.tabled refl _ c.check_file.ensures c.in_ok-size.was _ (omega arith) }

pub returns : goal.returns
returns c = let enough = c.if-out-size.false in shape_done c.requires.tabled refl _ c.check_file.ensures c.in_ok-size.was (omega arith) c.write_shape.ensures
