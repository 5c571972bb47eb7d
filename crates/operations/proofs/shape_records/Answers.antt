-- `operations::shape_records` meets its contract. Rows 15, 16, 21 and 22 and the shape's length come from `check_file`. Each answer is one law of `Shapes`. Assumes nothing.
use Rattle.std.proofs.Common.{◌≡◌, refl, rules, Err}
use Rattle.delivery.specs.Shapes.{count_bad_value, count_done}
use Rattle.delivery.specs.Tables.{measured_given}
use Rattle.operations.proofs.shape_records.Goals as goal

pub check_file-requires : goal.check_file-requires
check_file-requires c = measured_given c.requires

pub returns-in_err-records : goal.returns-in_err-records
returns-in_err-records c =
    let z : c.from_residual.result ≡ Err c.in_err-records.field-0.0 = search rules in
    rw z (count_bad_value c.requires.tabled refl _ c.check_file.ensures c.in_err-records.was)

pub returns : goal.returns
returns c = count_done c.requires.tabled refl _ c.check_file.ensures c.in_ok-records.was
