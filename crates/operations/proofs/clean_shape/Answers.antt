-- `operations::clean_shape` meets its contract. Rows 8 and 9 come from `check_shape`, row 10 and the surplus from `value_records`, so the function's own test is row 17,
-- against the shape less its surplus, and where it passes there is room for the writer. Each answer is one law of `Cleans`. Assumes nothing.
use Rattle.std.proofs.Common.{◌≡◌, refl, rules, Err}
use Rattle.delivery.specs.Readings.{type_given, shape_short}
use Rattle.delivery.specs.Cleans.{clean_bad_shape, clean_none, clean_fits, clean_no_room, clean_ready, clean_done}
use Rattle.operations.proofs.clean_shape.Goals as goal

pub returns-in_err-check_shape : goal.returns-in_err-check_shape
returns-in_err-check_shape c =
    let z : c.from_residual.result ≡ Err c.in_err-check_shape.field-0.0 = search rules in
    rw z (clean_bad_shape c.requires.checked refl _ c.check_shape.ensures c.in_err-check_shape.was)

pub value_records-requires : goal.value_records-requires
value_records-requires c = record { given = type_given c.requires.checked refl; shape_len_bound = shape_short c.requires.checked refl _ c.check_shape.ensures c.in_ok-check_shape.was }

pub returns-in_default : goal.returns-in_default
returns-in_default c = clean_none c.requires.checked refl _ c.check_shape.ensures c.in_ok-check_shape.was c.value_records.ensures c.in_default.is

pub overflow_sub-shape : goal.overflow_sub-shape
overflow_sub-shape c = clean_fits c.requires.checked refl _ c.check_shape.ensures c.in_ok-check_shape.was c.value_records.ensures c.in-Some.is

pub returns-then-out-shape : goal.returns-then-out-shape
returns-then-out-shape c = clean_no_room c.requires.checked refl _ c.check_shape.ensures c.in_ok-check_shape.was c.value_records.ensures c.in-Some.is c.if-out-shape.true

pub write_cleaned-requires : goal.write_cleaned-requires
write_cleaned-requires c = record { given = type_given c.requires.checked refl; ready = clean_ready c.requires.checked refl _ c.check_shape.ensures c.in_ok-check_shape.was c.value_records.ensures c.in-Some.is _ c.if-out-shape.false }

pub returns : goal.returns
returns c = clean_done c.requires.checked refl _ c.check_shape.ensures c.in_ok-check_shape.was c.value_records.ensures c.in-Some.is c.if-out-shape.false c.write_cleaned.ensures
