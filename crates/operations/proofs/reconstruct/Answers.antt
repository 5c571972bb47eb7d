-- `operations::reconstruct` meets its contract. Rows 8 and 9 come from `check_shape`, rows 10 and 20 and the value file's length from `value_records`, so the function's own
-- tests are rows 20 and 17, and where they pass there is room for the writer. Each answer is one law of `Reconstructs`. Assumes nothing.
use Rattle.std.proofs.Common.{◌≡◌, refl, rules, Err}
use Rattle.delivery.specs.Readings.{type_given, shape_short}
use Rattle.delivery.specs.Reconstructs.{rebuild_bad_shape, rebuild_none, rebuild_no_unit, rebuild_fits, rebuild_no_room, rebuild_ready, rebuild_done}
use Rattle.operations.proofs.reconstruct.Goals as goal

pub returns-in_err-check_shape : goal.returns-in_err-check_shape
returns-in_err-check_shape c =
    let z : c.from_residual.result ≡ Err c.in_err-check_shape.field-0.0 = search rules in
    rw z (rebuild_bad_shape c.requires.checked refl _ c.check_shape.ensures c.in_err-check_shape.was)

pub value_records-requires : goal.value_records-requires
value_records-requires c = record { given = type_given c.requires.checked refl; shape_len_bound = shape_short c.requires.checked refl _ c.check_shape.ensures c.in_ok-check_shape.was }

pub returns-in_default : goal.returns-in_default
returns-in_default c = rebuild_none c.requires.checked refl _ c.check_shape.ensures c.in_ok-check_shape.was c.value_records.ensures c.in_default.is

pub returns-then-surplus-ne0 : goal.returns-then-surplus-ne0
returns-then-surplus-ne0 c = rebuild_no_unit c.requires.checked refl _ c.check_shape.ensures c.in_ok-check_shape.was c.value_records.ensures c.in-Some.is c.if-surplus-ne0.true

pub overflow_mul-n : goal.overflow_mul-n
overflow_mul-n c = rebuild_fits c.requires.checked refl _ c.check_shape.ensures c.in_ok-check_shape.was c.value_records.ensures c.in-Some.is

pub returns-then-out-n : goal.returns-then-out-n
returns-then-out-n c = rebuild_no_room c.requires.checked refl _ c.check_shape.ensures c.in_ok-check_shape.was c.value_records.ensures c.in-Some.is c.if-surplus-ne0.false c.if-out-n.true

pub write_value-requires : goal.write_value-requires
write_value-requires c = record { given = type_given c.requires.checked refl; ready = rebuild_ready c.requires.checked refl _ c.check_shape.ensures c.in_ok-check_shape.was c.value_records.ensures c.in-Some.is _ c.if-out-n.false }

pub returns : goal.returns
returns c = rebuild_done c.requires.checked refl _ c.check_shape.ensures c.in_ok-check_shape.was c.value_records.ensures c.in-Some.is c.if-surplus-ne0.false c.if-out-n.false c.write_value.ensures
