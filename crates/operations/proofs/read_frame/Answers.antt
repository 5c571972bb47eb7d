-- `operations::read_frame` meets its contract. Rows 11 and 12 and the number of the value's records come from `accept`, so the function's own test is row 17, and where it
-- passes there is room for the writer. Each answer is one law of `Unframes`. Assumes nothing.
use Rattle.std.proofs.Common.{◌≡◌, refl, rules, arith, Err}
use Rattle.delivery.specs.Unframes.{unframe_bad_frame, unframe_fits, unframe_no_room, unframe_inside, unframe_ready, unframe_done}
use Rattle.delivery.specs.Tables.{widths_long, measured_given, measured_wide, measured_lowers}
use Rattle.operations.proofs.read_frame.Goals as goal

pub accept-requires : goal.accept-requires
accept-requires c = record { given = measured_given c.requires; wide = measured_wide c.requires; lowered = measured_lowers c.requires }

pub returns-in_err-len : goal.returns-in_err-len
returns-in_err-len c =
    let z : c.from_residual.result ≡ Err c.in_err-len.field-0.0 = search rules in
    rw z (unframe_bad_frame c.requires.tabled refl _ _ c.accept.ensures c.in_err-len.was)

pub overflow_mul-len : goal.overflow_mul-len
overflow_mul-len c = unframe_fits c.requires.tabled refl _ _ c.accept.ensures c.in_ok-len.was (widths_long c.requires)

pub returns-then-out-len : goal.returns-then-out-len
returns-then-out-len c =
    let short = c.if-out-len.true in
    unframe_no_room c.requires.tabled refl _ _ c.accept.ensures c.in_ok-len.was (widths_long c.requires) (omega arith)

pub write_value-requires : goal.write_value-requires
write_value-requires c =
    let enough = c.if-out-len.false in
    record {
      given = measured_given c.requires;
      wide = measured_wide c.requires;
      inside = unframe_inside c.requires.tabled refl _ _ c.accept.ensures c.in_ok-len.was (widths_long c.requires);
      ready = unframe_ready c.requires.tabled refl _ _ c.accept.ensures c.in_ok-len.was (widths_long c.requires) _ (omega arith);
    }

pub returns : goal.returns
returns c =
    let enough = c.if-out-len.false in
    unframe_done c.requires.tabled refl _ _ c.accept.ensures c.in_ok-len.was (widths_long c.requires) (omega arith) c.write_value.ensures
