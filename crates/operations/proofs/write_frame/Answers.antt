-- `operations::write_frame` meets its contract. Rows 15, 16, 21 and 22 come from `check_file`, and the frame's length is that of the first width, so the function's own test is
-- row 17, and where it passes there is room for the writer. Each answer is one law of `Frames`. Assumes nothing.
use Rattle.std.proofs.Common.{◌≡◌, refl, rules, arith, Err}
use Rattle.delivery.specs.Frames.{frame_bad_value, width_fits, frame_no_room, frame_ready, frame_done}
use Rattle.delivery.specs.Tables.{widths_long, measured_given, measured_wide}
use Rattle.operations.proofs.write_frame.Goals as goal

pub check_file-requires : goal.check_file-requires
check_file-requires c = measured_given c.requires

pub returns-in_err-check_file : goal.returns-in_err-check_file
returns-in_err-check_file c =
    let z : c.from_residual.result ≡ Err c.in_err-check_file.field-0.0 = search rules in
    rw z (frame_bad_value c.requires.tabled refl _ c.check_file.ensures c.in_err-check_file.was)

pub width-requires : goal.width-requires
width-requires c = let l = widths_long c.requires in omega arith

pub overflow_add-bytes : goal.overflow_add-bytes
overflow_add-bytes c = rw c.width.ensures (width_fits c.requires.tabled refl (widths_long c.requires))

pub returns-then-out-bytes : goal.returns-then-out-bytes
returns-then-out-bytes c =
    let short = c.if-out-bytes.true in
    frame_no_room c.requires.tabled refl _ c.check_file.ensures c.in_ok-check_file.was (widths_long c.requires) (omega (arith, c.width.ensures))

pub write_frame-requires : goal.write_frame-requires
write_frame-requires c =
    let enough = c.if-out-bytes.false in
    record {
      given = measured_given c.requires;
      wide = measured_wide c.requires;
      room = frame_ready c.requires.tabled refl _ c.check_file.ensures c.in_ok-check_file.was (widths_long c.requires) _ (omega (arith, c.width.ensures));
    }

pub returns : goal.returns
returns c =
    let enough = c.if-out-bytes.false in
    frame_done c.requires.tabled refl _ c.check_file.ensures c.in_ok-check_file.was (widths_long c.requires) (omega (arith, c.width.ensures)) c.write_frame.ensures
