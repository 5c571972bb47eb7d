-- A type file that is refused refuses the call.
use Rattle.std.proofs.Common.{◌≡◌, refl, rules, Err}
use Rattle.delivery.specs.Frames.{frame_refused}
use Rattle.delivery.specs.Tables.{measured_not}
use Rattle.operations.proofs.given.write_frame.Goals as goal

pub returns-in_err-read : goal.returns-in_err-read
returns-in_err-read c =
    let z : c.from_residual.result ≡ Err c.in_err-read.field-0.0 = search rules in
    rw z (frame_refused (measured_not c.in_err-read.was c.requires) _ refl)
