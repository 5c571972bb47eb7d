-- A type file that is refused refuses the call.
use Rattle.std.proofs.Common.{◌≡◌, refl, rules, Err}
use Rattle.delivery.specs.Parts.{part_bad_type}
use Rattle.delivery.specs.Tables.{measured_not}
use Rattle.operations.proofs.given.part_read.Goals as goal

pub returns-in_err-read : goal.returns-in_err-read
returns-in_err-read c =
    let z : c.from_residual.result ≡ Err c.in_err-read.field-0.0 = search rules in
    rw z (part_bad_type (measured_not c.in_err-read.was c.requires) _ _ refl)
