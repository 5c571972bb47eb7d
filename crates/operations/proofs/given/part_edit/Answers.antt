-- A type file that is refused refuses the call.
use Rattle.std.proofs.Common.{◌≡◌, refl, rules, Err}
use Rattle.delivery.specs.Parts.{edit_bad_type}
use Rattle.delivery.specs.Tables.{measured_not}
use Rattle.operations.proofs.given.part_edit.Goals as goal

pub returns-in_err-read-clause-part_edit : goal.returns-in_err-read-clause-part_edit
returns-in_err-read-clause-part_edit c =
    let z : c.from_residual.result ≡ Err c.in_err-read.field-0.0 = search rules in
    rw z (edit_bad_type (measured_not c.in_err-read.was c.requires) _ _ _ refl)
