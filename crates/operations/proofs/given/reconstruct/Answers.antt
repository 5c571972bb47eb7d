-- A type file that is refused refuses the call.
use Rattle.std.proofs.Common.{◌≡◌, refl, rules, Err}
use Rattle.delivery.specs.Reconstructs.{rebuild_bad_type}
use Rattle.delivery.specs.Tables.{read_not}
use Rattle.operations.proofs.given.reconstruct.Goals as goal

pub returns-in_err-read : goal.returns-in_err-read
returns-in_err-read c =
    let z : c.from_residual.result ≡ Err c.in_err-read.field-0.0 = search rules in
    rw z (rebuild_bad_type (read_not c.in_err-read.was c.requires) _ refl)
