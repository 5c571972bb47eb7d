-- What `accept` answers tells whether the frame is a value's, and where it is, what `find_part` answers where the path leads. Assumes nothing.
use mathlib.Core.Path.{◌≡◌}
use borrow.Author.Rules.{rules}
use Rattle.std.specs.Prelude.{Err}
use Rattle.edit.specs.Opened.{opened, opened_holds, frame_told, path_told}
use Rattle.edit.proofs.reach_part.Goals as goal

pub find_part-requires : goal.find_part-requires
find_part-requires c = record { holds = opened_holds (opened c.requires.lowered _ _ c.accept.ensures c.requires.given c.requires.wide c.type_is_bytes.ensures (λ i. (c.type_inv.frame i).fits) c.in_ok-accept.was); wide = c.requires.wide }

pub returns-in_err-accept : goal.returns-in_err-accept
returns-in_err-accept c =
    let e : c.from_residual.result ≡ Err c.in_err-accept.field-0.0 = search rules in
    rw e (frame_told c.requires.lowered c.accept.ensures _ c.in_err-accept.was)

pub returns : goal.returns
returns c = path_told c.requires.lowered c.accept.ensures _ c.requires.given c.requires.wide c.type_is_bytes.ensures (λ i. (c.type_inv.frame i).fits) c.in_ok-accept.was c.find_part.ensures
