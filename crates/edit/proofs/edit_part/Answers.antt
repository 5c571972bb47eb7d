-- `edit::edit_part` meets its contract. Rows 11 to 14 and the part's place come from `reach_part`, rows 15, 16, 21 and 22 from `check_part`;
-- the writer then changes the part's own bits and no others. Each answer is one law of `Edits`. Assumes nothing.
use mathlib.Core.Path.{◌≡◌}
use borrow.Author.Rules.{rules}
use Rattle.std.specs.Prelude.{Err}
use Rattle.part.specs.Laws.Holds.{holding_stands}
use Rattle.edit.specs.Edits.{edit_bad_part, edit_bad_value, edit_fitted, edit_done}
use Rattle.edit.proofs.edit_part.Goals as goal

pub check_part-requires : goal.check_part-requires
check_part-requires c = let (_, part) = c.reach_part.ensures.reached c.in_ok-spot.was in part.holding.given

pub write_record-requires : goal.write_record-requires
write_record-requires c =
    let (_, part) = c.reach_part.ensures.reached c.in_ok-spot.was in
    record { stands = holding_stands part.holding; wide = c.requires.wide; fitted = edit_fitted part _ c.check_part.ensures c.in_ok-check_part.was }

pub returns-in_err-spot : goal.returns-in_err-spot
returns-in_err-spot c =
    let e : c.from_residual.result ≡ Err c.in_err-spot.field-0.0 = search rules in
    rw e (edit_bad_part (c.reach_part.ensures.refused c.in_err-spot.was) _)

pub returns-in_err-check_part : goal.returns-in_err-check_part
returns-in_err-check_part c =
    let e : c.from_residual-in_err-check_part.result ≡ Err c.in_err-check_part.field-0.0 = search rules in
    let (_, part) = c.reach_part.ensures.reached c.in_ok-spot.was in
    rw e (edit_bad_value part _ c.check_part.ensures c.in_err-check_part.was)

pub returns : goal.returns
returns c =
    let (_, part) = c.reach_part.ensures.reached c.in_ok-spot.was in
    edit_done part _ c.check_part.ensures c.in_ok-check_part.was c.type_is_bytes.ensures (λ i. (c.type_inv.value i).fits) (λ i. search rules) c.write_record.ensures (λ i. (c.type_inv.frame i).fits)
