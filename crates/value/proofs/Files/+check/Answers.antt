use borrow.Author.Rules.{rules}
use Rattle.std.proofs.Common.{◌≡◌, ◌∙◌, Err}
use Rattle.types.specs.Steps.{given_inside}
use Rattle.value.specs.Steps.{fits_next, deep_enough, given_payload, given_next, kids_stop, no_other, into_row, into_payload, into_one}
use Rattle.value.specs.Follow.{wrong_is, opened_next, run_given, run_hops, parts_given, case_given, case_hops}
use Rattle.value.proofs.Files.+check.Goals as goal

ruleset steps = (fits_next, deep_enough, given_payload, given_next, into_one, into_row, into_payload, rules)

pub check_parts-check_value-requires : goal.check_parts-check_value-requires
check_parts-check_value-requires t c = (search steps, given_next _ _ c.loop-test.true c.loop.invariant.row)

pub check_parts-returns-in_err-e : goal.check_parts-returns-in_err-e
check_parts-returns-in_err-e t c =
    let z : c.from_residual.result ≡ Err c.in_err-e.field-0.0 = search rules in
    z ∙ kids_stop _ _ _ _ _ _ _ c.loop.invariant.row c.loop-test.true c.check_value.ensures c.in_err-e.was ∙ c.loop.invariant.rest

pub check_payload-unreachable-requires : goal.check_payload-unreachable-requires
check_payload-unreachable-requires t c = no_other _ c.requires c.rec.ensures c.in_default.not-Variant

pub check_payload-overflow_add-at : goal.check_payload-overflow_add-at
check_payload-overflow_add-at t c = search steps

pub check_payload-overflow_sub-level : goal.check_payload-overflow_sub-level
check_payload-overflow_sub-level t c = deep_enough c.requires

pub check_payload-check_parts-requires : goal.check_payload-check_parts-requires
check_payload-check_parts-requires t c = (search steps, search steps)

pub check_value-returns-in_err-opens : goal.check_value-returns-in_err-opens
check_value-returns-in_err-opens t c =
    let z : c.from_residual.result ≡ Err c.in_err-opens.field-0.0 = search rules in
    z ∙ wrong_is _ _ _ _ c.requires c.head.ensures c.open_record.ensures _ _ c.in_err-opens.was

pub check_value-overflow_add-at : goal.check_value-overflow_add-at
check_value-overflow_add-at t c = search steps

pub check_value-overflow_sub-level : goal.check_value-overflow_sub-level
check_value-overflow_sub-level t c = deep_enough c.requires

pub check_value-overflow_add-v : goal.check_value-overflow_add-v
check_value-overflow_add-v t c = opened_next _ _ _ _ c.requires c.head.ensures c.open_record.ensures _ c.in_ok-opens.was (search rules)

pub check_value-hop-child-requires : goal.check_value-hop-child-requires
check_value-hop-child-requires t c = run_hops _ _ _ _ c.requires c.head.ensures c.open_record.ensures _ c.in_ok-opens.was _ _ _ c.in-Run.is

pub check_value-hop-variant-requires : goal.check_value-hop-variant-requires
check_value-hop-variant-requires t c = case_hops _ _ _ _ c.requires c.head.ensures c.open_record.ensures _ c.in_ok-opens.was _ _ c.in-Case.is

pub check_parts-end-p-requires : goal.check_parts-end-p-requires
check_parts-end-p-requires t c = given_inside (given_next _ _ c.loop-test.true c.loop.invariant.row)

pub check_value-check_run-requires : goal.check_value-check_run-requires
check_value-check_run-requires t c = (search steps, run_given _ _ _ _ c.requires c.head.ensures c.open_record.ensures _ c.in_ok-opens.was _ _ _ c.in-Run.is _ c.hop-child.ensures)

pub check_value-check_parts-requires : goal.check_value-check_parts-requires
check_value-check_parts-requires t c = (search steps, parts_given _ _ _ _ c.requires c.head.ensures c.open_record.ensures _ c.in_ok-opens.was _ c.in-Parts.is)

pub check_value-check_payload-requires : goal.check_value-check_payload-requires
check_value-check_payload-requires t c = (search steps, case_given _ _ _ _ c.requires c.head.ensures c.open_record.ensures _ c.in_ok-opens.was _ _ c.in-Case.is _ c.hop-variant.ensures)
