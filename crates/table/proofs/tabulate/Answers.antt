-- `table::tabulate` meets its contract: rows 1 to 5 are the callee's; the table is long enough for an accepted file's records, and measuring decides rows 6 and 7. Assumes nothing.
use Rattle.std.proofs.Common.{rules, ◌≡◌, arith, Err}
use Rattle.types.specs.Table.{Checked}
use Rattle.types.specs.Entries.{ends, sizes_length, widths_length}
use Rattle.table.specs.Tabled.{measurable, tabled_refused, tabled_not, tabled}
use Rattle.table.proofs.tabulate.Goals.{After-measure}
use Rattle.table.proofs.tabulate.Goals as goal

pub returns-in_err-n : goal.returns-in_err-n
returns-in_err-n c =
    let z : c.from_residual.result ≡ Err c.in_err-n.field-0.0 = search rules in
    rw z (tabled_refused _ c.check_type.ensures.checked c.in_err-n.was)

pub measure-requires : goal.measure-requires
measure-requires c =
    let t = c.check_type.new.entries in
    measurable _ c.check_type.ensures.checked c.in_ok-n.was (omega (arith, c.requires, c.check_type.auto.entries, sizes_length t)) (omega (arith, c.requires, c.check_type.auto.entries, widths_length t))

-- the ends are as the walk put them down
checked : (c : After-measure) → Checked c.args.ty.now c.check_type.result (ends c.measure.new.entries)
checked c = rw c.measure.ensures.kept c.check_type.ensures.checked

pub returns-in_err-measure : goal.returns-in_err-measure
returns-in_err-measure c =
    let z : c.from_residual-in_err-measure.result ≡ Err c.in_err-measure.field-0.0 = search rules in
    rw z (tabled_not _ _ (checked (goal.at.returns-in_err-measure c).After-measure) c.in_ok-n.was c.measure.ensures.measures _ c.in_err-measure.was)

pub returns : goal.returns
returns c = tabled _ _ (checked (goal.at.returns c).After-measure) c.in_ok-n.was c.measure.ensures.measures c.in_ok-measure.was
