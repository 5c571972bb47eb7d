-- `edit::read_part` meets its contract. Rows 11 to 14 and the part's place come from `reach_part`, and the number of the part's records
-- from `part_records`, so the function's own test is row 17, and where it passes there is room for the writer. Each answer is one law of `Reads`. Assumes nothing.
use mathlib.Core.Path.{◌≡◌}
use borrow.Author.Rules.{rules}
use native.Mathlib.Omega.{arith}
use Rattle.std.specs.Prelude.{Err}
use Rattle.part.specs.Laws.Holds.{holding_stands, holding_inside}
use Rattle.edit.specs.Reads.{read_bad_part, part_counted, part_fits, read_no_room, read_ready, read_done}
use Rattle.edit.proofs.read_part.Goals as goal

pub part_records-len-requires : goal.part_records-len-requires
part_records-len-requires c =
    let (_, part) = c.reach_part.ensures.reached c.in_ok-spot.was in
    let h = part.holding in
    record { stands = holding_stands h; wide = c.requires.wide; inside = holding_inside h; counted = part_counted part }

pub overflow_mul-len : goal.overflow_mul-len
overflow_mul-len c =
    let (_, part) = c.reach_part.ensures.reached c.in_ok-spot.was in
    part_fits part c.part_records-len.ensures

pub returns-then-out-len : goal.returns-then-out-len
returns-then-out-len c =
    let (_, part) = c.reach_part.ensures.reached c.in_ok-spot.was in
    let short = c.if-out-len.true in
    read_no_room part c.part_records-len.ensures (omega arith)

pub write_record-requires : goal.write_record-requires
write_record-requires c =
    let (_, part) = c.reach_part.ensures.reached c.in_ok-spot.was in
    let enough = c.if-out-len.false in
    record { stands = holding_stands part.holding; wide = c.requires.wide; inside = holding_inside part.holding; ready = read_ready part c.part_records-len.ensures _ (omega arith) }

pub returns-in_err-spot : goal.returns-in_err-spot
returns-in_err-spot c =
    let e : c.from_residual.result ≡ Err c.in_err-spot.field-0.0 = search rules in
    rw e (read_bad_part (c.reach_part.ensures.refused c.in_err-spot.was) _)

pub returns : goal.returns
returns c =
    let (_, part) = c.reach_part.ensures.reached c.in_ok-spot.was in
    let enough = c.if-out-len.false in
    read_done part c.part_records-len.ensures (omega arith) c.write_record.ensures
