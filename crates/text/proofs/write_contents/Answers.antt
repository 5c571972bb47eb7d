-- Nothing is written of no bytes; else a space, and what shows them into the rest. Assumes nothing.
use Rattle.std.proofs.Common.{arith}
use Rattle.structural.proofs.Laws.Writing.{wrote_none, wrote_as}
use Rattle.text.proofs.Laws.Pieces.{first_room, first_fits, rest_room, both, both_small}
use Rattle.text.proofs.Laws.Lines.{no_contents, space_written, contents_behind}
use Rattle.text.proofs.write_contents.Goals as goal

pub returns-then-is_empty : goal.returns-then-is_empty
returns-then-is_empty c = let a = c.args in wrote_as (no_contents a.contents a.s.now c.is_empty.ensures c.if-is_empty.true) (wrote_none _)

pub bounds-out-0 : goal.bounds-out-0
bounds-out-0 c = let j = contents_behind _ _ _ c.is_empty.ensures c.if-is_empty.false c.requires in omega (arith, first_room j)

pub write-requires : goal.write-requires
write-requires c = let j = contents_behind _ _ _ c.is_empty.ensures c.if-is_empty.false c.requires in rest_room j (space_written j)

pub overflow_add-result : goal.overflow_add-result
overflow_add-result c = let g = c.well_formed in
    let j = contents_behind _ _ _ c.is_empty.ensures c.if-is_empty.false c.requires in
    omega (arith, both_small j (space_written j) c.write.ensures)

pub returns : goal.returns
returns c = let j = contents_behind _ _ _ c.is_empty.ensures c.if-is_empty.false c.requires in both j (space_written j) c.write.ensures

pub slice_bounds-write-count : goal.slice_bounds-write-count
slice_bounds-write-count c = let j = contents_behind c.args.contents c.args.s.now c.args.out.now c.is_empty.ensures c.if-is_empty.false c.requires in let f = first_fits j (space_written j) in omega arith

pub slice_bounds-write-start : goal.slice_bounds-write-start
slice_bounds-write-start c = let j = contents_behind c.args.contents c.args.s.now c.args.out.now c.is_empty.ensures c.if-is_empty.false c.requires in let f = first_fits j (space_written j) in omega arith
