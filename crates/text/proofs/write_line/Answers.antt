-- The heading is written, the contents into the rest, and a newline behind them. Assumes nothing.
use native.Mathlib.Omega.{arith}
use Rattle.text.proofs.Laws.Pieces.{first_room, byte_fits, byte_more, first_fits, rest_room, both, both_small}
use Rattle.text.proofs.Laws.Lines.{line_contents, line_end}
use Rattle.text.proofs.write_line.Goals as goal

pub write_heading-i-requires : goal.write_heading-i-requires
write_heading-i-requires c = first_room (line_contents _ _ _ c.args.out.now c.requires)

pub slice_bounds-write_contents-count : goal.slice_bounds-write_contents-count
slice_bounds-write_contents-count c = let f = first_fits (line_contents _ _ _ _ c.requires) c.write_heading-i.ensures in omega arith

pub write_contents-requires : goal.write_contents-requires
write_contents-requires c = rest_room (line_contents _ _ _ _ c.requires) c.write_heading-i.ensures

pub overflow_add-k : goal.overflow_add-k
overflow_add-k c = let g = c.well_formed in
    omega (arith, both_small (line_contents _ _ _ _ c.requires) c.write_heading-i.ensures c.write_contents.ensures)

pub bounds-out-k : goal.bounds-out-k
bounds-out-k c = byte_fits (line_end _ _ _ _ c.requires) (both (line_contents _ _ _ _ c.requires) c.write_heading-i.ensures c.write_contents.ensures)

pub overflow_add-result : goal.overflow_add-result
overflow_add-result c = let g = c.well_formed in let l = byte_fits (line_end _ _ _ _ c.requires) (both (line_contents _ _ _ _ c.requires) c.write_heading-i.ensures c.write_contents.ensures) in omega arith

pub returns : goal.returns
returns c = byte_more (line_end _ _ _ _ c.requires) (both (line_contents _ _ _ _ c.requires) c.write_heading-i.ensures c.write_contents.ensures)

pub slice_bounds-write_contents-start : goal.slice_bounds-write_contents-start
slice_bounds-write_contents-start c = let f = first_fits (line_contents _ _ _ _ c.requires) c.write_heading-i.ensures in omega arith
