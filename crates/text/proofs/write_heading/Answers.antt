-- The name is written, a space behind it, and the number into the rest. Assumes nothing.
use native.Mathlib.Omega.{arith}
use Rattle.text.proofs.Laws.Pieces.{first_room, byte_fits, byte_more, first_fits, rest_room, both, both_small}
use Rattle.text.proofs.Laws.Lines.{heading_space, heading_number}
use Rattle.text.proofs.write_heading.Goals as goal

pub write_name-i-requires : goal.write_name-i-requires
write_name-i-requires c = first_room (heading_space _ _ c.args.out.now c.requires)

pub bounds-out-i : goal.bounds-out-i
bounds-out-i c = byte_fits (heading_space _ _ _ c.requires) c.write_name-i.ensures

pub slice_bounds-write_decimal-count : goal.slice_bounds-write_decimal-count
slice_bounds-write_decimal-count c = let f = first_fits (heading_number _ _ _ c.requires) (byte_more (heading_space _ _ _ c.requires) c.write_name-i.ensures) in
    omega arith

pub write_decimal-requires : goal.write_decimal-requires
write_decimal-requires c = rest_room (heading_number _ _ _ c.requires) (byte_more (heading_space _ _ _ c.requires) c.write_name-i.ensures)

pub overflow_add-result : goal.overflow_add-result
overflow_add-result c = let g = c.well_formed in
    omega (arith, both_small (heading_number _ _ _ c.requires) (byte_more (heading_space _ _ _ c.requires) c.write_name-i.ensures) c.write_decimal.ensures)

pub returns : goal.returns
returns c = both (heading_number _ _ _ c.requires) (byte_more (heading_space _ _ _ c.requires) c.write_name-i.ensures) c.write_decimal.ensures

pub slice_bounds-write_decimal-start : goal.slice_bounds-write_decimal-start
slice_bounds-write_decimal-start c = let f = first_fits (heading_number _ _ _ c.requires) (byte_more (heading_space _ _ _ c.requires) c.write_name-i.ensures) in
    omega arith
