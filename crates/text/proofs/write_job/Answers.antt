-- Three lines are written, each into the rest behind the one before it. Assumes nothing.
use native.Mathlib.Omega.{arith}
use Rattle.text.proofs.Laws.Pieces.{first_room, first_fits, rest_room, both, both_small}
use Rattle.text.proofs.Laws.Lines.{job_shape, job_frame}
use Rattle.text.proofs.write_job.Goals as goal

pub write_line-i-requires : goal.write_line-i-requires
write_line-i-requires c = first_room (job_shape _ _ _ c.args.out.now c.requires)

pub slice_bounds-write_line-count : goal.slice_bounds-write_line-count
slice_bounds-write_line-count c = let f = first_fits (job_shape _ _ _ _ c.requires) c.write_line-i.ensures in omega arith

pub write_line-requires : goal.write_line-requires
write_line-requires c = rest_room (job_shape _ _ _ _ c.requires) c.write_line-i.ensures

pub overflow_add-k : goal.overflow_add-k
overflow_add-k c = let g = c.well_formed in
    omega (arith, both_small (job_shape _ _ _ _ c.requires) c.write_line-i.ensures c.write_line.ensures)

pub slice_bounds-write_line-count-2 : goal.slice_bounds-write_line-count-2
slice_bounds-write_line-count-2 c = let f = first_fits (job_frame _ _ _ _ c.requires) (both (job_shape _ _ _ _ c.requires) c.write_line-i.ensures c.write_line.ensures) in
    omega arith

pub write_line-requires-2 : goal.write_line-requires-2
write_line-requires-2 c = rest_room (job_frame _ _ _ _ c.requires) (both (job_shape _ _ _ _ c.requires) c.write_line-i.ensures c.write_line.ensures)

pub overflow_add-result : goal.overflow_add-result
overflow_add-result c = let g = c.well_formed in
    omega (arith, both_small (job_frame _ _ _ _ c.requires) (both (job_shape _ _ _ _ c.requires) c.write_line-i.ensures c.write_line.ensures) c.write_line-2.ensures)

pub returns : goal.returns
returns c = both (job_frame _ _ _ _ c.requires) (both (job_shape _ _ _ _ c.requires) c.write_line-i.ensures c.write_line.ensures) c.write_line-2.ensures

pub slice_bounds-write_line-start : goal.slice_bounds-write_line-start
slice_bounds-write_line-start c = let f = first_fits (job_shape _ _ _ _ c.requires) c.write_line-i.ensures in omega arith

pub slice_bounds-write_line-start-2 : goal.slice_bounds-write_line-start-2
slice_bounds-write_line-start-2 c = let f = first_fits (job_frame _ _ _ _ c.requires) (both (job_shape _ _ _ _ c.requires) c.write_line-i.ensures c.write_line.ensures) in
    omega arith
