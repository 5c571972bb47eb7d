-- The three results fit their buffers, and the lines are those of what the buffers then hold. Assumes nothing.
use native.Mathlib.Omega.{arith}
use borrow.Author.Rules.{rules}
use Rattle.text.proofs.Laws.Written.{wrote_counts}
use Rattle.report.specs.Laws.{lowered_ready, shape_fits, frame_fits, shape_ready, frame_ready, shape_held, frame_held, lines_room, lines_written}
use Rattle.report.proofs.write_accepted.Goals as goal

pub write_lowered-n-requires : goal.write_lowered-n-requires
write_lowered-n-requires c = record { given = c.requires.accepted.given; room = search (lowered_ready c.requires.accepted, rules) }

pub write_shape-m-requires : goal.write_shape-m-requires
write_shape-m-requires c = record { given = c.requires.accepted.given; ready = shape_ready c.requires.accepted _ (search rules) }

pub write_frame-k-requires : goal.write_frame-k-requires
write_frame-k-requires c = record { given = c.requires.accepted.given; wide = c.requires.accepted.wide; room = frame_ready c.requires.accepted _ (search rules) }

pub slice_bounds-lowered-end : goal.slice_bounds-lowered-end
slice_bounds-lowered-end c = (wrote_counts (search (lowered_ready c.requires.accepted, rules)) c.write_lowered-n.ensures).0

pub slice_bounds-write_job-end : goal.slice_bounds-write_job-end
slice_bounds-write_job-end c = (wrote_counts (search (lowered_ready c.requires.accepted, rules)) c.write_lowered-n.ensures).1

pub slice_bounds-shape-end : goal.slice_bounds-shape-end
slice_bounds-shape-end c = (wrote_counts (search (shape_fits c.requires.accepted, rules)) (shape_held c.requires.accepted c.write_shape-m.ensures)).0

pub slice_bounds-write_job-end-2 : goal.slice_bounds-write_job-end-2
slice_bounds-write_job-end-2 c = (wrote_counts (search (shape_fits c.requires.accepted, rules)) (shape_held c.requires.accepted c.write_shape-m.ensures)).1

pub slice_bounds-frame-end : goal.slice_bounds-frame-end
slice_bounds-frame-end c = (wrote_counts (search (frame_fits c.requires.accepted, rules)) (frame_held c.requires.accepted c.write_frame-k.ensures)).0

pub slice_bounds-write_job-end-3 : goal.slice_bounds-write_job-end-3
slice_bounds-write_job-end-3 c = (wrote_counts (search (frame_fits c.requires.accepted, rules)) (frame_held c.requires.accepted c.write_frame-k.ensures)).1

pub write_job-requires : goal.write_job-requires
write_job-requires c = let a = c.requires.accepted in
    let room = c.requires.in_bounds in
    omega (arith, lines_room a c.write_lowered-n.ensures (shape_held a c.write_shape-m.ensures) (frame_held a c.write_frame-k.ensures))

pub returns : goal.returns
returns c = lines_written c.requires.accepted c.write_lowered-n.ensures (shape_held c.requires.accepted c.write_shape-m.ensures) (frame_held c.requires.accepted c.write_frame-k.ensures) c.write_job.ensures
