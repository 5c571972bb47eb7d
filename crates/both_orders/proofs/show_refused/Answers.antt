-- The line of a refusal fits.
use Rattle.std.proofs.Common.{ℕ}
use lib.ListN.{replicate, length-replicate}
use Rattle.text.proofs.Laws.Written.{wrote_counts}
use Rattle.both_orders.specs.Laws.{refusal_fits}
use Rattle.both_orders.proofs.show_refused.Goals as goal

pub slice_bounds-line-end : goal.slice_bounds-line-end
slice_bounds-line-end g c = (wrote_counts (refusal_fits c.args.x (replicate 12 0) (length-replicate {A = ℕ} 12 0)) c.write_refused-n.ensures).0

pub slice_bounds-write_all-end : goal.slice_bounds-write_all-end
slice_bounds-write_all-end g c = (wrote_counts (refusal_fits c.args.x (replicate 12 0) (length-replicate {A = ℕ} 12 0)) c.write_refused-n.ensures).1
