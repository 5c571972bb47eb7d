-- Two digits for each byte of a frame fit the line.
use Rattle.std.proofs.Common.{ℕ, arith}
use lib.ListN.{replicate, length-replicate}
use Rattle.text.proofs.Laws.Sizes.{hex_length}
use Rattle.text.proofs.Laws.Written.{wrote_counts}
use Rattle.both_orders.specs.Laws.{hex_room}
use Rattle.both_orders.proofs.show.Goals as goal

pub write_hex-n-requires : goal.write_hex-n-requires
write_hex-n-requires g c = omega (arith, hex_length c.args.frame.now, c.requires)

pub slice_bounds-line-end : goal.slice_bounds-line-end
slice_bounds-line-end g c = (wrote_counts (hex_room c.args.frame.now (replicate 8192 0) c.requires (length-replicate {A = ℕ} 8192 0)) c.write_hex-n.ensures).0

pub slice_bounds-write_all-end : goal.slice_bounds-write_all-end
slice_bounds-write_all-end g c = (wrote_counts (hex_room c.args.frame.now (replicate 8192 0) c.requires (length-replicate {A = ℕ} 8192 0)) c.write_hex-n.ensures).1
