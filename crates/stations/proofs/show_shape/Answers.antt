-- A digit for each byte of the file fits a buffer as long as the file's.
use Rattle.std.proofs.Common.{◌≡◌, ℕ, ◌≤◌, List, length, arith}
use lib.ListN.{replicate, length-replicate}
use Rattle.text.specs.Lines.{in_digits}
use Rattle.text.proofs.Laws.Sizes.{digits_length}
use Rattle.text.proofs.Laws.Written.{wrote_counts}
use Rattle.stations.proofs.show_shape.Goals as goal

fits : (s line : List ℕ) → length s ≤ 65540 → length line ≡ 65540 → length (in_digits s) ≤ length line
fits s line l m = omega (arith, digits_length s)

pub write_digits-n-requires : goal.write_digits-n-requires
write_digits-n-requires g c = omega (arith, digits_length c.read_into-shape.result.now, c.read_into-shape.ensures)

pub slice_bounds-line-end : goal.slice_bounds-line-end
slice_bounds-line-end g c = (wrote_counts (fits c.read_into-shape.result.now (replicate 65540 0) c.read_into-shape.ensures (length-replicate {A = ℕ} 65540 0)) c.write_digits-n.ensures).0

pub slice_bounds-write_all-end : goal.slice_bounds-write_all-end
slice_bounds-write_all-end g c = (wrote_counts (fits c.read_into-shape.result.now (replicate 65540 0) c.read_into-shape.ensures (length-replicate {A = ℕ} 65540 0)) c.write_digits-n.ensures).1
