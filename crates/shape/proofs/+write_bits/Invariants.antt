-- One bit is written as such. Of more the record of a pair is written, the left side of their tree, and the right side into the rest behind it (`bits_fork`).
-- A call has fewer bits than its caller. Assumes nothing.
use Rattle.shape.proofs.+write_bits.Given as goal

abbrev pub decreases-write_bits : goal.decreases-write_bits
decreases-write_bits l = l.n
