-- One bit is copied as such. Of more the record of a pair is written, the left side of their tree, and the right side into the rest behind it (`bits_split`).
-- A call has fewer bits than its caller. Assumes nothing.
use Rattle.shape_clean.proofs.+copy_bits.Given as goal

abbrev pub decreases-copy_bits : goal.decreases-copy_bits
decreases-copy_bits l = l.n
