-- One bit is set; of more, those of the left side are written first, and those of the right side behind them. The measure is how many bits are left.
-- Assumes nothing.

use Rattle.restore.proofs.+write_bits.Given as goal

abbrev pub decreases-write_bits : goal.decreases-write_bits
decreases-write_bits l = l.n
