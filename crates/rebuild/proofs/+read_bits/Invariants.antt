-- A product of bits is a bit, or a pair of two products of fewer bits. Assumes nothing.
use Rattle.rebuild.proofs.+read_bits.Given as goal

abbrev pub decreases-read_bits : goal.decreases-read_bits
decreases-read_bits l = l.n
