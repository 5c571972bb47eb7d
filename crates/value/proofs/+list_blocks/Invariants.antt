-- The exponent falls by one with each block.

use Rattle.value.proofs.+list_blocks.Given as goal

abbrev pub decreases-list_blocks : goal.decreases-list_blocks
decreases-list_blocks l = l.e
