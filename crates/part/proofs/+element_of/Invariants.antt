-- With the bound 2 the list is a block of 1, else a block of half the bound and the list with that bound behind it (`last_block`, `more_blocks`).
-- The measure is the bound. Assumes nothing.
use Rattle.part.proofs.+element_of.Given as goal

abbrev pub decreases-element_of : goal.decreases-element_of
decreases-element_of l = l.bound.value
