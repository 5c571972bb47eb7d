-- A side has fewer choices than the whole: their number is the measure. Assumes nothing.

use Rattle.frame.proofs.+write_tags.Given as goal

abbrev pub decreases-write_tags : goal.decreases-write_tags
decreases-write_tags l = l.n
