-- A fork's side has fewer leaves: their number is the measure.

use Rattle.value.proofs.+enum_tags.Given as goal

abbrev pub decreases-enum_tags : goal.decreases-enum_tags
decreases-enum_tags l = l.n
