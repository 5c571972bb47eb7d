-- One choice has no tag; of more, the tag leads to the choices of the left side or of the right side. The measure is how many choices there are.
-- Assumes nothing.
use Rattle.unframe.proofs.+find_choice.Given as goal

abbrev pub decreases-find_choice : goal.decreases-find_choice
decreases-find_choice l = l.n
