-- Copy i begins i times the width behind the first, and ends where n of them end at the latest.
-- Assumes nothing.
use Rattle.part.specs.Laws.Asked.{copy_there, copy_none}
use Rattle.part.proofs.copy_of.Goals as goal

pub returns-then-i-n : goal.returns-then-i-n
returns-then-i-n c = rw c.width.ensures (copy_there _ _ _ _ _ _ c.if-i-n.true)

pub returns-else-i-n : goal.returns-else-i-n
returns-else-i-n c = copy_none _ _ _ _ _ _ c.if-i-n.false
