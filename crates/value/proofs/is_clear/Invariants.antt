-- The bytes joined so far are zero exactly if they are clear.
use Rattle.std.proofs.Common.{◌≡◌, eqb}
use Rattle.value.specs.Record.{clear}
use Rattle.value.proofs.is_clear.Given as goal

abbrev pub invariant-loop-x : goal.invariant-loop-x
invariant-loop-x l = eqb l.any 0 ≡ clear l.val l.b l.x-index
