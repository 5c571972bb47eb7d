-- The loop's invariant: none of the first i frames matches, and the bits are of the type that is kept beside them. Assumes nothing.
use Rattle.model.specs.Frames.{after}
use Rattle.day_files.specs.Laws.Days.{MatchesAt, NoneBefore}
use Rattle.search.specs.Forms.{Kept}
use Rattle.search.proofs.search_led.Given as goal

abbrev pub invariant-loop-i : goal.invariant-loop-i
invariant-loop-i l = Kept l.table.ty.now l.value l.sought.bits l.sought.last × NoneBefore (MatchesAt after l.table.ty.now l.day l.path l.value l.size) l.i
