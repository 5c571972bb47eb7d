-- The loop's invariant: none of the first i frames is accepted with the sought bits. Assumes nothing.
use Rattle.day_files.specs.Laws.Days.{NoneBefore}
use Rattle.types.specs.Entries.{ends}
use Rattle.search.specs.Forms.{Stood}
use Rattle.search.proofs.search_fixed.Given as goal

abbrev pub invariant-loop-i : goal.invariant-loop-i
invariant-loop-i l = NoneBefore (Stood l.table.ty.now (ends l.table.entries.now) l.day l.size l.bit l.n l.bits) l.i
