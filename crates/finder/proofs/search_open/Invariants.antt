-- What is found keeps the promise for some front of so many frames, which was read, and the buffer is as long as it was.
use Rattle.std.proofs.Common.{length, ◌≡◌}
use Rattle.finder.specs.Says.{Kept}
use Rattle.finder.proofs.search_open.Given as goal

abbrev pub invariant-loop-before : goal.invariant-loop-before
invariant-loop-before g l = (length l.piece ≡ length l.fn.piece) × Kept (g.R.Read.remaining l.initial.reader) (g.R.Read.remaining l.reader) l.ty l.path l.value l.before l.found
