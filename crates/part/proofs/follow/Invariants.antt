-- The loop's invariant (`Following`): a value stands at the place that was reached, and what is left of the path leads from there where the whole path leads.
-- Assumes nothing.
use Rattle.std.specs.Option.{option_copied}
use Rattle.types.specs.Entries.{ends, widths}
use Rattle.part.specs.Laws.Fixed.{Following}
use Rattle.part.proofs.follow.Given as goal

abbrev pub invariant-loop-j : goal.invariant-loop-j
invariant-loop-j l = Following (option_copied l.frame) l.table.ty.now (ends l.table.entries.now) (widths l.table.entries.now) l.path l.spot l.j
