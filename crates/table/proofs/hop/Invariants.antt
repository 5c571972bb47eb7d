-- The records that are left, from the one reached, lead where all lead from the first, and stand in the table.
use Rattle.types.specs.Entries.{ends}
use Rattle.table.specs.Hops.{Hopping}
use Rattle.table.proofs.hop.Given as goal

abbrev pub invariant-loop : goal.invariant-loop
invariant-loop l = Hopping (ends l.table.entries.now) l.n l.at l.counter l.next
