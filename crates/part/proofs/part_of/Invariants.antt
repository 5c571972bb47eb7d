-- The loop passes over the types before part i (`Passing`): those that are left lead where all lead, and stand in the tables. The level stays. Assumes nothing.
use Rattle.std.specs.Prelude.{◌≡◌}
use Rattle.types.specs.Entries.{ends, widths}
use Rattle.part.specs.Laws.Asked.{Passing}
use Rattle.part.proofs.part_of.Given as goal

abbrev pub invariant-loop : goal.invariant-loop
invariant-loop l = Passing (ends l.table.entries.now) (widths l.table.entries.now) l.i l.fn.first.at l.fn.first.bit l.here.at l.here.bit l.counter × (l.here.level ≡ l.fn.first.level)
