use Prim.Native.Nat.{◌-◌}
use Rattle.types.specs.Entries.{ends, sizes, widths}
use Rattle.table.specs.Steps.{Summing}
use Rattle.table.proofs.sum_entries.Given as goal

abbrev pub invariant-loop : goal.invariant-loop
invariant-loop l = Summing (ends l.entries) (sizes l.entries) (widths l.entries) l.n l.p (l.n - l.counter) l.q l.size l.width
