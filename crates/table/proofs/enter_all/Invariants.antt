-- `table::enter_all` meets its contract. Invariant: the facts of the records from i on are put down in the table, its ends are as they were, and the flags tell of those records. Assumes nothing.
use mathlib.Core.Path.{◌≡◌}
use Rattle.types.specs.Entries.{ends, sizes, widths}
use Rattle.table.specs.Measuring.{Filling}
use Rattle.table.proofs.enter_all.Given as goal

abbrev pub invariant-loop-i : goal.invariant-loop-i
invariant-loop-i l = (ends l.entries ≡ ends l.initial.entries) × Filling l.ty (ends l.initial.entries) l.n l.i l.never l.large (sizes l.entries) (widths l.entries)
