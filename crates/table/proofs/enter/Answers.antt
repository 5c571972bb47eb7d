-- `table::enter` meets its contract: the facts of record i are computed from what stands behind it, and put down there; its end stays. Assumes nothing.
use Rattle.std.proofs.Common.{refl}
use Rattle.types.proofs.Entries.{ends_same, sizes_set, widths_set}
use Rattle.table.specs.Measuring.{entered}
use Rattle.table.proofs.enter.Goals as goal

pub returns-clause-kept : goal.returns-clause-kept
returns-clause-kept c = ends_same _ _ _ refl

pub returns-clause-entered : goal.returns-clause-entered
returns-clause-entered c = rw (sizes_set c.args.entries.now c.args.i _, widths_set c.args.entries.now c.args.i _) (entered _ _ _ _ _ _ c.facts_of-size.ensures)
