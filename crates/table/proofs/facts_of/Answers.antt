use Rattle.std.proofs.Common.{⊎_elim}
use Rattle.types.specs.Heads.{fair}
use Rattle.table.specs.Steps.{row_small}
use Rattle.table.proofs.facts_of.Goals as goal

pub product_facts-requires : goal.product_facts-requires
product_facts-requires c = row_small _ _ _ _ _ _ c.sum_entries.ensures (⊎_elim (fair _ _ c.requires) (fair _ _ c.requires) c.in-Tuple.is)
