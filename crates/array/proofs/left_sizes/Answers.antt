-- The checker computes the left sizes of all 1,025 entries and compares them with the table's numbers.
use Rattle.std.proofs.Common.{refl}
use Rattle.model.specs.Balanced.{next, next_power_of_two, btree_split_index}
use Rattle.array.specs.Lefts.{left_size, lefts, left_sizes}
use Rattle.array.proofs.left_sizes.Goals as goal

pub returns : goal.returns
unfolding left_sizes lefts left_size btree_split_index next_power_of_two next
returns c = refl
