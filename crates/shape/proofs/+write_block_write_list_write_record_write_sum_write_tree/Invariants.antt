-- The writers of a record, a tree, a sum, a block and a list, which call each other. Each writes what it is to write:
--     a record     what its form says of what stands below it (`as_bits` and the others)
--     a tree       of two parts or more the record of a pair, the left side, and the right side into the rest behind it (`tree_pair`)
--     a sum        the tag of the side on which the choice is, and the sum of that side (`sum_left`, `sum_right`)
--     a block      a tag, and a unit or the tree of its elements (`block_stem`)
--     a list       the record of a pair, the block of half the bound, and the list with that bound (`listed_more`)
-- A call goes a level down, or stays on its level with fewer parts or half the bound: a level weighs more than all counts and bounds.
-- Assumes nothing.
use Prim.Native.Nat.{◌+◌, ◌*◌, ◌^◌}
use Rattle.shape.proofs.+write_block_write_list_write_record_write_sum_write_tree.Given as goal

abbrev pub decreases-write_block : goal.decreases-write_block
decreases-write_block l = l.level * 2 ^ 17 + l.n + 2

abbrev pub decreases-write_list : goal.decreases-write_list
decreases-write_list l = l.level * 2 ^ 17 + l.bound.value + 4

abbrev pub decreases-write_record : goal.decreases-write_record
decreases-write_record l = l.level * 2 ^ 17

abbrev pub decreases-write_sum : goal.decreases-write_sum
decreases-write_sum l = l.level * 2 ^ 17 + l.n

abbrev pub decreases-write_tree : goal.decreases-write_tree
decreases-write_tree l = l.level * 2 ^ 17 + l.n + 1
