-- The writers of a record, a part, a tree, a block and a list, which call each other. Each writes what it is to write:
--     a record     the tree or the list that its form says, of what stands below it (`formed`)
--     a tree       of two parts or more the record that joins its sides, the left side, and the right side into the rest behind it (`tree_fork`), or the left side once more where the right side is the same (`tree_twice`)
--     a list       likewise the record of a product, a block of half the bound, and the list with that bound (`list_sides`)
-- A call goes a level down, or stays on its level with fewer parts or half the bound: a level weighs more than all counts and bounds.
-- Assumes nothing.
use Prim.Native.Nat.{◌+◌, ◌*◌, ◌^◌}
use Rattle.structural.proofs.+write_block_write_list_write_part_write_record_write_tree.Given as goal

abbrev pub decreases-write_block : goal.decreases-write_block
decreases-write_block l = l.level * 2 ^ 17 + l.n + 2

abbrev pub decreases-write_list : goal.decreases-write_list
decreases-write_list l = l.level * 2 ^ 17 + l.bound.value + 4

abbrev pub decreases-write_part : goal.decreases-write_part
decreases-write_part l = l.level * 2 ^ 17 + 1

abbrev pub decreases-write_record : goal.decreases-write_record
decreases-write_record l = l.level * 2 ^ 17

abbrev pub decreases-write_tree : goal.decreases-write_tree
decreases-write_tree l = l.level * 2 ^ 17 + l.n + 1
