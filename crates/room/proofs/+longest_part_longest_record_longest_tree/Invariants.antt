-- The walk over a record, a part and a tree, which call each other. Each answers the most records of a shape of what it walks over:
--     a record     of the tree or the list that its form says, of what stands below it (`formed`)
--     a tree       of parts that are the same, of one of them and their number; else of its two sides, by what joins them
-- A call goes a level down, or stays on its level with fewer parts: a level weighs more than all counts.
-- Assumes nothing.
use Prim.Native.Nat.{◌+◌, ◌*◌, ◌^◌}
use Rattle.room.proofs.+longest_part_longest_record_longest_tree.Given as goal

abbrev pub decreases-longest_part : goal.decreases-longest_part
decreases-longest_part l = l.level * 2 ^ 17 + 1

abbrev pub decreases-longest_record : goal.decreases-longest_record
decreases-longest_record l = l.level * 2 ^ 17

abbrev pub decreases-longest_tree : goal.decreases-longest_tree
decreases-longest_tree l = l.level * 2 ^ 17 + l.n + 1
