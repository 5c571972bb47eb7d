-- The writers of a record, a product, a sum and a list, which call each other. Each writes what stands at its place:
--     a record     what its form says (`formed`): behind its own record the product, the sum or the list of what stands below it
--     a product    of two parts or more the left side, and the right side into the rest behind it (`product_sides`)
--     a sum        the side that a left or a right leads to (`sum_left`, `sum_right`)
--     a list       likewise the elements that its first block holds (`block_held`), and the list with half the bound (`list_more`); with the bound 2 none or one (`list_two`)
-- A call goes a level down, or stays on its level with fewer parts or half the bound: a level weighs more than all counts and bounds.
-- Assumes nothing.
use Prim.Native.Nat.{◌+◌, ◌*◌, ◌^◌}
use Rattle.restore.proofs.+write_list_write_product_write_record_write_sum.Given as goal

abbrev pub decreases-write_list : goal.decreases-write_list
decreases-write_list l = l.level * 2 ^ 17 + l.bound.value + 4

abbrev pub decreases-write_product : goal.decreases-write_product
decreases-write_product l = l.level * 2 ^ 17 + l.n + 1

abbrev pub decreases-write_record : goal.decreases-write_record
decreases-write_record l = l.level * 2 ^ 17

abbrev pub decreases-write_sum : goal.decreases-write_sum
decreases-write_sum l = l.level * 2 ^ 17 + l.n + 1
