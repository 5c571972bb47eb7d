-- The copiers of a record, a product, a sum, a block and a list, which call each other. Each copies what it is to copy:
--     a record     the product, the sum or the list that its form says, of what stands below it (`record_product` and the others)
--     a product    of two parts or more the record of a pair, the left side, and the right side into the rest behind it (`product_done`)
--     a sum        the left or the right, and the side that it leads to (`chosen_left_done`, `chosen_right_done`)
--     a block      a left with a unit, or a right with the product of its elements (`empty_placed`, `block_done`)
--     a list       the record of a pair, the block of half the bound, and the list with that bound (`list_done`)
-- A call goes a level down, or stays on its level with fewer parts or half the bound: a level weighs more than all counts and bounds.
-- Assumes nothing.
use Prim.Native.Nat.{◌+◌, ◌*◌, ◌^◌}
use Rattle.shape_clean.proofs.+copy_block_copy_list_copy_product_copy_record_copy_sum.Given as goal

abbrev pub decreases-copy_block : goal.decreases-copy_block
decreases-copy_block l = l.level * 2 ^ 17 + l.n + 2

abbrev pub decreases-copy_list : goal.decreases-copy_list
decreases-copy_list l = l.level * 2 ^ 17 + l.bound.value + 4

abbrev pub decreases-copy_product : goal.decreases-copy_product
decreases-copy_product l = l.level * 2 ^ 17 + l.n + 1

abbrev pub decreases-copy_record : goal.decreases-copy_record
decreases-copy_record l = l.level * 2 ^ 17

abbrev pub decreases-copy_sum : goal.decreases-copy_sum
decreases-copy_sum l = l.level * 2 ^ 17 + l.n + 1
