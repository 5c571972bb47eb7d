-- The readers of a record, a product, a sum, a block and a list, which call each other. Each reads what it is to read:
--     a record     the product, the sum or the list that its form says, of what stands below it (`formed`)
--     a product    of two parts or more a pair, the left side, and the right side behind it (`balanced_step`)
--     a sum        a left or a right, and the side that it leads to (`chosen_step`)
--     a list       likewise a pair of a block of half the bound and the list with that bound (`list_more`)
-- A call goes a level down, or stays on its level with fewer parts or half the bound: a level weighs more than all counts and bounds.
-- Assumes nothing.
use Prim.Native.Nat.{◌+◌, ◌*◌, ◌^◌}
use Rattle.rebuild.proofs.+read_block_read_list_read_product_read_record_read_sum.Given as goal

abbrev pub decreases-read_block : goal.decreases-read_block
decreases-read_block l = l.level * 2 ^ 17 + l.n + 2

abbrev pub decreases-read_list : goal.decreases-read_list
decreases-read_list l = l.level * 2 ^ 17 + l.bound.value + 4

abbrev pub decreases-read_product : goal.decreases-read_product
decreases-read_product l = l.level * 2 ^ 17 + l.n + 1

abbrev pub decreases-read_record : goal.decreases-read_record
decreases-read_record l = l.level * 2 ^ 17

abbrev pub decreases-read_sum : goal.decreases-read_sum
decreases-read_sum l = l.level * 2 ^ 17 + l.n + 1
