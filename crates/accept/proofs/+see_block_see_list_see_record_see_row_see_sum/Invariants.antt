-- The walks over a record, a row, a sum, a block and a list, which call each other. Each sees what it is to see:
--     a record     the row, the sum or the list that its form says, of what stands below it (`formed`)
--     a row        its first part, and then the rest from the next bit on (`Rowing`, the loop's invariant); of Booleans or integers a record each (`row_plain`)
--     a sum        by its tag one of its two sides, and of one choice the payload with zeros behind it
--     a list       a block of half the bound, and the list with that bound behind it (`list_more`)
-- A call goes a level down, or stays on its level with fewer choices or half the bound: a level weighs more than all counts and bounds.
-- Assumes nothing.
use Rattle.std.specs.Prelude.{Some}
use Prim.Native.Nat.{◌+◌, ◌-◌, ◌*◌, ◌^◌}
use Rattle.types.specs.Entries.{ends}
use Rattle.accept.specs.Laws.Walking.{Rowing}
use Rattle.accept.proofs.+see_block_see_list_see_record_see_row_see_sum.Given as goal

abbrev pub invariant-see_row-loop : goal.invariant-see_row-loop
invariant-see_row-loop l = Rowing l.parts l.level l.table.ty.now (ends l.table.entries.now) l.n l.at l.frame l.bit (Some l.all) l.place l.here (l.n - l.counter)

abbrev pub decreases-see_block : goal.decreases-see_block
decreases-see_block l = l.level * 2 ^ 17 + 2

abbrev pub decreases-see_list : goal.decreases-see_list
decreases-see_list l = l.level * 2 ^ 17 + l.bound.value + 3

abbrev pub decreases-see_record : goal.decreases-see_record
decreases-see_record l = l.level * 2 ^ 17

abbrev pub decreases-see_row : goal.decreases-see_row
decreases-see_row l = l.level * 2 ^ 17 + 1

abbrev pub decreases-see_sum : goal.decreases-see_sum
decreases-see_sum l = l.level * 2 ^ 17 + l.n + 1
