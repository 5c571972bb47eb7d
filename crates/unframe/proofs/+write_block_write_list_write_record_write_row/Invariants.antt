-- The writers of a record, a row of parts, a block and a list, which call each other. Each writes what stands there:
--     a record     its mark before what the form of the type's record says of what stands below it (`formed`)
--     a row        part by part, each into the rest behind what is written (`Rowing`, the loop's invariant)
--     a block      nothing where its tag is 0, else its elements in a row (`block_none`, `block_all`)
--     a list       a block of half the bound, and the list with that bound behind it (`halved_blocks`); with the bound 2 nothing where its tag is 0, else its one element (`two_placed`)
-- A call goes a level down, or stays on its level and comes nearer to a record, or halves the bound: a level weighs more than all bounds.
-- Assumes nothing.
use Prim.Native.Nat.{◌+◌, ◌-◌, ◌*◌, ◌^◌}
use Rattle.types.specs.Entries.{ends}
use Rattle.unframe.proofs.Steps.{Rowing}
use Rattle.unframe.proofs.+write_block_write_list_write_record_write_row.Given as goal

abbrev pub invariant-write_row-loop : goal.invariant-write_row-loop
invariant-write_row-loop l = Rowing l.parts l.level l.table.ty.now (ends l.table.entries.now) l.n l.at l.frame l.bit l.initial.out l.place l.here l.k (l.n - l.counter) l.out

abbrev pub decreases-write_block : goal.decreases-write_block
decreases-write_block l = l.level * 2 ^ 17 + 2

abbrev pub decreases-write_list : goal.decreases-write_list
decreases-write_list l = l.level * 2 ^ 17 + l.bound.value + 3

abbrev pub decreases-write_record : goal.decreases-write_record
decreases-write_record l = l.level * 2 ^ 17

abbrev pub decreases-write_row : goal.decreases-write_row
decreases-write_row l = l.level * 2 ^ 17 + 1
