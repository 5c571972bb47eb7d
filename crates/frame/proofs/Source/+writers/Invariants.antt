-- The writers of a record, a row, a sum, a block and a list, which call each other. Each writes what it is to write:
--     a record     the bits, the row, the sum or the list that its form says, of what stands below it (`Laws.Forms`)
--     a row        its parts, one behind the other: what the parts that are left write completes it (`Going`)
--     a sum        the tags, the choice's frame and zeros up to the width
--     a block      its tag, then its elements or zeros
--     a list       a block of half the bound, and the list with that bound
-- A call goes a level down, or stays on its level with half the bound: a level weighs more than all bounds.
-- Assumes nothing.
use Prim.Native.Nat.{◌+◌, ◌-◌, ◌*◌, ◌^◌}
use Rattle.types.specs.Entries.{ends}
use Rattle.frame.proofs.Steps.{Going}
use Rattle.frame.proofs.Source.+writers.Given as goal

abbrev pub invariant-row-loop : goal.invariant-row-loop
invariant-row-loop l = Going l.parts l.level l.self.table.ty.now (ends l.self.table.entries.now) l.self.val.now l.n l.at l.initial.here.next l.initial.buf l.initial.here.bit l.buf l.place l.here.next l.here.bit (l.n - l.counter)

abbrev pub decreases-block : goal.decreases-block
decreases-block l = l.level * 2 ^ 17 + 2

abbrev pub decreases-list : goal.decreases-list
decreases-list l = l.level * 2 ^ 17 + l.bound.value + 3

abbrev pub decreases-record : goal.decreases-record
decreases-record l = l.level * 2 ^ 17

abbrev pub decreases-row : goal.decreases-row
decreases-row l = l.level * 2 ^ 17 + 1

abbrev pub decreases-sum : goal.decreases-sum
decreases-sum l = l.level * 2 ^ 17 + 1
