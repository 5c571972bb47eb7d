-- The loop's invariant: i of the bytes stand once more behind the front. Assumes nothing.
use Prim.Native.Nat.{◌≤◌}
use Rattle.structural.proofs.Laws.Writing.{Repeated}
use Rattle.structural.proofs.repeat.Given as goal

abbrev pub invariant-loop-i : goal.invariant-loop-i
invariant-loop-i l = (l.i ≤ l.len) × Repeated l.len l.i l.initial.out l.out
