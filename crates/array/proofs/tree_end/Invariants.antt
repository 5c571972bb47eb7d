-- The records from i on, with the trees that are due, close where the whole does. Each record makes one tree more due at most,
-- so the count of them never passes i.
use mathlib.Core.Path.{◌≡◌}
use mathlib.Core.List.{List}
use Prim.Native.Nat.{ℕ, ◌≤◌}
use lib.ListN.{drop}
use Rattle.array.specs.Ends.{closes, tree_end_of}
use Rattle.array.proofs.tree_end.Given as goal

pub record Closing (s : List ℕ) (at due i : ℕ) : Type 0 where
  pub same : tree_end_of s at ≡ closes due (drop i s) i
  pub few : due ≤ i

abbrev pub invariant-loop-i : goal.invariant-loop-i
invariant-loop-i l = Closing l.shape l.at l.due l.i
