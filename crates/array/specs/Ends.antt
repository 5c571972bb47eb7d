-- Where a tree of shape records ends (01, 'What Arc, Vec and closures become'): at the first record that closes it.
-- A record is one byte: 0 unit, 1 left, 2 right, 3 pair; a byte above 3 is no record.
use Rattle.std.specs.Prelude.{List, [], ◌∷◌, ℕ, zero, suc, ◌+◌, drop, Option, Some, None}

-- the place after a tree and the open children that are due after it, for records that start at place i:
-- a unit closes a tree, a left or a right has one child in its place, and a pair opens one more
unfoldable pub closes : ℕ → List ℕ → ℕ → Option ℕ
closes due [] i = None
closes zero (zero ∷ l) i = Some (i + 1)
closes (suc due) (zero ∷ l) i = closes due l (i + 1)
closes due (suc zero ∷ l) i = closes due l (i + 1)
closes due (suc (suc zero) ∷ l) i = closes due l (i + 1)
closes due (suc (suc (suc zero)) ∷ l) i = closes (suc due) l (i + 1)
closes due (suc (suc (suc (suc b))) ∷ l) i = None

-- the place after the tree that starts at `at`
unfoldable pub tree_end_of : List ℕ → ℕ → Option ℕ
tree_end_of s at = closes 0 (drop at s) at
