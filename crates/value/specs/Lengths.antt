-- The records of a shape that are a value's own, added to what stands before them and cut at 65,537.
use Rattle.std.specs.Prelude.{ℕ, zero, suc, ◌+◌, ◌-◌, ◌^◌, ltb, eqb}
use Rattle.model.specs.Options.{pick}
use Rattle.model.specs.Balanced.{BTree, leaf, fork, leaves}
use Rattle.table.specs.Facts.{cut}

-- n more records
unfoldable pub add : ℕ → ℕ → ℕ
add k n = cut (k + n)

-- what joins n parts: pairs, or the unit where there are none
unfoldable pub joints : ℕ → ℕ
joints n = pick (eqb n 0) 1 (n - 1)

-- a list of m elements with blocks of up to 2 ^ e: an empty block is two records, a full one has a tag and its pairs, and pairs join the blocks
unfoldable pub blocks : ℕ → ℕ → ℕ → ℕ
blocks zero m k = add k (pick (eqb m 0) 2 1)
blocks (suc e) m k = pick (ltb m (2 ^ suc e)) (blocks e m (add k 3)) (blocks e (m - 2 ^ suc e) (add k (2 ^ suc e + 1)))

-- the tags that lead to leaf i
unfoldable pub tags : BTree → ℕ → ℕ → ℕ
tags leaf i k = k
tags (fork l r) i k = pick (ltb i (leaves l)) (tags l i (add k 1)) (tags r (i - leaves l) (add k 1))
