-- Readers over the places of a shape file: which records each of them takes. What it answers then is left open (`Answers`): `Reads` counts, `shape_clean` copies.
use Rattle.std.specs.Prelude.{List, ℕ, zero, suc, ◌+◌, get_or, Option, Some, None}
use Rattle.array.specs.Ends.{tree_end_of}
use Rattle.rebuild.specs.Kinds.{Readers}

-- what is answered
pub record Answers (R : Type 0) : Type 0 where
  -- that nothing can be read
  pub nothing : R
  -- of a unit, with the place after it
  pub unit : ℕ → R
  -- of a left and of a right, from what is answered of what stands below
  pub lefts : R → R
  pub rights : R → R
  -- of a pair, from what is answered of its left side and, at the place after that, of its right side
  pub pairs : R → (ℕ → R) → R
  -- of a tree that is not looked into, with its place and the place after it
  pub tree : ℕ → ℕ → R
  -- of a value, from what is answered of its parts
  pub one : R → R

module _ {R : Type 0} (A : Answers R) where
  -- a record, and what stands behind it
  abbrev pub closed : ℕ → ℕ → R
  closed zero q = A.unit q
  closed (suc b) q = A.nothing

  abbrev pub side : ℕ → (ℕ → R) → (ℕ → R) → ℕ → R
  side zero l r q = A.nothing
  side (suc zero) l r q = A.lefts (l q)
  side (suc (suc zero)) l r q = A.rights (r q)
  side (suc (suc (suc b))) l r q = A.nothing

  abbrev pub both : ℕ → (ℕ → R) → (ℕ → R) → ℕ → R
  both zero l r q = A.nothing
  both (suc zero) l r q = A.nothing
  both (suc (suc zero)) l r q = A.nothing
  both (suc (suc (suc zero))) l r q = A.pairs (l q) r
  both (suc (suc (suc (suc b)))) l r q = A.nothing

  abbrev pub passed : ℕ → Option ℕ → R
  passed p (Some e) = A.tree p e
  passed p None = A.nothing

  module _ (s : List ℕ) where
    -- a unit and nothing else; the record at a place is 4, which is none, behind the last
    unfoldable pub units : ℕ → R
    units p = closed (get_or s p 4) (p + 1)

    -- a left with what the first reads, or a right with what the second reads
    unfoldable pub sums : (ℕ → R) → (ℕ → R) → ℕ → R
    sums l r p = side (get_or s p 4) l r (p + 1)

    -- a pair of what the first and what the second reads
    unfoldable pub pairs : (ℕ → R) → (ℕ → R) → ℕ → R
    pairs l r p = both (get_or s p 4) l r (p + 1)

    -- any tree, which is not looked into
    unfoldable pub passes : ℕ → R
    passes p = passed p (tree_end_of s p)

    -- nothing can be read
    abbrev pub fails : ℕ → R
    fails p = A.nothing

    -- a bit
    abbrev pub bit : ℕ → R
    bit = sums units units

    unfoldable pub at_places : Readers (ℕ → R)
    at_places = record { units = units; sums = sums; pairs = pairs; passes = passes; fails = fails; one = λ r p. A.one (r p) }
