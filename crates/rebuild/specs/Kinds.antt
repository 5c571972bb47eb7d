-- A shape file in lock step with a type (01, 'Value file'), by the kinds of types: which readers a type is put together from.
-- What a reader answers is left open, and how it reads: `Places`.
use Rattle.std.specs.Prelude.{List, [], ◌∷◌, ℕ, zero, suc, ◌^◌, replicate}
use Rattle.model.specs.Balanced.{btree, fold}
use Rattle.model.specs.Types.{Ty, Tys, Variants, never, bool, uint, either, option, tuple, array, list, enum, nil, cons, last, more, size, count}

-- the readers of one record, and what they are put together with
pub record Readers (A : Type 0) : Type 0 where
  -- a unit and nothing else
  pub units : A
  -- a left with what the first reads, or a right with what the second reads
  pub sums : A → A → A
  -- a pair of what the first and what the second reads
  pub pairs : A → A → A
  -- any tree, which is not looked into
  pub passes : A
  -- nothing can be read
  pub fails : A
  -- a record of the value, and those of what is below it
  pub one : A → A

module _ {A : Type 0} (W : Readers A) where
  -- a balanced product of so many parts, any tree for none
  unfoldable pub products : ℕ → List A → A
  products n rs = fold W.pairs W.passes (btree n) rs

  -- a balanced sum
  unfoldable pub choices : ℕ → List A → A
  choices n rs = fold W.sums W.fails (btree n) rs

  abbrev pub bits : A
  bits = W.sums W.units W.units

  -- a block of n, none or all of them
  unfoldable pub blocks : ℕ → A → A
  blocks n r = W.sums W.units (products n (replicate n r))

  -- a list: blocks, the largest first
  unfoldable pub lists : ℕ → A → A
  lists zero r = blocks 1 r
  lists (suc e) r = W.pairs (blocks (2 ^ suc e) r) (lists e r)

  unfoldable mutual
    pub reads : Ty → A
    reads never = W.fails
    reads bool = W.one bits
    reads (uint w) = W.one (products w (replicate w bits))
    reads (either a b) = W.one (W.sums (reads a) (reads b))
    reads (option a) = W.one (W.sums W.units (reads a))
    reads (tuple ts) = W.one (products (size ts) (readers ts))
    reads (array a n) = W.one (products n (replicate n (reads a)))
    reads (list a e) = W.one (lists e (reads a))
    reads (enum vs) = W.one (choices (count vs) (cases vs))

    pub readers : Tys → List A
    readers nil = []
    readers (cons t ts) = reads t ∷ readers ts

    pub cases : Variants → List A
    cases (last ts) = products (size ts) (readers ts) ∷ []
    cases (more ts vs) = products (size ts) (readers ts) ∷ cases vs
