-- The spots of a shape (02, R-5 and R-6): the places where an empty tuple, an array of 0 or a variant without parts is read.
-- The Rust never looks there (`Reconstruct`). One walk over a type and a shape together leads to them, along what `reconstruct` takes apart.
use Rattle.std.specs.Prelude.{Bool, true, false, ◌||◌, List, [], ◌∷◌, ℕ, zero, suc, ◌^◌, replicate}
use Rattle.model.specs.Balanced.{btree, fold}
use Rattle.model.specs.Structural.{SValue, unit, left, right, pair}
use Rattle.model.specs.Types.{Ty, Tys, Variants, never, bool, uint, either, option, tuple, array, list, enum, nil, cons, last, more, size, count}

-- what a walk makes of a shape: of what stands at a spot, of what holds no spot, and of what it made below a left, a right and a pair
pub record Walk (A : Type 0) : Type 0 where
  pub spot : SValue → A
  pub other : SValue → A
  pub lefts : A → A
  pub rights : A → A
  pub pairs : A → A → A

module _ {A : Type 0} (w : Walk A) where
  -- a left is walked by the first, a right by the second
  abbrev pub in_sum : (SValue → A) → (SValue → A) → SValue → A
  in_sum f g unit = w.other unit
  in_sum f g (left s) = w.lefts (f s)
  in_sum f g (right s) = w.rights (g s)
  in_sum f g (pair s t) = w.other (pair s t)

  abbrev pub in_pair : (SValue → A) → (SValue → A) → SValue → A
  in_pair f g unit = w.other unit
  in_pair f g (left s) = w.other (left s)
  in_pair f g (right s) = w.other (right s)
  in_pair f g (pair s t) = w.pairs (f s) (g t)

  -- a tuple of so many parts, each walked by its own; of none, it is a spot
  abbrev pub in_tuple : ℕ → List (SValue → A) → SValue → A
  in_tuple n fs = fold in_pair w.spot (btree n) fs

  -- the one of so many choices that the lefts and rights lead to
  abbrev pub in_choice : ℕ → List (SValue → A) → SValue → A
  in_choice n fs = fold in_sum w.other (btree n) fs

  -- a list: blocks, the largest first
  abbrev pub in_block : ℕ → (SValue → A) → SValue → A
  in_block n f = in_sum w.other (in_tuple n (replicate n f))

  unfoldable pub in_list : ℕ → (SValue → A) → SValue → A
  in_list zero f = in_block 1 f
  in_list (suc e) f = in_pair (in_block (2 ^ suc e) f) (in_list e f)

  -- an integer is a tuple of bits, and a bit holds no spot
  unfoldable mutual
    pub walk : Ty → SValue → A
    walk never = w.other
    walk bool = w.other
    walk (uint n) = in_tuple n (replicate n w.other)
    walk (either a b) = in_sum (walk a) (walk b)
    walk (option a) = in_sum w.other (walk a)
    walk (tuple ts) = in_tuple (size ts) (walks ts)
    walk (array a n) = in_tuple n (replicate n (walk a))
    walk (list a e) = in_list e (walk a)
    walk (enum vs) = in_choice (count vs) (walks_of vs)

    pub walks : Tys → List (SValue → A)
    walks nil = []
    walks (cons t ts) = walk t ∷ walks ts

    -- a variant's payload is the tuple of its parts
    pub walks_of : Variants → List (SValue → A)
    walks_of (last ts) = in_tuple (size ts) (walks ts) ∷ []
    walks_of (more ts vs) = in_tuple (size ts) (walks ts) ∷ walks_of vs

-- anything but a unit
abbrev pub not_unit : SValue → Bool
not_unit unit = false
not_unit (left s) = true
not_unit (right s) = true
not_unit (pair s t) = true

-- R-5: anything but a unit stands at a spot
abbrev pub lacking : Walk Bool
lacking = record { spot = not_unit; other = λ s. false; lefts = λ b. b; rights = λ b. b; pairs = ◌||◌ }

abbrev pub lacks_unit : Ty → SValue → Bool
lacks_unit t s = walk lacking t s

-- R-6: a unit at each of the spots, and all else copied
abbrev pub cleaning : Walk SValue
cleaning = record { spot = λ s. unit; other = λ s. s; lefts = left; rights = right; pairs = pair }

abbrev pub cleaned : Ty → SValue → SValue
cleaned t s = walk cleaning t s
