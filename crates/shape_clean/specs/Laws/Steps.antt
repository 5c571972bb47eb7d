-- What is copied, by the record at the place: in the form in which a writer's needs ask it (with `Stem` and `Pair` of `shape`).
use Rattle.std.specs.Prelude.{◌≡◌, refl, List, [], ◌∷◌, ℕ, ◌+◌, ◌≤◌, get_or}
use Rattle.std.proofs.Math.Path.{sym}
use Rattle.std.proofs.Common.{ap, ◌∙◌, arith}
use Rattle.std.proofs.Math.Option.{some, none-ne-some, some-injective}
use Rattle.std.proofs.Math.ListN.{length}
use Rattle.model.specs.Structural.{SValue, unit, left, right, shape_records}
use Rattle.told.specs.Laws.Trees.{joined}
use Rattle.told.specs.Laws.Lists.{tagged, tagged_is}
use Rattle.rebuild.specs.Places.{units, sums, pairs, bit}
use Rattle.rebuild.specs.Laws.Taken.{UnitTaken, is_unit, no_unit, unit_taken, SumTaken, is_left, is_right, no_sum, sum_taken, PairTaken, is_pair, no_pair, pair_taken}
use Rattle.rebuild.specs.Laws.Small.{in_file}
use Rattle.shape_clean.specs.Copies.{Copier, copied}

module _ (s : List ℕ) (p : ℕ) (y : SValue × ℕ) where
  -- a unit
  pub unit_there : units copied s p ≡ some y → (p + 1 ≤ length s) × (y ≡ (unit, p + 1))
  unfolding copied
  unit_there h = go (unit_taken copied s p)
    where
      go : UnitTaken copied s p → (p + 1 ≤ length s) × (y ≡ (unit, p + 1))
      go (is_unit e k) = (in_file s p 0 e (omega arith), sym (some-injective _ _ (sym k ∙ h)))
      go (no_unit e k) = absurd (none-ne-some y (sym k ∙ h))

  module _ (l r : Copier) where
    -- a left or a right, and what it leads to
    module _ (h : sums copied s l r p ≡ some y) where
      pub sum_left : get_or s p 4 ≡ 1 → sums copied s l r p ≡ tagged left (l (p + 1))
      unfolding copied
      sum_left e = go (sum_taken copied s p l r)
        where
          go : SumTaken copied s p l r → sums copied s l r p ≡ tagged left (l (p + 1))
          go (is_left f k) = k
          go (is_right f k) = absurd (omega arith)
          go (no_sum f g k) = absurd (f e)

      pub sum_right : (get_or s p 4 ≡ 1 → ⊥) → sums copied s l r p ≡ tagged right (r (p + 1))
      unfolding copied
      sum_right n = go (sum_taken copied s p l r)
        where
          go : SumTaken copied s p l r → sums copied s l r p ≡ tagged right (r (p + 1))
          go (is_left f k) = absurd (n f)
          go (is_right f k) = k
          go (no_sum f g k) = absurd (none-ne-some y (sym k ∙ h))

      pub sum_two : (get_or s p 4 ≡ 1 → ⊥) → get_or s p 4 ≡ 2
      unfolding copied
      sum_two n = go (sum_taken copied s p l r)
        where
          go : SumTaken copied s p l r → get_or s p 4 ≡ 2
          go (is_left f k) = absurd (n f)
          go (is_right f k) = f
          go (no_sum f g k) = absurd (none-ne-some y (sym k ∙ h))

      pub sum_inside : p + 1 ≤ length s
      unfolding copied
      sum_inside = go (sum_taken copied s p l r)
        where
          go : SumTaken copied s p l r → p + 1 ≤ length s
          go (is_left f k) = in_file s p 1 f (omega arith)
          go (is_right f k) = in_file s p 2 f (omega arith)
          go (no_sum f g k) = absurd (none-ne-some y (sym k ∙ h))

    -- a pair, and its two sides
    pub pair_there : pairs copied s l r p ≡ some y → (p + 1 ≤ length s) × (pairs copied s l r p ≡ joined (l (p + 1)) r)
    unfolding copied
    pair_there h = go (pair_taken copied s p l r)
      where
        go : PairTaken copied s p l r → (p + 1 ≤ length s) × (pairs copied s l r p ≡ joined (l (p + 1)) r)
        go (is_pair e k) = (in_file s p 3 e (omega arith), k)
        go (no_pair e k) = absurd (none-ne-some y (sym k ∙ h))

-- BITS

left_unit : shape_records (left unit) ≡ 1 ∷ 0 ∷ []
unfolding shape_records
left_unit = refl

right_unit : shape_records (right unit) ≡ 2 ∷ 0 ∷ []
unfolding shape_records
right_unit = refl

-- a left or a right with a unit
pub record BitThere (s : List ℕ) (p : ℕ) (y : SValue × ℕ) : Type 0 where
  pub inside : p + 2 ≤ length s
  pub after : y.1 ≡ p + 2
  pub records : shape_records y.0 ≡ get_or s p 4 ∷ 0 ∷ []

pub bit_there : (s : List ℕ) (p : ℕ) (y : SValue × ℕ) → bit copied s p ≡ some y → BitThere s p y
unfolding copied
bit_there s p y h = go (sum_taken copied s p (units copied s) (units copied s))
  where
    tag : (b : ℕ) (f : SValue → SValue) → shape_records (f unit) ≡ b ∷ 0 ∷ [] → get_or s p 4 ≡ b → tagged f (units copied s (p + 1)) ≡ some y → BitThere s p y
    tag b f e k m =
        let t = tagged_is f (units copied s (p + 1)) y.0 y.1 m in
        let u = unit_there s (p + 1) (t.inner, y.1) t.told in
        let i : p + 1 + 1 ≤ length s = u.0 in
        record { inside = omega arith; after = ap (λ (z : SValue × ℕ). z.1) u.1 ∙ omega arith; records = ap shape_records (t.same ∙ ap (λ (z : SValue × ℕ). f z.0) u.1) ∙ e ∙ ap (λ b. b ∷ 0 ∷ []) (sym k) }

    go : SumTaken copied s p (units copied s) (units copied s) → BitThere s p y
    go (is_left e k) = tag 1 left left_unit e (sym k ∙ h)
    go (is_right e k) = tag 2 right right_unit e (sym k ∙ h)
    go (no_sum e f k) = absurd (none-ne-some y (sym k ∙ h))
