-- Laws of balanced trees of parts, as code writes them: none, one, or the two sides of the tree, each of the parts that are its share.
use Rattle.std.specs.Prelude.{◌≡◌}
use Rattle.std.proofs.Math.Path.{refl, sym, ap, ap₂}
use Rattle.std.proofs.Common.{◌∙◌, zero-add, suc-add, take_at, drop_at}
use mathlib.Core.List.{List, [], ◌∷◌, ◌++◌}
use Rattle.std.proofs.Math.Option.{Option, none, some, none-ne-some, some-injective}
use Prim.Native.Nat.{ℕ, zero, suc, ◌+◌, ◌-◌, ◌≤◌}
use native.Mathlib.Omega.{arith}
use Rattle.std.proofs.Math.ListN.{length}
use Rattle.model.specs.Options.{map_o, bind_o}
use Rattle.model.specs.Balanced.{btree_split_index, btree, fold}
use Rattle.model.specs.Structural.{SValue, unit, pair}
use Rattle.model.proofs.Laws.Balanced.{split_bounds, Shares}
use Rattle.model.proofs.Laws.Sizes.{fold_none, fold_one, fold_step}
use Rattle.structural.specs.Forms.{Stands}
use Rattle.types.specs.declared.forms.Parts.{Parts}
use Rattle.told.specs.Forms.{Told, standing, after, skip, row, GivenParts, balanced}

-- ONE AFTER THE OTHER

-- shapes, and the record after what they are of
abbrev pub Shapes : Type 0
Shapes = Option (List SValue × ℕ)

-- a shape before others, and others before others
abbrev with_first : SValue → List SValue × ℕ → List SValue × ℕ
with_first x y = (x ∷ y.0, y.1)

abbrev with_all : List SValue → List SValue × ℕ → List SValue × ℕ
with_all xs y = (xs ++ y.0, y.1)

-- a shape as the left side of a pair
abbrev pub paired : SValue → SValue × ℕ → SValue × ℕ
paired x y = (pair x y.0, y.1)

-- n shapes as their balanced product
abbrev folded : ℕ → List SValue × ℕ → SValue × ℕ
folded n x = (fold pair unit (btree n) x.0, x.1)

-- shapes, and then those from the record after them
abbrev pub and_then : Shapes → (ℕ → Shapes) → Shapes
and_then l r = bind_o l (λ x. map_o (with_all x.0) (r x.1))

-- a shape, and then that from the record after it, as a pair
abbrev pub joined : Told → (ℕ → Told) → Told
joined l r = bind_o l (λ x. map_o (paired x.0) (r x.1))

-- the two shapes that a pair is made of
pub record Joined (l : Told) (r : ℕ → Told) (x : SValue) (e : ℕ) : Type 0 where
  pub first : SValue
  pub second : SValue
  pub middle : ℕ
  pub left : l ≡ some (first, middle)
  pub right : r middle ≡ some (second, e)
  pub same : x ≡ pair first second

pub joined_is : (l : Told) (r : ℕ → Told) (x : SValue) (e : ℕ) → joined l r ≡ some (x, e) → Joined l r x e
joined_is none r x e h = absurd (none-ne-some (x, e) h)
joined_is (some (a, m)) r x e h = go (r m) refl h
  where
    go : (o : Told) → r m ≡ o → map_o (paired a) o ≡ some (x, e) → Joined (some (a, m)) r x e
    go none q k = absurd (none-ne-some (x, e) k)
    go (some y) q k =
        let i : ◌≡◌ {A = SValue × ℕ} (paired a y) (x, e) = some-injective (paired a y) (x, e) k in
        let f : y.1 ≡ e = ap (λ (z : SValue × ℕ). z.1) i in
        record { first = a; second = y.0; middle = m; left = refl; right = q ∙ ap (λ j. some (y.0, j)) f; same = sym (ap (λ (z : SValue × ℕ). z.0) i) }

-- ROWS

first_then : (x : SValue) (l : Shapes) (r : ℕ → Shapes) → map_o (with_first x) (and_then l r) ≡ and_then (map_o (with_first x) l) r
first_then x none r = refl
first_then x (some (xs, m)) r = go (r m)
  where
    go : (o : Shapes) → map_o (with_first x) (map_o (with_all xs) o) ≡ map_o (with_all (x ∷ xs)) o
    go none = refl
    go (some y) = refl

none_then : (l : Shapes) → map_o (with_all []) l ≡ l
none_then none = refl
none_then (some y) = refl

pub skip_add : (k : Parts) (d : ℕ) (s : List ℕ) (m n p : ℕ) → skip k d s (m + n) p ≡ skip k d s n (skip k d s m p)
unfolding skip
skip_add k d s zero n p = ap (λ i. skip k d s i p) (zero-add n)
skip_add k d s (suc m) n p = ap (λ i. skip k d s i p) (suc-add m n) ∙ skip_add k d s m n (after k d s p)

module _ (k : Parts) (d : ℕ) (s val : List ℕ) where
  -- a row of m + n parts is the first m, and then n from the type's record after them
  pub row_add : (m n p v : ℕ) → row k d s val (m + n) p v ≡ and_then (row k d s val m p v) (row k d s val n (skip k d s m p))
  unfolding row skip
  row_add zero n p v = ap (λ i. row k d s val i p v) (zero-add n) ∙ sym (none_then (row k d s val n p v))
  row_add (suc m) n p v = ap (λ i. row k d s val i p v) (suc-add m n) ∙ go (standing d s val p v) (λ w. row_add m n (after k d s p) w)
    where
      go : (o : Told) → ((w : ℕ) → row k d s val (m + n) (after k d s p) w ≡ and_then (row k d s val m (after k d s p) w) (row k d s val n (skip k d s m (after k d s p))))
          → bind_o o (λ x. map_o (with_first x.0) (row k d s val (m + n) (after k d s p) x.1))
          ≡ and_then (bind_o o (λ x. map_o (with_first x.0) (row k d s val m (after k d s p) x.1))) (row k d s val n (skip k d s m (after k d s p)))
      go none i = refl
      go (some x) i = ap (map_o (with_first x.0)) (i x.1) ∙ first_then x.0 (row k d s val m (after k d s p) x.1) (row k d s val n (skip k d s m (after k d s p)))

  -- it has n shapes
  pub row_length : (n p v : ℕ) (x : List SValue × ℕ) → row k d s val n p v ≡ some x → length x.0 ≡ n
  unfolding row
  row_length zero p v x h = sym (ap (λ (z : List SValue × ℕ). length z.0) (some-injective ([], v) x h))
  row_length (suc n) p v x h = go (standing d s val p v) (λ w y. row_length n (after k d s p) w y) h
    where
      one : (a : SValue) (o : Shapes) → ((y : List SValue × ℕ) → o ≡ some y → length y.0 ≡ n) → map_o (with_first a) o ≡ some x → length x.0 ≡ suc n
      one a none i h = absurd (none-ne-some x h)
      one a (some y) i h = sym (ap (λ (z : List SValue × ℕ). length z.0) (some-injective (with_first a y) x h)) ∙ ap suc (i y refl)

      go : (o : Told) → ((w : ℕ) (y : List SValue × ℕ) → row k d s val n (after k d s p) w ≡ some y → length y.0 ≡ n) → bind_o o (λ a. map_o (with_first a.0) (row k d s val n (after k d s p) a.1)) ≡ some x → length x.0 ≡ suc n
      go none i h = absurd (none-ne-some x h)
      go (some a) i h = one a.0 (row k d s val n (after k d s p) a.1) (i a.1) h

  -- BALANCED TREES

  pub balanced_none : (p v : ℕ) → balanced k d s val 0 p v ≡ some (unit, v)
  unfolding balanced row
  balanced_none p v = ap (λ x. some (x, v)) (fold_none pair unit)

  pub balanced_one : (p v : ℕ) → balanced k d s val 1 p v ≡ standing d s val p v
  unfolding balanced row
  balanced_one p v = go (standing d s val p v)
    where
      go : (o : Told) → map_o (folded 1) (bind_o o (λ x. map_o (with_first x.0) (some ([], x.1)))) ≡ o
      go none = refl
      go (some x) = ap (λ y. some (y, x.1)) (fold_one pair unit x.0 [])

  -- of n parts, n at least 2, the two sides
  pub balanced_step : (n p v : ℕ) → 2 ≤ n
      → balanced k d s val n p v ≡ joined (balanced k d s val (btree_split_index n) p v) (balanced k d s val (n - btree_split_index n) (skip k d s (btree_split_index n) p))
  unfolding balanced
  balanced_step n p v h =
      let b = split_bounds n h in
      let e : n ≡ btree_split_index n + (n - btree_split_index n) = omega arith in
      ap (map_o (folded n)) (ap (λ i. row k d s val i p v) e ∙ row_add (btree_split_index n) (n - btree_split_index n) p v)
      ∙ sides (row k d s val (btree_split_index n) p v) refl
    where
      fused : (a : List SValue) (o : Shapes) → length a ≡ btree_split_index n
          → map_o (folded n) (map_o (with_all a) o) ≡ map_o (paired (fold pair unit (btree (btree_split_index n)) a)) (map_o (folded (n - btree_split_index n)) o)
      fused a none l = refl
      fused a (some (c, w)) l =
          ap (λ (z : SValue). some (z, w)) (fold_step pair unit n h (a ++ c) ∙ ap₂ (λ x y. pair (fold pair unit (btree (btree_split_index n)) x) (fold pair unit (btree (n - btree_split_index n)) y)) (take_at a c _ l) (drop_at a c _ l))

      sides : (o : Shapes) → row k d s val (btree_split_index n) p v ≡ o
          → map_o (folded n) (and_then o (row k d s val (n - btree_split_index n) (skip k d s (btree_split_index n) p)))
          ≡ joined (map_o (folded (btree_split_index n)) o) (λ w. map_o (folded (n - btree_split_index n)) (row k d s val (n - btree_split_index n) (skip k d s (btree_split_index n) p) w))
      sides none q = refl
      sides (some a) q = fused a.0 (row k d s val (n - btree_split_index n) (skip k d s (btree_split_index n) p) a.1) (row_length (btree_split_index n) p v a q)

-- WHAT IS KNOWN OF PARTS

module _ {k : Parts} {d : ℕ} {s E : List ℕ} {n p : ℕ} (g : GivenParts k d s E n p) where
  pub given_one : 1 ≤ n → Stands d s E p
  unfolding skip
  given_one h = g.each 0 h

  pub given_left : (m : ℕ) → m ≤ n → GivenParts k d s E m p
  given_left m h = record { each = λ i l. g.each i (omega arith) }

  pub given_right : (m : ℕ) → m ≤ n → GivenParts k d s E (n - m) (skip k d s m p)
  given_right m h = record { each = λ i l. rw (← skip_add k d s m i p) (g.each (m + i) (omega arith)) }

pub one_given : {k : Parts} {d : ℕ} {s E : List ℕ} {n p : ℕ} → GivenParts k d s E n p → n ≡ 1 → Stands d s E p
one_given g z = given_one g (omega arith)

-- and of the sides of their tree
module _ {n few : ℕ} (h : Shares n few) {k : Parts} {d : ℕ} {s E : List ℕ} {p : ℕ} (g : GivenParts k d s E n p) where
  pub left_given : GivenParts k d s E few p
  left_given = let l = h.less in given_left g few (omega arith)

  pub right_given : {q : ℕ} → q ≡ skip k d s few p → GivenParts k d s E (n - few) q
  right_given e = let l = h.less in rw e (given_right g few (omega arith))

-- the record after none, and after both sides
pub skip_none : (k : Parts) (d : ℕ) (s : List ℕ) (n p : ℕ) → n ≡ 0 → p ≡ skip k d s n p
unfolding skip
skip_none k d s n p z = rw z refl

pub skip_sides : {n few : ℕ} → Shares n few → (k : Parts) (d : ℕ) (s : List ℕ) (p : ℕ) {q r : ℕ} → q ≡ skip k d s few p → r ≡ skip k d s (n - few) q → r ≡ skip k d s n p
skip_sides {n} {few} h k d s p e f =
    let l = h.less in
    let m : few + (n - few) ≡ n = omega arith in
    f ∙ ap (skip k d s (n - few)) e ∙ sym (skip_add k d s few (n - few) p) ∙ ap (λ i. skip k d s i p) m
