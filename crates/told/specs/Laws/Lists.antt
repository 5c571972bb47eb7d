-- Laws of bits, choices and lists, as code writes them: one bit or the two sides of the bits' tree; the tags that lead to a choice;
-- with the bound 2 a block of all elements, else a block of none or of half the bound, and the list with that bound.
use Rattle.std.proofs.Math.Path.{◌≡◌, refl, sym, ap, ap₂}
use Rattle.std.proofs.Common.{◌∙◌, sub-one, take-take, drop-drop, drop-cons}
use Rattle.std.proofs.Math.Bool.{Bool, true, false}
use mathlib.Core.List.{List, [], ◌∷◌, ◌++◌, map}
use Rattle.std.proofs.Math.Option.{Option, none, some, none-ne-some, some-injective}
use Prim.Native.Nat.{ℕ, zero, suc, ◌+◌, ◌-◌, ◌*◌, ◌/◌, ◌^◌, ◌≤◌, ◌<◌}
use Rattle.std.proofs.Math.Nat.{two-pow-succ, sub-zero}
use native.Mathlib.Omega.{arith}
use Rattle.std.proofs.Math.Dec.{ltb}
use Rattle.std.proofs.Math.ListN.{length, take, drop, length-append, length-take, length-drop}
use Rattle.std.specs.Prelude.{get_or, Some, None}
use Rattle.std.proofs.Math.Seq.{take_at, drop_at}
use borrow.Author.Tests.{ltb-true, ltb-false, lt-ltb, le-ltb}
use Rattle.num.specs.declared.NonZeroPow2Usize.{NonZeroPow2Usize}
use Rattle.num.specs.Powers.{half_bound}
use Rattle.num.specs.Laws.{no_half, HalfOf, half_of}
use Rattle.model.specs.Options.{pick, map_o}
use Rattle.model.specs.Bytes.{bits_of}
use Rattle.model.specs.Balanced.{btree_split_index, btree, fold}
use Rattle.model.specs.Structural.{SValue, unit, left, right, pair, enum_injection, block, partition}
use Rattle.model.specs.Values.{bit}
use Rattle.model.proofs.Laws.Bytes.{length_bits_of}
use Rattle.model.proofs.Laws.Balanced.{split_bounds}
use Rattle.model.proofs.Laws.Records.{drop_take}
use Rattle.model.proofs.Laws.Sizes.{fold_one, fold_step, enum_one, enum_step}
use Rattle.structural.proofs.Laws.Bounds.{Power, power_of}
use Rattle.types.specs.declared.forms.Parts.TheVariants.{Copies}
use Rattle.told.specs.Forms.{Told, standing, record_bits, row, bits_told, balanced, chosen, listed}
use Rattle.told.specs.Laws.Rows.{skip_copies}
use Rattle.told.specs.Laws.Trees.{Shapes, paired, and_then, joined, row_add, row_length}

-- BITS

-- bit j of record v
unfoldable pub record_bit : List ℕ → ℕ → ℕ → Bool
record_bit val v j = get_or (bits_of (take 36 (drop (v * 36) val))) j false

module _ {A B : Type 0} (f : A → B) where
  map_take : (n : ℕ) (l : List A) → take n (map f l) ≡ map f (take n l)
  map_take zero l = refl
  map_take (suc n) [] = refl
  map_take (suc n) (x ∷ l) = ap {B = List B} (λ r. f x ∷ r) (map_take n l)

  map_drop : (n : ℕ) (l : List A) → drop n (map f l) ≡ map f (drop n l)
  map_drop zero l = refl
  map_drop (suc n) [] = refl
  map_drop (suc n) (x ∷ l) = map_drop n l

module _ (val : List ℕ) (v j : ℕ) where
  pub bits_one : j < 288 → v < length val / 36 → bits_told val v j 1 ≡ bit (record_bit val v j)
  unfolding bits_told record_bits record_bit
  bits_one h i =
      let r : List ℕ = take 36 (drop (v * 36) val) in
      let l : length r ≡ 36 = length-take 36 (drop (v * 36) val) ∙ omega (arith, length-drop (v * 36) val) in
      ap (λ x. fold pair unit (btree 1) (map bit (take 1 x))) (drop-cons (bits_of r) j false (omega (arith, length_bits_of r, l))) ∙ fold_one pair unit (bit (get_or (bits_of r) j false)) []

  pub bits_step : (n : ℕ) → 2 ≤ n → bits_told val v j n ≡ pair (bits_told val v j (btree_split_index n)) (bits_told val v (j + btree_split_index n) (n - btree_split_index n))
  unfolding bits_told record_bits
  bits_step n h =
      let m = btree_split_index n in
      let b = split_bounds n h in
      let e : n ≡ m + (n - m) = omega arith in
      let r : List Bool = bits_of (take 36 (drop (v * 36) val)) in
      fold_step pair unit n h (map bit (take n (drop j r)))
      ∙ ap₂ (λ x y. pair (fold pair unit (btree m) x) (fold pair unit (btree (n - m)) y))
      (map_take bit m (take n (drop j r)) ∙ ap (map bit) (take-take m n (drop j r) (omega arith)))
      (map_drop bit m (take n (drop j r)) ∙ ap (map bit) (ap (λ i. drop m (take i (drop j r))) e ∙ drop_take m (n - m) (drop j r) ∙ ap (take (n - m)) (drop-drop m j r)))

-- CHOICES

-- the shape made into another, as by a tag before it
abbrev pub tagged : (SValue → SValue) → Told → Told
tagged f = map_o (λ x. (f x.0, x.1))

-- the shape behind the tag
pub record Tagged (f : SValue → SValue) (o : Told) (x : SValue) (e : ℕ) : Type 0 where
  pub inner : SValue
  pub told : o ≡ some (inner, e)
  pub same : x ≡ f inner

pub tagged_is : (f : SValue → SValue) (o : Told) (x : SValue) (e : ℕ) → tagged f o ≡ some (x, e) → Tagged f o x e
tagged_is f none x e h = absurd (none-ne-some (x, e) h)
tagged_is f (some (y, w)) x e h =
    let i : ◌≡◌ {A = SValue × ℕ} (f y, w) (x, e) = some-injective (f y, w) (x, e) h in
    record { inner = y; told = ap (λ j. some (y, j)) (ap (λ (z : SValue × ℕ). z.1) i); same = sym (ap (λ (z : SValue × ℕ). z.0) i) }

map_same : {A B : Type 0} (f g : A → B) (o : Option A) → ((x : A) → o ≡ some x → f x ≡ g x) → map_o f o ≡ map_o g o
map_same f g none h = refl
map_same f g (some x) h = ap some (h x refl)

map_map : {A B C : Type 0} (g : B → C) (f : A → B) (o : Option A) → map_o g (map_o f o) ≡ map_o (λ x. g (f x)) o
map_map g f none = refl
map_map g f (some x) = refl

map_id : {A : Type 0} (o : Option A) → map_o (λ x. x) o ≡ o
map_id none = refl
map_id (some x) = refl

abbrev injected : ℕ → ℕ → SValue × ℕ → SValue × ℕ
injected n i x = (enum_injection (btree n) i x.0, x.1)

module _ (d : ℕ) (s val : List ℕ) where
  -- the only choice
  pub chosen_one : (i p v : ℕ) → chosen d s val 1 i p v ≡ standing d s val p v
  unfolding chosen
  chosen_one i p v = map_same (injected 1 i) (λ x. x) (standing d s val p v) (λ x e. ap (λ y. (y, x.1)) (enum_one i x.0)) ∙ map_id (standing d s val p v)

  -- choice i of n, n at least 2, which is on the left side or on the right side
  pub chosen_left : (n i p v : ℕ) → 2 ≤ n → i < btree_split_index n → chosen d s val n i p v ≡ tagged left (chosen d s val (btree_split_index n) i p v)
  unfolding chosen
  chosen_left n i p v h l =
      map_same (injected n i) (λ x. (left (enum_injection (btree (btree_split_index n)) i x.0), x.1)) (standing d s val p v) (λ x e. ap (λ y. (y, x.1)) (enum_step n i x.0 h ∙ rw (lt-ltb i (btree_split_index n) l)))
      ∙ sym (map_map (λ x. (left x.0, x.1)) (injected (btree_split_index n) i) (standing d s val p v))

  pub chosen_right : (n i p v : ℕ) → 2 ≤ n → btree_split_index n ≤ i → chosen d s val n i p v ≡ tagged right (chosen d s val (n - btree_split_index n) (i - btree_split_index n) p v)
  unfolding chosen
  chosen_right n i p v h l =
      map_same (injected n i) (λ x. (right (enum_injection (btree (n - btree_split_index n)) (i - btree_split_index n) x.0), x.1)) (standing d s val p v) (λ x e. ap (λ y. (y, x.1)) (enum_step n i x.0 h ∙ rw (le-ltb i (btree_split_index n) l)))
      ∙ sym (map_map (λ x. (right x.0, x.1)) (injected (n - btree_split_index n) (i - btree_split_index n)) (standing d s val p v))

-- BLOCKS AND LISTS

-- a block of m elements, all of them or none
unfoldable pub block_told : ℕ → List ℕ → List ℕ → ℕ → ℕ → ℕ → Told
block_told d s val m p v = map_o (λ x. (block x.0, x.1)) (row Copies d s val m p v)

-- how many of m elements the block of h takes: all that it has place for, or none
abbrev pub block_share : ℕ → ℕ → ℕ
block_share m h = pick (ltb m h) 0 h

-- the half h of the bound b, and the share n of m elements that the block of h takes
pub record Halved (b h : NonZeroPow2Usize) (m n d : ℕ) (s val : List ℕ) (p v : ℕ) : Type 0 where
  pub less : h.value < b.value
  pub share : n ≤ h.value
  pub most : n ≤ m
  pub others : m - n < h.value
  pub same : listed d s val b m p v ≡ joined (block_told d s val n p v) (listed d s val h (m - n) p)

abbrev blocked : List SValue × ℕ → SValue × ℕ
blocked x = (block x.0, x.1)

abbrev parted : ℕ → List SValue × ℕ → SValue × ℕ
parted e x = (partition e x.0, x.1)

module _ (d : ℕ) (s val : List ℕ) where
  pub block_none : (p v : ℕ) → block_told d s val 0 p v ≡ some (left unit, v)
  unfolding block_told row
  block_none p v = refl

  pub block_some : (m p v : ℕ) → 1 ≤ m → block_told d s val m p v ≡ tagged right (balanced Copies d s val m p v)
  unfolding block_told balanced
  block_some m p v h =
      map_same blocked (λ x. (right (fold pair unit (btree m) x.0), x.1)) (row Copies d s val m p v) (λ x e. ap (λ y. (y, x.1)) (full x.0 (row_length Copies d s val m p v x e)))
      ∙ sym (map_map (λ x. (right x.0, x.1)) (λ x. (fold pair unit (btree m) x.0, x.1)) (row Copies d s val m p v))
    where
      full : (xs : List SValue) → length xs ≡ m → block xs ≡ right (fold pair unit (btree m) xs)
      full [] e = absurd (omega arith)
      full (x ∷ xs) e = ap (λ i. right (fold pair unit (btree i) (x ∷ xs))) e

  -- with the bound 2 a list is a block
  pub listed_two : (m p v : ℕ) (b : NonZeroPow2Usize) → None ≡ half_bound b → listed d s val b m p v ≡ block_told d s val m p v
  unfolding listed block_told partition
  listed_two m p v b h = rw (no_half {b = b} h).log2 refl

  -- by the exponents: a block of none, or of 2 ^ suc e
  few_parted : (e m p v : ℕ) → m < 2 ^ suc e → map_o (parted (suc e)) (row Copies d s val m p v) ≡ map_o (paired (left unit)) (map_o (parted e) (row Copies d s val m p v))
  unfolding partition
  few_parted e m p v h =
      map_same (parted (suc e)) (λ x. paired (left unit) (parted e x)) (row Copies d s val m p v) (λ x q. ap (λ y. (y, x.1)) (rw (lt-ltb (length x.0) (2 ^ suc e) (omega (arith, row_length Copies d s val m p v x q))) refl))
      ∙ sym (map_map (paired (left unit)) (parted e) (row Copies d s val m p v))

  all_parted : (e m p v : ℕ) (xs : List SValue) → length xs ≡ 2 ^ suc e → map_o (parted (suc e)) (map_o (λ x. (xs ++ x.0, x.1)) (row Copies d s val m p v)) ≡ map_o (paired (block xs)) (map_o (parted e) (row Copies d s val m p v))
  unfolding partition
  all_parted e m p v xs h =
      map_map (parted (suc e)) (λ x. (xs ++ x.0, x.1)) (row Copies d s val m p v)
      ∙ map_same (λ x. parted (suc e) (xs ++ x.0, x.1)) (λ x. paired (block xs) (parted e x)) (row Copies d s val m p v) (λ x q. ap (λ y. (y, x.1)) (one x.0))
      ∙ sym (map_map (paired (block xs)) (parted e) (row Copies d s val m p v))
    where
      one : (ys : List SValue) → partition (suc e) (xs ++ ys) ≡ pair (block xs) (partition e ys)
      one ys = rw (le-ltb (length (xs ++ ys)) (2 ^ suc e) (omega (arith, length-append xs ys)), take_at xs ys (2 ^ suc e) h, drop_at xs ys (2 ^ suc e) h) refl

  -- so the block of 2 ^ suc e takes its share, and the rest is left
  share_parted : (e m n p v : ℕ) → n ≡ block_share m (2 ^ suc e) → map_o (parted (suc e)) (row Copies d s val m p v) ≡ joined (block_told d s val n p v) (λ w. map_o (parted e) (row Copies d s val (m - n) p w))
  unfolding block_told row
  share_parted e m n p v q = rw q (go (ltb m (2 ^ suc e)) refl)
    where
      most : (o : Shapes) → row Copies d s val (2 ^ suc e) p v ≡ o
          → map_o (parted (suc e)) (and_then o (row Copies d s val (m - 2 ^ suc e) p)) ≡ joined (map_o blocked o) (λ w. map_o (parted e) (row Copies d s val (m - 2 ^ suc e) p w))
      most none q = refl
      most (some x) q = all_parted e (m - 2 ^ suc e) p x.1 x.0 (row_length Copies d s val (2 ^ suc e) p v x q)

      go : (b : Bool) → ltb m (2 ^ suc e) ≡ b → map_o (parted (suc e)) (row Copies d s val m p v) ≡ joined (map_o blocked (row Copies d s val (pick b 0 (2 ^ suc e)) p v)) (λ w. map_o (parted e) (row Copies d s val (m - pick b 0 (2 ^ suc e)) p w))
      go true i = few_parted e m p v (ltb-true _ _ i) ∙ ap (λ j. map_o (paired (left unit)) (map_o (parted e) (row Copies d s val j p v))) (sym (sub-zero m))
      go false i =
          let l : 2 ^ suc e ≤ m = ltb-false _ _ i in
          let f : m ≡ 2 ^ suc e + (m - 2 ^ suc e) = omega arith in
          ap (map_o (parted (suc e))) (ap (λ j. row Copies d s val j p v) f ∙ row_add Copies d s val (2 ^ suc e) (m - 2 ^ suc e) p v ∙ ap (λ r. and_then (row Copies d s val (2 ^ suc e) p v) (row Copies d s val (m - 2 ^ suc e) r)) (skip_copies d s (2 ^ suc e) p))
          ∙ most (row Copies d s val (2 ^ suc e) p v) refl

  -- with a larger one it is a block of its share, and the list of the rest with half the bound
  pub listed_more : {b h : NonZeroPow2Usize} (m n p v : ℕ) → Some h ≡ half_bound b → m < b.value → n ≡ block_share m h.value → Halved b h m n d s val p v
  unfolding listed
  listed_more {b} {h} m n p v q l r = go (half_of q)
    where
      share : (c : Bool) (x : ℕ) → ltb m x ≡ c → m < x + x → (pick c 0 x ≤ x) × (pick c 0 x ≤ m) × (m - pick c 0 x < x)
      share true x i l = let k : m < x = ltb-true _ _ i in (omega arith, omega arith, omega arith)
      share false x i l = let k : x ≤ m = ltb-false _ _ i in (omega arith, omega arith, omega arith)

      go : HalfOf b h → Halved b h m n d s val p v
      go k =
          let e = k.exponent in
          let c : n ≡ block_share m (2 ^ suc e) = r ∙ ap (block_share m) k.power in
          let u = share (ltb m (2 ^ suc e)) (2 ^ suc e) refl (omega (arith, k.twice, two-pow-succ (suc e))) in
          record {
            less = k.less;
            share = rw (c, k.power) u.0;
            most = rw c u.1;
            others = rw (c, k.power) u.2;
            same = rw (k.log2_twice, k.log2, sub-one, sub-one) (share_parted e m n p v c);
          }
