-- The steps of the writers, in the form in which the code's needs ask them.
use mathlib.Core.Path.{◌≡◌, ap, ◌∙◌}
use mathlib.Core.List.{List}
use mathlib.Core.Option.{some}
use Rattle.std.specs.Prelude.{Some}
use Prim.Native.Nat.{ℕ, ◌+◌, ◌-◌, ◌/◌, ◌^◌, ◌≤◌, ◌<◌}
use native.Mathlib.Omega.{arith}
use mir.Syntax.{w64}
use mir.Val.{Fits}
use lib.ListN.{length, set}
use Rattle.num.specs.declared.NonZeroPow2Usize.{NonZeroPow2Usize}
use Rattle.num.specs.Powers.{half_bound}
use Rattle.model.specs.Balanced.{btree_split_index}
use Rattle.model.specs.Structural.{unit, left, shape_records}
use Rattle.model.proofs.Laws.Balanced.{shares}
use Rattle.structural.specs.Forms.{Stands}
use Rattle.structural.proofs.Laws.Forms.{stands_end}
use Rattle.structural.proofs.Laws.Writing.{wrote_none, wrote_set}
use Rattle.types.specs.declared.forms.Parts.{Parts}
use Rattle.types.specs.declared.forms.Parts.TheVariants.{Copies, Types}
use Rattle.told.specs.Forms.{standing, after, skip, balanced, chosen, after_at, listed}
use Rattle.told.specs.Laws.Trees.{balanced_none, balanced_one, balanced_step}
use Rattle.told.specs.Laws.Lists.{chosen_one, chosen_left, chosen_right, block_told, block_none, block_some, block_share, listed_more, Halved}
use Rattle.shape.specs.Forms.{Ready, Placed}
use Rattle.shape.specs.Laws.Writing.{ready_room, ready_some, Stem, left_stem, right_stem, Pair, pair_of}

-- RECORDS

pub record_fits : (val : List ℕ) (v : ℕ) → v < length val / 36 → length val < 2 ^ 64 → Fits w64 (v + 1)
record_fits val v h l = omega arith

-- TREES

module _ (k : Parts) (d : ℕ) (s val : List ℕ) (n p v : ℕ) where
  none_is : n ≡ 0 → balanced k d s val n p v ≡ some (unit, v)
  none_is z = ap (λ i. balanced k d s val i p v) z ∙ balanced_none k d s val p v

  pub none_placed : {out : List ℕ} → Ready (balanced k d s val n p v) out → n ≡ 0 → Placed (balanced k d s val n p v) out (set out 0 0) v 1
  unfolding shape_records
  none_placed {out} r z = let l = ready_some r in record { shape = unit; told = none_is z; wrote = wrote_set (wrote_none out) 0 l }

  pub one_is : n ≡ 1 → balanced k d s val n p v ≡ standing d s val p v
  one_is z = ap (λ i. balanced k d s val i p v) z ∙ balanced_one k d s val p v

  -- a tree of two parts or more is written as a pair, the right side from the type's record q on
  pub tree_pair : (few q : ℕ) (out : List ℕ) → few ≡ btree_split_index n → (n ≡ 0 → ⊥) → (n ≡ 1 → ⊥) → q ≡ skip k d s few p → Ready (balanced k d s val n p v) out
      → Pair (balanced k d s val n p v) (balanced k d s val few p v) (balanced k d s val (n - few) q) out
  tree_pair few q out e z o g r = pair_of (rw (g, e) (balanced_step k d s val n p v (omega arith))) r

pub skip_one : (k : Parts) {d : ℕ} {s E : List ℕ} {p q : ℕ} (n : ℕ) → n ≡ 1 → Stands d s E p → q ≡ after_at k E p → q ≡ skip k d s n p
unfolding skip after
skip_one Copies n z g e = rw z e
skip_one Types n z g e = rw z (e ∙ stands_end g)

-- SUMS

module _ (d : ℕ) (s val : List ℕ) (n i p v : ℕ) where
  pub only_is : n ≡ 1 → chosen d s val n i p v ≡ standing d s val p v
  only_is z = ap (λ j. chosen d s val j i p v) z ∙ chosen_one d s val i p v

-- the side on which choice i of n is: its tag, its share of the choices, and the choice among them; what is told of all is its tag and what is told of it
pub record Side (x : ℕ × ℕ × ℕ) (d : ℕ) (s val : List ℕ) (n i p v : ℕ) (out : List ℕ) : Type 0 where
  pub less : x.1 < n
  pub choice : x.2 < x.1
  pub stem : Stem x.0 (chosen d s val n i p v) (chosen d s val x.1 x.2 p v) out

module _ {d : ℕ} {s val : List ℕ} {n i p v few : ℕ} {out : List ℕ} (r : Ready (chosen d s val n i p v) out) (e : few ≡ btree_split_index n) (o : n ≡ 1 → ⊥) (l : i < n) {x : ℕ × ℕ × ℕ} where
  pub on_left : i < few → x ≡ (1, few, i) → Side x d s val n i p v out
  on_left k h =
      let b = shares e (omega arith) in
      rw h (record { less = omega arith; choice = k; stem = left_stem (rw e (chosen_left d s val n i p v (omega arith) (omega arith))) r })

  pub on_right : few ≤ i → x ≡ (2, n - few, i - few) → Side x d s val n i p v out
  on_right k h =
      let b = shares e (omega arith) in
      rw h (record { less = omega arith; choice = omega arith; stem = right_stem (rw e (chosen_right d s val n i p v (omega arith) (omega arith))) r })

-- BLOCKS

module _ (d : ℕ) (s val : List ℕ) (n p v : ℕ) (out : List ℕ) (r : Ready (block_told d s val n p v) out) where
  pub block_stem : 1 ≤ n → Stem 2 (block_told d s val n p v) (balanced Copies d s val n p v) out
  block_stem h = right_stem (block_some d s val n p v h) r

  module _ (z : n ≡ 0) where
    empty_is : block_told d s val n p v ≡ some (left unit, v)
    empty_is = ap (λ i. block_told d s val i p v) z ∙ block_none d s val p v

    pub empty_room : 2 ≤ length out
    unfolding shape_records
    empty_room = ready_room r empty_is

    pub empty_placed : Placed (block_told d s val n p v) out (set (set out 0 1) 1 0) v 2
    unfolding shape_records
    empty_placed = let l = empty_room in record { shape = left unit; told = empty_is; wrote = wrote_set (wrote_set (wrote_none out) 1 (omega arith)) 0 (omega arith) }

-- LISTS

-- a list with a larger bound is written as a pair of its block and the list with half the bound
pub record Sides (b h : NonZeroPow2Usize) (m n d : ℕ) (s val : List ℕ) (p v : ℕ) (out : List ℕ) : Type 0 where
  pub halved : Halved b h m n d s val p v
  pub pair : Pair (listed d s val b m p v) (block_told d s val n p v) (listed d s val h (m - n) p) out

pub list_sides : (d : ℕ) (s val : List ℕ) {b h : NonZeroPow2Usize} (m : ℕ) {n g : ℕ} (p v : ℕ) {out : List ℕ} → m < b.value → Some h ≡ half_bound b → g ≡ h.value → n ≡ block_share m g → Ready (listed d s val b m p v) out → Sides b h m n d s val p v out
list_sides d s val m {n} p v f q e r g =
    let k = listed_more d s val m n p v q f (r ∙ ap (block_share m) e) in
    record { halved = k; pair = pair_of k.same g }
