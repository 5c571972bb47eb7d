-- Sums: what the model gives of an Either or an Enum is the choice that the tree's leaf says, which the table of ends leads to.
use Rattle.std.specs.Prelude.{◌≡◌, refl, false, length}
use Rattle.std.proofs.Math.Path.{sym, ap}
use Rattle.std.proofs.Common.{◌∙◌, inl, inr}
use Rattle.std.proofs.Math.Bool.{true}
use mathlib.Core.List.{List, ◌∷◌}
use Rattle.std.proofs.Math.Option.{some}
use Prim.Native.Nat.{ℕ, zero, suc, ◌-◌, ◌≤◌, ◌<◌}
use native.Mathlib.Omega.{arith}
use Rattle.num.specs.declared.NonZeroPow2Usize.{NonZeroPow2Usize}
use Rattle.num.specs.Powers.{bound_log2}
use Rattle.model.specs.Options.{map_o, bind_o}
use Rattle.model.specs.Balanced.{next_power_of_two, btree_split_index, btree, grow}
use Rattle.model.specs.Balanced as powers
use Rattle.model.specs.Structural.{SValue, unit, left, right, pair}
use Rattle.model.specs.Types.{Ty, either, enum, more, size, count}
use Rattle.model.specs.Reconstruct.{as_tuple, combine, as_enum_leaf, reconstruct, reconstructs, choose}
use Rattle.model.specs.ValueFiles.{Rec, rec, encode, encode_choice}
use Rattle.model.proofs.Laws.Balanced.{btree_leaves}
use Rattle.model.proofs.Laws.Options.{bind_o_some, map_o_some, map_o_map_o, map_o_bind_o, map_o_known, bind_o_known}
use Rattle.model.proofs.Laws.Valid.{leaf_below, length_combine, choose_index}
use Rattle.types.specs.Heads.{fair_bound_of}
use Rattle.types.specs.Walks.{walk}
use Rattle.types.specs.Trees.{end_of, cases, tree, treev}
use Rattle.types.specs.Steps.{GivenRow, given_end, count_cases}
use Rattle.structural.proofs.Laws.Bounds.{power_of}
use Rattle.types.specs.declared.forms.Parts.TheVariants.{Copies}
use Rattle.told.specs.Forms.{hops}
use Rattle.told.specs.Laws.Rows.{first, rest}
use Rattle.record.specs.Trees.{value_in, part, row, numbered, sum, elements}
use Rattle.record.specs.Laws.Products.{records_of, part_is}

-- a choice is one of n
choice_below : (n : ℕ) (x : SValue) (y : ℕ × SValue) → 1 ≤ n → as_enum_leaf (btree n) x ≡ some y → y.0 < n
choice_below n x y h e = omega (arith, leaf_below (btree n) x y e, btree_leaves n h)

-- CHOICES

-- a Variant of an Enum stands where the ends before it lead
case_stands : (d : ℕ) (s E : List ℕ) (n i p : ℕ) (x : SValue) → i ≤ n → GivenRow d true s E (suc n) p
    → map_o (encode_choice (cases (treev d s) (walk d true s) n p)) (choose (cases (treev d s) (walk d true s) n p) i x) ≡ part d s (hops E i p) x
unfolding cases encode reconstruct hops value_in
case_stands d s E zero zero p x l g = sym (part_is (first g) x)
case_stands d s E zero (suc i) p x l g = absurd (omega arith)
case_stands d s E (suc n) zero p x l g =
    let ts = treev d s p in
    let vs = more ts (cases (treev d s) (walk d true s) n (end_of (walk d true s p))) in
    map_o_map_o inl (encode_choice vs) (bind_o (as_tuple (size ts) x) (λ xs. reconstructs ts xs)) ∙ sym (part_is (first g) x)
case_stands d s E (suc n) (suc i) p x l g =
    let q = end_of (walk d true s p) in
    let us = cases (treev d s) (walk d true s) n q in
    map_o_map_o inr (encode_choice (more (treev d s p) us)) (choose us i x)
    ∙ case_stands d s E n i q x (omega arith) (rw (given_end (first g)) at (rest g))
    ∙ ap (λ j. part d s (hops E i j) x) (sym (given_end (first g)))

module _ (d : ℕ) (s E : List ℕ) where
  -- one choice of an Enum's
  choice_part : (n i p : ℕ) (x : SValue) → i < n → GivenRow d true s E n p
      → map_o (encode (enum (cases (treev d s) (walk d true s) (n - 1) p))) (choose (cases (treev d s) (walk d true s) (n - 1) p) i x) ≡ map_o (λ y. rec 8 0 y.0 0 ∷ y.1) (numbered i (part d s (hops E i p) x))
  unfolding encode
  choice_part n i p x l g =
      let vs = cases (treev d s) (walk d true s) (n - 1) p in
      let u : suc (n - 1) ≡ n = omega arith in
      map_o_known (choose vs i x) (encode (enum vs)) (λ c. rec 8 0 i 0 ∷ encode_choice vs c) (λ c f. ap (λ j. rec 8 0 j 0 ∷ encode_choice vs c) (choose_index vs i x c f))
      ∙ sym (map_o_map_o (encode_choice vs) (λ rs. rec 8 0 i 0 ∷ rs) (choose vs i x))
      ∙ ap (map_o (λ rs. rec 8 0 i 0 ∷ rs)) (case_stands d s E (n - 1) i p x (omega arith) (rw u g))
      ∙ sym (map_o_map_o (λ rs. (i, rs)) (λ (y : ℕ × List Rec). rec 8 0 y.0 0 ∷ y.1) (part d s (hops E i p) x))

  pub enum_sum : (n p : ℕ) (x : SValue) → 1 ≤ n → GivenRow d true s E n p → records_of (enum (cases (treev d s) (walk d true s) (n - 1) p)) x ≡ map_o (λ y. rec 8 0 y.0 0 ∷ y.1) (sum d s E n p x)
  unfolding reconstruct sum
  enum_sum n p x l g =
      let vs = cases (treev d s) (walk d true s) (n - 1) p in
      let c : count vs ≡ n = count_cases (treev d s) (walk d true s) (n - 1) p ∙ omega arith in
      map_o_bind_o (λ y. choose vs y.0 y.1) (encode (enum vs)) (as_enum_leaf (btree (count vs)) x)
      ∙ ap (λ m. bind_o (as_enum_leaf (btree m) x) (λ y. map_o (encode (enum vs)) (choose vs y.0 y.1))) c
      ∙ bind_o_known (as_enum_leaf (btree n) x) _ _ (λ y e. choice_part n y.0 p y.1 (choice_below n x y l e) g)
      ∙ sym (map_o_bind_o (λ y. numbered y.0 (part d s (hops E y.0 p) y.1)) (λ (z : ℕ × List Rec). rec 8 0 z.0 0 ∷ z.1) (as_enum_leaf (btree n) x))

  pub either_sum : (p : ℕ) (x : SValue) → GivenRow d false s E 2 p → records_of (either (tree d s p) (tree d s (end_of (walk d false s p)))) x ≡ map_o (λ y. rec 3 y.0 0 0 ∷ y.1) (sum d s E 2 p x)
  unfolding encode reconstruct sum as_enum_leaf hops value_in btree grow btree_split_index next_power_of_two powers.next
  either_sum p x g = go x
    where
      a : Ty
      a = tree d s p

      b : Ty
      b = tree d s (end_of (walk d false s p))

      side : (i : ℕ) (j : ℕ) (z : SValue) → records_of (tree d s j) z ≡ part d s (hops E i p) z → map_o (λ rs. rec 3 i 0 0 ∷ rs) (records_of (tree d s j) z) ≡ map_o (λ y. rec 3 y.0 0 0 ∷ y.1) (numbered i (part d s (hops E i p) z))
      side i j z e = ap (map_o (λ rs. rec 3 i 0 0 ∷ rs)) e ∙ sym (map_o_map_o (λ rs. (i, rs)) (λ (y : ℕ × List Rec). rec 3 y.0 0 0 ∷ y.1) (part d s (hops E i p) z))

      go : (x : SValue) → records_of (either a b) x ≡ map_o (λ y. rec 3 y.0 0 0 ∷ y.1) (sum d s E 2 p x)
      go unit = refl
      go (left z) =
          map_o_map_o inl (encode (either a b)) (reconstruct a z)
          ∙ sym (map_o_map_o (encode a) (λ rs. rec 3 0 0 0 ∷ rs) (reconstruct a z))
          ∙ side 0 p z (sym (part_is (first g) z))
      go (right z) =
          map_o_map_o inr (encode (either a b)) (reconstruct b z)
          ∙ sym (map_o_map_o (encode b) (λ rs. rec 3 1 0 0 ∷ rs) (reconstruct b z))
          ∙ side 1 (end_of (walk d false s p)) z (ap (λ j. records_of (tree d s j) z) (sym (given_end (first g))) ∙ sym (part_is (first (rest g)) z))
      go (pair y z) = refl

-- NUMBERS ARE SMALL

-- the choice taken is one of them
pub sum_below : (d : ℕ) (s E : List ℕ) (n p : ℕ) (x : SValue) (y : ℕ × List Rec) → 1 ≤ n → sum d s E n p x ≡ some y → y.0 < n
unfolding sum
sum_below d s E n p x y h e =
    let (z, f, k) = bind_o_some (as_enum_leaf (btree n) x) _ y e in
    let (rs, i, j) = map_o_some _ (part d s (hops E z.0 p) z.1) y k in
    omega (arith, choice_below n x z h f, ap (λ (w : ℕ × List Rec). w.0) j)

-- a list has fewer elements than its bound
few_elements : (b : NonZeroPow2Usize) (x : SValue) (xs : List SValue) → combine (bound_log2 b.value - 1) x ≡ some xs → length xs < b.value
few_elements b x xs e =
    let f = fair_bound_of b in
    let w = power_of b in
    let u : suc (bound_log2 b.value - 1) ≡ suc f.exponent = omega (arith, w.log2) in
    rw (w.power, ← u) (length_combine (bound_log2 b.value - 1) x xs e)

pub elements_below : (d : ℕ) (s : List ℕ) (b : NonZeroPow2Usize) (p : ℕ) (x : SValue) (y : ℕ × List Rec) → elements d s b p x ≡ some y → y.0 < b.value
unfolding elements
elements_below d s b p x y e =
    let (xs, g, k) = bind_o_some (combine (bound_log2 b.value - 1) x) _ y e in
    let (rs, i, j) = map_o_some _ (row Copies d s (length xs) p xs) y k in
    omega (arith, few_elements b x xs g, ap (λ (z : ℕ × List Rec). z.0) j)
