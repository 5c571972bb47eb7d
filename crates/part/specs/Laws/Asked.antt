-- What is found at each step, and what is known there, in the form in which the code's needs ask it.
use Rattle.std.specs.Prelude.{◌≡◌, Bool, not, List, [], ◌∷◌, map, ltb, eqb, length, take, drop, Some, None, Option as Optional, Result, Err, ok_or}
use Rattle.std.specs.Bool.{then_some}
use Rattle.std.specs.Int.{from_bool}
use Rattle.std.proofs.Math.Path.{refl, sym, ap, subst}
use Rattle.std.proofs.Common.{◌∙◌, mul-le-mul_right, length-drop, get_or-take, get_or-drop, drop-drop, lt-ltb, le-ltb, eq-eqb, ne_eqb}
use Rattle.std.proofs.Math.Bool.{true, false}
use Prim.Native.Nat.{ℕ, zero, suc, ◌+◌, ◌-◌, ◌*◌, ◌^◌, ◌/◌, ◌%◌, ◌≤◌, ◌<◌}
use Rattle.std.proofs.Math.Numerals.{sub-one}
use native.Mathlib.Omega.{arith}
use Rattle.std.proofs.Math.ListN.{get_or}
use Rattle.num.specs.declared.NonZeroPow2Usize.{NonZeroPow2Usize}
use Rattle.num.specs.Powers.{bound_two, bound_log2, half_bound}
use Rattle.num.specs.Laws.{no_half, HalfOf, half_of}
use Rattle.model.specs.Options.{pick}
use Rattle.model.specs.Outcome.{done, refuse, ◌>>◌}
use Rattle.model.specs.Numbers.{path_odd}
use Rattle.model.specs.Bytes.{cut, records, two_at}
use Rattle.model.specs.Balanced.{btree}
use Rattle.model.specs.Structural.{SType, product_of, partition_type}
use Rattle.model.specs.Lowering.{lower, lowers}
use Rattle.model.specs.Frames.{width}
use Rattle.model.specs.Paths.{steps}
use Rattle.model.proofs.Laws.Sizes.{width_all, width_product_of, width_partition_zero, width_partition_suc}
use Rattle.reply.specs.declared.Refusal.{Refusal}
use Rattle.reply.specs.declared.Refusal.TheVariants.{PathOdd, NoSuchPart}
use Rattle.types.specs.declared.Head.{Head}
use Rattle.types.specs.declared.Head.TheVariants.{Missing, Faulty, Never, Boolean, UInt, Either, Opt, Tuple, Array, Listed, Variants, Payload}
use Rattle.types.specs.declared.Rec.{Rec}
use Rattle.types.specs.declared.Rec.TheVariants.{Gone, Wrong, Types, Enum, Variant}
use Rattle.types.specs.Record.{head_at, rec_at}
use Rattle.types.specs.Heads.{Fair}
use Rattle.types.specs.Walks.{walk}
use Rattle.types.specs.Trees.{kids, node, payload, tree, treev}
use Rattle.types.specs.Steps.{Given, GivenRow, given_levels, given_within, given_inside, given_below, given_head, given_first, given_end, tree_in, treev_in}
use Rattle.types.specs.Lows.{low}
use Rattle.structural.specs.Forms.{Stands, is_variant}
use Rattle.structural.specs.Forms as structural
use Rattle.structural.proofs.Laws.Forms.{stands, standing_is}
use Rattle.bits.specs.Bits.{Inside}
use Rattle.told.specs.Forms.{hops, Hops}
use Rattle.told.specs.Widths.{Wide}
use Rattle.told.specs.Laws.Rows.{first, rest, hopped}
use Rattle.types.specs.declared.forms.Form.TheVariants as form
use Rattle.types.specs.Forms.{form_of}
use Rattle.accept.specs.Forms.{tag_at, choice_in}
use Rattle.accept.specs.Laws.Sums.{choice_less}
use Rattle.accept.specs.Laws.Formed.{copies_wide}
use Rattle.unframe.specs.declared.Choice.{Choice}
use Rattle.unframe.specs.Forms.{height, Chosen}
use Rattle.unframe.specs.Laws.Formed.{SumFramed, as_product, as_sum, as_list}
use Rattle.part.specs.declared.Spot.{Spot}
use Rattle.part.specs.Forms.{spot, wide_row, among, copy, element, wide_list, listed, in_variant, side, variant, step_at, below, follow, picks_from, target, led_to, found_in, Rowed, Cased}
use Rattle.part.specs.Holds.{Holds}
use Rattle.part.specs.Laws.Holds.{holding_stands, holding_inside}
use Rattle.part.specs.Laws.Rows.{wide_is}

-- what a test picks where it holds, and where it does not
picked : {A : Type 0} {b : Bool} (a x : A) → b ≡ true → pick b a x ≡ a
picked a x e = ap (λ b. pick b a x) e

passed : {A : Type 0} {b : Bool} (a x : A) → b ≡ false → pick b a x ≡ x
passed a x e = ap (λ b. pick b a x) e

tested : {A : Type 0} (b : Bool) (a : A) → then_some b a ≡ pick b (Some a) None
tested true a = refl
tested false a = refl

-- PARTS IN A ROW

module _ (E W : List ℕ) where
  -- the first one's bits, and those of the others
  wide_next : (i p : ℕ) → 0 < i → wide_row E W i p ≡ get_or W p 0 + wide_row E W (i - 1) (get_or E p 0)
  unfolding wide_row
  wide_next zero p l = absurd (omega arith)
  wide_next (suc i) p l = rw sub-one refl

  -- fewer take no more
  wide_fewer : (i n p : ℕ) → i ≤ n → wide_row E W i p ≤ wide_row E W n p
  unfolding wide_row
  wide_fewer zero n p l = omega arith
  wide_fewer (suc i) zero p l = absurd (omega arith)
  wide_fewer (suc i) (suc n) p l = omega (arith, wide_fewer i n (get_or E p 0) (omega arith))

-- k of the i types from p on were passed over: the others stand from `place` and `here` on
pub record Passing (E W : List ℕ) (i p bit place here k : ℕ) : Type 0 where
  pub rowed : Rowed E W (i - k) place here
  pub leads : hops E i p ≡ hops E (i - k) place
  pub begins : bit + wide_row E W i p ≡ here + wide_row E W (i - k) place

module _ {E W : List ℕ} where
  pub passing_start : {n p bit i : ℕ} → Rowed E W n p bit → i < n → Passing E W i p bit p bit 0
  passing_start {n} {p} {bit} {i} r l =
      let f = r.fits in
      let m = wide_fewer E W i n p (omega arith) in
      let z : i ≡ i - 0 = omega arith in
      record {
        rowed = subst (λ k. Rowed E W k p bit) z (record { each = λ j k. r.each j (omega arith); fits = omega arith });
        leads = ap (λ k. hops E k p) z;
        begins = ap (λ k. bit + wide_row E W k p) z;
      }

  module _ {i p bit place here k : ℕ} (r : Passing E W i p bit place here k) where
    pub passing_inside : k < i → (place < length E) × (place < length W)
    unfolding hops
    passing_inside l = r.rowed.each 0 (omega arith)

    pub passing_fits : k < i → here + get_or W place 0 < 2 ^ 64
    passing_fits l = let f = r.rowed.fits in let e = wide_next E W (i - k) place (omega arith) in omega arith

    pub passing_next : k < i → Passing E W i p bit (get_or E place 0) (here + get_or W place 0) (k + 1)
    unfolding hops
    passing_next l =
        let f = r.rowed.fits in
        let e = wide_next E W (i - k) place (omega arith) in
        let b = r.begins in
        let z : i - k ≡ suc (i - (k + 1)) = omega arith in
        let y : i - k - 1 ≡ i - (k + 1) = omega arith in
        let w = ap (λ k. wide_row E W k (get_or E place 0)) y in
        record {
          rowed = record { each = λ j m. r.rowed.each (suc j) (omega arith); fits = omega arith };
          leads = r.leads ∙ ap (λ k. hops E k place) z;
          begins = omega arith;
        }

    pub passing_end : {n : ℕ} (d : ℕ) → i < n → i ≤ k → Some (spot place d here) ≡ among d E W n p bit i
    unfolding among hops wide_row
    passing_end {n} d l z =
        let y : i - k ≡ 0 = omega arith in
        let a : hops E i p ≡ place = r.leads ∙ ap (λ k. hops E k place) y in
        let b : bit + wide_row E W i p ≡ here = r.begins ∙ ap (λ k. here + wide_row E W k place) y ∙ omega arith in
        sym (picked (Some (spot (hops E i p) d (bit + wide_row E W i p))) None (lt-ltb i n l) ∙ rw (a, b) refl)

pub among_none : (d : ℕ) (E W : List ℕ) (n p bit i : ℕ) → n ≤ i → None ≡ among d E W n p bit i
unfolding among
among_none d E W n p bit i l = sym (passed (Some (spot (hops E i p) d (bit + wide_row E W i p))) None (le-ltb i n l))

-- COPIES OF ONE

pub copy_fits : (bit n w i : ℕ) → i < n → bit + n * w < 2 ^ 64 → bit + i * w < 2 ^ 64
copy_fits bit n w i l h = let m : i * w ≤ n * w = mul-le-mul_right {m = i} {n = n} w (omega arith) in omega arith

module _ (d : ℕ) (W : List ℕ) (n p bit i : ℕ) where
  pub copy_there : i < n → Some (spot p d (bit + i * get_or W p 0)) ≡ copy d W n p bit i
  unfolding copy
  copy_there l = sym (picked (Some (spot p d (bit + i * get_or W p 0))) None (lt-ltb i n l))

  pub copy_none : n ≤ i → None ≡ copy d W n p bit i
  unfolding copy
  copy_none l = sym (passed (Some (spot p d (bit + i * get_or W p 0))) None (le-ltb i n l))

-- ELEMENTS OF A LIST

-- a list has a tag
pub wide_some : (e w : ℕ) → 1 ≤ wide_list e w
unfolding wide_list
wide_some zero w = omega arith
wide_some (suc e) w = omega arith

at_tag : (d : ℕ) (W : List ℕ) (e p : ℕ) (fr : List ℕ) (bit i : ℕ) (x : Bool) → tag_at fr bit ≡ x → element d W (suc e) p fr bit i
    ≡ elim x [
      | false ↦ element d W e p fr (bit + 1 + 2 ^ suc e * get_or W p 0) i
      | true ↦ pick (ltb i (2 ^ suc e)) (copy d W (2 ^ suc e) p (bit + 1) i) (element d W e p fr (bit + 1 + 2 ^ suc e * get_or W p 0) (i - 2 ^ suc e))
    ]
unfolding element
at_tag d W e p fr bit i x t =
    ap {B = Optional Spot} (λ x. elim x [
      | false ↦ element d W e p fr (bit + 1 + 2 ^ suc e * get_or W p 0) i
      | true ↦ pick (ltb i (2 ^ suc e)) (copy d W (2 ^ suc e) p (bit + 1) i) (element d W e p fr (bit + 1 + 2 ^ suc e * get_or W p 0) (i - 2 ^ suc e))
    ]) t

at_last_tag : (d : ℕ) (W : List ℕ) (p : ℕ) (fr : List ℕ) (bit i : ℕ) (x : Bool) → tag_at fr bit ≡ x → element d W 0 p fr bit i ≡ elim x [ false ↦ None | true ↦ copy d W 1 p (bit + 1) i ]
unfolding element
at_last_tag d W p fr bit i x t = ap {B = Optional Spot} (λ x. elim x [ false ↦ None | true ↦ copy d W 1 p (bit + 1) i ]) t

-- one copy or none takes no more than one
pub copies_few : (t : Bool) {n : ℕ} → n ≡ from_bool t → (w : ℕ) → n * w ≤ w
copies_few t e w = rw e (go t)
  where
    go : (t : Bool) → from_bool t * w ≤ w
    go true = omega arith
    go false = omega arith

-- with the bound 2 a list is a block of 1 or of none
last_same : (d : ℕ) (W : List ℕ) (p : ℕ) (fr : List ℕ) (bit i : ℕ) (t : Bool) → tag_at fr bit ≡ t → copy d W (from_bool t) p (bit + 1) i ≡ element d W 0 p fr bit i
last_same d W p fr bit i true x = sym (at_last_tag d W p fr bit i true x)
last_same d W p fr bit i false x = sym (copy_none d W 0 p (bit + 1) i (omega arith)) ∙ sym (at_last_tag d W p fr bit i false x)

pub record Last (b : NonZeroPow2Usize) (d : ℕ) (W : List ℕ) (p : ℕ) (fr : List ℕ) (bit i : ℕ) : Type 0 where
  pub wide : wide_list (bound_log2 b.value - 1) (get_or W p 0) ≡ suc (get_or W p 0)
  pub same : {t : Bool} {n : ℕ} → t ≡ tag_at fr bit → n ≡ from_bool t → copy d W n p (bit + 1) i ≡ listed d W b p fr bit i

pub last_block : {b : NonZeroPow2Usize} (d : ℕ) (W : List ℕ) (p : ℕ) (fr : List ℕ) (bit i : ℕ) → None ≡ half_bound b → Last b d W p fr bit i
unfolding listed wide_list
last_block d W p fr bit i h =
    let k = no_half h in
    record {
      wide = rw k.log2 (omega arith);
      same = λ {t} e n. rw (k.log2, n) (last_same d W p fr bit i t (sym e));
    }

-- with a larger one it is a block of the half or of none, and the list with that bound; w is the width that the table tells of an element
more_same : (d : ℕ) (W : List ℕ) (e p : ℕ) (fr : List ℕ) (bit i : ℕ) (t : Bool) → tag_at fr bit ≡ t →
    (i < pick t (2 ^ suc e) 0 → copy d W (2 ^ suc e) p (bit + 1) i ≡ element d W (suc e) p fr bit i)
    × (pick t (2 ^ suc e) 0 ≤ i → element d W e p fr (bit + 1 + 2 ^ suc e * get_or W p 0) (i - pick t (2 ^ suc e) 0) ≡ element d W (suc e) p fr bit i)
more_same d W e p fr bit i true x =
    let near = copy d W (2 ^ suc e) p (bit + 1) i in
    let far = element d W e p fr (bit + 1 + 2 ^ suc e * get_or W p 0) (i - 2 ^ suc e) in
    let a = at_tag d W e p fr bit i true x in
    (λ l. sym (a ∙ picked near far (lt-ltb i (2 ^ suc e) l)), λ l. sym (a ∙ passed near far (le-ltb i (2 ^ suc e) l)))
more_same d W e p fr bit i false x =
    let z : i - 0 ≡ i = omega arith in
    (λ l. absurd (omega arith), λ l. ap (element d W e p fr (bit + 1 + 2 ^ suc e * get_or W p 0)) z ∙ sym (at_tag d W e p fr bit i false x))

pub record More (b h : NonZeroPow2Usize) (n w d : ℕ) (W : List ℕ) (p : ℕ) (fr : List ℕ) (bit i : ℕ) : Type 0 where
  pub less : h.value < b.value
  pub wide : wide_list (bound_log2 b.value - 1) (get_or W p 0) ≡ suc (n * w) + wide_list (bound_log2 h.value - 1) (get_or W p 0)
  pub near : {t : Bool} {len : ℕ} → t ≡ tag_at fr bit → len ≡ pick t n 0 → i < len → copy d W n p (bit + 1) i ≡ listed d W b p fr bit i
  pub far : {t : Bool} {len : ℕ} → t ≡ tag_at fr bit → len ≡ pick t n 0 → len ≤ i → listed d W h p fr (bit + 1 + n * w) (i - len) ≡ listed d W b p fr bit i

pub more_blocks : {b h : NonZeroPow2Usize} (d : ℕ) (W : List ℕ) (p : ℕ) (fr : List ℕ) (bit i : ℕ) → Some h ≡ half_bound b → {n w : ℕ} → n ≡ h.value → w ≡ get_or W p 0 → More b h n w d W p fr bit i
unfolding listed wide_list
more_blocks {b} {h} d W p fr bit i q s a = rw (s, a) (go (half_of q))
  where
    go : HalfOf b h → More b h h.value (get_or W p 0) d W p fr bit i
    go k =
        let e = k.exponent in
        record {
          less = k.less;
          wide = rw (k.log2_twice, k.log2, k.power, sub-one, sub-one) (omega arith);
          near = λ {t} x y n. rw (k.log2_twice, k.power, sub-one) ((more_same d W e p fr bit i t (sym x)).0 (rw (y, k.power) at n));
          far = λ {t} x y n. rw (k.log2_twice, k.log2, y, k.power, sub-one, sub-one) ((more_same d W e p fr bit i t (sym x)).1 (rw (y, k.power) at n));
        }

-- CHOICES

module _ {E : List ℕ} {p : ℕ} {c : Choice} (d i : ℕ) (fr : List ℕ) (bit : ℕ) (h : Chosen E p (choice_in 2 fr bit) c) where
  -- the side that the tag leads to, if it was asked for
  pub side_told : then_some (eqb i c.number) (spot c.at d c.bit) ≡ side d E p fr bit i
  unfolding side
  side_told = let x = choice_in 2 fr bit in rw (h.number, h.stands_at, h.begins) (tested (eqb i x.0) (spot (hops E x.0 p) d x.1))

module _ {E : List ℕ} {p : ℕ} {c : Choice} (n : ℕ) (fr : List ℕ) (bit : ℕ) (h : Chosen E p (choice_in n fr bit) c) where
  pub choice_inside : 1 ≤ n → Hops E n p → c.at < length E
  choice_inside l o = rw h.stands_at (o.each (choice_in n fr bit).0 (choice_less n fr bit l))

  pub variant_says : (d : ℕ) (s W : List ℕ) (i : ℕ) {r : Rec} (k : Rec) → r ≡ rec_at s c.at → r ≡ k → in_variant k d E W c.at c.bit i ≡ variant d s E W n p fr bit i
  unfolding variant
  variant_says d s W i k e f = ap (λ r. in_variant r d E W c.at c.bit i) (sym f ∙ e) ∙ rw (h.stands_at, h.begins) refl

  -- no part, if it is no Variant that stands there
  pub variant_none : (d : ℕ) (s W : List ℕ) (i : ℕ) {r : Rec} → r ≡ rec_at s c.at → ((m : ℕ) → r ≡ Variant m → ⊥) → None ≡ variant d s E W n p fr bit i
  unfolding in_variant
  variant_none d s W i {r} e f = go r refl
    where
      go : (k : Rec) → r ≡ k → None ≡ variant d s E W n p fr bit i
      go Gone h = variant_says d s W i Gone e h
      go Wrong h = variant_says d s W i Wrong e h
      go (Types m) h = variant_says d s W i (Types m) e h
      go (Enum m) h = variant_says d s W i (Enum m) e h
      go (Variant m) h = absurd (f m h)

  pub payload_rowed : {s W : List ℕ} → Cased s E W n p fr bit → {r : Rec} {m : ℕ} → r ≡ rec_at s c.at → r ≡ Variant m → Rowed E W m (c.at + 1) c.bit
  payload_rowed {s} o {r} {m} e f = let g : rec_at s c.at ≡ Variant m = sym e ∙ f in rw (h.stands_at, h.begins) (o.payload m (rw h.stands_at at g))

-- A STEP, by what the record says

module _ (d : ℕ) (s E W : List ℕ) (p : ℕ) (fr : List ℕ) (bit i : ℕ) where
  pub step_says : (h k : Head) → h ≡ head_at s p → h ≡ k → below k (d - 1) s E W (p + 1) fr bit i ≡ step_at d s E W p fr bit i
  unfolding step_at
  step_says h k e f = ap (λ h. below h (d - 1) s E W (p + 1) fr bit i) (sym f ∙ e)

  -- nowhere, if it says none of the kinds that have parts
  pub step_none : {h : Head} → h ≡ head_at s p → (h ≡ Either → ⊥) → (h ≡ Opt → ⊥) → ((n : ℕ) → h ≡ Tuple n → ⊥) → ((n : ℕ) → h ≡ Array n → ⊥) → ((b : NonZeroPow2Usize) → h ≡ Listed b → ⊥) → ((n : ℕ) → h ≡ Variants n → ⊥)
      → None ≡ step_at d s E W p fr bit i
  unfolding below
  step_none {h} e a b c o f g = go h refl
    where
      go : (k : Head) → h ≡ k → None ≡ step_at d s E W p fr bit i
      go Missing q = step_says h Missing e q
      go Faulty q = step_says h Faulty e q
      go Never q = step_says h Never e q
      go Boolean q = step_says h Boolean e q
      go (UInt n) q = step_says h (UInt n) e q
      go Either q = absurd (a q)
      go Opt q = absurd (b q)
      go (Tuple n) q = absurd (c n q)
      go (Array n) q = absurd (o n q)
      go (Listed l) q = absurd (f l q)
      go (Variants n) q = absurd (g n q)
      go (Payload n) q = step_says h (Payload n) e q

-- WHAT A PLACE HOLDS

-- the bits of n types are those of their lowered types together
wide_kids : {d : ℕ} {s E W : List ℕ} (n p : ℕ) → GivenRow d false s E n p → Wide s E W → wide_row E W n p ≡ width_all (lowers (kids (tree d s) (walk d false s) n p))
unfolding wide_row kids lower
wide_kids zero p g w = refl
wide_kids {d} {s} {E} {W} (suc n) p g w =
    let a = wide_is (first g) w in
    let b = wide_kids n (get_or E p 0) (rest g) w in
    let c = ap (λ q. width_all (lowers (kids (tree d s) (walk d false s) n q))) (given_end (first g)) in
    omega arith

-- types that stand in the file one after the other, as their bits stand in a frame
rowed : {d : ℕ} {s E W : List ℕ} {n p bit : ℕ} → GivenRow d false s E n p → Wide s E W → bit + width (product_of (lowers (kids (tree d s) (walk d false s) n p))) < 2 ^ 64 → Rowed E W n p bit
rowed {d} {s} {E} {W} {n} {p} {bit} g w l =
    let a = wide_kids n p g w in
    let b = width_product_of (lowers (kids (tree d s) (walk d false s) n p)) in
    record {
      each = λ j m. let o = hopped j n p m g in let k = given_within o in let i = w.long in (given_inside o, omega arith);
      fits = omega arith;
    }

-- a list's bits are its lowered type's
wide_partition : (e w : ℕ) (t : SType) → w ≡ width t → wide_list e w ≡ width (partition_type e t)
unfolding wide_list
wide_partition zero w t h = rw h (omega (arith, width_partition_zero t))
wide_partition (suc e) w t h = let a = wide_partition e w t h in let b = width_partition_suc e t in let c = ap (λ x. 2 ^ suc e * x) h in omega arith

module _ {d : ℕ} {s E W : List ℕ} {p : ℕ} {fr : List ℕ} {bit : ℕ} {h : Head} (o : Holds d s E p fr bit) (w : Wide s E W) (e : h ≡ head_at s p) (f : Fair h) where
  stands_there : Stands d s E p
  stands_there = holding_stands o.holding

  inside_there : Inside fr bit (width (structural.standing d s p))
  inside_there = holding_inside o.holding

  -- of a Tuple
  pub tuple_rowed : {n : ℕ} → h ≡ Tuple n → Rowed E W n (p + 1) bit
  unfolding node lower
  tuple_rowed {n} i =
      let k = o.holding in
      let g = k.given in
      let t : o.type ≡ node (Tuple n) (tree (d - 1) s) (walk (d - 1) false s) (treev (d - 1) s) (walk (d - 1) true s) (p + 1) = sym k.same ∙ tree_in s p d h (Tuple n) (given_levels g) e i in
      let l = k.inside.1 in
      let a = ap (λ t. width (lower t)) t in
      rowed (given_head (Tuple n) g e i) w (omega arith)

  -- of an Array
  pub array_asked : {n : ℕ} → h ≡ Array n → (p + 1 < length W) × (bit + n * get_or W (p + 1) 0 < 2 ^ 64)
  array_asked {n} i =
      let a = first (given_head (Array n) o.holding.given e i) in
      let l = given_within a in
      let m = w.long in
      let k = (as_product stands_there e f refl (ap form_of i)).wide in
      let c = copies_wide (d - 1) s n (p + 1) in
      let r = ap (λ x. n * x) (w.right (d - 1) (p + 1) (stands a)) in
      let u = inside_there.1 in
      (omega arith, omega arith)

  -- of a List, and of an Option, which is the list with the bound 2
  list_asked : (b : NonZeroPow2Usize) → form_of h ≡ form.List b → (p + 1 < length W) × Inside fr bit (wide_list (bound_log2 b.value - 1) (get_or W (p + 1) 0))
  unfolding structural.listed
  list_asked b i =
      let k = as_list stands_there e f refl i in
      let l = given_within k.given.given in
      let m = w.long in
      let c = k.wide in
      let r = wide_partition (bound_log2 b.value - 1) (get_or W (p + 1) 0) (structural.standing (d - 1) s (p + 1)) (w.right (d - 1) (p + 1) k.given) in
      let (u, v) = inside_there in
      (omega arith, (omega arith, omega arith))

  pub listed_asked : {b : NonZeroPow2Usize} → h ≡ Listed b → (p + 1 < length W) × Inside fr bit (wide_list (bound_log2 b.value - 1) (get_or W (p + 1) 0))
  listed_asked {b} i = list_asked b (ap form_of i)

  pub option_asked : h ≡ Opt → (p + 1 < length W) × Inside fr bit (wide_list (bound_log2 2 - 1) (get_or W (p + 1) 0))
  option_asked i = list_asked bound_two (ap form_of i)

  -- of an Either and an Enum
  sum_inside : {n : ℕ} → SumFramed h n d s E p → Inside fr bit (height (btree n))
  sum_inside k = let l = k.tags in let (u, v) = inside_there in (omega arith, omega arith)

  pub either_asked : h ≡ Either → Hops E 2 (p + 1) × Inside fr bit (height (btree 2))
  either_asked i = let k = as_sum stands_there e f refl (ap form_of i) in (k.hopping, sum_inside k)

  -- the payload that the tags lead to
  cased : {n : ℕ} → SumFramed h n d s E p → Cased s E W n (p + 1) fr bit
  unfolding low payload
  cased {n} k = record {
    payload = λ m r.
        let x = choice_in n fr bit in
        let q = hops E x.0 (p + 1) in
        let c = k.choice fr bit inside_there.0 (record { number = x.0; at = q; bit = x.1 }) (record { number = refl; stands_at = refl; begins = refl }) in
        let g : Given (d - 1) true s E q = subst (λ r. Given (d - 1) (is_variant r) s E q) r c.stands.given in
        let a = ap width (standing_is g) in
        let b = ap (λ ts. width (product_of (lowers ts))) (treev_in s q (d - 1) (rec_at s q) (Variant m) (given_levels g) refl r) in
        let l = c.fits in
        let u = inside_there.1 in
        rowed (given_below (Variant m) g refl r) w (omega arith);
  }

  pub enum_asked : {n : ℕ} → h ≡ Variants n → ((1 ≤ n) × (n ≤ 65536)) × (Hops E n (p + 1) × (Inside fr bit (height (btree n)) × ((1 ≤ d - 1) × Cased s E W n (p + 1) fr bit)))
  enum_asked {n} i =
      let k = as_sum stands_there e f refl (ap form_of i) in
      let l = k.some_choice in
      let g = given_first (λ z. omega arith) (given_head (Variants n) o.holding.given e i) in
      let m = given_levels g in
      ((l, k.few), (k.hopping, (sum_inside k, (omega arith, cased k))))

-- A PATH

-- the step that stands from a byte on
pub picks_at : (path : List ℕ) (j : ℕ) → j + 2 ≤ length path → picks_from path j ≡ (get_or path j 0 * 256 + get_or path (j + 1) 0) ∷ picks_from path (j + 2)
unfolding picks_from
picks_at path j l =
    let k = (length path - (j + 2)) / 2 in
    let a : length (drop j path) / 2 ≡ suc k = ap (λ n. n / 2) (length-drop j path) ∙ omega arith in
    let b : length (drop (j + 2) path) / 2 ≡ k = ap (λ n. n / 2) (length-drop (j + 2) path) in
    let c : two_at (take 2 (drop j path)) 0 ≡ get_or path j 0 * 256 + get_or path (j + 1) 0 = rw (get_or-take 2 (drop j path) 0 0 (omega arith), get_or-take 2 (drop j path) 1 0 (omega arith), get_or-drop j path 0 0, get_or-drop j path 1 0) (ap (λ x. get_or path x 0 * 256 + get_or path (j + 1) 0) (omega arith)) in
    ap (λ n. map (λ step. two_at step 0) (cut 2 n (drop j path))) a
    ∙ ap {B = List ℕ} (λ x. x ∷ map (λ step. two_at step 0) (cut 2 k (drop 2 (drop j path)))) c
    ∙ ap {B = List ℕ} (λ l. (get_or path j 0 * 256 + get_or path (j + 1) 0) ∷ map (λ step. two_at step 0) (cut 2 k l)) (drop-drop 2 j path)
    ∙ ap {B = List ℕ} (λ n. (get_or path j 0 * 256 + get_or path (j + 1) 0) ∷ map (λ step. two_at step 0) (cut 2 n (drop (j + 2) path))) (sym b)

-- two bytes are a step
pub picks_next : (path : List ℕ) (j : ℕ) → 2 * j + 2 ≤ length path → picks_from path (2 * j) ≡ two_at path (2 * j) ∷ picks_from path (2 * (j + 1))
picks_next path j l =
    let e : 2 * j + 2 ≡ 2 * (j + 1) = omega arith in
    let f : 2 * j + 1 ≡ suc (2 * j) = omega arith in
    picks_at path (2 * j) l ∙ rw (e, f) refl

-- and behind the last there is none
pub picks_none : (path : List ℕ) (j : ℕ) → length path < j + 2 → picks_from path j ≡ []
unfolding picks_from
picks_none path j l =
    let a : length (drop j path) / 2 ≡ 0 = ap (λ n. n / 2) (length-drop j path) ∙ omega arith in
    ap (λ n. map (λ step. two_at step 0) (cut 2 n (drop j path))) a

module _ (s E W fr path : List ℕ) where
  pub path_odd_refused : (length path % 2 ≡ 0 → ⊥) → Err PathOdd ≡ found_in s E W fr path
  unfolding found_in steps
  path_odd_refused h = ap {B = Result Spot Refusal} (λ b. led_to (refuse path_odd (not b) >> done (map (λ step. two_at step 0) (records 2 path))) (follow 32 s E W 0 fr 0)) (sym (ne_eqb (length path % 2) 0 h))

  -- a path of whole steps leads where its steps lead
  pub found_even : length path % 2 ≡ 0 → found_in s E W fr path ≡ target (follow 32 s E W 0 fr 0 (picks_from path 0))
  unfolding found_in steps picks_from
  found_even h = ap {B = Result Spot Refusal} (λ b. led_to (refuse path_odd (not b) >> done (map (λ step. two_at step 0) (records 2 path))) (follow 32 s E W 0 fr 0)) (eq-eqb (length path % 2) 0 h)

  pub found_led : length path % 2 ≡ 0 → {r : Optional Spot} → r ≡ follow 32 s E W 0 fr 0 (picks_from path 0) → ok_or r NoSuchPart ≡ found_in s E W fr path
  found_led h {r} e = as_target r ∙ ap target e ∙ sym (found_even h)
    where
      as_target : (r : Optional Spot) → ok_or r NoSuchPart ≡ target r
      as_target None = refl
      as_target (Some x) = refl
