-- The steps of the copiers, each in the form in which a need of the code asks it, so that a search finds it.
use Rattle.std.specs.Prelude.{Option, Some, None, unwrap_or}
use mathlib.Core.Path.{◌≡◌, refl, sym, ap, ◌∙◌}
use mathlib.Core.List.{List, [], ◌∷◌}
use mathlib.Core.Option.{some, none-ne-some}
use Prim.Native.Nat.{ℕ, ◌+◌, ◌-◌, ◌*◌, ◌^◌, ◌≤◌, ◌<◌}
use native.Mathlib.Omega.{arith}
use Rattle.std.proofs.lemmas.Grind.{get_or_default_zero}
use mir.Syntax.{w64}
use mir.Val.{Fits}
use lib.ListN.{length, get_or, set, length-set}
use Rattle.array.specs.Ends.{tree_end_of}
use Rattle.num.specs.declared.NonZeroPow2Usize.{NonZeroPow2Usize}
use Rattle.num.specs.Powers.{half_bound}
use Rattle.model.specs.Balanced.{btree_split_index}
use Rattle.model.specs.Structural.{unit, shape_records}
use Rattle.model.proofs.Laws.Balanced.{Shares, shares}
use Rattle.types.specs.declared.Head.{Head}
use Rattle.types.specs.Record.{head_at}
use Rattle.types.specs.Heads.{Fair}
use Rattle.structural.specs.Forms.{most_parts, Stands}
use Rattle.structural.proofs.Laws.Bounds.{bound_small}
use Rattle.structural.proofs.Laws.Forms.{level_some, next_fits}
use Rattle.structural.proofs.Laws.Writing.{rest, back, wrote_none, wrote_set, wrote_as}
use Rattle.told.specs.Forms.{Told, hops}
use Rattle.shape.specs.Forms.{Ready, Placed}
use Rattle.shape.specs.Laws.Writing.{ready_some, ready_as, placed_as, placed_length, Stem, left_stem, right_stem, stem_ready, stem_small, stem_done, Pair, pair_of, left_ready, pair_small, pair_fits, right_ready, pair_total, pair_done}
use Rattle.types.specs.declared.forms.Form.{Form}
use Rattle.types.specs.declared.forms.Form.TheVariants as form
use Rattle.types.specs.declared.forms.Parts.{Parts}
use Rattle.types.specs.declared.forms.Parts.TheVariants.{Copies, Types}
use Rattle.types.specs.Forms.{form_of}
use Rattle.rebuild.specs.Forms.{skip, Hopped, GivenParts, standing, bits_of, balanced, chosen, block_of, listed}
use Rattle.rebuild.specs.Laws.Forms.{given_copies, balanced_none, balanced_one, balanced_step, bits_one, bits_step, chosen_one, chosen_step, block_sum, given_hopped, one_given, left_given, right_given, as_formed, as_bit, as_integer, as_product, as_sum, as_list, as_payload}
use Rattle.rebuild.specs.Laws.Lists.{list_two, Halved, list_more}
use Rattle.rebuild.specs.Places.{passed, units, sums, pairs, passes, bit, at_places}
use Rattle.shape_clean.specs.Copies.{Copier, copied, copier}
use Rattle.shape_clean.specs.Laws.Steps.{BitThere, bit_there, unit_there, sum_inside, sum_left, sum_right, sum_two, pair_there}

-- what is copied at one place
here : {r t : Copier} (p : ℕ) → r ≡ t → r p ≡ t p
here p e = ap (λ (f : Copier). f p) e

-- a shape has a record, and behind it the rest of the buffer is lent
pub tag_start : (t : Told) (out : List ℕ) (b : ℕ) → Ready t out → 1 ≤ length (set out 0 b)
tag_start t out b r = let l = ready_some r in simp length-set (omega arith)

-- the buffer is as long as it was
pub same_count : {t : Told} {out o : List ℕ} {next len : ℕ} → Placed t out o next len → Ready t out → length o ≡ length out
same_count w r = placed_length r w

-- PAIRS

module _ (sh : List ℕ) (p : ℕ) {t : Told} (l r : Copier) {out : List ℕ} (e : t ≡ pairs copied sh l r p) (g : Ready t out) where
  inside : p + 1 ≤ length sh
  inside = (pair_there sh p (g.shape, g.end) l r (sym e ∙ g.told)).0

  pub split : Pair t (l (p + 1)) r out
  split = pair_of (e ∙ (pair_there sh p (g.shape, g.end) l r (sym e ∙ g.told)).1) g

-- SPOTS AND BITS

-- a unit is put, and the place after is the end of the tree, which stands there
pub spot_placed : (sh : List ℕ) (p : ℕ) (out : List ℕ) → Ready (passes copied sh p) out → (o : Option ℕ) → o ≡ tree_end_of sh p → (e : ℕ) → e ≡ unwrap_or o p → Placed (passes copied sh p) out (set out 0 0) e 1
unfolding passes copied shape_records
spot_placed sh p out r (Some n) h e k = record { shape = unit; told = ap (passed copied p) (sym h) ∙ ap (λ i. some (unit, i)) (sym k); wrote = wrote_set (wrote_none out) 0 (ready_some r) }
spot_placed sh p out r None h e k = absurd (none-ne-some _ (ap (passed copied p) h ∙ r.told))

module _ (sh : List ℕ) (p : ℕ) (out : List ℕ) (r : Ready (bit copied sh p) out) where
  there : BitThere sh p (r.shape, r.end)
  there = bit_there sh p (r.shape, r.end) r.told

  bit_room : 2 ≤ length out
  bit_room = omega (arith, ap length there.records, r.room)

  pub bit_second : (b : ℕ) → 1 < length (set out 0 b)
  bit_second b = let l = bit_room in simp length-set (omega arith)

  pub bit_fits : length sh < 2 ^ 64 → Fits w64 (p + 2)
  bit_fits l = let i = there.inside in omega arith

  pub bit_inside : p < length sh
  bit_inside = let i = there.inside in omega arith

  pub bit_placed : Placed (bit copied sh p) out (set (set out 0 (get_or sh p 0)) 1 0) (p + 2) 2
  bit_placed =
      let l = bit_room in
      let e = get_or_default_zero sh p 4 bit_inside in
      record { shape = r.shape; told = r.told ∙ ap (λ i. some (r.shape, i)) there.after; wrote = wrote_as (there.records ∙ ap (λ b. b ∷ 0 ∷ []) e) (wrote_set (wrote_set (wrote_none out) (get_or sh p 0) (omega arith)) 0 (omega arith)) }

module _ (sh : List ℕ) (n p : ℕ) where
  pub bits_only : n ≡ 1 → bits_of (copier sh) n p ≡ bit copied sh p
  unfolding copier at_places copied
  bits_only e = here p (bits_one (copier sh) n e)

  module _ (few : ℕ) (e : few ≡ btree_split_index n) (two : 2 ≤ n) {out : List ℕ} (r : Ready (bits_of (copier sh) n p) out) where
    bits_is : bits_of (copier sh) n p ≡ pairs copied sh (bits_of (copier sh) few) (bits_of (copier sh) (n - few)) p
    unfolding copier at_places copied
    bits_is = here p (bits_step (copier sh) n few e two)

    pub bits_inside : p + 1 ≤ length sh
    bits_inside = inside sh p _ _ bits_is r

    pub bits_split : Pair (bits_of (copier sh) n p) (bits_of (copier sh) few (p + 1)) (bits_of (copier sh) (n - few)) out
    bits_split = split sh p _ _ bits_is r

-- RECORDS

module _ (d : ℕ) (s E : List ℕ) (p : ℕ) (g : Stands d s E p) where
  module _ (h : Head) (f : Form) (e : h ≡ head_at s p) (i : Fair h) (j : f ≡ form_of h) where
    pub not_nothing : (sh : List ℕ) (q : ℕ) (out : List ℕ) → f ≡ form.Nothing → Ready (standing (copier sh) d s p q) out → ⊥
    unfolding copier at_places copied
    not_nothing sh q out k r = none-ne-some _ (sym (here q (as_formed g (copier sh) h f e i j form.Nothing k)) ∙ r.told)

    pub record_bit : (sh : List ℕ) (q : ℕ) → f ≡ form.Bit → standing (copier sh) d s p q ≡ bit copied sh q
    unfolding copier at_places copied
    record_bit sh q o = here q (as_bit g (copier sh) h f e i j o)

    module _ (w : ℕ) (o : f ≡ form.Integer w) where
      pub integer_some : 1 ≤ w
      integer_some = (as_integer g (copier s) h f e i j w o).some

      pub integer_few : w ≤ 256
      integer_few = (as_integer g (copier s) h f e i j w o).few

      pub record_integer : (sh : List ℕ) (q : ℕ) → standing (copier sh) d s p q ≡ bits_of (copier sh) w q
      unfolding copier at_places copied
      record_integer sh q = here q (as_integer g (copier sh) h f e i j w o).same

    module _ (k : Parts) (n : ℕ) (o : f ≡ form.Product k n) where
      pub product_few : n ≤ most_parts
      product_few = (as_product g (copier s) h f e i j k n o).few

      pub product_given : GivenParts k (d - 1) s E n (p + 1)
      product_given = (as_product g (copier s) h f e i j k n o).given

      pub record_product : (sh : List ℕ) (q : ℕ) → standing (copier sh) d s p q ≡ balanced (copier sh) k (d - 1) s E n (p + 1) q
      unfolding copier at_places copied
      record_product sh q = here q (as_product g (copier sh) h f e i j k n o).same

    module _ (n : ℕ) (o : f ≡ form.Sum n) where
      pub sum_some : 1 ≤ n
      sum_some = (as_sum g (copier s) h f e i j n o).some

      pub sum_few : n ≤ most_parts
      sum_few = (as_sum g (copier s) h f e i j n o).few

      pub sum_given : GivenParts Types (d - 1) s E n (p + 1)
      sum_given = (as_sum g (copier s) h f e i j n o).given

      pub record_sum : (sh : List ℕ) (q : ℕ) → standing (copier sh) d s p q ≡ chosen (copier sh) (d - 1) s E n (p + 1) q
      unfolding copier at_places copied
      record_sum sh q = here q (as_sum g (copier sh) h f e i j n o).same

    module _ (b : NonZeroPow2Usize) (o : f ≡ form.List b) where
      pub list_given : Stands (d - 1) s E (p + 1)
      list_given = (as_list g (copier s) h f e i j b o).given

      pub record_list : (sh : List ℕ) (q : ℕ) → standing (copier sh) d s p q ≡ listed (copier sh) (d - 1) s b (p + 1) q
      unfolding copier at_places copied
      record_list sh q = here q (as_list g (copier sh) h f e i j b o).same

    module _ (n : ℕ) (o : f ≡ form.Payload n) where
      pub payload_few : n ≤ most_parts
      payload_few = (as_payload g (copier s) h f e i j n o).few

      pub payload_given : GivenParts Types (d - 1) s E n (p + 1)
      payload_given = (as_payload g (copier s) h f e i j n o).given

      pub record_payload : (sh : List ℕ) (q : ℕ) → standing (copier sh) d s p q ≡ balanced (copier sh) Types (d - 1) s E n (p + 1) q
      record_payload sh q = here q (as_payload g (copier sh) h f e i j n o).same

  -- a level weighs more than all counts and bounds
  module _ (t : ℕ) (m : d * 2 ^ 17 ≡ t) where
    pub falls_to_parts : (n : ℕ) → n ≤ most_parts → (d - 1) * 2 ^ 17 + n + 1 < t
    falls_to_parts n l = omega (arith, level_some g)

    pub falls_to_list : (b : NonZeroPow2Usize) → (d - 1) * 2 ^ 17 + b.value + 4 < t
    falls_to_list b = omega (arith, level_some g, bound_small b)

-- PRODUCTS

pub falls_to_record : (d n t : ℕ) → d * 2 ^ 17 + n + 1 ≡ t → d * 2 ^ 17 < t
falls_to_record d n t m = omega arith

module _ (n few : ℕ) (e : few ≡ btree_split_index n) (two : 2 ≤ n) where
  shared : Shares n few
  shared = shares e two

  pub product_others : few ≤ n
  product_others = let l = shared.less in omega arith

  pub left_few : n ≤ most_parts → few ≤ most_parts
  left_few h = let l = shared.less in omega arith

  pub right_few : n ≤ most_parts → n - few ≤ most_parts
  right_few h = omega arith

  module _ (d t : ℕ) (m : d * 2 ^ 17 + n + 1 ≡ t) where
    pub falls_left : d * 2 ^ 17 + few + 1 < t
    falls_left = let l = shared.less in omega arith

    pub falls_right : d * 2 ^ 17 + (n - few) + 1 < t
    falls_right = let l = shared.some in let j = shared.less in omega arith

  module _ (k : Parts) (d : ℕ) (s E : List ℕ) (q : ℕ) (g : GivenParts k d s E n q) where
    pub product_left_given : GivenParts k d s E few q
    product_left_given = left_given shared g

    pub product_hopped : Hopped k E few q
    product_hopped = given_hopped k (left_given shared g)

    pub product_right_given : (i : ℕ) → i ≡ skip k E few q → GivenParts k d s E (n - few) i
    product_right_given i h = right_given shared g h

module _ (sh : List ℕ) (k : Parts) (d : ℕ) (s E : List ℕ) (n q p : ℕ) where
  pub none_is : n ≡ 0 → balanced (copier sh) k d s E n q p ≡ passes copied sh p
  unfolding copier at_places
  none_is z = here p (balanced_none (copier sh) k d s E n q z)

  pub one_is : n ≡ 1 → balanced (copier sh) k d s E n q p ≡ standing (copier sh) d s q p
  one_is z = here p (balanced_one (copier sh) k d s E n q z)

  module _ (few : ℕ) (out : List ℕ) (e : few ≡ btree_split_index n) (two : 2 ≤ n) (r : Ready (balanced (copier sh) k d s E n q p) out) where
    product_is : balanced (copier sh) k d s E n q p ≡ pairs copied sh (balanced (copier sh) k d s E few q) (balanced (copier sh) k d s E (n - few) (skip k E few q)) p
    unfolding copier at_places
    product_is = here p (balanced_step (copier sh) k d s E n few q e two)

    pub product_next : length sh < 2 ^ 64 → Fits w64 (p + 1)
    product_next l = omega (arith, inside sh p _ _ product_is r)

    -- a pair: the left side, and the right side from the type's record i on
    both : (i : ℕ) → i ≡ skip k E few q → Pair (balanced (copier sh) k d s E n q p) (balanced (copier sh) k d s E few q (p + 1)) (balanced (copier sh) k d s E (n - few) i) out
    both i g = rw g (split sh p _ _ product_is r)

    pub product_left : Ready (balanced (copier sh) k d s E few q (p + 1)) (rest 1 (set out 0 3))
    product_left = left_ready (both (skip k E few q) refl)

    module _ (a : List ℕ) (next len : ℕ) (w : Placed (balanced (copier sh) k d s E few q (p + 1)) (rest 1 (set out 0 3)) a next len) where
      pub product_tag : length out < 2 ^ 64 → Fits w64 (len + 1)
      product_tag l = omega (arith, pair_small (both (skip k E few q) refl) w)

      pub product_rest : len + 1 ≤ length (back 1 (set out 0 3) a)
      product_rest = pair_fits (both (skip k E few q) refl) w

      module _ (i : ℕ) (g : i ≡ skip k E few q) where
        pub product_right : Ready (balanced (copier sh) k d s E (n - few) i next) (rest (len + 1) (back 1 (set out 0 3) a))
        product_right = right_ready (both i g) w

        module _ (b : List ℕ) (next' len' : ℕ) (v : Placed (balanced (copier sh) k d s E (n - few) i next) (rest (len + 1) (back 1 (set out 0 3) a)) b next' len') where
          pub product_total : length out < 2 ^ 64 → Fits w64 (len' + (len + 1))
          product_total l = omega (arith, pair_total (both i g) w v)

          pub product_done : Placed (balanced (copier sh) k d s E n q p) out (back (len + 1) (back 1 (set out 0 3) a) b) next' (len' + (len + 1))
          product_done = pair_done (both i g) w v

-- SUMS

-- the side of a sum that the record says: from a record on, so many of its n records
pub record Side (sh : List ℕ) (d : ℕ) (s E : List ℕ) (n q p : ℕ) (out : List ℕ) (i : ℕ × ℕ) : Type 0 where
  pub some : 1 ≤ i.1
  pub less : i.1 < n
  pub given : GivenParts Types d s E i.1 i.0
  pub stem : Stem (get_or sh p 0) (chosen (copier sh) d s E n q p) (chosen (copier sh) d s E i.1 i.0 (p + 1)) out

pub only_given : (d : ℕ) (s E : List ℕ) (n q : ℕ) → GivenParts Types d s E n q → n ≡ 1 → Stands d s E q
only_given d s E n q g z = one_given g z

module _ (sh : List ℕ) (d : ℕ) (s E : List ℕ) (n q p : ℕ) where
  pub only_is : n ≡ 1 → chosen (copier sh) d s E n q p ≡ standing (copier sh) d s q p
  only_is z = here p (chosen_one (copier sh) d s E n q z)

  module _ (few : ℕ) (out : List ℕ) (e : few ≡ btree_split_index n) (two : 2 ≤ n) (r : Ready (chosen (copier sh) d s E n q p) out) where
    sum_is : chosen (copier sh) d s E n q p ≡ sums copied sh (chosen (copier sh) d s E few q) (chosen (copier sh) d s E (n - few) (hops E few q)) p
    unfolding copier at_places
    sum_is = here p (chosen_step (copier sh) d s E n few q e two)

    sum_told : sums copied sh (chosen (copier sh) d s E few q) (chosen (copier sh) d s E (n - few) (hops E few q)) p ≡ some (r.shape, r.end)
    sum_told = sym sum_is ∙ r.told

    pub chosen_next : length sh < 2 ^ 64 → Fits w64 (p + 1)
    chosen_next h = omega (arith, sum_inside sh p (r.shape, r.end) _ _ sum_told)

    pub chosen_inside : p < length sh
    chosen_inside = omega (arith, sum_inside sh p (r.shape, r.end) _ _ sum_told)

    sum_there : get_or sh p 4 ≡ get_or sh p 0
    sum_there = get_or_default_zero sh p 4 chosen_inside

    module _ (g : GivenParts Types d s E n q) where
      pub left_side : get_or sh p 0 ≡ 1 → Side sh d s E n q p out (q, few)
      left_side j = let h = shared n few e two in record { some = h.some; less = h.less; given = left_given h g; stem = rw j (left_stem (sum_is ∙ sum_left sh p (r.shape, r.end) _ _ sum_told (sum_there ∙ j)) r) }

      pub right_side : (get_or sh p 0 ≡ 1 → ⊥) → (i : ℕ) → i ≡ hops E few q → Side sh d s E n q p out (i, n - few)
      right_side j i f =
          let h = shared n few e two in
          let l = h.less in
          let m = h.some in
          let no : get_or sh p 4 ≡ 1 → ⊥ = λ a. j (sym sum_there ∙ a) in
          let t : get_or sh p 0 ≡ 2 = sym sum_there ∙ sum_two sh p (r.shape, r.end) _ _ sum_told no in
          record { some = omega arith; less = omega arith; given = right_given h g f; stem = rw (f, t) (right_stem (sum_is ∙ sum_right sh p (r.shape, r.end) _ _ sum_told no) r) }

-- BLOCKS

pub block_falls : (d n t : ℕ) → d * 2 ^ 17 + n + 2 ≡ t → d * 2 ^ 17 + n + 1 < t
block_falls d n t m = omega arith

-- none: a left with a unit
module _ (sh : List ℕ) (p : ℕ) {t : Told} {out : List ℕ} (f : Stem 1 t (units copied sh (p + 1)) out) where
  empty_unit : (p + 1 + 1 ≤ length sh) × (◌≡◌ {A = _ × _} (f.inner, f.ready.end) (unit, p + 1 + 1))
  empty_unit = unit_there sh (p + 1) (f.inner, f.ready.end) f.told

  empty_records : shape_records f.ready.shape ≡ 1 ∷ 0 ∷ []
  unfolding shape_records
  empty_records = f.same ∙ ap (λ x. 1 ∷ shape_records x.0) empty_unit.1

  empty_room : 2 ≤ length out
  empty_room = omega (arith, ap length empty_records, f.ready.room)

  unit_placed : Placed t out (set (set out 0 1) 1 0) (p + 2) 2
  unit_placed =
      let l = empty_room in
      let e : f.ready.end ≡ p + 2 = ap (λ x. x.1) empty_unit.1 ∙ omega arith in
      record { shape = f.ready.shape; told = f.ready.told ∙ ap (λ i. some (f.ready.shape, i)) e; wrote = wrote_as empty_records (wrote_set (wrote_set (wrote_none out) 1 (omega arith)) 0 (omega arith)) }

module _ (sh : List ℕ) (d : ℕ) (s : List ℕ) (n q p : ℕ) (out : List ℕ) (r : Ready (block_of (copier sh) d s n q p) out) where
  block_is : (E : List ℕ) → block_of (copier sh) d s n q p ≡ sums copied sh (units copied sh) (balanced (copier sh) Copies d s E n q) p
  unfolding copier at_places
  block_is E = here p (block_sum (copier sh) d s E n q)

  pub block_next : length sh < 2 ^ 64 → Fits w64 (p + 1)
  block_next h = omega (arith, sum_inside sh p (r.shape, r.end) _ _ (sym (block_is s) ∙ r.told))

  pub block_inside : p < length sh
  block_inside = omega (arith, sum_inside sh p (r.shape, r.end) _ _ (sym (block_is s) ∙ r.told))

  block_there : get_or sh p 4 ≡ get_or sh p 0
  block_there = get_or_default_zero sh p 4 block_inside

  module _ (j : get_or sh p 0 ≡ 1 → ⊥) (E : List ℕ) where
    all_of : Stem 2 (block_of (copier sh) d s n q p) (balanced (copier sh) Copies d s E n q (p + 1)) out
    all_of = right_stem (block_is E ∙ sum_right sh p (r.shape, r.end) _ _ (sym (block_is E) ∙ r.told) (λ a. j (sym block_there ∙ a))) r

    pub block_right : Ready (balanced (copier sh) Copies d s E n q (p + 1)) (rest 1 (set out 0 2))
    block_right = stem_ready all_of

    module _ (a : List ℕ) (next len : ℕ) (w : Placed (balanced (copier sh) Copies d s E n q (p + 1)) (rest 1 (set out 0 2)) a next len) where
      pub block_total : length out < 2 ^ 64 → Fits w64 (len + 1)
      block_total h = omega (arith, stem_small all_of w)

      pub block_done : Placed (block_of (copier sh) d s n q p) out (back 1 (set out 0 2) a) next (len + 1)
      block_done = stem_done all_of w

  module _ (j : get_or sh p 0 ≡ 1) where
    none_of : Stem 1 (block_of (copier sh) d s n q p) (units copied sh (p + 1)) out
    none_of = left_stem (block_is s ∙ sum_left sh p (r.shape, r.end) _ _ (sym (block_is s) ∙ r.told) (block_there ∙ j)) r

    pub empty_second : 1 < length (set out 0 1)
    empty_second = let l = empty_room sh p none_of in simp length-set (omega arith)

    pub empty_fits : length sh < 2 ^ 64 → Fits w64 (p + 2)
    empty_fits h = omega (arith, (empty_unit sh p none_of).0)

    pub empty_placed : Placed (block_of (copier sh) d s n q p) out (set (set out 0 1) 1 0) (p + 2) 2
    empty_placed = unit_placed sh p none_of

-- LISTS

pub one_few : 1 ≤ most_parts
one_few = omega arith

module _ (b : NonZeroPow2Usize) (o : Option NonZeroPow2Usize) (u : o ≡ half_bound b) where
  pub two_is : (sh : List ℕ) (d : ℕ) (s : List ℕ) (q p : ℕ) → o ≡ None → listed (copier sh) d s b q p ≡ block_of (copier sh) d s 1 q p
  two_is sh d s q p v = here p (list_two (copier sh) d s q b (sym v ∙ u))

  pub falls_to_two : (d t : ℕ) → d * 2 ^ 17 + b.value + 4 ≡ t → d * 2 ^ 17 + 1 + 2 < t
  falls_to_two d t m = omega arith

  module _ (a : NonZeroPow2Usize) (v : o ≡ Some a) where
    halved : (sh : List ℕ) (d : ℕ) (s : List ℕ) (q : ℕ) → Halved (copier sh) b a d s q
    halved sh d s q = list_more (copier sh) d s q (sym v ∙ u)

    pub half_few : (n : ℕ) → n ≡ a.value → n ≤ most_parts
    half_few n h = omega (arith, bound_small a)

    module _ (d t : ℕ) (m : d * 2 ^ 17 + b.value + 4 ≡ t) where
      pub falls_to_block : (n : ℕ) → n ≡ a.value → d * 2 ^ 17 + n + 2 < t
      falls_to_block n h = let l = (halved [] 0 [] 0).less in omega arith

      pub falls_to_half : d * 2 ^ 17 + a.value + 4 < t
      falls_to_half = let l = (halved [] 0 [] 0).less in omega arith

    module _ (sh : List ℕ) (d : ℕ) (s : List ℕ) (q p : ℕ) (out : List ℕ) (r : Ready (listed (copier sh) d s b q p) out) where
      list_is : listed (copier sh) d s b q p ≡ pairs copied sh (block_of (copier sh) d s a.value q) (listed (copier sh) d s a q) p
      unfolding copier at_places
      list_is = here p (halved sh d s q).same

      pub list_next : length sh < 2 ^ 64 → Fits w64 (p + 1)
      list_next l = omega (arith, inside sh p _ _ list_is r)

      module _ (n : ℕ) (e : n ≡ a.value) where
        blocks : Pair (listed (copier sh) d s b q p) (block_of (copier sh) d s n q (p + 1)) (listed (copier sh) d s a q) out
        blocks = rw e (split sh p _ _ list_is r)

        pub list_left : Ready (block_of (copier sh) d s n q (p + 1)) (rest 1 (set out 0 3))
        list_left = left_ready blocks

        module _ (x : List ℕ) (next len : ℕ) (w : Placed (block_of (copier sh) d s n q (p + 1)) (rest 1 (set out 0 3)) x next len) where
          pub list_tag : length out < 2 ^ 64 → Fits w64 (len + 1)
          list_tag l = omega (arith, pair_small blocks w)

          pub list_rest : len + 1 ≤ length (back 1 (set out 0 3) x)
          list_rest = pair_fits blocks w

          pub list_right : Ready (listed (copier sh) d s a q next) (rest (len + 1) (back 1 (set out 0 3) x))
          list_right = right_ready blocks w

          module _ (y : List ℕ) (next' len' : ℕ) (z : Placed (listed (copier sh) d s a q next) (rest (len + 1) (back 1 (set out 0 3) x)) y next' len') where
            pub list_total : length out < 2 ^ 64 → Fits w64 (len' + (len + 1))
            list_total l = omega (arith, pair_total blocks w z)

            pub list_done : Placed (listed (copier sh) d s b q p) out (back (len + 1) (back 1 (set out 0 3) x) y) next' (len' + (len + 1))
            list_done = pair_done blocks w z

-- WHAT THE COPIERS TRY

pub ruleset of_records = (placed_length, ready_as, placed_as, level_some, next_fits, not_nothing, product_few, product_given, record_bit, record_integer, integer_some, integer_few, record_product, sum_some, sum_few, sum_given, record_sum, list_given, record_list, payload_few, payload_given, record_payload, falls_to_parts, falls_to_list)

pub ruleset of_products = (ready_some, tag_start, placed_length, ready_as, placed_as, one_given, none_is, one_is, falls_to_record, product_others, left_few, right_few, falls_left, falls_right, product_left_given, product_hopped, product_next, product_left, product_tag, product_rest)

pub ruleset of_sums = (ready_some, tag_start, placed_length, ready_as, placed_as, only_given, only_is, falls_to_record, product_others, product_hopped, chosen_next, chosen_inside)

pub ruleset of_blocks = (ready_some, tag_start, given_copies, block_falls, block_next, block_inside, block_right, block_total, block_done, empty_second, empty_fits, empty_placed)

pub ruleset of_lists = (ready_some, tag_start, placed_length, ready_as, placed_as, one_few, two_is, falls_to_two, half_few, falls_to_block, falls_to_half, list_next, list_left, list_tag, list_rest)
