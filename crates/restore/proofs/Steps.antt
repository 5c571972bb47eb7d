-- The steps of the writers, in the form in which the code's needs ask them.
use Rattle.std.specs.Prelude.{Option as Optional, Some, None}
use mathlib.Core.Path.{◌≡◌, refl, sym, ap, ap₂, subst, ◌∙◌}
use mathlib.Core.Bool.{Bool, true, false}
use mathlib.Core.List.{List, [], ◌∷◌, ◌++◌}
use mathlib.Core.Option.{Option, some, none-ne-some, some-injective}
use Prim.Native.Nat.{ℕ, zero, suc, ◌+◌, ◌-◌, ◌^◌, ◌≤◌, ◌<◌}
use native.Mathlib.Omega.{arith}
use mir.Syntax.{w64}
use mir.Val.{Fits}
use Rattle.std.specs.Int.{from_bool}
use borrow.Author.Tests.{eq-eqb, ne_eqb}
use lib.Dec.{eqb}
use lib.ListN.{length, get_or}
use Rattle.model.proofs.Laws.Balanced.{Shares}
use Rattle.num.specs.declared.NonZeroPow2Usize.{NonZeroPow2Usize}
use Rattle.num.specs.Powers.{half_bound}
use Rattle.model.specs.Options.{pick, map_o}
use Rattle.model.specs.Bytes.{of_bits}
use Rattle.model.specs.Structural.{SValue}
use Rattle.model.specs.Reconstruct.{as_bit}
use Rattle.model.specs.ValueFiles.{Rec, rec, bit_number}
use Rattle.model.proofs.Laws.Options.{map_o_some}
use Rattle.types.specs.declared.Head.{Head}
use Rattle.types.specs.declared.Head.TheVariants.{Missing, Faulty, Never, Boolean, UInt, Either, Opt, Tuple, Array, Listed, Variants}
use Rattle.types.specs.declared.Head.TheVariants as head
use Rattle.bits.specs.Bits as bits
use Rattle.bits.specs.Laws.Writing.{wrote_then, wrote_same}
use Rattle.structural.specs.Forms.{ending}
use Rattle.structural.specs.Writing.{put, Wrote}
use Rattle.structural.proofs.Laws.Forms.{stands_end, stands_inside}
use Rattle.structural.proofs.Laws.Writing.{rest, back, wrote_none, wrote_length}
use Rattle.types.specs.declared.forms.Parts.{Parts}
use Rattle.types.specs.declared.forms.Parts.TheVariants.{Copies, Types}
use Rattle.told.specs.Forms.{after, skip, GivenParts, hops, Hops}
use Rattle.told.specs.Laws.Trees.{right_given}
use Rattle.record.specs.Marks.{mark_of, Marks, bytes, written}
use Rattle.types.specs.declared.forms.Form.{Form}
use Rattle.types.specs.declared.forms.Form.TheVariants as form
use Rattle.record.specs.Trees.{part, bit_row, product, sum, blocked, elements}
use Rattle.types.specs.Forms.{form_of}
use Rattle.record.specs.Laws.Formed.{NothingRead, BitRead, IntegerRead, PayloadRead}
use Rattle.record.specs.Laws.Sums.{sum_below, elements_below}
use Rattle.structural.specs.declared.Written.{Written}
use Rattle.restore.specs.Forms.{held, tree_at, made_at, standing, Given, Found, Ends, Ready, ReadyNumbered, Placed, PlacedNumbered, Whole, BitsPlaced, IntegerPlaced}
use Rattle.restore.specs.Laws.Made.{MadeOf, made_as, made_same, made_of}
use Rattle.restore.specs.Laws.Splits.{Bit, bit_at, OneBit, bit_row_one, BitSides, bit_row_sides, product_none, none_product, product_one, ProductSides, product_sides}
use Rattle.restore.specs.Laws.Turns.{Only, sum_one, Leftwards, Rightwards, sum_left, sum_right, sum_inside}
use Rattle.restore.specs.Laws.Lists.{Held, block_held, list_two, Halves, list_more}
use Rattle.record.specs.Laws.Writing.{first_room, first_fits, second_room, both_done, both_small, record_room, below_room, below_length, record_small, record_done, record_alone, returned, integer_put}

-- what is found there is one thing
module _ {A : Type 0} {g : Given A} {a c : A} {e n : ℕ} (h : g ≡ some (a, e)) (k : g ≡ some (c, n)) where
  same_what : a ≡ c
  same_what = ap (λ (y : A × ℕ). y.0) (some-injective _ _ (sym h ∙ k))

  same_end : e ≡ n
  same_end = ap (λ (y : A × ℕ). y.1) (some-injective _ _ (sym h ∙ k))

-- BITS

right_bit : {n : ℕ} (b : Bool) → n ≡ suc (bit_number b) → eqb n 2 ≡ b
right_bit false e = ap (λ n. eqb n 2) e
right_bit true e = ap (λ n. eqb n 2) e

module _ (sh : List ℕ) (n q : ℕ) (g : Found (made_at sh (bit_row n) q)) where
  one_bit : n ≡ 1 → OneBit sh q g.what g.end
  one_bit z = bit_row_one sh n q g.what g.end z g.there

  pub bit_inside : n ≡ 1 → q < length sh
  bit_inside z = let l = (one_bit z).there.inside in omega arith

  pub bit_fits : n ≡ 1 → length sh < 2 ^ 64 → Fits w64 (q + 2)
  bit_fits z m = let l = (one_bit z).there.inside in omega arith

  pub bit_placed : {before after : List ℕ} {j : ℕ} → n ≡ 1 → bits.Wrote before j (eqb (get_or sh q 0) 2 ∷ []) after → BitsPlaced (made_at sh (bit_row n) q) before j after (q + 2)
  bit_placed z w =
      let o = one_bit z in
      record { bools = g.what; there = g.there ∙ ap (λ e. some (g.what, e)) o.there.end; wrote = wrote_same w (ap (λ (b : Bool). b ∷ []) (right_bit o.bit o.there.side) ∙ sym o.same) }

  module _ {few : ℕ} (h : Shares n few) where
    bit_sides : BitSides sh n few q g.what g.end
    bit_sides = let l = h.some in let m = h.less in bit_row_sides sh n few q g.what g.end (omega arith) h.split g.there

    pub bits_fit : length sh < 2 ^ 64 → Fits w64 (q + 1)
    bits_fit m = let l = bit_sides.inside in omega arith

    pub left_bits : Found (made_at sh (bit_row few) (q + 1))
    left_bits = record { what = bit_sides.firsts; end = bit_sides.mid; there = bit_sides.left_bits }

    module _ {before between : List ℕ} {j next : ℕ} (v : BitsPlaced (made_at sh (bit_row few) (q + 1)) before j between next) where
      right_there : made_at sh (bit_row (n - few)) next ≡ some (bit_sides.seconds, g.end)
      right_there = ap (made_at sh (bit_row (n - few))) (same_end v.there bit_sides.left_bits) ∙ bit_sides.right_bits

      pub right_bits : Found (made_at sh (bit_row (n - few)) next)
      right_bits = record { what = bit_sides.seconds; end = g.end; there = right_there }

      pub bits_placed : {after : List ℕ} {last : ℕ} → BitsPlaced (made_at sh (bit_row (n - few)) next) between (j + few) after last → BitsPlaced (made_at sh (bit_row n) q) before j after last
      bits_placed u =
          let s = bit_sides in
          let l : length v.bools ≡ few = ap length (same_what v.there s.left_bits) ∙ s.few_bits in
          record {
            bools = g.what;
            there = g.there ∙ ap (λ e. some (g.what, e)) (same_end right_there u.there);
            wrote = wrote_same (wrote_then v.wrote u.wrote (ap (λ i. j + i) (sym l))) (ap₂ ◌++◌ (same_what v.there s.left_bits) (same_what u.there right_there) ∙ sym s.all);
          }

-- PARTS

module _ (k : Parts) (d : ℕ) (s : List ℕ) where
  pub skip_one : (n p : ℕ) → n ≡ 1 → after k d s p ≡ skip k d s n p
  unfolding skip
  skip_one n p z = rw z refl

-- the table tells where types and Variants stand
hops_skip : {d : ℕ} {s E : List ℕ} (i n p : ℕ) → i ≤ n → GivenParts Types d s E n p → hops E i p ≡ skip Types d s i p
unfolding hops skip after
hops_skip zero n p l g = refl
hops_skip {d} {s} {E} (suc i) zero p l g = absurd (omega arith)
hops_skip {d} {s} {E} (suc i) (suc n) p l g =
    ap (hops E i) (stands_end (g.each 0 (omega arith))) ∙ hops_skip i n (ending d s p) (omega arith) (record { each = λ j m. g.each (suc j) (omega arith) })

module _ {d : ℕ} {s E : List ℕ} {n p few : ℕ} (g : GivenParts Types d s E n p) (h : Shares n few) where
  pub given_hops : Hops E few p
  given_hops = let l = h.less in record { each = λ i m. rw (hops_skip i n p (omega arith) g) (stands_inside (g.each i (omega arith))) }

  pub hopped_given : {a : ℕ} → a ≡ hops E few p → GivenParts Types d s E (n - few) a
  hopped_given e = let l = h.less in right_given h g (e ∙ hops_skip few n p (omega arith) g)

-- PRODUCTS

-- nothing was written, and this is the place after it
abbrev nothing : ℕ → Written
nothing next = record { next = next; len = 0 }

-- and more bytes before it
abbrev longer : Written → ℕ → Written
longer w k = record { next = w.next; len = w.len + k }

-- the same, of what is the same
module _ {g b : Given (List Rec)} {out : List ℕ} (e : g ≡ b) where
  pub ready_as : Ready g out → Ready b out
  ready_as r = record { recs = r.recs; end = r.end; there = sym e ∙ r.there; room = r.room }

  pub placed_as : {o : List ℕ} {w : Written} → Placed b out o w → Placed g out o w
  placed_as v = record { recs = v.recs; there = e ∙ v.there; wrote = v.wrote }

module _ {g b : Given (ℕ × List Rec)} {out : List ℕ} (e : g ≡ b) where
  ready_numbered_as : ReadyNumbered b out → ReadyNumbered g out
  ready_numbered_as r = record { number = r.number; recs = r.recs; end = r.end; there = e ∙ r.there; room = r.room }

  placed_numbered_as : {i : ℕ} {o : List ℕ} {n : ℕ} {w : Written} → PlacedNumbered b i out o n w → PlacedNumbered g i out o n w
  placed_numbered_as v = record { number = v.number; recs = v.recs; there = e ∙ v.there; counted = v.counted; wrote = v.wrote }

module _ (k : Parts) (d : ℕ) (s sh : List ℕ) (n p q : ℕ) (out : List ℕ) (g : Ready (made_at sh (product k d s n p) q) out) where
  pub none_found : n ≡ 0 → Found (tree_at sh q)
  none_found z = let o = product_none k d s sh n p q g.recs g.end z g.there in record { what = o.tree; end = g.end; there = o.there }

  pub none_placed : {next : ℕ} → n ≡ 0 → Ends (tree_at sh q) next → Placed (made_at sh (product k d s n p) q) out out (nothing next)
  unfolding written
  none_placed z e = record { recs = []; there = none_product k d s sh n p q e.what _ z e.there; wrote = wrote_none out }

  pub one_ready : n ≡ 1 → Ready (standing sh d s p q) out
  one_ready z = ready_as (product_one k d s sh n p q z) g

  pub one_placed : {o : List ℕ} {w : Written} → n ≡ 1 → Placed (standing sh d s p q) out o w → Placed (made_at sh (product k d s n p) q) out o w
  one_placed z v = placed_as (product_one k d s sh n p q z) v

  module _ {few : ℕ} (h : Shares n few) where
    parts_sides : ProductSides k d s sh n few p q g.recs g.end
    parts_sides = let l = h.some in let m = h.less in product_sides k d s sh n few p q g.recs g.end (omega arith) h.split g.there

    parts_room : length (written (parts_sides.firsts ++ parts_sides.seconds)) ≤ length out
    parts_room = subst (λ rs. length (written rs) ≤ length out) parts_sides.all g.room

    pub parts_fit : length sh < 2 ^ 64 → Fits w64 (q + 1)
    parts_fit m = let l = parts_sides.inside in omega arith

    pub left_ready : Ready (made_at sh (product k d s few p) (q + 1)) out
    left_ready = let i = parts_sides in record { recs = i.firsts; end = i.mid; there = i.left_parts; room = first_room i.firsts i.seconds out parts_room }

    module _ {o : List ℕ} {w : Written} (v : Placed (made_at sh (product k d s few p) (q + 1)) out o w) where
      left_wrote : Wrote (written parts_sides.firsts) out o w.len
      left_wrote = subst (λ rs. Wrote (written rs) out o w.len) (same_what v.there parts_sides.left_parts) v.wrote

      pub left_fits : w.len ≤ length o
      left_fits = first_fits parts_sides.firsts parts_sides.seconds out parts_room left_wrote

      module _ {a : ℕ} (e : a ≡ skip k d s few p) where
        right_is : made_at sh (product k d s (n - few) a) w.next ≡ some (parts_sides.seconds, g.end)
        right_is = ap₂ (λ a q. made_at sh (product k d s (n - few) a) q) e (same_end v.there parts_sides.left_parts) ∙ parts_sides.right_parts

        pub right_ready : Ready (made_at sh (product k d s (n - few) a) w.next) (rest w.len o)
        right_ready = record { recs = parts_sides.seconds; end = g.end; there = right_is; room = second_room parts_sides.firsts parts_sides.seconds out parts_room left_wrote }

        module _ {x : List ℕ} {z : Written} (u : Placed (made_at sh (product k d s (n - few) a) w.next) (rest w.len o) x z) where
          right_wrote : Wrote (written parts_sides.seconds) (rest w.len o) x z.len
          right_wrote = subst (λ rs. Wrote (written rs) (rest w.len o) x z.len) (same_what u.there right_is) u.wrote

          pub sides_placed : Placed (made_at sh (product k d s n p) q) out (back w.len o x) (longer z w.len)
          sides_placed = record {
            recs = g.recs;
            there = g.there ∙ ap (λ e. some (g.recs, e)) (same_end right_is u.there);
            wrote = subst (λ rs. Wrote (written rs) out (back w.len o x) (z.len + w.len)) (sym parts_sides.all) (both_done parts_sides.firsts parts_sides.seconds out parts_room left_wrote right_wrote);
          }

          pub sides_small : z.len + w.len ≤ length out
          sides_small = both_small parts_sides.firsts parts_sides.seconds out parts_room left_wrote right_wrote

-- of which the length alone is told
pub placed_whole : {g : Given (List Rec)} {out o : List ℕ} {w : Written} → Placed g out o w → Whole g out o w.len
placed_whole {w = w} v = record { recs = v.recs; end = w.next; there = v.there; wrote = v.wrote }

-- the buffer is as long as it was
pub placed_length : {g : Given (List Rec)} {out o : List ℕ} {w : Written} → Ready g out → Placed g out o w → length o ≡ length out
placed_length {out = out} r v = wrote_length v.wrote (subst (λ rs. length (written rs) ≤ length out) (same_what r.there v.there) r.room)

pub numbered_length : {g : Given (ℕ × List Rec)} {i : ℕ} {out o : List ℕ} {n : ℕ} {w : Written} → ReadyNumbered g out → PlacedNumbered g i out o n w → length o ≡ length out
numbered_length {out = out} r v = wrote_length v.wrote (subst (λ y. length (written y.1) ≤ length out) (same_what r.there v.there) r.room)

-- SUMS

module _ (d : ℕ) (s E sh : List ℕ) (n p q : ℕ) (out : List ℕ) (g : ReadyNumbered (made_at sh (sum d s E n p) q) out) where
  only : n ≡ 1 → Only sh d s E p q g.number g.recs g.end
  only z = sum_one sh d s E n p q g.number g.recs g.end z g.there

  pub only_ready : n ≡ 1 → Ready (standing sh d s p q) out
  only_ready z = record { recs = g.recs; end = g.end; there = (only z).there; room = g.room }

  pub only_placed : (i : ℕ) {o : List ℕ} {w : Written} → n ≡ 1 → Placed (standing sh d s p q) out o w → PlacedNumbered (made_at sh (sum d s E n p) q) i out o i w
  only_placed i {o} {w} z v =
      let y = only z in
      let f = y.first in
      record {
        number = g.number;
        recs = g.recs;
        there = g.there ∙ ap (λ e. some ((g.number, g.recs), e)) (same_end y.there v.there);
        counted = omega arith;
        wrote = subst (λ rs. Wrote (written rs) out o w.len) (same_what v.there y.there) v.wrote;
      }

  module _ {few : ℕ} (h : Shares n few) where
    two_choices : 2 ≤ n
    two_choices = let l = h.some in let m = h.less in omega arith

    pub choice_inside : q < length sh
    choice_inside = sum_inside sh d s E n p q g.number g.recs g.end two_choices g.there

    pub choice_fits : length sh < 2 ^ 64 → Fits w64 (q + 1)
    choice_fits m = let l = choice_inside in omega arith

    module _ (t : get_or sh q 0 ≡ 1) where
      to_left : Leftwards sh d s E n few p q g.number g.recs g.end
      to_left = sum_left sh d s E n few p q g.number g.recs g.end two_choices h.split t g.there

      pub first_ready : ReadyNumbered (made_at sh (sum d s E few p) (q + 1)) out
      first_ready = record { number = g.number; recs = g.recs; end = g.end; there = to_left.below; room = g.room }

      pub first_placed : {i : ℕ} {o : List ℕ} {j : ℕ} {w : Written} → PlacedNumbered (made_at sh (sum d s E few p) (q + 1)) i out o j w → PlacedNumbered (made_at sh (sum d s E n p) q) i out o j w
      first_placed v =
          let w = same_what to_left.below v.there in
          record { number = v.number; recs = v.recs; there = g.there ∙ ap₂ (λ y e. some (y, e)) w (same_end to_left.below v.there); counted = v.counted; wrote = v.wrote }

    module _ (t : get_or sh q 0 ≡ 1 → ⊥) {a : ℕ} (e : a ≡ hops E few p) where
      to_right : Rightwards sh d s E n few p q g.number g.recs g.end
      to_right = sum_right sh d s E n few p q g.number g.recs g.end two_choices h.split t g.there

      right_below : made_at sh (sum d s E (n - few) a) (q + 1) ≡ some ((to_right.number, g.recs), g.end)
      right_below = ap (λ a. made_at sh (sum d s E (n - few) a) (q + 1)) e ∙ to_right.below

      pub others_ready : ReadyNumbered (made_at sh (sum d s E (n - few) a) (q + 1)) out
      others_ready = record { number = to_right.number; recs = g.recs; end = g.end; there = right_below; room = g.room }

      pub others_placed : {i : ℕ} {o : List ℕ} {j : ℕ} {w : Written} → PlacedNumbered (made_at sh (sum d s E (n - few) a) (q + 1)) (i + few) out o j w → PlacedNumbered (made_at sh (sum d s E n p) q) i out o j w
      others_placed {i} {o} {j} {w} v =
          let z = same_what right_below v.there in
          let f = ap (λ (y : ℕ × List Rec). y.0) z in
          let m = to_right.moved in
          let c = v.counted in
          record {
            number = g.number;
            recs = g.recs;
            there = g.there ∙ ap (λ e. some ((g.number, g.recs), e)) (same_end right_below v.there);
            counted = omega arith;
            wrote = subst (λ (y : ℕ × List Rec). Wrote (written y.1) out o w.len) (sym z) v.wrote;
          }

-- BLOCKS

module _ (d : ℕ) (s sh : List ℕ) (n p q : ℕ) (out : List ℕ) (g : ReadyNumbered (made_at sh (blocked d s n p) q) out) where
  in_held : Held sh d s n p q g.number g.recs g.end
  in_held = block_held sh d s n p q g.number g.recs g.end g.there

  block_starts : q < length sh
  block_starts = in_held.inside

  block_fits : length sh < 2 ^ 64 → Fits w64 (q + 1)
  block_fits m = let l = block_starts in omega arith

  module _ {m : ℕ} (e : m ≡ held (get_or sh q 0) n) where
    held_is : made_at sh (product Copies d s m p) (q + 1) ≡ some (g.recs, g.end)
    held_is = ap (λ j. made_at sh (product Copies d s j p) (q + 1)) (e ∙ in_held.number) ∙ in_held.below

    held_ready : Ready (made_at sh (product Copies d s m p) (q + 1)) out
    held_ready = record { recs = g.recs; end = g.end; there = held_is; room = g.room }

    held_placed : {o : List ℕ} {w : Written} → Placed (made_at sh (product Copies d s m p) (q + 1)) out o w → PlacedNumbered (made_at sh (blocked d s n p) q) 0 out o m w
    held_placed {o} {w} v = record {
      number = g.number;
      recs = g.recs;
      there = g.there ∙ ap (λ e. some ((g.number, g.recs), e)) (same_end held_is v.there);
      counted = let a = e ∙ in_held.number in omega arith;
      wrote = subst (λ rs. Wrote (written rs) out o w.len) (same_what v.there held_is) v.wrote;
    }

-- no block holds more than all its elements
held_few : (side n : ℕ) {m : ℕ} → m ≡ held side n → m ≤ n
unfolding held
held_few side n {m} e = go (eqb side 1) e
  where
    go : (c : Bool) → m ≡ pick c 0 n → m ≤ n
    go true h = omega arith
    go false h = omega arith

-- none with a left, else all
held_none : (side n : ℕ) → side ≡ 1 → 0 ≡ held side n
unfolding held
held_none side n e = rw (eq-eqb side 1 e) refl

held_all : (side n : ℕ) → (side ≡ 1 → ⊥) → n ≡ held side n
unfolding held
held_all side n e = rw (ne_eqb side 1 e) refl

-- LISTS

module _ (d : ℕ) (s sh : List ℕ) (b : NonZeroPow2Usize) (p q : ℕ) (out : List ℕ) (g : ReadyNumbered (made_at sh (elements d s b p) q) out) {x : Optional NonZeroPow2Usize} (k : x ≡ half_bound b) where
  -- with the bound 2, none or one
  module _ (t : x ≡ None) where
    as_block : made_at sh (elements d s b p) q ≡ made_at sh (blocked d s 1 p) q
    as_block = list_two sh d s p q b (sym t ∙ k)

    two_ready : ReadyNumbered (made_at sh (blocked d s 1 p) q) out
    two_ready = ready_numbered_as (sym as_block) g

    pub two_inside : q < length sh
    two_inside = block_starts d s sh 1 p q out two_ready

    pub two_fits : length sh < 2 ^ 64 → Fits w64 (q + 1)
    two_fits a = block_fits d s sh 1 p q out two_ready a

    module _ (e : get_or sh q 0 ≡ 1) where
      none_ready : Ready (made_at sh (product Copies d s 0 p) (q + 1)) out
      none_ready = held_ready d s sh 1 p q out two_ready (held_none _ 1 e)

      pub absent_found : Found (tree_at sh (q + 1))
      absent_found = none_found Copies d s sh 0 p (q + 1) out none_ready refl

      pub absent_placed : {next : ℕ} → Ends (tree_at sh (q + 1)) next → PlacedNumbered (made_at sh (elements d s b p) q) 0 out out 0 (nothing next)
      absent_placed a = placed_numbered_as as_block (held_placed d s sh 1 p q out two_ready (held_none _ 1 e) (none_placed Copies d s sh 0 p (q + 1) out none_ready refl a))

    module _ (e : get_or sh q 0 ≡ 1 → ⊥) where
      pub present_ready : Ready (standing sh d s p (q + 1)) out
      present_ready = one_ready Copies d s sh 1 p (q + 1) out (held_ready d s sh 1 p q out two_ready (held_all _ 1 e)) refl

      pub present_placed : {o : List ℕ} {w : Written} → Placed (standing sh d s p (q + 1)) out o w → PlacedNumbered (made_at sh (elements d s b p) q) 0 out o 1 w
      present_placed v = placed_numbered_as as_block (held_placed d s sh 1 p q out two_ready (held_all _ 1 e) (one_placed Copies d s sh 1 p (q + 1) out (held_ready d s sh 1 p q out two_ready (held_all _ 1 e)) refl v))

  -- with a larger one, a block of m, half the bound, and a list with that bound
  module _ {h : NonZeroPow2Usize} (t : x ≡ Some h) where
    pub halves : Halves sh d s b h p q g.number g.recs g.end
    halves = list_more sh d s p q g.number g.recs g.end (sym t ∙ k) g.there

    halves_room : length (written (halves.firsts ++ halves.seconds)) ≤ length out
    halves_room = subst (λ rs. length (written rs) ≤ length out) halves.all g.room

    pub front_fits : length sh < 2 ^ 64 → Fits w64 (q + 1)
    front_fits a = let l = halves.inside in omega arith

    module _ {m : ℕ} (e : m ≡ h.value) where
      block_is : made_at sh (blocked d s m p) (q + 1) ≡ some ((halves.first, halves.firsts), halves.mid)
      block_is = ap (λ n. made_at sh (blocked d s n p) (q + 1)) e ∙ halves.block_there

      block_ready : ReadyNumbered (made_at sh (blocked d s m p) (q + 1)) out
      block_ready = record { number = halves.first; recs = halves.firsts; end = halves.mid; there = block_is; room = first_room halves.firsts halves.seconds out halves_room }

      pub front_inside : q + 1 < length sh
      front_inside = block_starts d s sh m p (q + 1) out block_ready

      pub elements_fit : length sh < 2 ^ 64 → Fits w64 (q + 1 + 1)
      elements_fit a = block_fits d s sh m p (q + 1) out block_ready a

      -- of which n are held
      module _ {n : ℕ} (c : n ≡ held (get_or sh (q + 1) 0) m) where
        pub front_few : n < b.value
        front_few = let a = held_few (get_or sh (q + 1) 0) m c in let j = halves.less in omega arith

        pub elements_ready : Ready (made_at sh (product Copies d s n p) (q + 1 + 1)) out
        elements_ready = held_ready d s sh m p (q + 1) out block_ready c

        module _ {o : List ℕ} {l : Written} (a : Placed (made_at sh (product Copies d s n p) (q + 1 + 1)) out o l) where
          block_placed : PlacedNumbered (made_at sh (blocked d s m p) (q + 1)) 0 out o n l
          block_placed = held_placed d s sh m p (q + 1) out block_ready c a

          block_wrote : Wrote (written halves.firsts) out o l.len
          block_wrote = subst (λ (y : ℕ × List Rec). Wrote (written y.1) out o l.len) (same_what block_placed.there block_is) block_placed.wrote

          pub elements_end : l.len ≤ length o
          elements_end = first_fits halves.firsts halves.seconds out halves_room block_wrote

          list_is : made_at sh (elements d s h p) l.next ≡ some ((halves.second, halves.seconds), g.end)
          list_is = ap (made_at sh (elements d s h p)) (same_end block_placed.there block_is) ∙ halves.list_there

          pub rest_ready : ReadyNumbered (made_at sh (elements d s h p) l.next) (rest l.len o)
          rest_ready = record { number = halves.second; recs = halves.seconds; end = g.end; there = list_is; room = second_room halves.firsts halves.seconds out halves_room block_wrote }

          module _ {y : List ℕ} {j : ℕ} {r : Written} (u : PlacedNumbered (made_at sh (elements d s h p) l.next) 0 (rest l.len o) y j r) where
            list_wrote : Wrote (written halves.seconds) (rest l.len o) y r.len
            list_wrote = subst (λ (z : ℕ × List Rec). Wrote (written z.1) (rest l.len o) y r.len) (same_what u.there list_is) u.wrote

            all_counted : j + n ≡ g.number
            all_counted =
                let v = block_placed.counted in
                let z = u.counted in
                let i = ap (λ (y : ℕ × List Rec). y.0) (same_what block_placed.there block_is) in
                let w = ap (λ (y : ℕ × List Rec). y.0) (same_what u.there list_is) in
                let m = halves.number in
                omega arith

            pub rest_placed : PlacedNumbered (made_at sh (elements d s b p) q) 0 out (back l.len o y) (j + n) (longer r l.len)
            rest_placed =
                let m = all_counted in
                record {
                  number = g.number;
                  recs = g.recs;
                  there = g.there ∙ ap (λ e. some ((g.number, g.recs), e)) (same_end list_is u.there);
                  counted = omega arith;
                  wrote = subst (λ rs. Wrote (written rs) out (back l.len o y) (r.len + l.len)) (sym halves.all) (both_done halves.firsts halves.seconds out halves_room block_wrote list_wrote);
                }

            pub rest_small : r.len + l.len ≤ length out
            rest_small = both_small halves.firsts halves.seconds out halves_room block_wrote list_wrote

            pub count_small : j + n < b.value
            count_small = let m = all_counted in let o = made_of sh (elements d s b p) q ((g.number, g.recs), g.end) g.there in omega (arith, elements_below d s b p o.tree (g.number, g.recs) o.made)

-- A RECORD AND WHAT STANDS BELOW IT

-- g is r, and behind it what b has
pub record Under (r : Rec) (b g : Given (List Rec)) (out : List ℕ) : Type 0 where
  pub recs : List Rec
  pub end : ℕ
  pub below : b ≡ some (recs, end)
  pub all : g ≡ some (r ∷ recs, end)
  pub room : length (written (r ∷ recs)) ≤ length out

pub under : (r : Rec) (sh : List ℕ) (d : ℕ) (s : List ℕ) (p q : ℕ) (f : SValue → Option (List Rec)) {out : List ℕ} → Ready (standing sh d s p q) out → ((x : SValue) → part d s p x ≡ map_o (λ rs. r ∷ rs) (f x)) → Under r (made_at sh f q) (standing sh d s p q) out
unfolding standing
under r sh d s p q f {out} h e =
    let (y, i, k) = map_o_some _ (made_at sh f q) (h.recs, h.end) (sym (made_as sh (part d s p) f (λ rs. r ∷ rs) q e) ∙ h.there) in
    record { recs = y.0; end = y.1; below = i; all = h.there ∙ ap some (sym k); room = subst (λ (z : List Rec × ℕ). length (written z.0) ≤ length out) (sym k) h.room }

module _ {r : Rec} {b g : Given (List Rec)} {out : List ℕ} (u : Under r b g out) where
  pub under_start : 36 ≤ length out
  under_start = record_room r u.recs out u.room

  pub under_ready : Ready b (rest 36 out)
  under_ready = record { recs = u.recs; end = u.end; there = u.below; room = below_room r u.recs out u.room }

  module _ {p : List ℕ} {w : Written} (v : Placed b (rest 36 out) p w) where
    under_wrote : Wrote (written u.recs) (rest 36 out) p w.len
    under_wrote = subst (λ rs. Wrote (written rs) (rest 36 out) p w.len) (same_what v.there u.below) v.wrote

    pub under_back : 36 ≤ length (back 36 out p)
    under_back = let l = under_start in omega (arith, below_length r u.recs out u.room under_wrote)

    pub under_small : w.len + 36 ≤ length out
    under_small = record_small r u.recs out u.room under_wrote

    pub under_placed : {o : List ℕ} → o ≡ put (bytes r) (back 36 out p) → Placed g out o (longer w 36)
    under_placed {o} e = record { recs = r ∷ u.recs; there = u.all ∙ ap (λ i. some (r ∷ u.recs, i)) (same_end u.below v.there); wrote = record_done r u.recs out u.room under_wrote o e }

-- the number of what has one, left out
abbrev plain : Given (ℕ × List Rec) → Given (List Rec)
plain b = map_o (λ y. (y.0.1, y.1)) b

-- likewise where r is told by the number
pub record UnderNumbered (f : ℕ → Rec) (b : Given (ℕ × List Rec)) (g : Given (List Rec)) (out : List ℕ) : Type 0 where
  pub number : ℕ
  pub recs : List Rec
  pub end : ℕ
  pub below : b ≡ some ((number, recs), end)
  pub all : g ≡ some (f number ∷ recs, end)
  pub room : length (written (f number ∷ recs)) ≤ length out

pub under_numbered : (m : ℕ → Rec) (sh : List ℕ) (d : ℕ) (s : List ℕ) (p q : ℕ) (f : SValue → Option (ℕ × List Rec)) {out : List ℕ} → Ready (standing sh d s p q) out → ((x : SValue) → part d s p x ≡ map_o (λ y. m y.0 ∷ y.1) (f x)) → UnderNumbered m (made_at sh f q) (standing sh d s p q) out
unfolding standing
under_numbered m sh d s p q f {out} h e =
    let (y, i, k) = map_o_some _ (made_at sh f q) (h.recs, h.end) (sym (made_as sh (part d s p) f (λ y. m y.0 ∷ y.1) q e) ∙ h.there) in
    record { number = y.0.0; recs = y.0.1; end = y.1; below = i; all = h.there ∙ ap some (sym k); room = subst (λ (z : List Rec × ℕ). length (written z.0) ≤ length out) (sym k) h.room }

module _ {f : ℕ → Rec} {b : Given (ℕ × List Rec)} {g : Given (List Rec)} {out : List ℕ} (u : UnderNumbered f b g out) where
  as_under : Under (f u.number) (plain b) g out
  as_under = record { recs = u.recs; end = u.end; below = ap plain u.below; all = u.all; room = u.room }

  pub numbered_start : 36 ≤ length out
  numbered_start = under_start as_under

  pub numbered_ready : ReadyNumbered b (rest 36 out)
  numbered_ready = record { number = u.number; recs = u.recs; end = u.end; there = u.below; room = below_room (f u.number) u.recs out u.room }

  module _ {p : List ℕ} {n : ℕ} {w : Written} (v : PlacedNumbered b 0 (rest 36 out) p n w) where
    as_placed : Placed (plain b) (rest 36 out) p w
    as_placed = record { recs = v.recs; there = ap plain v.there; wrote = v.wrote }

    numbered_is : n ≡ u.number
    numbered_is = let c = v.counted in let e = ap (λ (y : ℕ × List Rec). y.0) (same_what v.there u.below) in omega arith

    pub numbered_back : 36 ≤ length (back 36 out p)
    numbered_back = under_back as_under as_placed

    pub numbered_small : w.len + 36 ≤ length out
    numbered_small = under_small as_under as_placed

    pub numbered_placed : {o : List ℕ} → o ≡ put (bytes (f n)) (back 36 out p) → Placed g out o (longer w 36)
    numbered_placed {o} e = under_placed as_under as_placed (e ∙ ap (λ i. put (bytes (f i)) (back 36 out p)) numbered_is)

-- A BIT'S RECORD AND AN INTEGER'S

no_form : {A : Type 0} → ◌≡◌ {A = ℕ} 0 1 → A
no_form z = absurd (omega arith)

-- the number of a side: 1 for a right
abbrev side_number : ℕ → ℕ
side_number side = from_bool (eqb side 2)

-- the bit at a place, and its record
record BitThere (sh : List ℕ) (q : ℕ) (rs : List Rec) (e : ℕ) : Type 0 where
  value : Bool
  bit : Bit sh q value e
  same : rs ≡ rec 1 (side_number (get_or sh q 0)) 0 0 ∷ []

bit_small : (b : Bool) → from_bool b ≤ 1
bit_small false = omega arith
bit_small true = omega arith

as_number : (b : Bool) → bit_number b ≡ from_bool b
as_number false = refl
as_number true = refl

-- the record of a bit, by its form
bit_mark : (h : Head) (i : ℕ) → form.Bit ≡ form_of h → (mark_of h i ≡ rec 1 i 0 0) × (i < 256 → Marks h i)
bit_mark Missing i e = no_form cc
bit_mark Faulty i e = no_form cc
bit_mark Never i e = no_form cc
bit_mark Boolean i e = (refl, λ l. l)
bit_mark (UInt w) i e = no_form cc
bit_mark Either i e = no_form cc
bit_mark Opt i e = no_form cc
bit_mark (Tuple n) i e = no_form cc
bit_mark (Array n) i e = no_form cc
bit_mark (Listed b) i e = no_form cc
bit_mark (Variants n) i e = no_form cc
bit_mark (head.Payload n) i e = no_form cc

-- and of an integer
integer_mark : (h : Head) (w : ℕ) → form.Integer w ≡ form_of h → (mark_of h 0 ≡ rec 2 0 w 0) × Marks h 0
integer_mark Missing w e = no_form cc
integer_mark Faulty w e = no_form cc
integer_mark Never w e = no_form cc
integer_mark Boolean w e = no_form cc
integer_mark (UInt v) w e = let i : w ≡ v.value = cc in (ap (λ i. rec 2 0 i 0) (sym i), tt)
integer_mark Either w e = no_form cc
integer_mark Opt w e = no_form cc
integer_mark (Tuple n) w e = no_form cc
integer_mark (Array n) w e = no_form cc
integer_mark (Listed b) w e = no_form cc
integer_mark (Variants n) w e = no_form cc
integer_mark (head.Payload n) w e = no_form cc

alone_room : {g : Given (List Rec)} {out : List ℕ} (r : Rec) (e : ℕ) → Ready g out → g ≡ some (r ∷ [], e) → 36 ≤ length out
alone_room {out = out} r e h k = record_room r [] out (subst (λ rs. length (written rs) ≤ length out) (same_what h.there k) h.room)

module _ (d : ℕ) (s sh : List ℕ) (p q : ℕ) (out : List ℕ) (g : Ready (standing sh d s p q) out) where
  tree_there : MadeOf sh (part d s p) q (g.recs, g.end)
  unfolding standing
  tree_there = made_of sh (part d s p) q (g.recs, g.end) g.there

  pub nothing_there : NothingRead d s p → ⊥
  nothing_there n = none-ne-some g.recs (sym (n.same tree_there.tree) ∙ tree_there.made)

  pub payload_is : {n : ℕ} {E : List ℕ} → PayloadRead n d s E p → standing sh d s p q ≡ made_at sh (product Types (d - 1) s n (p + 1)) q
  unfolding standing
  payload_is {n} b = made_same sh (part d s p) (product Types (d - 1) s n (p + 1)) q b.same

  module _ (b : BitRead d s p) where
    bit_there : BitThere sh q g.recs g.end
    bit_there =
        let m = tree_there in
        let (x, f, k) = map_o_some _ (as_bit m.tree) g.recs (sym (b.same m.tree) ∙ m.made) in
        let c = bit_at m.tree m.stood f in
        let n : bit_number x ≡ side_number (get_or sh q 0) = as_number x ∙ ap from_bool (sym (right_bit x c.side)) in
        record { value = x; bit = c; same = sym k ∙ ap (λ i. rec 1 i 0 0 ∷ []) n }

    pub side_inside : q + 1 < length sh
    side_inside = bit_there.bit.inside

    bit_is : standing sh d s p q ≡ some (rec 1 (side_number (get_or sh q 0)) 0 0 ∷ [], q + 2)
    bit_is = g.there ∙ ap₂ (λ rs e. some (rs, e)) bit_there.same bit_there.bit.end

    pub bit_room : 36 ≤ length out
    bit_room = alone_room (rec 1 (side_number (get_or sh q 0)) 0 0) (q + 2) g bit_is

    module _ (h : Head) (r : Form) (e : r ≡ form_of h) (t : r ≡ form.Bit) where
      pub bit_marks : Marks h (side_number (get_or sh q 0))
      bit_marks = let l = bit_small (eqb (get_or sh q 0) 2) in (bit_mark h (side_number (get_or sh q 0)) (sym t ∙ e)).1 (omega arith)

      pub bit_done : {o : List ℕ} → o ≡ put (bytes (mark_of h (side_number (get_or sh q 0)))) out → Placed (standing sh d s p q) out o (record { next = q + 2; len = 36 })
      bit_done {o} f = record { recs = rec 1 (side_number (get_or sh q 0)) 0 0 ∷ []; there = bit_is; wrote = record_alone (rec 1 (side_number (get_or sh q 0)) 0 0) out o (f ∙ ap (λ r. put (bytes r) out) (bit_mark h (side_number (get_or sh q 0)) (sym t ∙ e)).0) }

  module _ {w : ℕ} (b : IntegerRead w d s p) where
    integer_same : standing sh d s p q ≡ map_o (λ y. (rec 2 0 w (of_bits y.0) ∷ [], y.1)) (made_at sh (bit_row w) q)
    unfolding standing
    integer_same = made_as sh (part d s p) (bit_row w) (λ bs. rec 2 0 w (of_bits bs) ∷ []) q b.same

    pub integer_found : Found (made_at sh (bit_row w) q)
    integer_found = let (y, f, k) = map_o_some _ (made_at sh (bit_row w) q) (g.recs, g.end) (sym integer_same ∙ g.there) in record { what = y.0; end = y.1; there = f }

    integer_is : (bs : List Bool) (n : ℕ) → made_at sh (bit_row w) q ≡ some (bs, n) → standing sh d s p q ≡ some (rec 2 0 w (of_bits bs) ∷ [], n)
    integer_is bs n f = integer_same ∙ ap (map_o (λ (y : List Bool × ℕ). (rec 2 0 w (of_bits y.0) ∷ [], y.1))) f

    pub integer_room : 36 ≤ length out
    integer_room = let i = integer_found in alone_room (rec 2 0 w (of_bits i.what)) i.end g (integer_is i.what i.end i.there)

    module _ (h : Head) (r : Form) (e : r ≡ form_of h) (t : r ≡ form.Integer w) where
      pub integer_marks : Marks h 0
      integer_marks = (integer_mark h w (sym t ∙ e)).1

      pub integer_done : {o x : List ℕ} {next : ℕ} → o ≡ put (bytes (mark_of h 0)) out → IntegerPlaced (made_at sh (bit_row w) q) x next → Placed (standing sh d s p q) out (returned o x) (record { next = next; len = 36 })
      integer_done {o} {x} {next} f v = record {
        recs = rec 2 0 w (of_bits v.bools) ∷ [];
        there = integer_is v.bools next v.there;
        wrote = record_alone (rec 2 0 w (of_bits v.bools)) out (returned o x) (integer_put w (of_bits v.bools) out o x (f ∙ ap (λ r. put (bytes r) out) (integer_mark h w (sym t ∙ e)).0) v.same);
      }

-- the choice that was written is one of them, and the elements are fewer than the bound
pub choice_below : {m : ℕ → Rec} (sh : List ℕ) (d : ℕ) (s E : List ℕ) (n p q : ℕ) {g : Given (List Rec)} {out x : List ℕ} {i : ℕ} {w : Written} (u : UnderNumbered m (made_at sh (sum d s E n p) q) g out) → 1 ≤ n → PlacedNumbered (made_at sh (sum d s E n p) q) 0 (rest 36 out) x i w → i < n
choice_below sh d s E n p q u l v =
    let o = made_of sh (sum d s E n p) q ((u.number, u.recs), u.end) u.below in
    omega (arith, numbered_is u v, sum_below d s E n p o.tree (u.number, u.recs) l o.made)

pub count_below : {m : ℕ → Rec} (sh : List ℕ) (d : ℕ) (s : List ℕ) (b : NonZeroPow2Usize) (p q : ℕ) {g : Given (List Rec)} {out x : List ℕ} {i : ℕ} {w : Written} (u : UnderNumbered m (made_at sh (elements d s b p) q) g out) → PlacedNumbered (made_at sh (elements d s b p) q) 0 (rest 36 out) x i w → i < b.value
count_below sh d s b p q u v =
    let o = made_of sh (elements d s b p) q ((u.number, u.recs), u.end) u.below in
    omega (arith, numbered_is u v, elements_below d s b p o.tree (u.number, u.recs) o.made)
