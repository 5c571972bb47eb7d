-- The steps of the writers, in the form in which the code's needs ask them.
use mathlib.Core.Path.{◌≡◌, refl, sym, ap, ap₂, subst, ◌∙◌}
use mathlib.Core.Bool.{Bool, true, false}
use mathlib.Core.List.{List, [], ◌∷◌, ◌++◌, append-nil, append_assoc}
use mathlib.Core.Option.{Option, none, some, some-injective, none-ne-some}
use Prim.Native.Nat.{ℕ, suc, ◌+◌, ◌-◌, ◌*◌, ◌^◌, ◌≤◌, ◌<◌}
use native.Mathlib.Omega.{arith}
use lib.ListN.{length, get_or}
use Rattle.std.specs.Int.{from_bool}
use Rattle.std.specs.Prelude.{Option as Optional, Some}
use Rattle.num.specs.declared.NonZeroPow2Usize.{NonZeroPow2Usize}
use Rattle.num.specs.Powers.{half_bound}
use Rattle.told.specs.Widths.{Wide}
use Rattle.model.specs.Options.{map_o}
use Rattle.model.specs.Bytes.{in_bytes}
use Rattle.model.specs.Structural.{SType, block_type}
use Rattle.model.specs.ValueFiles.{Rec, rec, bit_number}
use Rattle.model.specs.Frames.{width}
use Rattle.model.proofs.Laws.Options.{bind_o_some, map_o_some}
use Rattle.model.proofs.Laws.Sizes.{width_block}
use Rattle.structural.specs.Forms.{Stands}
use Rattle.structural.specs.Forms as structural
use Rattle.structural.specs.Writing.{put, Wrote}
use Rattle.structural.proofs.Laws.Writing.{rest, back, wrote_none, wrote_length}
use Rattle.bits.specs.Bits.{Inside}
use Rattle.types.specs.declared.forms.Parts.{Parts}
use Rattle.types.specs.declared.forms.Parts.TheVariants.{Copies}
use Rattle.told.specs.Forms.{GivenParts, after}
use Rattle.told.specs.Laws.Trees.{given_one}
use Rattle.record.specs.Marks.{bytes, written}
use Rattle.record.specs.Trees.{numbered}
use Rattle.accept.specs.Forms.{tag_at, row_width}
use Rattle.accept.specs.Laws.Walking.{given_rest, row_wide}
use Rattle.unframe.specs.declared.Numbered.{Numbered}
use Rattle.unframe.specs.Forms.{standing, both, row, block, both_numbered, listed, Ready, ReadyNumbered, Placed, PlacedNumbered}
use Rattle.unframe.specs.Laws.Formed.{Marked, Counted}
use Rattle.unframe.specs.Laws.Lists.{row_one, block_none, block_all, Two, Halved, list_more}
use Rattle.record.specs.Laws.Writing.{first_room, first_fits, second_room, both_done, both_small, record_room, below_room, below_length, record_small, record_done, record_alone, returned, integer_put}

-- WHAT IS THERE IS ONE THING

module _ {o : Option (List Rec)} where
  same_recs : {rs ss : List Rec} → o ≡ some rs → o ≡ some ss → rs ≡ ss
  same_recs e f = some-injective _ _ (sym e ∙ f)

  room_of : {out : List ℕ} {rs : List Rec} (r : Ready o out) → o ≡ some rs → length (written rs) ≤ length out
  room_of {out} r e = subst (λ rs. length (written rs) ≤ length out) (same_recs r.there e) r.room

-- nothing is there where nothing is a value
pub nothing_there : {o : Option (List Rec)} {out : List ℕ} → o ≡ none → Ready o out → ⊥
nothing_there e r = none-ne-some r.recs (sym e ∙ r.there)

pub ready_as : {o u : Option (List Rec)} {out : List ℕ} → o ≡ u → Ready o out → Ready u out
ready_as e r = record { recs = r.recs; there = sym e ∙ r.there; room = r.room }

pub placed_as : {o u : Option (List Rec)} {out l : List ℕ} {k : ℕ} → o ≡ u → Placed u out l k → Placed o out l k
placed_as e v = record { recs = v.recs; there = e ∙ v.there; wrote = v.wrote }

-- ONE RECORD

module _ {o : Option (List Rec)} {m : Rec} (e : o ≡ some (m ∷ [])) {out : List ℕ} (r : Ready o out) where
  pub one_room : 36 ≤ length out
  one_room = record_room m [] out (room_of r e)

  pub one_placed : {l : List ℕ} → l ≡ put (bytes m) out → Placed o out l 36
  one_placed {l} w = record { recs = m ∷ []; there = e; wrote = record_alone m out l w }

-- a bit as a number
pub bit_number_is : {b c : Bool} {n : ℕ} → n ≡ from_bool b → b ≡ c → n ≡ bit_number c
bit_number_is {c = c} e f = e ∙ ap from_bool f ∙ same c
  where
    same : (b : Bool) → from_bool b ≡ bit_number b
    same true = refl
    same false = refl

pub bit_below : (b : Bool) → bit_number b < 2
bit_below true = omega arith
bit_below false = omega arith

-- A RECORD BEFORE OTHERS

module _ {g o : Option (List Rec)} {m : Rec} (e : Marked m g o) {out : List ℕ} (r : Ready g out) where
  behind : (rs : List Rec) × (o ≡ some rs) × (m ∷ rs ≡ r.recs)
  behind = map_o_some (λ rs. m ∷ rs) o r.recs (sym e.same ∙ r.there)

  room : length (written (m ∷ behind.0)) ≤ length out
  room = subst (λ rs. length (written rs) ≤ length out) (sym behind.2) r.room

  pub marked_room : 36 ≤ length out
  marked_room = record_room m behind.0 out room

  pub marked_ready : Ready o (rest 36 out)
  marked_ready = record { recs = behind.0; there = behind.1; room = below_room m behind.0 out room }

  module _ {q : List ℕ} {k : ℕ} (v : Placed o (rest 36 out) q k) where
    wrote : Wrote (written behind.0) (rest 36 out) q k
    wrote = subst (λ rs. Wrote (written rs) (rest 36 out) q k) (same_recs v.there behind.1) v.wrote

    pub marked_length : length (back 36 out q) ≡ length out
    marked_length = below_length m behind.0 out room wrote

    pub marked_small : k + 36 ≤ length out
    marked_small = record_small m behind.0 out room wrote

    pub marked_placed : {l : List ℕ} → l ≡ put (bytes m) (back 36 out q) → Placed g out l (k + 36)
    marked_placed {l} w = record { recs = m ∷ behind.0; there = e.same ∙ ap (map_o (λ rs. m ∷ rs)) behind.1; wrote = record_done m behind.0 out room wrote l w }

-- a record before elements, which says their number
module _ {g : Option (List Rec)} {o : Option (ℕ × List Rec)} {f : ℕ → Rec} (e : Counted f g o) {out : List ℕ} (r : Ready g out) where
  found : (y : ℕ × List Rec) × (o ≡ some y) × (f y.0 ∷ y.1 ≡ r.recs)
  found = map_o_some (λ y. f y.0 ∷ y.1) o r.recs (sym e.same ∙ r.there)

  before : Marked (f found.0.0) g (some found.0.1)
  before = record { same = e.same ∙ ap (map_o (λ y. f y.0 ∷ y.1)) found.1 }

  pub numbered_room : 36 ≤ length out
  numbered_room = marked_room before r

  pub numbered_ready : ReadyNumbered o (rest 36 out)
  numbered_ready = record { number = found.0.0; recs = found.0.1; there = found.1; room = room_of (marked_ready before r) refl }

  module _ {q : List ℕ} {n : Numbered} (v : PlacedNumbered o (rest 36 out) q n) where
    beyond : Marked (f n.number) g (some v.recs)
    beyond = record { same = e.same ∙ ap (map_o (λ y. f y.0 ∷ y.1)) v.there }

    those : Placed (some v.recs) (rest 36 out) q n.len
    those = record { recs = v.recs; there = refl; wrote = v.wrote }

    pub numbered_length : length (back 36 out q) ≡ length out
    numbered_length = marked_length beyond r those

    pub numbered_small : n.len + 36 ≤ length out
    numbered_small = marked_small beyond r those

    pub numbered_placed : {l : List ℕ} → l ≡ put (bytes (f n.number)) (back 36 out q) → Placed g out l (n.len + 36)
    numbered_placed w = marked_placed beyond r those w

-- PARTS IN A ROW

-- n parts are being written: those before `place` are, and `left` are not
pub record Rowing (k : Parts) (d : ℕ) (s E : List ℕ) (n p : ℕ) (fr : List ℕ) (bit : ℕ) (before : List ℕ) (place here len left : ℕ) (out : List ℕ) : Type 0 where
  pub given : GivenParts k d s E left place
  pub inside : (here + row_width k d s left place ≤ 8 * length fr) × (here + row_width k d s left place < 2 ^ 64)
  pub done : List Rec
  pub others : List Rec
  pub there : row k d s left place fr here ≡ some others
  pub all : row k d s n p fr bit ≡ some (done ++ others)
  pub room : length (written (done ++ others)) ≤ length before
  pub wrote : Wrote (written done) before out len

pub rowing_start : {k : Parts} {d : ℕ} {s E : List ℕ} {n p : ℕ} (fr : List ℕ) (bit : ℕ) {out : List ℕ} {left : ℕ} → left ≡ n → GivenParts k d s E n p → Inside fr bit (row_width k d s n p) → Ready (row k d s n p fr bit) out → Rowing k d s E n p fr bit out p bit 0 left out
unfolding written
rowing_start fr bit {out} e g i r = rw e (record { given = g; inside = i; done = []; others = r.recs; there = r.there; all = r.there; room = r.room; wrote = wrote_none out })

module _ {k : Parts} {d : ℕ} {s E : List ℕ} {n p : ℕ} {fr : List ℕ} {bit : ℕ} {before : List ℕ} {place here len left : ℕ} {out : List ℕ} (r : Rowing k d s E n p fr bit before place here len left out) where
  pub rowing_length : length out ≡ length before
  rowing_length = wrote_length r.wrote (first_room r.done r.others before r.room)

  pub rowing_fits : len ≤ length out
  rowing_fits = first_fits r.done r.others before r.room r.wrote

  pub rowing_end : left ≤ 0 → Placed (row k d s n p fr bit) before out len
  unfolding row
  rowing_end z =
      let y : left ≡ 0 = omega arith in
      let e : [] ≡ r.others = some-injective _ _ (sym (ap (λ m. row k d s m place fr here) y) ∙ r.there) in
      record { recs = r.done; there = r.all ∙ ap some (ap (λ l. r.done ++ l) (sym e) ∙ append-nil r.done); wrote = r.wrote }

  module _ (z : 0 < left) where
    pub rowing_stands : Stands d s E place
    rowing_stands = given_one r.given z

    one_more : row k d s left place fr here ≡ both (standing d s place fr here) (row k d s (left - 1) (after k d s place) fr (here + width (structural.standing d s place)))
    unfolding row
    one_more = let e : left ≡ suc (left - 1) = omega arith in ap (λ m. row k d s m place fr here) e

    pub rowing_inside : Inside fr here (width (structural.standing d s place))
    rowing_inside = let e = row_wide k d s left place z in let (a, b) = r.inside in (omega arith, omega arith)

    first_of : (rs : List Rec) × (standing d s place fr here ≡ some rs) × (map_o (λ ys. rs ++ ys) (row k d s (left - 1) (after k d s place) fr (here + width (structural.standing d s place))) ≡ some r.others)
    first_of = bind_o_some (standing d s place fr here) _ r.others (sym one_more ∙ r.there)

    others_of : (ys : List Rec) × (row k d s (left - 1) (after k d s place) fr (here + width (structural.standing d s place)) ≡ some ys) × (first_of.0 ++ ys ≡ r.others)
    others_of = map_o_some (λ ys. first_of.0 ++ ys) _ r.others first_of.2

    split : (r.done ++ first_of.0) ++ others_of.0 ≡ r.done ++ r.others
    split = append_assoc r.done first_of.0 others_of.0 ∙ ap (λ l. r.done ++ l) others_of.2

    split_room : length (written ((r.done ++ first_of.0) ++ others_of.0)) ≤ length before
    split_room = subst (λ rs. length (written rs) ≤ length before) (sym split) r.room

    two_room : length (written (r.done ++ first_of.0)) ≤ length before
    two_room = first_room (r.done ++ first_of.0) others_of.0 before split_room

    pub rowing_ready : Ready (standing d s place fr here) (rest len out)
    rowing_ready = record { recs = first_of.0; there = first_of.1; room = second_room r.done first_of.0 before two_room r.wrote }

    module _ {q : List ℕ} {m : ℕ} (v : Placed (standing d s place fr here) (rest len out) q m) where
      wrote_first : Wrote (written first_of.0) (rest len out) q m
      wrote_first = subst (λ rs. Wrote (written rs) (rest len out) q m) (same_recs v.there first_of.1) v.wrote

      pub rowing_small : m + len ≤ length before
      rowing_small = both_small r.done first_of.0 before two_room r.wrote wrote_first

      pub rowing_next : (next there : ℕ) → next ≡ after k d s place → there ≡ here + width (structural.standing d s place) → Rowing k d s E n p fr bit before next there (len + m) (left - 1) (back len out q)
      rowing_next next there e f =
          let w = row_wide k d s left place z in
          let (a, b) = r.inside in
          rw (e, f) (record {
            given = given_rest z r.given;
            inside = (omega arith, omega arith);
            done = r.done ++ first_of.0;
            others = others_of.0;
            there = others_of.1;
            all = r.all ∙ ap some (sym split);
            room = split_room;
            wrote = let c : len + m ≡ m + len = omega arith in rw c (both_done r.done first_of.0 before two_room r.wrote wrote_first);
          })

-- AN INTEGER

module _ {o : Option (List Rec)} {w n : ℕ} (e : o ≡ some (rec 2 0 w n ∷ [])) {out l : List ℕ} (r : Ready o out) (v : l ≡ put (bytes (rec 2 0 w 0)) out) where
  pub head_length : length l ≡ length out
  head_length =
      let a = one_room e r in
      let u = record_alone (rec 2 0 w 0) out l v in
      let i = u.len in
      wrote_length u (omega arith)

  pub integer_placed : {p : List ℕ} → p ≡ in_bytes 32 n → Placed o out (returned l p) 36
  integer_placed {p} i = one_placed e r (integer_put w n out l p v i)

-- BLOCKS

module _ (d : ℕ) (s : List ℕ) (n p : ℕ) (fr : List ℕ) (bit : ℕ) where
  pub block_ready : {out : List ℕ} → ReadyNumbered (block d s n p fr bit) out → tag_at fr bit ≡ true → Ready (row Copies d s n p fr (bit + 1)) out
  block_ready {out} r t =
      let (rs, e, f) = map_o_some (λ rs. (n, rs)) (row Copies d s n p fr (bit + 1)) (r.number, r.recs) (sym (block_all d s n p fr bit t) ∙ r.there) in
      record { recs = rs; there = e; room = subst (λ (y : ℕ × List Rec). length (written y.1) ≤ length out) (sym f) r.room }

  pub block_placed : {before after : List ℕ} {k : ℕ} → tag_at fr bit ≡ true → Placed (row Copies d s n p fr (bit + 1)) before after k → PlacedNumbered (block d s n p fr bit) before after (record { number = n; len = k })
  block_placed t v = record { recs = v.recs; there = block_all d s n p fr bit t ∙ ap (numbered n) v.there; wrote = v.wrote }

  pub block_missing : (out : List ℕ) → tag_at fr bit ≡ false → PlacedNumbered (block d s n p fr bit) out out (record { number = 0; len = 0 })
  unfolding written
  block_missing out t = record { recs = []; there = block_none d s n p fr bit t; wrote = wrote_none out }

-- LISTS

pub numbered_as : {o u : Option (ℕ × List Rec)} {out : List ℕ} → o ≡ u → ReadyNumbered o out → ReadyNumbered u out
numbered_as e r = record { number = r.number; recs = r.recs; there = sym e ∙ r.there; room = r.room }

pub placed_numbered_as : {o u : Option (ℕ × List Rec)} {before after : List ℕ} {n : Numbered} → o ≡ u → PlacedNumbered u before after n → PlacedNumbered o before after n
placed_numbered_as e v = record { recs = v.recs; there = e ∙ v.there; wrote = v.wrote }

-- with the bound 2: its one element, or nothing
pub two_wide : {b : NonZeroPow2Usize} {d : ℕ} {s : List ℕ} {p : ℕ} → Two b d s p → width (structural.listed d s b p) ≡ suc (width (structural.standing d s p))
two_wide {b} {d} {s} {p} two = omega (arith, two.wide, width_block 1 (structural.standing d s p))

module _ {b : NonZeroPow2Usize} {d : ℕ} {s : List ℕ} {p : ℕ} (two : Two b d s p) (fr : List ℕ) (bit : ℕ) where
  pub two_ready : {out : List ℕ} → ReadyNumbered (listed d s b p fr bit) out → tag_at fr bit ≡ true → Ready (standing d s p fr (bit + 1)) out
  two_ready r t = ready_as (row_one Copies d s p fr (bit + 1)) (block_ready d s 1 p fr bit (numbered_as (two.same fr bit) r) t)

  pub two_placed : {before after : List ℕ} {k : ℕ} → tag_at fr bit ≡ true → Placed (standing d s p fr (bit + 1)) before after k → PlacedNumbered (listed d s b p fr bit) before after (record { number = 1; len = k })
  two_placed t v = placed_numbered_as (two.same fr bit) (block_placed d s 1 p fr bit t (placed_as (row_one Copies d s p fr (bit + 1)) v))

  pub two_missing : (out : List ℕ) → tag_at fr bit ≡ false → PlacedNumbered (listed d s b p fr bit) out out (record { number = 0; len = 0 })
  two_missing out t = placed_numbered_as (two.same fr bit) (block_missing d s 1 p fr bit out t)

-- a block's tag and its elements
block_wide : (t : SType) (n w : ℕ) → w ≡ width t → width (block_type n t) ≡ suc (n * w)
block_wide t n w e = rw e (width_block n t)

-- a block, and the blocks behind it
pub record Blocks (o a b : Option (ℕ × List Rec)) : Type 0 where
  pub same : o ≡ both_numbered a b

module _ {o a b : Option (ℕ × List Rec)} (e : Blocks o a b) {out : List ℕ} (r : ReadyNumbered o out) where
  firsts : (x : ℕ × List Rec) × (a ≡ some x) × (map_o {B = ℕ × List Rec} (λ y. (x.0 + y.0, x.1 ++ y.1)) b ≡ some (r.number, r.recs))
  firsts = bind_o_some a _ (r.number, r.recs) (sym e.same ∙ r.there)

  seconds : (y : ℕ × List Rec) × (b ≡ some y) × (◌≡◌ {A = ℕ × List Rec} (firsts.0.0 + y.0, firsts.0.1 ++ y.1) (r.number, r.recs))
  seconds = map_o_some _ b (r.number, r.recs) firsts.2

  both_room : length (written (firsts.0.1 ++ seconds.0.1)) ≤ length out
  both_room = subst (λ (y : ℕ × List Rec). length (written y.1) ≤ length out) (sym seconds.2) r.room

  pub first_ready : ReadyNumbered a out
  first_ready = record { number = firsts.0.0; recs = firsts.0.1; there = firsts.1; room = first_room firsts.0.1 seconds.0.1 out both_room }

  module _ {q : List ℕ} {m : Numbered} (v : PlacedNumbered a out q m) where
    first_is : ◌≡◌ {A = ℕ × List Rec} (m.number, v.recs) firsts.0
    first_is = some-injective _ _ (sym v.there ∙ firsts.1)

    wrote_firsts : Wrote (written firsts.0.1) out q m.len
    wrote_firsts = subst (λ (y : ℕ × List Rec). Wrote (written y.1) out q m.len) first_is v.wrote

    pub block_fits : m.len ≤ length q
    block_fits = first_fits firsts.0.1 seconds.0.1 out both_room wrote_firsts

    pub second_ready : ReadyNumbered b (rest m.len q)
    second_ready = record { number = seconds.0.0; recs = seconds.0.1; there = seconds.1; room = second_room firsts.0.1 seconds.0.1 out both_room wrote_firsts }

    module _ {l : List ℕ} {n : Numbered} (u : PlacedNumbered b (rest m.len q) l n) where
      second_is : ◌≡◌ {A = ℕ × List Rec} (n.number, u.recs) seconds.0
      second_is = some-injective _ _ (sym u.there ∙ seconds.1)

      wrote_seconds : Wrote (written seconds.0.1) (rest m.len q) l n.len
      wrote_seconds = subst (λ (y : ℕ × List Rec). Wrote (written y.1) (rest m.len q) l n.len) second_is u.wrote

      pub lengths_fit : n.len + m.len ≤ length out
      lengths_fit = both_small firsts.0.1 seconds.0.1 out both_room wrote_firsts wrote_seconds

      pub list_placed : PlacedNumbered o out (back m.len q l) (record { number = m.number + n.number; len = m.len + n.len })
      list_placed = record {
        recs = firsts.0.1 ++ seconds.0.1;
        there = e.same ∙ (λ i. both_numbered (firsts.1 i) (seconds.1 i)) ∙ ap₂ (λ i j. some (i + j, firsts.0.1 ++ seconds.0.1)) (sym (ap (λ (y : ℕ × List Rec). y.0) first_is)) (sym (ap (λ (y : ℕ × List Rec). y.0) second_is));
        wrote = let c : m.len + n.len ≡ n.len + m.len = omega arith in rw c (both_done firsts.0.1 seconds.0.1 out both_room wrote_firsts wrote_seconds);
      }

-- the block of half the bound, and the list with that bound
module _ {b h : NonZeroPow2Usize} {d : ℕ} {s : List ℕ} {p : ℕ} (g : Halved b h d s p) {n w : ℕ} (e : n ≡ h.value) (f : w ≡ width (structural.standing d s p)) where
  halved_wide : width (structural.listed d s b p) ≡ suc (n * w) + width (structural.listed d s h p)
  halved_wide = rw (e, f) g.wide

  halved_blocks : (fr : List ℕ) (bit : ℕ) → Blocks (listed d s b p fr bit) (block d s n p fr bit) (listed d s h p fr (bit + 1 + n * w))
  halved_blocks fr bit = rw (e, f) (record { same = g.same fr bit })

-- the same of a list with the bound b, in a frame whose widths are known, where n is half the bound and w an element's width
pub record Listing (b h : NonZeroPow2Usize) (d : ℕ) (s : List ℕ) (p : ℕ) (n w : ℕ) : Type 0 where
  pub less : h.value < b.value
  pub tagged : width (block_type n (structural.standing d s p)) ≡ suc (n * w)
  pub wide : width (structural.listed d s b p) ≡ suc (n * w) + width (structural.listed d s h p)
  pub blocks : (fr : List ℕ) (bit : ℕ) → Blocks (listed d s b p fr bit) (block d s n p fr bit) (listed d s h p fr (bit + 1 + n * w))

pub listing : {b h : NonZeroPow2Usize} {d : ℕ} {s E W : List ℕ} {p n w : ℕ} {x : Optional NonZeroPow2Usize} → Stands d s E p → Wide s E W → x ≡ half_bound b → x ≡ Some h → n ≡ h.value → w ≡ get_or W p 0 → Listing b h d s p n w
listing {d = d} {s = s} {p = p} {n = n} g v k t e i =
    let u = i ∙ v.right d p g in
    let m = list_more d s p (sym t ∙ k) in
    record { less = m.less; tagged = block_wide (structural.standing d s p) n _ u; wide = halved_wide m e u; blocks = halved_blocks m e u }
