-- The steps of the walk over a frame: a row part by part, a sum tag by tag, a list block by block.
use Rattle.std.proofs.Math.Path.{◌≡◌, refl, ap}
use Rattle.std.proofs.Common.{sym, ap₂, ◌∙◌, zero-add, suc-add}
use Rattle.std.specs.Prelude.{Bool, not, length, get_or, take, drop, Option as Optional, Some, None}
use Rattle.std.proofs.Math.Bool.{true, false}
use mathlib.Core.List.{List, [], ◌∷◌}
use Rattle.std.proofs.Math.Option.{Option, none, some}
use Prim.Native.Nat.{ℕ, zero, suc, ◌+◌, ◌-◌, ◌*◌, ◌^◌, ◌≤◌, ◌<◌}
use Rattle.std.proofs.Math.Numerals.{sub-one}
use native.Mathlib.Omega.{arith}
use Rattle.num.specs.declared.NonZeroPow2Usize.{NonZeroPow2Usize}
use Rattle.num.specs.Powers.{half_bound}
use Rattle.num.specs.Laws.{no_half, HalfOf, half_of}
use Rattle.model.specs.Options.{any}
use Rattle.model.specs.Balanced.{btree, fold}
use Rattle.model.specs.Structural.{SType, 𝟙, ◌⊕◌}
use Rattle.model.specs.Frames.{width}
use Rattle.model.proofs.Laws.Balanced.{Shares}
use Rattle.model.proofs.Laws.Sizes.{fold_one, fold_step, width_partition_zero, width_partition_suc}
use Rattle.structural.specs.Forms.{Stands, standing, listed}
use Rattle.structural.proofs.Laws.Forms.{stands_inside}
use Rattle.bits.specs.Bits.{bits_at, Inside}
use Rattle.types.specs.declared.forms.Parts.{Parts}
use Rattle.types.specs.declared.forms.Parts.TheVariants.{Copies, Types}
use Rattle.told.specs.Forms.{after, skip, GivenParts, hops, Hops, after_at}
use Rattle.told.specs.Widths.{Wide}
use Rattle.told.specs.Laws.Hops.{hops_add}
use Rattle.told.specs.Laws.Rows.{after_is}
use Rattle.told.specs.Laws.Trees.{given_one, right_given}
use Rattle.rebuild.specs.Forms.{most_records}
use Rattle.accept.specs.Forms.{tag_at, choice_in, unless, plus, seen, types_in, row_width, seen_row, seen_choice, seen_sum, seen_block, seen_blocks, seen_list}
use Rattle.accept.specs.Answers.{answer, count_of, both_of, Padded}
use Rattle.accept.specs.Laws.Sums.{choice_one, choice_left, choice_right}
use Rattle.accept.specs.Laws.Seen.{skip_hops}
use Rattle.accept.specs.Laws.Formed.{BitsSeen, copies_wide}
use Rattle.accept.specs.Laws.Answers.{both_assoc, answer_plus, none_first, none_last}

-- ROWS

-- the parts after the first
pub given_rest : {k : Parts} {d : ℕ} {s E : List ℕ} {n p : ℕ} → 0 < n → GivenParts k d s E n p → GivenParts k d s E (n - 1) (after k d s p)
unfolding skip
given_rest h g = record { each = λ i l. g.each (suc i) (omega arith) }

-- the bits of the first, and of those after it
pub row_wide : (k : Parts) (d : ℕ) (s : List ℕ) (n p : ℕ) → 0 < n → row_width k d s n p ≡ width (standing d s p) + row_width k d s (n - 1) (after k d s p)
unfolding row_width
row_wide k d s zero p h = absurd (omega arith)
row_wide k d s (suc n) p h = rw sub-one refl

module _ (k : Parts) (d : ℕ) (s : List ℕ) (n p : ℕ) (fr : List ℕ) (bit : ℕ) where
  row_some : 0 < n → seen_row k d s n p fr bit ≡ plus (seen d s p fr bit) (seen_row k d s (n - 1) (after k d s p) fr (bit + width (standing d s p)))
  unfolding seen_row
  row_some = go n
    where
      go : (n : ℕ) → 0 < n → seen_row k d s n p fr bit ≡ plus (seen d s p fr bit) (seen_row k d s (n - 1) (after k d s p) fr (bit + width (standing d s p)))
      go zero h = absurd (omega arith)
      go (suc n) h = rw sub-one refl

  row_none : n ≤ 0 → seen_row k d s n p fr bit ≡ some 0
  unfolding seen_row
  row_none h = let e : n ≡ 0 = omega arith in ap (λ n. seen_row k d s n p fr bit) e

-- copies of what is only bits have a record each
pub copies_bits : (d : ℕ) (s : List ℕ) (p : ℕ) → BitsSeen d s p → (n : ℕ) (fr : List ℕ) (bit : ℕ) → bit + row_width Copies d s n p ≤ 8 * length fr → seen_row Copies d s n p fr bit ≡ some n
unfolding seen_row row_width after
copies_bits d s p b zero fr bit h = refl
copies_bits d s p b (suc n) fr bit h = ap₂ plus (b.same fr bit (omega arith)) (copies_bits d s p b n fr (bit + width (standing d s p)) (omega arith)) ∙ ap some (omega arith)

-- all was seen of the n parts from p on but the last `left`, which stand from record q on and from the bit `here` on
pub record Rowing (k : Parts) (d : ℕ) (s E : List ℕ) (n p : ℕ) (fr : List ℕ) (bit : ℕ) (all : Optional ℕ) (q here left : ℕ) : Type 0 where
  pub given : GivenParts k d s E left q
  pub inside : Inside fr here (row_width k d s left q)
  pub same : both_of all (answer (seen_row k d s left q fr here)) ≡ answer (seen_row k d s n p fr bit)
  pub small : count_of all ≤ most_records

pub rowing_start : {k : Parts} {d : ℕ} {s E : List ℕ} {n p : ℕ} {fr : List ℕ} {bit : ℕ} → GivenParts k d s E n p → Inside fr bit (row_width k d s n p) → Rowing k d s E n p fr bit (Some 0) p bit n
rowing_start {k} {d} {s} {E} {n} {p} {fr} {bit} g i = record { given = g; inside = i; same = none_first (seen_row k d s n p fr bit); small = omega arith }

module _ {k : Parts} {d : ℕ} {s E : List ℕ} {n p : ℕ} {fr : List ℕ} {bit : ℕ} {all : Optional ℕ} {q here left : ℕ} (r : Rowing k d s E n p fr bit all q here left) where
  pub rowing_stands : 0 < left → Stands d s E q
  rowing_stands h = given_one r.given h

  pub rowing_inside : 0 < left → Inside fr here (width (standing d s q))
  rowing_inside h = let w = row_wide k d s left q h in let i = r.inside in (omega arith, omega arith)

  pub rowing_end : left ≤ 0 → all ≡ answer (seen_row k d s n p fr bit)
  rowing_end h = sym (none_last all r.small) ∙ ap (λ o. both_of all (answer o)) (sym (row_none k d s left q fr here h)) ∙ r.same

  pub rowing_next : {W : List ℕ} (x y : Optional ℕ) (w next : ℕ) → 0 < left → Wide s E W → x ≡ answer (seen d s q fr here) → y ≡ both_of all x → w ≡ get_or W q 0 → next ≡ after_at k E q → Rowing k d s E n p fr bit y next (here + w) (left - 1)
  rowing_next x y w next h u e f i j =
      let g = given_one r.given h in
      let a : w ≡ width (standing d s q) = i ∙ u.right d q g in
      let b : next ≡ after k d s q = j ∙ after_is k g in
      let l = row_wide k d s left q h in
      let o = r.inside in
      let o1 = o.0 in
      let o2 = o.1 in
      let rest : Option ℕ = seen_row k d s (left - 1) (after k d s q) fr (here + width (standing d s q)) in
      rw (a, b) (record {
        given = given_rest h r.given;
        inside = (omega arith, omega arith);
        same =
            ap (λ z. both_of z (answer rest)) (f ∙ ap (both_of all) e)
            ∙ both_assoc all (answer (seen d s q fr here)) (answer rest)
            ∙ ap (both_of all) (sym (answer_plus (seen d s q fr here) rest) ∙ ap answer (sym (row_some k d s left q fr here h)))
            ∙ r.same;
        small = added all x y f r.small;
      })
    where
      added : (a b c : Optional ℕ) → c ≡ both_of a b → count_of a ≤ most_records → count_of c ≤ most_records
      added a b c e h = rw e (go a b)
        where
          go : (a b : Optional ℕ) → count_of (both_of a b) ≤ most_records
          go None b = omega arith
          go (Some n) None = omega arith
          go (Some n) (Some m) = omega arith

-- SUMS

module _ (d : ℕ) (s E : List ℕ) (n p : ℕ) (fr : List ℕ) (bit end : ℕ) where
  sum_one : n ≡ 1 → seen_sum d s E n p fr bit end ≡ seen_choice d s p fr bit end
  unfolding seen_sum hops
  sum_one e = ap (λ n. seen_sum d s E n p fr bit end) e ∙ ap (λ (x : ℕ × ℕ). seen_choice d s (hops E x.0 p) fr x.1 end) (choice_one fr bit)

  pub padded_one : n ≡ 1 → Padded d s n p fr bit end → bit + width (standing d s p) ≤ end
  unfolding types_in
  padded_one e h =
      let i : fold ◌⊕◌ 𝟙 (btree n) (types_in Types d s n p) ≡ standing d s p = ap (λ n. fold ◌⊕◌ 𝟙 (btree n) (types_in Types d s n p)) e ∙ fold_one ◌⊕◌ 𝟙 (standing d s p) [] in
      let f = h.fits in
      omega (arith, ap width i)

unless_clear : (x : Bool) (o : Option ℕ) → true ≡ not x → unless x o ≡ o
unless_clear true o e = absurd (let z : ◌≡◌ {A = ℕ} 0 1 = cc in omega arith)
unless_clear false o e = refl

unless_stray : (x : Bool) (o : Option ℕ) → false ≡ not x → unless x o ≡ none
unless_stray true o e = refl
unless_stray false o e = absurd (let z : ◌≡◌ {A = ℕ} 0 1 = cc in omega arith)

-- a payload with zeros behind it
module _ (d : ℕ) (s E : List ℕ) (n p : ℕ) (fr : List ℕ) (bit end : ℕ) (W : List ℕ) (w last : ℕ) (z : Bool) (g : Stands d s E p) (u : Wide s E W) (e : n ≡ 1) (i : w ≡ get_or W p 0) (l : last ≡ bit + w) (c : z ≡ not (any (bits_at fr last (end - last)))) where
  clear_is : z ≡ not (any (bits_at fr (bit + width (standing d s p)) (end - (bit + width (standing d s p)))))
  clear_is = let a : last ≡ bit + width (standing d s p) = l ∙ ap (λ w. bit + w) (i ∙ u.right d p g) in c ∙ ap (λ q. not (any (bits_at fr q (end - q)))) a

  pub choice_clear : (x : Optional ℕ) → z ≡ true → x ≡ answer (seen d s p fr bit) → x ≡ answer (seen_sum d s E n p fr bit end)
  unfolding seen_choice
  choice_clear x t h = h ∙ ap answer (sym (sum_one d s E n p fr bit end e ∙ unless_clear (any (bits_at fr (bit + width (standing d s p)) (end - (bit + width (standing d s p))))) (seen d s p fr bit) (sym t ∙ clear_is)))

  pub choice_stray : z ≡ false → None ≡ answer (seen_sum d s E n p fr bit end)
  unfolding seen_choice
  choice_stray t = ap answer (sym (sum_one d s E n p fr bit end e ∙ unless_stray (any (bits_at fr (bit + width (standing d s p)) (end - (bit + width (standing d s p))))) (seen d s p fr bit) (sym t ∙ clear_is)))

module _ (d : ℕ) (s : List ℕ) where
  take_types : (m n p : ℕ) → take m (types_in Types d s (m + n) p) ≡ types_in Types d s m p
  unfolding types_in
  take_types zero n p = refl
  take_types (suc m) n p = rw (suc-add m n) (ap {B = List SType} (λ l. standing d s p ∷ l) (take_types m n (after Types d s p)))

  drop_types : (m n p : ℕ) → drop m (types_in Types d s (m + n) p) ≡ types_in Types d s n (skip Types d s m p)
  unfolding types_in skip
  drop_types zero n p = ap (λ i. types_in Types d s i p) (zero-add n)
  drop_types (suc m) n p = rw (suc-add m n) (drop_types m n (after Types d s p))

module _ {d : ℕ} {s E : List ℕ} {n few p : ℕ} (h : Shares n few) (g : GivenParts Types d s E n p) where
  right_place : hops E few p ≡ skip Types d s few p
  right_place = sym (skip_hops d s E n few p h.less g)

  pub others_given : {q : ℕ} → q ≡ hops E few p → GivenParts Types d s E (n - few) q
  others_given e = right_given h g (e ∙ right_place)

  pub few_hops : Hops E few p
  few_hops = let l = h.less in record { each = λ i m. rw (← skip_hops d s E n i p (omega arith) g) (stands_inside (g.each i (omega arith))) }

  module _ {fr : List ℕ} {bit end : ℕ} (a : Padded d s n p fr bit end) where
    -- the type of the sum is the sum of its two sides
    split_type : fold ◌⊕◌ 𝟙 (btree n) (types_in Types d s n p) ≡ fold ◌⊕◌ 𝟙 (btree few) (types_in Types d s few p) ⊕ fold ◌⊕◌ 𝟙 (btree (n - few)) (types_in Types d s (n - few) (hops E few p))
    split_type =
        let l = h.less in
        let m = h.some in
        let e : n ≡ few + (n - few) = omega arith in
        fold_step ◌⊕◌ 𝟙 n (omega arith) (types_in Types d s n p)
        ∙ ap (λ m. fold ◌⊕◌ 𝟙 (btree m) (take m (types_in Types d s n p)) ⊕ fold ◌⊕◌ 𝟙 (btree (n - m)) (drop m (types_in Types d s n p))) (sym h.split)
        ∙ ap₂ (λ x y. fold ◌⊕◌ 𝟙 (btree few) x ⊕ fold ◌⊕◌ 𝟙 (btree (n - few)) y)
        (ap (λ i. take few (types_in Types d s i p)) e ∙ take_types d s few (n - few) p)
        (ap (λ i. drop few (types_in Types d s i p)) e ∙ drop_types d s few (n - few) p ∙ ap (types_in Types d s (n - few)) (sym right_place))

    pub tag_inside : bit < 8 * length fr
    tag_inside = let f = a.fits in let i = a.inside in omega (arith, ap width split_type)

    pub tag_fits : bit + 1 < 2 ^ 64
    tag_fits = let f = a.fits in let i = a.small in omega (arith, ap width split_type)

    pub left_padded : Padded d s few p fr (bit + 1) end
    left_padded = let f = a.fits in record { fits = omega (arith, ap width split_type); inside = a.inside; small = a.small }

    pub right_padded : {q : ℕ} → q ≡ hops E few p → Padded d s (n - few) q fr (bit + 1) end
    right_padded e = let f = a.fits in rw e (record { fits = omega (arith, ap width split_type); inside = a.inside; small = a.small })

module _ (d : ℕ) (s E : List ℕ) {n few : ℕ} (p : ℕ) (fr : List ℕ) (bit end : ℕ) (h : Shares n few) (z : Bool) (t : z ≡ tag_at fr bit) (x : Optional ℕ) where
  pub sum_left : z ≡ false → x ≡ answer (seen_sum d s E few p fr (bit + 1) end) → x ≡ answer (seen_sum d s E n p fr bit end)
  unfolding seen_sum
  sum_left e i = let l = h.less in let m = h.some in i ∙ ap (λ (y : ℕ × ℕ). answer (seen_choice d s (hops E y.0 p) fr y.1 end)) (sym (choice_left fr bit n few h.split (omega arith) (sym t ∙ e)))

  pub sum_right : (q : ℕ) → q ≡ hops E few p → z ≡ true → x ≡ answer (seen_sum d s E (n - few) q fr (bit + 1) end) → x ≡ answer (seen_sum d s E n p fr bit end)
  unfolding seen_sum
  sum_right q j e i =
      let l = h.less in
      let m = h.some in
      let y = choice_in (n - few) fr (bit + 1) in
      i
      ∙ ap (λ q. answer (seen_choice d s (hops E y.0 q) fr y.1 end)) j
      ∙ ap (λ q. answer (seen_choice d s q fr y.1 end)) (sym (hops_add E few y.0 p))
      ∙ ap (λ (y : ℕ × ℕ). answer (seen_choice d s (hops E y.0 p) fr y.1 end)) (sym (choice_right fr bit n few h.split (omega arith) (sym t ∙ e)))

-- LISTS

pub block_inside : (d : ℕ) (s : List ℕ) (n p : ℕ) (fr : List ℕ) (bit : ℕ) → Inside fr bit (1 + n * width (standing d s p)) → Inside fr (bit + 1) (row_width Copies d s n p)
block_inside d s n p fr bit i = let e = copies_wide d s n p in let a = i.0 in let b = i.1 in (omega arith, omega arith)

module _ (d : ℕ) (s E : List ℕ) (n p : ℕ) (fr : List ℕ) (bit : ℕ) (t : Bool) (h : t ≡ tag_at fr bit) where
  pub block_some : (x : Optional ℕ) → t ≡ true → x ≡ answer (seen_row Copies d s n p fr (bit + 1)) → x ≡ answer (seen_block d s n p fr bit)
  unfolding seen_block
  block_some x e i = go (tag_at fr bit) (sym h ∙ e)
    where
      go : (b : Bool) → b ≡ true → x ≡ answer (elim b [ false ↦ unless (any (bits_at fr (bit + 1) (n * width (standing d s p)))) (some 0) | true ↦ seen_row Copies d s n p fr (bit + 1) ])
      go true k = i
      go false k = absurd (let z : ◌≡◌ {A = ℕ} 0 1 = cc in omega arith)

  module _ (W : List ℕ) (w : ℕ) (g : Stands d s E p) (u : Wide s E W) (i : w ≡ get_or W p 0) (e : t ≡ false) (z : Bool) (c : z ≡ not (any (bits_at fr (bit + 1) (n * w)))) where
    zeros_are : z ≡ not (any (bits_at fr (bit + 1) (n * width (standing d s p))))
    zeros_are = c ∙ ap (λ w. not (any (bits_at fr (bit + 1) (n * w)))) (i ∙ u.right d p g)

    block_zeros : seen_block d s n p fr bit ≡ unless (any (bits_at fr (bit + 1) (n * width (standing d s p)))) (some 0)
    unfolding seen_block
    block_zeros = go (tag_at fr bit) (sym h ∙ e)
      where
        go : (b : Bool) → b ≡ false → ◌≡◌ {A = Option ℕ} (elim b [ false ↦ unless (any (bits_at fr (bit + 1) (n * width (standing d s p)))) (some 0) | true ↦ seen_row Copies d s n p fr (bit + 1) ]) (unless (any (bits_at fr (bit + 1) (n * width (standing d s p)))) (some 0))
        go false k = refl
        go true k = absurd (let z : ◌≡◌ {A = ℕ} 0 1 = cc in omega arith)

    pub block_none : z ≡ true → Some 0 ≡ answer (seen_block d s n p fr bit)
    block_none k = ap answer (sym (block_zeros ∙ unless_clear (any (bits_at fr (bit + 1) (n * width (standing d s p)))) (some 0) (sym k ∙ zeros_are)))

    pub block_stray : z ≡ false → None ≡ answer (seen_block d s n p fr bit)
    block_stray k = ap answer (sym (block_zeros ∙ unless_stray (any (bits_at fr (bit + 1) (n * width (standing d s p)))) (some 0) (sym k ∙ zeros_are)))

-- with the bound 2 a list is a block of 1
pub record Two (b : NonZeroPow2Usize) (d : ℕ) (s : List ℕ) (p : ℕ) : Type 0 where
  pub wide : width (listed d s b p) ≡ 1 + 1 * width (standing d s p)
  pub same : (fr : List ℕ) (bit : ℕ) → seen_list d s b p fr bit ≡ seen_block d s 1 p fr bit

pub list_two : {b : NonZeroPow2Usize} (d : ℕ) (s : List ℕ) (p : ℕ) → None ≡ half_bound b → Two b d s p
unfolding listed seen_list seen_blocks
list_two d s p h =
    let k = no_half h in
    record { wide = rw k.log2 (width_partition_zero (standing d s p) ∙ omega arith); same = λ fr bit. rw k.log2 refl }

-- with a larger one it is a block of the half, and the list with that bound behind it
pub record Halved (b h : NonZeroPow2Usize) (d : ℕ) (s : List ℕ) (p : ℕ) : Type 0 where
  pub less : h.value < b.value
  pub wide : width (listed d s b p) ≡ 1 + h.value * width (standing d s p) + width (listed d s h p)
  pub same : (fr : List ℕ) (bit : ℕ) → seen_list d s b p fr bit ≡ plus (seen_block d s h.value p fr bit) (seen_list d s h p fr (bit + 1 + h.value * width (standing d s p)))

pub list_more : {b h : NonZeroPow2Usize} (d : ℕ) (s : List ℕ) (p : ℕ) → Some h ≡ half_bound b → Halved b h d s p
unfolding listed seen_list seen_blocks
list_more {b} {h} d s p q = go (half_of q)
  where
    go : HalfOf b h → Halved b h d s p
    go k = record {
      less = k.less;
      wide = rw (k.log2_twice, k.log2, k.power, sub-one, sub-one) (width_partition_suc k.exponent (standing d s p) ∙ omega arith);
      same = λ fr bit. rw (k.log2_twice, k.log2, k.power, sub-one, sub-one) refl;
    }
