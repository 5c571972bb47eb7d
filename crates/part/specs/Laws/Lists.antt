-- Elements of lists: through the blocks, by their tags in the frame, element i is found where writing the list begins it. An Option is the list with the bound 2.
use Rattle.std.specs.Prelude.{◌≡◌, Bool, true, ltb, take, drop, get_or, replicate, Option as Optional, Some, None}
use Rattle.std.proofs.Math.Path.{refl, ap}
use Rattle.std.proofs.Common.{sym, subst, ◌∙◌, arith, length-take, length-drop, take_at, drop_at}
use Rattle.std.proofs.Math.Bool.{false}
use mathlib.Core.List.{List, [], ◌∷◌, ◌++◌, map}
use Rattle.std.proofs.Math.Option.{none, some}
use Prim.Native.Nat.{ℕ, zero, suc, ◌+◌, ◌-◌, ◌*◌, ◌^◌, ◌≤◌, ◌<◌, max}
use Rattle.std.proofs.Math.Nat.{two-pow-succ, one-le-pow}
use Rattle.std.proofs.Math.ListN.{length, length-append}
use Rattle.std.proofs.lemmas.List.{length-map}
use borrow.Author.Tests.{ltb-true, ltb-false, lt-ltb, le-ltb}
use Rattle.num.specs.declared.NonZeroPow2Usize.{NonZeroPow2Usize}
use Rattle.num.specs.Powers.{bound_two, bound_log2}
use Rattle.model.specs.Structural.{SType, 𝟙, ◌⊕◌, SValue, unit, left, is_unit, is_left, product_of, block, block_type, partition, partition_type}
use Rattle.model.specs.Types.{Ty, option, list}
use Rattle.model.specs.Lowering.{lower}
use Rattle.model.specs.Values.{Value, Valid, inject}
use Rattle.model.specs.Frames.{after, width, bits, frame}
use Rattle.model.specs.Parts.{element_of, ahead_in_array, ahead_in_list, child}
use Rattle.model.proofs.Laws.Frames.{length_bits}
use Rattle.model.proofs.Laws.Partitions.{Each, each_take, each_drop, block_belongs}
use Rattle.model.proofs.Laws.Places.{block_bits}
use Rattle.model.proofs.Laws.Sizes.{width_block}
use Rattle.types.specs.declared.Head.TheVariants.{Opt, Listed}
use Rattle.types.specs.Record.{head_at}
use Rattle.types.specs.Trees.{tree}
use Rattle.types.specs.Steps.{Given, given_head}
use Rattle.bits.specs.Bits.{bits_at, Inside}
use Rattle.bits.specs.Laws.Runs.{length_bits_at, bits_at_add}
use Rattle.told.specs.Widths.{Wide}
use Rattle.told.specs.Laws.Rows.{first}
use Rattle.accept.specs.Forms.{tag_at}
use Rattle.accept.specs.Laws.Bits.{first_bit}
use Rattle.part.specs.declared.Spot.{Spot}
use Rattle.part.specs.Forms.{spot, copy, element, listed}
use Rattle.part.specs.Holds.{Leads}
use Rattle.part.specs.Laws.Rows.{wide_is, length_ahead, each_shape, element_there, element_gone}

-- of n elements of the type at record p, number i begins at bit b; behind them there is none
record Sought (n i p d b : ℕ) (x : Optional Spot) : Type 0 where
  there : i < n → x ≡ Some (spot p d b)
  gone : n ≤ i → x ≡ None

-- under other names
sought_as : {n i p d b c : ℕ} {x y : Optional Spot} → x ≡ y → b ≡ c → Sought n i p d c y → Sought n i p d b x
sought_as {p = p} {d} e f h = record { there = λ l. e ∙ h.there l ∙ ap (λ b. Some (spot p d b)) (sym f); gone = λ l. e ∙ h.gone l }

-- such a place leads to the element
sought_leads : {d : ℕ} {s E : List ℕ} {p : ℕ} (front : List Bool) (i : ℕ) (xs : List (Value (tree d s p))) (bit : ℕ) (x : Optional Spot) → Given d false s E p → Sought (length xs) i p d (bit + length front) x → Leads s E (element_of (tree d s p) front i xs) bit x
sought_leads {d} {s} {E} {p} front i xs bit x g h = go (ltb i (length xs)) refl
  where
    go : (y : Bool) → ltb i (length xs) ≡ y → Leads s E (element_of (tree d s p) front i xs) bit x
    go true e = subst (Leads s E (element_of (tree d s p) front i xs) bit) (sym (h.there (ltb-true _ _ e))) (element_there front i xs bit (bit + length front) g (ltb-true _ _ e) refl)
    go false e = subst (Leads s E (element_of (tree d s p) front i xs) bit) (sym (h.gone (ltb-false _ _ e))) (element_gone (tree d s p) front i xs (ltb-false _ _ e))

-- BLOCKS, by their tags

module _ (d : ℕ) (W : List ℕ) (p : ℕ) (fr : List ℕ) (bit i : ℕ) where
  none_there : tag_at fr bit ≡ false → element d W zero p fr bit i ≡ None
  unfolding element
  none_there e = rw (e, element) refl

  one_there : tag_at fr bit ≡ true → i < 1 → element d W zero p fr bit i ≡ Some (spot p d (bit + 1 + i * get_or W p 0))
  unfolding element copy
  one_there e l = rw (e, element) (rw (lt-ltb i 1 l) refl)

  one_gone : tag_at fr bit ≡ true → 1 ≤ i → element d W zero p fr bit i ≡ None
  unfolding element copy
  one_gone e l = rw (e, element) (rw (le-ltb i 1 l) refl)

  module _ (e : ℕ) where
    abbrev next : ℕ
    next = bit + 1 + 2 ^ suc e * get_or W p 0

    none_here : tag_at fr bit ≡ false → element d W (suc e) p fr bit i ≡ element d W e p fr next i
    unfolding element
    none_here f = rw (f, element) refl

    all_here : tag_at fr bit ≡ true → i < 2 ^ suc e → element d W (suc e) p fr bit i ≡ Some (spot p d (bit + 1 + i * get_or W p 0))
    unfolding element copy
    all_here f l = rw (f, element) (rw (lt-ltb i (2 ^ suc e) l) refl)

    all_ahead : tag_at fr bit ≡ true → 2 ^ suc e ≤ i → element d W (suc e) p fr bit i ≡ element d W e p fr next (i - 2 ^ suc e)
    unfolding element copy
    all_ahead f l = rw (f, element) (rw (le-ltb i (2 ^ suc e) l) refl)

-- BITS THAT STAND IN A FRAME

module _ (fr : List ℕ) (bit : ℕ) where
  -- a sum's tag is its first bit
  tag_is : (a c : SType) (b : Bool) (l : List Bool) → bit + width (a ⊕ c) ≤ 8 * length fr → bits_at fr bit (width (a ⊕ c)) ≡ b ∷ l → tag_at fr bit ≡ b
  tag_is a c b l h e = ap (λ x. get_or x 0 false) (sym (first_bit fr bit (max (width a) (width c)) (omega arith)) ∙ e)

  -- that of a block tells whether it has elements
  no_block : (n : ℕ) (t : SType) → bit + width (block_type n t) ≤ 8 * length fr → bits_at fr bit (width (block_type n t)) ≡ bits after (block_type n t) (left unit) → tag_at fr bit ≡ false
  unfolding bits
  no_block n t h e = tag_is 𝟙 (product_of (replicate n t)) false _ h e

  a_block : (n : ℕ) (t : SType) (ss : List SValue) → 1 ≤ n → length ss ≡ n → Each t ss → bit + width (block_type n t) ≤ 8 * length fr → bits_at fr bit (width (block_type n t)) ≡ bits after (block_type n t) (block ss) → tag_at fr bit ≡ true
  a_block n t ss o z k h e = tag_is 𝟙 (product_of (replicate n t)) true _ h (e ∙ block_bits after t n ss o z k)

  -- bits that stand there stand there part by part
  module _ (m n : ℕ) (xs ys : List Bool) (h : bit + m ≤ 8 * length fr) (k : length xs ≡ m) (e : bits_at fr bit (m + n) ≡ xs ++ ys) where
    front_is : bits_at fr bit m ≡ xs
    front_is = sym (take_at (bits_at fr bit m) (bits_at fr (bit + m) n) m (length_bits_at fr bit m h)) ∙ ap (take m) (sym (bits_at_add fr bit m n) ∙ e) ∙ take_at xs ys m k

    back_is : bits_at fr (bit + m) n ≡ ys
    back_is = sym (drop_at (bits_at fr bit m) (bits_at fr (bit + m) n) m (length_bits_at fr bit m h)) ∙ ap (drop m) (sym (bits_at_add fr bit m n) ∙ e) ∙ drop_at xs ys m k

-- LISTS

-- the bits of a list, and those ahead of its element i, by whether the largest block is full
module _ (t : SType) (e : ℕ) (ss : List SValue) where
  abbrev n : ℕ
  n = 2 ^ suc e

  abbrev all : SType
  all = block_type n t

  bits_later : length ss < n → bits after (partition_type (suc e) t) (partition (suc e) ss) ≡ bits after all (left unit) ++ bits after (partition_type e t) (partition e ss)
  unfolding partition partition_type bits
  bits_later q = rw (lt-ltb (length ss) n q) refl

  bits_here : n ≤ length ss → bits after (partition_type (suc e) t) (partition (suc e) ss) ≡ bits after all (block (take n ss)) ++ bits after (partition_type e t) (partition e (drop n ss))
  unfolding partition partition_type bits
  bits_here q = rw (le-ltb (length ss) n q) refl

  ahead_later : (i : ℕ) → length ss < n → ahead_in_list after (suc e) t ss i ≡ bits after all (left unit) ++ ahead_in_list after e t ss i
  unfolding ahead_in_list
  ahead_later i q = rw (lt-ltb (length ss) n q) refl

  ahead_here : (i : ℕ) → n ≤ length ss → i < n → ahead_in_list after (suc e) t ss i ≡ true ∷ ahead_in_array after t ss i
  unfolding ahead_in_list
  ahead_here i q l = rw (le-ltb (length ss) n q, lt-ltb i n l) refl

  ahead_behind : (i : ℕ) → n ≤ length ss → n ≤ i → ahead_in_list after (suc e) t ss i ≡ bits after all (block (take n ss)) ++ ahead_in_list after e t (drop n ss) (i - n)
  unfolding ahead_in_list
  ahead_behind i q l = rw (le-ltb (length ss) n q, le-ltb i n l) refl

module _ (d : ℕ) (W : List ℕ) (p : ℕ) (t : SType) (fr : List ℕ) (u : get_or W p 0 ≡ width t) where
  -- the list stands from a bit on
  abbrev Written : ℕ → List SValue → ℕ → Type 0
  Written e ss bit = (bit + width (partition_type e t) ≤ 8 * length fr) × (bits_at fr bit (width (partition_type e t)) ≡ bits after (partition_type e t) (partition e ss))

  -- its element i is found where it begins, or none behind the last
  abbrev Found : ℕ → List SValue → ℕ → ℕ → Type 0
  Found e ss bit i = Sought (length ss) i p d (bit + length (ahead_in_list after e t ss i)) (element d W e p fr bit i)

  -- element i of a block stands behind the block's tag and the elements in front of it
  here : (ss : List SValue) (bit i : ℕ) → i ≤ length ss → Each t ss → bit + 1 + i * get_or W p 0 ≡ bit + length (true ∷ ahead_in_array after t ss i)
  here ss bit i l h = rw u (omega (arith, length_ahead t ss i l h))

  -- with the bound 2 there is one block, of 1
  in_one : (ss : List SValue) (bit i : ℕ) → length ss < 2 ^ 1 → Each t ss → Written 0 ss bit → Found 0 ss bit i
  unfolding partition partition_type ahead_in_list
  in_one [] bit i l h (q, e) = record { there = λ o. absurd (omega arith); gone = λ o. none_there d W p fr bit i (no_block fr bit 1 t q e) }
  in_one (x ∷ xs) bit i l h (q, e) =
      let tag = a_block fr bit 1 t (x ∷ xs) (omega arith) (omega arith) h q e in
      record {
        there = λ o. one_there d W p fr bit i tag (omega arith) ∙ ap (λ b. Some (spot p d b)) (here (x ∷ xs) bit i (omega arith) h);
        gone = λ o. one_gone d W p fr bit i tag (omega arith);
      }

  -- the largest block of a list, exponent e for the rest
  abbrev largest : ℕ → SType
  largest e = block_type (2 ^ suc e) t

  module _ (e : ℕ) (ss : List SValue) (bit i : ℕ) (h : Each t ss) (k : Written (suc e) ss bit) where
    -- the blocks behind the largest
    behind : bit + 1 + 2 ^ suc e * get_or W p 0 ≡ bit + width (largest e)
    behind = rw u (omega (arith, width_block (2 ^ suc e) t))

    -- the three ways in which the tags can lead
    in_later : length ss < 2 ^ suc e → (Written e ss (bit + width (largest e)) → Found e ss (bit + width (largest e)) i) → Found (suc e) ss bit i
    unfolding partition_type
    in_later l rec =
        let m = width (largest e) in
        let n = width (partition_type e t) in
        let xs = bits after (largest e) (left unit) in
        let ys = bits after (partition_type e t) (partition e ss) in
        let f = k.1 ∙ bits_later t e ss l in
        let z : length xs ≡ m = length_bits after (is_left is_unit) in
        let tag = no_block fr bit (2 ^ suc e) t (omega (arith, k.0)) (front_is fr bit m n xs ys (omega (arith, k.0)) z f) in
        sought_as (none_here d W p fr bit i e tag ∙ ap (λ b. element d W e p fr b i) behind)
        (ap (λ l. bit + length l) (ahead_later t e ss i l) ∙ omega (arith, length-append xs (ahead_in_list after e t ss i), z))
        (rec (omega (arith, k.0), back_is fr bit m n xs ys (omega (arith, k.0)) z f))

    module _ (l : 2 ^ suc e ≤ length ss) where
      size : length (take (2 ^ suc e) ss) ≡ 2 ^ suc e
      size = length-take (2 ^ suc e) ss ∙ omega arith

      abbrev full : List Bool
      full = bits after (largest e) (block (take (2 ^ suc e) ss))

      length_full : length full ≡ width (largest e)
      length_full = length_bits after (block_belongs (2 ^ suc e) t (take (2 ^ suc e) ss) size (each_take (2 ^ suc e) t ss h))

      tag : tag_at fr bit ≡ true
      unfolding partition_type
      tag =
          a_block fr bit (2 ^ suc e) t (take (2 ^ suc e) ss) (one-le-pow (suc e) 2 (omega arith)) size (each_take (2 ^ suc e) t ss h) (omega (arith, k.0))
          (front_is fr bit (width (largest e)) (width (partition_type e t)) full _ (omega (arith, k.0)) length_full (k.1 ∙ bits_here t e ss l))

      rest_written : Written e (drop (2 ^ suc e) ss) (bit + width (largest e))
      unfolding partition_type
      rest_written = (omega (arith, k.0), back_is fr bit (width (largest e)) (width (partition_type e t)) full _ (omega (arith, k.0)) length_full (k.1 ∙ bits_here t e ss l))

      in_here : i < 2 ^ suc e → Found (suc e) ss bit i
      in_here o = record {
        there = λ j. all_here d W p fr bit i e tag o ∙ ap (λ b. Some (spot p d b)) (here ss bit i (omega arith) h ∙ ap (λ l. bit + length l) (sym (ahead_here t e ss i l o)));
        gone = λ j. absurd (omega arith);
      }

      in_behind : 2 ^ suc e ≤ i → Found e (drop (2 ^ suc e) ss) (bit + width (largest e)) (i - 2 ^ suc e) → Found (suc e) ss bit i
      in_behind o r =
          let f = all_ahead d W p fr bit i e tag o ∙ ap (λ b. element d W e p fr b (i - 2 ^ suc e)) behind in
          let z = length-drop (2 ^ suc e) ss in
          let c : bit + width (largest e) + length (ahead_in_list after e t (drop (2 ^ suc e) ss) (i - 2 ^ suc e)) ≡ bit + length (ahead_in_list after (suc e) t ss i) =
          omega (arith, length-append full (ahead_in_list after e t (drop (2 ^ suc e) ss) (i - 2 ^ suc e)), length_full) ∙ ap (λ l. bit + length l) (sym (ahead_behind t e ss i l o)) in
          record { there = λ j. f ∙ r.there (omega arith) ∙ ap (λ b. Some (spot p d b)) c; gone = λ j. f ∙ r.gone (omega arith) }

  -- the tags lead to element i
  found : (e : ℕ) (ss : List SValue) (bit i : ℕ) → length ss < 2 ^ suc e → Each t ss → Written e ss bit → Found e ss bit i
  found zero ss bit i l h k = in_one ss bit i l h k
  found (suc e) ss bit i l h k = go (ltb (length ss) n) refl (ltb i n) refl (found e ss (bit + width (largest e)) i) (found e (drop n ss) (bit + width (largest e)) (i - n))
    where
      n : ℕ
      n = 2 ^ suc e

      go : (x : Bool) → ltb (length ss) n ≡ x → (y : Bool) → ltb i n ≡ y
          → (length ss < n → Each t ss → Written e ss (bit + width (largest e)) → Found e ss (bit + width (largest e)) i)
          → (length (drop n ss) < n → Each t (drop n ss) → Written e (drop n ss) (bit + width (largest e)) → Found e (drop n ss) (bit + width (largest e)) (i - n))
          → Found (suc e) ss bit i
      go true q y r f g = in_later e ss bit i h k (ltb-true _ _ q) (f (ltb-true _ _ q) h)
      go false q true r f g = in_here e ss bit i h k (ltb-false _ _ q) (ltb-true _ _ r)
      go false q false r f g =
          let u : n ≤ length ss = ltb-false _ _ q in
          in_behind e ss bit i h k u (ltb-false _ _ r) (g (rw (length-drop n ss) (omega (arith, two-pow-succ (suc e)))) (each_drop n t ss h) (rest_written e ss bit i h k u))

-- THE KINDS

module _ {d : ℕ} {s E W : List ℕ} {p : ℕ} (fr : List ℕ) (bit i : ℕ) (g : Given d false s E p) (w : Wide s E W) where
  pub list_leads : (b : NonZeroPow2Usize) → head_at s p ≡ Listed b → let t = list (tree (d - 1) s (p + 1)) (bound_log2 b.value - 1) in (v : Value t) → Valid t v → Inside fr bit (width (lower t)) → bits_at fr bit (width (lower t)) ≡ frame after t v
      → Leads s E (child after t i v) bit (listed (d - 1) W b (p + 1) fr bit i)
  unfolding child listed frame lower inject
  list_leads b e v o inside bits =
      let t = tree (d - 1) s (p + 1) in
      let k = bound_log2 b.value - 1 in
      let below = first (given_head (Listed b) g refl e) in
      let ss = map (λ x. inject t x) v in
      sought_leads (ahead_in_list after k (lower t) ss i) i v bit _ below
      (rw (length-map v (λ x. inject t x)) at (found (d - 1) W (p + 1) (lower t) fr (wide_is below w) k ss bit i (rw (length-map v (λ x. inject t x)) o.0) (each_shape t v o.1) (inside.0, bits)))

  pub option_leads : head_at s p ≡ Opt → let t = option (tree (d - 1) s (p + 1)) in (v : Value t) → Valid t v → Inside fr bit (width (lower t)) → bits_at fr bit (width (lower t)) ≡ frame after t v
      → Leads s E (child after t i v) bit (listed (d - 1) W bound_two (p + 1) fr bit i)
  unfolding child listed frame lower inject bits bound_log2
  option_leads e v o inside bits = go i v bits
    where
      t : Ty
      t = tree (d - 1) s (p + 1)

      below : Given (d - 1) false s E (p + 1)
      below = first (given_head Opt g refl e)

      tag : (b : Bool) (l : List Bool) → bits_at fr bit (width (𝟙 ⊕ lower t)) ≡ b ∷ l → tag_at fr bit ≡ b
      tag b l k = tag_is fr bit 𝟙 (lower t) b l inside.0 k

      at_place : (j : ℕ) (v : Value (option t)) {x : Optional Spot} → listed (d - 1) W bound_two (p + 1) fr bit j ≡ x → Leads s E (child after (option t) j v) bit x → Leads s E (child after (option t) j v) bit (listed (d - 1) W bound_two (p + 1) fr bit j)
      at_place j v f h = subst (Leads s E (child after (option t) j v) bit) (sym f) h

      go : (j : ℕ) (v : Value (option t)) → bits_at fr bit (width (𝟙 ⊕ lower t)) ≡ frame after (option t) v → Leads s E (child after (option t) j v) bit (listed (d - 1) W bound_two (p + 1) fr bit j)
      go zero none k = at_place zero none (none_there (d - 1) W (p + 1) fr bit 0 (tag false _ k)) refl
      go (suc j) none k = at_place (suc j) none (none_there (d - 1) W (p + 1) fr bit (suc j) (tag false _ k)) refl
      go zero (some x) k = at_place zero (some x) (one_there (d - 1) W (p + 1) fr bit 0 (tag true _ k) (omega arith)) (record { part = _; there = refl; given = below; same = refl; begins = omega arith })
      go (suc j) (some x) k = at_place (suc j) (some x) (one_gone (d - 1) W (p + 1) fr bit (suc j) (tag true _ k) (omega arith)) refl
