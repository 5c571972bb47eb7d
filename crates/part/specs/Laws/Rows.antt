-- Parts that stand one behind the other: the place found for part i is the part's own. Of a row's parts, and of copies of one type.
use Rattle.std.specs.Prelude.{◌≡◌, Bool, true, List, [], ◌∷◌, map, ltb, set, get_or, Option as Optional, Some, None}
use Rattle.std.proofs.Math.Path.{refl, ap}
use Rattle.std.proofs.Common.{sym, subst₂, ◌∙◌, suc-mul, arith, length-append, ltb-true, ltb-false}
use Rattle.std.proofs.Math.Bool.{false}
use Rattle.std.proofs.Math.Option.{Option, none, some}
use Prim.Native.Nat.{ℕ, zero, suc, ◌+◌, ◌-◌, ◌*◌, ◌≤◌, ◌<◌}
use Rattle.std.proofs.Math.ListN.{length, get_elem?}
use Rattle.std.proofs.lemmas.List.{length-map}
use Rattle.model.specs.Options.{pick, map_o, All}
use Rattle.model.specs.Structural.{SType, SValue, Belongs}
use Rattle.model.specs.Types.{Ty, tuple, array}
use Rattle.model.specs.Values.{Value, Values, Valid, Valids, inject}
use Rattle.model.specs.Lowering.{lower}
use Rattle.model.specs.Frames.{after, width, bits, frame}
use Rattle.model.specs.Parts.{Part, within, element_of, ahead_in_array, part_of, child}
use Rattle.model.proofs.Laws.Options.{All-map}
use Rattle.model.proofs.Laws.Frames.{length_bits}
use Rattle.model.proofs.Laws.Partitions.{Each}
use Rattle.model.proofs.Laws.Shapes.{inject_belongs}
use Rattle.model.proofs.Laws.FrameFiles.{length_frame}
use Rattle.types.specs.declared.Head.TheVariants.{Tuple, Array}
use Rattle.types.specs.Record.{head_at}
use Rattle.types.specs.Walks.{walk}
use Rattle.types.specs.Trees.{end_of, kids, tree}
use Rattle.types.specs.Steps.{Given, GivenRow, given_head, given_end}
use Rattle.types.specs.Lows.{low}
use Rattle.structural.proofs.Laws.Forms.{stands, standing_is}
use Rattle.told.specs.Forms.{hops}
use Rattle.told.specs.Widths.{Wide}
use Rattle.told.specs.Laws.Rows.{first, rest}
use Rattle.part.specs.declared.Spot.{Spot}
use Rattle.part.specs.Forms.{spot, wide_row, among, copy}
use Rattle.part.specs.Holds.{Reached, Leads}

-- a part of what is itself a part begins as many bits later as are written ahead of that
reached_within : {s E : List ℕ} {X Y : Type 0} (f : X → Y) (k : List Bool) {o : Option (Part X)} {bit p d b : ℕ} → Reached s E o (bit + length k) p d b → Reached s E (map_o (within f k) o) bit p d b
reached_within f k h = record { part = within f k h.part; there = ap (map_o (within f k)) h.there; given = h.given; same = h.same; begins = h.begins ∙ omega (arith, length-append k h.part.ahead) }

-- the same place under other names
reached_as : {s E : List ℕ} {X : Type 0} {o : Option (Part X)} {bit p q d a b : ℕ} → p ≡ q → a ≡ b → Reached s E o bit q d b → Reached s E o bit p d a
reached_as {s} {E} {o = o} {bit} {d = d} e f h = subst₂ (λ p b. Reached s E o bit p d b) (sym e) (sym f) h

-- of any place
pub leads_within : (s E : List ℕ) {X Y : Type 0} (f : X → Y) (k : List Bool) (o : Option (Part X)) (bit : ℕ) (x : Optional Spot) → Leads s E o (bit + length k) x → Leads s E (map_o (within f k) o) bit x
leads_within s E f k o bit None h = ap (map_o (within f k)) h
leads_within s E f k o bit (Some x) h = reached_within f k h

-- the table's width is that of the type's frame
pub wide_is : {d : ℕ} {s E W : List ℕ} {p : ℕ} → Given d false s E p → Wide s E W → get_or W p 0 ≡ width (lower (tree d s p))
unfolding low
wide_is {d} {p = p} g w = w.right d p (stands g) ∙ ap width (standing_is g)

-- A ROW

module _ (d : ℕ) (s E W : List ℕ) where
  -- part i of n is where the tables lead
  row_there : Wide s E W → (n p bit i : ℕ) → i < n → GivenRow d false s E n p → (v : Values (kids (tree d s) (walk d false s) n p)) → Valids (kids (tree d s) (walk d false s) n p) v
      → Reached s E (part_of after (kids (tree d s) (walk d false s) n p) i v) bit (hops E i p) d (bit + wide_row E W i p)
  unfolding kids part_of hops wide_row
  row_there w zero p bit i l g v o = absurd (omega arith)
  row_there w (suc n) p bit zero l g v o = record { part = _; there = refl; given = first g; same = refl; begins = refl }
  row_there w (suc n) p bit (suc i) l g v o =
      let t = tree d s p in
      let q = end_of (walk d false s p) in
      let k = frame after t v.0 in
      let e : bit + (get_or W p 0 + wide_row E W i q) ≡ bit + length k + wide_row E W i q = omega (arith, wide_is (first g) w, length_frame after t v.0 o.0) in
      reached_as (ap (hops E i) (given_end (first g))) (ap (λ j. bit + (get_or W p 0 + wide_row E W i j)) (given_end (first g)) ∙ e)
      (reached_within (λ r. (v.0, r)) k (row_there w n q (bit + length k) i (omega arith) (rw (given_end (first g)) at (rest g)) v.1 o.1))

  -- and none behind the last
  row_gone : (n p i : ℕ) → n ≤ i → (v : Values (kids (tree d s) (walk d false s) n p)) → part_of after (kids (tree d s) (walk d false s) n p) i v ≡ none
  unfolding kids part_of
  row_gone zero p i l v = refl
  row_gone (suc n) p zero l v = absurd (omega arith)
  row_gone (suc n) p (suc i) l v = ap (map_o _) (row_gone n (end_of (walk d false s p)) i (omega arith) v.1)

-- part i of n types, whatever the bit at which the first of them begins
pub row_leads : {d : ℕ} {s E W : List ℕ} (n p bit i : ℕ) → GivenRow d false s E n p → Wide s E W → (v : Values (kids (tree d s) (walk d false s) n p)) → Valids (kids (tree d s) (walk d false s) n p) v
    → Leads s E (part_of after (kids (tree d s) (walk d false s) n p) i v) bit (among d E W n p bit i)
unfolding among
row_leads {d} {s} {E} {W} n p bit i g w v o = go (ltb i n) refl
  where
    go : (x : Bool) → ltb i n ≡ x → Leads s E (part_of after (kids (tree d s) (walk d false s) n p) i v) bit (pick x (Some (spot (hops E i p) d (bit + wide_row E W i p))) None)
    go true e = row_there d s E W w n p bit i (ltb-true i n e) g v o
    go false e = row_gone d s E W n p i (ltb-false i n e) v

-- COPIES

-- so many bits stand ahead of element i of an array
pub length_ahead : (t : SType) (ss : List SValue) (i : ℕ) → i ≤ length ss → Each t ss → length (ahead_in_array after t ss i) ≡ i * width t
length_ahead t ss zero l h = omega arith
length_ahead t [] (suc i) l h = absurd (omega arith)
length_ahead t (s ∷ ss) (suc i) l h = length-append (bits after t s) (ahead_in_array after t ss i) ∙ omega (arith, length_bits after h.0, length_ahead t ss i (omega arith) h.1, suc-mul i (width t))

-- the shapes of values that are valid
pub each_shape : (t : Ty) (xs : List (Value t)) → All (λ x. Valid t x) xs → Each (lower t) (map (λ x. inject t x) xs)
each_shape t xs h = All-map (λ x. Valid t x) (Belongs (lower t)) (λ x. inject t x) (inject_belongs t) xs h

-- an element that is there, and one behind the last
known : {A : Type 0} (xs : List A) (i : ℕ) → i < length xs → (x : A) × (get_elem? xs i ≡ some x)
known [] i l = absurd (omega arith)
known (x ∷ xs) zero l = (x, refl)
known (x ∷ xs) (suc i) l = known xs i (omega arith)

unknown : {A : Type 0} (xs : List A) (i : ℕ) → length xs ≤ i → get_elem? xs i ≡ none
unknown [] i l = refl
unknown (x ∷ xs) zero l = absurd (omega arith)
unknown (x ∷ xs) (suc i) l = unknown xs i (omega arith)

-- element i of a list of values of the type at a record, behind these bits
pub element_there : {d : ℕ} {s E : List ℕ} {p : ℕ} (front : List Bool) (i : ℕ) (xs : List (Value (tree d s p))) (bit b : ℕ) → Given d false s E p → i < length xs → b ≡ bit + length front → Reached s E (element_of (tree d s p) front i xs) bit p d b
element_there {d} {s} {E} {p} front i xs bit b g l e =
    let (x, f) = known xs i l in
    record { part = record { type = tree d s p; value = x; put = λ w. set xs i w; ahead = front }; there = ap (map_o _) f; given = g; same = refl; begins = e }

pub element_gone : (t : Ty) (front : List Bool) (i : ℕ) (xs : List (Value t)) → length xs ≤ i → element_of t front i xs ≡ none
element_gone t front i xs l = ap (map_o _) (unknown xs i l)

-- THE KINDS

module _ {d : ℕ} {s E W : List ℕ} {p : ℕ} (bit i : ℕ) (g : Given d false s E p) (w : Wide s E W) where
  pub tuple_leads : (n : ℕ) → head_at s p ≡ Tuple n → (v : Value (tuple (kids (tree (d - 1) s) (walk (d - 1) false s) n (p + 1)))) → Valid (tuple (kids (tree (d - 1) s) (walk (d - 1) false s) n (p + 1))) v
      → Leads s E (child after (tuple (kids (tree (d - 1) s) (walk (d - 1) false s) n (p + 1))) i v) bit (among (d - 1) E W n (p + 1) bit i)
  unfolding child
  tuple_leads n e v o = row_leads n (p + 1) bit i (given_head (Tuple n) g refl e) w v o

  pub array_leads : (n : ℕ) → head_at s p ≡ Array n → (v : Value (array (tree (d - 1) s (p + 1)) n)) → Valid (array (tree (d - 1) s (p + 1)) n) v
      → Leads s E (child after (array (tree (d - 1) s (p + 1)) n) i v) bit (copy (d - 1) W n (p + 1) bit i)
  unfolding child copy
  array_leads n e v o = go (ltb i n) refl
    where
      t : Ty
      t = tree (d - 1) s (p + 1)

      below : Given (d - 1) false s E (p + 1)
      below = first (given_head (Array n) g refl e)

      front : List Bool
      front = ahead_in_array after (lower t) (map (inject t) v) i

      go : (x : Bool) → ltb i n ≡ x → Leads s E (element_of t front i v) bit (pick x (Some (spot (p + 1) (d - 1) (bit + i * get_or W (p + 1) 0))) None)
      go true f =
          let l = ltb-true i n f in
          let k : length front ≡ i * get_or W (p + 1) 0 = length_ahead (lower t) (map (inject t) v) i (omega (arith, length-map v (inject t), o.0)) (each_shape t v o.1) ∙ ap (λ m. i * m) (sym (wide_is below w)) in
          element_there front i v bit _ below (omega (arith, o.0)) (omega arith)
      go false f = element_gone t front i v (omega (arith, ltb-false i n f, o.0))
