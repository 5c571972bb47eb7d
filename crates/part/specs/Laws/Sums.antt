-- The side of an Either and the Variant of an Enum that the tags in the frame lead to is the value's own, and its payload begins behind them.
use Rattle.std.specs.Prelude.{◌≡◌, Bool, ltb, eqb, take, drop, get_or, Option as Optional, Some, None}
use Rattle.std.proofs.Math.Path.{refl, sym, ap, subst}
use Rattle.std.proofs.Common.{ap₂, ◌∙◌, length-append, take_at, take-take, ltb-true, ltb-false, ne_eqb}
use Rattle.std.proofs.Math.Bool.{false, true}
use mathlib.Core.List.{List, [], ◌∷◌, ◌++◌, append_assoc}
use Rattle.std.proofs.Math.Logic.{inl, inr}
use Rattle.std.proofs.Math.Option.{Option, none}
use Prim.Native.Nat.{ℕ, zero, suc, ◌+◌, ◌-◌, ◌*◌, ◌≤◌, ◌<◌, max}
use native.Mathlib.Omega.{arith}
use Rattle.std.proofs.Math.Dec.{eqb-suc-zero}
use Rattle.std.proofs.Math.ListN.{length}
use Rattle.model.specs.Options.{pick, map_o}
use Rattle.model.specs.Bytes.{bits_of}
use Rattle.model.specs.Balanced.{BTree, leaf, fork, leaves, btree, grow, btree_split_index, next_power_of_two}
use Rattle.model.specs.Balanced as powers
use Rattle.model.specs.Structural.{SType}
use Rattle.model.specs.Types.{Ty, Tys, either, enum, nil, count}
use Rattle.model.specs.Lowering.{lower, payloads}
use Rattle.model.specs.Values.{Value, Values, Choice, Valid, Valids, ValidChoice, inject, index}
use Rattle.model.specs.Frames.{after, width, bits, frame}
use Rattle.model.specs.Parts.{Part, within, ahead_of_payload, part_of, choice_part, child}
use Rattle.model.proofs.Laws.Shapes.{index_bound}
use Rattle.model.proofs.Laws.Parts.{frame_enum}
use Rattle.types.specs.declared.Head.TheVariants.{Either, Variants}
use Rattle.types.specs.declared.Rec.{Rec}
use Rattle.types.specs.declared.Rec.TheVariants.{Gone, Wrong, Types, Enum, Variant}
use Rattle.types.specs.Record.{head_at, rec_at}
use Rattle.types.specs.Walks.{walk}
use Rattle.types.specs.Trees.{end_of, cases, payload, tree, treev}
use Rattle.types.specs.Steps.{Given, GivenRow, given_below, given_end, given_head, given_levels, treev_in, count_cases}
use Rattle.table.specs.Measuring.{some_variants}
use Rattle.bits.specs.Bits.{bits_at, Inside}
use Rattle.bits.specs.Laws.Runs.{length_bits_at}
use Rattle.told.specs.Widths.{Wide}
use Rattle.told.specs.Forms.{hops}
use Rattle.told.specs.Laws.Rows.{first, rest}
use Rattle.accept.specs.Forms.{tag_at, farther, led, choice_in}
use Rattle.accept.specs.Laws.Bits.{first_bit}
use Rattle.part.specs.declared.Spot.{Spot}
use Rattle.part.specs.Forms.{spot, among, side, variant, in_variant}
use Rattle.part.specs.Holds.{Leads}
use Rattle.part.specs.Laws.Rows.{row_leads, leads_within}

-- AN ENUM HAS A VARIANT

some_variant : (s : List ℕ) (p n : ℕ) → head_at s p ≡ Variants n → 1 ≤ n
some_variant s p zero e = absurd (some_variants s p e)
some_variant s p (suc n) e = omega arith

-- TAGS

-- these bits stand from a bit on
record Begins (fr : List ℕ) (bit : ℕ) (xs : List Bool) : Type 0 where
  fits : bit + length xs ≤ 8 * length fr
  same : bits_at fr bit (length xs) ≡ xs

-- the first of them is the tag, and the others stand behind it
record Tagged (fr : List ℕ) (bit : ℕ) (b : Bool) (xs : List Bool) : Type 0 where
  tag : tag_at fr bit ≡ b
  others : Begins fr (bit + 1) xs

-- a run's first bit is its tag
first_tag : (fr : List ℕ) (bit n : ℕ) (b : Bool) (xs : List Bool) → bit < 8 * length fr → bits_at fr bit (suc n) ≡ b ∷ xs → tag_at fr bit ≡ b
first_tag fr bit n b xs l e = ap (λ l. get_or l 0 false) (sym (first_bit fr bit n l) ∙ e)

tagged : (fr : List ℕ) (bit : ℕ) (b : Bool) (xs : List Bool) → Begins fr bit (b ∷ xs) → Tagged fr bit b xs
tagged fr bit b xs h =
    let l : bit + suc (length xs) ≤ 8 * length fr = h.fits in
    record { tag = first_tag fr bit (length xs) b xs (omega arith) h.same; others = record { fits = omega arith; same = ap (drop 1) (sym (first_bit fr bit (length xs) (omega arith)) ∙ h.same) } }

-- the front of what stands there
begins : (fr : List ℕ) (bit n : ℕ) (xs ys : List Bool) → bit + n ≤ 8 * length fr → bits_at fr bit n ≡ xs ++ ys → Begins fr bit xs
begins fr bit n xs ys h e =
    let l : length xs ≤ n = omega (arith, length-append xs ys, sym (ap length e) ∙ length_bits_at fr bit n h) in
    record { fits = omega arith; same = sym (take-take (length xs) n (drop bit (bits_of fr)) l) ∙ ap (take (length xs)) e ∙ take_at xs ys (length xs) refl }

-- the tags that are written ahead of a choice's payload lead to it
led_to : (t : BTree) (ts : List SType) (fr : List ℕ) (bit i : ℕ) → i < leaves t → Begins fr bit (ahead_of_payload after t ts i) → led t fr bit ≡ (i, bit + length (ahead_of_payload after t ts i))
unfolding led ahead_of_payload
led_to leaf ts fr bit i h k =
    let a : 0 ≡ i = omega arith in
    let b : bit ≡ bit + 0 = omega arith in
    ap₂ {C = ℕ × ℕ} (λ x y. (x, y)) a b
led_to (fork l r) ts fr bit i h k =
    go (ltb i (leaves l)) refl (led_to l (take (leaves l) ts) fr (bit + 1) i) (led_to r (drop (leaves l) ts) fr (bit + 1) (i - leaves l)) k
  where
    xs : List Bool
    xs = ahead_of_payload after l (take (leaves l) ts) i

    ys : List Bool
    ys = ahead_of_payload after r (drop (leaves l) ts) (i - leaves l)

    go : (c : Bool) → ltb i (leaves l) ≡ c → (i < leaves l → Begins fr (bit + 1) xs → led l fr (bit + 1) ≡ (i, bit + 1 + length xs)) → (i - leaves l < leaves r → Begins fr (bit + 1) ys → led r fr (bit + 1) ≡ (i - leaves l, bit + 1 + length ys))
        → Begins fr bit (pick c (false ∷ xs) (true ∷ ys)) → ◌≡◌ {A = ℕ × ℕ} (elim (tag_at fr bit) [ false ↦ led l fr (bit + 1) | true ↦ farther (leaves l) (led r fr (bit + 1)) ]) (i, bit + length (pick c (false ∷ xs) (true ∷ ys)))
    go true e f g b =
        let a = tagged fr bit false xs b in
        let m : bit + 1 + length xs ≡ bit + suc (length xs) = omega arith in
        rw a.tag (f (ltb-true _ _ e) a.others ∙ ap {B = ℕ × ℕ} (λ n. (i, n)) m)
    go false e f g b =
        let a = tagged fr bit true ys b in
        let q : leaves l ≤ i = ltb-false _ _ e in
        let j : leaves l + (i - leaves l) ≡ i = omega arith in
        let m : bit + 1 + length ys ≡ bit + suc (length ys) = omega arith in
        rw a.tag (ap (farther (leaves l)) (g (omega arith) a.others) ∙ ap₂ {C = ℕ × ℕ} (λ x y. (x, y)) j m)

-- THE VARIANT PRESENT

-- a part of what is itself a part, with no bits ahead of that
leads_as : (s E : List ℕ) {X Y : Type 0} (f : X → Y) (o : Option (Part X)) (bit : ℕ) (x : Optional Spot) → Leads s E o bit x → Leads s E (map_o (within f []) o) bit x
leads_as s E f o bit x h = let a : bit ≡ bit + 0 = omega arith in leads_within s E f [] o bit x (subst (λ b. Leads s E o b x) a h)

-- of no types there is no part
no_part : (i : ℕ) (ts : Tys) → ts ≡ nil → (v : Values ts) → part_of after ts i v ≡ none
unfolding part_of
no_part i ts k = subst (λ ts. (v : Values ts) → part_of after ts i v ≡ none) (sym k) (λ v. refl)

module _ (e : ℕ) (s E W : List ℕ) (w : Wide s E W) (bit i : ℕ) where
  -- of the Variant at a record
  payload_leads : (p : ℕ) → Given e true s E p → (v : Values (treev e s p)) → Valids (treev e s p) v → Leads s E (part_of after (treev e s p) i v) bit (in_variant (rec_at s p) e E W p bit i)
  unfolding in_variant payload
  payload_leads p g v o = go (rec_at s p) refl (treev e s p) (treev_in s p e (rec_at s p) (rec_at s p) (given_levels g) refl refl) v o
    where
      go : (r : Rec) → rec_at s p ≡ r → (ts : Tys) → ts ≡ payload r (tree (e - 1) s) (walk (e - 1) false s) (p + 1) → (v : Values ts) → Valids ts v → Leads s E (part_of after ts i v) bit (in_variant r e E W p bit i)
      go Gone q ts k v o = no_part i ts k v
      go Wrong q ts k v o = no_part i ts k v
      go (Types n) q ts k v o = no_part i ts k v
      go (Enum n) q ts k v o = no_part i ts k v
      go (Variant n) q ts k v o = subst (λ ts. (v : Values ts) → Valids ts v → Leads s E (part_of after ts i v) bit (among (e - 1) E W n (p + 1) bit i)) (sym k) (row_leads n (p + 1) bit i (given_below (Variant n) g refl q) w) v o

  -- of the one of several that a value has
  case_leads : (n p : ℕ) → GivenRow e true s E (suc n) p → (c : Choice (cases (treev e s) (walk e true s) n p)) → ValidChoice (cases (treev e s) (walk e true s) n p) c → let q = hops E (index (cases (treev e s) (walk e true s) n p) c) p in
      Leads s E (choice_part after (cases (treev e s) (walk e true s) n p) i c) bit (in_variant (rec_at s q) e E W q bit i)
  unfolding cases choice_part inject hops
  case_leads zero p g c o = payload_leads p (first g) c o
  case_leads (suc n) p g (inl c) o = leads_as s E {Y = Choice (cases (treev e s) (walk e true s) (suc n) p)} inl (part_of after (treev e s p) i c) bit (in_variant (rec_at s p) e E W p bit i) (payload_leads p (first g) c o)
  case_leads (suc n) p g (inr c) o =
      let vs = cases (treev e s) (walk e true s) n (end_of (walk e true s p)) in
      let q = hops E (index vs c) (get_or E p 0) in
      leads_as s E {Y = Choice (cases (treev e s) (walk e true s) (suc n) p)} inr (choice_part after vs i c) bit (in_variant (rec_at s q) e E W q bit i)
      (subst (λ j. Leads s E (choice_part after vs i c) bit (in_variant (rec_at s (hops E (index vs c) j)) e E W (hops E (index vs c) j) bit i)) (sym (given_end (first g))) (case_leads n (end_of (walk e true s p)) (rw (given_end (first g)) at (rest g)) c o))

-- THE SIDE PRESENT

module _ (e : ℕ) (s E : List ℕ) (q : ℕ) (fr : List ℕ) (bit : ℕ) where
  -- the side that the tag says, if it is the one that was asked for
  abbrev tagged_side : Bool → ℕ → Optional Spot
  tagged_side false i = pick (eqb i 0) (Some (spot q e (bit + 1))) None
  tagged_side true i = pick (eqb i 1) (Some (spot (get_or E q 0) e (bit + 1))) None

  side_is : (i : ℕ) → side e E q fr bit i ≡ tagged_side (tag_at fr bit) i
  unfolding side choice_in led hops btree grow btree_split_index next_power_of_two powers.next
  side_is i = go (tag_at fr bit)
    where
      found : ℕ × ℕ → Optional Spot
      found x = pick (eqb i x.0) (Some (spot (hops E x.0 q) e x.1)) None

      go : (x : Bool) → found (elim x [ false ↦ (0, bit + 1) | true ↦ (1, bit + 1) ]) ≡ tagged_side x i
      go true = refl
      go false = refl

  module _ (a b : Ty) (g : Given e false s E q) (h : Given e false s E (get_or E q 0)) (j : tree e s q ≡ a) (k : tree e s (get_or E q 0) ≡ b) where
    left_leads : (i : ℕ) (x : Value a) → Leads s E (child after (either a b) i (inl x)) bit (tagged_side false i)
    unfolding child
    left_leads zero x = record { part = _; there = refl; given = g; same = j; begins = refl }
    left_leads (suc zero) x = refl
    left_leads (suc (suc i)) x = rw (eqb-suc-zero (suc i)) refl

    right_leads : (i : ℕ) (y : Value b) → Leads s E (child after (either a b) i (inr y)) bit (tagged_side true i)
    unfolding child
    right_leads zero y = refl
    right_leads (suc zero) y = record { part = _; there = refl; given = h; same = k; begins = refl }
    right_leads (suc (suc i)) y = rw (ne_eqb (suc (suc i)) 1 (λ e. omega arith)) refl

    side_leads : (i : ℕ) (v : Value (either a b)) → bit < 8 * length fr → bits_at fr bit (width (lower (either a b))) ≡ frame after (either a b) v → Leads s E (child after (either a b) i v) bit (side e E q fr bit i)
    unfolding frame bits lower inject
    side_leads i (inl x) l f = let t : tag_at fr bit ≡ false = first_tag fr bit (max (width (lower a)) (width (lower b))) false _ l f in rw (side_is i, t) (left_leads i x)
    side_leads i (inr y) l f = let t : tag_at fr bit ≡ true = first_tag fr bit (max (width (lower a)) (width (lower b))) true _ l f in rw (side_is i, t) (right_leads i y)

module _ {d : ℕ} {s E W : List ℕ} {p : ℕ} (fr : List ℕ) (bit i : ℕ) (g : Given d false s E p) (w : Wide s E W) where
  pub either_leads : head_at s p ≡ Either → let t = either (tree (d - 1) s (p + 1)) (tree (d - 1) s (end_of (walk (d - 1) false s (p + 1)))) in (v : Value t) → Valid t v → Inside fr bit (width (lower t)) → bits_at fr bit (width (lower t)) ≡ frame after t v
      → Leads s E (child after t i v) bit (side (d - 1) E (p + 1) fr bit i)
  unfolding lower
  either_leads e v o inside written =
      let two = given_head Either g (sym e) refl in
      let q = first two in
      side_leads (d - 1) s E (p + 1) fr bit (tree (d - 1) s (p + 1)) (tree (d - 1) s (end_of (walk (d - 1) false s (p + 1)))) q (first (rest two)) refl (ap (tree (d - 1) s) (given_end q)) i v (omega (arith, inside.0)) written

  pub enum_leads : (n : ℕ) → head_at s p ≡ Variants n → let t = enum (cases (treev (d - 1) s) (walk (d - 1) true s) (n - 1) (p + 1)) in (v : Value t) → Valid t v → Inside fr bit (width (lower t)) → bits_at fr bit (width (lower t)) ≡ frame after t v
      → Leads s E (child after t i v) bit (variant (d - 1) s E W n (p + 1) fr bit i)
  unfolding choice_in variant child
  enum_leads n e v o inside written =
      let vs = cases (treev (d - 1) s) (walk (d - 1) true s) (n - 1) (p + 1) in
      let xs = ahead_of_payload after (btree (count vs)) (payloads vs) (index vs v) in
      let l = some_variant s p n e in
      let a : n ≡ suc (n - 1) = omega arith in
      let b = begins fr bit (width (lower (enum vs))) xs _ inside.0 (written ∙ (frame_enum after vs v).splits v (o, refl) ∙ append_assoc xs _ _) in
      let f : choice_in n fr bit ≡ (index vs v, bit + length xs) = ap (λ m. choice_in m fr bit) (a ∙ sym (count_cases _ _ (n - 1) (p + 1))) ∙ led_to (btree (count vs)) (payloads vs) fr bit (index vs v) (index_bound vs v) b in
      let found : ℕ × ℕ → Optional Spot = λ x. in_variant (rec_at s (hops E x.0 (p + 1))) (d - 1) E W (hops E x.0 (p + 1)) x.1 i in
      subst (λ x. Leads s E (child after (enum vs) i v) bit (found x)) (sym f)
      (leads_within s E (λ d. d) xs (choice_part after vs i v) bit (found (index vs v, bit + length xs)) (case_leads (d - 1) s E W w (bit + length xs) i (n - 1) (p + 1) (subst (λ m. GivenRow (d - 1) true s E m (p + 1)) a (given_head (Variants n) g (sym e) refl)) v o))
