-- Laws of what stands at a record: it is the tree or the list that the record's form says of what stands below it (`formed`).
use Rattle.std.specs.Prelude.{◌≡◌, Bool, length, get_or, replicate, Result, Ok}
use Rattle.std.proofs.Math.Path.{refl, sym, ap, ap₂}
use Rattle.std.proofs.Common.{◌∙◌, sub-one, Fits}
use Rattle.std.proofs.Math.Bool.{true, false}
use mathlib.Core.List.{List, [], ◌∷◌}
use Prim.Native.Nat.{ℕ, zero, suc, ◌+◌, ◌-◌, ◌^◌, ◌≤◌, ◌<◌}
use native.Mathlib.Omega.{arith}
use Rattle.std.specs.Int.{w64}
use Rattle.std.proofs.lemmas.List.{length-replicate}
use Rattle.num.specs.declared.NonZeroPow2Usize.{NonZeroPow2Usize}
use Rattle.num.specs.Powers.{bound_two, bound_log2}
use Rattle.model.specs.Balanced.{next_power_of_two, btree_split_index, btree, grow, fold}
use Rattle.model.specs.Balanced as powers
use Rattle.model.specs.Structural.{SType, 𝟙, ◌⊕◌, ◌⊗◌, product_of, partition_type}
use Rattle.model.specs.Lowering.{lower, lowers, payloads}
use Rattle.model.specs.Types.{enum, last, more, count}
use Rattle.model.specs.Types as model
use Rattle.types.specs.declared.Head.{Head}
use Rattle.types.specs.declared.Head.TheVariants.{Missing, Faulty, Never, Boolean, UInt, Either, Opt, Tuple, Array, Listed, Variants, Payload}
use Rattle.types.specs.declared.Rec.{Rec}
use Rattle.types.specs.declared.Rec.TheVariants.{Gone, Wrong, Enum, Variant}
use Rattle.types.specs.declared.Rec.TheVariants as rec
use Rattle.types.specs.Record.{head_at, calls_for, rec_at}
use Rattle.types.specs.Heads.{Fair}
use Rattle.types.specs.Walks.{opens, walk}
use Rattle.types.specs.Trees.{end_of, kids, cases, node, payload, tree, treev}
use Rattle.types.specs.Unique.{bad_end}
use Rattle.types.specs.Steps.{Given, GivenRow, given_levels, given_within, given_inside, given_head, given_first, given_rest, given_end, tree_in, treev_in}
use Rattle.types.specs.Lows.{low, lows, length_lows, lows_kids, lows_cases}
use Rattle.structural.specs.declared.Form.{Form}
use Rattle.structural.specs.declared.Form.TheVariants as form
use Rattle.structural.specs.declared.Parts.{Parts}
use Rattle.structural.specs.declared.Parts.TheVariants.{Bits, Copies, Types, Choices}
use Rattle.structural.specs.Forms.{most_parts, form_of, is_variant, standing, ending, Stands, join, part, after, skip, row, balanced, GivenPart, GivenParts, listed}
use Rattle.structural.proofs.Laws.Bounds.{width_small}
use Rattle.structural.proofs.Laws.Trees.{row_stays, balanced_none, copies, given_copies}
use Rattle.reply.specs.declared.Refusal.{Refusal}

-- WHAT STANDS AT A RECORD

opened_variant : (v : Bool) (r : Rec) (k : Bool → ℕ → Result ℕ Refusal) (e : ℕ) → opens v r k ≡ Ok e → is_variant r ≡ v
unfolding opens
opened_variant v Gone k e h = bad_end h
opened_variant v Wrong k e h = bad_end h
opened_variant false (rec.Types n) k e h = refl
opened_variant false (Enum n) k e h = refl
opened_variant false (Variant n) k e h = bad_end h
opened_variant true (rec.Types n) k e h = bad_end h
opened_variant true (Enum n) k e h = bad_end h
opened_variant true (Variant n) k e h = refl

-- where a Variant is expected one stands, and nowhere else
pub walked_variant : (d : ℕ) (v : Bool) (s : List ℕ) (p e : ℕ) → walk d v s p ≡ Ok e → is_variant (rec_at s p) ≡ v
unfolding walk
walked_variant zero v s p e h = opened_variant v (rec_at s p) _ e h
walked_variant (suc d) v s p e h = opened_variant v (rec_at s p) _ e h

module _ {d : ℕ} {v : Bool} {s E : List ℕ} {p : ℕ} (g : Given d v s E p) where
  pub is_kind : is_variant (rec_at s p) ≡ v
  is_kind = walked_variant d v s p g.starts.end g.starts.walks

  pub stands : Stands d s E p
  stands = record { given = rw is_kind g }

  pub standing_is : standing d s p ≡ low d v s p
  unfolding standing
  standing_is = rw is_kind

  pub ending_is : ending d s p ≡ end_of (walk d v s p)
  unfolding ending
  ending_is = rw is_kind

pub stands_end : {d : ℕ} {s E : List ℕ} {p : ℕ} → Stands d s E p → get_or E p 0 ≡ ending d s p
unfolding ending
stands_end g = given_end g.given

-- a level is left for it, and it stands in the file and in the table
module _ {d : ℕ} {s E : List ℕ} {p : ℕ} (g : Stands d s E p) where
  pub level_some : 1 ≤ d
  level_some = let h = given_levels g.given in omega arith

  pub next_fits : length s < 2 ^ 64 → Fits w64 (p + 1)
  next_fits l = let h = given_within g.given in omega arith

  pub stands_inside : p < length E
  stands_inside = given_inside g.given

-- PARTS THAT STAND IN THE FILE

-- t is the tree of the parts from p on
pub record TreeOf (k : Parts) (n d : ℕ) (s E : List ℕ) (p : ℕ) (t : SType) : Type 0 where
  pub few : n ≤ most_parts
  pub given : GivenParts k d s E n p
  pub same : t ≡ balanced k d s n p

-- t is the list of what stands at p
pub record ListOf (b : NonZeroPow2Usize) (d : ℕ) (s E : List ℕ) (p : ℕ) (t : SType) : Type 0 where
  pub given : Stands d s E p
  pub same : t ≡ listed d s b p

abbrev pub Formed : Form → ℕ → List ℕ → List ℕ → ℕ → SType → Type 0
Formed (form.Tree k n) d s E p t = TreeOf k n d s E p t
Formed (form.List b) d s E p t = ListOf b d s E p t

-- parts one after the other are what stands in the file one after the other
module _ (k : Parts) (d : ℕ) (v : Bool) (s E : List ℕ) (one : (q : ℕ) → part k d s q ≡ standing d s q) (next : (q : ℕ) → after k d s q ≡ ending d s q) (stand : (q : ℕ) → Stands d s E q → GivenPart k d s E q) where
  first : {n p : ℕ} → GivenRow d v s E (suc n) p → Given d v s E p
  first g = given_first (λ e. omega arith) g

  further : {n p : ℕ} → GivenRow d v s E (suc n) p → GivenRow d v s E n (after k d s p)
  further {p = p} g = rw (next p, ← stands_end (stands (first g))) (rw sub-one at (given_rest (λ e. omega arith) g))

  each_stands : (i n p : ℕ) → i < n → GivenRow d v s E n p → GivenPart k d s E (skip k d s i p)
  unfolding skip
  each_stands i zero p l g = absurd (omega arith)
  each_stands zero (suc n) p l g = stand p (stands (first g))
  each_stands (suc i) (suc n) p l g = each_stands i n (after k d s p) (omega arith) (further g)

  row_is : (n p : ℕ) → GivenRow d v s E n p → row k d s n p ≡ lows d v s n p
  unfolding row lows
  row_is zero p g = refl
  row_is (suc n) p g = ap₂ {C = List SType} ◌∷◌ (one p ∙ standing_is (first g)) (row_is n (after k d s p) (further g) ∙ ap (λ q. lows d v s n q) (next p ∙ ending_is (first g)))

  in_row : (n p : ℕ) → n ≤ most_parts → GivenRow d v s E n p → TreeOf k n d s E p (fold (join k) 𝟙 (btree n) (lows d v s n p))
  unfolding balanced
  in_row n p h g = record { few = h; given = record { each = λ i l. each_stands i n p l g }; same = ap (fold (join k) 𝟙 (btree n)) (sym (row_is n p g)) }

module _ (d : ℕ) (s E : List ℕ) where
  no_parts : (p : ℕ) → TreeOf Types 0 d s E p 𝟙
  no_parts p = record { few = omega arith; given = record { each = λ i l. absurd (omega arith) }; same = sym (balanced_none Types d s p) }

  bits_tree : (n p : ℕ) → n ≤ most_parts → TreeOf Bits n d s E p (product_of (replicate n (𝟙 ⊕ 𝟙)))
  unfolding balanced part after
  bits_tree n p h = record {
    few = h;
    given = record { each = λ i l. tt };
    same = ap (λ i. fold ◌⊗◌ 𝟙 (btree i) (replicate n (𝟙 ⊕ 𝟙))) (length-replicate n (𝟙 ⊕ 𝟙)) ∙ ap (fold ◌⊗◌ 𝟙 (btree n)) (sym (row_stays Bits d s (λ q. refl) n p));
  }

  types_tree : (v : Bool) (n p : ℕ) → n ≤ most_parts → GivenRow d v s E n p → TreeOf Types n d s E p (fold ◌⊗◌ 𝟙 (btree n) (lows d v s n p))
  unfolding part after
  types_tree v = in_row Types d v s E (λ q. refl) (λ q. refl) (λ q g. g)

  choices_tree : (v : Bool) (n p : ℕ) → n ≤ most_parts → GivenRow d v s E n p → TreeOf Choices n d s E p (fold ◌⊕◌ 𝟙 (btree n) (lows d v s n p))
  unfolding part after
  choices_tree v = in_row Choices d v s E (λ q. refl) (λ q. refl) (λ q g. g)

  copies_tree : (n p : ℕ) → n ≤ most_parts → Stands d s E p → TreeOf Copies n d s E p (product_of (replicate n (standing d s p)))
  copies_tree n p h g = record { few = h; given = given_copies n g; same = sym (copies d s n p) }

-- THE KINDS OF TYPES

count_payloads : (vs : model.Variants) → count vs ≡ length (payloads vs)
unfolding lower
count_payloads (last ts) = refl
count_payloads (more ts vs) = ap suc (count_payloads vs)

module _ (d : ℕ) (s : List ℕ) where
  -- a tuple's type, and an Enum's
  tuple_is : (n p : ℕ) → product_of (lowers (kids (tree d s) (walk d false s) n p)) ≡ fold ◌⊗◌ 𝟙 (btree n) (lows d false s n p)
  tuple_is n p = ap product_of (lows_kids d s n p) ∙ ap (λ i. fold ◌⊗◌ 𝟙 (btree i) (lows d false s n p)) (length_lows d false s n p)

  enum_is : (n p : ℕ) → 1 ≤ n → lower (enum (cases (treev d s) (walk d true s) (n - 1) p)) ≡ fold ◌⊕◌ 𝟙 (btree n) (lows d true s n p)
  unfolding lower
  enum_is n p h =
      let vs = cases (treev d s) (walk d true s) (n - 1) p in
      let e : suc (n - 1) ≡ n = omega arith in
      ap (λ i. fold ◌⊕◌ 𝟙 (btree i) (payloads vs)) (count_payloads vs)
      ∙ ap (λ l. fold ◌⊕◌ 𝟙 (btree (length l)) l) (lows_cases d s (n - 1) p ∙ ap (λ i. lows d true s i p) e)
      ∙ ap (λ i. fold ◌⊕◌ 𝟙 (btree i) (lows d true s n p)) (length_lows d true s n p)

-- an Either's
sum_of_two : (a b : SType) → fold ◌⊕◌ 𝟙 (btree 2) (a ∷ b ∷ []) ≡ a ⊕ b
unfolding fold btree grow btree_split_index next_power_of_two powers.next
sum_of_two a b = refl

-- an Option's
option_is : (d : ℕ) (s : List ℕ) (p : ℕ) → listed d s bound_two p ≡ 𝟙 ⊕ standing d s p
unfolding listed bound_log2 partition_type fold btree grow
option_is d s p = refl

only : {d : ℕ} {v : Bool} {s E : List ℕ} {p : ℕ} → GivenRow d v s E 1 p → Given d v s E p
only g = given_first (λ e. omega arith) g

module _ {d : ℕ} {s E : List ℕ} {p : ℕ} (g : Stands d s E p) where
  type_is : (h : Head) → h ≡ head_at s p → is_variant (calls_for h) ≡ false → standing d s p ≡ lower (node h (tree (d - 1) s) (walk (d - 1) false s) (treev (d - 1) s) (walk (d - 1) true s) (p + 1))
  unfolding standing low rec_at
  type_is h e f = ap (λ (x : Head). low d (is_variant (calls_for x)) s p) (sym e) ∙ ap (λ b. low d b s p) f ∙ ap lower (tree_in s p d h h (given_levels g.given) e refl)

  payload_is : (n : ℕ) → Payload n ≡ head_at s p → standing d s p ≡ product_of (lowers (kids (tree (d - 1) s) (walk (d - 1) false s) n (p + 1)))
  unfolding standing low rec_at payload
  payload_is n e = ap (λ (x : Head). low d (is_variant (calls_for x)) s p) (sym e) ∙ ap (λ t. product_of (lowers t)) (treev_in s p d (rec_at s p) (Variant n) (given_levels g.given) refl (ap calls_for (sym e)))

  -- what stands at a record is what its form says of what stands below it
  pub formed : (h : Head) → h ≡ head_at s p → Fair h → Formed (form_of h) (d - 1) s E (p + 1) (standing d s p)
  unfolding node lower low lows listed fold btree grow
  formed Missing e f = rw (type_is Missing e refl) (no_parts (d - 1) s E (p + 1))
  formed Faulty e f = rw (type_is Faulty e refl) (no_parts (d - 1) s E (p + 1))
  formed Never e f = rw (type_is Never e refl) (no_parts (d - 1) s E (p + 1))
  formed Boolean e f = rw (type_is Boolean e refl) (bits_tree (d - 1) s E 1 (p + 1) (omega arith))
  formed (UInt w) e f = rw (type_is (UInt w) e refl) (bits_tree (d - 1) s E w.value (p + 1) (width_small w))
  formed Either e f = rw (type_is Either e refl, ← sum_of_two) (choices_tree (d - 1) s E false 2 (p + 1) (omega arith) (given_head Either g.given e refl))
  formed Opt e f =
      let b = only (given_head Opt g.given e refl) in
      record { given = stands b; same = type_is Opt e refl ∙ sym (option_is (d - 1) s (p + 1) ∙ ap (λ t. 𝟙 ⊕ t) (standing_is b)) }
  formed (Tuple n) e f = rw (type_is (Tuple n) e refl, tuple_is (d - 1) s n (p + 1)) (types_tree (d - 1) s E false n (p + 1) (omega arith) (given_head (Tuple n) g.given e refl))
  formed (Array n) e f =
      let b = only (given_head (Array n) g.given e refl) in
      rw (type_is (Array n) e refl, ← standing_is b) (copies_tree (d - 1) s E n (p + 1) (omega arith) (stands b))
  formed (Listed b) e f =
      let c = only (given_head (Listed b) g.given e refl) in
      record { given = stands c; same = type_is (Listed b) e refl ∙ ap (partition_type (bound_log2 b.value - 1)) (sym (standing_is c)) }
  formed (Variants n) e f = rw (type_is (Variants n) e refl, enum_is (d - 1) s n (p + 1) f.0) (choices_tree (d - 1) s E true n (p + 1) (omega arith) (given_head (Variants n) g.given e refl))
  formed (Payload n) e f = rw (payload_is n e, tuple_is (d - 1) s n (p + 1)) (types_tree (d - 1) s E false n (p + 1) (omega arith) (given_head (Payload n) g.given e refl))
