-- What is seen at a record is what the form of the record says of what stands below it (`formed`).
use Rattle.std.specs.Prelude.{◌≡◌, Bool, true, false, List, [], ◌∷◌, replicate}
use Rattle.std.proofs.Math.Path.{refl, ap, ap₂}
use Rattle.std.proofs.Common.{sym, ◌∙◌}
use Rattle.std.proofs.Math.Option.{Option, none, some}
use Prim.Native.Nat.{ℕ, zero, suc, ◌+◌, ◌-◌, ◌*◌, ◌≤◌}
use native.Mathlib.Omega.{arith}
use Rattle.std.proofs.Math.ListN.{length}
use Rattle.std.proofs.lemmas.List.{length-replicate}
use Rattle.num.specs.declared.NonZeroPow2Usize.{NonZeroPow2Usize}
use Rattle.num.specs.Powers.{bound_two}
use Rattle.model.specs.Options.{map_o}
use Rattle.model.specs.Bytes.{of_bits}
use Rattle.model.specs.Balanced.{btree, fold}
use Rattle.model.specs.Structural.{SType, 𝟙, ◌⊕◌, ◌⊗◌, SValue}
use Rattle.model.specs.ValueFiles.{Rec, rec, bit_number}
use Rattle.model.specs.Frames.{width}
use Rattle.model.proofs.Laws.Sizes.{width_all, width_product_of, width_array, fold_one}
use Rattle.types.specs.declared.Head.{Head}
use Rattle.types.specs.declared.Head.TheVariants.{Missing, Faulty, Never, Boolean, UInt, Either, Opt, Tuple, Array, Listed, Variants}
use Rattle.types.specs.declared.Head.TheVariants as head
use Rattle.types.specs.Record.{head_at}
use Rattle.types.specs.Heads.{Fair}
use Rattle.structural.specs.Forms.{most_parts, Stands, standing, balanced, listed}
use Rattle.structural.specs.Forms as structural
use Rattle.structural.specs.declared.Parts as structural_parts
use Rattle.structural.specs.declared.Parts.TheVariants as parts
use Rattle.structural.proofs.Laws.Forms as structural_laws
use Rattle.structural.proofs.Laws.Trees.{row_stays}
use Rattle.types.specs.declared.forms.Parts.{Parts}
use Rattle.types.specs.declared.forms.Parts.TheVariants.{Copies, Types}
use Rattle.told.specs.Forms.{after, GivenParts}
use Rattle.record.specs.Trees.{part, product, sum, elements}
use Rattle.types.specs.declared.forms.Form.{Form}
use Rattle.types.specs.declared.forms.Form.TheVariants as form
use Rattle.types.specs.Forms.{form_of}
use Rattle.record.specs.Marks.{mark_of}
use Rattle.record.specs.Laws.Formed as records
use Rattle.accept.specs.Forms.{shape_at, stray_at, unless, plus, seen, types_in, row_width, seen_row, seen_sum, seen_list}
use Rattle.accept.specs.Laws.Products.{bit_shape, integer_bits, integer_stray}
use Rattle.accept.specs.Laws.Seen.{length_types, product_seen, sum_seen, list_seen}

-- there is no value
pub record NothingSeen (d : ℕ) (s : List ℕ) (p : ℕ) : Type 0 where
  pub same : (fr : List ℕ) (bit : ℕ) → seen d s p fr bit ≡ none

-- bits, which never stray
pub record BitsSeen (d : ℕ) (s : List ℕ) (p : ℕ) : Type 0 where
  pub same : (fr : List ℕ) (bit : ℕ) → bit + width (standing d s p) ≤ 8 * length fr → seen d s p fr bit ≡ some 1

-- a product: its record, and n parts
pub record ProductSeen (k : Parts) (n d : ℕ) (s E : List ℕ) (p : ℕ) : Type 0 where
  pub given : GivenParts k (d - 1) s E n (p + 1)
  pub wide : width (standing d s p) ≡ row_width k (d - 1) s n (p + 1)
  pub same : (fr : List ℕ) (bit : ℕ) → seen d s p fr bit ≡ plus (some 1) (seen_row k (d - 1) s n (p + 1) fr bit)

-- a sum: its record, and what was chosen
pub record SumSeen (n d : ℕ) (s E : List ℕ) (p : ℕ) : Type 0 where
  pub some_choice : 1 ≤ n
  pub few : n ≤ most_parts
  pub given : GivenParts Types (d - 1) s E n (p + 1)
  pub lowered : standing d s p ≡ fold ◌⊕◌ 𝟙 (btree n) (types_in Types (d - 1) s n (p + 1))
  pub same : (fr : List ℕ) (bit : ℕ) → bit + width (standing d s p) ≤ 8 * length fr → seen d s p fr bit ≡ plus (some 1) (seen_sum (d - 1) s E n (p + 1) fr bit (bit + width (standing d s p)))

-- a list: its record, and its elements
pub record ListSeen (b : NonZeroPow2Usize) (d : ℕ) (s E : List ℕ) (p : ℕ) : Type 0 where
  pub given : Stands (d - 1) s E (p + 1)
  pub lowered : standing d s p ≡ listed (d - 1) s b (p + 1)
  pub same : (fr : List ℕ) (bit : ℕ) → bit + width (standing d s p) ≤ 8 * length fr → seen d s p fr bit ≡ plus (some 1) (seen_list (d - 1) s b (p + 1) fr bit)

-- a Variant's payload: n parts, and no record of its own
pub record PayloadSeen (n d : ℕ) (s E : List ℕ) (p : ℕ) : Type 0 where
  pub given : GivenParts Types (d - 1) s E n (p + 1)
  pub wide : width (standing d s p) ≡ row_width Types (d - 1) s n (p + 1)
  pub same : (fr : List ℕ) (bit : ℕ) → seen d s p fr bit ≡ seen_row Types (d - 1) s n (p + 1) fr bit

-- by the form
abbrev pub Formed : Form → ℕ → List ℕ → List ℕ → ℕ → Type 0
Formed form.Nothing d s E p = NothingSeen d s p
Formed form.Bit d s E p = BitsSeen d s p
Formed (form.Integer w) d s E p = BitsSeen d s p
Formed (form.Product k n) d s E p = ProductSeen k n d s E p
Formed (form.Sum n) d s E p = SumSeen n d s E p
Formed (form.List b) d s E p = ListSeen b d s E p
Formed (form.Payload n) d s E p = PayloadSeen n d s E p

-- ONE RECORD MORE

marked : (r : Rec) (o : Option (List Rec)) → map_o length (map_o (λ rs. r ∷ rs) o) ≡ plus (some 1) (map_o length o)
marked r none = refl
marked r (some rs) = ap some (omega arith)

marked_numbered : (r : ℕ → Rec) (o : Option (ℕ × List Rec)) → map_o length (map_o (λ y. r y.0 ∷ y.1) o) ≡ plus (some 1) (map_o (λ y. length y.1) o)
marked_numbered r none = refl
marked_numbered r (some y) = ap some (omega arith)

unless_one : (a : Bool) (o : Option ℕ) → unless a (plus (some 1) o) ≡ plus (some 1) (unless a o)
unless_one true o = refl
unless_one false o = refl

unless_none : (a : Bool) → unless {A = ℕ} a none ≡ none
unless_none true = refl
unless_none false = refl

-- LOWERED TYPES

same_row : (j : structural_parts.Parts) (k : Parts) (d : ℕ) (s : List ℕ) → ((q : ℕ) → structural.part j d s q ≡ standing d s q) → ((q : ℕ) → structural.after j d s q ≡ after k d s q) → (n p : ℕ) → structural.row j d s n p ≡ types_in k d s n p
unfolding structural.row types_in
same_row j k d s one next zero p = refl
same_row j k d s one next (suc n) p = (λ i. one p i ∷ structural.row j d s n (next p i)) ∙ ap {B = List SType} (λ l. standing d s p ∷ l) (same_row j k d s one next n (after k d s p))

module _ (d : ℕ) (s : List ℕ) (n p : ℕ) where
  pub types_product : balanced parts.Types d s n p ≡ fold ◌⊗◌ 𝟙 (btree n) (types_in Types d s n p)
  unfolding balanced structural.part structural.after after
  types_product = ap (fold ◌⊗◌ 𝟙 (btree n)) (same_row parts.Types Types d s (λ q. refl) (λ q. refl) n p)

  pub copies_product : balanced parts.Copies d s n p ≡ fold ◌⊗◌ 𝟙 (btree n) (types_in Copies d s n p)
  unfolding balanced structural.part structural.after after
  copies_product = ap (fold ◌⊗◌ 𝟙 (btree n)) (same_row parts.Copies Copies d s (λ q. refl) (λ q. refl) n p)

  pub choices_sum : balanced parts.Choices d s n p ≡ fold ◌⊕◌ 𝟙 (btree n) (types_in Types d s n p)
  unfolding balanced structural.part structural.after after
  choices_sum = ap (fold ◌⊕◌ 𝟙 (btree n)) (same_row parts.Choices Types d s (λ q. refl) (λ q. refl) n p)

  pub bits_product : balanced parts.Bits d s n p ≡ fold ◌⊗◌ 𝟙 (btree n) (replicate n (𝟙 ⊕ 𝟙))
  unfolding balanced structural.part structural.after
  bits_product = ap (fold ◌⊗◌ 𝟙 (btree n)) (row_stays parts.Bits d s (λ q. refl) n p)

-- and the bits that they take
pub width_bits : (n : ℕ) → width (fold ◌⊗◌ 𝟙 (btree n) (replicate n (𝟙 ⊕ 𝟙))) ≡ n
width_bits n = ap (λ i. width (fold ◌⊗◌ 𝟙 (btree i) (replicate n (𝟙 ⊕ 𝟙)))) (sym (length-replicate n (𝟙 ⊕ 𝟙))) ∙ width_array n (𝟙 ⊕ 𝟙) ∙ omega arith

module _ (d : ℕ) (s : List ℕ) where
  widths_are : (k : Parts) (n p : ℕ) → width_all (types_in k d s n p) ≡ row_width k d s n p
  unfolding types_in row_width
  widths_are k zero p = refl
  widths_are k (suc n) p = ap (λ w. width (standing d s p) + w) (widths_are k n (after k d s p))

  pub product_wide : (k : Parts) (n p : ℕ) (t : SType) → t ≡ fold ◌⊗◌ 𝟙 (btree n) (types_in k d s n p) → width t ≡ row_width k d s n p
  product_wide k n p t e =
      ap width e ∙ ap (λ m. width (fold ◌⊗◌ 𝟙 (btree m) (types_in k d s n p))) (sym (length_types k d s n p)) ∙ width_product_of (types_in k d s n p) ∙ widths_are k n p

  -- n of one type
  pub copies_wide : (n p : ℕ) → row_width Copies d s n p ≡ n * width (standing d s p)
  unfolding row_width after
  copies_wide zero p = omega arith
  copies_wide (suc n) p = omega (arith, copies_wide n p)

-- BY WHAT IS KNOWN OF THE RECORDS

module _ (d : ℕ) (s E : List ℕ) (p : ℕ) where
  product_of : (k : Parts) (n : ℕ) (r : Rec) → GivenParts k (d - 1) s E n (p + 1) → standing d s p ≡ fold ◌⊗◌ 𝟙 (btree n) (types_in k (d - 1) s n (p + 1)) → ((x : SValue) → part d s p x ≡ map_o (λ rs. r ∷ rs) (product k (d - 1) s n (p + 1) x)) → ProductSeen k n d s E p
  unfolding seen
  product_of k n r g e h = record {
    given = g;
    wide = product_wide (d - 1) s k n (p + 1) (standing d s p) e;
    same = λ fr bit.
        let a = standing d s p in
        let x = shape_at a fr bit in
        ap (unless (stray_at a fr bit)) (ap (map_o length) (h x) ∙ marked r (product k (d - 1) s n (p + 1) x))
        ∙ unless_one (stray_at a fr bit) (map_o length (product k (d - 1) s n (p + 1) x))
        ∙ ap (plus (some 1)) (product_seen k (d - 1) s n (p + 1) a fr bit e);
  }

  sum_of : (n : ℕ) (r : ℕ → Rec) → 1 ≤ n → n ≤ most_parts → GivenParts Types (d - 1) s E n (p + 1) → standing d s p ≡ fold ◌⊕◌ 𝟙 (btree n) (types_in Types (d - 1) s n (p + 1)) → ((x : SValue) → part d s p x ≡ map_o (λ y. r y.0 ∷ y.1) (sum (d - 1) s E n (p + 1) x)) → SumSeen n d s E p
  unfolding seen
  sum_of n r o f g e h = record {
    some_choice = o;
    few = f;
    given = g;
    lowered = e;
    same = λ fr bit l.
        let a = standing d s p in
        let x = shape_at a fr bit in
        ap (unless (stray_at a fr bit)) (ap (map_o length) (h x) ∙ marked_numbered r (sum (d - 1) s E n (p + 1) x))
        ∙ unless_one (stray_at a fr bit) (map_o (λ y. length y.1) (sum (d - 1) s E n (p + 1) x))
        ∙ ap (plus (some 1)) (sum_seen (d - 1) s E n (p + 1) a fr bit o g e l);
  }

  list_of : (b : NonZeroPow2Usize) (r : ℕ → Rec) → Stands (d - 1) s E (p + 1) → standing d s p ≡ listed (d - 1) s b (p + 1) → ((x : SValue) → part d s p x ≡ map_o (λ y. r y.0 ∷ y.1) (elements (d - 1) s b (p + 1) x)) → ListSeen b d s E p
  unfolding seen listed
  list_of b r g e h = record {
    given = g;
    lowered = e;
    same = λ fr bit l.
        let a = standing d s p in
        let x = shape_at a fr bit in
        ap (unless (stray_at a fr bit)) (ap (map_o length) (h x) ∙ marked_numbered r (elements (d - 1) s b (p + 1) x))
        ∙ unless_one (stray_at a fr bit) (map_o (λ y. length y.1) (elements (d - 1) s b (p + 1) x))
        ∙ ap (plus (some 1)) (list_seen (d - 1) s (p + 1) b a fr bit e l);
  }

  payload_of : (n : ℕ) → GivenParts Types (d - 1) s E n (p + 1) → standing d s p ≡ fold ◌⊗◌ 𝟙 (btree n) (types_in Types (d - 1) s n (p + 1)) → ((x : SValue) → part d s p x ≡ product Types (d - 1) s n (p + 1) x) → PayloadSeen n d s E p
  unfolding seen
  payload_of n g e h = record {
    given = g;
    wide = product_wide (d - 1) s Types n (p + 1) (standing d s p) e;
    same = λ fr bit.
        let a = standing d s p in
        ap (λ o. unless (stray_at a fr bit) (map_o length o)) (h (shape_at a fr bit)) ∙ product_seen Types (d - 1) s n (p + 1) a fr bit e;
  }

  nothing_of : ((x : SValue) → part d s p x ≡ none) → NothingSeen d s p
  unfolding seen
  nothing_of h = record { same = λ fr bit. ap (λ o. unless (stray_at (standing d s p) fr bit) (map_o length o)) (h (shape_at (standing d s p) fr bit)) ∙ unless_none (stray_at (standing d s p) fr bit) }

  bits_of : (n : ℕ) → standing d s p ≡ balanced parts.Bits (d - 1) s n (p + 1) → ((fr : List ℕ) (bit : ℕ) → bit + n ≤ 8 * length fr → map_o length (part d s p (shape_at (fold ◌⊗◌ 𝟙 (btree n) (replicate n (𝟙 ⊕ 𝟙))) fr bit)) ≡ some 1) → BitsSeen d s p
  unfolding seen
  bits_of n e h =
      let t : SType = fold ◌⊗◌ 𝟙 (btree n) (replicate n (𝟙 ⊕ 𝟙)) in
      let i : standing d s p ≡ t = e ∙ bits_product (d - 1) s n (p + 1) in
      let w : width t ≡ n = width_bits n in
      record {
        same = λ fr bit l.
            let k : bit + n ≤ 8 * length fr = omega (arith, ap width i) in
            ap (λ a. unless (stray_at a fr bit) (map_o length (part d s p (shape_at a fr bit)))) i
            ∙ ap₂ unless (integer_stray fr n bit k) (h fr bit k);
      }

-- what is seen at a record is what its form says
pub formed : (h : Head) (d : ℕ) (s E : List ℕ) (p : ℕ) → Stands d s E p → h ≡ head_at s p → Fair h → Formed (form_of h) d s E p
formed Missing d s E p g e f = nothing_of d s E p (records.formed Missing d s E p g e f).same
formed Faulty d s E p g e f = nothing_of d s E p (records.formed Faulty d s E p g e f).same
formed Never d s E p g e f = nothing_of d s E p (records.formed Never d s E p g e f).same
formed Boolean d s E p g e f =
    let r = records.formed Boolean d s E p g e f in
    bits_of d s E p 1 (structural_laws.formed g Boolean e f).same (λ fr bit l.
    ap (λ a. map_o length (part d s p (shape_at a fr bit))) (fold_one ◌⊗◌ 𝟙 (𝟙 ⊕ 𝟙) [])
    ∙ ap (map_o length) (r.same (shape_at (𝟙 ⊕ 𝟙) fr bit) ∙ ap (map_o (λ b. rec 1 (bit_number b) 0 0 ∷ [])) (bit_shape fr bit (omega arith))))
formed (UInt w) d s E p g e f =
    let r = records.formed (UInt w) d s E p g e f in
    bits_of d s E p w.value (structural_laws.formed g (UInt w) e f).same (λ fr bit l.
    ap (map_o length) (r.same (shape_at (fold ◌⊗◌ 𝟙 (btree w.value) (replicate w.value (𝟙 ⊕ 𝟙))) fr bit) ∙ ap (map_o (λ bs. rec 2 0 w.value (of_bits bs) ∷ [])) (integer_bits fr w.value bit l)))
formed Either d s E p g e f =
    let r = records.formed Either d s E p g e f in
    sum_of d s E p 2 (mark_of Either) r.some_choice r.few r.given ((structural_laws.formed g Either e f).same ∙ choices_sum (d - 1) s 2 (p + 1)) r.same
formed Opt d s E p g e f =
    let r = records.formed Opt d s E p g e f in
    list_of d s E p bound_two (mark_of Opt) r.given (structural_laws.formed g Opt e f).same r.same
formed (Tuple n) d s E p g e f =
    let r = records.formed (Tuple n) d s E p g e f in
    product_of d s E p Types n (mark_of (Tuple n) n) r.given ((structural_laws.formed g (Tuple n) e f).same ∙ types_product (d - 1) s n (p + 1)) r.same
formed (Array n) d s E p g e f =
    let r = records.formed (Array n) d s E p g e f in
    product_of d s E p Copies n (mark_of (Array n) n) r.given ((structural_laws.formed g (Array n) e f).same ∙ copies_product (d - 1) s n (p + 1)) r.same
formed (Listed b) d s E p g e f =
    let r = records.formed (Listed b) d s E p g e f in
    list_of d s E p b (mark_of (Listed b)) r.given (structural_laws.formed g (Listed b) e f).same r.same
formed (Variants n) d s E p g e f =
    let r = records.formed (Variants n) d s E p g e f in
    sum_of d s E p n (mark_of (Variants n)) r.some_choice r.few r.given ((structural_laws.formed g (Variants n) e f).same ∙ choices_sum (d - 1) s n (p + 1)) r.same
formed (head.Payload n) d s E p g e f =
    let r = records.formed (head.Payload n) d s E p g e f in
    payload_of d s E p n r.given ((structural_laws.formed g (head.Payload n) e f).same ∙ types_product (d - 1) s n (p + 1)) r.same
