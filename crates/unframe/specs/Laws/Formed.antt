-- The records that stand in a frame are what the form of the type's record says of what stands below it (`formed`).
use Rattle.std.specs.Prelude.{◌≡◌, refl, length, get_or, replicate}
use Rattle.std.proofs.Common.{sym, ◌∙◌, arith}
use Rattle.std.proofs.Math.Path.{ap, subst}
use mathlib.Core.List.{List, [], ◌∷◌}
use Rattle.std.proofs.Math.Option.{Option, none, some}
use Prim.Native.Nat.{ℕ, ◌+◌, ◌-◌, ◌*◌, ◌≤◌, ◌<◌}
use Rattle.num.specs.declared.NonZeroPow2Usize.{NonZeroPow2Usize}
use Rattle.model.specs.Options.{map_o, bind_o}
use Rattle.model.specs.Bytes.{of_bits}
use Rattle.model.specs.Balanced.{btree, grow, fold}
use Rattle.model.specs.Structural.{SType, 𝟙, ◌⊕◌, ◌⊗◌}
use Rattle.model.specs.Frames.{width}
use Rattle.model.specs.Reconstruct.{as_bit, as_enum_leaf}
use Rattle.model.specs.ValueFiles.{Rec, rec, bit_number}
use Rattle.model.proofs.Laws.Options.{map_o_map_o}
use Rattle.types.specs.declared.Head.{Head}
use Rattle.types.specs.declared.Head.TheVariants.{Missing, Faulty, Never, Boolean, UInt, Either, Opt, Tuple, Array, Listed, Variants}
use Rattle.types.specs.declared.Head.TheVariants as head
use Rattle.types.specs.Record.{head_at}
use Rattle.types.specs.Heads.{Fair}
use Rattle.types.specs.Steps.{given_inside}
use Rattle.structural.specs.Forms.{Stands}
use Rattle.structural.specs.Forms as structural
use Rattle.structural.proofs.Laws.Forms as lowered
use Rattle.bits.specs.Bits.{bits_at}
use Rattle.types.specs.declared.forms.Parts.{Parts}
use Rattle.types.specs.declared.forms.Parts.TheVariants.{Types}
use Rattle.told.specs.Forms.{GivenParts, Hops, hops}
use Rattle.record.specs.Marks.{mark_of, Marks}
use Rattle.types.specs.declared.forms.Form.{Form}
use Rattle.types.specs.declared.forms.Form.TheVariants as form
use Rattle.types.specs.Forms.{form_of}
use Rattle.record.specs.Trees.{part, product, elements, numbered, bit_row, sum}
use Rattle.record.specs.Laws.Formed.{NothingRead, BitRead, IntegerRead, ProductRead, SumRead, ListRead, PayloadRead}
use Rattle.record.specs.Laws.Formed as trees
use Rattle.accept.specs.Forms.{shape_at, tag_at, choice_in, types_in, row_width}
use Rattle.accept.specs.Laws.Products.{bit_shape, integer_bits}
use Rattle.accept.specs.Laws.Sums.{Taken, sum_taken, choice_less}
use Rattle.accept.specs.Laws.Seen.{length_types, nth_type, skip_hops}
use Rattle.accept.specs.Laws.Formed.{types_product, copies_product, choices_sum, bits_product, width_bits, product_wide}
use Rattle.unframe.specs.declared.Choice.{Choice}
use Rattle.unframe.specs.Forms.{standing, row, listed, height, Chosen}
use Rattle.unframe.specs.Laws.Tags.{height_width}
use Rattle.unframe.specs.Laws.Parts.{product_row, elements_listed}

-- a record, and others behind it
pub record Marked (m : Rec) (g o : Option (List Rec)) : Type 0 where
  pub same : g ≡ map_o (λ rs. m ∷ rs) o

-- a record that says a number, and so many behind it
pub record Counted (f : ℕ → Rec) (g : Option (List Rec)) (o : Option (ℕ × List Rec)) : Type 0 where
  pub same : g ≡ map_o (λ y. f y.0 ∷ y.1) o

-- nothing is a value where no type stands, nor of a Never
pub record NothingFramed (d : ℕ) (s : List ℕ) (p : ℕ) : Type 0 where
  pub same : (fr : List ℕ) (bit : ℕ) → standing d s p fr bit ≡ none

-- a bit
pub record BitFramed (h : Head) (d : ℕ) (s : List ℕ) (p : ℕ) : Type 0 where
  pub marks : (i : ℕ) → i < 2 → Marks h i
  pub wide : width (structural.standing d s p) ≡ 1
  pub same : (fr : List ℕ) (bit : ℕ) → bit + 1 ≤ 8 * length fr → standing d s p fr bit ≡ some (mark_of h (bit_number (tag_at fr bit)) ∷ [])

-- an integer of w bits
pub record IntegerFramed (h : Head) (w d : ℕ) (s : List ℕ) (p : ℕ) : Type 0 where
  pub few : w ≤ 256
  pub marks : Marks h 0
  pub mark : mark_of h 0 ≡ rec 2 0 w 0
  pub wide : width (structural.standing d s p) ≡ w
  pub same : (fr : List ℕ) (bit : ℕ) → bit + w ≤ 8 * length fr → standing d s p fr bit ≡ some (rec 2 0 w (of_bits (bits_at fr bit w)) ∷ [])

-- a product: its record, and n parts behind it
pub record ProductFramed (h : Head) (k : Parts) (n d : ℕ) (s E : List ℕ) (p : ℕ) : Type 0 where
  pub given : GivenParts k (d - 1) s E n (p + 1)
  pub marks : Marks h n
  pub wide : width (structural.standing d s p) ≡ row_width k (d - 1) s n (p + 1)
  pub same : (fr : List ℕ) (bit : ℕ) → Marked (mark_of h n) (standing d s p fr bit) (row k (d - 1) s n (p + 1) fr bit)

-- choice i of a sum at a bit of the type's frame, which stands at record q and begins at bit b
pub record ChoiceFramed (h : Head) (d : ℕ) (s E : List ℕ) (p : ℕ) (fr : List ℕ) (bit i q b : ℕ) : Type 0 where
  pub stands : Stands (d - 1) s E q
  pub marks : Marks h i
  pub fits : b + width (structural.standing (d - 1) s q) ≤ bit + width (structural.standing d s p)
  pub same : Marked (mark_of h i) (standing d s p fr bit) (standing (d - 1) s q fr b)

-- a sum: its record, which says the choice, and what was chosen behind it
pub record SumFramed (h : Head) (n d : ℕ) (s E : List ℕ) (p : ℕ) : Type 0 where
  pub some_choice : 1 ≤ n
  pub few : n ≤ 65536
  pub hopping : Hops E n (p + 1)
  pub tags : height (btree n) ≤ width (structural.standing d s p)
  pub choice : (fr : List ℕ) (bit : ℕ) → bit + width (structural.standing d s p) ≤ 8 * length fr → (c : Choice) → Chosen E (p + 1) (choice_in n fr bit) c → ChoiceFramed h d s E p fr bit c.number c.at c.bit

-- a list: its record, which says how many elements, and these behind it
pub record ListFramed (h : Head) (b : NonZeroPow2Usize) (d : ℕ) (s E : List ℕ) (p : ℕ) : Type 0 where
  pub given : Stands (d - 1) s E (p + 1)
  pub wide : width (structural.standing d s p) ≡ width (structural.listed (d - 1) s b (p + 1))
  pub marks : (i : ℕ) → i < b.value → Marks h i
  pub same : (fr : List ℕ) (bit : ℕ) → bit + width (structural.standing d s p) ≤ 8 * length fr → Counted (mark_of h) (standing d s p fr bit) (listed (d - 1) s b (p + 1) fr bit)

-- a Variant's payload: n parts, and no record of its own
pub record PayloadFramed (n d : ℕ) (s E : List ℕ) (p : ℕ) : Type 0 where
  pub given : GivenParts Types (d - 1) s E n (p + 1)
  pub wide : width (structural.standing d s p) ≡ row_width Types (d - 1) s n (p + 1)
  pub same : (fr : List ℕ) (bit : ℕ) → standing d s p fr bit ≡ row Types (d - 1) s n (p + 1) fr bit

-- by the form
abbrev pub Formed : Head → Form → ℕ → List ℕ → List ℕ → ℕ → Type 0
Formed h form.Nothing d s E p = NothingFramed d s p
Formed h form.Bit d s E p = BitFramed h d s p
Formed h (form.Integer w) d s E p = IntegerFramed h w d s p
Formed h (form.Product k n) d s E p = ProductFramed h k n d s E p
Formed h (form.Sum n) d s E p = SumFramed h n d s E p
Formed h (form.List b) d s E p = ListFramed h b d s E p
Formed h (form.Payload n) d s E p = PayloadFramed n d s E p

-- FORM BY FORM

one_bit : fold ◌⊗◌ 𝟙 (btree 1) (replicate 1 (𝟙 ⊕ 𝟙)) ≡ 𝟙 ⊕ 𝟙
unfolding fold btree grow
one_bit = refl

module _ {d : ℕ} {s : List ℕ} {p : ℕ} where
  nothing_framed : NothingRead d s p → NothingFramed d s p
  unfolding standing
  nothing_framed r = record { same = λ fr bit. r.same _ }

  bit_framed : {h : Head} → BitRead d s p → structural.standing d s p ≡ 𝟙 ⊕ 𝟙 → ((i : ℕ) → i < 2 → Marks h i) → ((i : ℕ) → rec 1 i 0 0 ≡ mark_of h i) → BitFramed h d s p
  unfolding standing
  bit_framed {h} r e m k = record {
    marks = m;
    wide = ap width e;
    same = λ fr bit l. r.same _ ∙ ap (λ o. map_o (λ b. rec 1 (bit_number b) 0 0 ∷ []) o) (ap (λ t. as_bit (shape_at t fr bit)) e ∙ bit_shape fr bit (omega arith)) ∙ ap (λ (x : Rec). some (x ∷ [])) (k (bit_number (tag_at fr bit)));
  }

  integer_framed : {h : Head} {w : ℕ} → IntegerRead w d s p → structural.standing d s p ≡ fold ◌⊗◌ 𝟙 (btree w) (replicate w (𝟙 ⊕ 𝟙)) → Marks h 0 → mark_of h 0 ≡ rec 2 0 w 0 → IntegerFramed h w d s p
  unfolding standing
  integer_framed {h} {w} r e m k = record {
    few = r.few;
    marks = m;
    mark = k;
    wide = ap width e ∙ width_bits w;
    same = λ fr bit l. r.same _ ∙ ap (map_o (λ bs. rec 2 0 w (of_bits bs) ∷ [])) (ap (λ t. bit_row w (shape_at t fr bit)) e ∙ integer_bits fr w bit l);
  }

  product_framed : {h : Head} {E : List ℕ} {k : Parts} {n : ℕ} → ProductRead h k n d s E p → structural.standing d s p ≡ fold ◌⊗◌ 𝟙 (btree n) (types_in k (d - 1) s n (p + 1)) → ProductFramed h k n d s E p
  unfolding standing
  product_framed {h} {E} {k} {n} r e = record {
    given = r.given;
    marks = r.marks;
    wide = product_wide (d - 1) s k n (p + 1) (structural.standing d s p) e;
    same = λ fr bit. record { same = r.same _ ∙ ap (map_o (λ rs. mark_of h n ∷ rs)) (ap (λ t. product k (d - 1) s n (p + 1) (shape_at t fr bit)) e ∙ product_row k (d - 1) s n (p + 1) fr bit) };
  }

  payload_framed : {E : List ℕ} {n : ℕ} → PayloadRead n d s E p → structural.standing d s p ≡ fold ◌⊗◌ 𝟙 (btree n) (types_in Types (d - 1) s n (p + 1)) → PayloadFramed n d s E p
  unfolding standing
  payload_framed {E} {n} r e = record {
    given = r.given;
    wide = product_wide (d - 1) s Types n (p + 1) (structural.standing d s p) e;
    same = λ fr bit. r.same _ ∙ ap (λ t. product Types (d - 1) s n (p + 1) (shape_at t fr bit)) e ∙ product_row Types (d - 1) s n (p + 1) fr bit;
  }

  list_framed : {h : Head} {E : List ℕ} {b : NonZeroPow2Usize} → ListRead h b d s E p → structural.standing d s p ≡ structural.listed (d - 1) s b (p + 1) → ListFramed h b d s E p
  unfolding standing
  list_framed {h} {E} {b} r e =
      record {
        given = r.given;
        wide = ap width e;
        marks = r.marks;
        same = λ fr bit l. record { same = r.same _ ∙ ap (map_o (λ y. mark_of h y.0 ∷ y.1)) (ap (λ t. elements (d - 1) s b (p + 1) (shape_at t fr bit)) e ∙ elements_listed (d - 1) s (p + 1) b fr bit (rw e at l)) };
      }

  choice_framed : {h : Head} {E : List ℕ} {n : ℕ} → SumRead h n d s E p → (fr : List ℕ) (bit i : ℕ) (c : SType) (b : ℕ) → structural.standing d s p ≡ fold ◌⊕◌ 𝟙 (btree n) (types_in Types (d - 1) s n (p + 1)) → i < n
      → Taken (btree n) (types_in Types (d - 1) s n (p + 1)) fr bit i c b → c ≡ structural.standing (d - 1) s (hops E i (p + 1)) → ChoiceFramed h d s E p fr bit i (hops E i (p + 1)) b
  unfolding standing sum
  choice_framed {h} {E} {n} r fr bit i c b e l t f =
      let q = hops E i (p + 1) in
      record {
        stands = subst (Stands (d - 1) s E) (skip_hops (d - 1) s E n i (p + 1) l r.given) (r.given.each i l);
        marks = r.marks i l;
        fits = rw (e, ← f) t.fits;
        same = record {
          same = r.same _
              ∙ ap (λ o. map_o (λ (y : ℕ × List Rec). mark_of h y.0 ∷ y.1) (bind_o o (λ y. numbered y.0 (part (d - 1) s (hops E y.0 (p + 1)) y.1)))) (ap (λ t. as_enum_leaf (btree n) (shape_at t fr bit)) e ∙ t.shape)
              ∙ map_o_map_o (λ rs. (i, rs)) (λ (y : ℕ × List Rec). mark_of h y.0 ∷ y.1) (part (d - 1) s q (shape_at c fr b))
              ∙ ap (λ t. map_o (λ rs. mark_of h i ∷ rs) (part (d - 1) s q (shape_at t fr b))) f;
        };
      }

  sum_framed : {h : Head} {E : List ℕ} {n : ℕ} → SumRead h n d s E p → structural.standing d s p ≡ fold ◌⊕◌ 𝟙 (btree n) (types_in Types (d - 1) s n (p + 1)) → SumFramed h n d s E p
  sum_framed {h} {E} {n} r e =
      let ts = types_in Types (d - 1) s n (p + 1) in
      record {
        some_choice = r.some_choice;
        few = r.few;
        hopping = record { each = λ i l. given_inside (subst (Stands (d - 1) s E) (skip_hops (d - 1) s E n i (p + 1) l r.given) (r.given.each i l)).given };
        tags = rw e (height_width (btree n) ts);
        choice = λ fr bit l c z.
            let x = choice_in n fr bit in
            let m = choice_less n fr bit r.some_choice in
            rw (z.number, z.stands_at, z.begins) (choice_framed r fr bit x.0 (get_or ts x.0 𝟙) x.1 e m (sum_taken n ts fr bit r.some_choice (length_types Types (d - 1) s n (p + 1)) (rw e at l)) (nth_type (d - 1) s n x.0 (p + 1) m ∙ ap (structural.standing (d - 1) s) (skip_hops (d - 1) s E n x.0 (p + 1) m r.given)));
      }

-- what stands there is what the form says
formed : (h : Head) (d : ℕ) (s E : List ℕ) (p : ℕ) → Stands d s E p → h ≡ head_at s p → Fair h → Formed h (form_of h) d s E p
formed Missing d s E p g e f = nothing_framed (trees.formed Missing d s E p g e f)
formed Faulty d s E p g e f = nothing_framed (trees.formed Faulty d s E p g e f)
formed Never d s E p g e f = nothing_framed (trees.formed Never d s E p g e f)
formed Boolean d s E p g e f = bit_framed (trees.formed Boolean d s E p g e f) ((lowered.formed g Boolean e f).same ∙ bits_product (d - 1) s 1 (p + 1) ∙ one_bit) (λ i l. omega arith) (λ i. refl)
formed (UInt w) d s E p g e f = integer_framed (trees.formed (UInt w) d s E p g e f) ((lowered.formed g (UInt w) e f).same ∙ bits_product (d - 1) s w.value (p + 1)) tt refl
formed Either d s E p g e f = sum_framed (trees.formed Either d s E p g e f) ((lowered.formed g Either e f).same ∙ choices_sum (d - 1) s 2 (p + 1))
formed Opt d s E p g e f = list_framed (trees.formed Opt d s E p g e f) (lowered.formed g Opt e f).same
formed (Tuple n) d s E p g e f = product_framed (trees.formed (Tuple n) d s E p g e f) ((lowered.formed g (Tuple n) e f).same ∙ types_product (d - 1) s n (p + 1))
formed (Array n) d s E p g e f = product_framed (trees.formed (Array n) d s E p g e f) ((lowered.formed g (Array n) e f).same ∙ copies_product (d - 1) s n (p + 1))
formed (Listed b) d s E p g e f = list_framed (trees.formed (Listed b) d s E p g e f) (lowered.formed g (Listed b) e f).same
formed (Variants n) d s E p g e f = sum_framed (trees.formed (Variants n) d s E p g e f) ((lowered.formed g (Variants n) e f).same ∙ choices_sum (d - 1) s n (p + 1))
formed (head.Payload n) d s E p g e f = payload_framed (trees.formed (head.Payload n) d s E p g e f) ((lowered.formed g (head.Payload n) e f).same ∙ types_product (d - 1) s n (p + 1))

-- AS THE CODE ASKS IT: r is the form that was read

module _ {d : ℕ} {s E : List ℕ} {p : ℕ} {h : Head} {r : Form} (g : Stands d s E p) (e : h ≡ head_at s p) (f : Fair h) (i : r ≡ form_of h) where
  as_formed : (z : Form) → r ≡ z → Formed h z d s E p
  as_formed z j = subst (λ z. Formed h z d s E p) (sym i ∙ j) (formed h d s E p g e f)

  pub as_nothing : r ≡ form.Nothing → NothingFramed d s p
  as_nothing j = as_formed form.Nothing j

  pub as_boolean : r ≡ form.Bit → BitFramed h d s p
  as_boolean j = as_formed form.Bit j

  pub as_integer : {w : ℕ} → r ≡ form.Integer w → IntegerFramed h w d s p
  as_integer {w} j = as_formed (form.Integer w) j

  pub as_product : {k : Parts} {n : ℕ} → r ≡ form.Product k n → ProductFramed h k n d s E p
  as_product {k} {n} j = as_formed (form.Product k n) j

  pub as_sum : {n : ℕ} → r ≡ form.Sum n → SumFramed h n d s E p
  as_sum {n} j = as_formed (form.Sum n) j

  pub as_list : {b : NonZeroPow2Usize} → r ≡ form.List b → ListFramed h b d s E p
  as_list {b} j = as_formed (form.List b) j

  pub as_payload : {n : ℕ} → r ≡ form.Payload n → PayloadFramed n d s E p
  as_payload {n} j = as_formed (form.Payload n) j
