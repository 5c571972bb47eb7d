-- The records of a tree are what the form of the type's record says of what stands below it (`formed`), whatever the tree is.
use Rattle.std.specs.Prelude.{◌≡◌, true, false, List, [], ◌∷◌, Result, Ok, Err}
use Rattle.std.proofs.Math.Path.{refl, ap}
use Rattle.std.proofs.Common.{sym, subst, ◌∙◌, arith}
use Rattle.std.proofs.Math.Bool.{Bool}
use Rattle.std.proofs.Math.Option.{none}
use Prim.Native.Nat.{ℕ, zero, suc, ◌+◌, ◌-◌, ◌≤◌, ◌<◌}
use Rattle.num.specs.declared.NonZeroPow2Usize.{NonZeroPow2Usize}
use Rattle.reply.specs.declared.Refusal.{Refusal}
use Rattle.reply.specs.declared.Refusal.TheVariants.{BadRecord, NotOneType}
use Rattle.model.specs.Options.{map_o}
use Rattle.model.specs.Bytes.{of_bits}
use Rattle.model.specs.Structural.{SValue}
use Rattle.model.specs.Types.{Ty}
use Rattle.model.specs.Reconstruct.{as_bit, reconstruct}
use Rattle.model.specs.ValueFiles.{rec, bit_number}
use Rattle.types.specs.declared.Head.{Head}
use Rattle.types.specs.declared.Head.TheVariants.{Missing, Faulty, Never, Boolean, UInt, Either, Opt, Tuple, Array, Listed, Variants}
use Rattle.types.specs.declared.Head.TheVariants as head
use Rattle.types.specs.declared.Rec.TheVariants.{Gone, Wrong, Variant}
use Rattle.types.specs.declared.Rec as types
use Rattle.types.specs.Record.{head_at, calls_for, rec_at}
use Rattle.types.specs.Heads.{Fair, width_range}
use Rattle.types.specs.Walks.{opens, walk}
use Rattle.types.specs.Trees.{kids, node, payload, tree, treev}
use Rattle.types.specs.Unique.{bad_end}
use Rattle.types.specs.Steps.{given_levels, given_head, tree_in, treev_in}
use Rattle.structural.specs.Forms.{is_variant, Stands}
use Rattle.structural.proofs.Laws.Forms.{stands}
use Rattle.structural.proofs.Laws.Bounds.{bound_small}
use Rattle.types.specs.declared.forms.Parts.{Parts}
use Rattle.types.specs.declared.forms.Parts.TheVariants.{Types}
use Rattle.told.specs.Forms.{GivenParts}
use Rattle.told.specs.Laws.Rows.{first, given_types, given_copies}
use Rattle.record.specs.Marks.{mark_of, Marks}
use Rattle.types.specs.declared.forms.Form.{Form}
use Rattle.types.specs.declared.forms.Form.TheVariants as form
use Rattle.types.specs.Forms.{form_of}
use Rattle.record.specs.Trees.{value_in, part, product, sum, elements, bit_row}
use Rattle.record.specs.Laws.Products.{records_of, payload_of, payload_product, tuple_product, array_product, list_elements, option_elements}
use Rattle.record.specs.Laws.Sums.{enum_sum, either_sum}
use Rattle.record.specs.Laws.Bits.{integer_bits, bool_bit}

-- nothing is a value where no type stands, nor of a Never
pub record NothingRead (d : ℕ) (s : List ℕ) (p : ℕ) : Type 0 where
  pub same : (x : SValue) → part d s p x ≡ none

-- a bit
pub record BitRead (d : ℕ) (s : List ℕ) (p : ℕ) : Type 0 where
  pub same : (x : SValue) → part d s p x ≡ map_o (λ b. rec 1 (bit_number b) 0 0 ∷ []) (as_bit x)

-- an integer: what a row of w bits says
pub record IntegerRead (w d : ℕ) (s : List ℕ) (p : ℕ) : Type 0 where
  pub some_bits : 1 ≤ w
  pub few : w ≤ 256
  pub same : (x : SValue) → part d s p x ≡ map_o (λ bs. rec 2 0 w (of_bits bs) ∷ []) (bit_row w x)

-- a product: its record, and n parts behind it
pub record ProductRead (h : Head) (k : Parts) (n d : ℕ) (s E : List ℕ) (p : ℕ) : Type 0 where
  pub few : n ≤ 65536
  pub given : GivenParts k (d - 1) s E n (p + 1)
  pub marks : Marks h n
  pub same : (x : SValue) → part d s p x ≡ map_o (λ rs. mark_of h n ∷ rs) (product k (d - 1) s n (p + 1) x)

-- a sum: its record, which says the choice, and what was chosen behind it
pub record SumRead (h : Head) (n d : ℕ) (s E : List ℕ) (p : ℕ) : Type 0 where
  pub some_choice : 1 ≤ n
  pub few : n ≤ 65536
  pub given : GivenParts Types (d - 1) s E n (p + 1)
  pub marks : (i : ℕ) → i < n → Marks h i
  pub same : (x : SValue) → part d s p x ≡ map_o (λ y. mark_of h y.0 ∷ y.1) (sum (d - 1) s E n (p + 1) x)

-- a list: its record, which says how many elements, and these behind it
pub record ListRead (h : Head) (b : NonZeroPow2Usize) (d : ℕ) (s E : List ℕ) (p : ℕ) : Type 0 where
  pub given : Stands (d - 1) s E (p + 1)
  pub marks : (i : ℕ) → i < b.value → Marks h i
  pub same : (x : SValue) → part d s p x ≡ map_o (λ y. mark_of h y.0 ∷ y.1) (elements (d - 1) s b (p + 1) x)

-- a Variant's payload: n parts, and no record of its own
pub record PayloadRead (n d : ℕ) (s E : List ℕ) (p : ℕ) : Type 0 where
  pub few : n ≤ 65536
  pub given : GivenParts Types (d - 1) s E n (p + 1)
  pub same : (x : SValue) → part d s p x ≡ product Types (d - 1) s n (p + 1) x

-- by the form
abbrev pub Formed : Head → Form → ℕ → List ℕ → List ℕ → ℕ → Type 0
Formed h form.Nothing d s E p = NothingRead d s p
Formed h form.Bit d s E p = BitRead d s p
Formed h (form.Integer w) d s E p = IntegerRead w d s p
Formed h (form.Product k n) d s E p = ProductRead h k n d s E p
Formed h (form.Sum n) d s E p = SumRead h n d s E p
Formed h (form.List b) d s E p = ListRead h b d s E p
Formed h (form.Payload n) d s E p = PayloadRead n d s E p

module _ (d : ℕ) (s E : List ℕ) (p : ℕ) (g : Stands d s E p) where
  -- the type's node, over what stands below it
  abbrev below : Head → Ty
  below h = node h (tree (d - 1) s) (walk (d - 1) false s) (treev (d - 1) s) (walk (d - 1) true s) (p + 1)

  type_is : (h : Head) → h ≡ head_at s p → is_variant (calls_for h) ≡ false → (x : SValue) → part d s p x ≡ records_of (below h) x
  unfolding part value_in rec_at
  type_is h e f x = ap (λ (k : Head). value_in d (is_variant (calls_for k)) s p x) (sym e) ∙ ap (λ b. value_in d b s p x) f ∙ ap (λ t. records_of t x) (tree_in s p d h h (given_levels g.given) e refl)

  payload_is : (n : ℕ) → head.Payload n ≡ head_at s p → (x : SValue) → part d s p x ≡ payload_of (kids (tree (d - 1) s) (walk (d - 1) false s) n (p + 1)) x
  unfolding part value_in rec_at payload
  payload_is n e x = ap (λ (k : Head). value_in d (is_variant (calls_for k)) s p x) (sym e) ∙ ap (λ ts. payload_of ts x) (treev_in s p d (rec_at s p) (Variant n) (given_levels g.given) refl (ap calls_for (sym e)))

  -- a record that is refused is not there
  nothing_given : (r : types.Rec) (x : Refusal) → r ≡ rec_at s p → ((v : Bool) (k : Bool → ℕ → Result ℕ Refusal) → opens v r k ≡ Err x) → ⊥
  unfolding walk
  nothing_given r x e h = go d (is_variant (rec_at s p)) g.given.starts.end g.given.starts.walks
    where
      refused : (v : Bool) (k : Bool → ℕ → Result ℕ Refusal) (m : ℕ) → opens v (rec_at s p) k ≡ Ok m → ⊥
      refused v k m w = bad_end (sym (h v k) ∙ ap (λ r. opens v r k) e ∙ w)

      go : (d : ℕ) (v : Bool) (m : ℕ) → walk d v s p ≡ Ok m → ⊥
      go zero v m w = refused v _ m w
      go (suc d) v m w = refused v _ m w

-- what is read of a tree is what the form says
pub formed : (h : Head) (d : ℕ) (s E : List ℕ) (p : ℕ) → Stands d s E p → h ≡ head_at s p → Fair h → Formed h (form_of h) d s E p
unfolding node rec_at opens reconstruct
formed Missing d s E p g e f = absurd (nothing_given d s E p g Gone NotOneType (ap calls_for e) (λ v k. refl))
formed Faulty d s E p g e f = absurd (nothing_given d s E p g Wrong BadRecord (ap calls_for e) (λ v k. refl))
formed Never d s E p g e f = record { same = type_is d s E p g Never e refl }
formed Boolean d s E p g e f = record { same = λ x. type_is d s E p g Boolean e refl x ∙ bool_bit x }
formed (UInt w) d s E p g e f = let (l, m) = width_range w in record { some_bits = l; few = m; same = λ x. type_is d s E p g (UInt w) e refl x ∙ integer_bits w.value x }
formed Either d s E p g e f =
    let r = given_head Either g.given e refl in
    record {
      some_choice = omega arith;
      few = omega arith;
      given = given_types 2 (p + 1) r;
      marks = λ i l. omega arith;
      same = λ x. type_is d s E p g Either e refl x ∙ either_sum (d - 1) s E (p + 1) x r;
    }
formed Opt d s E p g e f =
    let r = first (given_head Opt g.given e refl) in
    record {
      given = stands r;
      marks = λ i l. omega arith;
      same = λ x. type_is d s E p g Opt e refl x ∙ option_elements (d - 1) s E (p + 1) x r;
    }
formed (Tuple n) d s E p g e f =
    let r = given_head (Tuple n) g.given e refl in
    record { few = omega arith; given = given_types n (p + 1) r; marks = tt; same = λ x. type_is d s E p g (Tuple n) e refl x ∙ tuple_product (d - 1) s E n (p + 1) x r }
formed (Array n) d s E p g e f =
    let r = first (given_head (Array n) g.given e refl) in
    record { few = omega arith; given = given_copies n (stands r); marks = tt; same = λ x. type_is d s E p g (Array n) e refl x ∙ array_product (d - 1) s E n (p + 1) x r }
formed (Listed b) d s E p g e f =
    let r = first (given_head (Listed b) g.given e refl) in
    let m = bound_small b in
    record {
      given = stands r;
      marks = λ i l. omega arith;
      same = λ x. type_is d s E p g (Listed b) e refl x ∙ list_elements (d - 1) s E b (p + 1) x r;
    }
formed (Variants n) d s E p g e f =
    let r = given_head (Variants n) g.given e refl in
    record {
      some_choice = f.0;
      few = omega arith;
      given = given_types n (p + 1) r;
      marks = λ i l. omega arith;
      same = λ x. type_is d s E p g (Variants n) e refl x ∙ enum_sum (d - 1) s E n (p + 1) x f.0 r;
    }
formed (head.Payload n) d s E p g e f =
    let r = given_head (head.Payload n) g.given e refl in
    record { few = omega arith; given = given_types n (p + 1) r; same = λ x. payload_is d s E p g n e x ∙ payload_product (d - 1) s E n (p + 1) x r }

-- AS THE CODE ASKS IT: r is the form that was read

module _ {d : ℕ} {s E : List ℕ} {p : ℕ} {h : Head} {r : Form} (g : Stands d s E p) (e : h ≡ head_at s p) (f : Fair h) (i : r ≡ form_of h) where
  as_formed : (z : Form) → r ≡ z → Formed h z d s E p
  as_formed z j = subst (λ z. Formed h z d s E p) (sym i ∙ j) (formed h d s E p g e f)

  pub as_nothing : r ≡ form.Nothing → NothingRead d s p
  as_nothing j = as_formed form.Nothing j

  pub as_boolean : r ≡ form.Bit → BitRead d s p
  as_boolean j = as_formed form.Bit j

  pub as_integer : {w : ℕ} → r ≡ form.Integer w → IntegerRead w d s p
  as_integer {w} j = as_formed (form.Integer w) j

  pub as_product : {k : Parts} {n : ℕ} → r ≡ form.Product k n → ProductRead h k n d s E p
  as_product {k} {n} j = as_formed (form.Product k n) j

  pub as_sum : {n : ℕ} → r ≡ form.Sum n → SumRead h n d s E p
  as_sum {n} j = as_formed (form.Sum n) j

  pub as_list : {b : NonZeroPow2Usize} → r ≡ form.List b → ListRead h b d s E p
  as_list {b} j = as_formed (form.List b) j

  pub as_payload : {n : ℕ} → r ≡ form.Payload n → PayloadRead n d s E p
  as_payload {n} j = as_formed (form.Payload n) j
