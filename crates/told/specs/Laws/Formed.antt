-- What is told of the value at a record is what the record's form says of what is told below it (`formed`).
use Rattle.std.specs.Prelude.{◌≡◌, List, ◌⊎◌, length}
use Rattle.std.proofs.Math.Path.{refl, ap, subst}
use Rattle.std.proofs.Common.{sym, ◌∙◌, inl, inr}
use Rattle.std.proofs.Math.Bool.{true, false}
use Rattle.std.proofs.Math.Option.{some, none-ne-some}
use Prim.Native.Nat.{ℕ, suc, ◌+◌, ◌-◌, ◌/◌, ◌<◌, ◌≤◌}
use native.Mathlib.Omega.{arith}
use Rattle.num.specs.declared.NonZeroPow2Usize.{NonZeroPow2Usize}
use Rattle.num.specs.declared.Pow2Usize.{Pow2Usize}
use Rattle.num.specs.Powers.{bound_two, bound_log2}
use Rattle.model.specs.Balanced.{btree, fold}
use Rattle.model.specs.Structural.{SValue, unit, pair, tuple_of}
use Rattle.model.specs.Types.{Ty, never, bool, uint, either, option, tuple, array, list, enum, count}
use Rattle.model.specs.Values.{injects}
use Rattle.model.specs.ValueFiles.{encodes, parse_at, parses}
use Rattle.model.proofs.Laws.Shapes.{length_injects}
use Rattle.types.specs.declared.Head.{Head}
use Rattle.types.specs.declared.Head.TheVariants.{Missing, Faulty, Never, Boolean, UInt, Either, Opt, Tuple, Array, Listed, Variants}
use Rattle.types.specs.declared.Head.TheVariants as head
use Rattle.types.specs.declared.Rec.TheVariants.{Variant}
use Rattle.types.specs.Record.{head_at, calls_for, rec_at}
use Rattle.types.specs.Heads.{Fair, fair_bound_of, width_range}
use Rattle.types.specs.Walks.{walk}
use Rattle.types.specs.Trees.{end_of, kids, cases, node, payload, tree, treev}
use Rattle.types.specs.Steps.{Given, GivenRow, given_levels, given_head, given_end, tree_in, treev_in, size_kids, count_cases}
use Rattle.structural.specs.Forms.{is_variant, Stands}
use Rattle.structural.proofs.Laws.Forms.{stands}
use Rattle.structural.proofs.Laws.Bounds.{power_of}
use Rattle.value.specs.Record.{number_at}
use Rattle.value.specs.Arms.{width_small}
use Rattle.types.specs.declared.forms.Parts.{Parts}
use Rattle.types.specs.declared.forms.Parts.TheVariants.{Copies, Types}
use Rattle.told.specs.declared.Form.{Form}
use Rattle.told.specs.declared.Form.TheVariants as form
use Rattle.told.specs.Forms.{choice_at, form_of, Read, rows_from, shown, told, standing, GivenParts, bits_told, balanced, chosen, listed, hops, Hops}
use Rattle.told.specs.Laws.Seen.{seen_as}
use Rattle.told.specs.Laws.Rows.{standing_is, said, said_all, first, rest, hopped, hops_in, given_types, given_copies, types_row, copies_row}
use Rattle.told.specs.Laws.Products.{said_at, has_record, by_record, product, parted, tuple_said, array_said, list_said, option_said}
use Rattle.told.specs.Laws.Sums.{injected, either_said, enum_said, case_stands}
use Rattle.told.specs.Laws.Bits.{uint_said, bool_said}

pub record BitsTold (j n d : ℕ) (s val : List ℕ) (p v : ℕ) : Type 0 where
  pub some_bits : 1 ≤ n
  pub few : n ≤ 256
  pub inside : j + n ≤ 288
  pub there : v < length val / 36
  pub same : standing d s val p v ≡ some (bits_told val v j n, v + 1)

pub record ProductTold (k : Parts) (n d : ℕ) (s E val : List ℕ) (p v : ℕ) : Type 0 where
  pub few : n ≤ 65536
  pub given : GivenParts k (d - 1) s E n (p + 1)
  pub there : v < length val / 36
  pub same : standing d s val p v ≡ balanced k (d - 1) s val n (p + 1) (v + 1)

pub record SumTold (n i d : ℕ) (s E val : List ℕ) (p v : ℕ) : Type 0 where
  pub few : n ≤ 65536
  pub less : i < n
  pub there : v < length val / 36
  pub hopped : Hops E i (p + 1)
  pub given : Stands (d - 1) s E (hops E i (p + 1))
  pub same : standing d s val p v ≡ chosen (d - 1) s val n i (hops E i (p + 1)) (v + 1)

pub record ListTold (b : NonZeroPow2Usize) (m d : ℕ) (s E val : List ℕ) (p v : ℕ) : Type 0 where
  pub less : m < b.value
  pub there : v < length val / 36
  pub given : Stands (d - 1) s E (p + 1)
  pub same : standing d s val p v ≡ listed (d - 1) s val b m (p + 1) (v + 1)

pub record PayloadTold (n d : ℕ) (s E val : List ℕ) (p v : ℕ) : Type 0 where
  pub few : n ≤ 65536
  pub given : GivenParts Types (d - 1) s E n (p + 1)
  pub same : standing d s val p v ≡ balanced Types (d - 1) s val n (p + 1) v

-- by the form
abbrev pub Formed : Form → ℕ → List ℕ → List ℕ → List ℕ → ℕ → ℕ → Type 0
Formed (form.Bits j n) d s E val p v = BitsTold j n d s val p v
Formed (form.Product k n) d s E val p v = ProductTold k n d s E val p v
Formed (form.Sum n i) d s E val p v = SumTold n i d s E val p v
Formed (form.List b m) d s E val p v = ListTold b m d s E val p v
Formed (form.Payload n) d s E val p v = PayloadTold n d s E val p v

module _ (d : ℕ) (s E val : List ℕ) (p v : ℕ) (y : SValue × ℕ) (g : Stands d s E p) (told_so : standing d s val p v ≡ some y) where
  -- the type's node, over what stands below it
  abbrev below : Head → Ty
  below h = node h (tree (d - 1) s) (walk (d - 1) false s) (treev (d - 1) s) (walk (d - 1) true s) (p + 1)

  type_is : (h : Head) → h ≡ head_at s p → is_variant (calls_for h) ≡ false → standing d s val p v ≡ said (below h) val v
  unfolding standing told rec_at
  type_is h e f = ap (λ (x : Head). told d (is_variant (calls_for x)) s val p v) (sym e) ∙ ap (λ b. told d b s val p v) f ∙ ap (λ t. said t val v) (tree_in s p d h h (given_levels g.given) e refl)

  -- what is told is told by record v
  record Here (t : Ty) : Type 0 where
    there : v < length val / 36
    says : said_at t val v ≡ some y
    same : standing d s val p v ≡ said_at t val v

  here : (t : Ty) → standing d s val p v ≡ said t val v → Here t
  here t e =
      let h : said t val v ≡ some y = sym e ∙ told_so in
      let l = has_record t val v y h in
      let r = by_record t val v l in
      record { there = l; says = sym r ∙ h; same = e ∙ r }

  -- PRODUCTS

  types_told : (n : ℕ) → standing d s val p v ≡ said (tuple (kids (tree (d - 1) s) (walk (d - 1) false s) n (p + 1))) val v → n ≤ 65536 → GivenRow (d - 1) false s E n (p + 1) → ProductTold Types n d s E val p v
  unfolding balanced
  types_told n e l r =
      let ts = kids (tree (d - 1) s) (walk (d - 1) false s) n (p + 1) in
      let h = here (tuple ts) e in
      record {
        few = l;
        given = given_types n (p + 1) r;
        there = h.there;
        same = h.same ∙ tuple_said val v y ts h.says ∙ ap (λ m. product m (said_all ts val (v + 1))) (size_kids (tree (d - 1) s) (walk (d - 1) false s) n (p + 1)) ∙ ap (product n) (sym (types_row (d - 1) s E val n (p + 1) (v + 1) r));
      }

  copies_told : (n : ℕ) → standing d s val p v ≡ said (array (tree (d - 1) s (p + 1)) n) val v → n ≤ 65536 → Given (d - 1) false s E (p + 1) → ProductTold Copies n d s E val p v
  unfolding balanced
  copies_told n e l b =
      let a = tree (d - 1) s (p + 1) in
      let h = here (array a n) e in
      record {
        few = l;
        given = given_copies n (stands b);
        there = h.there;
        same = h.same ∙ array_said val v y a n h.says ∙ ap (product n) (sym (copies_row (d - 1) s E val n (p + 1) (v + 1) b));
      }

  payload_told : (n : ℕ) → head.Payload n ≡ head_at s p → n ≤ 65536 → GivenRow (d - 1) false s E n (p + 1) → PayloadTold n d s E val p v
  unfolding standing told rec_at payload balanced
  payload_told n e l r =
      let ts = kids (tree (d - 1) s) (walk (d - 1) false s) n (p + 1) in
      record {
        few = l;
        given = given_types n (p + 1) r;
        same =
            ap (λ (x : Head). told d (is_variant (calls_for x)) s val p v) (sym e)
            ∙ ap (λ us. shown (λ xs. tuple_of (injects us xs)) (encodes us) v (parses us (rows_from val v))) (treev_in s p d (rec_at s p) (Variant n) (given_levels g.given) refl (ap calls_for (sym e)))
            ∙ seen_as (λ xs. tuple_of (injects ts xs)) (encodes ts) (injects ts) (encodes ts) (fold pair unit (btree n)) v v (λ x. refl) (parses ts (rows_from val v)) (λ x o. ap (λ m. fold pair unit (btree m) (injects ts x.0)) (length_injects ts x.0 ∙ size_kids (tree (d - 1) s) (walk (d - 1) false s) n (p + 1)))
            ∙ ap (product n) (sym (types_row (d - 1) s E val n (p + 1) v r));
      }

  -- LISTS

  list_told : (b : NonZeroPow2Usize) → standing d s val p v ≡ said (list (tree (d - 1) s (p + 1)) (bound_log2 b.value - 1)) val v → Given (d - 1) false s E (p + 1) → ListTold b (number_at val v) d s E val p v
  unfolding listed
  list_told b e c =
      let a = tree (d - 1) s (p + 1) in
      let h = here (list a (bound_log2 b.value - 1)) e in
      let w = list_said val v y a (bound_log2 b.value - 1) h.says in
      let f = fair_bound_of b in
      let q = power_of b in
      let m : suc (bound_log2 b.value - 1) ≡ suc f.exponent = omega (arith, q.log2) in
      record {
        less = rw (q.power, ← m) w.0;
        there = h.there;
        given = stands c;
        same = h.same ∙ w.1 ∙ ap (parted (bound_log2 b.value - 1)) (sym (copies_row (d - 1) s E val (number_at val v) (p + 1) (v + 1) c));
      }

  option_told : standing d s val p v ≡ said (option (tree (d - 1) s (p + 1))) val v → Given (d - 1) false s E (p + 1) → ListTold bound_two (choice_at val v) d s E val p v
  unfolding listed bound_log2
  option_told e c =
      let a = tree (d - 1) s (p + 1) in
      let h = here (option a) e in
      let w = option_said val v y a h.says in
      record {
        less = w.0;
        there = h.there;
        given = stands c;
        same = h.same ∙ w.1 ∙ ap (parted 0) (sym (copies_row (d - 1) s E val (choice_at val v) (p + 1) (v + 1) c));
      }

  -- SUMS

  either_told : standing d s val p v ≡ said (either (tree (d - 1) s (p + 1)) (tree (d - 1) s (end_of (walk (d - 1) false s (p + 1))))) val v → GivenRow (d - 1) false s E 2 (p + 1) → SumTold 2 (choice_at val v) d s E val p v
  unfolding chosen hops told
  either_told e r = go (either_said val v y a b h.says)
    where
      a : Ty
      a = tree (d - 1) s (p + 1)

      b : Ty
      b = tree (d - 1) s (end_of (walk (d - 1) false s (p + 1)))

      h : Here (either a b)
      h = here (either a b) e

      told_at : (i : ℕ) → i < 2 → said_at (either a b) val v ≡ injected 2 i (standing (d - 1) s val (hops E i (p + 1)) (v + 1)) → SumTold 2 i d s E val p v
      told_at i l q = record { few = omega arith; less = l; there = h.there; hopped = hops_in i 2 (p + 1) l r; given = stands (hopped i 2 (p + 1) l r); same = h.same ∙ q }

      go : ((choice_at val v ≡ 0) × (said_at (either a b) val v ≡ injected 2 0 (said a val (v + 1)))) ⊎ ((choice_at val v ≡ 1) × (said_at (either a b) val v ≡ injected 2 1 (said b val (v + 1)))) → SumTold 2 (choice_at val v) d s E val p v
      go (inl q) = subst (λ i. SumTold 2 i d s E val p v) (sym q.0) (told_at 0 (omega arith) (q.1 ∙ ap (injected 2 0) (sym (standing_is val (v + 1) (first r)))))
      go (inr q) = subst (λ i. SumTold 2 i d s E val p v) (sym q.0) (told_at 1 (omega arith) (q.1 ∙ ap (injected 2 1) (ap (λ j. said (tree (d - 1) s j) val (v + 1)) (sym (given_end (first r))) ∙ sym (standing_is val (v + 1) (first (rest r))))))

  enum_told : (n : ℕ) → standing d s val p v ≡ said (enum (cases (treev (d - 1) s) (walk (d - 1) true s) (n - 1) (p + 1))) val v → 1 ≤ n → n ≤ 65536 → GivenRow (d - 1) true s E n (p + 1) → SumTold n (number_at val v) d s E val p v
  unfolding chosen
  enum_told n e k l r =
      let vs = cases (treev (d - 1) s) (walk (d - 1) true s) (n - 1) (p + 1) in
      let i = number_at val v in
      let h = here (enum vs) e in
      let w = enum_said val v y vs h.says in
      let c : count vs ≡ n = count_cases (treev (d - 1) s) (walk (d - 1) true s) (n - 1) (p + 1) ∙ omega arith in
      let u : suc (n - 1) ≡ n = omega arith in
      let m : i < n = subst (λ j. i < j) c w.0 in
      record {
        few = l;
        less = m;
        there = h.there;
        hopped = hops_in i n (p + 1) m r;
        given = stands (hopped i n (p + 1) m r);
        same = h.same ∙ w.1 ∙ ap (injected (count vs) i) (case_stands (d - 1) s E val (n - 1) i (p + 1) (v + 1) (omega arith) (rw u r)) ∙ ap (λ j. injected j i (standing (d - 1) s val (hops E i (p + 1)) (v + 1))) c;
      }

  -- BITS

  bool_told : standing d s val p v ≡ said bool val v → BitsTold 15 1 d s val p v
  bool_told e = let h = here bool e in record { some_bits = omega arith; few = omega arith; inside = omega arith; there = h.there; same = h.same ∙ bool_said val v h.there y h.says }

  uint_told : (w : Pow2Usize) → standing d s val p v ≡ said (uint w.value) val v → BitsTold (288 - w.value) w.value d s val p v
  uint_told w e =
      let h = here (uint w.value) e in
      let l : w.value ≤ 256 = width_small w w.value refl in
      record { some_bits = (width_range w).0; few = l; inside = omega arith; there = h.there; same = h.same ∙ uint_said val v h.there y w.value l h.says }

  never_told : {A : Type 0} → standing d s val p v ≡ said never val v → A
  unfolding parse_at
  never_told e = absurd (none-ne-some y (here never e).says)

-- what is told is what the form says
pub formed : (h : Head) (d : ℕ) (s E val : List ℕ) (p v : ℕ) (y : SValue × ℕ) → Stands d s E p → standing d s val p v ≡ some y → h ≡ head_at s p → Fair h → Formed (form_of h val v) d s E val p v
unfolding node kids
formed Missing d s E val p v y g t e f = types_told d s E val p v y g t 0 (type_is d s E val p v y g t Missing e refl) (omega arith) (given_head Missing g.given e refl)
formed Faulty d s E val p v y g t e f = types_told d s E val p v y g t 0 (type_is d s E val p v y g t Faulty e refl) (omega arith) (given_head Faulty g.given e refl)
formed Never d s E val p v y g t e f = never_told d s E val p v y g t (type_is d s E val p v y g t Never e refl)
formed Boolean d s E val p v y g t e f = bool_told d s E val p v y g t (type_is d s E val p v y g t Boolean e refl)
formed (UInt w) d s E val p v y g t e f = uint_told d s E val p v y g t w (type_is d s E val p v y g t (UInt w) e refl)
formed Either d s E val p v y g t e f = either_told d s E val p v y g t (type_is d s E val p v y g t Either e refl) (given_head Either g.given e refl)
formed Opt d s E val p v y g t e f = option_told d s E val p v y g t (type_is d s E val p v y g t Opt e refl) (first (given_head Opt g.given e refl))
formed (Tuple n) d s E val p v y g t e f = types_told d s E val p v y g t n (type_is d s E val p v y g t (Tuple n) e refl) (omega arith) (given_head (Tuple n) g.given e refl)
formed (Array n) d s E val p v y g t e f = copies_told d s E val p v y g t n (type_is d s E val p v y g t (Array n) e refl) (omega arith) (first (given_head (Array n) g.given e refl))
formed (Listed b) d s E val p v y g t e f = list_told d s E val p v y g t b (type_is d s E val p v y g t (Listed b) e refl) (first (given_head (Listed b) g.given e refl))
formed (Variants n) d s E val p v y g t e f = enum_told d s E val p v y g t n (type_is d s E val p v y g t (Variants n) e refl) f.0 (omega arith) (given_head (Variants n) g.given e refl)
formed (head.Payload n) d s E val p v y g t e f = payload_told d s E val p v y g t n e (omega arith) (given_head (head.Payload n) g.given e refl)

-- what the form is read from is there
pub readable : (h : Head) (d : ℕ) (s E val : List ℕ) (p v : ℕ) (y : SValue × ℕ) → Stands d s E p → standing d s val p v ≡ some y → h ≡ head_at s p → Fair h → Read h val v
readable Missing d s E val p v y g t e f = tt
readable Faulty d s E val p v y g t e f = tt
readable Never d s E val p v y g t e f = tt
readable Boolean d s E val p v y g t e f = tt
readable (UInt w) d s E val p v y g t e f = width_small w w.value refl
readable Either d s E val p v y g t e f = (formed Either d s E val p v y g t e f).there
readable Opt d s E val p v y g t e f = (formed Opt d s E val p v y g t e f).there
readable (Tuple n) d s E val p v y g t e f = tt
readable (Array n) d s E val p v y g t e f = tt
readable (Listed b) d s E val p v y g t e f = (formed (Listed b) d s E val p v y g t e f).there
readable (Variants n) d s E val p v y g t e f = (formed (Variants n) d s E val p v y g t e f).there
readable (head.Payload n) d s E val p v y g t e f = tt

-- AS THE CODE ASKS IT: r is the form that was read

as_formed : (h : Head) (r x : Form) (d : ℕ) (s E val : List ℕ) (p v : ℕ) (y : SValue × ℕ) → Stands d s E p → standing d s val p v ≡ some y → h ≡ head_at s p → Fair h → r ≡ form_of h val v → r ≡ x → Formed x d s E val p v
as_formed h r x d s E val p v y g t e f i j = subst (λ z. Formed z d s E val p v) (sym i ∙ j) (formed h d s E val p v y g t e f)

module _ {d : ℕ} {s E val : List ℕ} {p v : ℕ} {y : SValue × ℕ} {h : Head} {r : Form} (g : Stands d s E p) (t : standing d s val p v ≡ some y) (e : h ≡ head_at s p) (f : Fair h) (i : r ≡ form_of h val v) where
  pub as_bits : {j n : ℕ} → r ≡ form.Bits j n → BitsTold j n d s val p v
  as_bits {j} {n} q = as_formed h r (form.Bits j n) d s E val p v y g t e f i q

  pub as_product : {k : Parts} {n : ℕ} → r ≡ form.Product k n → ProductTold k n d s E val p v
  as_product {k} {n} q = as_formed h r (form.Product k n) d s E val p v y g t e f i q

  pub as_sum : {n c : ℕ} → r ≡ form.Sum n c → SumTold n c d s E val p v
  as_sum {n} {c} q = as_formed h r (form.Sum n c) d s E val p v y g t e f i q

  pub as_list : {b : NonZeroPow2Usize} {m : ℕ} → r ≡ form.List b m → ListTold b m d s E val p v
  as_list {b} {m} q = as_formed h r (form.List b m) d s E val p v y g t e f i q

  pub as_payload : {n : ℕ} → r ≡ form.Payload n → PayloadTold n d s E val p v
  as_payload {n} q = as_formed h r (form.Payload n) d s E val p v y g t e f i q
