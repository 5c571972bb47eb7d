-- Laws of what is read at a record: it is what the record's form says of what stands below it (`formed`).
use Rattle.std.specs.Prelude.{◌≡◌, Bool, get_or, take, drop, replicate, Result, Ok}
use Rattle.std.proofs.Math.Path.{refl, ap, ap₂}
use Rattle.std.proofs.Common.{sym, subst, ◌∙◌, zero-add, suc-add}
use Rattle.std.proofs.Math.Bool.{true, false}
use Rattle.std.proofs.lemmas.List.{take-replicate, drop-replicate}
use mathlib.Core.List.{List, [], ◌∷◌}
use Prim.Native.Nat.{ℕ, zero, suc, ◌+◌, ◌-◌, ◌≤◌}
use native.Mathlib.Omega.{arith}
use Rattle.num.specs.declared.NonZeroPow2Usize.{NonZeroPow2Usize}
use Rattle.num.specs.Powers.{bound_log2}
use Rattle.model.specs.Balanced.{next_power_of_two, btree_split_index, btree, grow, fold}
use Rattle.model.specs.Balanced as powers
use Rattle.model.proofs.Laws.Balanced.{split_bounds, Shares}
use Rattle.model.proofs.Laws.Sizes.{fold_step}
use Rattle.model.specs.Types.{size}
use Rattle.types.specs.declared.Head.{Head}
use Rattle.types.specs.declared.Head.TheVariants.{Missing, Faulty, Never, Boolean, UInt, Either, Opt, Tuple, Array, Listed, Variants, Payload}
use Rattle.types.specs.declared.Rec.{Rec}
use Rattle.types.specs.declared.Rec.TheVariants.{Gone, Wrong, Variant}
use Rattle.types.specs.Record.{head_at, calls_for, rec_at}
use Rattle.types.specs.Heads.{Fair, width_range}
use Rattle.types.specs.Walks.{opens, walk}
use Rattle.reply.specs.declared.Refusal.{Refusal}
use Rattle.types.specs.Unique.{bad_end}
use Rattle.types.specs.Trees.{kids, node, payload, tree, treev}
use Rattle.types.specs.Trees as trees
use Rattle.types.specs.Steps.{Given, GivenRow, given_levels, given_head, given_end, given_inside, tree_in, treev_in, size_kids, count_cases}
use Rattle.types.specs.declared.forms.Form.{Form}
use Rattle.types.specs.declared.forms.Form.TheVariants as form
use Rattle.types.specs.declared.forms.Parts.{Parts}
use Rattle.types.specs.declared.forms.Parts.TheVariants.{Copies, Types}
use Rattle.types.specs.Forms.{form_of}
use Rattle.rebuild.specs.Kinds.{Readers, products, choices, bits, blocks, lists, reads, readers, cases}
use Rattle.structural.specs.Forms.{most_parts, is_variant, Stands}
use Rattle.told.specs.Forms.{hops}
use Rattle.told.specs.Laws.Hops.{hops_add}
use Rattle.told.specs.Laws.Rows.{first, rest, hopped}
use Rattle.rebuild.specs.Forms.{skip, Hopped, GivenParts, reading, standing, bits_of, row, balanced, chosen, block_of, listed}
use Rattle.structural.proofs.Laws.Forms.{is_kind, stands}

-- WHAT STANDS AT A RECORD

module _ {d : ℕ} {v : Bool} {s E : List ℕ} {p : ℕ} (g : Given d v s E p) where
  pub standing_is : {A : Type 0} (W : Readers A) → standing W d s p ≡ reading W d v s p
  unfolding standing
  standing_is W = ap (λ b. reading W d b s p) (is_kind g)

-- a record that is refused is none of an accepted file
none_refused : {d : ℕ} {s E : List ℕ} {p : ℕ} → Stands d s E p → (r : Rec) → r ≡ rec_at s p → ((v : Bool) (k : Bool → ℕ → Result ℕ Refusal) (e : ℕ) → opens v r k ≡ Ok e → ⊥) → ⊥
unfolding walk
none_refused {d} {s} {E} {p} g r i f = go d (is_variant (rec_at s p)) g.given.starts.end g.given.starts.walks
  where
    no : (v : Bool) (k : Bool → ℕ → Result ℕ Refusal) (e : ℕ) → opens v (rec_at s p) k ≡ Ok e → ⊥
    no v k e w = f v k e (ap (λ r. opens v r k) i ∙ w)

    go : (d : ℕ) (v : Bool) (e : ℕ) → walk d v s p ≡ Ok e → ⊥
    go zero v e w = no v _ e w
    go (suc d) v e w = no v _ e w

-- PARTS IN A ROW

skip_add : (k : Parts) (E : List ℕ) (m n p : ℕ) → skip k E (m + n) p ≡ skip k E n (skip k E m p)
skip_add Copies E m n p = refl
skip_add Types E m n p = hops_add E m n p

skip_none : (k : Parts) (E : List ℕ) (p : ℕ) → skip k E 0 p ≡ p
unfolding hops
skip_none Copies E p = refl
skip_none Types E p = refl

skip_suc : (k : Parts) (E : List ℕ) (n p : ℕ) → skip k E n (skip k E 1 p) ≡ skip k E (suc n) p
unfolding hops
skip_suc Copies E n p = refl
skip_suc Types E n p = refl

module _ {k : Parts} {d : ℕ} {s E : List ℕ} {n p : ℕ} (g : GivenParts k d s E n p) where
  pub given_one : 1 ≤ n → Stands d s E p
  given_one h = rw (skip_none k E p) at (g.each 0 h)

  pub given_left : (m : ℕ) → m ≤ n → GivenParts k d s E m p
  given_left m h = record { each = λ i l. g.each i (omega arith) }

  pub given_right : (m : ℕ) → m ≤ n → GivenParts k d s E (n - m) (skip k E m p)
  given_right m h = record { each = λ i l. rw (← skip_add k E m i p) (g.each (m + i) (omega arith)) }

pub given_copies : {d : ℕ} {s E : List ℕ} {p : ℕ} (n : ℕ) → Stands d s E p → GivenParts Copies d s E n p
given_copies n g = record { each = λ i l. g }

pub given_hopped : (k : Parts) {d : ℕ} {s E : List ℕ} {n p : ℕ} → GivenParts k d s E n p → Hopped k E n p
given_hopped Copies g = tt
given_hopped Types g = record { each = λ i l. given_inside (g.each i l).given }

pub one_given : {k : Parts} {d : ℕ} {s E : List ℕ} {n p : ℕ} → GivenParts k d s E n p → n ≡ 1 → Stands d s E p
one_given g z = given_one g (omega arith)

module _ {n few : ℕ} (h : Shares n few) {k : Parts} {d : ℕ} {s E : List ℕ} {p : ℕ} (g : GivenParts k d s E n p) where
  pub left_given : GivenParts k d s E few p
  left_given = let l = h.less in given_left g few (omega arith)

  pub right_given : {q : ℕ} → q ≡ skip k E few p → GivenParts k d s E (n - few) q
  right_given e = let l = h.less in rw e (given_right g few (omega arith))

module _ {A : Type 0} (W : Readers A) (k : Parts) (d : ℕ) (s E : List ℕ) where
  take_row : (m n p : ℕ) → take m (row W k d s E (m + n) p) ≡ row W k d s E m p
  unfolding row
  take_row zero n p = refl
  take_row (suc m) n p = rw (suc-add m n) (ap {B = List A} (λ l. standing W d s p ∷ l) (take_row m n (skip k E 1 p)))

  drop_row : (m n p : ℕ) → drop m (row W k d s E (m + n) p) ≡ row W k d s E n (skip k E m p)
  unfolding row
  drop_row zero n p = ap₂ (λ i q. row W k d s E i q) (zero-add n) (sym (skip_none k E p))
  drop_row (suc m) n p = rw (suc-add m n) (drop_row m n (skip k E 1 p) ∙ ap (λ q. row W k d s E n q) (skip_suc k E m p))

  fold_row : (f : A → A → A) (z : A) (n p : ℕ) → 2 ≤ n → fold f z (btree n) (row W k d s E n p) ≡ f (fold f z (btree (btree_split_index n)) (row W k d s E (btree_split_index n) p)) (fold f z (btree (n - btree_split_index n)) (row W k d s E (n - btree_split_index n) (skip k E (btree_split_index n) p)))
  fold_row f z n p h =
      let m = btree_split_index n in
      let b = split_bounds n h in
      let e : n ≡ m + (n - m) = omega arith in
      fold_step f z n h (row W k d s E n p)
      ∙ ap₂ (λ x y. f (fold f z (btree m) x) (fold f z (btree (n - m)) y)) (ap (λ i. take m (row W k d s E i p)) e ∙ take_row m (n - m) p) (ap (λ i. drop m (row W k d s E i p)) e ∙ drop_row m (n - m) p)

  pub balanced_none : (n p : ℕ) → n ≡ 0 → balanced W k d s E n p ≡ W.passes
  unfolding balanced row products fold btree grow
  balanced_none n p e = ap (λ i. balanced W k d s E i p) e

  pub balanced_one : (n p : ℕ) → n ≡ 1 → balanced W k d s E n p ≡ standing W d s p
  unfolding balanced row products fold btree grow
  balanced_one n p e = ap (λ i. balanced W k d s E i p) e

  pub balanced_step : (n few p : ℕ) → few ≡ btree_split_index n → 2 ≤ n → balanced W k d s E n p ≡ W.pairs (balanced W k d s E few p) (balanced W k d s E (n - few) (skip k E few p))
  unfolding balanced products
  balanced_step n few p e h = rw e (fold_row W.pairs W.passes n p h)

-- BITS IN A ROW

module _ {A : Type 0} (W : Readers A) where
  pub bits_one : (n : ℕ) → n ≡ 1 → bits_of W n ≡ bits W
  unfolding bits_of products fold btree grow
  bits_one n e = ap (bits_of W) e

  pub bits_step : (n few : ℕ) → few ≡ btree_split_index n → 2 ≤ n → bits_of W n ≡ W.pairs (bits_of W few) (bits_of W (n - few))
  unfolding bits_of products
  bits_step n few e h =
      let b = split_bounds n h in
      rw e (fold_step W.pairs W.passes n h (replicate n (bits W)) ∙ ap₂ (λ x y. W.pairs (fold W.pairs W.passes (btree (btree_split_index n)) x) (fold W.pairs W.passes (btree (n - btree_split_index n)) y)) (take-replicate (btree_split_index n) n (bits W) (omega arith)) (drop-replicate (btree_split_index n) n (bits W)))

-- ROWS

module _ {A : Type 0} (W : Readers A) (d : ℕ) (s E : List ℕ) where
  pub chosen_one : (n p : ℕ) → n ≡ 1 → chosen W d s E n p ≡ standing W d s p
  unfolding chosen row choices fold btree grow
  chosen_one n p e = ap (λ i. chosen W d s E i p) e

  pub chosen_step : (n few p : ℕ) → few ≡ btree_split_index n → 2 ≤ n → chosen W d s E n p ≡ W.sums (chosen W d s E few p) (chosen W d s E (n - few) (hops E few p))
  unfolding chosen choices
  chosen_step n few p e h = rw e (fold_row W Types d s E W.sums W.fails n p h)

  copies_row : (n p : ℕ) → row W Copies d s E n p ≡ replicate n (standing W d s p)
  unfolding row
  copies_row zero p = refl
  copies_row (suc n) p = ap {B = List A} (λ l. standing W d s p ∷ l) (copies_row n p)

  pub block_sum : (n p : ℕ) → block_of W d s n p ≡ W.sums W.units (balanced W Copies d s E n p)
  unfolding block_of blocks balanced
  block_sum n p = ap (λ l. W.sums W.units (products W n l)) (sym (copies_row n p))

-- RECORDS IN A ROW

pub row_given : {d : ℕ} {v : Bool} {s E : List ℕ} {n p : ℕ} → GivenRow d v s E n p → GivenParts Types d s E n p
row_given {n = n} {p = p} g = record { each = λ i l. stands (hopped i n p l g) }

module _ {A : Type 0} (W : Readers A) (d : ℕ) (s E : List ℕ) where
  row_kids : (n p : ℕ) → GivenRow d false s E n p → row W Types d s E n p ≡ readers W (kids (tree d s) (walk d false s) n p)
  unfolding row kids reads hops reading
  row_kids zero p g = refl
  row_kids (suc n) p g = ap₂ {C = List A} ◌∷◌ (standing_is (first g) W) (row_kids n (get_or E p 0) (rest g) ∙ ap (λ q. readers W (kids (tree d s) (walk d false s) n q)) (given_end (first g)))

  row_cases : (n p : ℕ) → GivenRow d true s E (suc n) p → row W Types d s E (suc n) p ≡ cases W (trees.cases (treev d s) (walk d true s) n p)
  unfolding row trees.cases reads hops reading
  row_cases zero p g = ap (λ (r : A). r ∷ []) (standing_is (first g) W)
  row_cases (suc n) p g = ap₂ {C = List A} ◌∷◌ (standing_is (first g) W) (row_cases n (get_or E p 0) (rest g) ∙ ap (λ q. cases W (trees.cases (treev d s) (walk d true s) n q)) (given_end (first g)))

-- THE KINDS OF TYPES

pub record IntegerOf {A : Type 0} (W : Readers A) (w : ℕ) (t : A) : Type 0 where
  pub some : 1 ≤ w
  pub few : w ≤ 256
  pub same : t ≡ W.one (bits_of W w)

pub record ProductOf {A : Type 0} (W : Readers A) (k : Parts) (n d : ℕ) (s E : List ℕ) (p : ℕ) (t : A) : Type 0 where
  pub few : n ≤ most_parts
  pub given : GivenParts k d s E n p
  pub same : t ≡ W.one (balanced W k d s E n p)

pub record SumOf {A : Type 0} (W : Readers A) (n d : ℕ) (s E : List ℕ) (p : ℕ) (t : A) : Type 0 where
  pub some : 1 ≤ n
  pub few : n ≤ most_parts
  pub given : GivenParts Types d s E n p
  pub same : t ≡ W.one (chosen W d s E n p)

pub record ListOf {A : Type 0} (W : Readers A) (b : NonZeroPow2Usize) (d : ℕ) (s E : List ℕ) (p : ℕ) (t : A) : Type 0 where
  pub given : Stands d s E p
  pub same : t ≡ W.one (listed W d s b p)

pub record PayloadOf {A : Type 0} (W : Readers A) (n d : ℕ) (s E : List ℕ) (p : ℕ) (t : A) : Type 0 where
  pub few : n ≤ most_parts
  pub given : GivenParts Types d s E n p
  pub same : t ≡ balanced W Types d s E n p

abbrev pub Formed : {A : Type 0} → Readers A → Form → ℕ → List ℕ → List ℕ → ℕ → A → Type 0
Formed W form.Nothing d s E p t = t ≡ W.fails
Formed W form.Bit d s E p t = t ≡ W.one (bits W)
Formed W (form.Integer w) d s E p t = IntegerOf W w t
Formed W (form.Product k n) d s E p t = ProductOf W k n d s E p t
Formed W (form.Sum n) d s E p t = SumOf W n d s E p t
Formed W (form.List b) d s E p t = ListOf W b d s E p t
Formed W (form.Payload n) d s E p t = PayloadOf W n d s E p t

module _ {A : Type 0} (W : Readers A) where
  either_is : (a b : A) → W.one (W.sums a b) ≡ W.one (choices W 2 (a ∷ b ∷ []))
  unfolding choices fold btree grow btree_split_index next_power_of_two powers.next
  either_is a b = refl

  option_is : (a : A) → W.one (W.sums W.units a) ≡ W.one (lists W (bound_log2 2 - 1) a)
  unfolding lists blocks products fold btree grow bound_log2
  option_is a = refl

module _ {A : Type 0} (W : Readers A) {d : ℕ} {s E : List ℕ} {p : ℕ} (g : Stands d s E p) where
  type_is : (h : Head) → h ≡ head_at s p → is_variant (calls_for h) ≡ false → standing W d s p ≡ reads W (node h (tree (d - 1) s) (walk (d - 1) false s) (treev (d - 1) s) (walk (d - 1) true s) (p + 1))
  unfolding standing reading rec_at
  type_is h e f = ap (λ (x : Head). reading W d (is_variant (calls_for x)) s p) (sym e) ∙ ap (λ b. reading W d b s p) f ∙ ap (reads W) (tree_in s p d h h (given_levels g.given) e refl)

  payload_is : (n : ℕ) → Payload n ≡ head_at s p → standing W d s p ≡ products W n (readers W (kids (tree (d - 1) s) (walk (d - 1) false s) n (p + 1)))
  unfolding standing reading rec_at payload
  payload_is n e =
      ap (λ (x : Head). reading W d (is_variant (calls_for x)) s p) (sym e)
      ∙ ap (λ t. products W (size t) (readers W t)) (treev_in s p d (rec_at s p) (Variant n) (given_levels g.given) refl (ap calls_for (sym e)))
      ∙ ap (λ m. products W m (readers W (kids (tree (d - 1) s) (walk (d - 1) false s) n (p + 1)))) (size_kids _ _ n (p + 1))

  tuple_same : (n : ℕ) → Tuple n ≡ head_at s p → standing W d s p ≡ W.one (balanced W Types (d - 1) s E n (p + 1))
  unfolding node reads balanced
  tuple_same n e =
      type_is (Tuple n) e refl
      ∙ ap (λ m. W.one (products W m (readers W (kids (tree (d - 1) s) (walk (d - 1) false s) n (p + 1))))) (size_kids _ _ n (p + 1))
      ∙ ap (λ l. W.one (products W n l)) (sym (row_kids W (d - 1) s E n (p + 1) (given_head (Tuple n) g.given e refl)))

  enum_same : (n : ℕ) → 1 ≤ n → Variants n ≡ head_at s p → standing W d s p ≡ W.one (chosen W (d - 1) s E n (p + 1))
  unfolding node reads chosen
  enum_same n l e =
      let m : suc (n - 1) ≡ n = omega arith in
      type_is (Variants n) e refl
      ∙ ap (λ i. W.one (choices W i (cases W (trees.cases (treev (d - 1) s) (walk (d - 1) true s) (n - 1) (p + 1))))) (count_cases _ _ (n - 1) (p + 1))
      ∙ ap (λ l. W.one (choices W (suc (n - 1)) l)) (sym (row_cases W (d - 1) s E (n - 1) (p + 1) (rw m (given_head (Variants n) g.given e refl))))
      ∙ ap (λ i. W.one (choices W i (row W Types (d - 1) s E i (p + 1)))) m

  either_same : Either ≡ head_at s p → standing W d s p ≡ W.one (chosen W (d - 1) s E 2 (p + 1))
  unfolding node reads chosen kids
  either_same e =
      type_is Either e refl
      ∙ either_is W _ _
      ∙ ap (λ l. W.one (choices W 2 l)) (sym (row_kids W (d - 1) s E 2 (p + 1) (given_head Either g.given e refl)))

  -- what stands at a record is what its form says of what stands below it
  pub formed : (h : Head) → h ≡ head_at s p → Fair h → Formed W (form_of h) (d - 1) s E (p + 1) (standing W d s p)
  unfolding node reads reading listed balanced bits_of opens rec_at
  formed Missing e f = absurd (none_refused g Gone (ap calls_for e) (λ v k m. bad_end))
  formed Faulty e f = absurd (none_refused g Wrong (ap calls_for e) (λ v k m. bad_end))
  formed Never e f = type_is Never e refl
  formed Boolean e f = type_is Boolean e refl
  formed (UInt w) e f = let (l, m) = width_range w in record { some = l; few = m; same = type_is (UInt w) e refl }
  formed Either e f = record { some = omega arith; few = omega arith; given = row_given (given_head Either g.given e refl); same = either_same e }
  formed Opt e f =
      let b = first (given_head Opt g.given e refl) in
      record { given = stands b; same = type_is Opt e refl ∙ option_is W _ ∙ ap (λ r. W.one (lists W (bound_log2 2 - 1) r)) (sym (standing_is b W)) }
  formed (Tuple n) e f = record { few = omega arith; given = row_given (given_head (Tuple n) g.given e refl); same = tuple_same n e }
  formed (Array n) e f =
      let b = first (given_head (Array n) g.given e refl) in
      record { few = omega arith; given = given_copies n (stands b); same = type_is (Array n) e refl ∙ ap (λ r. W.one (products W n (replicate n r))) (sym (standing_is b W)) ∙ ap (λ l. W.one (products W n l)) (sym (copies_row W (d - 1) s E n (p + 1))) }
  formed (Listed b) e f =
      let c = first (given_head (Listed b) g.given e refl) in
      record { given = stands c; same = type_is (Listed b) e refl ∙ ap (λ r. W.one (lists W (bound_log2 b.value - 1) r)) (sym (standing_is c W)) }
  formed (Variants n) e f = record { some = f.0; few = omega arith; given = row_given (given_head (Variants n) g.given e refl); same = enum_same n f.0 e }
  formed (Payload n) e f = record { few = omega arith; given = row_given (given_head (Payload n) g.given e refl); same = payload_is n e ∙ ap (λ l. products W n l) (sym (row_kids W (d - 1) s E n (p + 1) (given_head (Payload n) g.given e refl))) }

-- what is known of a record, by its form
module _ {d : ℕ} {s E : List ℕ} {p : ℕ} (g : Stands d s E p) where
  module _ {A : Type 0} (W : Readers A) (h : Head) (f : Form) (e : h ≡ head_at s p) (i : Fair h) (j : f ≡ form_of h) where
    pub as_formed : (x : Form) → f ≡ x → Formed W x (d - 1) s E (p + 1) (standing W d s p)
    as_formed x k = subst (λ y. Formed W y (d - 1) s E (p + 1) (standing W d s p)) (sym j ∙ k) (formed W g h e i)

    pub as_bit : f ≡ form.Bit → standing W d s p ≡ W.one (bits W)
    as_bit = as_formed form.Bit

    pub as_integer : (w : ℕ) → f ≡ form.Integer w → IntegerOf W w (standing W d s p)
    as_integer w = as_formed (form.Integer w)

    pub as_product : (k : Parts) (n : ℕ) → f ≡ form.Product k n → ProductOf W k n (d - 1) s E (p + 1) (standing W d s p)
    as_product k n = as_formed (form.Product k n)

    pub as_sum : (n : ℕ) → f ≡ form.Sum n → SumOf W n (d - 1) s E (p + 1) (standing W d s p)
    as_sum n = as_formed (form.Sum n)

    pub as_list : (b : NonZeroPow2Usize) → f ≡ form.List b → ListOf W b (d - 1) s E (p + 1) (standing W d s p)
    as_list b = as_formed (form.List b)

    pub as_payload : (n : ℕ) → f ≡ form.Payload n → PayloadOf W n (d - 1) s E (p + 1) (standing W d s p)
    as_payload n = as_formed (form.Payload n)
