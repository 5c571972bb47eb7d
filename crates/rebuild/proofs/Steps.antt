-- The steps of the readers, in the form in which the code's needs ask them.
use Rattle.std.specs.Prelude.{Option, Some, None}
use mathlib.Core.Path.{◌≡◌, refl, sym, ap, ap₂, ◌∙◌}
use mathlib.Core.List.{List, []}
use Prim.Native.Nat.{ℕ, ◌+◌, ◌-◌, ◌≤◌}
use native.Mathlib.Nat.{zero-add}
use native.Mathlib.Omega.{arith}
use lib.ListN.{get_or}
use Rattle.num.specs.declared.NonZeroPow2Usize.{NonZeroPow2Usize}
use Rattle.num.specs.Powers.{half_bound}
use Rattle.model.specs.Balanced.{btree_split_index}
use Rattle.types.specs.declared.Head.{Head}
use Rattle.types.specs.Record.{head_at}
use Rattle.types.specs.Heads.{Fair}
use Rattle.types.specs.declared.forms.Form.{Form}
use Rattle.types.specs.declared.forms.Form.TheVariants as form
use Rattle.types.specs.declared.forms.Parts.{Parts}
use Rattle.types.specs.declared.forms.Parts.TheVariants.{Copies, Types}
use Rattle.types.specs.Forms.{form_of}
use Rattle.rebuild.specs.declared.Read.{Read}
use Rattle.rebuild.specs.Places.{units, pairs, passes, bit, at_places}
use Rattle.rebuild.specs.Reads.{Reader, read_to, plus, counts, reader}
use Rattle.structural.specs.Forms.{Stands}
use Rattle.structural.proofs.Laws.Forms.{level_some, next_fits}
use Rattle.told.specs.Forms.{hops}
use Rattle.rebuild.specs.Forms.{Few, Limits, count_of, surplus_of, skip, standing, bits_of, balanced, chosen, block_of, listed}
use Rattle.rebuild.specs.Laws.Steps.{few_one, few_none, left_fits, right_fits, pair_fits, sum_left, sum_right, sum_no, pair_no, pair_stop, pair_on}
use Rattle.rebuild.specs.Laws.Forms.{balanced_none, balanced_one, balanced_step, bits_one, bits_step, one_given, chosen_one, chosen_step, block_sum, as_formed, as_bit, as_integer, as_product, as_sum, as_list, as_payload}
use Rattle.rebuild.specs.Laws.Lists.{list_two, Halved, list_more}
use Rattle.rebuild.specs.Laws.Few.{few_bits, few_product, few_sum, few_block, few_list}

pub limits_down : {sh : List ℕ} {d : ℕ} → Limits sh d → Limits sh (d - 1)
limits_down l = let m = l.low in record { short = l.short; low = omega arith }

-- nothing more
plus_none : (x : Option Read) → plus 0 0 x ≡ x
plus_none (Some r) = ap₂ (read_to r.next) (zero-add r.records) (zero-add r.surplus)
plus_none None = refl

-- what reading gives at one place
here : {r t : Reader} (x : Option Read) (p : ℕ) → r ≡ t → x ≡ t p → x ≡ r p
here x p e h = h ∙ ap (λ (f : Reader). f p) (sym e)

-- RECORDS

module _ {d : ℕ} {s E : List ℕ} {p : ℕ} (g : Stands d s E p) where
  module _ (sh : List ℕ) (h : Head) (f : Form) (e : h ≡ head_at s p) (i : Fair h) (j : f ≡ form_of h) where
    module _ (q : ℕ) (x z : Option Read) where
      pub record_nothing : f ≡ form.Nothing → x ≡ None → z ≡ plus 1 0 x → z ≡ standing (reader sh) d s p q
      unfolding reader at_places counts
      record_nothing o u v = here z q (as_formed g (reader sh) h f e i j form.Nothing o) (v ∙ ap (plus 1 0) u)

      pub record_bit : f ≡ form.Bit → x ≡ bit counts sh q → z ≡ plus 1 0 x → z ≡ standing (reader sh) d s p q
      unfolding reader at_places counts
      record_bit o u v = here z q (as_bit g (reader sh) h f e i j o) (v ∙ ap (plus 1 0) u)

      pub record_integer : (w : ℕ) → f ≡ form.Integer w → x ≡ bits_of (reader sh) w q → z ≡ plus 1 0 x → z ≡ standing (reader sh) d s p q
      unfolding reader at_places counts
      record_integer w o u v = here z q (as_integer g (reader sh) h f e i j w o).same (v ∙ ap (plus 1 0) u)

      pub record_product : (k : Parts) (n : ℕ) → f ≡ form.Product k n → x ≡ balanced (reader sh) k (d - 1) s E n (p + 1) q → z ≡ plus 1 0 x → z ≡ standing (reader sh) d s p q
      unfolding reader at_places counts
      record_product k n o u v = here z q (as_product g (reader sh) h f e i j k n o).same (v ∙ ap (plus 1 0) u)

      pub record_sum : (n : ℕ) → f ≡ form.Sum n → x ≡ chosen (reader sh) (d - 1) s E n (p + 1) q → z ≡ plus 1 0 x → z ≡ standing (reader sh) d s p q
      unfolding reader at_places counts
      record_sum n o u v = here z q (as_sum g (reader sh) h f e i j n o).same (v ∙ ap (plus 1 0) u)

      pub record_list : (b : NonZeroPow2Usize) → f ≡ form.List b → x ≡ listed (reader sh) (d - 1) s b (p + 1) q → z ≡ plus 1 0 x → z ≡ standing (reader sh) d s p q
      unfolding reader at_places counts
      record_list b o u v = here z q (as_list g (reader sh) h f e i j b o).same (v ∙ ap (plus 1 0) u)

    pub record_payload : (q : ℕ) (x : Option Read) (n : ℕ) → f ≡ form.Payload n → x ≡ balanced (reader sh) Types (d - 1) s E n (p + 1) q → x ≡ standing (reader sh) d s p q
    record_payload q x n o u = here x q (as_payload g (reader sh) h f e i j n o).same u

-- HOW MANY

pub nothing_few : Few 0 0
nothing_few = record { records = omega arith; surplus = omega arith }

module _ (sh : List ℕ) (d p : ℕ) (x : Option Read) (l : Limits sh d) where
  pub bits_few : (n : ℕ) → x ≡ bits_of (reader sh) n p → Few (count_of x) (surplus_of x)
  bits_few n e = few_bits sh n p x l.short e

  pub bit_few : x ≡ bit counts sh p → Few (count_of x) (surplus_of x)
  unfolding reader at_places counts
  bit_few e = bits_few 1 (here x p (bits_one (reader sh) 1 refl) e)

module _ (sh : List ℕ) (d : ℕ) (s : List ℕ) (p : ℕ) (x : Option Read) where
  pub product_few : (k : Parts) (E : List ℕ) (n q : ℕ) → x ≡ balanced (reader sh) k d s E n q p → Limits sh d → Few (count_of x) (surplus_of x)
  product_few k E n q e l = few_product sh d s p x l k E n q e

  pub sum_few : (E : List ℕ) (n q : ℕ) → x ≡ chosen (reader sh) d s E n q p → Limits sh d → Few (count_of x) (surplus_of x)
  sum_few E n q e l = few_sum sh d s p x l E n q e

  pub list_few : (b : NonZeroPow2Usize) (q : ℕ) → x ≡ listed (reader sh) d s b q p → Limits sh d → Few (count_of x) (surplus_of x)
  list_few b q e l = few_list sh d s p x l b q e

  pub block_small : (n q : ℕ) → x ≡ block_of (reader sh) d s n q p → Limits sh d → Few (count_of x) (surplus_of x)
  block_small n q e l = few_block sh d s p x l n q e

-- BITS

module _ (sh : List ℕ) (n p : ℕ) where
  pub bits_only : (x : Option Read) → n ≡ 1 → x ≡ bit counts sh p → x ≡ bits_of (reader sh) n p
  unfolding reader at_places counts
  bits_only x e h = here x p (bits_one (reader sh) n e) h

  module _ (b : ℕ) (h : b ≡ get_or sh p 4) (l : 1 ≤ n) (o : n ≡ 1 → ⊥) where
    two : 2 ≤ n
    two = omega arith

    pub bits_no : (b ≡ 3 → ⊥) → None ≡ bits_of (reader sh) n p
    unfolding reader at_places counts
    bits_no f = here None p (bits_step (reader sh) n (btree_split_index n) refl two) (pair_no sh p b h _ _ f)

    module _ (few : ℕ) (e : few ≡ btree_split_index n) (f : b ≡ 3) where
      pub bits_stop : None ≡ bits_of (reader sh) few (p + 1) → None ≡ bits_of (reader sh) n p
      unfolding reader at_places counts
      bits_stop i = here None p (bits_step (reader sh) n few e two) (pair_stop sh p b h _ _ f i)

      pub bits_on : (l : Read) → Some l ≡ bits_of (reader sh) few (p + 1) → (y w : Option Read) → y ≡ bits_of (reader sh) (n - few) l.next → w ≡ plus l.records l.surplus y → w ≡ bits_of (reader sh) n p
      unfolding reader at_places counts
      bits_on l i y w u v = here w p (bits_step (reader sh) n few e two) (pair_on sh p b h _ _ l y w f i u v)

-- PRODUCTS

module _ (sh : List ℕ) (k : Parts) (d : ℕ) (s E : List ℕ) (n q p : ℕ) where
  pub product_none : (x : Option Read) → n ≡ 0 → x ≡ passes counts sh p → x ≡ balanced (reader sh) k d s E n q p
  unfolding reader at_places counts
  product_none x e h = here x p (balanced_none (reader sh) k d s E n q e) h

  pub product_one : (x : Option Read) → n ≡ 1 → x ≡ standing (reader sh) d s q p → x ≡ balanced (reader sh) k d s E n q p
  product_one x e h = here x p (balanced_one (reader sh) k d s E n q e) h

  module _ (b : ℕ) (h : b ≡ get_or sh p 4) (two : 2 ≤ n) where
    pub product_no : (b ≡ 3 → ⊥) → None ≡ balanced (reader sh) k d s E n q p
    unfolding reader at_places counts
    product_no f = here None p (balanced_step (reader sh) k d s E n (btree_split_index n) q refl two) (pair_no sh p b h _ _ f)

    module _ (few : ℕ) (e : few ≡ btree_split_index n) (f : b ≡ 3) where
      pub product_stop : None ≡ balanced (reader sh) k d s E few q (p + 1) → None ≡ balanced (reader sh) k d s E n q p
      unfolding reader at_places counts
      product_stop i = here None p (balanced_step (reader sh) k d s E n few q e two) (pair_stop sh p b h _ _ f i)

      pub product_on : (l : Read) → Some l ≡ balanced (reader sh) k d s E few q (p + 1) → (rest : ℕ) → rest ≡ skip k E few q → (y w : Option Read) → y ≡ balanced (reader sh) k d s E (n - few) rest l.next → w ≡ plus l.records l.surplus y → w ≡ balanced (reader sh) k d s E n q p
      unfolding reader at_places counts
      product_on l i rest r y w u v = here w p (balanced_step (reader sh) k d s E n few q e two) (pair_on sh p b h _ _ l y w f i (u ∙ ap (λ a. balanced (reader sh) k d s E (n - few) a l.next) r) v)

-- SUMS

module _ (sh : List ℕ) (d : ℕ) (s E : List ℕ) (n q p : ℕ) where
  pub chosen_first : (x : Option Read) → n ≡ 1 → x ≡ standing (reader sh) d s q p → x ≡ chosen (reader sh) d s E n q p
  chosen_first x e h = here x p (chosen_one (reader sh) d s E n q e) h

  module _ (b few : ℕ) (h : b ≡ get_or sh p 4) (l : 1 ≤ n) (o : n ≡ 1 → ⊥) (e : few ≡ btree_split_index n) where
    pub chosen_left : (x : Option Read) → b ≡ 1 → x ≡ chosen (reader sh) d s E few q (p + 1) → x ≡ chosen (reader sh) d s E n q p
    unfolding reader at_places counts
    chosen_left x f i = here x p (chosen_step (reader sh) d s E n few q e (omega arith)) (sum_left sh p b h _ _ x f i)

    pub chosen_right : (x : Option Read) (rest : ℕ) → b ≡ 2 → rest ≡ hops E few q → x ≡ chosen (reader sh) d s E (n - few) rest (p + 1) → x ≡ chosen (reader sh) d s E n q p
    unfolding reader at_places counts
    chosen_right x rest f r i = here x p (chosen_step (reader sh) d s E n few q e (omega arith)) (sum_right sh p b h _ _ x f (i ∙ ap (λ a. chosen (reader sh) d s E (n - few) a (p + 1)) r))

    pub chosen_no : (b ≡ 1 → ⊥) → (b ≡ 2 → ⊥) → None ≡ chosen (reader sh) d s E n q p
    unfolding reader at_places counts
    chosen_no f g = here None p (chosen_step (reader sh) d s E n few q e (omega arith)) (sum_no sh p b h _ _ f g)

-- LISTS

module _ (sh : List ℕ) (d : ℕ) (s : List ℕ) (n q p b : ℕ) (h : b ≡ get_or sh p 4) where
  pub block_left : (x : Option Read) → b ≡ 1 → x ≡ units counts sh (p + 1) → x ≡ block_of (reader sh) d s n q p
  unfolding reader at_places counts
  block_left x e f = here x p (block_sum (reader sh) d s [] n q) (sum_left sh p b h _ _ x e f)

  pub block_right : (x : Option Read) (E : List ℕ) → b ≡ 2 → x ≡ balanced (reader sh) Copies d s E n q (p + 1) → x ≡ block_of (reader sh) d s n q p
  unfolding reader at_places counts
  block_right x E e f = here x p (block_sum (reader sh) d s E n q) (sum_right sh p b h _ _ x e f)

  pub block_no : (b ≡ 1 → ⊥) → (b ≡ 2 → ⊥) → None ≡ block_of (reader sh) d s n q p
  unfolding reader at_places counts
  block_no f g = here None p (block_sum (reader sh) d s [] n q) (sum_no sh p b h _ _ f g)

module _ (sh : List ℕ) (d : ℕ) (s : List ℕ) (q p : ℕ) (c : NonZeroPow2Usize) where
  pub listed_two : (x y : Option Read) (o : Option NonZeroPow2Usize) → o ≡ half_bound c → o ≡ None → x ≡ block_of (reader sh) d s 1 q p → y ≡ plus 0 0 x → y ≡ listed (reader sh) d s c q p
  listed_two x y o u v f h = here y p (list_two (reader sh) d s q c (sym v ∙ u)) (h ∙ plus_none x ∙ f)

  module _ (o : Option NonZeroPow2Usize) (u : o ≡ half_bound c) (a : NonZeroPow2Usize) (v : o ≡ Some a) where
    pub halved : Halved (reader sh) c a d s q
    halved = list_more (reader sh) d s q (sym v ∙ u)

  module _ (o : Option NonZeroPow2Usize) (u : o ≡ half_bound c) (a : NonZeroPow2Usize) (v : o ≡ Some a) (b : ℕ) (h : b ≡ get_or sh p 4) where
    split : listed (reader sh) d s c q ≡ pairs counts sh (block_of (reader sh) d s a.value q) (listed (reader sh) d s a q)
    unfolding reader at_places counts
    split = (halved o u a v).same

    pub listed_no : (b ≡ 3 → ⊥) → None ≡ listed (reader sh) d s c q p
    listed_no f = here None p split (pair_no sh p b h _ _ f)

    module _ (f : b ≡ 3) (n : ℕ) (j : n ≡ a.value) where
      pub listed_stop : None ≡ block_of (reader sh) d s n q (p + 1) → None ≡ listed (reader sh) d s c q p
      listed_stop k = here None p split (pair_stop sh p b h _ _ f (k ∙ ap (λ r. block_of (reader sh) d s r q (p + 1)) j))

      pub listed_on : (l : Read) → Some l ≡ block_of (reader sh) d s n q (p + 1) → (y w : Option Read) → y ≡ listed (reader sh) d s a q l.next → w ≡ plus l.records l.surplus y → w ≡ listed (reader sh) d s c q p
      listed_on l k y w i v = here w p split (pair_on sh p b h _ _ l y w f (k ∙ ap (λ t. block_of (reader sh) d s t q (p + 1)) j) i v)

-- WHAT THE READERS TRY

pub ruleset reading = (limits_down, few_one, few_none, level_some, next_fits, left_fits, right_fits, pair_fits, record_nothing, record_bit, record_integer, record_product, record_sum, record_list, record_payload, bits_few, bit_few, product_few, sum_few, list_few, block_small, one_given, product_none, product_one, product_no, product_stop, product_on, chosen_first, chosen_left, chosen_right, chosen_no, block_left, block_right, block_no, listed_two, listed_no, listed_stop, listed_on)
