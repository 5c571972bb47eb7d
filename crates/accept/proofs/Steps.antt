-- The steps of the walk over a frame, in the form in which the code's needs ask them.
use Rattle.std.specs.Prelude.{Option as Optional, Some, None}
use Rattle.std.specs.Bool.{then_some}
use mathlib.Core.Path.{◌≡◌, refl, sym, ap, ap₂, subst, ◌∙◌}
use mathlib.Core.Bool.{Bool, true, false, not}
use mathlib.Core.List.{List}
use mathlib.Core.Option.{Option, some}
use Prim.Native.Nat.{ℕ, zero, suc, ◌+◌, ◌-◌, ◌*◌, ◌≤◌, ◌<◌}
use native.Mathlib.Omega.{arith}
use mir.Syntax.{w64}
use mir.Val.{Fits}
use lib.ListN.{length, get_or}
use Rattle.num.specs.declared.NonZeroPow2Usize.{NonZeroPow2Usize}
use Rattle.num.specs.Powers.{half_bound}
use Rattle.model.specs.Options.{any}
use Rattle.model.specs.Frames.{width}
use Rattle.types.specs.declared.Head.{Head}
use Rattle.types.specs.Record.{head_at}
use Rattle.types.specs.Heads.{Fair}
use Rattle.structural.specs.Forms.{Stands, standing, listed}
use Rattle.structural.proofs.Laws.Forms.{stands_inside}
use Rattle.bits.specs.Bits.{bits_at, Inside}
use Rattle.types.specs.declared.forms.Parts.{Parts}
use Rattle.types.specs.declared.forms.Parts.TheVariants.{Copies, Types}
use Rattle.told.specs.Forms.{GivenParts, after_at}
use Rattle.told.specs.Widths.{Wide}
use Rattle.told.specs.Laws.Trees.{given_one, one_given}
use Rattle.told.specs.Laws.Widths.{width_there}
use Rattle.rebuild.specs.Forms.{most_records}
use Rattle.types.specs.declared.forms.Form.{Form}
use Rattle.types.specs.declared.forms.Form.TheVariants as form
use Rattle.types.specs.Forms.{form_of}
use Rattle.accept.specs.Forms.{tag_at, plus, seen, row_width, seen_row, seen_sum, seen_block, seen_list}
use Rattle.accept.specs.Answers.{cut, answer, both_of, plain_form, Plain, Padded}
use Rattle.accept.specs.Laws.Formed.{BitsSeen, ProductSeen, SumSeen, ListSeen, PayloadSeen, Formed, formed}
use Rattle.accept.specs.Laws.Answers.{both_known, stray_second, answer_plus, answer_small}
use Rattle.accept.specs.Laws.Walking.{copies_bits, Rowing, rowing_stands, rowing_inside, rowing_next, block_none, block_stray, padded_one, choice_clear, choice_stray, Two, list_two, Halved, list_more}

-- RECORDS

-- a record's own is one of those that are seen
one_more : (x : Optional ℕ) (u o : Option ℕ) → o ≡ plus (some 1) u → x ≡ answer u → both_of (Some 1) x ≡ answer o
one_more x u o e f = ap (both_of (Some 1)) f ∙ sym (ap answer e ∙ answer_plus (some 1) u)

module _ {d : ℕ} {s E : List ℕ} {p : ℕ} (g : Stands d s E p) {h : Head} {f : Form} (e : h ≡ head_at s p) (i : Fair h) (j : f ≡ form_of h) where
  as_formed : (x : Form) → f ≡ x → Formed x d s E p
  as_formed x k = subst (λ y. Formed y d s E p) (sym j ∙ k) (formed h d s E p g e i)

  pub as_product : {k : Parts} {n : ℕ} → f ≡ form.Product k n → ProductSeen k n d s E p
  as_product {k} {n} = as_formed (form.Product k n)

  pub as_sum : {n : ℕ} → f ≡ form.Sum n → SumSeen n d s E p
  as_sum {n} = as_formed (form.Sum n)

  pub as_list : {b : NonZeroPow2Usize} → f ≡ form.List b → ListSeen b d s E p
  as_list {b} = as_formed (form.List b)

  pub as_payload : {n : ℕ} → f ≡ form.Payload n → PayloadSeen n d s E p
  as_payload {n} = as_formed (form.Payload n)

  module _ (fr : List ℕ) (bit : ℕ) where
    pub record_nothing : f ≡ form.Nothing → None ≡ answer (seen d s p fr bit)
    record_nothing k = sym (ap answer ((as_formed form.Nothing k).same fr bit))

    pub record_bit : f ≡ form.Bit → Inside fr bit (width (standing d s p)) → Some 1 ≡ answer (seen d s p fr bit)
    record_bit k l = sym (ap answer ((as_formed form.Bit k).same fr bit l.0))

    pub record_integer : (w : ℕ) → f ≡ form.Integer w → Inside fr bit (width (standing d s p)) → Some 1 ≡ answer (seen d s p fr bit)
    record_integer w k l = sym (ap answer ((as_formed (form.Integer w) k).same fr bit l.0))

    module _ (x : Optional ℕ) where
      pub record_product : (k : Parts) (n : ℕ) → f ≡ form.Product k n → x ≡ answer (seen_row k (d - 1) s n (p + 1) fr bit) → both_of (Some 1) x ≡ answer (seen d s p fr bit)
      record_product k n o u = one_more x (seen_row k (d - 1) s n (p + 1) fr bit) (seen d s p fr bit) ((as_product o).same fr bit) u

      pub record_sum : (n : ℕ) (W : List ℕ) (w : ℕ) → f ≡ form.Sum n → Wide s E W → w ≡ get_or W p 0 → Inside fr bit (width (standing d s p)) → x ≡ answer (seen_sum (d - 1) s E n (p + 1) fr bit (bit + w)) → both_of (Some 1) x ≡ answer (seen d s p fr bit)
      record_sum n W w o q m l u = one_more x (seen_sum (d - 1) s E n (p + 1) fr bit (bit + width (standing d s p))) (seen d s p fr bit) ((as_sum o).same fr bit l.0) (u ∙ ap (λ w. answer (seen_sum (d - 1) s E n (p + 1) fr bit (bit + w))) (m ∙ q.right d p g))

      pub record_list : (b : NonZeroPow2Usize) → f ≡ form.List b → Inside fr bit (width (standing d s p)) → x ≡ answer (seen_list (d - 1) s b (p + 1) fr bit) → both_of (Some 1) x ≡ answer (seen d s p fr bit)
      record_list b o l u = one_more x (seen_list (d - 1) s b (p + 1) fr bit) (seen d s p fr bit) ((as_list o).same fr bit l.0) u

    pub record_payload : (x : Optional ℕ) (n : ℕ) → f ≡ form.Payload n → x ≡ answer (seen_row Types (d - 1) s n (p + 1) fr bit) → x ≡ answer (seen d s p fr bit)
    record_payload x n o u = u ∙ sym (ap answer ((as_payload o).same fr bit))

-- HOW MANY

-- what is seen is counted no further than to the most
pub few : {x : Optional ℕ} {n : ℕ} (o : Option ℕ) → x ≡ Some n → x ≡ answer o → n ≤ most_records
few {x} {n} o e f = answer_small (Some n) o (sym e ∙ f)

-- what is seen in two places
pub counted_both : {x y : Optional ℕ} {n m z : ℕ} → x ≡ Some n → y ≡ Some m → z ≡ cut (n + m) → Some z ≡ both_of x y
counted_both {x} {y} {n} {m} {z} e f g = both_known x y (Some z) n m e f (ap (λ z. Some z) g)

-- LISTS

module _ (d : ℕ) (s : List ℕ) (p : ℕ) (b : NonZeroPow2Usize) (o : Optional NonZeroPow2Usize) (u : o ≡ half_bound b) where
  pub two : o ≡ None → Two b d s p
  two v = list_two d s p (sym v ∙ u)

  pub halved : (a : NonZeroPow2Usize) → o ≡ Some a → Halved b a d s p
  halved a v = list_more d s p (sym v ∙ u)

  pub listed_two : (fr : List ℕ) (bit : ℕ) (x : Optional ℕ) → o ≡ None → x ≡ answer (seen_block d s 1 p fr bit) → x ≡ answer (seen_list d s b p fr bit)
  listed_two fr bit x v h = h ∙ sym (ap answer ((two v).same fr bit))

  pub listed_more : (fr : List ℕ) (bit : ℕ) (a : NonZeroPow2Usize) (x y : Optional ℕ) (n w : ℕ) (E W : List ℕ) → o ≡ Some a → n ≡ a.value → Stands d s E p → Wide s E W → w ≡ get_or W p 0
      → x ≡ answer (seen_block d s n p fr bit) → y ≡ answer (seen_list d s a p fr (bit + 1 + n * w)) → both_of x y ≡ answer (seen_list d s b p fr bit)
  listed_more fr bit a x y n w E W v i g q j l m =
      let r : n * w ≡ a.value * width (standing d s p) = ap (λ n. n * w) i ∙ ap (λ w. a.value * w) (j ∙ q.right d p g) in
      ap₂ both_of (l ∙ ap (λ n. answer (seen_block d s n p fr bit)) i) (m ∙ ap (λ r. answer (seen_list d s a p fr (bit + 1 + r))) r)
      ∙ sym (ap answer ((halved a v).same fr bit) ∙ answer_plus (seen_block d s a.value p fr bit) (seen_list d s a p fr (bit + 1 + a.value * width (standing d s p))))

-- ROOM IN THE FRAME

pub inside_as : (fr : List ℕ) (bit a b : ℕ) → a ≡ b → Inside fr bit a → Inside fr bit b
inside_as fr bit a b e i = rw e at i

module _ {d : ℕ} {s E : List ℕ} {p : ℕ} (g : Stands d s E p) {W : List ℕ} (u : Wide s E W) {w : ℕ} (a : w ≡ get_or W p 0) where
  wide_is : w ≡ width (standing d s p)
  wide_is = a ∙ u.right d p g

  pub record_end : (fr : List ℕ) (bit : ℕ) → Inside fr bit (width (standing d s p)) → Fits w64 (bit + w)
  record_end fr bit i = let b = i.1 in omega (arith, wide_is)

  pub sum_padded : (fr : List ℕ) (bit : ℕ) {n : ℕ} → Inside fr bit (width (standing d s p)) → SumSeen n d s E p → Padded (d - 1) s n (p + 1) fr bit (bit + w)
  sum_padded fr bit i x = let k = i.0 in let l = i.1 in let e = ap width x.lowered in record { fits = omega (arith, wide_is); inside = omega (arith, wide_is); small = omega (arith, wide_is) }

  -- a block of n
  times : (n : ℕ) → n * w ≡ n * width (standing d s p)
  times n = ap (λ w. n * w) wide_is

  pub block_mul : (fr : List ℕ) (bit n : ℕ) → Inside fr bit (1 + n * width (standing d s p)) → Fits w64 (n * w)
  block_mul fr bit n i = let b = i.1 in omega (arith, times n)

  pub block_run : (fr : List ℕ) (bit n : ℕ) → Inside fr bit (1 + n * width (standing d s p)) → Inside fr (bit + 1) (n * w)
  block_run fr bit n i = let x = i.0 in let y = i.1 in let t = times n in (omega arith, omega arith)

  -- the block of half a bound, and the list behind it
  module _ (fr : List ℕ) (bit : ℕ) {b c : NonZeroPow2Usize} (n : ℕ) (h : Halved b c d s p) (e : n ≡ c.value) (i : Inside fr bit (width (listed d s b p))) where
    half_times : n * w ≡ c.value * width (standing d s p)
    half_times = times n ∙ ap (λ n. n * width (standing d s p)) e

    pub half_mul : Fits w64 (n * w)
    half_mul = let l = h.wide in let b = i.1 in omega (arith, half_times)

    pub half_next : Fits w64 (bit + 1 + n * w)
    half_next = let l = h.wide in let b = i.1 in omega (arith, half_times)

    pub half_block : Inside fr bit (1 + n * width (standing d s p))
    half_block = let l = h.wide in let t : n * width (standing d s p) ≡ c.value * width (standing d s p) = ap (λ n. n * width (standing d s p)) e in let x = i.0 in let y = i.1 in (omega arith, omega arith)

    pub half_list : Inside fr (bit + 1 + n * w) (width (listed d s c p))
    half_list = let l = h.wide in let t = half_times in let x = i.0 in let y = i.1 in (omega arith, omega arith)

pub half_tag : (fr : List ℕ) (bit d : ℕ) (s : List ℕ) (p : ℕ) {b a : NonZeroPow2Usize} → Halved b a d s p → Inside fr bit (width (listed d s b p)) → Fits w64 (bit + 1)
half_tag fr bit d s p h i = let l = h.wide in let y = i.1 in omega arith

pub two_block : (fr : List ℕ) (bit : ℕ) {d : ℕ} {s : List ℕ} {p : ℕ} {b : NonZeroPow2Usize} → Two b d s p → Inside fr bit (width (listed d s b p)) → Inside fr bit (1 + 1 * width (standing d s p))
two_block fr bit t i = rw t.wide at i

-- ROWS

-- a plain form is one of bits
plain_bits : (f : Form) (d : ℕ) (s E : List ℕ) (p : ℕ) → plain_form f ≡ true → Formed f d s E p → BitsSeen d s p
plain_bits form.Nothing d s E p e i = absurd (let z : ◌≡◌ {A = ℕ} 0 1 = cc in omega arith)
plain_bits form.Bit d s E p e i = i
plain_bits (form.Integer w) d s E p e i = i
plain_bits (form.Product k n) d s E p e i = absurd (let z : ◌≡◌ {A = ℕ} 0 1 = cc in omega arith)
plain_bits (form.Sum n) d s E p e i = absurd (let z : ◌≡◌ {A = ℕ} 0 1 = cc in omega arith)
plain_bits (form.List b) d s E p e i = absurd (let z : ◌≡◌ {A = ℕ} 0 1 = cc in omega arith)
plain_bits (form.Payload n) d s E p e i = absurd (let z : ◌≡◌ {A = ℕ} 0 1 = cc in omega arith)

-- plain parts have a record each
pub row_plain : (k : Parts) (d : ℕ) (s E : List ℕ) (n p : ℕ) (fr : List ℕ) (bit : ℕ) (z : Bool) (x : Optional ℕ) → Plain k s p z → z ≡ true → GivenParts k d s E n p → Inside fr bit (row_width k d s n p) → x ≡ answer (some n) → x ≡ answer (seen_row k d s n p fr bit)
unfolding seen_row
row_plain Types d s E n p fr bit z x a e g i h = absurd (let y = a.same e in let z : ◌≡◌ {A = ℕ} 0 1 = cc in omega arith)
row_plain Copies d s E n p fr bit z x a e g i h = h ∙ ap answer (sym (go n g i.0))
  where
    go : (n : ℕ) → GivenParts Copies d s E n p → bit + row_width Copies d s n p ≤ 8 * length fr → seen_row Copies d s n p fr bit ≡ some n
    go zero g i = refl
    go (suc n) g i = copies_bits d s p (plain_bits (form_of (head_at s p)) d s E p (a.same e) (formed (head_at s p) d s E p (given_one g (omega arith)) refl (a.fair e))) (suc n) fr bit i

module _ {k : Parts} {d : ℕ} {s E : List ℕ} {n p : ℕ} {fr : List ℕ} {bit : ℕ} {all q here left : ℕ} (r : Rowing k d s E n p fr bit (Some all) q here left) (h : 0 < left) where
  pub row_end_there : q < length E
  row_end_there = stands_inside (rowing_stands r h)

  pub row_width_there : {W : List ℕ} → Wide s E W → q < length W
  row_width_there u = width_there (rowing_stands r h) u

  pub row_next : {W : List ℕ} {w : ℕ} → Wide s E W → w ≡ get_or W q 0 → Fits w64 (here + w)
  row_next u a = record_end (rowing_stands r h) u a fr here (rowing_inside r h)

  -- nothing is seen of a row where nothing is seen of one of its parts
  pub row_stray : {W : List ℕ} {x : Optional ℕ} → Wide s E W → x ≡ answer (seen d s q fr here) → x ≡ None → None ≡ answer (seen_row k d s n p fr bit)
  row_stray {W} {x} u e f = (rowing_next r x None (get_or W q 0) (after_at k E q) h u e (stray_second (Some all) x all refl f) refl refl).same

-- ONE CHOICE

module _ {d : ℕ} {s E : List ℕ} {n p : ℕ} (g : GivenParts Types d s E n p) (e : n ≡ 1) where
  pub one_there : {W : List ℕ} → Wide s E W → p < length W
  one_there u = width_there (one_given g e) u

  module _ {fr : List ℕ} {bit end : ℕ} (a : Padded d s n p fr bit end) where
    pub one_inside : Inside fr bit (width (standing d s p))
    one_inside = let f = padded_one d s E n p fr bit end e a in let x = a.inside in let y = a.small in (omega arith, omega arith)

    module _ {W : List ℕ} (u : Wide s E W) {w : ℕ} (i : w ≡ get_or W p 0) where
      pub one_last : bit + w ≤ end
      one_last = let f = padded_one d s E n p fr bit end e a in omega (arith, i, u.right d p (one_given g e))

      pub one_fits : Fits w64 (bit + w)
      one_fits = let l = one_last in let y = a.small in omega arith

      pub one_run : Inside fr (bit + w) (end - (bit + w))
      one_run = let l = one_last in let x = a.inside in let y = a.small in (omega arith, omega arith)

      pub one_clear : (z : Bool) (x : Optional ℕ) → z ≡ not (any (bits_at fr (bit + w) (end - (bit + w)))) → z ≡ true → x ≡ answer (seen d s p fr bit) → x ≡ answer (seen_sum d s E n p fr bit end)
      one_clear z x c t h = choice_clear d s E n p fr bit end W w (bit + w) z (one_given g e) u e i refl c x t h

      pub one_stray : (z : Bool) → z ≡ not (any (bits_at fr (bit + w) (end - (bit + w)))) → z ≡ false → None ≡ answer (seen_sum d s E n p fr bit end)
      one_stray z c t = choice_stray d s E n p fr bit end W w (bit + w) z (one_given g e) u e i refl c t

-- A MISSING BLOCK

module _ {d : ℕ} {s E : List ℕ} (n : ℕ) {p : ℕ} (fr : List ℕ) (bit : ℕ) {t : Bool} (h : t ≡ tag_at fr bit) (e : t ≡ false) (g : Stands d s E p) {W : List ℕ} (u : Wide s E W) {w : ℕ} (i : w ≡ get_or W p 0) where
  pub block_zeros : {z : Bool} {x : Optional ℕ} → z ≡ not (any (bits_at fr (bit + 1) (n * w))) → x ≡ then_some z 0 → x ≡ answer (seen_block d s n p fr bit)
  block_zeros {z} {x} c j = j ∙ go z refl
    where
      go : (y : Bool) → z ≡ y → then_some y 0 ≡ answer (seen_block d s n p fr bit)
      go true k = block_none d s E n p fr bit t h W w g u i e z c k
      go false k = block_stray d s E n p fr bit t h W w g u i e z c k
