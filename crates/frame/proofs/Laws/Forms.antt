-- The frame of the value at a record is what the record's form says of the frames below it.
use Rattle.std.specs.Prelude.{◌≡◌, List, ◌++◌, ℕ, zero, suc, ◌+◌, ◌-◌, ◌*◌, ◌/◌, ◌≤◌, ◌<◌, get_or, take, drop}
use Rattle.std.proofs.Math.Path.{refl, ap, ap₂}
use Rattle.std.proofs.Common.{sym, subst, ◌∙◌, arith, length-take, length-drop}
use Rattle.std.proofs.Math.Option.{none, some}
use Rattle.std.proofs.Math.ListN.{length}
use Rattle.num.specs.declared.NonZeroPow2Usize.{NonZeroPow2Usize}
use Rattle.model.specs.Options.{map_o}
use Rattle.model.specs.Bytes.{zeros}
use Rattle.model.specs.Balanced.{btree}
use Rattle.model.specs.Structural.{SType, 𝟙, SValue, enum_injection}
use Rattle.model.specs.Frames.{width, bits}
use Rattle.model.proofs.Laws.Options.{map_o_some}
use Rattle.model.proofs.Laws.Balanced.{btree_leaves}
use Rattle.types.specs.declared.Head.{Head}
use Rattle.types.specs.declared.Head.TheVariants.{Missing, Faulty, Never, Boolean, UInt, Either, Opt, Tuple, Array, Listed, Variants}
use Rattle.types.specs.declared.Head.TheVariants as head
use Rattle.types.specs.Record.{head_at}
use Rattle.types.specs.Heads.{Fair}
use Rattle.structural.specs.declared.Parts.TheVariants as parts
use Rattle.structural.specs.Forms.{Stands}
use Rattle.structural.specs.Forms as structural
use Rattle.structural.proofs.Laws.Forms.{stands_end}
use Rattle.structural.proofs.Laws.Forms as structural_laws
use Rattle.bits.specs.Laws.Runs.{length_bits_at}
use Rattle.types.specs.declared.forms.Parts.{Parts}
use Rattle.types.specs.declared.forms.Parts.TheVariants.{Types}
use Rattle.told.specs.declared.Form.{Form}
use Rattle.told.specs.declared.Form.TheVariants as form
use Rattle.told.specs.Forms.{form_of, Read, record_bits, GivenParts, hops, Hops}
use Rattle.told.specs.Forms as told
use Rattle.told.specs.Laws.Formed as told_laws
use Rattle.frame.specs.Forms.{place, framed, frame_at, row, tags, chosen, listed, Fitted}
use Rattle.frame.proofs.Laws.Products.{parts_of, balanced_framed, bits_framed, length_row}
use Rattle.frame.proofs.Laws.Sums.{Summed, sum_bits}
use Rattle.frame.proofs.Laws.Told.{standing_width, Shape, shape_of}

-- WHAT STANDS, by the form of a value of it

abbrev TypeFormed : Form → ℕ → List ℕ → List ℕ → ℕ → SType → Type 0
TypeFormed (form.Bits j n) d s E p t = t ≡ structural.balanced parts.Bits d s n p
TypeFormed (form.Product k n) d s E p t = t ≡ structural.balanced (parts_of k) d s n p
TypeFormed (form.Sum n i) d s E p t = structural_laws.TreeOf parts.Choices n d s E p t
TypeFormed (form.List b m) d s E p t = t ≡ structural.listed d s b p
TypeFormed (form.Payload n) d s E p t = t ≡ structural.balanced parts.Types d s n p

type_formed : (h : Head) (d : ℕ) (s E val : List ℕ) (p v : ℕ) → Stands d s E p → h ≡ head_at s p → Fair h → TypeFormed (form_of h val v) (d - 1) s E (p + 1) (structural.standing d s p)
type_formed Missing d s E val p v g e f = (structural_laws.formed g Missing e f).same
type_formed Faulty d s E val p v g e f = (structural_laws.formed g Faulty e f).same
type_formed Never d s E val p v g e f = (structural_laws.formed g Never e f).same
type_formed Boolean d s E val p v g e f = (structural_laws.formed g Boolean e f).same
type_formed (UInt w) d s E val p v g e f = (structural_laws.formed g (UInt w) e f).same
type_formed Either d s E val p v g e f = structural_laws.formed g Either e f
type_formed Opt d s E val p v g e f = (structural_laws.formed g Opt e f).same
type_formed (Tuple n) d s E val p v g e f = (structural_laws.formed g (Tuple n) e f).same
type_formed (Array n) d s E val p v g e f = (structural_laws.formed g (Array n) e f).same
type_formed (Listed b) d s E val p v g e f = (structural_laws.formed g (Listed b) e f).same
type_formed (Variants n) d s E val p v g e f = structural_laws.formed g (Variants n) e f
type_formed (head.Payload n) d s E val p v g e f = (structural_laws.formed g (head.Payload n) e f).same

-- BITS

pub length_record_bits : (val : List ℕ) (v j n : ℕ) → v < length val / 36 → j + n ≤ 288 → length (record_bits val v j n) ≡ n
unfolding record_bits
length_record_bits val v j n h k =
    let r : List ℕ = take 36 (drop (v * 36) val) in
    let l : length r ≡ 36 = length-take 36 (drop (v * 36) val) ∙ omega (arith, length-drop (v * 36) val) in
    length_bits_at r j n (omega arith)

-- CHOICES

-- the record of part i is where the table of ends leads
part_at : (i n d : ℕ) (s E : List ℕ) (p : ℕ) → i < n → structural.GivenParts parts.Choices d s E n p → get_or (structural.row parts.Choices d s n p) i 𝟙 ≡ structural.standing d s (hops E i p)
unfolding structural.row structural.skip structural.part structural.after hops
part_at i zero d s E p l g = absurd (omega arith)
part_at zero (suc n) d s E p l g = refl
part_at (suc i) (suc n) d s E p l g =
    let e : structural.ending d s p ≡ get_or E p 0 = sym (stands_end (g.each 0 (omega arith))) in
    part_at i n d s E (structural.ending d s p) (omega arith) (record { each = λ j m. g.each (suc j) (omega arith) }) ∙ ap (λ q. structural.standing d s (hops E i q)) e

module _ (d : ℕ) (s E val : List ℕ) (n i p v : ℕ) (t : SType) (g : structural_laws.TreeOf parts.Choices n d s E p t) (l : i < n) where
  summed : (x : SValue) → length (bits place (structural.standing d s (hops E i p)) x) ≡ width (structural.standing d s (hops E i p)) → Summed (btree n) (structural.row parts.Choices d s n p) i (structural.standing d s (hops E i p)) x
  summed x h =
      let e = sym (btree_leaves n (omega arith)) in
      sum_bits (btree n) (structural.row parts.Choices d s n p) i (structural.standing d s (hops E i p)) x (length_row parts.Choices d s n p ∙ e) (rw (← e) l) (part_at i n d s E p l g.given) h

  choice_framed : framed t (told.chosen d s val n i (hops E i p) v) ≡ chosen d s val n i (width t) (hops E i p) v
  unfolding framed told.chosen chosen frame_at structural.balanced
  choice_framed = go (told.standing d s val (hops E i p) v) (standing_width d s val (hops E i p) v)
    where
      go : (o : told.Told) → ((y : SValue × ℕ) → o ≡ some y → length (bits place (structural.standing d s (hops E i p)) y.0) ≡ width (structural.standing d s (hops E i p)))
          → framed t (map_o (λ x. (enum_injection (btree n) i x.0, x.1)) o)
          ≡ map_o (λ x. (tags (btree n) i ++ (x.0 ++ zeros (width t - (length (tags (btree n) i) + length x.0))), x.1)) (framed (structural.standing d s (hops E i p)) o)
      go none h = refl
      go (some y) h = rw g.same (ap (λ b. some (b, y.1)) (summed y.0 (h y refl)).same)

  choice_room : (x : SValue) → length (bits place (structural.standing d s (hops E i p)) x) ≡ width (structural.standing d s (hops E i p)) → length (tags (btree n) i) + width (structural.standing d s (hops E i p)) ≤ width t
  unfolding structural.balanced
  choice_room x h = rw g.same (summed x h).room

-- WHAT A FRAME IS, by the form

pub record BitsFramed (j n d : ℕ) (s val : List ℕ) (p v : ℕ) : Type 0 where
  pub there : v < length val / 36
  pub inside : j + n ≤ 288
  pub same : frame_at d s val p v ≡ some (record_bits val v j n, v + 1)

-- parts in a row, from record w on
pub record RowFramed (k : Parts) (n d : ℕ) (s E val : List ℕ) (p v w : ℕ) : Type 0 where
  pub given : GivenParts k (d - 1) s E n (p + 1)
  pub same : frame_at d s val p v ≡ row k (d - 1) s val n (p + 1) w

pub record SumFramed (n i d : ℕ) (s E val : List ℕ) (p v : ℕ) : Type 0 where
  pub few : n ≤ 65536
  pub less : i < n
  pub there : v < length val / 36
  pub hopped : Hops E i (p + 1)
  pub given : Stands (d - 1) s E (hops E i (p + 1))
  pub room : length (tags (btree n) i) + width (structural.standing (d - 1) s (hops E i (p + 1))) ≤ width (structural.standing d s p)
  pub same : frame_at d s val p v ≡ chosen (d - 1) s val n i (width (structural.standing d s p)) (hops E i (p + 1)) (v + 1)

pub record ListFramed (b : NonZeroPow2Usize) (m d : ℕ) (s E val : List ℕ) (p v : ℕ) : Type 0 where
  pub less : m < b.value
  pub there : v < length val / 36
  pub given : Stands (d - 1) s E (p + 1)
  pub same : frame_at d s val p v ≡ listed (d - 1) s val b m (p + 1) (v + 1)

-- AS THE CODE ASKS IT: r is the form that was read

module _ {d : ℕ} {s E : List ℕ} {p : ℕ} (val : List ℕ) (v : ℕ) {buf : List ℕ} {bit : ℕ} {h : Head} (g : Stands d s E p) (t : Fitted (frame_at d s val p v) buf bit) (e : h ≡ head_at s p) (f : Fair h) where
  shaped : Shape d s val p v t.frame t.next
  shaped = shape_of d s val p v t.frame t.next t.told

  pub readable : Read h val v
  readable = told_laws.readable h d s E val p v (shaped.shape, t.next) g shaped.told e f

  module _ {r : Form} (i : r ≡ form_of h val v) where
    typed : (x : Form) → r ≡ x → TypeFormed x (d - 1) s E (p + 1) (structural.standing d s p)
    typed x q = subst (λ z. TypeFormed z (d - 1) s E (p + 1) (structural.standing d s p)) (sym i ∙ q) (type_formed h d s E val p v g e f)

    pub as_bits : {j n : ℕ} → r ≡ form.Bits j n → BitsFramed j n d s val p v
    unfolding frame_at
    as_bits {j} {n} q =
        let b = told_laws.as_bits g shaped.told e f i q in
        record {
          there = b.there;
          inside = b.inside;
          same = ap₂ framed (typed (form.Bits j n) q) b.same ∙ bits_framed (d - 1) s (p + 1) val v j n (v + 1) (length_record_bits val v j n b.there b.inside);
        }

    pub as_product : {k : Parts} {n : ℕ} → r ≡ form.Product k n → RowFramed k n d s E val p v (v + 1)
    unfolding frame_at
    as_product {k} {n} q =
        let b = told_laws.as_product g shaped.told e f i q in
        record { given = b.given; same = ap₂ framed (typed (form.Product k n) q) b.same ∙ balanced_framed k (d - 1) s val n (p + 1) (v + 1) }

    pub product_there : {k : Parts} {n : ℕ} → r ≡ form.Product k n → v < length val / 36
    product_there q = (told_laws.as_product g shaped.told e f i q).there

    pub as_payload : {n : ℕ} → r ≡ form.Payload n → RowFramed Types n d s E val p v v
    unfolding frame_at
    as_payload {n} q =
        let b = told_laws.as_payload g shaped.told e f i q in
        record { given = b.given; same = ap₂ framed (typed (form.Payload n) q) b.same ∙ balanced_framed Types (d - 1) s val n (p + 1) v }

    pub as_sum : {n c : ℕ} → r ≡ form.Sum n c → SumFramed n c d s E val p v
    unfolding frame_at told.chosen
    as_sum {n} {c} q =
        let b = told_laws.as_sum g shaped.told e f i q in
        let u = typed (form.Sum n c) q in
        let o = hops E c (p + 1) in
        let (y, j, k) = map_o_some (λ x. (enum_injection (btree n) c x.0, x.1)) (told.standing (d - 1) s val o (v + 1)) (shaped.shape, t.next) (sym b.same ∙ shaped.told) in
        record {
          few = b.few;
          less = b.less;
          there = b.there;
          hopped = b.hopped;
          given = b.given;
          room = choice_room (d - 1) s E val n c (p + 1) (v + 1) (structural.standing d s p) u b.less y.0 (standing_width (d - 1) s val o (v + 1) y j);
          same = ap (framed (structural.standing d s p)) b.same ∙ choice_framed (d - 1) s E val n c (p + 1) (v + 1) (structural.standing d s p) u b.less;
        }

    pub as_list : {b : NonZeroPow2Usize} {m : ℕ} → r ≡ form.List b m → ListFramed b m d s E val p v
    unfolding frame_at listed
    as_list {b} {m} q =
        let u = told_laws.as_list g shaped.told e f i q in
        record { less = u.less; there = u.there; given = u.given; same = ap₂ framed (typed (form.List b m) q) u.same }
