-- What is seen of a product, a sum or a list is what is seen of its parts.
use Rattle.std.specs.Prelude.{◌≡◌, Bool, true, false, ◌||◌, get_or, replicate}
use Rattle.std.proofs.Math.Path.{refl, sym, ap, ap₂}
use Rattle.std.proofs.Common.{◌∙◌, zero-add, length-append}
use mathlib.Core.List.{List, [], ◌∷◌, ◌++◌}
use Rattle.std.proofs.Math.Option.{Option, none, some}
use Prim.Native.Nat.{ℕ, zero, suc, ◌+◌, ◌-◌, ◌*◌, ◌^◌, ◌≤◌, ◌<◌}
use native.Mathlib.Omega.{arith}
use Rattle.std.proofs.Math.ListN.{length}
use Rattle.std.proofs.lemmas.List.{length-replicate}
use Rattle.num.specs.declared.NonZeroPow2Usize.{NonZeroPow2Usize}
use Rattle.num.specs.Powers.{bound_log2}
use Rattle.model.specs.Options.{map_o, bind_o, any}
use Rattle.model.specs.Balanced.{btree, fold}
use Rattle.model.specs.Structural.{SType, 𝟙, ◌⊕◌, ◌⊗◌, SValue, product_of, partition_type, block_type}
use Rattle.model.specs.ValueFiles.{Rec}
use Rattle.model.specs.Frames.{width}
use Rattle.model.proofs.Laws.Options.{map_o_map_o}
use Rattle.model.proofs.Laws.Sizes.{width_array, width_block}
use Rattle.bits.specs.Bits.{bits_at}
use Rattle.structural.specs.Forms.{standing, ending}
use Rattle.structural.proofs.Laws.Forms.{stands_end}
use Rattle.types.specs.declared.forms.Parts.{Parts}
use Rattle.types.specs.declared.forms.Parts.TheVariants.{Copies, Types}
use Rattle.told.specs.Forms.{after, skip, GivenParts, hops}
use Rattle.record.specs.Trees.{part, row, product, sum, elements, numbered}
use Rattle.accept.specs.Forms.{shape_at, stray_at, tag_at, shapes_at, strays_at, choice_in, block_at, block_stray, elements_at, list_stray, unless, plus, seen, types_in, seen_row, seen_choice, seen_sum, seen_block, seen_blocks, seen_list}
use Rattle.accept.specs.Laws.Products.{product_shapes, product_stray}
use Rattle.accept.specs.Laws.Sums.{Taken, sum_taken, choice_less}
use Rattle.accept.specs.Laws.Lists.{list_shapes, list_strays}

-- SUMS OF WHAT IS SEEN

plus_none : (o : Option ℕ) → none ≡ plus o none
plus_none none = refl
plus_none (some n) = refl

plus_assoc : (a b c : Option ℕ) → plus (plus a b) c ≡ plus a (plus b c)
plus_assoc none b c = refl
plus_assoc (some n) none c = refl
plus_assoc (some n) (some m) none = refl
plus_assoc (some n) (some m) (some k) = ap some (omega arith)

zero_plus : (o : Option ℕ) → plus (some 0) o ≡ o
zero_plus none = refl
zero_plus (some n) = ap some (zero-add n)

unless_both : (a b : Bool) (o u : Option ℕ) → unless (a || b) (plus o u) ≡ plus (unless a o) (unless b u)
unless_both true b o u = refl
unless_both false true o u = plus_none o
unless_both false false o u = refl

unless_or : (a b : Bool) (o : Option ℕ) → unless (a || b) o ≡ unless a (unless b o)
unless_or true b o = refl
unless_or false b o = refl

-- the records of one and those of others
counted : (o u : Option (List Rec)) → map_o length (bind_o o (λ rs. map_o (λ ys. rs ++ ys) u)) ≡ plus (map_o length o) (map_o length u)
counted none u = refl
counted (some rs) none = refl
counted (some rs) (some ys) = ap some (length-append rs ys)

-- ROWS

row_seen : (k : Parts) (d : ℕ) (s : List ℕ) (n p : ℕ) (fr : List ℕ) (bit : ℕ) → unless (strays_at (types_in k d s n p) fr bit) (map_o length (row k d s n p (shapes_at (types_in k d s n p) fr bit))) ≡ seen_row k d s n p fr bit
unfolding types_in row seen_row seen
row_seen k d s zero p fr bit = refl
row_seen k d s (suc n) p fr bit =
    let a = standing d s p in
    let q = after k d s p in
    let ts = types_in k d s n q in
    let b = bit + width a in
    ap (unless (stray_at a fr bit || strays_at ts fr b)) (counted (part d s p (shape_at a fr bit)) (row k d s n q (shapes_at ts fr b)))
    ∙ unless_both (stray_at a fr bit) (strays_at ts fr b) (map_o length (part d s p (shape_at a fr bit))) (map_o length (row k d s n q (shapes_at ts fr b)))
    ∙ ap (plus (seen d s p fr bit)) (row_seen k d s n q fr b)

pub length_types : (k : Parts) (d : ℕ) (s : List ℕ) (n p : ℕ) → length (types_in k d s n p) ≡ n
unfolding types_in
length_types k d s zero p = refl
length_types k d s (suc n) p = ap suc (length_types k d s n (after k d s p))

-- PRODUCTS

-- as a product of the parts
pub product_seen : (k : Parts) (d : ℕ) (s : List ℕ) (n p : ℕ) (t : SType) (fr : List ℕ) (bit : ℕ) → t ≡ fold ◌⊗◌ 𝟙 (btree n) (types_in k d s n p)
    → unless (stray_at t fr bit) (map_o length (product k d s n p (shape_at t fr bit))) ≡ seen_row k d s n p fr bit
unfolding product
product_seen k d s n p t fr bit e =
    let ts = types_in k d s n p in
    rw (e, product_stray n ts fr bit (length_types k d s n p), product_shapes n ts fr bit (length_types k d s n p)) (row_seen k d s n p fr bit)

-- SUMS

pub nth_type : (d : ℕ) (s : List ℕ) (n i p : ℕ) → i < n → get_or (types_in Types d s n p) i 𝟙 ≡ standing d s (skip Types d s i p)
unfolding types_in skip
nth_type d s zero i p h = absurd (omega arith)
nth_type d s (suc n) zero p h = refl
nth_type d s (suc n) (suc i) p h = nth_type d s n i (after Types d s p) (omega arith)

pub skip_hops : (d : ℕ) (s E : List ℕ) (n i p : ℕ) → i < n → GivenParts Types d s E n p → skip Types d s i p ≡ hops E i p
unfolding skip hops after
skip_hops d s E n zero p h g = refl
skip_hops d s E zero (suc i) p h g = absurd (omega arith)
skip_hops d s E (suc n) (suc i) p h g =
    skip_hops d s E n i (ending d s p) (omega arith) (record { each = λ j l. g.each (suc j) (omega arith) })
    ∙ ap (λ q. hops E i q) (sym (stands_end (g.each 0 (omega arith))))

sum_made : (d : ℕ) (s E : List ℕ) (p i : ℕ) (x : SValue) (o : Option (ℕ × SValue)) → o ≡ some (i, x) → map_o (λ (y : ℕ × List Rec). length y.1) (bind_o o (λ y. numbered y.0 (part d s (hops E y.0 p) y.1))) ≡ map_o length (part d s (hops E i p) x)
sum_made d s E p i x o e = rw e (map_o_map_o (λ rs. (i, rs)) (λ (y : ℕ × List Rec). length y.1) (part d s (hops E i p) x))

taken_seen : (d : ℕ) (s E : List ℕ) (n p : ℕ) (ts : List SType) (fr : List ℕ) (bit i : ℕ) (c : SType) (b : ℕ) → Taken (btree n) ts fr bit i c b → c ≡ standing d s (hops E i p)
    → unless (stray_at (fold ◌⊕◌ 𝟙 (btree n) ts) fr bit) (map_o (λ y. length y.1) (sum d s E n p (shape_at (fold ◌⊕◌ 𝟙 (btree n) ts) fr bit))) ≡ seen_choice d s (hops E i p) fr b (bit + width (fold ◌⊕◌ 𝟙 (btree n) ts))
unfolding sum seen_choice seen
taken_seen d s E n p ts fr bit i c b t e =
    let w = bit + width (fold ◌⊕◌ 𝟙 (btree n) ts) in
    ap₂ unless t.stray (sum_made d s E p i (shape_at c fr b) _ t.shape)
    ∙ unless_or (any (bits_at fr (b + width c) (w - (b + width c)))) (stray_at c fr b) (map_o length (part d s (hops E i p) (shape_at c fr b)))
    ∙ ap (λ c. unless (any (bits_at fr (b + width c) (w - (b + width c)))) (unless (stray_at c fr b) (map_o length (part d s (hops E i p) (shape_at c fr b))))) e

-- as a sum of the choices
pub sum_seen : (d : ℕ) (s E : List ℕ) (n p : ℕ) (t : SType) (fr : List ℕ) (bit : ℕ) → 1 ≤ n → GivenParts Types d s E n p → t ≡ fold ◌⊕◌ 𝟙 (btree n) (types_in Types d s n p) → bit + width t ≤ 8 * length fr
    → unless (stray_at t fr bit) (map_o (λ y. length y.1) (sum d s E n p (shape_at t fr bit))) ≡ seen_sum d s E n p fr bit (bit + width t)
unfolding seen_sum
sum_seen d s E n p t fr bit o g e h =
    let ts = types_in Types d s n p in
    let x = choice_in n fr bit in
    let l = choice_less n fr bit o in
    rw e (taken_seen d s E n p ts fr bit x.0 (get_or ts x.0 𝟙) x.1 (sum_taken n ts fr bit o (length_types Types d s n p) (rw e at h)) (nth_type d s n x.0 p l ∙ ap (standing d s) (skip_hops d s E n x.0 p l g)))

-- LISTS

pub length_shapes : (ts : List SType) (fr : List ℕ) (bit : ℕ) → length (shapes_at ts fr bit) ≡ length ts
length_shapes [] fr bit = refl
length_shapes (t ∷ ts) fr bit = ap suc (length_shapes ts fr (bit + width t))

module _ (d : ℕ) (s : List ℕ) (p : ℕ) where
  -- the records of copies
  abbrev copies : List SValue → Option ℕ
  copies xs = map_o length (row Copies d s (length xs) p xs)

  copies_append : (xs ys : List SValue) → copies (xs ++ ys) ≡ plus (copies xs) (copies ys)
  unfolding row after
  copies_append [] ys = sym (zero_plus (copies ys))
  copies_append (x ∷ xs) ys =
      counted (part d s p x) (row Copies d s (length (xs ++ ys)) p (xs ++ ys))
      ∙ ap (plus (map_o length (part d s p x))) (copies_append xs ys)
      ∙ sym (plus_assoc (map_o length (part d s p x)) (copies xs) (copies ys))
      ∙ ap (λ o. plus o (copies ys)) (sym (counted (part d s p x) (row Copies d s (length xs) p xs)))

  pub types_copies : (n : ℕ) → types_in Copies d s n p ≡ replicate n (standing d s p)
  unfolding types_in after
  types_copies zero = refl
  types_copies (suc n) = ap {B = List SType} (λ l. standing d s p ∷ l) (types_copies n)

  copies_seen : (n : ℕ) (fr : List ℕ) (bit : ℕ) → unless (strays_at (replicate n (standing d s p)) fr bit) (copies (shapes_at (replicate n (standing d s p)) fr bit)) ≡ seen_row Copies d s n p fr bit
  copies_seen n fr bit =
      let ts = replicate n (standing d s p) in
      ap (λ m. unless (strays_at ts fr bit) (map_o length (row Copies d s m p (shapes_at ts fr bit)))) (length_shapes ts fr bit ∙ length-replicate n (standing d s p))
      ∙ ap (λ ts. unless (strays_at ts fr bit) (map_o length (row Copies d s n p (shapes_at ts fr bit)))) (sym (types_copies n))
      ∙ row_seen Copies d s n p fr bit

  block_seen : (n : ℕ) (fr : List ℕ) (bit : ℕ) → unless (block_stray n (standing d s p) fr bit) (copies (block_at n (standing d s p) fr bit)) ≡ seen_block d s n p fr bit
  unfolding block_stray block_at seen_block row
  block_seen n fr bit = go (tag_at fr bit)
    where
      t : SType
      t = standing d s p

      go : (x : Bool) → unless (elim x [ false ↦ any (bits_at fr (bit + 1) (width (product_of (replicate n t)))) | true ↦ strays_at (replicate n t) fr (bit + 1) ]) (copies (elim x [ false ↦ [] | true ↦ shapes_at (replicate n t) fr (bit + 1) ]))
          ≡ elim x [ false ↦ unless (any (bits_at fr (bit + 1) (n * width t))) (some 0) | true ↦ seen_row Copies d s n p fr (bit + 1) ]
      go false = ap (λ w. unless (any (bits_at fr (bit + 1) w)) (some 0)) (width_array n t)
      go true = copies_seen n fr (bit + 1)

  blocks_seen : (e : ℕ) (fr : List ℕ) (bit : ℕ) → unless (list_stray e (standing d s p) fr bit) (copies (elements_at e (standing d s p) fr bit)) ≡ seen_blocks d s e p fr bit
  unfolding list_stray elements_at seen_blocks
  blocks_seen zero fr bit = block_seen 1 fr bit
  blocks_seen (suc e) fr bit =
      let t = standing d s p in
      let n = 2 ^ suc e in
      let i : bit + width (block_type n t) ≡ bit + 1 + n * width t = ap (λ w. bit + w) (width_block n t) ∙ omega arith in
      ap (unless (block_stray n t fr bit || list_stray e t fr (bit + width (block_type n t)))) (copies_append (block_at n t fr bit) (elements_at e t fr (bit + width (block_type n t))))
      ∙ unless_both (block_stray n t fr bit) (list_stray e t fr (bit + width (block_type n t))) (copies (block_at n t fr bit)) (copies (elements_at e t fr (bit + width (block_type n t))))
      ∙ ap₂ plus (block_seen n fr bit) (ap (λ b. unless (list_stray e t fr b) (copies (elements_at e t fr b))) i ∙ blocks_seen e fr (bit + 1 + n * width t))

  list_made : (xs : List SValue) (o : Option (List SValue)) → o ≡ some xs → map_o (λ (y : ℕ × List Rec). length y.1) (bind_o o (λ xs. numbered (length xs) (row Copies d s (length xs) p xs))) ≡ copies xs
  list_made xs o e = rw e (map_o_map_o (λ rs. (length xs, rs)) (λ (y : ℕ × List Rec). length y.1) (row Copies d s (length xs) p xs))

  -- as a list of what stands there
  pub list_seen : (b : NonZeroPow2Usize) (t : SType) (fr : List ℕ) (bit : ℕ) → t ≡ partition_type (bound_log2 b.value - 1) (standing d s p) → bit + width t ≤ 8 * length fr
      → unless (stray_at t fr bit) (map_o (λ y. length y.1) (elements d s b p (shape_at t fr bit))) ≡ seen_list d s b p fr bit
  unfolding elements seen_list
  list_seen b t fr bit e h =
      let a = standing d s p in
      let n = bound_log2 b.value - 1 in
      rw e (ap₂ unless (list_strays n a fr bit (rw e at h)) (list_made (elements_at n a fr bit) _ (list_shapes n a fr bit (rw e at h))) ∙ blocks_seen n fr bit)
