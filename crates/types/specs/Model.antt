-- The type file of 01 by positions and by the model's reader: what `type_answer` answers and `tree` builds is what `type_of` reads.
-- The reader takes records from the front of a list, the walk stands at a place: what the reader has left after e records is the list dropped by e.
-- One record is compared by what it says (`Says`), its children by the readers and walks handed in, and the levels are one induction. Assumes nothing.
use Rattle.reply.specs.declared.Refusal.TheVariants.{BadRecord, TooDeep, NotOneType, TypeLength, TypeTooLong}
use Rattle.reply.specs.Numbers.{refusal_number}
use Rattle.std.specs.Prelude.{◌≡◌, List, [], ◌∷◌, map, Bool, true, false, not, ◌||◌, ltb, leb, eqb, length, take, drop, get_or, Result, Ok, Err}
use Rattle.std.proofs.Math.Path.{refl, ap}
use Rattle.std.proofs.Common.{sym, ap₂, ◌∙◌, add-zero, add-one, arith, drop_of_length-le, drop-cons, get_or-take, get_or-drop, ltb-true, ltb-false, lt-ltb, le-ltb, leb-true, leb-false, eqb-true, ne_eqb}
use Rattle.std.proofs.Math.Option.{Option, none, some}
use Prim.Native.Nat.{ℕ, zero, suc, ◌+◌, ◌*◌, ◌/◌, ◌%◌, ◌^◌, ◌<◌, ◌≤◌}
use Rattle.std.proofs.Math.Numerals.{sub-one}
use Rattle.std.proofs.Math.Dec.{eqb-suc-zero}
use Rattle.std.proofs.lemmas.List.{length-map}
use Rattle.std.proofs.lemmas.Bool.{eqb-false}
use Rattle.model.specs.Numbers.{type_length, type_too_long, bad_record, too_deep, not_one_type, most_type_records, deepest}
use Rattle.model.specs.Outcome.{Outcome, done, refused, ◌>>=◌, ◌>>◌, refuse, or_refuse, all_read}
use Rattle.model.specs.Options.{pick, when, map_o, one_of, find}
use Rattle.model.specs.Bytes.{records}
use Rattle.model.specs.Types.{Ty, Tys, either, option, tuple, array, list, enum, nil, cons, last, more}
use Rattle.model.specs.TypeFiles as file
use Rattle.model.specs.TypeFiles.{TRec, type_record, Reader, made, on_record, widths, is_never, is_bool, is_either, is_option, is_uint, is_tuple, is_array, is_list, is_enum, head, variant_parts, read_types, read_variants, read_children, read_type, read_variant, type_of, trec}
use Rattle.model.proofs.Laws.Records.{length_cut, cut_at}
use Rattle.num.specs.declared.NonZeroPow2Usize.{NonZeroPow2Usize}
use Rattle.num.specs.declared.Pow2Usize.{Pow2Usize}
use Rattle.num.specs.Admitted.{bound_exponent, is_bound, is_width}
use Rattle.num.specs.Powers.{bound, bound_if, bound_of, bound_log2, width, width_if, width_of}
use Rattle.num.specs.Laws.{bounded}
use Rattle.types.specs.declared.Head.{Head}
use Rattle.types.specs.declared.Head.TheVariants.{Missing, Faulty, Never, Boolean, UInt, Either, Opt, Tuple, Array, Listed, Variants, Payload}
use Rattle.types.specs.declared.Rec.{Rec}
use Rattle.types.specs.declared.Rec.TheVariants.{Variant}
use Rattle.types.specs.Record.{by_width, by_bound, head_of, head_at, calls_for, rec_at}
use Rattle.types.specs.Walks.{opens, next, many, walk}
use Rattle.types.specs.Table.{pick_answer, whole, type_answer}
use Rattle.types.specs.Trees.{end_of, kids, cases, node, payload, tree, treev}
use Rattle.types.specs.Unique.{kind, count, reach}
use Rattle.reply.specs.declared.Refusal.{Refusal}

-- THE RECORDS BY THEIR PLACE

-- the records of a type file
abbrev pub rows : List ℕ → List TRec
rows s = map type_record (records 4 s)

-- the record at place `at`
abbrev pub row : List ℕ → ℕ → TRec
row s at = record { kind = get_or s (at * 4) 0; spare = get_or s (at * 4 + 1) 0; n = get_or s (at * 4 + 2) 0 * 256 + get_or s (at * 4 + 3) 0 }

length_rows : (s : List ℕ) → length (rows s) ≡ length s / 4
length_rows s = length-map (records 4 s) type_record ∙ length_cut 4 (length s / 4) s

row_bytes : (s : List ℕ) (at : ℕ) → type_record (take 4 (drop (at * 4) s)) ≡ row s at
row_bytes s at = λ i. record { kind = (byte 0 (omega arith) ∙ ap (λ n. get_or s n 0) (add-zero (at * 4))) i; spare = byte 1 (omega arith) i; n = byte 2 (omega arith) i * 256 + byte 3 (omega arith) i }
  where
    byte : (j : ℕ) → j < 4 → get_or (take 4 (drop (at * 4) s)) j 0 ≡ get_or s (at * 4 + j) 0
    byte j h = get_or-take 4 (drop (at * 4) s) j 0 h ∙ get_or-drop (at * 4) s j 0

-- past the last record nothing is left
pub rows_end : (s : List ℕ) (at : ℕ) → length s / 4 ≤ at → drop at (rows s) ≡ []
rows_end s at h = let l : length (rows s) ≤ at = omega (arith, length_rows s) in drop_of_length-le (rows s) l

-- at a place before the end stands its record, and then the others
pub rows_at : (s : List ℕ) (at : ℕ) → at < length s / 4 → drop at (rows s) ≡ row s at ∷ drop (at + 1) (rows s)
rows_at s at h =
    drop-cons (rows s) at (row s at) (omega (arith, length_rows s))
    ∙ ap₂ {C = List TRec} (λ r n. r ∷ drop n (rows s)) (cut_at 4 type_record (length s / 4) at s (row s at) h ∙ row_bytes s at) (sym (add-one at))

-- WHAT A RECORD SAYS

-- a type's record, here and in the model
data Means : Head → file.Head → Type 0 where
  as_never : Means Never is_never
  as_bool : Means Boolean is_bool
  as_uint : {w : Pow2Usize} → Means (UInt w) (is_uint w.value)
  as_either : Means Either is_either
  as_option : Means Opt is_option
  as_tuple : {n : ℕ} → Means (Tuple n) (is_tuple n)
  as_array : {n : ℕ} → Means (Array n) (is_array n)
  as_list : {b : NonZeroPow2Usize} {e : ℕ} → bound_log2 b.value ≡ suc e → Means (Listed b) (is_list e)
  as_enum : {n : ℕ} → Means (Variants (suc n)) (is_enum n)

-- a record here, and what the model reads of it: as a type, and as a Variant
data Says : Head → Option file.Head → Option ℕ → Type 0 where
  as_nothing : Says Faulty none none
  as_variant : {n : ℕ} → Says (Payload n) none (some n)
  as_type : {h : Head} {m : file.Head} → Means h m → Says h (some m) none

-- a kind that asks n to be zero
says_zero : (h : Head) (m : file.Head) → Means h m → (b : Bool) → Says (pick b h Faulty) (when b (some m)) none
says_zero h m e true = as_type e
says_zero h m e false = as_nothing

says_width : (n : ℕ) → Says (by_width (width_of n)) (when (one_of n widths) (some (is_uint n))) none
unfolding width_of
says_width n = go (is_width n) refl
  where
    go : (b : Bool) (h : is_width n ≡ b) → Says (by_width (width_if n b h)) (when b (some (is_uint n))) none
    go true h = as_type (as_uint {w = width n h})
    go false h = as_nothing

says_bound : (n : ℕ) → Says (by_bound (bound_of n)) (map_o is_list (find (λ e. 2 ^ suc e) 15 0 n)) none
unfolding bound_of
says_bound n = go (bound_exponent n) refl (is_bound n) refl
  where
    go : (o : Option ℕ) → bound_exponent n ≡ o → (c : Bool) (h : is_bound n ≡ c) → Says (by_bound (bound_if n c h)) (map_o is_list o) none
    go none q true h = let z : ◌≡◌ {A = ℕ} 0 1 = cc in absurd (omega arith)
    go none q false h = as_nothing
    go (some e) q true h = as_type (as_list {b = bound n h} (bounded n e q).log2)
    go (some e) q false h = let z : ◌≡◌ {A = ℕ} 0 1 = cc in absurd (omega arith)

-- with byte 1 zero, by the kind
says_kind : (k n : ℕ) → Says (head_of k 0 n) (head (trec k n)) (variant_parts (trec k n))
unfolding head_of head variant_parts
says_kind zero n = says_zero Never is_never as_never (eqb n 0)
says_kind (suc zero) n = says_zero Boolean is_bool as_bool (eqb n 0)
says_kind (suc (suc zero)) n = says_width n
says_kind (suc (suc (suc zero))) n = says_zero Either is_either as_either (eqb n 0)
says_kind (suc (suc (suc (suc zero)))) n = says_zero Opt is_option as_option (eqb n 0)
says_kind (suc (suc (suc (suc (suc zero))))) n = as_type as_tuple
says_kind (suc (suc (suc (suc (suc (suc zero)))))) n = as_type as_array
says_kind (suc (suc (suc (suc (suc (suc (suc zero))))))) n = says_bound n
says_kind (suc (suc (suc (suc (suc (suc (suc (suc zero)))))))) zero = as_nothing
says_kind (suc (suc (suc (suc (suc (suc (suc (suc zero)))))))) (suc n) = simp eqb-suc-zero (as_type as_enum)
says_kind (suc (suc (suc (suc (suc (suc (suc (suc (suc zero))))))))) n = as_variant
says_kind (suc (suc (suc (suc (suc (suc (suc (suc (suc (suc k)))))))))) n = rw (no 0 refl, no 1 refl, no 2 refl, no 3 refl, no 4 refl, no 5 refl, no 6 refl, no 7 refl, no 8 refl, no 9 refl) as_nothing
  where
    no : (i : ℕ) → leb i 9 ≡ true → eqb (suc (suc (suc (suc (suc (suc (suc (suc (suc (suc k)))))))))) i ≡ false
    no i h = let l = leb-true i 9 h in ne_eqb (suc (suc (suc (suc (suc (suc (suc (suc (suc (suc k)))))))))) i (λ e. omega arith)

says : (k z n : ℕ) → Says (head_of k z n) (head (record { kind = k; spare = z; n = n })) (variant_parts (record { kind = k; spare = z; n = n }))
unfolding head_of head variant_parts
says k zero n = says_kind k n
says k (suc z) n = simp eqb-suc-zero as_nothing

-- the record at a place, and what the reader has from there on
data Stands (s : List ℕ) (at : ℕ) : Head → List TRec → Type 0 where
  gone : Stands s at Missing []
  there : {h : Head} {r : TRec} → Says h (head r) (variant_parts r) → Stands s at h (r ∷ drop (at + 1) (rows s))

stands : (s : List ℕ) (at : ℕ) → Stands s at (head_at s at) (drop at (rows s))
unfolding head_at
stands s at = go (ltb at (length s / 4)) refl
  where
    go : (b : Bool) → ltb at (length s / 4) ≡ b → Stands s at (pick b (head_of (get_or s (at * 4) 0) (get_or s (at * 4 + 1) 0) (get_or s (at * 4 + 2) 0 * 256 + get_or s (at * 4 + 3) 0)) Missing) (drop at (rows s))
    go true e = rw (rows_at s at (ltb-true at (length s / 4) e)) (there (says _ _ _))
    go false e = rw (rows_end s at (ltb-false at (length s / 4) e)) gone

-- WHAT IS READ UP TO A PLACE

-- a walk that ends leaves the reader what stands behind its end
abbrev pub answer : {A : Type 0} → Result ℕ Refusal → A → List TRec → Outcome (A × List TRec)
answer (Ok e) a rs = done (a, drop e rs)
answer (Err x) a rs = refused (refusal_number x)

answer_made : {A B : Type 0} (f : A → B) (w : Result ℕ Refusal) (a : A) (rs : List TRec) → made f (answer w a rs) ≡ answer w (f a) rs
answer_made f (Ok e) a rs = refl
answer_made f (Err x) a rs = refl

answer_next : {A B C : Type 0} (c : A → B → C) (w : Result ℕ Refusal) (a : A) (rs : List TRec) (f : Reader B) (k : ℕ → Result ℕ Refusal) (b : ℕ → B) → ((e : ℕ) → f (drop e rs) ≡ answer (k e) (b e) rs) → (answer w a rs >>= λ x. made (c x.0) (f x.1)) ≡ answer (next w k) (c a (b (end_of w))) rs
unfolding next
answer_next c (Ok e) a rs f k b h = ap (made (c a)) (h e) ∙ answer_made (c a) (k e) (b e) rs
answer_next c (Err x) a rs f k b h = refl

-- a reader f, and a walk w with its trees t: at each place they tell the same
abbrev pub Agree : {A : Type 0} → List TRec → Reader A → (ℕ → Result ℕ Refusal) → (ℕ → A) → Type 0
Agree rs f w t = (at : ℕ) → f (drop at rs) ≡ answer (w at) (t at) rs

module _ (rs : List TRec) where
  agree_made : {A B : Type 0} (c : A → B) (f : Reader A) (w : ℕ → Result ℕ Refusal) (t : ℕ → A) → Agree rs f w t → Agree rs (λ l. made c (f l)) w (λ e. c (t e))
  agree_made c f w t h at = ap (made c) (h at) ∙ answer_made c (w at) (t at) rs

  agree_next : {A B C : Type 0} (c : A → B → C) (f : Reader A) (w : ℕ → Result ℕ Refusal) (t : ℕ → A) → Agree rs f w t → (g : Reader B) (k : ℕ → Result ℕ Refusal) (b : ℕ → B) → Agree rs g k b → Agree rs (λ l. f l >>= λ x. made (c x.0) (g x.1)) (λ e. next (w e) k) (λ e. c (t e) (b (end_of (w e))))
  agree_next c f w t h g k b j at = ap (λ o. o >>= λ x. made (c x.0) (g x.1)) (h at) ∙ answer_next c (w at) (t at) rs g k b j

  agree_one : {A : Type 0} (f : Reader A) (w : ℕ → Result ℕ Refusal) (t : ℕ → A) → Agree rs f w t → Agree rs f (many w 1) t
  unfolding many next
  agree_one f w t h at = h at ∙ ap (λ x. answer x (t at) rs) (sym (go (w at)))
    where
      go : (x : Result ℕ Refusal) → next x (many w 0) ≡ x
      go (Ok e) = refl
      go (Err x) = refl

  agree_types : (f : Reader Ty) (w : ℕ → Result ℕ Refusal) (t : ℕ → Ty) → Agree rs f w t → (n : ℕ) → Agree rs (read_types f n) (many w n) (kids t w n)
  unfolding many kids
  agree_types f w t h zero at = refl
  agree_types f w t h (suc n) at = agree_next cons f w t h (read_types f n) (many w n) (kids t w n) (agree_types f w t h n) at

  agree_variants : (g : Reader Tys) (w : ℕ → Result ℕ Refusal) (t : ℕ → Tys) → Agree rs g w t → (n : ℕ) → Agree rs (read_variants g n) (many w (suc n)) (cases t w n)
  unfolding many cases
  agree_variants g w t h zero at = agree_made last g (many w 1) t (agree_one g w t h) at
  agree_variants g w t h (suc n) at = agree_next more g w t h (read_variants g n) (many w (suc n)) (cases t w n) (agree_variants g w t h n) at

  -- a record's children: f and w false are of types, g and w true of Variants
  agree_children : (f : Reader Ty) (g : Reader Tys) (w : Bool → ℕ → Result ℕ Refusal) (t : ℕ → Ty) (v : ℕ → Tys) → Agree rs f (w false) t → Agree rs g (w true) v → (h : Head) (m : file.Head) → Means h m → Agree rs (read_children f g m) (many (w (kind (calls_for h))) (count (calls_for h))) (node h t (w false) v (w true))
  unfolding many node
  agree_children f g w t v p q h m as_never at = refl
  agree_children f g w t v p q h m as_bool at = refl
  agree_children f g w t v p q h m as_uint at = refl
  agree_children f g w t v p q h m as_either at = agree_next either f (w false) t p f (many (w false) 1) t (agree_one f (w false) t p) at
  agree_children f g w t v p q h m as_option at = agree_made option f (many (w false) 1) t (agree_one f (w false) t p) at
  agree_children f g w t v p q h m (as_tuple {n}) at = agree_made tuple (read_types f n) (many (w false) n) (kids t (w false) n) (agree_types f (w false) t p n) at
  agree_children f g w t v p q h m (as_array {n}) at = agree_made (λ a. array a n) f (many (w false) 1) t (agree_one f (w false) t p) at
  agree_children f g w t v p q h m (as_list {e} b) at = rw (b, sub-one) (agree_made (λ a. list a e) f (many (w false) 1) t (agree_one f (w false) t p) at)
  agree_children f g w t v p q h m (as_enum {n}) at = rw sub-one (agree_made enum (read_variants g n) (many (w true) (suc n)) (cases v (w true) n) (agree_variants g (w true) v q n) at)

-- ONE RECORD

-- a type's record opens its children where a type belongs, and nothing where a Variant does
opens_means : (q : Bool → ℕ → Result ℕ Refusal) (h : Head) (m : file.Head) → Means h m → (opens false (calls_for h) q ≡ q (kind (calls_for h)) (count (calls_for h))) × (opens true (calls_for h) q ≡ Err BadRecord)
unfolding opens
opens_means q h m as_never = (refl, refl)
opens_means q h m as_bool = (refl, refl)
opens_means q h m as_uint = (refl, refl)
opens_means q h m as_either = (refl, refl)
opens_means q h m as_option = (refl, refl)
opens_means q h m as_tuple = (refl, refl)
opens_means q h m as_array = (refl, refl)
opens_means q h m (as_list b) = (refl, refl)
opens_means q h m as_enum = (refl, refl)

-- where a type belongs: f reads what a record has below it
module _ (s : List ℕ) (at : ℕ) (q : Bool → ℕ → Result ℕ Refusal) (f : file.Head → Reader Ty) (t : Ty) where
  abbrev TypeBelow : Head → Type 0
  TypeBelow h = (m : file.Head) → Means h m → f m (drop (at + 1) (rows s)) ≡ answer (q (kind (calls_for h)) (count (calls_for h))) t (rows s)

  type_said : (h : Head) (o : Option file.Head) (p : Option ℕ) → Says h o p → TypeBelow h → (or_refuse bad_record o >>= λ m. f m (drop (at + 1) (rows s))) ≡ answer (opens false (calls_for h) q) t (rows s)
  unfolding opens
  type_said h o p as_nothing k = refl
  type_said h o p as_variant k = refl
  type_said h o p (as_type {m} e) k = k m e ∙ ap (λ x. answer x t (rows s)) (sym (opens_means q h m e).0)

  type_step : (h : Head) (l : List TRec) → Stands s at h l → TypeBelow h → on_record (λ r rs. or_refuse bad_record (head r) >>= λ m. f m rs) l ≡ answer (opens false (calls_for h) q) t (rows s)
  unfolding opens
  type_step h l gone k = refl
  type_step h l (there {r} e) k = type_said h (head r) (variant_parts r) e k

-- where a Variant belongs
module _ (s : List ℕ) (at : ℕ) (q : Bool → ℕ → Result ℕ Refusal) (f : ℕ → Reader Tys) (t : Rec → Tys) (k : (n : ℕ) → f n (drop (at + 1) (rows s)) ≡ answer (q false n) (t (Variant n)) (rows s)) where
  variant_said : (h : Head) (o : Option file.Head) (p : Option ℕ) → Says h o p → (or_refuse bad_record p >>= λ n. f n (drop (at + 1) (rows s))) ≡ answer (opens true (calls_for h) q) (t (calls_for h)) (rows s)
  unfolding opens
  variant_said h o p as_nothing = refl
  variant_said h o p (as_variant {n}) = k n
  variant_said h o p (as_type {m} e) = ap (λ x. answer x (t (calls_for h)) (rows s)) (sym (opens_means q h m e).1)

  variant_step : (h : Head) (l : List TRec) → Stands s at h l → on_record (λ r rs. or_refuse bad_record (variant_parts r) >>= λ n. f n rs) l ≡ answer (opens true (calls_for h) q) (t (calls_for h)) (rows s)
  unfolding opens
  variant_step h l gone = refl
  variant_step h l (there {r} e) = variant_said h (head r) (variant_parts r) e

-- THE LEVELS

-- with d levels left, at each place: the model's reader of a type and of a Variant, and the walk with its trees
mutual
  unfolding read_type walk tree payload rec_at

  pub read_type_is : (s : List ℕ) (d : ℕ) → Agree (rows s) (read_type d) (walk d false s) (tree d s)
  read_type_is s zero at = type_step s at (λ b n. Err TooDeep) (λ m rs. refused too_deep) (tuple nil) (head_at s at) (drop at (rows s)) (stands s at) (λ m e. refl)
  read_type_is s (suc d) at =
      type_step s at (λ b n. many (walk d b s) n (at + 1)) (λ m rs. read_children (λ x. read_type d x) (λ x. read_variant d x) m rs) (tree (suc d) s at) (head_at s at) (drop at (rows s)) (stands s at)
      (λ m e. agree_children (rows s) (λ x. read_type d x) (λ x. read_variant d x) (λ b. walk d b s) (λ i. tree d s i) (λ i. treev d s i) (λ i. read_type_is s d i) (λ i. read_variant_is s d i) (head_at s at) m e (at + 1))

  pub read_variant_is : (s : List ℕ) (d : ℕ) → Agree (rows s) (read_variant d) (walk d true s) (treev d s)
  read_variant_is s zero at = variant_step s at (λ b n. Err TooDeep) (λ n rs. refused too_deep) (λ r. nil) (λ n. refl) (head_at s at) (drop at (rows s)) (stands s at)
  read_variant_is s (suc d) at =
      variant_step s at (λ b n. many (walk d b s) n (at + 1)) (λ n rs. read_types (λ x. read_type d x) n rs) (λ r. payload r (λ i. tree d s i) (walk d false s) (at + 1))
      (λ n. agree_types (rows s) (λ x. read_type d x) (walk d false s) (λ i. tree d s i) (λ i. read_type_is s d i) n (at + 1)) (head_at s at) (drop at (rows s)) (stands s at)

-- THE FILE

-- the answer about a type file, with the type that it says
abbrev pub outcome_of : Result ℕ Refusal → Ty → Outcome Ty
outcome_of (Ok n) t = done t
outcome_of (Err x) t = refused (refusal_number x)

-- one tree and nothing after it
whole_is : (s : List ℕ) (t : Ty) (w : Result ℕ Refusal) → ((e : ℕ) → w ≡ Ok e → e ≤ length s / 4) → (answer w t (rows s) >>= all_read not_one_type) ≡ outcome_of (whole (length s / 4) w) t
unfolding whole
whole_is s t (Err x) h = refl
whole_is s t (Ok e) h = go (eqb e (length s / 4)) refl
  where
    go : (b : Bool) → eqb e (length s / 4) ≡ b → all_read not_one_type (t, drop e (rows s)) ≡ outcome_of (pick_answer b (Ok e) (Err NotOneType)) t
    go true q = let l = eqb-true e (length s / 4) q in rw (rows_end s e (omega arith))
    go false q = let l = h e refl in let n = eqb-false e (length s / 4) q in rw (rows_at s e (omega (arith, n)))

-- the row of 1,024 records counts bytes there and records here
row_of_records : (n : ℕ) → n % 4 ≡ 0 → ltb (4 * most_type_records) n ≡ not (leb (n / 4) 1024)
row_of_records n m = go (leb (n / 4) 1024) refl
  where
    go : (b : Bool) → leb (n / 4) 1024 ≡ b → ltb (4 * most_type_records) n ≡ not b
    go true e = let l = leb-true (n / 4) 1024 e in le-ltb (4 * most_type_records) n (omega arith)
    go false e = let l = leb-false (n / 4) 1024 e in lt-ltb (4 * most_type_records) n (omega arith)

-- rows 1 to 5: the model reads a type file as the walk does
pub type_of_is : (s : List ℕ) → type_of s ≡ outcome_of (type_answer s) (tree 32 s 0)
unfolding type_of type_answer
type_of_is s = go (eqb (length s) 0) (eqb (length s % 4) 0) refl
  where
    rest : (read_type deepest (rows s) >>= all_read not_one_type) ≡ outcome_of (whole (length s / 4) (walk 32 false s 0)) (tree 32 s 0)
    rest = ap (λ o. o >>= all_read not_one_type) (read_type_is s 32 0) ∙ whole_is s (tree 32 s 0) (walk 32 false s 0) (reach 32 false s 0)

    long : (c : Bool) → (refuse type_too_long (not c) >> (read_type deepest (rows s) >>= all_read not_one_type)) ≡ outcome_of (pick_answer c (whole (length s / 4) (walk 32 false s 0)) (Err TypeTooLong)) (tree 32 s 0)
    long true = rest
    long false = refl

    go : (a b : Bool) → eqb (length s % 4) 0 ≡ b → (refuse type_length (a || not b) >> (refuse type_too_long (ltb (4 * most_type_records) (length s)) >> (read_type deepest (rows s) >>= all_read not_one_type))) ≡ outcome_of (pick_answer a (Err TypeLength) (pick_answer b (pick_answer (leb (length s / 4) 1024) (whole (length s / 4) (walk 32 false s 0)) (Err TypeTooLong)) (Err TypeLength))) (tree 32 s 0)
    go true b e = refl
    go false false e = refl
    go false true e = rw (row_of_records (length s) (eqb-true (length s % 4) 0 e)) (long (leb (length s / 4) 1024))

-- an accepted file says its tree
pub accepted_tree : (s : List ℕ) (n : ℕ) → type_answer s ≡ Ok n → type_of s ≡ done (tree 32 s 0)
accepted_tree s n p = type_of_is s ∙ ap (λ r. outcome_of r (tree 32 s 0)) p
