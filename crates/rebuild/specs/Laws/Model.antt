-- The law that joins readers with the model: where a shape stands in a file, `reads` answers if and only if `reconstruct` gives a value,
-- with the end of the shape, the number of the value's records and what a walk makes of the shape; for those that count, its surplus.
use Rattle.std.specs.Prelude.{◌≡◌, refl, Bool, List, [], ◌∷◌, length, get_or, replicate, Option as Optional, Some, None}
use Rattle.std.proofs.Common.{sym, ap, ap₂, ◌∙◌, append-nil, inl, inr, zero-add, arith, length-append}
use Rattle.std.proofs.Math.Option.{Option, none, some}
use Prim.Native.Nat.{ℕ, zero, suc, ◌+◌, ◌≤◌, ◌^◌}
use Rattle.model.specs.Outcome.{done}
use Rattle.model.specs.Options.{map_o, bind_o, map_m, flat_map}
use Rattle.model.specs.Bytes.{of_bits}
use Rattle.model.specs.Balanced.{btree, fold}
use Rattle.model.specs.Structural.{SValue, unit, left, right, pair, shape_records}
use Rattle.model.specs.Types.{Ty, Tys, Variants, never, bool, uint, either, option, tuple, array, list, enum, nil, cons, last, more, size, count}
use Rattle.model.specs.Values.{Value}
use Rattle.model.specs.ValueFiles.{encode, encodes, encode_choice}
use Rattle.model.specs.ShapeFiles.{shape_of}
use Rattle.model.specs.Reconstruct.{as_tuple, as_bit, combine, as_enum_leaf, reconstruct, reconstructs, choose}
use Rattle.model.specs.Spots.{Walk, walk, walks, walks_of, in_list}
use Rattle.model.proofs.Laws.Balanced.{btree_leaves}
use Rattle.model.proofs.Laws.Options.{map_o_map_o, map_o_bind_o, map_o_known, bind_o_known}
use Rattle.model.proofs.Laws.ShapeFiles.{shape_written_read}
use Rattle.model.proofs.Laws.Spots.{surplus}
use Rattle.rebuild.specs.Kinds.{Readers, blocks, lists, reads, readers, cases}
use Rattle.rebuild.specs.Reads.{records_in, value_records}
use Rattle.rebuild.specs.Laws.Places.{Counter, plus_o, unit_count, sum_count, pair_count, any_count, no_count, Same, Sames, none_left, one_more, same_as, sames_replicate, Follows, one_same, bits_same, products_same, choices_same}
use Rattle.rebuild.specs.Laws.Counting.{answer, reader_follows}
use Rattle.rebuild.specs.Laws.Counts.{zip, total, product_zip, product_total, list_count, list_total, sum_leaf}

-- WHAT THE MODEL COUNTS

-- the records of the value that a shape gives
abbrev pub records_of : (t : Ty) → Counter
records_of t x = map_o (λ v. length (encode t v)) (reconstruct t x)

abbrev all_of : Tys → List Counter
all_of nil = []
all_of (cons t ts) = records_of t ∷ all_of ts

abbrev tuple_of : Tys → Counter
tuple_of ts x = map_o (λ v. length (encodes ts v)) (bind_o (as_tuple (size ts) x) (λ ss. reconstructs ts ss))

abbrev cases_of : Variants → List Counter
cases_of (last ts) = tuple_of ts ∷ []
cases_of (more ts vs) = tuple_of ts ∷ cases_of vs

length_all : (ts : Tys) → length (all_of ts) ≡ size ts
length_all nil = refl
length_all (cons t ts) = ap suc (length_all ts)

length_cases : (vs : Variants) → length (cases_of vs) ≡ count vs
length_cases (last ts) = refl
length_cases (more ts vs) = ap suc (length_cases vs)

-- the records of two values, one behind the other
two_of : {A B C : Type 0} (a : Option A) (b : Option B) (f : A → B → C) (g : A → ℕ) (h : B → ℕ) (k : C → ℕ) → ((x : A) (y : B) → k (f x y) ≡ g x + h y)
    → plus_o (map_o g a) (map_o h b) ≡ map_o k (bind_o a (λ x. map_o (λ y. f x y) b))
two_of none b f g h k e = refl
two_of (some x) none f g h k e = refl
two_of (some x) (some y) f g h k e = ap some (sym (e x y))

zip_all : (ts : Tys) (xs : List SValue) → zip (all_of ts) xs ≡ map_o (λ v. length (encodes ts v)) (reconstructs ts xs)
unfolding reconstruct encode
zip_all nil [] = refl
zip_all nil (x ∷ xs) = refl
zip_all (cons t ts) [] = refl
zip_all (cons t ts) (x ∷ xs) = ap (plus_o (records_of t x)) (zip_all ts xs) ∙ two_of (reconstruct t x) (reconstructs ts xs) (λ v vs. (v, vs)) _ _ _ (λ v vs. length-append (encode t v) (encodes ts vs))

product_all : (ts : Tys) (x : SValue) → fold pair_count any_count (btree (size ts)) (all_of ts) x ≡ tuple_of ts x
product_all ts x = product_zip (size ts) (all_of ts) x (length_all ts) ∙ bind_o_known (as_tuple (size ts) x) _ _ (λ ss e. zip_all ts ss) ∙ sym (map_o_bind_o (λ ss. reconstructs ts ss) _ (as_tuple (size ts) x))

module _ {A B : Type 0} (f : SValue → Option A) (g : A → List B) where
  total_map : (xs : List SValue) → total (λ x. map_o (λ v. length (g v)) (f x)) xs ≡ map_o (λ vs. length (flat_map g vs)) (map_m f xs)
  total_map [] = refl
  total_map (x ∷ xs) = ap (plus_o (map_o (λ v. length (g v)) (f x))) (total_map xs) ∙ two_of (f x) (map_m f xs) (λ v vs. v ∷ vs) _ _ _ (λ v vs. length-append (g v) (flat_map g vs))

-- so the parts taken out of a shape are counted
counted : {A B : Type 0} (o : Option A) (f : A → Option B) (c : A → Option ℕ) (g h : B → ℕ) → ((a : A) → c a ≡ map_o g (f a)) → ((b : B) → 1 + g b ≡ h b) → map_o (λ n. 1 + n) (bind_o o c) ≡ map_o h (bind_o o f)
counted none f c g h e k = refl
counted (some a) f c g h e k = ap (map_o (λ n. 1 + n)) (e a) ∙ map_o_map_o g _ (f a) ∙ map_o_known (f a) _ h (λ b q. k b)

lifted : {A B : Type 0} (o : Option A) (f : A → B) (g : A → ℕ) (h : B → ℕ) → ((a : A) → 1 + g a ≡ h (f a)) → map_o (λ n. 1 + n) (map_o g o) ≡ map_o h (map_o f o)
lifted none f g h e = refl
lifted (some a) f g h e = ap some (e a)

-- EACH KIND

-- the records of a value are one, and those of its parts
abbrev Counts : Ty → Counter → Type 0
Counts t c = (x : SValue) → map_o (λ n. 1 + n) (c x) ≡ records_of t x

abbrev bit_count : Counter
bit_count = sum_count unit_count unit_count

bool_count : Counts bool bit_count
unfolding reconstruct encode
bool_count unit = refl
bool_count (left unit) = refl
bool_count (left (left x)) = refl
bool_count (left (right x)) = refl
bool_count (left (pair x y)) = refl
bool_count (right unit) = refl
bool_count (right (left x)) = refl
bool_count (right (right x)) = refl
bool_count (right (pair x y)) = refl
bool_count (pair x y) = refl

bit_is : (x : SValue) → bit_count x ≡ map_o (λ (b : Bool). 0) (as_bit x)
bit_is unit = refl
bit_is (left unit) = refl
bit_is (left (left x)) = refl
bit_is (left (right x)) = refl
bit_is (left (pair x y)) = refl
bit_is (right unit) = refl
bit_is (right (left x)) = refl
bit_is (right (right x)) = refl
bit_is (right (pair x y)) = refl
bit_is (pair x y) = refl

bits_are : (xs : List SValue) → total bit_count xs ≡ map_o (λ (l : List Bool). 0) (map_m as_bit xs)
bits_are [] = refl
bits_are (x ∷ xs) = ap₂ plus_o (bit_is x) (bits_are xs) ∙ two_of (as_bit x) (map_m as_bit xs) (λ b bs. b ∷ bs) (λ b. 0) (λ l. 0) (λ l. 0) (λ b bs. refl)

uint_count : (w : ℕ) → Counts (uint w) (fold pair_count any_count (btree w) (replicate w bit_count))
unfolding reconstruct encode
uint_count w x =
    ap (map_o (λ n. 1 + n)) (product_total w bit_count x)
    ∙ counted (as_tuple w x) (λ ss. map_o of_bits (map_m as_bit ss)) (total bit_count) (λ n. 0) (λ n. 1) (λ ss. bits_are ss ∙ sym (map_o_map_o of_bits (λ n. 0) (map_m as_bit ss))) (λ n. refl)

either_count : (a b : Ty) → Counts (either a b) (sum_count (records_of a) (records_of b))
unfolding reconstruct encode
either_count a b unit = refl
either_count a b (left x) = lifted (reconstruct a x) inl (λ v. length (encode a v)) (λ v. length (encode (either a b) v)) (λ v. omega arith)
either_count a b (right x) = lifted (reconstruct b x) inr (λ v. length (encode b v)) (λ v. length (encode (either a b) v)) (λ v. omega arith)
either_count a b (pair x y) = refl

option_count : (a : Ty) → Counts (option a) (sum_count unit_count (records_of a))
unfolding reconstruct encode
option_count a unit = refl
option_count a (left unit) = refl
option_count a (left (left x)) = refl
option_count a (left (right x)) = refl
option_count a (left (pair x y)) = refl
option_count a (right x) = lifted (reconstruct a x) some (λ v. length (encode a v)) (λ v. length (encode (option a) v)) (λ v. omega arith)
option_count a (pair x y) = refl

tuple_count : (ts : Tys) → Counts (tuple ts) (fold pair_count any_count (btree (size ts)) (all_of ts))
unfolding reconstruct encode
tuple_count ts x =
    ap (map_o (λ n. 1 + n)) (product_all ts x)
    ∙ map_o_map_o (λ v. length (encodes ts v)) (λ n. 1 + n) (bind_o (as_tuple (size ts) x) (λ ss. reconstructs ts ss))
    ∙ map_o_known (bind_o (as_tuple (size ts) x) (λ ss. reconstructs ts ss)) _ (λ v. length (encode (tuple ts) v)) (λ v q. omega arith)

array_count : (a : Ty) (n : ℕ) → Counts (array a n) (fold pair_count any_count (btree n) (replicate n (records_of a)))
unfolding reconstruct encode
array_count a n x =
    ap (map_o (λ n. 1 + n)) (product_total n (records_of a) x)
    ∙ counted (as_tuple n x) (map_m (λ y. reconstruct a y)) (total (records_of a)) (λ vs. length (flat_map (λ v. encode a v) vs)) (λ v. length (encode (array a n) v)) (total_map (λ y. reconstruct a y) (λ v. encode a v)) (λ v. omega arith)

listed_count : (a : Ty) (e : ℕ) → Counts (list a e) (list_count e (records_of a))
unfolding reconstruct encode
listed_count a e x =
    ap (map_o (λ n. 1 + n)) (list_total e (records_of a) x)
    ∙ counted (combine e x) (map_m (λ y. reconstruct a y)) (total (records_of a)) (λ vs. length (flat_map (λ v. encode a v) vs)) (λ v. length (encode (list a e) v)) (total_map (λ y. reconstruct a y) (λ v. encode a v)) (λ v. omega arith)

choose_count : (vs : Variants) (i : ℕ) (x : SValue) → get_or (cases_of vs) i no_count x ≡ map_o (λ c. length (encode_choice vs c)) (choose vs i x)
unfolding reconstruct encode
choose_count (last ts) zero x = refl
choose_count (last ts) (suc i) x = refl
choose_count (more ts vs) zero x = sym (map_o_map_o inl (λ c. length (encode_choice (more ts vs) c)) (bind_o (as_tuple (size ts) x) (λ ss. reconstructs ts ss)))
choose_count (more ts vs) (suc i) x = choose_count vs i x ∙ sym (map_o_map_o inr (λ c. length (encode_choice (more ts vs) c)) (choose vs i x))

count_some : (vs : Variants) → 1 ≤ count vs
count_some (last ts) = omega arith
count_some (more ts vs) = omega arith

enum_count : (vs : Variants) → Counts (enum vs) (fold sum_count no_count (btree (count vs)) (cases_of vs))
unfolding reconstruct encode
enum_count vs x =
    ap (map_o (λ n. 1 + n)) (sum_leaf (btree (count vs)) (cases_of vs) x (length_cases vs ∙ sym (btree_leaves (count vs) (count_some vs))))
    ∙ counted (as_enum_leaf (btree (count vs)) x) (λ y. choose vs y.0 y.1) (λ y. get_or (cases_of vs) y.0 no_count y.1) (λ c. length (encode_choice vs c)) (λ c. length (encode (enum vs) c)) (λ y. choose_count vs y.0 y.1) (λ c. omega arith)

-- THE LAW

never_count : (x : SValue) → none ≡ records_of never x
unfolding reconstruct
never_count x = refl

module _ {R X : Type 0} (answer : ℕ → Option ℕ → X → R) (s : List ℕ) {W : Readers (ℕ → R)} {K : Walk X} (f : Follows answer s W K) where
  lists_same : (e : ℕ) {r : ℕ → R} {c : Counter} {w : SValue → X} → Same answer s r c w → Same answer s (lists W e r) (list_count e c) (in_list K e w)
  unfolding lists blocks in_list
  lists_same zero h = f.sums _ _ _ _ _ _ f.units (products_same answer s f 1 (sames_replicate answer s 1 h))
  lists_same (suc e) h = f.pairs _ _ _ _ _ _ (f.sums _ _ _ _ _ _ f.units (products_same answer s f (2 ^ suc e) (sames_replicate answer s (2 ^ suc e) h))) (lists_same e h)

  mutual
    unfolding reads walk

    pub reads_same : (t : Ty) → Same answer s (reads W t) (records_of t) (walk K t)
    reads_same never = same_as answer s f.fails never_count
    reads_same bool = one_same answer s f (bits_same answer s f) bool_count
    reads_same (uint w) = one_same answer s f (products_same answer s f w (sames_replicate answer s w (bits_same answer s f))) (uint_count w)
    reads_same (either a b) = one_same answer s f (f.sums _ _ _ _ _ _ (reads_same a) (reads_same b)) (either_count a b)
    reads_same (option a) = one_same answer s f (f.sums _ _ _ _ _ _ f.units (reads_same a)) (option_count a)
    reads_same (tuple ts) = one_same answer s f (products_same answer s f (size ts) (readers_same ts)) (tuple_count ts)
    reads_same (array a n) = one_same answer s f (products_same answer s f n (sames_replicate answer s n (reads_same a))) (array_count a n)
    reads_same (list a e) = one_same answer s f (lists_same e (reads_same a)) (listed_count a e)
    reads_same (enum vs) = one_same answer s f (choices_same answer s f (count vs) (cases_same vs)) (enum_count vs)

    readers_same : (ts : Tys) → Sames answer s (readers W ts) (all_of ts) (walks K ts)
    readers_same nil = none_left
    readers_same (cons t ts) = one_more (reads_same t) (readers_same ts)

    cases_same : (vs : Variants) → Sames answer s (cases W vs) (cases_of vs) (walks_of K vs)
    cases_same (last ts) = one_more (same_as answer s (products_same answer s f (size ts) (readers_same ts)) (product_all ts)) none_left
    cases_same (more ts vs) = one_more (same_as answer s (products_same answer s f (size ts) (readers_same ts)) (product_all ts)) (cases_same vs)

  -- a file that says the shape x is read to its end
  pub file_same : (t : Ty) (x : SValue) → shape_of s ≡ done x → reads W t 0 ≡ answer (length s) (records_of t x) (walk K t x)
  file_same t x h =
      let e : s ≡ shape_records x = (shape_written_read s x h).0 in
      (reads_same t).told 0 x (record { rest = []; here = e ∙ sym (append-nil (shape_records x)) })
      ∙ ap (λ n. answer n (records_of t x) (walk K t x)) (zero-add (length (shape_records x)) ∙ ap length (sym e))

-- the records of a value, if there is one, and so much surplus
abbrev pub known : (t : Ty) → ℕ → Option (Value t) → Optional (ℕ × ℕ)
known t k none = None
known t k (some v) = Some ((length (encode t v)), k)

-- for a file that says the shape x, the answer is of the value that `reconstruct` gives, and none exactly if it gives none
pub value_records_reconstruct : (t : Ty) (s : List ℕ) (x : SValue) → shape_of s ≡ done x → value_records t s ≡ known t (surplus t x) (reconstruct t x)
unfolding value_records
value_records_reconstruct t s x h = ap records_in (file_same answer s (reader_follows s) t x h) ∙ go (reconstruct t x)
  where
    go : (o : Option (Value t)) → records_in (answer (length s) (map_o (λ v. length (encode t v)) o) (surplus t x)) ≡ known t (surplus t x) o
    go none = refl
    go (some v) = refl
