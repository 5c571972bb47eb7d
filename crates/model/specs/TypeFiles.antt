-- Type files (01, 'Type file'; rows 1 to 5): 4-byte records, no header. Byte 0 is the kind, byte 1 is zero, bytes 2 and 3 are n.
-- A record is followed by its children, left to right. Rows 3, 4 and 5 are decided parent first, 3 before 4 at one record; leftovers come last.
use Rattle.std.specs.Prelude.{◌&&◌, ◌||◌, not, List, [], ◌∷◌, ◌++◌, map, ℕ, zero, suc, ◌*◌, ◌%◌, ◌^◌, eqb, ltb, length, get_or}
use Rattle.std.proofs.Math.Option.{Option, none, some}
use Rattle.model.specs.Numbers.{type_length, type_too_long, bad_record, too_deep, not_one_type, most_type_records, deepest}
use Rattle.model.specs.Outcome.{Outcome, done, refused, ◌>>=◌, ◌>>◌, refuse, or_refuse, all_read}
use Rattle.model.specs.Options.{when, map_o, one_of, find, flat_map}
use Rattle.model.specs.Bytes.{records, two, two_at}
use Rattle.model.specs.Types.{Ty, Tys, Variants, never, bool, uint, either, option, tuple, array, list, enum, nil, cons, last, more, size, count}

-- one record
pub record TRec : Type 0 where
  pub kind : ℕ
  pub spare : ℕ
  pub n : ℕ

abbrev pub type_record : List ℕ → TRec
type_record l = record { kind = get_or l 0 0; spare = get_or l 1 0; n = two_at l 2 }

-- WHAT A RECORD SAYS

pub data Head : Type 0 where
  is_never is_bool is_either is_option : Head
  is_uint is_tuple is_array is_list is_enum : ℕ → Head

abbrev pub widths : List ℕ
widths = 1 ∷ 2 ∷ 4 ∷ 8 ∷ 16 ∷ 32 ∷ 64 ∷ 128 ∷ 256 ∷ []

-- an Enum's variants, one less than n
abbrev pub at_least_one : ℕ → Option Head
at_least_one zero = none
at_least_one (suc n) = some (is_enum n)

-- by kind: 0 Never, 1 Boolean, 2 UInt, 3 Either, 4 Option, 5 Tuple, 6 Array, 7 List, 8 Enum
abbrev pub by_kind : ℕ → ℕ → Option Head
by_kind kind n = get_or (
    when (eqb n 0) (some is_never)
    ∷ when (eqb n 0) (some is_bool)
    ∷ when (one_of n widths) (some (is_uint n))
    ∷ when (eqb n 0) (some is_either)
    ∷ when (eqb n 0) (some is_option)
    ∷ some (is_tuple n)
    ∷ some (is_array n)
    ∷ map_o is_list (find (λ e. 2 ^ suc e) 15 0 n)
    ∷ at_least_one n
    ∷ []) kind none

-- what stands where a type belongs
unfoldable pub head : TRec → Option Head
head r = when (eqb r.spare 0) (by_kind r.kind r.n)

-- what stands where a Variant belongs: its parts
unfoldable pub variant_parts : TRec → Option ℕ
variant_parts r = when (eqb r.spare 0 && eqb r.kind 9) (some r.n)

-- READING, from the front of the records; the rest is handed back

abbrev pub Reader : Type 0 → Type 0
Reader A = List TRec → Outcome (A × List TRec)

abbrev pub made : {A B : Type 0} → (A → B) → Outcome (A × List TRec) → Outcome (B × List TRec)
made f o = o >>= λ x. done (f x.0, x.1)

abbrev pub on_record : {A : Type 0} → (TRec → Reader A) → Reader A
on_record f [] = refused not_one_type
on_record f (r ∷ rs) = f r rs

abbrev pub read_types : Reader Ty → ℕ → Reader Tys
read_types f zero rs = done (nil, rs)
read_types f (suc n) rs = f rs >>= λ x. made (cons x.0) (read_types f n x.1)

-- one more than n Variants
abbrev pub read_variants : Reader Tys → ℕ → Reader Variants
read_variants g zero rs = made last (g rs)
read_variants g (suc n) rs = g rs >>= λ x. made (more x.0) (read_variants g n x.1)

-- a record's children: f reads a type, g a Variant
abbrev pub read_children : Reader Ty → Reader Tys → Head → Reader Ty
read_children f g is_never rs = done (never, rs)
read_children f g is_bool rs = done (bool, rs)
read_children f g is_either rs = f rs >>= λ x. made (either x.0) (f x.1)
read_children f g is_option rs = made option (f rs)
read_children f g (is_uint w) rs = done (uint w, rs)
read_children f g (is_tuple n) rs = made tuple (read_types f n rs)
read_children f g (is_array n) rs = made (λ a. array a n) (f rs)
read_children f g (is_list e) rs = made (λ a. list a e) (f rs)
read_children f g (is_enum n) rs = made enum (read_variants g n rs)

-- with so many levels left
unfoldable mutual
  pub read_type : ℕ → Reader Ty
  read_type zero rs = on_record (λ r s. or_refuse bad_record (head r) >>= λ h. refused too_deep) rs
  read_type (suc l) rs = on_record (λ r s. or_refuse bad_record (head r) >>= λ h. read_children (λ x. read_type l x) (λ x. read_variant l x) h s) rs

  pub read_variant : ℕ → Reader Tys
  read_variant zero rs = on_record (λ r s. or_refuse bad_record (variant_parts r) >>= λ n. refused too_deep) rs
  read_variant (suc l) rs = on_record (λ r s. or_refuse bad_record (variant_parts r) >>= λ n. read_types (λ x. read_type l x) n s) rs

-- the type that a type file says
unfoldable pub type_of : List ℕ → Outcome Ty
type_of file = do
  refuse type_length (eqb (length file) 0 || not (eqb (length file % 4) 0))
  refuse type_too_long (ltb (4 * most_type_records) (length file))
  x ← read_type deepest (map type_record (records 4 file))
  all_read not_one_type x

-- WRITING

abbrev pub trec : ℕ → ℕ → TRec
trec kind n = record { kind = kind; spare = 0; n = n }

abbrev pub type_bytes : TRec → List ℕ
type_bytes r = r.kind ∷ r.spare ∷ two r.n

unfoldable mutual
  pub encode_type : Ty → List TRec
  encode_type never = trec 0 0 ∷ []
  encode_type bool = trec 1 0 ∷ []
  encode_type (uint w) = trec 2 w ∷ []
  encode_type (either a b) = trec 3 0 ∷ encode_type a ++ encode_type b
  encode_type (option a) = trec 4 0 ∷ encode_type a
  encode_type (tuple ts) = trec 5 (size ts) ∷ encode_types ts
  encode_type (array a n) = trec 6 n ∷ encode_type a
  encode_type (list a e) = trec 7 (2 ^ suc e) ∷ encode_type a
  encode_type (enum vs) = trec 8 (count vs) ∷ encode_variants vs

  pub encode_types : Tys → List TRec
  encode_types nil = []
  encode_types (cons t ts) = encode_type t ++ encode_types ts

  pub encode_variants : Variants → List TRec
  encode_variants (last ts) = trec 9 (size ts) ∷ encode_types ts
  encode_variants (more ts vs) = trec 9 (size ts) ∷ encode_types ts ++ encode_variants vs

-- the type file that says a type
unfoldable pub type_file : Ty → List ℕ
type_file t = flat_map type_bytes (encode_type t)
