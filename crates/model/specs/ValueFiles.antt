-- Value files (01, 'Value file'; rows 15 and 16, with R-7's 21 and 22 in the place of 16): 36-byte records, parent first, kinds as in type files.
-- Byte 1 is the choice; bytes 2 and 3 are n: UInt bits, Tuple and Array parts, List length, Enum variant; bytes 4 to 35 the integer of a UInt.
-- Unused bytes are zero.
use Rattle.std.specs.Prelude.{Bool, true, false, ◌&&◌, ◌||◌, not, List, [], ◌∷◌, ◌++◌, map, ℕ, zero, suc, ◌%◌, ◌^◌, eqb, leb, length, get_or, drop}
use Rattle.std.proofs.Common.{inl, inr}
use Rattle.std.proofs.Math.Option.{none, some}
use Rattle.model.specs.Numbers.{value_length, not_one_value, integer_too_large, list_too_long}
use Rattle.model.specs.Outcome.{Outcome, done, refused, ◌>>=◌, ◌>>◌, refuse, all_read}
use Rattle.model.specs.Options.{pick, flat_map}
use Rattle.model.specs.Bytes.{records, two, two_at, number, in_bytes}
use Rattle.model.specs.Types.{Ty, Tys, Variants, never, bool, uint, either, option, tuple, array, list, enum, nil, cons, last, more, size}
use Rattle.model.specs.Values.{Value, Values, Choice, index}

-- one record
pub record Rec : Type 0 where
  pub kind : ℕ
  pub choice : ℕ
  pub n : ℕ
  pub integer : ℕ

abbrev pub rec : ℕ → ℕ → ℕ → ℕ → Rec
rec k c n i = record { kind = k; choice = c; n = n; integer = i }

abbrev pub value_record : List ℕ → Rec
value_record l = rec (get_or l 0 0) (get_or l 1 0) (two_at l 2) (number (drop 4 l))

abbrev pub value_bytes : Rec → List ℕ
value_bytes r = r.kind ∷ r.choice ∷ two r.n ++ in_bytes 32 r.integer

-- WRITING

abbrev pub bit_number : Bool → ℕ
bit_number false = 0
bit_number true = 1

unfoldable mutual
  pub encode : (t : Ty) → Value t → List Rec
  encode never v = []
  encode bool b = rec 1 (bit_number b) 0 0 ∷ []
  encode (uint w) n = rec 2 0 w n ∷ []
  encode (either a b) (inl x) = rec 3 0 0 0 ∷ encode a x
  encode (either a b) (inr y) = rec 3 1 0 0 ∷ encode b y
  encode (option a) none = rec 4 0 0 0 ∷ []
  encode (option a) (some x) = rec 4 1 0 0 ∷ encode a x
  encode (tuple ts) v = rec 5 0 (size ts) 0 ∷ encodes ts v
  encode (array a n) xs = rec 6 0 n 0 ∷ flat_map (λ x. encode a x) xs
  encode (list a e) xs = rec 7 0 (length xs) 0 ∷ flat_map (λ x. encode a x) xs
  encode (enum vs) c = rec 8 0 (index vs c) 0 ∷ encode_choice vs c

  pub encodes : (ts : Tys) → Values ts → List Rec
  encodes nil v = []
  encodes (cons t ts) v = encode t v.0 ++ encodes ts v.1

  pub encode_choice : (vs : Variants) → Choice vs → List Rec
  encode_choice (last ts) c = encodes ts c
  encode_choice (more ts vs) (inl c) = encodes ts c
  encode_choice (more ts vs) (inr c) = encode_choice vs c

-- the value file that says a value
unfoldable pub value_file : (t : Ty) → Value t → List ℕ
value_file t v = flat_map value_bytes (encode t v)

-- READING, from the front of the records; the rest is handed back. Records are read in the file's order and the first fault refuses, so the record whose fault
-- comes earliest decides. There 16 comes first: kind, choice, unused bytes, and a width or count unlike the type's. The finer tests, 21 and 22, come after it.

unfoldable pub same : Rec → Rec → Bool
same r s = eqb r.kind s.kind && eqb r.choice s.choice && eqb r.n s.n && eqb r.integer s.integer

-- 16, unless this holds
abbrev pub must : Bool → Outcome (Unit {0})
must b = refuse not_one_value (not b)

-- 16, unless the first record is the second
abbrev pub must_be : Rec → Rec → Outcome (Unit {0})
must_be r s = must (same r s)

abbrev pub Reader : Type 0 → Type 0
Reader A = List Rec → Outcome (A × List Rec)

abbrev pub made : {A B : Type 0} → (A → B) → Outcome (A × List Rec) → Outcome (B × List Rec)
made f o = o >>= λ x. done (f x.0, x.1)

-- a record that is missing is 16
abbrev pub on_record : {A : Type 0} → (Rec → Reader A) → Reader A
on_record f [] = refused not_one_value
on_record f (r ∷ rs) = f r rs

abbrev pub many : {A : Type 0} → Reader A → ℕ → Reader (List A)
many f zero rs = done ([], rs)
many f (suc n) rs = f rs >>= λ x. made (λ ys. x.0 ∷ ys) (many f n x.1)

unfoldable mutual
  pub parse_at : (t : Ty) → Rec → Reader (Value t)
  parse_at never r rs = refused not_one_value
  parse_at bool r rs = pick (same r (rec 1 0 0 0)) (done (false, rs)) (must_be r (rec 1 1 0 0) >> done (true, rs))
  parse_at (uint w) r rs = do
    must_be r (rec 2 0 w r.integer)
    refuse integer_too_large (leb (2 ^ w) r.integer)
    done (r.integer, rs)
  parse_at (either a b) r rs = pick (same r (rec 3 0 0 0)) (made inl (on_record (λ r s. parse_at a r s) rs)) (must_be r (rec 3 1 0 0) >> made inr (on_record (λ r s. parse_at b r s) rs))
  parse_at (option a) r rs = pick (same r (rec 4 0 0 0)) (done (none, rs)) (must_be r (rec 4 1 0 0) >> made some (on_record (λ r s. parse_at a r s) rs))
  parse_at (tuple ts) r rs = must_be r (rec 5 0 (size ts) 0) >> parses ts rs
  parse_at (array a n) r rs = must_be r (rec 6 0 n 0) >> many (on_record (λ r s. parse_at a r s)) n rs
  parse_at (list a e) r rs = do
    must_be r (rec 7 0 r.n 0)
    refuse list_too_long (leb (2 ^ suc e) r.n)
    many (on_record (λ r s. parse_at a r s)) r.n rs
  parse_at (enum vs) r rs = must_be r (rec 8 0 r.n 0) >> parse_choice vs r.n rs

  pub parses : (ts : Tys) → Reader (Values ts)
  parses nil rs = done (tt, rs)
  parses (cons t ts) rs = on_record (λ r s. parse_at t r s) rs >>= λ x. made (λ vs. (x.0, vs)) (parses ts x.1)

  -- a variant past the last is 16
  pub parse_choice : (vs : Variants) → ℕ → Reader (Choice vs)
  parse_choice (last ts) zero rs = parses ts rs
  parse_choice (last ts) (suc i) rs = refused not_one_value
  parse_choice (more ts vs) zero rs = made inl (parses ts rs)
  parse_choice (more ts vs) (suc i) rs = made inr (parse_choice vs i rs)

abbrev pub parse : (t : Ty) → Reader (Value t)
parse t = on_record (parse_at t)

-- the value of the type that a value file says; leftovers are 16
unfoldable pub value_of : (t : Ty) → List ℕ → Outcome (Value t)
value_of t file = do
  refuse value_length (eqb (length file) 0 || not (eqb (length file % 36) 0))
  x ← parse t (map value_record (records 36 file))
  all_read not_one_value x
