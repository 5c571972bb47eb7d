-- The shape that stands at a record of a value file, as one of the type at a record of a type file, and the record after it.
-- What is read is what the model's `parse` reads from that record on.
use Rattle.std.specs.Prelude.{Bool, true, false, List, [], ◌∷◌, map, ℕ, zero, suc, ◌+◌, ◌-◌, ◌*◌, ◌/◌, ◌<◌, ◌≤◌, length, get_or, take, drop}
use Rattle.std.proofs.Math.Option.{Option, none, some}
use Rattle.num.specs.declared.NonZeroPow2Usize.{NonZeroPow2Usize}
use Rattle.num.specs.Powers.{bound_two, bound_log2}
use Rattle.model.specs.Outcome.{Outcome, done, refused}
use Rattle.model.specs.Options.{map_o, bind_o}
use Rattle.model.specs.Bytes.{records}
use Rattle.model.specs.Balanced.{btree, fold}
use Rattle.model.specs.Structural.{SValue, unit, pair, tuple_of, enum_injection, partition}
use Rattle.model.specs.Values.{inject, injects, bit}
use Rattle.model.specs.ValueFiles.{Rec, value_record, parse, parses, encode, encodes}
use Rattle.types.specs.declared.Head.{Head}
use Rattle.types.specs.declared.Head.TheVariants.{Missing, Faulty, Never, Boolean, UInt, Either, Opt, Tuple, Array, Listed, Variants}
use Rattle.types.specs.declared.Head.TheVariants as head
use Rattle.types.specs.Record.{rec_at}
use Rattle.types.specs.Trees.{tree, treev}
use Rattle.structural.specs.Forms.{is_variant, ending, Stands}
use Rattle.value.specs.Record.{number_at}
unfoldable pub use Rattle.table.specs.Hops.{hops}
pub use Rattle.table.specs.Hops.{Hops}
use Rattle.bits.specs.Bits.{bits_at}
use Rattle.types.specs.declared.forms.Parts.{Parts}
use Rattle.types.specs.declared.forms.Parts.TheVariants.{Copies, Types}
use Rattle.told.specs.declared.Form.{Form}
use Rattle.told.specs.declared.Form.TheVariants as form

-- ONE RECORD

-- the choice of record v
unfoldable pub choice_at : List ℕ → ℕ → ℕ
choice_at val v = get_or val (v * 36 + 1) 0

-- the form of the value at record v, by what the type's record says; where nothing stands, no parts
abbrev pub form_of : Head → List ℕ → ℕ → Form
form_of Missing val v = form.Product Types 0
form_of Faulty val v = form.Product Types 0
form_of Never val v = form.Product Types 0
form_of Boolean val v = form.Bits 15 1
form_of (UInt w) val v = form.Bits (288 - w.value) w.value
form_of Either val v = form.Sum 2 (choice_at val v)
form_of Opt val v = form.List bound_two (choice_at val v)
form_of (Tuple n) val v = form.Product Types n
form_of (Array n) val v = form.Product Copies n
form_of (Listed b) val v = form.List b (number_at val v)
form_of (Variants n) val v = form.Sum n (number_at val v)
form_of (head.Payload n) val v = form.Payload n

-- what is read of the record is there, and a width is one
abbrev pub Read : Head → List ℕ → ℕ → Type 0
Read Missing val v = Unit
Read Faulty val v = Unit
Read Never val v = Unit
Read Boolean val v = Unit
Read (UInt w) val v = w.value ≤ 256
Read Either val v = v < length val / 36
Read Opt val v = v < length val / 36
Read (Tuple n) val v = Unit
Read (Array n) val v = Unit
Read (Listed b) val v = v < length val / 36
Read (Variants n) val v = v < length val / 36
Read (head.Payload n) val v = Unit

-- the n bits from bit j of record v on
unfoldable pub record_bits : List ℕ → ℕ → ℕ → ℕ → List Bool
record_bits val v j n = bits_at (take 36 (drop (v * 36) val)) j n

-- WHAT IS TOLD

-- a shape, and the record after the value that it is of
abbrev pub Told : Type 0
Told = Option (SValue × ℕ)

-- the records from record v on
abbrev pub rows_from : List ℕ → ℕ → List Rec
rows_from val v = drop v (map value_record (records 36 val))

-- what was read, if it was
abbrev pub read : {A : Type 0} → Outcome A → Option A
read (done x) = some x
read (refused n) = none

-- what was read from record v on: its shape by f, its records by g
abbrev pub shown : {A : Type 0} → (A → SValue) → (A → List Rec) → ℕ → Outcome (A × List Rec) → Told
shown f g v o = map_o (λ x. (f x.0, v + length (g x.0))) (read o)

-- as one of the type at record p, with d levels from there on; or, where a Variant stands, of its payload type
unfoldable pub told : ℕ → Bool → List ℕ → List ℕ → ℕ → ℕ → Told
told d false s val p v = shown (inject (tree d s p)) (encode (tree d s p)) v (parse (tree d s p) (rows_from val v))
told d true s val p v = shown (λ xs. tuple_of (injects (treev d s p) xs)) (encodes (treev d s p)) v (parses (treev d s p) (rows_from val v))

-- as one of what stands at record p, be it a type or a Variant
unfoldable pub standing : ℕ → List ℕ → List ℕ → ℕ → ℕ → Told
standing d s val p v = told d (is_variant (rec_at s p)) s val p v

-- PARTS

-- the type's record of the part after the one at p
unfoldable pub after : Parts → ℕ → List ℕ → ℕ → ℕ
after Copies d s p = p
after Types d s p = ending d s p

-- and after n parts
unfoldable pub skip : Parts → ℕ → List ℕ → ℕ → ℕ → ℕ
skip k d s zero p = p
skip k d s (suc n) p = skip k d s n (after k d s p)

-- n parts, one after the other: the shapes, and the record after them
unfoldable pub row : Parts → ℕ → List ℕ → List ℕ → ℕ → ℕ → ℕ → Option (List SValue × ℕ)
row k d s val zero p v = some ([], v)
row k d s val (suc n) p v = bind_o (standing d s val p v) (λ x. map_o (λ y. (x.0 ∷ y.0, y.1)) (row k d s val n (after k d s p) x.1))

-- what is known of n parts
pub record GivenParts (k : Parts) (d : ℕ) (s E : List ℕ) (n p : ℕ) : Type 0 where
  pub each : (i : ℕ) → i < n → Stands d s E (skip k d s i p)

-- THE FORMS, told of them

-- n bits of record v
unfoldable pub bits_told : List ℕ → ℕ → ℕ → ℕ → SValue
bits_told val v j n = fold pair unit (btree n) (map bit (record_bits val v j n))

-- the balanced product of n parts
unfoldable pub balanced : Parts → ℕ → List ℕ → List ℕ → ℕ → ℕ → ℕ → Told
balanced k d s val n p v = map_o (λ x. (fold pair unit (btree n) x.0, x.1)) (row k d s val n p v)

-- choice i of n, which stands at p
unfoldable pub chosen : ℕ → List ℕ → List ℕ → ℕ → ℕ → ℕ → ℕ → Told
chosen d s val n i p v = map_o (λ x. (enum_injection (btree n) i x.0, x.1)) (standing d s val p v)

-- a list of m elements
unfoldable pub listed : ℕ → List ℕ → List ℕ → NonZeroPow2Usize → ℕ → ℕ → ℕ → Told
listed d s val b m p v = map_o (λ x. (partition (bound_log2 b.value - 1) x.0, x.1)) (row Copies d s val m p v)

-- the record that the table says to be after the part at p
abbrev pub after_at : Parts → List ℕ → ℕ → ℕ
after_at Copies E p = p
after_at Types E p = get_or E p 0
