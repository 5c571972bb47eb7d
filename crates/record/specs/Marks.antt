-- The record of a value, by what its type's record says (01, 'Value file'), and records as bytes.
use Rattle.std.specs.Prelude.{List, ℕ, ◌<◌, replicate}
use Rattle.model.specs.Options.{flat_map}
use Rattle.model.specs.ValueFiles.{Rec, rec, value_bytes}
use Rattle.types.specs.declared.Head.{Head}
use Rattle.types.specs.declared.Head.TheVariants.{Missing, Faulty, Never, Boolean, UInt, Either, Opt, Tuple, Array, Listed, Variants, Payload}

-- n bytes that are zero
abbrev pub zeros : ℕ → List ℕ
zeros n = replicate n 0

-- the 36 bytes of a record
unfoldable pub bytes : Rec → List ℕ
bytes r = value_bytes r

-- the bytes of records
unfoldable pub written : List Rec → List ℕ
written rs = flat_map value_bytes rs

-- the record of a value whose own choice or number is i, its integer 0; nothing is a value where no type stands, of a Never or of a Variant
abbrev pub mark_of : Head → ℕ → Rec
mark_of Missing i = rec 0 0 0 0
mark_of Faulty i = rec 0 0 0 0
mark_of Never i = rec 0 0 0 0
mark_of Boolean i = rec 1 i 0 0
mark_of (UInt w) i = rec 2 0 w.value 0
mark_of Either i = rec 3 i 0 0
mark_of Opt i = rec 4 i 0 0
mark_of (Tuple n) i = rec 5 0 n 0
mark_of (Array n) i = rec 6 0 n 0
mark_of (Listed b) i = rec 7 0 i 0
mark_of (Variants n) i = rec 8 0 i 0
mark_of (Payload n) i = rec 0 0 0 0

-- the choice is a byte, the number two bytes
abbrev pub Marks : Head → ℕ → Type 0
Marks Missing i = Unit
Marks Faulty i = Unit
Marks Never i = Unit
Marks Boolean i = i < 256
Marks (UInt w) i = Unit
Marks Either i = i < 256
Marks Opt i = i < 256
Marks (Tuple n) i = Unit
Marks (Array n) i = Unit
Marks (Listed b) i = i < 65536
Marks (Variants n) i = i < 65536
Marks (Payload n) i = Unit
