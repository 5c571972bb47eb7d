-- Frames (01, 'Frame'; rows 11 and 12). A sum is its tag (0 left), the payload, then zeros up to the width.
-- Where those zeros stand, after the payload or before it, is a parameter: 01 says after, and R-8 of 02 changes it.
use Rattle.std.specs.Prelude.{Bool, true, false, not, List, [], ◌∷◌, ◌++◌, ℕ, suc, ◌+◌, ◌-◌, max, eqb, length, take, drop}
use Rattle.model.specs.Numbers.{frame_length, stray_bit}
use Rattle.model.specs.Outcome.{Outcome, ◌>>=◌, ◌>>◌, refuse, or_refuse}
use Rattle.model.specs.Options.{any}
use Rattle.model.specs.Bytes.{bits_of, bytes_for, fill, zeros}
use Rattle.model.specs.Structural.{SType, 𝟙, ◌⊕◌, ◌⊗◌, SValue, unit, left, right, pair}
use Rattle.model.specs.Types.{Ty}
use Rattle.model.specs.Lowering.{lower}
use Rattle.model.specs.Values.{Value, inject}
use Rattle.model.specs.Reconstruct.{reconstruct}

-- the bits that a type's frame takes: none for a unit, a tag and the wider side for a sum, both sides for a product
abbrev pub width : SType → ℕ
width 𝟙 = 0
width (a ⊕ b) = suc (max (width a) (width b))
width (a ⊗ b) = width a + width b

-- the bytes of a frame of the type
abbrev pub frame_bytes : Ty → ℕ
frame_bytes t = bytes_for (width (lower t))

pub data Place : Type 0 where
  after before : Place

-- a payload with n zeros beside it
abbrev pub padded : Place → ℕ → List Bool → List Bool
padded after n xs = xs ++ zeros n
padded before n xs = zeros n ++ xs

-- of the bits behind a tag: the payload's w, and the n beside it
abbrev pub payload_bits : Place → ℕ → ℕ → List Bool → List Bool
payload_bits after w n xs = take w xs
payload_bits before w n xs = drop n xs

abbrev pub beside : Place → ℕ → ℕ → List Bool → List Bool
beside after w n xs = drop w xs
beside before w n xs = take n xs

module _ (p : Place) where
  -- WRITING

  unfoldable pub bits : SType → SValue → List Bool
  bits 𝟙 s = []
  bits (a ⊕ b) unit = []
  bits (a ⊕ b) (left s) = false ∷ padded p (width b - width a) (bits a s)
  bits (a ⊕ b) (right s) = true ∷ padded p (width a - width b) (bits b s)
  bits (a ⊕ b) (pair s t) = []
  bits (a ⊗ b) unit = []
  bits (a ⊗ b) (left s) = []
  bits (a ⊗ b) (right s) = []
  bits (a ⊗ b) (pair s t) = bits a s ++ bits b t

  -- the bits of a value's frame
  unfoldable pub frame : (t : Ty) → Value t → List Bool
  frame t v = bits (lower t) (inject t v)

  -- the frame file that says a value
  unfoldable pub frame_file : (t : Ty) → Value t → List ℕ
  frame_file t v = fill (frame t v)

  -- READING the width's bits

  -- the shape that the tags say, whatever the padding holds
  unfoldable pub from_bits : SType → List Bool → SValue
  from_bits 𝟙 xs = unit
  from_bits (a ⊕ b) [] = unit
  from_bits (a ⊕ b) (false ∷ xs) = left (from_bits a (payload_bits p (width a) (width b - width a) xs))
  from_bits (a ⊕ b) (true ∷ xs) = right (from_bits b (payload_bits p (width b) (width a - width b) xs))
  from_bits (a ⊗ b) xs = pair (from_bits a (take (width a) xs)) (from_bits b (drop (width a) xs))

  -- the bits that stand where padding stands beside the sides taken
  unfoldable pub padding : SType → List Bool → List Bool
  padding 𝟙 xs = []
  padding (a ⊕ b) [] = []
  padding (a ⊕ b) (false ∷ xs) = beside p (width a) (width b - width a) xs ++ padding a (payload_bits p (width a) (width b - width a) xs)
  padding (a ⊕ b) (true ∷ xs) = beside p (width b) (width a - width b) xs ++ padding b (payload_bits p (width b) (width a - width b) xs)
  padding (a ⊗ b) xs = padding a (take (width a) xs) ++ padding b (drop (width a) xs)

  -- READING a file of the type

  -- the padding and tail bits of a file
  abbrev pub stray_bits : Ty → List ℕ → List Bool
  stray_bits t file = padding (lower t) (take (width (lower t)) (bits_of file)) ++ drop (width (lower t)) (bits_of file)

  -- the value of a type that lowers whose frame it is. Where no padding or tail bit is 1 there is one, so the last line refuses nothing: `Laws.Demands`, accepted-frame-reads
  unfoldable pub unframe : (t : Ty) → List ℕ → Outcome (Value t)
  unframe t file = do
    refuse frame_length (not (eqb (length file) (frame_bytes t)))
    refuse stray_bit (any (stray_bits t file))
    or_refuse stray_bit (reconstruct t (from_bits (lower t) (take (width (lower t)) (bits_of file))))
