-- What the writers of a shape ask and answer: there is a shape to write and room for it, and it was written over the front of the buffer.
use Rattle.std.specs.Prelude.{◌≡◌, Bool, true, false, List, ℕ, ◌+◌, ◌/◌, ◌≤◌, ◌<◌, length}
use Rattle.std.proofs.Math.Option.{some}
use Rattle.model.specs.Structural.{SValue, shape_records}
use Rattle.structural.specs.Writing.{Wrote}
use Rattle.told.specs.Forms.{Told}

-- the tag of a bit
abbrev pub tag_of : Bool → ℕ
tag_of false = 1
tag_of true = 2

-- n bits from bit j of record v on are there
pub record BitsThere (val : List ℕ) (v j n : ℕ) : Type 0 where
  pub some_bits : 1 ≤ n
  pub few : n ≤ 256
  pub inside : j + n ≤ 288
  pub there : v < length val / 36

-- a buffer has room for the shape
abbrev pub Room : SValue → List ℕ → Type 0
Room x out = length (shape_records x) ≤ length out

-- a shape is told, and the buffer has room for it
pub record Ready (t : Told) (out : List ℕ) : Type 0 where
  pub shape : SValue
  pub end : ℕ
  pub told : t ≡ some (shape, end)
  pub room : Room shape out

-- the shape that is told was written over the front of a buffer; `next` is the place after what tells it (a value's records; for `shape_clean` a shape's), and `len` its length
pub record Placed (t : Told) (before after : List ℕ) (next len : ℕ) : Type 0 where
  pub shape : SValue
  pub told : t ≡ some (shape, next)
  pub wrote : Wrote (shape_records shape) before after len

-- the same, where that place is not answered
pub record Shaped (t : Told) (before after : List ℕ) (len : ℕ) : Type 0 where
  pub next : ℕ
  pub placed : Placed t before after next len
