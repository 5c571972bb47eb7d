-- The operations (01, 'What comes from which file' and 'Numbers by the place of the check'), from bytes to bytes or a number.
-- Each checks its rows in the table's order. Paddings stand where the parameter `p` says (01: after).
use Rattle.std.specs.Prelude.{true, false, List, ◌++◌, ℕ, ltb, length, drop}
use Rattle.model.specs.Numbers.{never_stands, too_large, not_reconstructed, no_unit, no_such_part, no_room}
use Rattle.model.specs.Outcome.{Outcome, done, refused, ◌>>=◌, ◌>>◌, refuse, or_refuse}
use Rattle.model.specs.Structural.{SValue, type_records}
use Rattle.model.specs.Types.{Ty}
use Rattle.model.specs.TypeFiles.{type_of}
use Rattle.model.specs.Lowering.{lower, has_never, over_large}
use Rattle.model.specs.Values.{Value, inject}
use Rattle.model.specs.Reconstruct.{reconstruct}
use Rattle.model.specs.Spots.{lacks_unit, cleaned}
use Rattle.model.specs.ShapeFiles.{shape_of, shape_file}
use Rattle.model.specs.ValueFiles.{value_of, value_file}
use Rattle.model.specs.Frames.{Place, width, frame_file, unframe}
use Rattle.model.specs.Room.{TypeRoom, longest_shape}
use Rattle.model.specs.Paths.{steps, found, part_records, replaced}

-- a type that lowers: no type or lowering row holds
unfoldable pub lowering : List ℕ → Outcome Ty
lowering ty = do
  t ← type_of ty
  refuse never_stands (has_never t)
  refuse too_large (over_large t)
  done t

-- the lowered type
unfoldable pub lowered : List ℕ → Outcome (List ℕ)
lowered ty = do
  t ← lowering ty
  done (type_records (lower t))

-- the room that a type takes (02, R-1)
unfoldable pub room : List ℕ → Outcome TypeRoom
room ty = do
  t ← lowering ty
  done (record { lowered = length (type_records (lower t)); bits = width (lower t); shape = longest_shape (lower t) })

-- the shape of a value
unfoldable pub shaped : List ℕ → List ℕ → Outcome (List ℕ)
shaped ty val = do
  t ← lowering ty
  v ← value_of t val
  done (shape_file (inject t v))

-- the records of a value's shape (02, R-1), one byte each
unfoldable pub shape_room : List ℕ → List ℕ → Outcome ℕ
shape_room ty val = do
  shape ← shaped ty val
  done (length shape)

-- what the Rust reads of a shape: the type, the shape's tree, the value
pub record Reading : Type 0 where
  pub type : Ty
  pub tree : SValue
  pub value : Value type

-- the earlier reading (02, R-5), the Rust's
unfoldable pub earlier_reading : List ℕ → List ℕ → Outcome Reading
earlier_reading ty shape = do
  t ← type_of ty
  s ← shape_of shape
  v ← or_refuse not_reconstructed (reconstruct t s)
  done (record { type = t; tree = s; value = v })

-- the value file that it gives
unfoldable pub earlier_reconstructed : List ℕ → List ℕ → Outcome (List ℕ)
earlier_reconstructed ty shape = do
  r ← earlier_reading ty shape
  done (value_file r.type r.value)

-- the value file that reading a shape gives: today's reading refuses what lacks a unit
unfoldable pub reconstructed : List ℕ → List ℕ → Outcome (List ℕ)
reconstructed ty shape = do
  r ← earlier_reading ty shape
  refuse no_unit (lacks_unit r.type r.tree)
  done (value_file r.type r.value)

-- the shape with a unit at each of its spots (02, R-6), for all that the earlier reading reads
unfoldable pub cleaned_shape : List ℕ → List ℕ → Outcome (List ℕ)
cleaned_shape ty shape = do
  r ← earlier_reading ty shape
  done (shape_file (cleaned r.type r.tree))

module _ (p : Place) where
  -- the frame of a value
  unfoldable pub framed : List ℕ → List ℕ → Outcome (List ℕ)
  framed ty val = do
    t ← lowering ty
    v ← value_of t val
    done (frame_file p t v)

  -- the value file that reading a frame gives
  unfoldable pub unframed : List ℕ → List ℕ → Outcome (List ℕ)
  unframed ty frame = do
    t ← lowering ty
    v ← unframe p t frame
    done (value_file t v)

  -- the value file of a part
  unfoldable pub part_read : List ℕ → List ℕ → List ℕ → Outcome (List ℕ)
  part_read ty frame path = do
    t ← lowering ty
    old ← unframed ty frame
    q ← steps path
    part ← or_refuse no_such_part (found t q old)
    done (part_records part old)

  -- the frame of the old value with one part replaced
  unfoldable pub edited : List ℕ → List ℕ → List ℕ → List ℕ → Outcome (List ℕ)
  edited ty frame path val = do
    t ← lowering ty
    old ← unframed ty frame
    q ← steps path
    part ← or_refuse no_such_part (found t q old)
    w ← value_of part.type val
    framed ty (replaced part old val)

-- REPLIES AND BUFFERS

-- the number, the length and the buffer afterwards. A refusal yields its number and length 0 and changes no buffer;
-- an accepted result leaves the bytes past its end alone; 17 if it needs more bytes than the buffer has.
unfoldable pub delivered : Outcome (List ℕ) → List ℕ → ℕ × ℕ × List ℕ
delivered (refused n) buffer = (n, 0, buffer)
delivered (done result) buffer =
    elim (ltb (length buffer) (length result)) [
      | true ↦ (no_room, 0, buffer)
      | false ↦ (0, length result, result ++ drop (length result) buffer)
    ]

-- where no buffer is lent: the number, and 0 for each other number of a refusal
unfoldable pub told_room : Outcome TypeRoom → ℕ × ℕ × ℕ × ℕ
told_room (refused n) = (n, 0, 0, 0)
told_room (done r) = (0, r.lowered, r.bits, r.shape)

unfoldable pub told_count : Outcome ℕ → ℕ × ℕ
told_count (refused n) = (n, 0)
told_count (done k) = (0, k)
