-- What a call of each entry tells: of the files that it is lent and what its buffer held before, the number and the length that answer it, and what the buffer held afterwards.
-- The contracts of the entries, of the C functions and of what stands below them say this and nothing else (of the edit: and demand 3, `Edits`). In Rattle the number and the length are
-- the reply's (`number_of`, `length_of`), in C the result and what stands behind the last pointers. Three entries are lent no buffer: a call of theirs tells numbers alone.
use Rattle.std.specs.Prelude.{◌≡◌, List, ◌++◌, ℕ, ◌≤◌, ◌<◌, length, take, drop}
use Rattle.std.proofs.Math.Option.{Option}
use Rattle.model.specs.Numbers.{no_room}
use Rattle.model.specs.Frames.{after}
use Rattle.model.specs.Operations.{lowered, room, shaped, shape_room, reconstructed, cleaned_shape, framed, unframed, part_read, edited, delivered, told_room, told_count}
use Rattle.model.specs.DayFiles.{Searched, told_index}

-- a call of `lower`
abbrev pub Lower : (ty out : List ℕ) → ℕ → ℕ → List ℕ → Type 0
Lower ty out n len left = (n, len, left) ≡ delivered (lowered ty) out

-- a call of `room`, which lends no buffer: the number, and what is told of the type
abbrev pub Room : (ty : List ℕ) → ℕ → ℕ → ℕ → ℕ → Type 0
Room ty n low bits most = (n, low, bits, most) ≡ told_room (room ty)

-- a call of `write_shape`
abbrev pub WriteShape : (ty value out : List ℕ) → ℕ → ℕ → List ℕ → Type 0
WriteShape ty value out n len left = (n, len, left) ≡ delivered (shaped ty value) out

-- a call of `shape_records`, which lends no buffer either
abbrev pub ShapeRecords : (ty value : List ℕ) → ℕ → ℕ → Type 0
ShapeRecords ty value n records = (n, records) ≡ told_count (shape_room ty value)

-- a call of `reconstruct`
abbrev pub Reconstruct : (ty shape out : List ℕ) → ℕ → ℕ → List ℕ → Type 0
Reconstruct ty shape out n len left = (n, len, left) ≡ delivered (reconstructed ty shape) out

-- a call of `clean_shape`
abbrev pub CleanShape : (ty shape out : List ℕ) → ℕ → ℕ → List ℕ → Type 0
CleanShape ty shape out n len left = (n, len, left) ≡ delivered (cleaned_shape ty shape) out

-- a call of `write_frame`
abbrev pub WriteFrame : (ty value out : List ℕ) → ℕ → ℕ → List ℕ → Type 0
WriteFrame ty value out n len left = (n, len, left) ≡ delivered (framed after ty value) out

-- a call of `read_frame`
abbrev pub ReadFrame : (ty frame out : List ℕ) → ℕ → ℕ → List ℕ → Type 0
ReadFrame ty frame out n len left = (n, len, left) ≡ delivered (unframed after ty frame) out

-- a call of `part_read`
abbrev pub PartRead : (ty frame path out : List ℕ) → ℕ → ℕ → List ℕ → Type 0
PartRead ty frame path out n len left = (n, len, left) ≡ delivered (part_read after ty frame path) out

-- a call of `part_edit`; its buffer is the frame
abbrev pub PartEdit : (ty frame path value : List ℕ) → ℕ → ℕ → List ℕ → Type 0
PartEdit ty frame path value n len left = (n, len, left) ≡ delivered (edited after ty frame path value) frame

-- a call of `search`, which lends no buffer: the number, and the index of a frame that matches, where there is one
abbrev pub Search : (ty day path value : List ℕ) → ℕ → Option ℕ → Type 0
Search ty day path value n index = Searched after ty day path value n index

-- the same with the index told as two numbers, as in C
abbrev pub SearchTold : (ty day path value : List ℕ) → ℕ → ℕ → ℕ → Type 0
SearchTold ty day path value n found i = (index : Option ℕ) × Search ty day path value n index × ((found, i) ≡ told_index index)

-- WHAT IS SAID OF CALLS

-- a call gives a file: lent a buffer that held `before`, it was answered by the number n and the length len, and the buffer held `left` afterwards
pub record Gives (file before : List ℕ) (n len : ℕ) (left : List ℕ) : Type 0 where
  -- with room for the file it was accepted, and the file stands over the buffer's front
  pub fits : length file ≤ length before → (n ≡ 0) × (len ≡ length file) × (left ≡ file ++ drop (length file) before)
  -- without, it was refused for that, and the buffer is as it was
  pub too_long : length before < length file → (n ≡ no_room) × (len ≡ 0) × (left ≡ before)

-- the calls of an entry, for one type file: of the file that it reads, what its buffer held before, the number, the length, and what the buffer held afterwards
abbrev pub Calls : Type 1
Calls = List ℕ → List ℕ → ℕ → ℕ → List ℕ → Type 0

-- every call on `file`, whatever its buffer, gives `made`
abbrev pub Makes : Calls → (file made : List ℕ) → Type 0
Makes Call file made = (before : List ℕ) (n len : ℕ) (left : List ℕ) → Call file before n len left → Gives made before n len left

-- a call of the one entry on `file` was accepted: of the bytes that it left, as many as its length says, every call of the other makes `file` again
abbrev pub Returns : (One Other : Calls) → (file : List ℕ) → Type 0
Returns One Other file = (before : List ℕ) (len : ℕ) (left : List ℕ) → One file before 0 len left → Makes Other (take len left) file
