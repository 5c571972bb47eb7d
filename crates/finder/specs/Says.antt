-- What the program `find` prints: the line of what a search answers, by its number and its index. And what is known of an answer while a day file is read piece by piece.
use Rattle.std.specs.Prelude.{◌≡◌, List, ◌++◌, ℕ, zero, suc, ◌≤◌, ◌<◌, length, Option as Known, Option as Optional, Result}
use Rattle.std.specs.Io.KnownBytes.{Consumes, IsAtEnd}
use Rattle.std.proofs.Math.Option.{Option, none, some}
use Rattle.model.specs.Outcome.{done}
use Rattle.model.specs.Types.{Ty}
use Rattle.model.specs.Frames.{frame_bytes}
use Rattle.model.specs.Operations.{lowering}
use Rattle.model.specs.Calls.{Search}
use Rattle.day_files.specs.Pieces.{Frames}
use Rattle.reply.specs.Numbers.{number_of, found_at}
use Rattle.text.specs.Lines.{found_line, none_line, refusal_line}
use Rattle.reply.specs.declared.Refusal.{Refusal}

-- the line of the frame that was found, of none, or of the refusal
abbrev pub said : ℕ → Option ℕ → List ℕ
said zero (some i) = found_line i
said zero none = none_line
said (suc n) index = refusal_line (suc n)

-- a text is the line of an answer that keeps the promise of a search. Of several frames that match the line may tell any
pub record Tells (ty day path val text : List ℕ) : Type 0 where
  pub number : ℕ
  pub index : Option ℕ
  pub keeps : Search ty day path val number index
  pub line : text ≡ said number index

-- whatever the front of so many frames: if the one answer keeps the promise for the front, the other does for the front and the piece
pub record GoesOn (ty piece path val : List ℕ) (before : ℕ) (so_far further : Result (Optional ℕ) Refusal) : Type 0 where
  pub goes_on : (front : List ℕ) → Frames ty before front → Search ty front path val (number_of so_far) (found_at so_far) → Search ty (front ++ piece) path val (number_of further) (found_at further)

-- the bytes of the type's frame, if it lowers; a frame has at most 4,096
pub record Sized (ty : List ℕ) (size : ℕ) : Type 0 where
  pub size_is : (t : Ty) → lowering ty ≡ done t → size ≡ frame_bytes t
  pub most : size ≤ 4096

-- Below, `had` and `left` are the bytes that a reader has before and after, where they are known.

-- an answer keeps the promise for some front of so many frames, and that front was read
pub record Kept (had left : Known (List ℕ)) (ty path val : List ℕ) (before : ℕ) (found : Result (Optional ℕ) Refusal) : Type 0 where
  pub front : List ℕ
  pub frames : Frames ty before front
  pub keeps : Search ty front path val (number_of found) (found_at found)
  pub taken : Consumes had left front

-- some piece of so many bytes was read behind the front, and where it is shorter than the buffer nothing is left
pub record ReadOn (had left : Known (List ℕ)) (most : ℕ) (ty path val : List ℕ) (before : ℕ) (so_far : Result (Optional ℕ) Refusal) (len : ℕ) (further : Result (Optional ℕ) Refusal) : Type 0 where
  pub piece : List ℕ
  pub as_long : len ≡ length piece
  pub in_buffer : len ≤ most
  pub goes_on : GoesOn ty piece path val before so_far further
  pub taken : Consumes had left piece
  pub ended : len < most → IsAtEnd left

-- an answer keeps the promise for some day file, which was read to its end
pub record Answers (had left : Known (List ℕ)) (ty path val : List ℕ) (found : Result (Optional ℕ) Refusal) : Type 0 where
  pub day : List ℕ
  pub keeps : Search ty day path val (number_of found) (found_at found)
  pub taken : Consumes had left day
  pub ended : IsAtEnd left
