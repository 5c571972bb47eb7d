-- Day files (02, R-4): frames of one type end to end, each of the type's frame length, no header; and the search for one with a certain part.
-- Rows 1 to 7, then 18 and 19 in the place of 11 and 12, then 13. A frame that is not accepted, a path that leads nowhere in it and a file that is no value of the part's type are no refusals: such a frame does not match.
use Rattle.std.specs.Prelude.{◌≡◌, not, List, ℕ, ◌*◌, ◌/◌, ◌%◌, ◌<◌, eqb, length, take, drop}
use Rattle.std.proofs.Math.Option.{Option, none, some}
use Rattle.model.specs.Numbers.{no_bytes, day_length}
use Rattle.model.specs.Outcome.{Outcome, done, refused, ◌>>=◌, ◌>>◌, refuse}
use Rattle.model.specs.Frames.{Place, frame_bytes}
use Rattle.model.specs.Paths.{steps}
use Rattle.model.specs.Operations.{lowering, part_read}
use Rattle.model.specs.Conditions.{FrameAccepted}

-- frame i, from 0, of frames of `size` bytes end to end
abbrev pub frame_at : ℕ → List ℕ → ℕ → List ℕ
frame_at size day i = take size (drop (i * size) day)

-- how many there are
abbrev pub frames_in : ℕ → List ℕ → ℕ
frames_in size day = length day / size

-- the rows of a search, which gives a frame's length where none holds
unfoldable pub searchable : List ℕ → List ℕ → List ℕ → Outcome ℕ
searchable ty day path = do
  t ← lowering ty
  refuse no_bytes (eqb (frame_bytes t) 0)
  refuse day_length (not (eqb (length day % frame_bytes t) 0))
  q ← steps path
  done (frame_bytes t)

module _ (p : Place) (ty : List ℕ) where
  -- a frame matches if it is accepted and reading the part at the path gives exactly the value file
  abbrev pub Matches : List ℕ → List ℕ → List ℕ → Type 0
  Matches frame path val = FrameAccepted p ty frame × (part_read p ty frame path ≡ done val)

  -- a search was answered by the number n and, where it found a frame, by that frame's index. Of several frames that match the index is any one's: it is the free part of the promise
  pub record Searched (day path val : List ℕ) (n : ℕ) (index : Option ℕ) : Type 0 where
    -- refused by the first row that holds, and by no other number; then there is no index
    pub refuses : (m : ℕ) → searchable ty day path ≡ refused m → (n ≡ m) × (index ≡ none)
    pub accepts : (size : ℕ) → searchable ty day path ≡ done size → n ≡ 0
    -- an index is one of a frame, and its frame matches
    pub finds : (size i : ℕ) → searchable ty day path ≡ done size → index ≡ some i → (i < frames_in size day) × Matches (frame_at size day i) path val
    -- there is none only if no frame matches
    pub none_matches : (size : ℕ) → searchable ty day path ≡ done size → index ≡ none → (i : ℕ) → i < frames_in size day → Matches (frame_at size day i) path val → ⊥

-- an index as two numbers: whether there is one, 1 or 0, and the index, 0 where there is none
abbrev pub told_index : Option ℕ → ℕ × ℕ
told_index none = (0, 0)
told_index (some i) = (1, i)
