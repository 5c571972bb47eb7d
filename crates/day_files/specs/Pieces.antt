-- A day file read piece by piece: a front of whole frames, and the piece behind it. What the two answers of a search say of both (`Laws/Pieces.antt`).
use Rattle.std.specs.Prelude.{◌≡◌, List, ℕ, zero, suc, ◌+◌, ◌*◌, length}
use Rattle.std.proofs.Math.Option.{Option, none, some}
use Rattle.model.specs.Outcome.{done}
use Rattle.model.specs.Types.{Ty}
use Rattle.model.specs.Frames.{frame_bytes}
use Rattle.model.specs.Operations.{lowering}

-- a front is k frames long; of a type that does not lower, which has no frames, nothing is said
pub record Frames (ty : List ℕ) (k : ℕ) (front : List ℕ) : Type 0 where
  pub as_long : (t : Ty) → lowering ty ≡ done t → length front ≡ k * frame_bytes t

-- the index that is found in the front, or else the one that is found in the piece, k frames further
abbrev pub first_of : ℕ → Option ℕ → Option ℕ → Option ℕ
first_of k (some i) other = some i
first_of k none (some j) = some (k + j)
first_of k none none = none

-- the index of both, where the piece was answered by the number m: there is none where it was refused
abbrev pub both : ℕ → ℕ → Option ℕ → Option ℕ → Option ℕ
both k zero index other = first_of k index other
both k (suc m) index other = none
