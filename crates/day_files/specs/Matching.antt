-- All frames of a day file that match, by their indexes, so that the promise of a search (`Searched`) can be computed: an answer is right if its index is one of these, or there is none where these are none.
use Rattle.std.specs.Prelude.{Bool, true, false, List, [], ◌∷◌, ◌++◌, ℕ, zero, suc}
use Rattle.model.specs.Outcome.{Outcome, done, refused, ◌>>=◌}
use Rattle.model.specs.Options.{pick}
use Rattle.model.specs.Frames.{Place}
use Rattle.model.specs.Operations.{part_read}
use Rattle.model.specs.DayFiles.{frame_at, frames_in, searchable}
use Rattle.model.proofs.Laws.Cases.{same_list}

-- is this the result?
unfoldable pub is_result : Outcome (List ℕ) → List ℕ → Bool
is_result (refused n) val = false
is_result (done file) val = same_list file val

module _ (p : Place) (ty day path val : List ℕ) where
  -- those of the first n frames
  unfoldable pub matching_among : ℕ → ℕ → List ℕ
  matching_among size zero = []
  matching_among size (suc n) = matching_among size n ++ pick (is_result (part_read p ty (frame_at size day n) path) val) (n ∷ []) []

  -- all of them, or the row that refuses
  unfoldable pub matching : Outcome (List ℕ)
  matching = do
    size ← searchable ty day path
    done (matching_among size (frames_in size day))
