-- R-4 of 02, said of calls: what a call of `search` tells of every call of `part_read` with that type and path, on the frames of the day file. A corollary of what is promised of each call (`Calls`). Every list here is what a slice of bytes held.
use Rattle.std.specs.Prelude.{◌≡◌, refl, List, ℕ, ◌<◌, take}
use Rattle.std.proofs.Common.{sym, ◌∙◌, arith}
use Rattle.std.proofs.Math.Option.{Option, none, some}
use Rattle.model.specs.Outcome.{Outcome, done, refused}
use Rattle.model.specs.Bytes.{Bytes}
use Rattle.model.specs.Frames.{after}
use Rattle.model.specs.Operations.{part_read}
use Rattle.model.specs.DayFiles.{frame_at, frames_in, searchable}
use Rattle.model.specs.Calls.{PartRead, Search, Makes}
use Rattle.model.proofs.Laws.Delivered.{makes, accepted}
use Rattle.model.proofs.Laws.Numbered.{never_zero, searchable_row, part_read_row}
use Rattle.day_files.specs.Laws.Days.{frame_at_bytes}
use Rattle.day_files.specs.Laws.Matching.{read_matches}

module _ (ty day path val : List ℕ) (tyb : Bytes ty) (db : Bytes day) (n : ℕ) (index : Option ℕ) (h : Search ty day path val n index) where
  -- a call that was not refused: no row holds, and the frames have this length
  pub search_accepted : n ≡ 0 → (size : ℕ) × (searchable ty day path ≡ done size)
  search_accepted z = go (searchable ty day path) refl
    where
      go : (o : Outcome ℕ) → searchable ty day path ≡ o → (size : ℕ) × (searchable ty day path ≡ done size)
      go (done size) e = (size, e)
      go (refused m) e = absurd (let k = (h.refuses m e).0 in omega (arith, never_zero (searchable_row ty day path) refl m e))

  module _ (size : ℕ) (e : searchable ty day path ≡ done size) where
    -- of the frame whose index it told, every call of `part_read` gives the value file
    pub found_reads : (i : ℕ) → index ≡ some i → Makes (λ frame. PartRead ty frame path) (frame_at size day i) val
    found_reads i k = makes (λ frame. part_read after ty frame path) (frame_at size day i) val (h.finds size i e k).1.1

    -- where it told none, no accepted call of `part_read` on any of the frames gave it
    pub nowhere_reads : index ≡ none → (i : ℕ) → i < frames_in size day → (before : List ℕ) (len : ℕ) (left : List ℕ) → PartRead ty (frame_at size day i) path before 0 len left → take len left ≡ val → ⊥
    nowhere_reads k i l before len left c same =
        let frame = frame_at size day i in
        let r = accepted (part_read after ty frame path) before (never_zero (part_read_row after ty frame path) refl) len left c in
        h.none_matches size e k i l (read_matches after ty tyb frame path val (frame_at_bytes size day i db) (rw same at r))
