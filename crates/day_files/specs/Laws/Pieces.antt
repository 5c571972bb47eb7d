-- A day file read piece by piece: behind a front of k frames a row holds of both exactly if it holds of the piece, the frames are the front's and then the piece's, and so the two answers make the answer of both (`searched_both`).
-- The piece may be the last, of any length: 19 is told of both as of it.
use Rattle.std.specs.Prelude.{◌≡◌, List, [], ◌++◌, Bool, true, false, ℕ, zero, suc, ◌+◌, ◌-◌, ◌*◌, ◌/◌, ◌%◌, ◌≤◌, ◌<◌, ltb, take, drop}
use Rattle.std.proofs.Math.Path.{refl, ap}
use Rattle.std.proofs.Common.{sym, ◌∙◌, arith, mul-div_cancel, add-mul, div-le_self, length-append, length-drop}
use Rattle.std.proofs.Math.Option.{Option, none, some, none-ne-some}
use Rattle.std.proofs.Math.Nat.{mul-add-mod_self_right, mul-mod_left, mul-add-div_right}
use Rattle.std.proofs.Math.ListN.{length}
use Rattle.std.proofs.lemmas.List.{take-append-le, drop-append-le}
use Rattle.std.proofs.Math.Seq.{drop-append-add}
use borrow.Author.Tests.{ltb-true, ltb-false, ne_eqb}
use Rattle.model.specs.Outcome.{Outcome, done, refused}
use Rattle.model.specs.Types.{Ty}
use Rattle.model.specs.Frames.{Place, frame_bytes}
use Rattle.model.specs.Operations.{lowering}
use Rattle.model.specs.DayFiles.{frame_at, frames_in, searchable, Matches, Searched}
use Rattle.model.proofs.Laws.Numbered.{never_zero, searchable_row}
use Rattle.day_files.specs.Pieces.{Frames, first_of, both}
use Rattle.day_files.specs.Laws.Days.{Day, searchable_day, frame_inside, searched_refused, searched_found, searched_none}

-- where the piece was refused there is no index
pub both_refused : (k m : ℕ) (index other : Option ℕ) → 1 ≤ m → both k m index other ≡ none
both_refused k zero index other h = absurd (omega arith)
both_refused k (suc m) index other h = refl

-- no frame yet
pub no_frames : (ty : List ℕ) → Frames ty 0 []
no_frames ty = record { as_long = λ t e. omega arith }

module _ (ty path : List ℕ) (k : ℕ) (front : List ℕ) (f : Frames ty k front) where
  -- the same rows hold of both as of the piece
  rows_behind : (piece : List ℕ) → searchable ty (front ++ piece) path ≡ searchable ty piece path
  unfolding searchable
  rows_behind piece = go (lowering ty) refl
    where
      left : (t : Ty) → lowering ty ≡ done t → length (front ++ piece) % frame_bytes t ≡ length piece % frame_bytes t
      left t e = ap (λ n. n % frame_bytes t) (length-append front piece ∙ ap (λ n. n + length piece) (f.as_long t e)) ∙ mul-add-mod_self_right k (frame_bytes t) (length piece)

      go : (o : Outcome Ty) → lowering ty ≡ o → searchable ty (front ++ piece) path ≡ searchable ty piece path
      go (refused n) e = rw e refl
      go (done t) e = rw (e, left t e) refl

  -- where none holds of the piece, none holds of the front
  rows_front : (piece : List ℕ) (size : ℕ) → searchable ty piece path ≡ done size → searchable ty front path ≡ done size
  unfolding searchable
  rows_front piece size h =
      let d = searchable_day ty piece path size h in
      let t = d.type in
      let b : 1 ≤ frame_bytes t = rw (← d.size_is) d.some_bytes in
      let z : length front % frame_bytes t ≡ 0 = ap (λ n. n % frame_bytes t) (f.as_long t d.lowers) ∙ mul-mod_left k (frame_bytes t) in
      rw (d.lowers, ne_eqb (frame_bytes t) 0 (λ e. omega arith), z, d.even) (ap done (sym d.size_is))

-- THE FRAMES OF BOTH

module _ (size k : ℕ) (front piece : List ℕ) (pos : 1 ≤ size) (l : length front ≡ k * size) where
  frames_front : frames_in size front ≡ k
  frames_front = ap (λ n. n / size) l ∙ mul-div_cancel k pos

  frames_both : frames_in size (front ++ piece) ≡ k + frames_in size piece
  frames_both = ap (λ n. n / size) (length-append front piece ∙ ap (λ n. n + length piece) l) ∙ mul-add-div_right pos k (length piece)

  in_front : (i : ℕ) → i < k → frame_at size (front ++ piece) i ≡ frame_at size front i
  in_front i h =
      let e : i * size + size ≤ length front = frame_inside size front i (rw frames_front h) in
      ap (take size) (drop-append-le (i * size) front piece (omega arith)) ∙ take-append-le size (drop (i * size) front) piece (omega (arith, length-drop (i * size) front))

  in_piece : (j : ℕ) → frame_at size (front ++ piece) (k + j) ≡ frame_at size piece j
  in_piece j = ap (take size) (ap (λ n. drop n (front ++ piece)) (add-mul k j size ∙ ap (λ n. n + j * size) (sym l)) ∙ drop-append-add front piece (j * size))

-- THE ANSWER OF BOTH

module _ (p : Place) (ty path val : List ℕ) where
  -- an index is one of a byte of the day file
  pub found_inside : {day : List ℕ} {n i : ℕ} → Searched p ty day path val n (some i) → i < length day
  found_inside {day} {n} {i} s = go (searchable ty day path) refl
    where
      go : (o : Outcome ℕ) → searchable ty day path ≡ o → i < length day
      go (refused m) e = absurd (none-ne-some i (sym (s.refuses m e).1))
      go (done size) e = let l = (s.finds size i e refl).0 in omega (arith, div-le_self (length day) size)

  module _ (k : ℕ) (front piece : List ℕ) (f : Frames ty k front) where
    accepted_both : (size : ℕ) → searchable ty piece path ≡ done size → {n m : ℕ} (index other : Option ℕ) → Searched p ty front path val n index → Searched p ty piece path val m other → Searched p ty (front ++ piece) path val 0 (first_of k index other)
    accepted_both size e index other a b = go index other a b
      where
        d : Day ty piece path size
        d = searchable_day ty piece path size e

        l : length front ≡ k * size
        l = rw d.size_is (f.as_long d.type d.lowers)

        rows : searchable ty (front ++ piece) path ≡ done size
        rows = rows_behind ty path k front f piece ∙ e

        first : searchable ty front path ≡ done size
        first = rows_front ty path k front f piece size e

        count : frames_in size (front ++ piece) ≡ k + frames_in size piece
        count = frames_both size k front piece d.some_bytes l

        front_count : frames_in size front ≡ k
        front_count = frames_front size k front piece d.some_bytes l

        go : {n m : ℕ} (index other : Option ℕ) → Searched p ty front path val n index → Searched p ty piece path val m other → Searched p ty (front ++ piece) path val 0 (first_of k index other)
        go (some i) other a b =
            let (h, m) = a.finds size i first refl in
            searched_found p ty (front ++ piece) path val size rows i (omega (arith, count, front_count)) (rw (in_front size k front piece d.some_bytes l i (omega (arith, front_count))) m)
        go none (some j) a b =
            let (h, m) = b.finds size j e refl in
            searched_found p ty (front ++ piece) path val size rows (k + j) (omega (arith, count)) (rw (in_piece size k front piece d.some_bytes l j) m)
        go none none a b = searched_none p ty (front ++ piece) path val size rows (record { none_yet = λ i h m. apart i h m (ltb i k) refl })
          where
            apart : (i : ℕ) → i < frames_in size (front ++ piece) → Matches p ty (frame_at size (front ++ piece) i) path val → (c : Bool) → ltb i k ≡ c → ⊥
            apart i h m true x =
                let y = ltb-true i k x in
                a.none_matches size first refl i (omega (arith, front_count)) (rw (in_front size k front piece d.some_bytes l i y) at m)
            apart i h m false x =
                let y = ltb-false i k x in
                let j : i ≡ k + (i - k) = omega arith in
                b.none_matches size e refl (i - k) (omega (arith, count)) (rw (in_piece size k front piece d.some_bytes l (i - k)) at (rw j at m))

    -- of both the number is the piece's
    pub searched_both : {n m : ℕ} {index other : Option ℕ} → Searched p ty front path val n index → Searched p ty piece path val m other → Searched p ty (front ++ piece) path val m (both k m index other)
    searched_both {n} {m} {index} {other} a b = go (searchable ty piece path) refl
      where
        go : (o : Outcome ℕ) → searchable ty piece path ≡ o → Searched p ty (front ++ piece) path val m (both k m index other)
        go (refused r) e =
            let (x, _) = b.refuses r e in
            let s = searched_refused p ty (front ++ piece) path val r (rows_behind ty path k front f piece ∙ e) in
            rw (x, both_refused k r index other (never_zero (searchable_row ty piece path) refl r e)) s
        go (done size) e = rw (b.accepts size e) (accepted_both size e index other a b)

    -- and where the piece was not refused, neither was the front
    pub front_accepted : {n : ℕ} {index other : Option ℕ} → Searched p ty front path val n index → Searched p ty piece path val 0 other → n ≡ 0
    front_accepted {n} a b = go (searchable ty piece path) refl
      where
        go : (o : Outcome ℕ) → searchable ty piece path ≡ o → n ≡ 0
        go (refused r) e = absurd (let x = (b.refuses r e).0 in omega (arith, never_zero (searchable_row ty piece path) refl r e))
        go (done size) e = a.accepts size (rows_front ty path k front f piece size e)
