-- The computed list has exactly the indexes of the frames that match (`matching_exactly`); so the answers that keep the promise of a search are those of the list (`found_listed`, `none_listed`), and there is always one (`answerable`).
use Rattle.std.specs.Prelude.{◌≡◌, ◌⊎◌, ◌↔◌, List, [], ◌∷◌, ◌++◌, Bool, ◌||◌}
use Rattle.std.proofs.Math.Path.{refl}
use Rattle.std.proofs.Common.{sym, ap, ap₂, ◌∙◌, inl, inr}
use Rattle.std.proofs.Math.Bool.{true, false, and-eq-true_iff}
use Rattle.std.proofs.lemmas.Bool.{false≢true}
use Rattle.std.proofs.Math.Option.{Option, none, some}
use Prim.Native.Nat.{ℕ, zero, suc, ◌<◌}
use native.Mathlib.Omega.{arith}
use Rattle.std.proofs.Math.Dec.{eqb}
use borrow.Author.Tests.{eqb-true, eqb-false, eq-eqb}
use Rattle.model.specs.Outcome.{Outcome, done, refused}
use Rattle.model.specs.Options.{pick, one_of}
use Rattle.model.specs.Bytes.{Bytes}
use Rattle.model.specs.Frames.{Place}
use Rattle.model.specs.Operations.{part_read}
use Rattle.model.specs.DayFiles.{frame_at, frames_in, searchable, Matches, Searched}
use Rattle.model.proofs.Laws.Cases.{same_list}
use Rattle.model.proofs.Laws.Outcome.{done_injective, refused_done}
use Rattle.model.proofs.Laws.Demands.{part_read_accepted, frame_accepted}
use Rattle.day_files.specs.Matching.{is_result, matching_among}
use Rattle.day_files.specs.Laws.Days.{MatchesAt, searched_refused, searched_found, searched_none, frame_at_bytes}

-- two files that are found the same are equal, and equal files are found the same
same_true : (x y : List ℕ) → same_list x y ≡ true → x ≡ y
unfolding same_list
same_true [] [] h = refl
same_true [] (y ∷ ys) h = absurd (false≢true h)
same_true (x ∷ xs) [] h = absurd (false≢true h)
same_true (x ∷ xs) (y ∷ ys) h = let (e, f) = (and-eq-true_iff (eqb x y) (same_list xs ys)).0 h in ap₂ {C = List ℕ} ◌∷◌ (eqb-true x y e) (same_true xs ys f)

same_self : (x : List ℕ) → same_list x x ≡ true
unfolding same_list
same_self [] = refl
same_self (x ∷ xs) = (and-eq-true_iff (eqb x x) (same_list xs xs)).1 (eq-eqb x x refl, same_self xs)

-- it is the result
result_true : (o : Outcome (List ℕ)) (val : List ℕ) → is_result o val ≡ true → o ≡ done val
unfolding is_result
result_true (refused n) val h = absurd (false≢true h)
result_true (done file) val h = ap done (same_true file val h)

result_is : (o : Outcome (List ℕ)) (val : List ℕ) → o ≡ done val → is_result o val ≡ true
unfolding is_result
result_is o val e = rw e (same_self val)

module _ (p : Place) (ty : List ℕ) (tyb : Bytes ty) where
  -- reading the part gives the file, so the frame is accepted
  pub read_matches : (frame path val : List ℕ) → Bytes frame → part_read p ty frame path ≡ done val → Matches p ty frame path val
  read_matches frame path val fb h =
      let (target, l) = (part_read_accepted p ty frame path tyb fb).0 (val, h) in
      ((frame_accepted ty tyb p frame fb).0 (l.old, l.accepted), h)

  module _ (day path val : List ℕ) (db : Bytes day) (size : ℕ) where
    abbrev is_match : ℕ → Bool
    is_match i = is_result (part_read p ty (frame_at size day i) path) val

    -- a list has what one of its halves has
    either_half : (i : ℕ) (xs ys : List ℕ) → one_of i (xs ++ ys) ≡ true → (one_of i xs ≡ true) ⊎ (one_of i ys ≡ true)
    either_half i [] ys h = inr h
    either_half i (x ∷ xs) ys h = go (eqb i x) (either_half i xs ys) h
      where
        go : (b : Bool) → (one_of i (xs ++ ys) ≡ true → (one_of i xs ≡ true) ⊎ (one_of i ys ≡ true)) → (b || one_of i (xs ++ ys)) ≡ true → ((b || one_of i xs) ≡ true) ⊎ (one_of i ys ≡ true)
        go true rest q = inl refl
        go false rest q = rest q

    in_front : (i : ℕ) (xs ys : List ℕ) → one_of i xs ≡ true → one_of i (xs ++ ys) ≡ true
    in_front i [] ys h = absurd (false≢true h)
    in_front i (x ∷ xs) ys h = go (eqb i x) (in_front i xs ys) h
      where
        go : (b : Bool) → (one_of i xs ≡ true → one_of i (xs ++ ys) ≡ true) → (b || one_of i xs) ≡ true → (b || one_of i (xs ++ ys)) ≡ true
        go true rest q = refl
        go false rest q = rest q

    behind : (i : ℕ) (xs ys : List ℕ) → one_of i ys ≡ true → one_of i (xs ++ ys) ≡ true
    behind i [] ys h = h
    behind i (x ∷ xs) ys h = go (eqb i x) (behind i xs ys h)
      where
        go : (b : Bool) → one_of i (xs ++ ys) ≡ true → (b || one_of i (xs ++ ys)) ≡ true
        go true q = refl
        go false q = q

    -- an index that the list has is a frame's that matches
    pub listed_matches : (n i : ℕ) → one_of i (matching_among p ty day path val size n) ≡ true → (i < n) × MatchesAt p ty day path val size i
    unfolding matching_among
    listed_matches zero i h = absurd (false≢true h)
    listed_matches (suc n) i h = go (listed_matches n i) (either_half i (matching_among p ty day path val size n) (pick (is_match n) (n ∷ []) []) h)
      where
        last : (b : Bool) → is_match n ≡ b → one_of i (pick b (n ∷ []) []) ≡ true → (i < suc n) × MatchesAt p ty day path val size i
        last false e q = absurd (false≢true q)
        last true e q = same (eqb i n) refl q
          where
            same : (b : Bool) → eqb i n ≡ b → (b || false) ≡ true → (i < suc n) × MatchesAt p ty day path val size i
            same true f q = let k = eqb-true i n f in rw k (omega arith, read_matches (frame_at size day n) path val (frame_at_bytes size day n db) (result_true (part_read p ty (frame_at size day n) path) val e))
            same false f q = absurd (false≢true q)

        go : (one_of i (matching_among p ty day path val size n) ≡ true → (i < n) × MatchesAt p ty day path val size i) → (one_of i (matching_among p ty day path val size n) ≡ true) ⊎ (one_of i (pick (is_match n) (n ∷ []) []) ≡ true) → (i < suc n) × MatchesAt p ty day path val size i
        go rec (inl q) = let (l, m) = rec q in (omega arith, m)
        go rec (inr q) = last (is_match n) refl q

    -- and the list has the index of every frame that matches
    pub match_listed : (n i : ℕ) → i < n → MatchesAt p ty day path val size i → one_of i (matching_among p ty day path val size n) ≡ true
    unfolding matching_among
    match_listed zero i l m = absurd (omega arith)
    match_listed (suc n) i l m = go (λ k. match_listed n i k m) (eqb i n) refl
      where
        go : (i < n → one_of i (matching_among p ty day path val size n) ≡ true) → (b : Bool) → eqb i n ≡ b → one_of i (matching_among p ty day path val size n ++ pick (is_match n) (n ∷ []) []) ≡ true
        go rec true e =
            let k = eqb-true i n e in
            let f : is_match n ≡ true = result_is (part_read p ty (frame_at size day n) path) val (rw k at m.1) in
            behind i (matching_among p ty day path val size n) (pick (is_match n) (n ∷ []) []) (rw f (rw e refl))
        go rec false e = let k = eqb-false i n e in in_front i (matching_among p ty day path val size n) _ (rec (omega arith))

    pub matching_exactly : (n i : ℕ) → (one_of i (matching_among p ty day path val size n) ≡ true) ↔ ((i < n) × MatchesAt p ty day path val size i)
    matching_exactly n i = (listed_matches n i, λ h. match_listed n i h.0 h.1)

  -- THE ANSWERS THAT KEEP THE PROMISE

  module _ (day path val : List ℕ) (db : Bytes day) (size : ℕ) (e : searchable ty day path ≡ done size) where
    abbrev all : List ℕ
    all = matching_among p ty day path val size (frames_in size day)

    -- an index does exactly if the list has it
    pub found_listed : (i : ℕ) → Searched p ty day path val 0 (some i) ↔ (one_of i all ≡ true)
    found_listed i = ((λ s. let (l, m) = s.finds size i e refl in match_listed day path val db size (frames_in size day) i l m), λ h. let (l, m) = listed_matches day path val db size (frames_in size day) i h in searched_found p ty day path val size e i l m)

    -- and none exactly if it is empty
    pub none_listed : Searched p ty day path val 0 none ↔ (all ≡ [])
    none_listed = ((λ s. to s all refl), λ h. searched_none p ty day path val size e (record { none_yet = λ i l m. false≢true (ap (one_of i) (sym h) ∙ match_listed day path val db size (frames_in size day) i l m) }))
      where
        to : Searched p ty day path val 0 none → (l : List ℕ) → all ≡ l → l ≡ []
        to s [] k = refl
        to s (i ∷ is) k =
            let (l, m) = listed_matches day path val db size (frames_in size day) i (rw k (rw (eq-eqb i i refl) refl)) in
            absurd (s.none_matches size e refl i l m)

  -- SOME ANSWER DOES

  pub answerable : (day path val : List ℕ) → Bytes day → (n : ℕ) × (index : Option ℕ) × Searched p ty day path val n index
  answerable day path val db = go (searchable ty day path) refl
    where
      go : (o : Outcome ℕ) → searchable ty day path ≡ o → (n : ℕ) × (index : Option ℕ) × Searched p ty day path val n index
      go (refused n) e = (n, none, searched_refused p ty day path val n e)
      go (done size) e = of_list (matching_among p ty day path val size (frames_in size day)) refl
        where
          listed : (l : List ℕ) → matching_among p ty day path val size (frames_in size day) ≡ l → (i : ℕ) → one_of i l ≡ true → (i < frames_in size day) × MatchesAt p ty day path val size i
          listed l k i h = listed_matches day path val db size (frames_in size day) i (rw k h)

          of_list : (l : List ℕ) → matching_among p ty day path val size (frames_in size day) ≡ l → (n : ℕ) × (index : Option ℕ) × Searched p ty day path val n index
          of_list [] k = (0, none, searched_none p ty day path val size e (record { none_yet = λ i l m. false≢true (ap (one_of i) (sym k) ∙ match_listed day path val db size (frames_in size day) i l m) }))
          of_list (i ∷ is) k = let (l, m) = listed (i ∷ is) k i (rw (eq-eqb i i refl) refl) in (0, some i, searched_found p ty day path val size e i l m)
