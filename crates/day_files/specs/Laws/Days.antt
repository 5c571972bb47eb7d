-- The frames of a day file are frames of the type's length, and the three answers of a search, as a loop over the frames gives them.
use Rattle.std.specs.Prelude.{◌≡◌, refl, List, Bool, true, false, not, ℕ, suc, ◌+◌, ◌-◌, ◌*◌, ◌/◌, ◌%◌, ◌≤◌, ◌<◌, min, eqb, length, take, drop}
use Rattle.std.proofs.Common.{sym, ap, ◌∙◌, arith, mul-le-mul_right, div-le_self, div-add-mod', suc-mul, length-take, length-drop}
use Rattle.std.proofs.Math.Option.{Option, none, some, none-ne-some, some-injective}
use borrow.Author.Tests.{eqb-true, eqb-false, eq-eqb, ne_eqb, not-false}
use Rattle.model.specs.Numbers.{no_bytes, day_length, path_odd}
use Rattle.model.specs.Outcome.{Outcome, done, refused}
use Rattle.model.specs.Bytes.{Bytes}
use Rattle.model.specs.Types.{Ty}
use Rattle.model.specs.Frames.{Place, frame_bytes}
use Rattle.model.specs.Paths.{steps}
use Rattle.model.specs.Operations.{lowering}
use Rattle.model.specs.DayFiles.{frame_at, frames_in, searchable, Matches, Searched}
use Rattle.model.proofs.Laws.Outcome.{done_injective, refused_done, outcome_step, refuse_step}
use Rattle.model.proofs.Laws.Records.{all_take, all_drop}

-- FRAMES OF A DAY FILE

-- where no row holds, the frames have some bytes and fill the day file
pub record Day (ty day path : List ℕ) (size : ℕ) : Type 0 where
  pub type : Ty
  pub lowers : lowering ty ≡ done type
  pub size_is : size ≡ frame_bytes type
  pub some_bytes : 1 ≤ size
  pub whole : frames_in size day * size ≡ length day
  pub picks : List ℕ
  pub even : steps path ≡ done picks

pub searchable_day : (ty day path : List ℕ) (size : ℕ) → searchable ty day path ≡ done size → Day ty day path size
unfolding searchable
searchable_day ty day path size h =
    let (t, k, a) = outcome_step (lowering ty) _ size h in
    let (e, b) = refuse_step no_bytes (eqb (frame_bytes t) 0) _ size a in
    let (f, c) = refuse_step day_length (not (eqb (length day % frame_bytes t) 0)) _ size b in
    let (picks, even, d) = outcome_step (steps path) _ size c in
    let s : frame_bytes t ≡ size = done_injective (frame_bytes t) size d in
    let z : length day % frame_bytes t ≡ 0 = eqb-true _ _ (not-false _ f) in
    let n = eqb-false (frame_bytes t) 0 e in
    record {
      type = t;
      lowers = k;
      size_is = sym s;
      some_bytes = positive size (λ m. n (s ∙ m));
      whole = rw (← s) (full (length day) (frame_bytes t) z);
      picks = picks;
      even = even;
    }
  where
    positive : (n : ℕ) → (n ≡ 0 → ⊥) → 1 ≤ n
    positive n h = omega arith

    full : (n m : ℕ) → n % m ≡ 0 → n / m * m ≡ n
    full n m z = join (n / m * m) (n % m) n (div-add-mod' n m) z
      where
        join : (a b c : ℕ) → a + b ≡ c → b ≡ 0 → a ≡ c
        join a b c h e = omega arith

-- and which row holds, by what is tested in turn
module _ (ty day path : List ℕ) {t : Ty} (k : lowering ty ≡ done t) where
  pub row_18 : frame_bytes t ≡ 0 → searchable ty day path ≡ refused no_bytes
  unfolding searchable
  row_18 e = rw k (rw (eq-eqb (frame_bytes t) 0 e) refl)

  module _ (n : frame_bytes t ≡ 0 → ⊥) where
    pub row_19 : (length day % frame_bytes t ≡ 0 → ⊥) → searchable ty day path ≡ refused day_length
    unfolding searchable
    row_19 e = rw k (rw (ne_eqb (frame_bytes t) 0 n, ne_eqb (length day % frame_bytes t) 0 e) refl)

    module _ (e : length day % frame_bytes t ≡ 0) where
      pub row_13 : (length path % 2 ≡ 0 → ⊥) → searchable ty day path ≡ refused path_odd
      unfolding searchable steps
      row_13 f = rw k (rw (ne_eqb (frame_bytes t) 0 n, eq-eqb (length day % frame_bytes t) 0 e, ne_eqb (length path % 2) 0 f) refl)

      pub no_row : length path % 2 ≡ 0 → searchable ty day path ≡ done (frame_bytes t)
      unfolding searchable steps
      no_row f = rw k (rw (ne_eqb (frame_bytes t) 0 n, eq-eqb (length day % frame_bytes t) 0 e, eq-eqb (length path % 2) 0 f) refl)

-- each lies inside, and is of the type's length
pub frame_inside : (size : ℕ) (day : List ℕ) (i : ℕ) → i < frames_in size day → i * size + size ≤ length day
frame_inside size day i h =
    let a : suc i * size ≤ length day / size * size = mul-le-mul_right size h in
    let b : length day / size * size + length day % size ≡ length day = div-add-mod' (length day) size in
    let c : suc i * size ≡ size + i * size = suc-mul i size ∙ omega arith in
    omega arith

-- a frame as it is cut out, from its first byte up to the one behind its last
pub frame_cut : (size : ℕ) (day : List ℕ) (i : ℕ) → take (i * size + size - i * size) (drop (i * size) day) ≡ frame_at size day i
frame_cut size day i = let e : i * size + size - i * size ≡ size = omega arith in ap (λ n. take n (drop (i * size) day)) e

pub frame_at_length : (size : ℕ) (day : List ℕ) (i : ℕ) → i < frames_in size day → length (frame_at size day i) ≡ size
frame_at_length size day i h =
    let l = frame_inside size day i h in
    length-take size (drop (i * size) day) ∙ ap (λ n. min size n) (length-drop (i * size) day) ∙ omega arith

pub cut_length : (size : ℕ) (day : List ℕ) (i : ℕ) → i < frames_in size day → length (take (i * size + size - i * size) (drop (i * size) day)) ≡ size
cut_length size day i h = ap length (frame_cut size day i) ∙ frame_at_length size day i h

-- there are no more frames than bytes
pub frames_few : (size : ℕ) (day : List ℕ) → frames_in size day ≤ length day
frames_few size day = div-le_self (length day) size

pub frame_at_bytes : (size : ℕ) (day : List ℕ) (i : ℕ) → Bytes day → Bytes (frame_at size day i)
frame_at_bytes size day i b = all_take (λ b. b < 256) size (drop (i * size) day) (all_drop (λ b. b < 256) (i * size) day b)

-- NONE OF THE FIRST i, of whatever is looked for

pub record NoneBefore (P : ℕ → Type 0) (i : ℕ) : Type 0 where
  pub none_yet : (j : ℕ) → j < i → P j → ⊥

pub none_at_first : (P : ℕ → Type 0) → NoneBefore P 0
none_at_first P = record { none_yet = λ j l m. omega arith }

pub none_next : {P : ℕ → Type 0} {i : ℕ} → NoneBefore P i → (P i → ⊥) → NoneBefore P (i + 1)
none_next {P} {i} b n = record { none_yet = λ j l m. go j l m (eqb j i) refl }
  where
    go : (j : ℕ) → j < i + 1 → P j → (c : Bool) → eqb j i ≡ c → ⊥
    go j l m true x = n (rw (eqb-true j i x) at m)
    go j l m false x = let y = eqb-false j i x in b.none_yet j (omega arith) m

-- THE THREE ANSWERS OF A SEARCH

module _ (p : Place) (ty day path val : List ℕ) where
  -- a row holds
  pub searched_refused : (n : ℕ) → searchable ty day path ≡ refused n → Searched p ty day path val n none
  searched_refused n e = record {
    refuses = λ m h. (let z : ◌≡◌ {A = Outcome ℕ} (refused n) (refused m) = sym e ∙ h in cc, refl);
    accepts = λ size h. absurd (refused_done n size (sym e ∙ h));
    finds = λ size i h. absurd (refused_done n size (sym e ∙ h));
    none_matches = λ size h. absurd (refused_done n size (sym e ∙ h));
  }

  module _ (size : ℕ) where
    -- frame i matches
    abbrev pub MatchesAt : ℕ → Type 0
    MatchesAt i = Matches p ty (frame_at size day i) path val

    pub searched_found : searchable ty day path ≡ done size → (i : ℕ) → i < frames_in size day → MatchesAt i → Searched p ty day path val 0 (some i)
    searched_found e i l m = record {
      refuses = λ k h. absurd (refused_done k size (sym h ∙ e));
      accepts = λ s h. refl;
      finds = λ s j h x. rw (done_injective s size (sym h ∙ e), ← some-injective i j x) (l, m);
      none_matches = λ s h x. absurd (none-ne-some i (sym x));
    }

    -- none of all
    pub searched_none : searchable ty day path ≡ done size → NoneBefore MatchesAt (frames_in size day) → Searched p ty day path val 0 none
    searched_none e b = record {
      refuses = λ k h. absurd (refused_done k size (sym h ∙ e));
      accepts = λ s h. refl;
      finds = λ s i h x. absurd (none-ne-some i x);
      none_matches = λ s h x i. rw (done_injective s size (sym h ∙ e)) (b.none_yet i);
    }
