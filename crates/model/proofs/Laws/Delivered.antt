-- What is delivered of an operation (`delivered`) tells: the number, the length and the buffer afterwards, of a file, of a refusal, and back.
use Rattle.std.specs.Prelude.{◌≡◌, refl, Bool, true, false, List, [], ◌++◌, ℕ, ◌≤◌, ◌<◌, ltb, length, take, drop}
use Rattle.std.proofs.Common.{sym, ap, ◌∙◌, append-nil, arith, drop_of_length-le, length-append, take_at, ltb-true, ltb-false, le-ltb, lt-ltb}
use Rattle.model.specs.Numbers.{no_room}
use Rattle.model.specs.Outcome.{Outcome, done, refused}
use Rattle.model.specs.Operations.{delivered}
use Rattle.model.specs.Calls.{Calls, Makes}

-- a number, a length, and what a buffer held afterwards; two that are equal are so in each part
abbrev pub Answer : Type 0
Answer = ℕ × ℕ × List ℕ

pub parts : (x y : Answer) → x ≡ y → (x.0 ≡ y.0) × (x.1 ≡ y.1) × (x.2 ≡ y.2)
parts x y h = (ap (λ (a : Answer). a.0) h, ap (λ (a : Answer). a.1) h, ap (λ (a : Answer). a.2) h)

-- what is delivered of a file with room for it, of one without, and of a refusal
pub delivers : (o : Outcome (List ℕ)) (file before : List ℕ) → o ≡ done file → length file ≤ length before → delivered o before ≡ (0, length file, file ++ drop (length file) before)
unfolding delivered
delivers o file before e l = rw e (rw (le-ltb (length before) (length file) l, delivered) refl)

withholds : (o : Outcome (List ℕ)) (file before : List ℕ) → o ≡ done file → length before < length file → delivered o before ≡ (no_room, 0, before)
unfolding delivered
withholds o file before e l = rw e (rw (lt-ltb (length before) (length file) l, delivered) refl)

pub refuses : (o : Outcome (List ℕ)) (m : ℕ) (before : List ℕ) → o ≡ refused m → delivered o before ≡ (m, 0, before)
unfolding delivered
refuses o m before e = rw e refl

-- one that is as long as the buffer fills it
pub fills : (o : Outcome (List ℕ)) (file before : List ℕ) → o ≡ done file → length file ≡ length before → delivered o before ≡ (0, length before, file)
fills o file before e n =
    let d : drop (length file) before ≡ [] = drop_of_length-le before {i = length file} (omega arith) in
    delivers o file before e (omega arith) ∙ rw (d, append-nil file, n) refl

-- the calls of an entry that delivers an operation
abbrev pub calls : (List ℕ → Outcome (List ℕ)) → Calls
calls op file before n len left = (n, len, left) ≡ delivered (op file) before

-- where the operation gives a file, every call does
pub makes : (op : List ℕ → Outcome (List ℕ)) (file made : List ℕ) → op file ≡ done made → Makes (calls op) file made
makes op file made e before n len left h = record { fits = λ l. parts _ _ (h ∙ delivers (op file) made before e l); too_long = λ l. parts _ _ (h ∙ withholds (op file) made before e l) }

-- EVERY CALL was answered in one of three ways: it gave a file, had no room for it, or was refused

pub data Told (o : Outcome (List ℕ)) (before : List ℕ) (n len : ℕ) (left : List ℕ) : Type 0 where
  gave : (file : List ℕ) → o ≡ done file → length file ≤ length before → (n ≡ 0) × (len ≡ length file) × (left ≡ file ++ drop (length file) before) → Told o before n len left
  withheld : (file : List ℕ) → o ≡ done file → length before < length file → (n ≡ no_room) × (len ≡ 0) × (left ≡ before) → Told o before n len left
  denied : (m : ℕ) → o ≡ refused m → (n ≡ m) × (len ≡ 0) × (left ≡ before) → Told o before n len left

module _ (o : Outcome (List ℕ)) (before : List ℕ) where
  pub told : (n len : ℕ) (left : List ℕ) → ◌≡◌ {A = Answer} (n, len, left) (delivered o before) → Told o before n len left
  told n len left h = go o refl
    where
      room : (file : List ℕ) → o ≡ done file → (t : Bool) → ltb (length before) (length file) ≡ t → Told o before n len left
      room file e true l = let k = ltb-true (length before) (length file) l in withheld file e k (parts _ _ (h ∙ withholds o file before e k))
      room file e false l = let k = ltb-false (length before) (length file) l in gave file e k (parts _ _ (h ∙ delivers o file before e k))

      go : (x : Outcome (List ℕ)) → o ≡ x → Told o before n len left
      go (done file) e = room file e (ltb (length before) (length file)) refl
      go (refused m) e = denied m e (parts _ _ (h ∙ refuses o m before e))

  -- where a call was accepted, the operation gives what the call left
  pub accepted : ((m : ℕ) → o ≡ refused m → 1 ≤ m) → (len : ℕ) (left : List ℕ) → ◌≡◌ {A = Answer} (0, len, left) (delivered o before) → o ≡ done (take len left)
  accepted rows len left h = go (told 0 len left h)
    where
      go : Told o before 0 len left → o ≡ done (take len left)
      go (gave file e l (_, n, x)) = e ∙ ap done (sym (rw (n, x) (take_at file (drop (length file) before) (length file) refl)))
      go (withheld file e l (z, _, _)) = absurd (omega arith)
      go (denied m e (z, _, _)) = absurd (omega (arith, rows m e))

  -- where a call was refused, and not for its buffer, the operation refuses with the call's number
  pub refused_with : (n len : ℕ) (left : List ℕ) → (n ≡ 0 → ⊥) → (n ≡ no_room → ⊥) → ◌≡◌ {A = Answer} (n, len, left) (delivered o before) → o ≡ refused n
  refused_with n len left some other h = go (told n len left h)
    where
      go : Told o before n len left → o ≡ refused n
      go (gave file e l (z, _, _)) = absurd (some z)
      go (withheld file e l (z, _, _)) = absurd (other z)
      go (denied m e (z, _, _)) = e ∙ ap refused (sym z)

  -- no call tells a length beyond its buffer
  pub length_fits : (n len : ℕ) (left : List ℕ) → ◌≡◌ {A = Answer} (n, len, left) (delivered o before) → len ≤ length left
  length_fits n len left h = go (told n len left h)
    where
      go : Told o before n len left → len ≤ length left
      go (gave file e l (_, n, x)) = omega (arith, ap length x, length-append file (drop (length file) before))
      go (withheld file e l (_, n, _)) = omega arith
      go (denied m e (_, n, _)) = omega arith
