-- Laws of outcomes: a chain of steps gives a result only where each of its steps gives one, and no row refuses.
-- Each law is a case on the step that stands first: where it refuses, the chain refuses with the same number, and no refusal is a result.
use Rattle.std.specs.Prelude.{◌≡◌, refl, Bool, true, false, ◌||◌, not, List, [], ◌∷◌, ◌↔◌, ℕ, eqb}
use Rattle.std.proofs.Common.{sym, ap, arith, eqb-true}
use Rattle.std.proofs.Math.Option.{Option, none, some}
use Rattle.std.proofs.lemmas.Bool.{eqb-false, not-false}
use Rattle.model.specs.Outcome.{Outcome, done, refused, ◌>>=◌, ◌>>◌, refuse, or_refuse, all_read}

-- a refusal is no result
pub refused_done : {A : Type 0} (n : ℕ) (a : A) → refused n ≡ done a → ⊥
refused_done n a h = let z : ◌≡◌ {A = ℕ} 0 1 = cc in omega arith

-- a result is one result
pub done_injective : {A : Type 0} (a b : A) → done a ≡ done b → a ≡ b
done_injective a b h = cc

-- and a refusal has one number
pub refused_injective : {A : Type 0} (m n : ℕ) → ◌≡◌ {A = Outcome A} (refused m) (refused n) → m ≡ n
refused_injective m n h = cc

-- two steps that give a result: the first gives one, and the second on it
pub outcome_step : {A B : Type 0} (o : Outcome A) (f : A → Outcome B) (b : B) → (o >>= f) ≡ done b → (a : A) × (o ≡ done a) × (f a ≡ done b)
outcome_step (done a) f b h = (a, refl, h)
outcome_step (refused n) f b h = absurd (refused_done n b h)

-- what is made of a result
pub outcome_made : {A B : Type 0} (o : Outcome A) (f : A → B) (b : B) → (o >>= λ a. done (f a)) ≡ done b → (a : A) × (o ≡ done a) × (f a ≡ b)
outcome_made o f b h = let (a, e, k) = outcome_step o (λ a. done (f a)) b h in (a, e, done_injective (f a) b k)

-- and it is refused exactly where there is none
pub made_refused : {A B : Type 0} (o : Outcome A) (f : A → B) (n : ℕ) → ((o >>= λ a. done (f a)) ≡ refused n) ↔ (o ≡ refused n)
made_refused (done a) f n = ((λ h. absurd (refused_done n (f a) (sym h))), λ h. absurd (refused_done n a (sym h)))
made_refused (refused m) f n = ((λ h. cc), λ h. cc)

-- a row before a result: its test does not hold
pub refuse_step : {A : Type 0} (n : ℕ) (b : Bool) (o : Outcome A) (x : A) → (refuse n b >> o) ≡ done x → (b ≡ false) × (o ≡ done x)
refuse_step n true o x h = absurd (refused_done n x h)
refuse_step n false o x h = (refl, h)

-- something is there where it would else be refused
pub or_refuse_done : {A : Type 0} (n : ℕ) (o : Option A) (a : A) → or_refuse n o ≡ done a → o ≡ some a
or_refuse_done n none a h = absurd (refused_done n a h)
or_refuse_done n (some x) a h = cc

-- nothing is left behind what was read
pub all_read_done : {A X : Type 0} (n : ℕ) (x : A × List X) (a : A) → all_read n x ≡ done a → (x.1 ≡ []) × (x.0 ≡ a)
all_read_done {A} {X} n x a h = go x.0 x.1 h
  where
    go : (y : A) (l : List X) → all_read n (y, l) ≡ done a → (l ≡ []) × (y ≡ a)
    go y [] m = (refl, done_injective y a m)
    go y (r ∷ rs) m = absurd (refused_done n a m)

-- what was read, with nothing left behind it
pub whole_read : {A X : Type 0} (n : ℕ) (o : Outcome (A × List X)) (a : A) → (o >>= all_read n) ≡ done a → o ≡ done (a, [])
whole_read n (refused m) a h = absurd (refused_done m a h)
whole_read {A} {X} n (done x) a h = let (e, f) = all_read_done n x a h in ap {B = Outcome (A × List X)} done (λ i. (f i, e i))

-- neither of two tests holds
pub or_false : (a b : Bool) → a || b ≡ false → (a ≡ false) × (b ≡ false)
or_false true b h = (h, absurd (let z : ◌≡◌ {A = ℕ} 0 1 = cc in omega arith))
or_false false b h = (refl, h)

-- the row of a file's length: it is not empty, and no part of a record is left
pub length_row : (m n : ℕ) → eqb n 0 || not (eqb m 0) ≡ false → (n ≡ 0 → ⊥) × (m ≡ 0)
length_row m n h = let (e, f) = or_false (eqb n 0) (not (eqb m 0)) h in (eqb-false n 0 e, eqb-true m 0 (not-false (eqb m 0) f))
