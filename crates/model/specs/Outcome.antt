-- What an operation gives: a result, or the number of the first row of the table (01, with 02's numbers) that holds.
-- An operation is a chain of steps in the order of its rows: what stands first refuses first.
use Rattle.std.specs.Prelude.{Bool, true, false, List, [], ◌∷◌, ℕ}
use Rattle.std.proofs.Math.Option.{Option, none, some}

pub data Outcome (A : Type 0) : Type 0 where
  done : A → Outcome A
  refused : ℕ → Outcome A

infixl 20 ◌>>=◌
infixl 20 ◌>>◌
-- the second step, on what the first one gives
abbrev pub ◌>>=◌ : {A B : Type 0} → Outcome A → (A → Outcome B) → Outcome B
◌>>=◌ (done a) f = f a
◌>>=◌ (refused n) f = refused n

-- the second step, if the first one does not refuse
abbrev pub ◌>>◌ : {A B : Type 0} → Outcome A → Outcome B → Outcome B
◌>>◌ (done a) o = o
◌>>◌ (refused n) o = refused n

-- the row of number n: it refuses where its test holds
abbrev pub refuse : ℕ → Bool → Outcome (Unit {0})
refuse n true = refused n
refuse n false = done tt

-- what is there, or else the number n
abbrev pub or_refuse : {A : Type 0} → ℕ → Option A → Outcome A
or_refuse n none = refused n
or_refuse n (some a) = done a

-- of what was read, all: nothing may be left behind it
abbrev pub all_read : {A X : Type 0} → ℕ → A × List X → Outcome A
all_read n x = elim x.1 [ [] ↦ done x.0 | r ∷ rs ↦ refused n ]
