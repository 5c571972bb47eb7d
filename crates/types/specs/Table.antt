-- What the table of ends holds, and the answer about a whole type file.
use Rattle.reply.specs.declared.Refusal.TheVariants.{TypeLength, TypeTooLong, NotOneType}
use Rattle.std.specs.Prelude.{◌≡◌, ℕ, ◌<◌, ◌≤◌, ◌/◌, ◌%◌, List, Bool, true, false, length, get_or, leb, eqb, Result, Ok, Err}
use Rattle.types.specs.Walks.{walk}
use Rattle.reply.specs.declared.Refusal.{Refusal}

-- the subtree that starts at record i ends before record x
pub record EndsAt (s : List ℕ) (i x : ℕ) : Type 0 where
  pub levels : ℕ
  pub variant : Bool
  pub ends : walk levels variant s i ≡ Ok x

-- the table E has become E', with the end of each record from a up to e
pub record Filled (s : List ℕ) (a e : ℕ) (E E' : List ℕ) : Type 0 where
  pub grows : a ≤ e
  pub below : (i : ℕ) → i < a → get_or E' i 0 ≡ get_or E i 0
  pub filled : (i : ℕ) → a ≤ i → i < e → EndsAt s i (get_or E' i 0)

-- where the walk is refused the table holds anything
abbrev pub Table : Result ℕ Refusal → List ℕ → ℕ → List ℕ → List ℕ → Type 0
Table (Ok e) s a E E' = Filled s a e E E'
Table (Err x) s a E E' = Unit

-- a walk that starts at record a answered r, which is w, and has the table filled
pub record Walked (w : Result ℕ Refusal) (s : List ℕ) (a : ℕ) (r : Result ℕ Refusal) (E E' : List ℕ) : Type 0 where
  pub answer : r ≡ w
  pub table : Table r s a E E'

abbrev pub pick_answer : Bool → Result ℕ Refusal → Result ℕ Refusal → Result ℕ Refusal
pick_answer true a b = a
pick_answer false a b = b

-- one tree and nothing after it
unfoldable pub whole : ℕ → Result ℕ Refusal → Result ℕ Refusal
whole n (Ok e) = pick_answer (eqb e n) (Ok e) (Err NotOneType)
whole n (Err x) = Err x

-- rows 1 to 5: how many records a type file has, or why it is refused
unfoldable pub type_answer : List ℕ → Result ℕ Refusal
type_answer s =
    pick_answer (eqb (length s) 0) (Err TypeLength)
    (pick_answer (eqb (length s % 4) 0)
    (pick_answer (leb (length s / 4) 1024) (whole (length s / 4) (walk 32 false s 0)) (Err TypeTooLong))
    (Err TypeLength))

-- the whole table of an accepted file: wherever a subtree starts, its end
pub record Ends (s E : List ℕ) : Type 0 where
  pub long : length s / 4 ≤ length E
  pub at_each : (i d e : ℕ) (v : Bool) → walk d v s i ≡ Ok e → get_or E i 0 ≡ e

abbrev pub EndsIf : Result ℕ Refusal → List ℕ → List ℕ → Type 0
EndsIf (Ok n) s E = Ends s E
EndsIf (Err x) s E = Unit

pub record Checked (s : List ℕ) (r : Result ℕ Refusal) (E : List ℕ) : Type 0 where
  pub answer : r ≡ type_answer s
  pub table : EndsIf r s E
