-- What the walk over a frame asks and answers.
use Rattle.std.specs.Prelude.{◌≡◌, Bool, true, false, List, ℕ, ◌+◌, ◌*◌, ◌^◌, ◌≤◌, ◌<◌, min, length, Option as Optional, Some, None, Result, Ok, Err}
use Rattle.std.proofs.Math.Option.{Option, none, some}
use Rattle.reply.specs.Numbers.{refusal_number}
use Rattle.model.specs.Outcome.{Outcome, done, refused, ◌>>=◌}
use Rattle.model.specs.Balanced.{btree, fold}
use Rattle.model.specs.Structural.{𝟙, ◌⊕◌}
use Rattle.model.specs.Types.{Ty}
use Rattle.model.specs.ValueFiles.{encode}
use Rattle.model.specs.Frames.{width, unframe}
use Rattle.model.specs.Operations.{lowering}
use Rattle.types.specs.Record.{head_at}
use Rattle.types.specs.Heads.{Fair}
use Rattle.types.specs.Trees.{type_in}
use Rattle.types.specs.declared.forms.Parts.{Parts}
use Rattle.types.specs.declared.forms.Parts.TheVariants.{Copies, Types}
use Rattle.types.specs.declared.forms.Form.{Form}
use Rattle.types.specs.declared.forms.Form.TheVariants as form
use Rattle.types.specs.Forms.{form_of}
use Rattle.rebuild.specs.Forms.{most_records}
use Rattle.accept.specs.Forms.{place, types_in}
use Rattle.reply.specs.declared.Refusal.{Refusal}

-- NUMBERS

-- a number of records, as far as it is counted
abbrev pub cut : ℕ → ℕ
cut n = min n most_records

-- what is seen, as the walk answers it
abbrev pub answer : Option ℕ → Optional ℕ
answer none = None
answer (some n) = Some (cut n)

abbrev pub count_of : Optional ℕ → ℕ
count_of (Some n) = n
count_of None = 0

-- both, added up
abbrev pub both_of : Optional ℕ → Optional ℕ → Optional ℕ
both_of None b = None
both_of (Some n) None = None
both_of (Some n) (Some m) = Some (cut (n + m))

-- COPIES

-- a Boolean or an integer, which is bits and one record
abbrev pub plain_form : Form → Bool
plain_form form.Nothing = false
plain_form form.Bit = true
plain_form (form.Integer w) = true
plain_form (form.Product k n) = false
plain_form (form.Sum n) = false
plain_form (form.List b) = false
plain_form (form.Payload n) = false

-- copies of such a one
abbrev pub plain : Parts → Form → Bool
plain Copies f = plain_form f
plain Types f = false

-- the parts from record p on are such copies if r is true
pub record Plain (k : Parts) (s : List ℕ) (p : ℕ) (r : Bool) : Type 0 where
  pub same : r ≡ true → plain k (form_of (head_at s p)) ≡ true
  pub fair : r ≡ true → Fair (head_at s p)

-- THE TABLE

-- a sum of the n choices from record p on stands at a bit of a frame, padded up to another
pub record Padded (d : ℕ) (s : List ℕ) (n p : ℕ) (fr : List ℕ) (bit end : ℕ) : Type 0 where
  pub fits : bit + width (fold ◌⊕◌ 𝟙 (btree n) (types_in Types d s n p)) ≤ end
  pub inside : end ≤ 8 * length fr
  pub small : end < 2 ^ 64

-- THE WHOLE

-- rows 6 and 7 do not hold
pub record Lowered (s : List ℕ) : Type 0 where
  pub lowers : lowering s ≡ done (type_in s)

-- the number of records of the value whose frame it is, or the number of the row that refuses it
unfoldable pub accepted : Ty → List ℕ → Outcome ℕ
accepted t file = unframe place t file >>= (λ v. done (length (encode t v)))

abbrev pub outcome_of : Result ℕ Refusal → Outcome ℕ
outcome_of (Ok n) = done n
outcome_of (Err x) = refused (refusal_number x)

-- A PART

-- a value is seen, and its records are few enough to be counted
pub record Counted (o : Option ℕ) : Type 0 where
  pub count : ℕ
  pub there : o ≡ some count
  pub few : count ≤ most_records
