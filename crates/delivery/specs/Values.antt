-- What the check of a value file tells the entries: the value that it says, with the length of its shape, or the row that refuses it.
use Rattle.std.specs.Prelude.{◌≡◌, refl, not, ◌||◌, List, [], ℕ, ◌%◌, eqb, length, Result, Ok, Err}
use Rattle.std.proofs.Common.{sym, ap, ◌∙◌, arith}
use Rattle.model.specs.Numbers.{value_length, not_one_value}
use Rattle.model.specs.Outcome.{Outcome, done, refused, ◌>>=◌, all_read}
use Rattle.model.specs.Types.{Ty}
use Rattle.model.specs.Values.{Value, Valid, inject}
use Rattle.model.specs.ShapeFiles.{shape_file}
use Rattle.model.specs.ValueFiles.{parse, value_of}
use Rattle.model.proofs.Laws.Outcome.{refuse_step, whole_read}
use Rattle.model.proofs.Laws.ValueFiles.{parse_sound}
use Rattle.reply.specs.declared.Refusal.{Refusal}
use Rattle.reply.specs.Numbers.{refusal_number}
use Rattle.table.specs.Facts.{cut}
use Rattle.value.specs.Check.{file_answer}
use Rattle.value.specs.Model.{rows, outcome_of, value_of_is}

-- numbers that tell outcomes apart
abbrev result : Outcome ℕ → ℕ
result (done n) = n
result (refused n) = 0

abbrev refusal : Outcome ℕ → ℕ
refusal (done n) = 0
refusal (refused n) = n

abbrev accepts : Outcome ℕ → ℕ
accepts (done n) = 1
accepts (refused n) = 0

-- an outcome of which a length is told
module _ {A : Type 0} (f : A → ℕ) where
  pub was_refused : (o : Outcome A) (n : ℕ) → (o >>= λ x. done (f x)) ≡ refused n → o ≡ refused n
  was_refused (done x) n h = let z = ap accepts h in absurd (omega arith)
  was_refused (refused m) n h = ap refused (ap refusal h)

  pub record Had (o : Outcome A) (n : ℕ) : Type 0 where
    pub had : A
    pub is : o ≡ done had
    pub told : f had ≡ n

  pub was_done : (o : Outcome A) (n : ℕ) → (o >>= λ x. done (f x)) ≡ done n → Had o n
  was_done (done x) n h = record { had = x; is = refl; told = ap result h }
  was_done (refused m) n h = let z = ap accepts h in absurd (omega arith)

module _ (t : Ty) (val : List ℕ) {c : Result (ℕ × ℕ) Refusal} (k : c ≡ file_answer t val) where
  abbrev cut_length : Value t → ℕ
  cut_length v = cut (length (shape_file (inject t v)))

  -- what the check answers is what the model reads
  answers : (value_of t val >>= λ v. done (cut_length v)) ≡ outcome_of c
  answers = value_of_is t val ∙ ap outcome_of (sym k)

  -- rows 15, 16, 21 and 22
  pub value_refused : {x : Refusal} → c ≡ Err x → value_of t val ≡ refused (refusal_number x)
  value_refused {x} h = was_refused cut_length (value_of t val) (refusal_number x) (answers ∙ ap outcome_of h)

  -- the value that the file says
  pub value_read : {i size : ℕ} → c ≡ Ok (i, size) → Had cut_length (value_of t val) size
  value_read {i} {size} h = was_done cut_length (value_of t val) size (answers ∙ ap outcome_of h)

-- what a value file says is valid
pub value_valid : (t : Ty) (val : List ℕ) (v : Value t) → value_of t val ≡ done v → Valid t v
unfolding value_of
value_valid t val v h =
    let (_, q) = refuse_step value_length (eqb (length val) 0 || not (eqb (length val % 36) 0)) (parse t (rows val) >>= all_read not_one_value) v h in
    (parse_sound t (rows val) (v, []) (whole_read not_one_value (parse t (rows val)) v q)).valid
