-- What `part_read` and `part_edit` know where the type is refused, and that what is delivered of an edit is demand 3.
use Rattle.std.specs.Prelude.{◌≡◌, refl, List, ℕ, ◌<◌, get_or, Result, Err}
use Rattle.model.specs.Edits.{Edited}
use Rattle.model.specs.Frames.{after}
use Rattle.model.specs.Operations.{part_read, edited}
use Rattle.model.proofs.Laws.Edits.{edit_answered}
use Rattle.reply.specs.declared.Refusal.{Refusal}
use Rattle.reply.specs.Numbers.{number_of, length_of}
use Rattle.table.specs.Tabled.{Tabled}
use Rattle.bits.specs.Laws.Integers.{bytes_each}
use Rattle.delivery.specs.Delivering.{Delivers, deliver_refusal}

module _ {s E S W : List ℕ} {r : Result ℕ Refusal} (p : Tabled s r E S W) where
  -- rows 1 to 7
  pub part_bad_type : (fr path : List ℕ) {O : List ℕ} {x : Refusal} → r ≡ Err x → Delivers (part_read after s fr path) O O (Err x)
  unfolding part_read
  part_bad_type fr path {O} {x} e = deliver_refusal (part_read after s fr path) O x (rw (p.answer, e) refl)

  pub edit_bad_type : (fr path val : List ℕ) {O : List ℕ} {x : Refusal} → r ≡ Err x → Delivers (edited after s fr path val) O O (Err x)
  unfolding edited
  edit_bad_type fr path val {O} {x} e = deliver_refusal (edited after s fr path val) O x (rw (p.answer, e) refl)

-- demand 3, of whatever bytes
pub edit_demand : (s fr path val left : List ℕ) (r : Result ℕ Refusal) → ((i : ℕ) → get_or s i 0 < 256) → ((i : ℕ) → get_or fr i 0 < 256) → ((i : ℕ) → get_or val i 0 < 256) → Delivers (edited after s fr path val) fr left r → Edited after s fr path val (number_of r) (length_of r) left
edit_demand s fr path val left r a b c d = edit_answered after s fr path val (bytes_each s a) (bytes_each fr b) (bytes_each val c) (number_of r) (length_of r) left d
