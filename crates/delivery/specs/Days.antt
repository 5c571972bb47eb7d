-- What `search` knows where the type file is refused: rows 1 to 7.
use Rattle.std.specs.Prelude.{◌≡◌, refl, List, ℕ, Result, Err}
use Rattle.std.proofs.Math.Option.{none}
use Rattle.model.specs.Calls.{Search}
use Rattle.model.specs.Frames.{after}
use Rattle.model.specs.DayFiles.{searchable}
use Rattle.day_files.specs.Laws.Days.{searched_refused}
use Rattle.reply.specs.declared.Refusal.{Refusal}
use Rattle.reply.specs.Numbers.{refusal_number}
use Rattle.table.specs.Tabled.{Tabled}

pub search_bad_type : {s E S W : List ℕ} {r : Result ℕ Refusal} → Tabled s r E S W → (day path val : List ℕ) {x : Refusal} → r ≡ Err x → Search s day path val (refusal_number x) none
unfolding searchable
search_bad_type {s} p day path val {x} e = searched_refused after s day path val (refusal_number x) (rw (p.answer, e) refl)
