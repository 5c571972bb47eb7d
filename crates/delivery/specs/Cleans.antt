-- What `clean_shape` knows at each of its answers: what the earlier reading gives (`Readings`), and the cleaned shape's length.
use Rattle.std.specs.Prelude.{⊤, ◌≡◌, refl, List, ℕ, ◌+◌, ◌-◌, ◌<◌, ◌≤◌, length, Option, Some, None, Result, Ok, Err}
use Rattle.std.proofs.Common.{sym, ap, ◌∙◌, arith}
use Rattle.std.proofs.Math.Option.{some}
use Rattle.model.specs.Outcome.{done}
use Rattle.model.specs.ShapeFiles.{shape_file}
use Rattle.model.specs.Operations.{cleaned_shape}
use Rattle.model.specs.Spots.{cleaned}
use Rattle.model.proofs.Laws.Cleaning.{cleaned_is, length_is}
use Rattle.reply.specs.declared.Refusal.{Refusal}
use Rattle.reply.specs.declared.Refusal.TheVariants.{NotReconstructed, NoRoom}
use Rattle.types.specs.Table.{Checked}
use Rattle.types.specs.Trees.{tree, type_in}
use Rattle.shape.specs.Forms.{Ready, Shaped}
use Rattle.shape.specs.Laws.Writing.{placed_wrote}
use Rattle.rebuild.specs.ShapeRows.{ShapeTold}
use Rattle.rebuild.specs.Reads.{value_records}
use Rattle.shape_clean.specs.Copies.{copies}
use Rattle.shape_clean.specs.Laws.Copies.{copies_cleaned}
use Rattle.delivery.specs.Delivering.{Delivers, deliver_refusal, deliver_no_room, deliver_result}
use Rattle.delivery.specs.Readings.{bad_type, bad_shape, shape, no_value, value, reads}

module _ {s E : List ℕ} {r : Result ℕ Refusal} (c : Checked s r E) where
  pub clean_bad_type : (sh : List ℕ) {O : List ℕ} {x : Refusal} → r ≡ Err x → Delivers (cleaned_shape s sh) O O (Err x)
  unfolding cleaned_shape
  clean_bad_type sh {O} {x} e = deliver_refusal (cleaned_shape s sh) O x (rw (bad_type c sh e) refl)

  module _ {n : ℕ} (e : r ≡ Ok n) (sh : List ℕ) {a : Result ⊤ Refusal} (told : ShapeTold sh a) where
    pub clean_bad_shape : {O : List ℕ} {x : Refusal} → a ≡ Err x → Delivers (cleaned_shape s sh) O O (Err x)
    unfolding cleaned_shape
    clean_bad_shape {O} {x} h = deliver_refusal (cleaned_shape s sh) O x (rw (bad_shape c e sh told h) refl)

    module _ (h : a ≡ (Ok tt)) {v : Option (ℕ × ℕ)} (k : v ≡ value_records (type_in s) sh) where
      -- row 10
      pub clean_none : {O : List ℕ} → v ≡ None → Delivers (cleaned_shape s sh) O O (Err NotReconstructed)
      unfolding cleaned_shape
      clean_none {O} q = deliver_refusal (cleaned_shape s sh) O NotReconstructed (rw (no_value c e sh told h k q) refl)

      module _ {m j : ℕ} (q : v ≡ Some (m, j)) where
        abbrev file : List ℕ
        file = shape_file (cleaned (tree 32 s 0) (shape c e sh told h).0)

        -- the surplus is what cleaning takes away
        file_length : length file + j ≡ length sh
        file_length = ap (λ i. length file + i) (sym (value c e sh told h k q).over) ∙ length_is s sh _ (reads c e sh told h k q)

        cleans : cleaned_shape s sh ≡ done file
        cleans = cleaned_is s sh _ (reads c e sh told h k q)

        copied : copies sh (type_in s) ≡ some (cleaned (tree 32 s 0) (shape c e sh told h).0, length sh)
        unfolding type_in
        copied = let x = value c e sh told h k q in copies_cleaned (tree 32 s 0) sh (shape c e sh told h).0 x.value (shape c e sh told h).1 x.is

        pub clean_fits : j ≤ length sh
        clean_fits = let l = file_length in omega arith

        pub clean_no_room : {O : List ℕ} → length O < length sh - j → Delivers (cleaned_shape s sh) O O (Err NoRoom)
        clean_no_room {O} l = deliver_no_room (cleaned_shape s sh) O file cleans (omega (arith, file_length))

        pub clean_ready : (O : List ℕ) → length sh - j ≤ length O → Ready (copies sh (type_in s)) O
        clean_ready O l = record { shape = _; end = _; told = copied; room = omega (arith, file_length) }

        pub clean_done : {O O' : List ℕ} {i : ℕ} → length sh - j ≤ length O → Shaped (copies sh (type_in s)) O O' i → Delivers (cleaned_shape s sh) O O' (Ok i)
        clean_done {O} {O'} {i} l w = deliver_result (cleaned_shape s sh) O O' file i cleans (omega (arith, file_length)) (placed_wrote w.placed copied)
