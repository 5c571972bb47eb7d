-- What `reconstruct` knows at each of its answers: what the earlier reading gives (`Readings`), row 20, and the value file's length.
use Rattle.std.specs.Prelude.{⊤, ◌≡◌, Bool, List, ℕ, ◌*◌, ◌<◌, ◌≤◌, Option, Some, None, Result, Ok, Err}
use Rattle.std.proofs.Math.Path.{refl, ap}
use Rattle.std.proofs.Common.{sym, ◌∙◌, arith, Fits}
use Rattle.std.proofs.Math.Bool.{true, false}
use Rattle.std.proofs.Math.Option.{some, some-injective}
use Rattle.std.specs.Int.{w64}
use Rattle.std.proofs.Math.ListN.{length}
use Rattle.model.specs.Outcome.{done}
use Rattle.model.specs.ValueFiles.{encode, value_file}
use Rattle.model.specs.Operations.{reconstructed}
use Rattle.model.specs.Spots.{lacks_unit}
use Rattle.model.proofs.Laws.Spots.{no_surplus}
use Rattle.model.proofs.Laws.ValueFiles.{length_value_file}
use Rattle.reply.specs.declared.Refusal.{Refusal}
use Rattle.reply.specs.declared.Refusal.TheVariants.{NotReconstructed, NoUnit, NoRoom}
use Rattle.types.specs.Table.{Checked}
use Rattle.types.specs.Trees.{tree, type_in}
use Rattle.rebuild.specs.ShapeRows.{ShapeTold}
use Rattle.rebuild.specs.Reads.{value_records}
use Rattle.rebuild.specs.Laws.Few.{few_records}
use Rattle.restore.specs.Forms.{standing, Ready, Whole}
use Rattle.restore.specs.Laws.Whole.{whole_given}
use Rattle.record.specs.Marks.{written}
use Rattle.delivery.specs.Delivering.{Delivers, deliver_refusal, deliver_no_room, deliver_result}
use Rattle.delivery.specs.Readings.{bad_type, type_given, bad_shape, shape, shape_short, no_value, Valued, value, reads}

module _ {s E : List ℕ} {r : Result ℕ Refusal} (c : Checked s r E) where
  pub rebuild_bad_type : (sh : List ℕ) {O : List ℕ} {x : Refusal} → r ≡ Err x → Delivers (reconstructed s sh) O O (Err x)
  unfolding reconstructed
  rebuild_bad_type sh {O} {x} e = deliver_refusal (reconstructed s sh) O x (rw (bad_type c sh e) refl)

  module _ {n : ℕ} (e : r ≡ Ok n) (sh : List ℕ) {a : Result ⊤ Refusal} (told : ShapeTold sh a) where
    pub rebuild_bad_shape : {O : List ℕ} {x : Refusal} → a ≡ Err x → Delivers (reconstructed s sh) O O (Err x)
    unfolding reconstructed
    rebuild_bad_shape {O} {x} h = deliver_refusal (reconstructed s sh) O x (rw (bad_shape c e sh told h) refl)

    module _ (h : a ≡ (Ok tt)) {v : Option (ℕ × ℕ)} (k : v ≡ value_records (type_in s) sh) where
      -- row 10
      pub rebuild_none : {O : List ℕ} → v ≡ None → Delivers (reconstructed s sh) O O (Err NotReconstructed)
      unfolding reconstructed
      rebuild_none {O} q = deliver_refusal (reconstructed s sh) O NotReconstructed (rw (no_value c e sh told h k q) refl)

      module _ {m j : ℕ} (q : v ≡ Some (m, j)) where
        abbrev read : Valued c e sh told h m j
        read = value c e sh told h k q

        -- row 20
        pub rebuild_no_unit : {O : List ℕ} → (j ≡ 0 → ⊥) → Delivers (reconstructed s sh) O O (Err NoUnit)
        unfolding reconstructed
        rebuild_no_unit {O} z = deliver_refusal (reconstructed s sh) O NoUnit (rw (reads c e sh told h k q, lacks (lacks_unit (tree 32 s 0) (shape c e sh told h).0) refl) refl)
          where
            lacks : (b : Bool) → lacks_unit (tree 32 s 0) (shape c e sh told h).0 ≡ b → b ≡ true
            lacks true i = refl
            lacks false i = absurd (z (sym read.over ∙ (no_surplus (tree 32 s 0) (shape c e sh told h).0).0 i))

        pub rebuild_fits : Fits w64 (m * 36)
        rebuild_fits = omega (arith, few_records s sh m j (shape_short c e sh told h) (sym k ∙ q))

        abbrev file : List ℕ
        file = value_file (tree 32 s 0) read.value

        file_length : length file ≡ m * 36
        file_length = length_value_file (tree 32 s 0) read.value ∙ ap (λ n. n * 36) read.count

        rebuilt : j ≡ 0 → reconstructed s sh ≡ done file
        unfolding reconstructed
        rebuilt z = rw (reads c e sh told h k q, (no_surplus (tree 32 s 0) (shape c e sh told h).0).1 (read.over ∙ z)) refl

        stands : standing sh 32 s 0 0 ≡ some (encode (tree 32 s 0) read.value, length sh)
        stands = whole_given s E sh (shape c e sh told h).0 read.value (type_given c e) (shape c e sh told h).1 read.is

        pub rebuild_no_room : {O : List ℕ} → j ≡ 0 → length O < m * 36 → Delivers (reconstructed s sh) O O (Err NoRoom)
        rebuild_no_room {O} z l = deliver_no_room (reconstructed s sh) O file (rebuilt z) (omega (arith, file_length))

        pub rebuild_ready : (O : List ℕ) → m * 36 ≤ length O → Ready (standing sh 32 s 0 0) O
        unfolding value_file written
        rebuild_ready O l = record { recs = encode (tree 32 s 0) read.value; end = length sh; there = stands; room = omega (arith, file_length) }

        pub rebuild_done : {O O' : List ℕ} {i : ℕ} → j ≡ 0 → m * 36 ≤ length O → Whole (standing sh 32 s 0 0) O O' i → Delivers (reconstructed s sh) O O' (Ok i)
        unfolding value_file written
        rebuild_done {O} {O'} {i} z l w =
            let same : encode (tree 32 s 0) read.value ≡ w.recs = ap (λ x. x.0) (some-injective _ _ (sym stands ∙ w.there)) in
            deliver_result (reconstructed s sh) O O' file i (rebuilt z) (omega (arith, file_length)) (rw same w.wrote)
