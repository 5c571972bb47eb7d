-- What `read_frame` knows at each of its answers: rows 1 to 7 and the table as `lower`, rows 11 and 12 and the number of the value's records.
use Rattle.std.specs.Prelude.{◌≡◌, List, ℕ, ◌*◌, ◌<◌, ◌≤◌, length, Result, Ok, Err}
use Rattle.std.proofs.Math.Path.{refl, sym, ap}
use Rattle.std.proofs.Common.{◌∙◌, arith, Fits}
use Rattle.std.specs.Int.{w64}
use Rattle.model.specs.Outcome.{done, ◌>>=◌}
use Rattle.model.specs.Values.{Value}
use Rattle.model.specs.ValueFiles.{encode, value_file}
use Rattle.model.specs.Frames.{after, width, unframe}
use Rattle.model.specs.Operations.{unframed}
use Rattle.model.proofs.Laws.ValueFiles.{length_value_file}
use Rattle.reply.specs.declared.Refusal.{Refusal}
use Rattle.reply.specs.declared.Refusal.TheVariants.{NoRoom}
use Rattle.reply.specs.Numbers.{refusal_number}
use Rattle.types.specs.Trees.{tree, type_in}
use Rattle.structural.specs.Forms as structural
use Rattle.table.specs.Tabled.{Tabled}
use Rattle.bits.specs.Bits.{Inside}
use Rattle.accept.specs.Answers.{Lowered, accepted, outcome_of}
use Rattle.accept.specs.Laws.Whole.{few_value}
use Rattle.unframe.specs.Forms.{standing, Ready, Placed}
use Rattle.unframe.specs.Laws.Whole.{read, whole_inside, whole_ready, whole_placed}
use Rattle.delivery.specs.Delivering.{Delivers, deliver_refusal, deliver_no_room, deliver_result}
use Rattle.delivery.specs.Values.{was_refused, was_done}
use Rattle.delivery.specs.Lowers.{lower_given, lowers}
use Rattle.delivery.specs.Frames.{frame_wide}

module _ {s E S W : List ℕ} {r : Result ℕ Refusal} (p : Tabled s r E S W) where
  pub unframe_refused : (fr : List ℕ) {O : List ℕ} {x : Refusal} → r ≡ Err x → Delivers (unframed after s fr) O O (Err x)
  unfolding unframed
  unframe_refused fr {O} {x} e = deliver_refusal (unframed after s fr) O x (rw (p.answer, e) refl)

  module _ {n : ℕ} (e : r ≡ Ok n) where
    pub unframe_lowers : Lowered s
    unfolding type_in
    unframe_lowers = record { lowers = lowers p e }

    abbrev count : Value (tree 32 s 0) → ℕ
    count v = length (encode (tree 32 s 0) v)

    module _ (fr : List ℕ) (c : Result ℕ Refusal) (k : outcome_of c ≡ accepted (type_in s) fr) where
      answers : (unframe after (tree 32 s 0) fr >>= λ v. done (count v)) ≡ outcome_of c
      unfolding accepted type_in
      answers = sym k

      -- rows 11 and 12
      pub unframe_bad_frame : {O : List ℕ} {x : Refusal} → c ≡ Err x → Delivers (unframed after s fr) O O (Err x)
      unfolding unframed
      unframe_bad_frame {O} {x} h =
          let q = was_refused count (unframe after (tree 32 s 0) fr) (refusal_number x) (answers ∙ ap outcome_of h) in
          deliver_refusal (unframed after s fr) O x (rw (lowers p e, q) refl)

      module _ {m : ℕ} (h : c ≡ Ok m) (long : 1024 ≤ length W) where
        -- the value whose frame it is
        value : Value (tree 32 s 0)
        value = (was_done count (unframe after (tree 32 s 0) fr) m (answers ∙ ap outcome_of h)).had

        value_is : unframe after (tree 32 s 0) fr ≡ done value
        unfolding value
        value_is = (was_done count (unframe after (tree 32 s 0) fr) m (answers ∙ ap outcome_of h)).is

        counted : count value ≡ m
        unfolding value
        counted = (was_done count (unframe after (tree 32 s 0) fr) m (answers ∙ ap outcome_of h)).told

        abbrev file : List ℕ
        file = value_file (tree 32 s 0) value

        file_length : length file ≡ m * 36
        file_length = length_value_file (tree 32 s 0) value ∙ ap (λ n. n * 36) counted

        unframed_is : unframed after s fr ≡ done file
        unfolding unframed
        unframed_is = rw (lowers p e, value_is) refl

        pub unframe_fits : Fits w64 (m * 36)
        unfolding type_in
        unframe_fits = let (l, f) = read (tree 32 s 0) fr value value_is in omega (arith, counted, few_value (lower_given p e) (frame_wide p e long) unframe_lowers fr l value f)

        pub unframe_no_room : {O : List ℕ} → length O < m * 36 → Delivers (unframed after s fr) O O (Err NoRoom)
        unframe_no_room {O} l = deliver_no_room (unframed after s fr) O file unframed_is (omega (arith, file_length))

        pub unframe_inside : Inside fr 0 (width (structural.standing 32 s 0))
        unframe_inside = whole_inside s E fr value (lower_given p e) value_is (frame_wide p e long)

        pub unframe_ready : (O : List ℕ) → m * 36 ≤ length O → Ready (standing 32 s 0 fr 0) O
        unframe_ready O l = whole_ready s E fr value (lower_given p e) value_is (omega (arith, file_length))

        pub unframe_done : {O O' : List ℕ} {i : ℕ} → m * 36 ≤ length O → Placed (standing 32 s 0 fr 0) O O' i → Delivers (unframed after s fr) O O' (Ok i)
        unframe_done {O} {O'} {i} l w = deliver_result (unframed after s fr) O O' file i unframed_is (omega (arith, file_length)) (whole_placed s E fr value (lower_given p e) value_is w)
