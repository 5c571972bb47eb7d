-- What `write_frame` knows at each of its answers: rows 1 to 7 and the table as `lower`, rows 15, 16, 21 and 22 as `write_shape`, and the frame's length by the table's width.
use Rattle.std.specs.Prelude.{◌≡◌, List, ℕ, ◌+◌, ◌/◌, ◌<◌, ◌≤◌, length, get_or, Result, Ok, Err}
use Rattle.std.proofs.Math.Path.{refl, ap}
use Rattle.std.proofs.Common.{sym, ◌∙◌, arith, Fits}
use Rattle.std.specs.Int.{w64}
use Rattle.model.specs.Outcome.{done}
use Rattle.model.specs.Bytes.{bytes_for}
use Rattle.model.specs.Lowering.{lower}
use Rattle.model.specs.Values.{Value}
use Rattle.model.specs.ValueFiles.{value_of}
use Rattle.model.specs.Frames.{after, width, frame_file}
use Rattle.model.specs.Operations.{framed}
use Rattle.model.proofs.Laws.FrameFiles.{length_frame_file}
use Rattle.reply.specs.declared.Refusal.{Refusal}
use Rattle.reply.specs.declared.Refusal.TheVariants.{NoRoom}
use Rattle.types.specs.Trees.{tree}
use Rattle.types.specs.Lows.{low}
use Rattle.structural.specs.Forms as structural
use Rattle.structural.proofs.Laws.Forms.{stands, standing_is}
use Rattle.table.specs.Tabled.{Tabled}
use Rattle.value.specs.Check.{file_answer}
use Rattle.told.specs.Forms as told
use Rattle.told.specs.Widths.{Wide}
use Rattle.told.specs.Laws.Widths.{tabled_wide}
use Rattle.frame.specs.Forms.{Room, Filed}
use Rattle.frame.proofs.Laws.Files.{frame_room, frame_filed}
use Rattle.delivery.specs.Delivering.{Delivers, deliver_refusal, deliver_no_room, deliver_result}
use Rattle.delivery.specs.Values.{value_refused, value_read, value_valid}
use Rattle.delivery.specs.Lowers.{lower_given, lowers}

module _ {s E S W : List ℕ} {r : Result ℕ Refusal} (p : Tabled s r E S W) where
  pub frame_refused : (val : List ℕ) {O : List ℕ} {x : Refusal} → r ≡ Err x → Delivers (framed after s val) O O (Err x)
  unfolding framed
  frame_refused val {O} {x} e = deliver_refusal (framed after s val) O x (rw (p.answer, e) refl)

  module _ {n : ℕ} (e : r ≡ Ok n) where
    module _ (long : 1024 ≤ length W) where
      pub frame_wide : Wide s E W
      frame_wide = tabled_wide p e long

      -- the table's first width is the type's
      pub whole_width : get_or W 0 0 ≡ width (lower (tree 32 s 0))
      unfolding low
      whole_width = let g = lower_given p e in frame_wide.right 32 0 (stands g) ∙ ap width (standing_is g)

      pub width_small : get_or W 0 0 ≤ 32768
      width_small = frame_wide.small 32 0 (stands (lower_given p e))

      pub width_fits : Fits w64 (get_or W 0 0 + 7)
      width_fits = omega (arith, width_small)

    module _ (val : List ℕ) {c : Result (ℕ × ℕ) Refusal} (k : c ≡ file_answer (tree 32 s 0) val) where
      pub frame_bad_value : {O : List ℕ} {x : Refusal} → c ≡ Err x → Delivers (framed after s val) O O (Err x)
      unfolding framed
      frame_bad_value {O} {x} h = deliver_refusal (framed after s val) O x (rw (lowers p e, value_refused (tree 32 s 0) val k h) refl)

      module _ {i size : ℕ} (h : c ≡ Ok (i, size)) (long : 1024 ≤ length W) where
        -- the value that the file says
        value : Value (tree 32 s 0)
        value = (value_read (tree 32 s 0) val k h).had

        value_is : value_of (tree 32 s 0) val ≡ done value
        unfolding value
        value_is = (value_read (tree 32 s 0) val k h).is

        abbrev file : List ℕ
        file = frame_file after (tree 32 s 0) value

        file_length : length file ≡ (get_or W 0 0 + 7) / 8
        file_length = length_frame_file after (tree 32 s 0) value (value_valid (tree 32 s 0) val value value_is) ∙ ap bytes_for (sym (whole_width long))

        framed_is : framed after s val ≡ done file
        unfolding framed
        framed_is = rw (lowers p e, value_is) refl

        pub frame_no_room : {O : List ℕ} → length O < (get_or W 0 0 + 7) / 8 → Delivers (framed after s val) O O (Err NoRoom)
        frame_no_room {O} l = deliver_no_room (framed after s val) O file framed_is (omega (arith, file_length))

        pub frame_ready : (O : List ℕ) → (get_or W 0 0 + 7) / 8 ≤ length O → Room (structural.standing 32 s 0) (told.standing 32 s val 0 0) O
        frame_ready O l = frame_room val (lower_given p e) value value_is (rw (← whole_width long) l)

        pub frame_done : {O O' : List ℕ} {m : ℕ} → (get_or W 0 0 + 7) / 8 ≤ length O → Filed (structural.standing 32 s 0) (told.standing 32 s val 0 0) O O' m → Delivers (framed after s val) O O' (Ok m)
        frame_done {O} {O'} {m} l w = deliver_result (framed after s val) O O' file m framed_is (omega (arith, file_length)) (frame_filed val (lower_given p e) value value_is w).1
