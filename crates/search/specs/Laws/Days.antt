-- The answers of the whole search, from those of its loops; and that a place which is the same in all frames lies inside each.
use Rattle.std.specs.Int.{div_ceil}
use Rattle.std.specs.Prelude.{◌≡◌, refl, Bool, true, false, List, ℕ, ◌+◌, ◌-◌, ◌*◌, ◌%◌, ◌/◌, ◌≤◌, ◌<◌, length, get_or, take, drop, Option as Optional, Some, None, Ok}
use Rattle.std.proofs.Common.{sym, ap, ◌∙◌, arith}
use Rattle.std.proofs.Math.Option.{none}
use Rattle.model.specs.Numbers.{no_bytes, day_length, path_odd}
use Rattle.model.specs.Outcome.{done}
use Rattle.model.specs.Lowering.{lower}
use Rattle.model.specs.Frames.{after, width, frame_bytes, frame_file}
use Rattle.model.specs.Operations.{lowering}
use Rattle.model.specs.DayFiles.{frame_at, frames_in, searchable, Matches}
use Rattle.model.specs.Calls.{Search}
use Rattle.model.proofs.Laws.Shapes.{reconstructs_shape}
use Rattle.model.proofs.Laws.Room.{reached_by}
use Rattle.model.proofs.Laws.TypeFiles.{byte_at}
use Rattle.model.proofs.Laws.Lowering.{known}
use Rattle.model.proofs.Laws.FrameFiles.{frame_read_written, length_frame_file, bytes_frame_file}
use Rattle.day_files.specs.Laws.Days.{MatchesAt, frame_at_bytes, row_18, row_19, row_13, no_row, searched_refused, searched_found, searched_none, cut_length}
use Rattle.reply.specs.Numbers.{number_of, found_at}
use Rattle.types.specs.Trees.{tree, type_in}
use Rattle.types.specs.Steps.{Given, given_within}
use Rattle.bits.specs.Bits.{Inside}
use Rattle.bits.specs.Laws.Integers.{bytes_each}
use Rattle.told.specs.Widths.{Wide}
use Rattle.accept.specs.Answers.{Lowered}
use Rattle.accept.specs.Laws.Whole.{rounded}
use Rattle.part.specs.declared.Spot.{Spot}
use Rattle.part.specs.Forms.{fixed_in}
use Rattle.part.specs.Holds.{Held}
use Rattle.part.specs.Laws.Fixed.{found_fixed}
use Rattle.part.specs.Laws.Holds.{holding_stands, holding_type}
use Rattle.edit.specs.Opened.{Opened, opened_holds, Arrived, arrived}
use Rattle.search.specs.Forms.{longest, Says, Stood, Ended}
use Rattle.search.specs.Laws.Looks.{value_opened, accepted_opened, not_said, stretch_matches, stretch_same}

-- a stretch inside frames of a size lies inside each as it is cut out
pub cut_inside : (size : ℕ) (day : List ℕ) (i bit w : ℕ) → i < frames_in size day → size ≤ longest → bit + w ≤ 8 * size → Inside (take (i * size + size - i * size) (drop (i * size) day)) bit w
cut_inside size day i bit w l m h = (rw (cut_length size day i l) h, omega arith)

-- the bytes for a width that the table tells
pub sized : {size w v : ℕ} → size ≡ div_ceil w 8 → w ≡ v → size ≡ (v + 7) / 8
sized s e = rounded _ s ∙ ap (λ w. (w + 7) / 8) e

-- a type that lowers has a value, so that some frame of it is accepted
pub record Sample (s E : List ℕ) : Type 0 where
  pub frame : List ℕ
  pub opened : Opened s E frame
  pub long : length frame ≡ frame_bytes (tree 32 s 0)

module _ {s : List ℕ} (l : Lowered s) {E W : List ℕ} (g : Given 32 false s E 0) (w : Wide s E W) (sb : (i : ℕ) → get_or s i 0 < 256) where
  lowers : lowering s ≡ done (tree 32 s 0)
  unfolding type_in
  lowers = l.lowers

  pub sample : Sample s E
  sample =
      let t = tree 32 s 0 in
      let q = known s t (bytes_each s sb) lowers in
      let x = reached_by (lower t) in
      let r = reconstructs_shape t q.lowers x.shape x.belongs in
      let fr = frame_file after t r.value in
      record {
        frame = fr;
        opened = value_opened l g w sb fr (λ i. byte_at fr i (bytes_frame_file after t r.value)) r.value (frame_read_written after t r.value r.valid);
        long = length_frame_file after t r.value r.valid;
      }

  pub sample_held : Held 32 s E 0 0
  sample_held = record { frame = sample.frame; holds = opened_holds sample.opened }

  -- the first width is the frame's
  pub size_is : (get_or W 0 0 + 7) / 8 ≡ frame_bytes (tree 32 s 0)
  size_is = let h = sample.opened.holding in ap (λ n. (n + 7) / 8) (w.right 32 0 (holding_stands h) ∙ ap width (holding_type h))

  -- it fits in the table of widths and in the longest frame
  pub first_width : (0 < length W) × (get_or W 0 0 ≤ 32768)
  first_width = let h = sample.opened.holding in let i = given_within h.given in let m = w.long in (omega arith, w.small 32 0 (holding_stands h))

  -- THE ROWS

  module _ (day path val : List ℕ) {size : ℕ} (e : size ≡ (get_or W 0 0 + 7) / 8) where
    size_same : size ≡ frame_bytes (tree 32 s 0)
    size_same = e ∙ size_is

    pub day_18 : size ≡ 0 → Search s day path val no_bytes none
    day_18 z = searched_refused after s day path val no_bytes (row_18 s day path lowers (sym size_same ∙ z))

    module _ (n : size ≡ 0 → ⊥) where
      not_zero : frame_bytes (tree 32 s 0) ≡ 0 → ⊥
      not_zero z = n (size_same ∙ z)

      pub day_19 : (length day % size ≡ 0 → ⊥) → Search s day path val day_length none
      day_19 f = searched_refused after s day path val day_length (row_19 s day path lowers not_zero (rw size_same at f))

      module _ (f : length day % size ≡ 0) where
        pub day_13 : (length path % 2 ≡ 0 → ⊥) → Search s day path val path_odd none
        day_13 o = searched_refused after s day path val path_odd (row_13 s day path lowers not_zero (rw size_same at f) o)

        pub day_good : length path % 2 ≡ 0 → searchable s day path ≡ done size
        day_good o = no_row s day path lowers not_zero (rw size_same at f) o ∙ ap done (sym size_same)

  -- A PLACE THAT IS THE SAME IN ALL FRAMES

  module _ (path : List ℕ) (even : length path % 2 ≡ 0) {x : Spot} (k : Some x ≡ fixed_in s E W path) where
    -- of every frame that is accepted
    pub fixed_arrived : {fr : List ℕ} (o : Opened s E fr) → Arrived s E fr path o x.at x.level x.bit
    fixed_arrived {fr} o = arrived w o path (found_fixed s E W path even k fr) refl

    pub fixed_given : Given x.level false s E x.at
    fixed_given = (fixed_arrived sample.opened).holding.given

    -- it lies inside each
    pub fixed_inside : {size : ℕ} → size ≡ (get_or W 0 0 + 7) / 8 → (x.at < length W) × (get_or W x.at 0 ≤ 32768) × (x.bit + get_or W x.at 0 ≤ 8 * size)
    fixed_inside {size} e =
        let h = (fixed_arrived sample.opened).holding in
        let i = w.right x.level x.at (holding_stands h) ∙ ap width (holding_type h) in
        let n = sample.long in
        let m = w.long in
        let j = given_within h.given in
        (omega arith, w.small x.level x.at (holding_stands h), omega (arith, h.inside.0, size_is))

  -- THE ANSWERS

  module _ (day path val : List ℕ) (db : (i : ℕ) → get_or day i 0 < 256) (vb : (i : ℕ) → get_or val i 0 < 256) {size : ℕ} (e : searchable s day path ≡ done size) where
    frame_bytes_each : (i : ℕ) → (j : ℕ) → get_or (frame_at size day i) j 0 < 256
    frame_bytes_each i j = byte_at (frame_at size day i) j (frame_at_bytes size day i (bytes_each day db))

    -- of a loop that looked at each frame as a whole
    pub led_ended : (r : Optional ℕ) → Ended (MatchesAt after s day path val size) (frames_in size day) r → Search s day path val (number_of (Ok r)) (found_at (Ok r))
    led_ended (Some i) (l, m) = searched_found after s day path val size e i l m
    led_ended None b = searched_none after s day path val size e b

    -- of the other, where the place is the same in all
    module _ (even : length path % 2 ≡ 0) {x : Spot} (k : Some x ≡ fixed_in s E W path) {bits : List ℕ} {is : Bool} (q : Says (tree x.level s x.at) val bits is) where
      -- no value is said
      pub fixed_none : is ≡ false → Search s day path val 0 none
      fixed_none z = searched_none after s day path val size e (record { none_yet = λ i _ m. not_said w (fixed_arrived path even k (accepted_opened l g w sb (frame_at size day i) (frame_bytes_each i) m.0)) val vb q z m })

      pub fixed_ended : is ≡ true → (r : Optional ℕ) → Ended (Stood s E day size x.bit (get_or W x.at 0) bits) (frames_in size day) r → Search s day path val (number_of (Ok r)) (found_at (Ok r))
      fixed_ended z r = go r
        where
          matches : (i : ℕ) → Stood s E day size x.bit (get_or W x.at 0) bits i → Matches after s (frame_at size day i) path val
          matches i h = stretch_matches w (fixed_arrived path even k h.opened) val vb q z sb (frame_bytes_each i) h.same

          stands : (i : ℕ) → Matches after s (frame_at size day i) path val → Stood s E day size x.bit (get_or W x.at 0) bits i
          stands i m =
              let o = accepted_opened l g w sb (frame_at size day i) (frame_bytes_each i) m.0 in
              record { opened = o; same = stretch_same w (fixed_arrived path even k o) val vb q z m }

          go : (r : Optional ℕ) → Ended (Stood s E day size x.bit (get_or W x.at 0) bits) (frames_in size day) r → Search s day path val (number_of (Ok r)) (found_at (Ok r))
          go (Some i) (l, h) = searched_found after s day path val size e i l (matches i h)
          go None b = searched_none after s day path val size e (record { none_yet = λ i l m. b.none_yet i l (stands i m) })
