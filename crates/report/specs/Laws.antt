-- What `job` prints, by what its writer knows at each of its answers.
use Rattle.std.specs.Prelude.{◌≡◌, false, List, ℕ, ◌<◌, ◌≤◌, length, take, Result, Ok, Err}
use Rattle.std.proofs.Math.Path.{refl}
use Rattle.std.proofs.Common.{arith}
use borrow.Author.Tests.{lt-ltb, le-ltb}
use Rattle.model.specs.Structural.{type_records}
use Rattle.model.specs.Lowering.{lower}
use Rattle.model.specs.Values.{inject}
use Rattle.model.specs.ShapeFiles.{shape_file}
use Rattle.model.specs.Frames.{after, frame_bytes, frame_file}
use Rattle.model.specs.Operations.{lowered, shaped, framed}
use Rattle.model.proofs.Laws.FrameFiles.{length_frame_file}
use Rattle.model.proofs.Laws.Shapes.{inject_belongs}
use Rattle.model.proofs.Laws.Sizes.{shape_size, length_type_records, frame_limit}
use Rattle.reply.specs.declared.Refusal.{Refusal}
use Rattle.reply.specs.declared.Refusal.TheVariants as refusal
use Rattle.reply.specs.Numbers.{refusal_number}
use Rattle.types.specs.Trees.{tree}
use Rattle.types.specs.Lows.{low}
use Rattle.structural.specs.Forms as structural
use Rattle.structural.specs.Writing.{Wrote}
use Rattle.table.specs.Tabled.{Tabled}
use Rattle.value.specs.Check.{file_answer}
use Rattle.told.specs.Forms as told
use Rattle.shape.specs.Forms as shape
use Rattle.shape.specs.Laws.Whole.{value_ready, value_shaped}
use Rattle.frame.specs.Forms as frame
use Rattle.frame.proofs.Laws.Files.{frame_room, frame_filed}
use Rattle.text.specs.Lines.{job_lines, refusal_line}
use Rattle.text.proofs.Laws.Sizes.{job_short}
use Rattle.text.proofs.Laws.Refusals.{refusal_room}
use Rattle.text.proofs.Laws.Written.{cut_out, wrote_counts}
use Rattle.io.specs.Counts.{IsPrefixLen}
use Rattle.delivery.specs.Lowers.{lower_given, lowers, lowers_small}
use Rattle.delivery.specs.Values.{value_refused, value_read, value_valid}
use Rattle.delivery.specs.Frames.{frame_wide}
use Rattle.report.specs.Job.{most, job, job_text, Accepted, Reported}

module _ {s E W val : List ℕ} (a : Accepted s E W val) where
  abbrev records : List ℕ
  records = type_records (low 32 false s 0)

  abbrev shaped_as : List ℕ
  shaped_as = shape_file (inject (tree 32 s 0) a.value)

  abbrev framed_as : List ℕ
  framed_as = frame_file after (tree 32 s 0) a.value

  -- the three lines are printed
  pub three_lines : job_text s val ≡ job_lines records shaped_as framed_as
  unfolding job_text job lowered shaped framed low
  three_lines = rw (le-ltb most (length s) a.short_type, le-ltb most (length val) a.short_value, a.lowers, a.says) refl

  -- THE RESULTS ARE SMALL

  pub records_short : length records ≤ 65536
  unfolding low
  records_short = a.small

  pub shape_short : length shaped_as ≤ 65536
  shape_short = omega (arith, shape_size (inject_belongs (tree 32 s 0) a.value (value_valid (tree 32 s 0) val a.value a.says)), length_type_records (lower (tree 32 s 0)), a.small)

  bytes_short : frame_bytes (tree 32 s 0) ≤ 4096
  bytes_short = frame_limit (lower (tree 32 s 0)) a.small

  pub frame_short : length framed_as ≤ 4096
  frame_short = omega (arith, length_frame_file after (tree 32 s 0) a.value (value_valid (tree 32 s 0) val a.value a.says), bytes_short)

  pub lines_short : length (job_lines records shaped_as framed_as) ≤ 140000
  lines_short = job_short records shaped_as framed_as records_short shape_short frame_short

  pub text_short : length (job_text s val) ≤ 140000
  text_short = rw three_lines lines_short

  -- ROOM FOR THEM

  pub lowered_ready : (O : List ℕ) → 65536 ≤ length O → structural.Room (low 32 false s 0) O
  lowered_ready O l = omega (arith, records_short)

  pub shape_ready : (O : List ℕ) → 65536 ≤ length O → shape.Ready (told.standing 32 s val 0 0) O
  shape_ready O l = value_ready s E val a.value a.given a.says O (omega (arith, shape_short))

  pub frame_ready : (O : List ℕ) → 4096 ≤ length O → frame.Room (structural.standing 32 s 0) (told.standing 32 s val 0 0) O
  frame_ready O l = frame_room val a.given a.value a.says (omega (arith, bytes_short))

  pub shape_fits : (O : List ℕ) → 65536 ≤ length O → length shaped_as ≤ length O
  shape_fits O l = omega (arith, shape_short)

  pub frame_fits : (O : List ℕ) → 4096 ≤ length O → length framed_as ≤ length O
  frame_fits O l = omega (arith, frame_short)

  -- WHAT THE BUFFERS HOLD

  pub shape_held : {O O' : List ℕ} {n : ℕ} → shape.Shaped (told.standing 32 s val 0 0) O O' n → Wrote shaped_as O O' n
  shape_held w = value_shaped s E val a.value a.given a.says w

  pub frame_held : {O O' : List ℕ} {n : ℕ} → frame.Filed (structural.standing 32 s 0) (told.standing 32 s val 0 0) O O' n → Wrote framed_as O O' n
  frame_held w = (frame_filed val a.given a.value a.says w).1

  -- the three lines are written from what the buffers hold
  pub lines_written : {A A' B B' C C' O O' : List ℕ} {n m k r : ℕ} → Wrote records A A' n → Wrote shaped_as B B' m → Wrote framed_as C C' k → Wrote (job_lines (take n A') (take m B') (take k C')) O O' r → Wrote (job_text s val) O O' r
  lines_written u v w x = rw (three_lines, ← cut_out u, ← cut_out v, ← cut_out w) x

  pub lines_room : {A A' B B' C C' : List ℕ} {n m k : ℕ} → Wrote records A A' n → Wrote shaped_as B B' m → Wrote framed_as C C' k → length (job_lines (take n A') (take m B') (take k C')) ≤ 140000
  lines_room u v w = rw (cut_out u, cut_out v, cut_out w) lines_short

-- THE ROWS

-- a line that is printed was written, and counts bytes of the buffer
pub text_written : (s val : List ℕ) {xs out o : List ℕ} {n : ℕ} → job_text s val ≡ xs → length xs ≤ length out → Wrote xs out o n → Reported s val out o n
text_written s val e h w = record { wrote = rw e w; counts = wrote_counts h w }

pub text_counts : (s val : List ℕ) {out o : List ℕ} {n : ℕ} → length (job_text s val) ≤ length out → Wrote (job_text s val) out o n → Reported s val out o n
text_counts s val h w = record { wrote = w; counts = wrote_counts h w }

-- as the two promises of `report`
pub reported : {s val out o : List ℕ} {n : ℕ} → Reported s val out o n → Wrote (job_text s val) out o n × IsPrefixLen n o
reported r = (r.wrote, r.counts)

-- a refusal is printed
pub refusal_written : (s val : List ℕ) (x : Refusal) {out o : List ℕ} {n : ℕ} → job_text s val ≡ refusal_line (refusal_number x) → 140000 ≤ length out → Wrote (refusal_line (refusal_number x)) out o n → Reported s val out o n
refusal_written s val x e h w = text_written s val e (omega (arith, refusal_room x)) w

module _ (s val : List ℕ) where
  pub long_type : most < length s → job_text s val ≡ refusal_line (refusal_number refusal.NoRoom)
  unfolding job_text job
  long_type h = rw (lt-ltb most (length s) h) refl

  pub long_value : length s ≤ most → most < length val → job_text s val ≡ refusal_line (refusal_number refusal.NoRoom)
  unfolding job_text job
  long_value l h = rw (le-ltb most (length s) l, lt-ltb most (length val) h) refl

  module _ (l : length s ≤ most) (m : length val ≤ most) {E S W : List ℕ} {r : Result ℕ Refusal} (p : Tabled s r E S W) where
    pub bad_type : {x : Refusal} → r ≡ Err x → job_text s val ≡ refusal_line (refusal_number x)
    unfolding job_text job lowered
    bad_type e = rw (le-ltb most (length s) l, le-ltb most (length val) m, p.answer, e) refl

    module _ {n : ℕ} (e : r ≡ Ok n) {c : Result (ℕ × ℕ) Refusal} (k : c ≡ file_answer (tree 32 s 0) val) where
      pub bad_value : {x : Refusal} → c ≡ Err x → job_text s val ≡ refusal_line (refusal_number x)
      unfolding job_text job lowered shaped
      bad_value h = rw (le-ltb most (length s) l, le-ltb most (length val) m, lowers p e, value_refused (tree 32 s 0) val k h) refl

      pub accepted : {i size : ℕ} → c ≡ Ok (i, size) → 1024 ≤ length W → Accepted s E W val
      accepted h w = let v = value_read (tree 32 s 0) val k h in record {
        short_type = l;
        short_value = m;
        given = lower_given p e;
        wide = frame_wide p e w;
        lowers = lowers p e;
        small = lowers_small p e;
        value = v.had;
        says = v.is;
      }
