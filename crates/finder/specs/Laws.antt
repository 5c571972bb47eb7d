-- What `find` knows at its answers: the line has room, and each piece goes on from the front before it.
use Rattle.std.proofs.Math.Path.{◌≡◌, refl, ap}
use Rattle.std.proofs.Common.{sym, ◌∙◌, arith, add-mul, mul-one, mul-le-mul_left, length-append, length-take-le}
use Rattle.std.specs.Prelude.{List, [], ◌++◌, take, IfSome, Option as Known, Option as Optional, Some, None, Result, Ok, Err}
use Rattle.std.specs.Int.{div_ceil}
use Rattle.std.specs.Option.{option_or}
use Rattle.std.specs.Result.{result_unwrap_or}
use Rattle.std.specs.Io.KnownBytes.{Consumes, IsAtEnd}
use Rattle.std.proofs.KnownBytes.{Consumes-nil, Consumes-trans, Consumes-whole}
use Rattle.std.proofs.Math.Option.{Option, none, some}
use Prim.Native.Nat.{ℕ, zero, suc, ◌+◌, ◌*◌, ◌^◌, ◌≤◌, ◌<◌}
use Rattle.std.proofs.Math.ListN.{length}
use Rattle.model.specs.Outcome.{Outcome, done, refused}
use Rattle.model.specs.Types.{Ty}
use Rattle.model.specs.Lowering.{lower}
use Rattle.model.specs.Structural.{type_records}
use Rattle.model.specs.Bytes.{bytes_for}
use Rattle.model.specs.Frames.{after, width, frame_bytes}
use Rattle.model.specs.Room.{longest_shape}
use Rattle.model.specs.Operations.{lowering, room, told_room}
use Rattle.model.specs.Calls.{Search, Room}
use Rattle.model.proofs.Laws.Sizes.{frame_limit}
use Rattle.model.proofs.Laws.Lowering.{small, lowers_not_large}
use Rattle.model.proofs.Laws.Numbered.{never_zero, room_row}
use Rattle.day_files.specs.Pieces.{Frames, both}
use Rattle.day_files.specs.Laws.Pieces.{both_refused, no_frames, found_inside, searched_both, front_accepted}
use Rattle.reply.specs.declared.Refusal.{Refusal}
use Rattle.reply.specs.declared.TypeRoom.{TypeRoom}
use Rattle.reply.specs.Numbers.{refusal_number, number_of, room_of, number_of, found_at}
use Rattle.structural.specs.Writing.{Wrote}
use Rattle.io.specs.Counts.{IsPrefixLen}
use Rattle.text.specs.Lines.{found_line, none_line, refusal_line}
use Rattle.text.proofs.Laws.Sizes.{found_short}
use Rattle.text.proofs.Laws.Refusals.{number_range, refusal_room}
use Rattle.text.proofs.Laws.Written.{cut_out, wrote_counts}
use Rattle.finder.specs.Says.{said, Tells, GoesOn, Sized, ReadOn, Kept, Answers}

-- THE LINE

-- that of a refusal, whose number is not 0
said_refusal : (n : ℕ) (index : Option ℕ) → 1 ≤ n → said n index ≡ refusal_line n
said_refusal zero index h = absurd (omega arith)
said_refusal (suc n) index h = refl

module _ (found : Result (Optional ℕ) Refusal) (out after : List ℕ) (r : ℕ) where
  pub say_found : (i : ℕ) → found ≡ Ok (Some i) → Wrote (found_line i) out after r → Wrote (said (number_of found) (found_at found)) out after r
  say_found i e w = rw e w

  pub say_none : found ≡ (Ok None) → Wrote none_line out after r → Wrote (said (number_of found) (found_at found)) out after r
  say_none e w = rw e w

  pub say_refused : (x : Refusal) → found ≡ Err x → Wrote (refusal_line (refusal_number x)) out after r → Wrote (said (number_of found) (found_at found)) out after r
  say_refused x e w = rw (e, said_refusal (refusal_number x) none (number_range x).0) w

-- each fits 27 bytes
pub found_counts : {i r : ℕ} {out after : List ℕ} → 27 ≤ length out → i < 2 ^ 64 → Wrote (found_line i) out after r → IsPrefixLen r after
found_counts {i} h l w = wrote_counts (omega (arith, found_short i l)) w

pub none_counts : {r : ℕ} {out after : List ℕ} → 27 ≤ length out → Wrote none_line out after r → IsPrefixLen r after
none_counts h w = wrote_counts (omega arith) w

pub refused_counts : (x : Refusal) {r : ℕ} {out after : List ℕ} → 27 ≤ length out → Wrote (refusal_line (refusal_number x)) out after r → IsPrefixLen r after
refused_counts x h w = wrote_counts (omega (arith, refusal_room x)) w

pub made_line : (found : Result (Optional ℕ) Refusal) {ty day path val out after : List ℕ} {r : ℕ} → Search ty day path val (number_of found) (found_at found) → Wrote (said (number_of found) (found_at found)) out after r → Tells ty day path val (take r after)
made_line found s w = record { number = number_of found; index = found_at found; keeps = s; line = cut_out w }

-- THE NEXT PIECE

module _ (ty piece path val : List ℕ) (k : ℕ) (so_far found : Result (Optional ℕ) Refusal) (b : Search ty piece path val (number_of found) (found_at found)) where
  joined : (n : ℕ) (index : Option ℕ) → number_of found ≡ n → found_at found ≡ index → (front : List ℕ) → Frames ty k front → Search ty front path val (number_of so_far) (found_at so_far) → Search ty (front ++ piece) path val n (both k n (found_at so_far) index)
  joined n index e g front f a = searched_both after ty path val k front piece f a (rw (e, g) at b)

  pub on_refused : (x : Refusal) → found ≡ Err x → GoesOn ty piece path val k so_far (Err x)
  on_refused x e = record { goes_on = λ front f a. rw (both_refused k (refusal_number x) (found_at so_far) none (number_range x).0) at (joined (refusal_number x) none (ap number_of e) (ap found_at e) front f a) }

  pub on_nowhere : found ≡ (Ok None) → GoesOn ty piece path val k so_far so_far
  on_nowhere e = record { goes_on = λ front f a. go so_far (front_accepted after ty path val k front piece f a (rw e at b)) (joined 0 none (ap number_of e) (ap found_at e) front f a) }
    where
      go : {day : List ℕ} (s : Result (Optional ℕ) Refusal) → number_of s ≡ 0 → Search ty day path val 0 (both k 0 (found_at s) none) → Search ty day path val (number_of s) (found_at s)
      go (Ok (Some i)) z h = h
      go (Ok None) z h = h
      go (Err x) z h = absurd (omega (arith, (number_range x).0))

  module _ (j : ℕ) (e : found ≡ Ok (Some j)) where
    -- it can be counted
    pub index_fits : k + length piece < 2 ^ 64 → k + j < 2 ^ 64
    index_fits h = omega (arith, found_inside after ty path val (rw e at b))

    first_of : (s : Result (Optional ℕ) Refusal) → both k 0 (found_at s) (some j) ≡ found_at (Ok (option_or (result_unwrap_or s None) (Some (k + j))))
    first_of (Ok (Some i)) = refl
    first_of (Ok None) = refl
    first_of (Err x) = refl

    pub on_found : GoesOn ty piece path val k so_far (Ok (option_or (result_unwrap_or so_far None) (Some (k + j))))
    on_found = record { goes_on = λ front f a. rw (first_of so_far) at (joined 0 (some j) (ap number_of e) (ap found_at e) front f a) }

-- THE FRAME'S SIZE

-- of a type that lowers: its lowered type has at most 65,536 records, so its frame at most 4,096 bytes
size_most : (ty : List ℕ) (t : Ty) → lowering ty ≡ done t → frame_bytes t ≤ 4096
size_most ty t e = frame_limit (lower t) (small t (lowers_not_large ty t e))

-- the bytes of so many bits
rounded : (n : ℕ) → div_ceil n 8 ≡ bytes_for n
rounded n = omega arith

module _ (ty : List ℕ) (r : Result TypeRoom Refusal) (h : Room ty (number_of r) (room_of r).lowered (room_of r).bits (room_of r).shape) where
  -- what is told of a type that lowers
  told_bits : (t : Ty) → lowering ty ≡ done t → (number_of r ≡ 0) × ((room_of r).bits ≡ width (lower t))
  unfolding room told_room
  told_bits t e = (ap (λ (a : ℕ × ℕ × ℕ × ℕ). a.0) told, ap (λ (a : ℕ × ℕ × ℕ × ℕ). a.2) told)
    where
      told : ◌≡◌ {A = ℕ × ℕ × ℕ × ℕ} (number_of r, (room_of r).lowered, (room_of r).bits, (room_of r).shape) (0, length (type_records (lower t)), width (lower t), longest_shape (lower t))
      told = rw e at h

  -- a type of which something is told lowers
  lowers : (told : TypeRoom) → r ≡ Ok told → (t : Ty) × (lowering ty ≡ done t)
  unfolding room told_room
  lowers told e = go (lowering ty) refl
    where
      go : (o : Outcome Ty) → lowering ty ≡ o → (t : Ty) × (lowering ty ≡ done t)
      go (done t) f = (t, f)
      go (refused m) f =
          let k : room ty ≡ refused m = rw f refl in
          let z : 0 ≡ m = ap number_of (sym e) ∙ ap (λ (a : ℕ × ℕ × ℕ × ℕ). a.0) (rw k at h) in
          absurd (omega (arith, never_zero (room_row ty) refl m k))

  size_told : (t : Ty) → lowering ty ≡ done t → div_ceil (room_of r).bits 8 ≡ frame_bytes t
  size_told t f = ap (λ n. div_ceil n 8) (told_bits t f).1 ∙ rounded (width (lower t))

  -- of one that was refused 0 bits are told, and nothing is asked
  pub told_size : Sized ty (div_ceil (room_of r).bits 8)
  told_size = record { size_is = size_told; most = go r refl }
    where
      go : (s : Result TypeRoom Refusal) → r ≡ s → div_ceil (room_of r).bits 8 ≤ 4096
      go (Ok told) e = let (t, f) = lowers told e in omega (arith, size_told t f, size_most ty t f)
      go (Err x) e = rw e (omega arith)

-- FRAMES AT ONCE

-- the front of a buffer that is lent for them
module _ (count size len : ℕ) (buf : List ℕ) (h : count * size ≤ len) (l : len ≡ length buf) where
  pub cut_length : count * size ≡ length (take (count * size) buf)
  cut_length = sym (length-take-le (count * size) buf (omega arith))

  pub cut_enough : (size ≡ 0 → ⊥) → count ≤ length (take (count * size) buf)
  cut_enough z = let p : 1 ≤ size = omega arith in omega (arith, cut_length, mul-le-mul_left count p, mul-one count)

  pub cut_frames : (ty : List ℕ) → Sized ty size → Frames ty count (take (count * size) buf)
  cut_frames ty s = record { as_long = λ t e. sym cut_length ∙ ap (λ n. count * n) (s.size_is t e) }

-- PIECE BY PIECE

-- the piece that a read put to the front of the buffer
module _ (had left : Known (List ℕ)) (ty path val : List ℕ) (k : ℕ) (so_far further : Result (Optional ℕ) Refusal) (n : ℕ) (buf : List ℕ) where
  pub read_piece : (most : ℕ) → IsPrefixLen n buf → length buf ≡ most → GoesOn ty (take n buf) path val k so_far further → Consumes had left (take n buf) → (n < most → IsAtEnd left) → ReadOn had left most ty path val k so_far n further
  read_piece most p l g t e = record { piece = take n buf; as_long = p.1; in_buffer = omega (arith, p.0); goes_on = g; taken = t; ended = e }

module _ (ty path val : List ℕ) where
  pub kept_first : (had : Known (List ℕ)) (found : Result (Optional ℕ) Refusal) → Search ty [] path val (number_of found) (found_at found) → Kept had had ty path val 0 found
  kept_first had found h = record { front = []; frames = no_frames ty; keeps = h; taken = Consumes-nil had }

  module _ (had mid left : Known (List ℕ)) (k : ℕ) (so_far : Result (Optional ℕ) Refusal) (most len : ℕ) (further : Result (Optional ℕ) Refusal) (a : Kept had mid ty path val k so_far) (r : ReadOn mid left most ty path val k so_far len further) where
    both_keep : Search ty (a.front ++ r.piece) path val (number_of further) (found_at further)
    both_keep = r.goes_on.goes_on a.front a.frames a.keeps

    both_taken : Consumes had left (a.front ++ r.piece)
    both_taken = Consumes-trans had mid left a.front r.piece a.taken r.taken

    -- the piece was the last
    pub kept_answers : (len ≡ most → ⊥) → Answers had left ty path val further
    kept_answers apart = record { day = a.front ++ r.piece; keeps = both_keep; taken = both_taken; ended = r.ended (omega (arith, r.in_buffer)) }

    -- it was whole
    pub kept_more : (count : ℕ) (piece : List ℕ) → Frames ty count piece → len ≡ length piece → Kept had left ty path val (k + count) further
    kept_more count piece f l = record {
      front = a.front ++ r.piece;
      frames = record { as_long = λ t e. length-append a.front r.piece ∙ longer t e };
      keeps = both_keep;
      taken = both_taken;
    }
      where
        longer : (t : Ty) → lowering ty ≡ done t → length a.front + length r.piece ≡ (k + count) * frame_bytes t
        longer t e = omega (arith, a.frames.as_long t e, f.as_long t e, r.as_long, add-mul k count (frame_bytes t))

  -- a reader at its end gave all the bytes that it had
  pub answers_known : (had left : Known (List ℕ)) (found : Result (Optional ℕ) Refusal) → Answers had left ty path val found → IfSome had (λ day. Search ty day path val (number_of found) (found_at found))
  answers_known had left found a = Consumes-whole had left a.day (λ day. Search ty day path val (number_of found) (found_at found)) a.taken a.ended a.keeps
