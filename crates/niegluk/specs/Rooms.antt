-- R-1 of 02, said of calls: what a call of `room` tells of every call of `lower`, `write_frame` and `write_shape` with that type, and a call of `shape_records` of every call of `write_shape` with those files,
-- whatever their buffers. So a program that lends as many bytes is never refused for its buffer.
-- A corollary of what is promised of each call (`Calls`) and of the model's laws. Every list here is what a slice of bytes held.
use Rattle.std.proofs.Math.Path.{◌≡◌, refl, sym, ap}
use Rattle.std.proofs.Common.{◌∙◌, arith}
use Rattle.std.specs.Prelude.{false, ℕ, ◌≤◌}
use Rattle.std.proofs.lemmas.Bool.{false≢true}
use mathlib.Core.List.{List, []}
use Rattle.std.proofs.Math.ListN.{length}
use Rattle.model.specs.Numbers.{no_room}
use Rattle.model.specs.Outcome.{Outcome, done, refused, ◌>>=◌}
use Rattle.model.specs.Options.{one_of}
use Rattle.model.specs.Bytes.{Bytes, bytes_for}
use Rattle.model.specs.Structural.{type_records}
use Rattle.model.specs.Types.{Ty}
use Rattle.model.specs.Lowering.{lower}
use Rattle.model.specs.Frames.{after, width}
use Rattle.model.specs.Room.{TypeRoom}
use Rattle.model.specs.Operations.{lowering, lowered, room, shaped, shape_room, framed, delivered, told_room, told_count}
use Rattle.model.specs.Calls.{Lower, Room, WriteShape, ShapeRecords, WriteFrame, Gives, Makes}
use Rattle.model.proofs.Laws.Outcome.{done_injective, outcome_step}
use Rattle.model.proofs.Laws.Delivered.{Answer, parts, refuses, makes, Told, gave, withheld, denied, told}
use Rattle.model.proofs.Laws.Numbered.{Within, never_zero, shaped_row, room_row, shape_room_row, framed_row}
use Rattle.model.proofs.Laws.FrameFiles.{length_frame, length_frame_file}
use Rattle.model.proofs.Laws.Lowering.{known}
use Rattle.model.proofs.Laws.Operations.{framed_read}
use Rattle.model.proofs.Laws.Room.{Tells, room_tells, room_refuses}

-- A CALL AND A NUMBER OF BYTES

-- an accepted call gave at most so many bytes, and with room for so many none was refused for its buffer
pub record AtMost (size : ℕ) (before : List ℕ) (n len : ℕ) : Type 0 where
  pub fits : n ≡ 0 → len ≤ size
  pub never_no_room : size ≤ length before → n ≡ no_room → ⊥

-- no refusal has a number that is no row
never : {A : Type 0} {rows : List ℕ} {o : Outcome A} → Within rows o → (k : ℕ) → one_of k rows ≡ false → (n : ℕ) → o ≡ refused n → n ≡ k → ⊥
never {rows = rows} w k z n h e = false≢true (sym z ∙ ap (λ j. one_of j rows) (sym e) ∙ w.refuses n h)

at_most : {rows : List ℕ} (o : Outcome (List ℕ)) → Within rows o → one_of no_room rows ≡ false → (size : ℕ) → ((file : List ℕ) → o ≡ done file → length file ≤ size) → (before : List ℕ) (n len : ℕ) (left : List ℕ) → ◌≡◌ {A = Answer} (n, len, left) (delivered o before) → AtMost size before n len
at_most o w z size short before n len left h = go (told o before n len left h)
  where
    go : Told o before n len left → AtMost size before n len
    go (gave file e l (a, k, _)) = record { fits = λ _. omega (arith, short file e); never_no_room = λ _ i. omega arith }
    go (withheld file e l (a, k, _)) = record { fits = λ i. omega arith; never_no_room = λ m _. omega (arith, short file e) }
    go (denied m e (a, k, _)) = record { fits = λ _. omega arith; never_no_room = λ _ i. never w no_room z m e (sym a ∙ i) }

-- every call with this operation is refused with this number, and its buffer is as it was
abbrev pub Refuses : (List ℕ → ℕ → ℕ → List ℕ → Type 0) → ℕ → Type 0
Refuses Call n = (before : List ℕ) (m len : ℕ) (left : List ℕ) → Call before m len left → (m ≡ n) × (len ≡ 0) × (left ≡ before)

-- ROOM

-- what is told without a buffer, of a result and of a refusal
data RoomTold (o : Outcome TypeRoom) (n low bits most : ℕ) : Type 0 where
  room_given : (r : TypeRoom) → o ≡ done r → (n ≡ 0) × (low ≡ r.lowered) × (bits ≡ r.bits) × (most ≡ r.shape) → RoomTold o n low bits most
  room_denied : (m : ℕ) → o ≡ refused m → (n ≡ m) × (low ≡ 0) × (bits ≡ 0) × (most ≡ 0) → RoomTold o n low bits most

four : (x y : ℕ × ℕ × ℕ × ℕ) → x ≡ y → (x.0 ≡ y.0) × (x.1 ≡ y.1) × (x.2 ≡ y.2) × (x.3 ≡ y.3)
four x y h = (ap (λ (a : ℕ × ℕ × ℕ × ℕ). a.0) h, ap (λ (a : ℕ × ℕ × ℕ × ℕ). a.1) h, ap (λ (a : ℕ × ℕ × ℕ × ℕ). a.2) h, ap (λ (a : ℕ × ℕ × ℕ × ℕ). a.3) h)

room_told : (o : Outcome TypeRoom) (n low bits most : ℕ) → ◌≡◌ {A = ℕ × ℕ × ℕ × ℕ} (n, low, bits, most) (told_room o) → RoomTold o n low bits most
unfolding told_room
room_told (done r) n low bits most h = room_given r refl (four _ _ h)
room_told (refused m) n low bits most h = room_denied m refl (four _ _ h)

lowered_as : (ty : List ℕ) (t : Ty) → lowering ty ≡ done t → lowered ty ≡ done (type_records (lower t))
unfolding lowered
lowered_as ty t k = rw k refl

module _ (ty : List ℕ) (b : Bytes ty) (n low bits most : ℕ) (h : Room ty n low bits most) where
  -- a call that was refused told three times 0, and every call of `lower` is refused with its number
  pub room_refused : (n ≡ 0 → ⊥) → (low ≡ 0) × (bits ≡ 0) × (most ≡ 0) × Refuses (Lower ty) n
  room_refused z = go (room_told (room ty) n low bits most h)
    where
      go : RoomTold (room ty) n low bits most → (low ≡ 0) × (bits ≡ 0) × (most ≡ 0) × Refuses (Lower ty) n
      go (room_given r e (a, _, _, _)) = absurd (z a)
      go (room_denied m e (a, x, y, w)) = (x, y, w, λ before i len left k. parts _ _ (k ∙ refuses (lowered ty) n before ((room_refuses ty n).0 (e ∙ ap {B = Outcome TypeRoom} refused (sym a)))))

  -- of a call that was accepted
  module _ (z : n ≡ 0) where
    tells : Tells ty (record { lowered = low; bits = bits; shape = most })
    tells = go (room_told (room ty) n low bits most h)
      where
        go : RoomTold (room ty) n low bits most → Tells ty (record { lowered = low; bits = bits; shape = most })
        go (room_given r e (_, x, y, w)) = rw (x, y, w) (room_tells ty b r e)
        go (room_denied m e (a, _, _, _)) = absurd (omega (arith, never_zero (room_row ty) refl m e))

    -- every call of `lower` gives one file, of as many bytes as it told
    pub room_lowered : (file : List ℕ) × (length file ≡ low) × ((before : List ℕ) (m len : ℕ) (left : List ℕ) → Lower ty before m len left → Gives file before m len left)
    unfolding room
    room_lowered = go (room_told (room ty) n low bits most h)
      where
        go : RoomTold (room ty) n low bits most → (file : List ℕ) × (length file ≡ low) × ((before : List ℕ) (m len : ℕ) (left : List ℕ) → Lower ty before m len left → Gives file before m len left)
        go (room_given r e _) =
            let (t, k, _) = outcome_step (lowering ty) _ r e in
            let i = lowered_as ty t k in
            (type_records (lower t), tells.lowered_is (type_records (lower t)) i, λ before m len left c. makes (λ _. lowered ty) [] (type_records (lower t)) i before m len left c)
        go (room_denied m e (a, _, _, _)) = absurd (omega (arith, never_zero (room_row ty) refl m e))

    -- no accepted call of `write_shape` gave more, and one lent as many bytes is never refused for its buffer
    pub room_shaped : (val : List ℕ) → Bytes val → (before : List ℕ) (m len : ℕ) (left : List ℕ) → WriteShape ty val before m len left → AtMost most before m len
    room_shaped val c = at_most (shaped ty val) (shaped_row ty val) refl most (λ file e. tells.exceeded_by_none val file c e)

    -- and some value's calls give as many
    pub room_reached : (val : List ℕ) × (file : List ℕ) × Bytes val × (length file ≡ most) × Makes (WriteShape ty) val file
    room_reached = let (val, file, c, e, l) = tells.reached in (val, file, c, l, makes (shaped ty) val file e)

    -- a frame has as many bytes as hold the bits: no accepted call of `write_frame` gave another length, and one lent as many bytes is never refused for its buffer
    frames : (val file : List ℕ) → Bytes val → framed after ty val ≡ done file → length file ≡ bytes_for bits
    unfolding framed
    frames val file c e =
        let (t, k, _) = outcome_step (lowering ty) _ file e in
        let q = known ty t b k in
        let o = framed_read after ty t k q val file c e in
        let w : bits ≡ width (lower t) = sym (tells.frame_is after t k o.value o.valid) ∙ length_frame after t o.value o.valid in
        ap length o.frame_is ∙ length_frame_file after t o.value o.valid ∙ ap bytes_for (sym w)

    pub room_framed : (val : List ℕ) → Bytes val → (before : List ℕ) (m len : ℕ) (left : List ℕ) → WriteFrame ty val before m len left → AtMost (bytes_for bits) before m len × (m ≡ 0 → len ≡ bytes_for bits)
    room_framed val c before m len left k = (at_most (framed after ty val) (framed_row after ty val) refl (bytes_for bits) (λ file e. omega (arith, frames val file c e)) before m len left k, λ i. go i (told (framed after ty val) before m len left k))
      where
        go : m ≡ 0 → Told (framed after ty val) before m len left → len ≡ bytes_for bits
        go i (gave file e l (_, x, _)) = x ∙ frames val file c e
        go i (withheld file e l (a, _, _)) = absurd (omega arith)
        go i (denied j e (a, _, _)) = absurd (omega (arith, never_zero (framed_row after ty val) refl j e))

-- THE RECORDS OF ONE VALUE'S SHAPE

data CountTold (o : Outcome ℕ) (n k : ℕ) : Type 0 where
  count_given : (r : ℕ) → o ≡ done r → (n ≡ 0) × (k ≡ r) → CountTold o n k
  count_denied : (m : ℕ) → o ≡ refused m → (n ≡ m) × (k ≡ 0) → CountTold o n k

two : (x y : ℕ × ℕ) → x ≡ y → (x.0 ≡ y.0) × (x.1 ≡ y.1)
two x y h = (ap (λ (a : ℕ × ℕ). a.0) h, ap (λ (a : ℕ × ℕ). a.1) h)

count_told : (o : Outcome ℕ) (n k : ℕ) → ◌≡◌ {A = ℕ × ℕ} (n, k) (told_count o) → CountTold o n k
unfolding told_count
count_told (done r) n k h = count_given r refl (two _ _ h)
count_told (refused m) n k h = count_denied m refl (two _ _ h)

module _ (ty val : List ℕ) (n k : ℕ) (h : ShapeRecords ty val n k) where
  -- of a call that was accepted, every call of `write_shape` gives one file, of as many bytes as it told
  pub records_given : n ≡ 0 → (file : List ℕ) × (length file ≡ k) × Makes (WriteShape ty) val file
  unfolding shape_room
  records_given z = go (count_told (shape_room ty val) n k h)
    where
      go : CountTold (shape_room ty val) n k → (file : List ℕ) × (length file ≡ k) × Makes (WriteShape ty) val file
      go (count_given r e (_, x)) = let (file, i, j) = outcome_step (shaped ty val) _ r e in (file, done_injective (length file) r j ∙ sym x, makes (shaped ty) val file i)
      go (count_denied m e (a, _)) = absurd (omega (arith, never_zero (shape_room_row ty val) refl m e))

  -- one that was refused told 0, and every call of `write_shape` is refused with its number
  pub records_refused : (n ≡ 0 → ⊥) → (k ≡ 0) × Refuses (WriteShape ty val) n
  unfolding shape_room
  records_refused z = go (count_told (shape_room ty val) n k h)
    where
      inner : (o : Outcome (List ℕ)) (m : ℕ) → (◌>>=◌ {B = ℕ} o (λ shape. done (length shape))) ≡ refused m → o ≡ refused m
      inner (done x) m e = absurd (let q : ◌≡◌ {A = ℕ} 0 1 = cc in omega arith)
      inner (refused i) m e = let q : i ≡ m = cc in ap {B = Outcome (List ℕ)} refused q

      go : CountTold (shape_room ty val) n k → (k ≡ 0) × Refuses (WriteShape ty val) n
      go (count_given r e (a, _)) = absurd (z a)
      go (count_denied m e (a, x)) = (x, λ before i len left c. parts _ _ (c ∙ refuses (shaped ty val) n before (inner (shaped ty val) n (e ∙ ap {B = Outcome ℕ} refused (sym a)))))
