-- R-2, said of calls: a corollary of what is promised of each call of `part_edit` and `part_read` (`Calls`) and of the theorems of the operations (`TwoEdits`).
-- Every list here is what a slice of bytes held; the frame is lent to each call of `part_edit` and holds afterwards what the call left in it.
use Rattle.std.specs.Prelude.{◌≡◌, refl, List, ℕ, take}
use Rattle.std.proofs.Common.{sym, ap, ◌∙◌}
use Rattle.model.specs.Outcome.{Outcome, done, refused}
use Rattle.model.specs.Bytes.{Bytes}
use Rattle.model.specs.Frames.{after}
use Rattle.model.specs.Operations.{part_read, edited}
use Rattle.model.specs.Calls.{PartRead, PartEdit, Makes}
use Rattle.model.proofs.Laws.Delivered.{parts, refuses, makes, accepted}
use Rattle.model.proofs.Laws.Numbered.{never_zero, part_read_row, edited_row}
use Rattle.model.proofs.Laws.Demands.{edit_in_place}
use Rattle.two_edits.specs.TwoEdits.{PartsApart, SamePart, PathsPart, EditLeaves, CallsEitherOrder, OrderFree}
use Rattle.two_edits.proofs.Laws.Diverging.{turned_paths}
use Rattle.two_edits.proofs.Laws.TwoEdits.{edited_bytes, edited_length, edited_reads, read_bytes, already_there, parts_apart, same_part, either_order, second_counts, refused_alike}

module _ (ty frame : List ℕ) (b : Bytes ty) (c : Bytes frame) where
  -- where the edit gives a result, every call was accepted and has left it
  call_leaves : (path value : List ℕ) → Bytes value → (result : List ℕ) → edited after ty frame path value ≡ done result → EditLeaves ty frame path value result
  call_leaves path value d result e n len left h =
      let (z, l, r) = parts _ _ (h ∙ edit_in_place after ty frame path value b c d result e) in
      record { accepted = z; long = l; leaves = r }

  -- and a call that was answered by 0 has left it
  call_left : (path value : List ℕ) → Bytes value → (len : ℕ) (left : List ℕ) → PartEdit ty frame path value 0 len left → edited after ty frame path value ≡ done left
  call_left path value d len left h =
      let e = accepted (edited after ty frame path value) frame (never_zero (edited_row after ty frame path value) refl) len left h in
      e ∙ ap done (sym (call_leaves path value d (take len left) e 0 len left h).leaves)

  -- of what an accepted call left, every call of `part_read` gives the new value; so one that left the frame equal was an edit to the value already there
  pub call_reads : (path value : List ℕ) → Bytes value → (len : ℕ) (left : List ℕ) → PartEdit ty frame path value 0 len left → Makes (λ f. PartRead ty f path) left value
  call_reads path value d len left h = makes (λ f. part_read after ty f path) left value (edited_reads after ty frame b c path value left d (call_left path value d len left h))

  -- AN EDIT TO THE VALUE ALREADY THERE, as a call of `part_read` gave it: every call was accepted and has left the frame equal
  pub call_changes_nothing : (path before : List ℕ) (len : ℕ) (left : List ℕ) → PartRead ty frame path before 0 len left → EditLeaves ty frame path (take len left) frame
  call_changes_nothing path before len left h =
      let e = accepted (part_read after ty frame path) before (never_zero (part_read_row after ty frame path) refl) len left h in
      let d = read_bytes after ty frame b c path (take len left) e in
      call_leaves path (take len left) d frame (already_there after ty frame b c path (take len left) e)

-- TWO CALLS on one frame, each accepted alone: the one leaves x, the other y
module _ (ty frame path value other new x y : List ℕ) (i j : ℕ) (b : Bytes ty) (c : Bytes frame) (d : Bytes value) (e : Bytes new) (one : PartEdit ty frame path value 0 i x) (two : PartEdit ty frame other new 0 j y) where
  one_left : edited after ty frame path value ≡ done x
  one_left = call_left ty frame b c path value d i x one

  two_left : edited after ty frame other new ≡ done y
  two_left = call_left ty frame b c other new e j y two

  x_bytes : Bytes x
  x_bytes = edited_bytes after ty frame b c path value x d one_left

  y_bytes : Bytes y
  y_bytes = edited_bytes after ty frame b c other new y e two_left

  -- NEITHER PART LIES WITHIN THE OTHER: whichever comes second was accepted, and both orders have left the same frame
  pub calls_in_either_order : PartsApart after ty frame path other → CallsEitherOrder ty path value other new x y
  calls_in_either_order a =
      let r = either_order after ty frame path value other new x y b c d e one_left two_left a in
      record {
        left = r.left;
        other_second = call_leaves ty x b x_bytes other new e r.left r.other_second;
        one_second = call_leaves ty y b y_bytes path value d r.left r.one_second;
        one_reads = makes (λ f. part_read after ty f path) r.left value r.one_reads;
        other_reads = makes (λ f. part_read after ty f other) r.left new r.other_reads;
      }

  -- as it is, whatever the frame, if neither path's steps begin with the other's
  pub calls_by_steps : PathsPart path other → CallsEitherOrder ty path value other new x y
  calls_by_steps s = calls_in_either_order (parts_apart after ty frame b c path value other new x y d e one_left two_left s)

  -- THE SAME PART: the second call was accepted and has left what it alone left
  pub second_call_counts : SamePart after ty frame path other → EditLeaves ty x other new y
  second_call_counts s = call_leaves ty x b x_bytes other new e y (second_counts after ty frame path value other new x y b c d e one_left two_left s)

-- as it is of one path
pub second_call_counts_there : (ty frame path value new x y : List ℕ) (i j : ℕ) → Bytes ty → Bytes frame → Bytes value → Bytes new → PartEdit ty frame path value 0 i x → PartEdit ty frame path new 0 j y → EditLeaves ty x path new y
second_call_counts_there ty frame path value new x y i j b c d e one two =
    second_call_counts ty frame path value path new x y i j b c d e one two (same_part after ty frame b c path value x d (call_left ty frame b c path value d i x one))

-- WHATEVER THE CALLS ANSWER: if neither path's steps begin with the other's, each call is answered alike whether it comes first or second, and both orders leave the same frame
module _ (ty frame path value other new : List ℕ) (b : Bytes ty) (c : Bytes frame) (d : Bytes value) (e : Bytes new) (s : PathsPart path other) where
  -- a call of an edit that is refused
  call_refused : (frame path value : List ℕ) (m : ℕ) → edited after ty frame path value ≡ refused m → (n len : ℕ) (left : List ℕ) → PartEdit ty frame path value n len left → (n ≡ m) × (len ≡ 0) × (left ≡ frame)
  call_refused frame path value m r n len left h = parts _ _ (h ∙ refuses (edited after ty frame path value) m frame r)

  pub order_never_counts : (n i : ℕ) (x : List ℕ) → PartEdit ty frame path value n i x → (m j : ℕ) (y : List ℕ) → PartEdit ty frame other new m j y
      → (m' j' : ℕ) (z : List ℕ) → PartEdit ty x other new m' j' z → (n' i' : ℕ) (w : List ℕ) → PartEdit ty y path value n' i' w → OrderFree n i n' i' m j m' j' z w
  order_never_counts n i x one m j y two m' j' z second n' i' w third = go (edited after ty frame path value) refl (edited after ty frame other new) refl
    where
      go : (o : Outcome (List ℕ)) → edited after ty frame path value ≡ o → (u : Outcome (List ℕ)) → edited after ty frame other new ≡ u → OrderFree n i n' i' m j m' j' z w
      go (done l) f (done r) g =
          let p = call_leaves ty frame b c path value d l f n i x one in
          let q = call_leaves ty frame b c other new e r g m j y two in
          let k = either_order after ty frame path value other new l r b c d e f g (parts_apart after ty frame b c path value other new l r d e f g s) in
          let u = call_leaves ty l b (edited_bytes after ty frame b c path value l d f) other new e k.left k.other_second m' j' z (rw p.leaves at second) in
          let v = call_leaves ty r b (edited_bytes after ty frame b c other new r e g) path value d k.left k.one_second n' i' w (rw q.leaves at third) in
          record {
            one_answer = (v.accepted ∙ sym p.accepted, v.long ∙ edited_length after ty frame b c other new r e g ∙ sym p.long);
            other_answer = (u.accepted ∙ sym q.accepted, u.long ∙ edited_length after ty frame b c path value l d f ∙ sym q.long);
            same_frame = u.leaves ∙ sym v.leaves;
          }
      go (done l) f (refused r) g =
          let p = call_leaves ty frame b c path value d l f n i x one in
          let q = call_refused frame other new r g m j y two in
          let u = call_refused l other new r (refused_alike after ty frame other new path value l r b c e d (turned_paths path other s) g f) m' j' z (rw p.leaves at second) in
          let v = call_leaves ty frame b c path value d l f n' i' w (rw q.2 at third) in
          record { one_answer = (v.accepted ∙ sym p.accepted, v.long ∙ sym p.long); other_answer = (u.0 ∙ sym q.0, u.1 ∙ sym q.1); same_frame = u.2 ∙ sym v.leaves }
      go (refused l) f (done r) g =
          let p = call_refused frame path value l f n i x one in
          let q = call_leaves ty frame b c other new e r g m j y two in
          let u = call_leaves ty frame b c other new e r g m' j' z (rw p.2 at second) in
          let v = call_refused r path value l (refused_alike after ty frame path value other new r l b c d e s f g) n' i' w (rw q.leaves at third) in
          record { one_answer = (v.0 ∙ sym p.0, v.1 ∙ sym p.1); other_answer = (u.accepted ∙ sym q.accepted, u.long ∙ sym q.long); same_frame = u.leaves ∙ sym v.2 }
      go (refused l) f (refused r) g =
          let p = call_refused frame path value l f n i x one in
          let q = call_refused frame other new r g m j y two in
          let u = call_refused frame other new r g m' j' z (rw p.2 at second) in
          let v = call_refused frame path value l f n' i' w (rw q.2 at third) in
          record { one_answer = (v.0 ∙ sym p.0, v.1 ∙ sym p.1); other_answer = (u.0 ∙ sym q.0, u.1 ∙ sym q.1); same_frame = u.2 ∙ sym v.2 }
