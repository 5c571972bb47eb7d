-- Demand 2 of the entries, said of calls: what a call of one entry left in its buffer, a call of the other turns back into the file it came from;
-- where a unit belongs (02, R-5); and what cleaning a shape leaves (02, R-6).
-- A corollary of what is promised of each call (`Calls`) and of the model's laws. Every list here is what a slice of bytes held.
use Rattle.std.specs.Prelude.{◌≡◌, refl, List, ℕ, ◌≤◌, ◌↔◌, length, take}
use Rattle.std.proofs.Common.{sym, ap, ◌∙◌, arith}
use Rattle.model.specs.Numbers.{no_unit}
use Rattle.model.specs.Outcome.{Outcome, done, refused}
use Rattle.model.specs.Bytes.{Bytes}
use Rattle.model.specs.Frames.{after}
use Rattle.model.specs.Types.{Ty}
use Rattle.model.specs.Values.{Value}
use Rattle.model.specs.ValueFiles.{value_of}
use Rattle.model.specs.Operations.{lowering, shaped, earlier_reconstructed, reconstructed, cleaned_shape, framed, unframed, delivered}
use Rattle.model.specs.Conditions.{ShapeBelongs, LacksUnit, TypeLowers, FrameAccepted}
use Rattle.model.proofs.Laws.Outcome.{done_injective}
use Rattle.model.proofs.Laws.Delivered.{parts, refuses, calls, makes, Told, gave, withheld, denied, told, accepted, refused_with}
use Rattle.model.proofs.Laws.Numbered.{never_zero, shaped_row, reconstructed_row, cleaned_row, framed_row, unframed_row}
use Rattle.model.proofs.Laws.Demands.{OneValue, value_has_shape, value_has_frame, shape_reads_back, belonging_shape_reads, frame_reads_back, accepted_frame_reads, frame_accepted}
use Rattle.model.proofs.Laws.Units.{no_unit_row, elsewhere_earlier, accepted_written, accepted_belongs}
use Rattle.model.proofs.Laws.Cleaning.{cleaned_refusals, cleaned_passes, passes_cleaned, never_longer, passing_same, cleaned_again, cleaned_written}
use Rattle.model.specs.Calls.{WriteShape, Reconstruct, CleanShape, WriteFrame, ReadFrame, Makes, Returns}

-- FROM OPERATIONS TO CALLS

-- where one operation turns back what the other gives, so do the calls
returns : (one other : List ℕ → Outcome (List ℕ)) (file : List ℕ) → ((m : ℕ) → one file ≡ refused m → 1 ≤ m) → ((x : List ℕ) → one file ≡ done x → other x ≡ done file) → Returns (calls one) (calls other) file
returns one other file rows back before len left h = makes other (take len left) file (back (take len left) (accepted (one file) before rows len left h))

-- what is read is the one value, which writes the file again
again : {reads writes : List ℕ → Outcome (List ℕ)} {file : List ℕ} → OneValue reads writes file → (x : List ℕ) → reads file ≡ done x → writes x ≡ done file
again {writes = writes} r x e = ap writes (done_injective x r.val (sym e ∙ r.read)) ∙ r.back

-- DEMAND 2

module _ (ty : List ℕ) (b : Bytes ty) where
  -- of a value of a type that lowers, every call of `write_shape` makes one shape, which belongs to the type
  pub value_shaped : (t : Ty) → lowering ty ≡ done t → (val : List ℕ) (v : Value t) → value_of t val ≡ done v → Bytes val → (shape : List ℕ) × Makes (WriteShape ty) val shape × ShapeBelongs ty shape
  value_shaped t k val v h c = let (shape, e, s) = value_has_shape ty b t k val v h c in (shape, makes (shaped ty) val shape e, s)

  -- what a call of `write_shape` left, a call of `reconstruct` turns into the value file it came from
  pub shape_returns : (val : List ℕ) → Bytes val → Returns (WriteShape ty) (Reconstruct ty) val
  shape_returns val c = returns (shaped ty) (reconstructed ty) val (never_zero (shaped_row ty val) refl) (λ shape e. shape_reads_back ty b val shape c e)

  -- of a shape that belongs to the type, every call of `reconstruct` makes one value file
  pub shape_taken : (shape : List ℕ) → ShapeBelongs ty shape → (val : List ℕ) × Makes (Reconstruct ty) shape val
  shape_taken shape s = let r = belonging_shape_reads ty b shape s in (r.val, makes (reconstructed ty) shape r.val r.read)

  -- of a type that lowers, no other shape is accepted
  pub shape_accepted : TypeLowers ty → (shape before : List ℕ) (len : ℕ) (left : List ℕ) → Reconstruct ty shape before 0 len left → ShapeBelongs ty shape
  shape_accepted l shape before len left h = (accepted_belongs ty b l shape).0 (take len left, accepted (reconstructed ty shape) before (never_zero (reconstructed_row ty shape) refl) len left h)

  -- and what an accepted call of `reconstruct` left, whatever the shape, a call of `write_shape` writes to that shape again
  pub value_returns : TypeLowers ty → (shape : List ℕ) → Returns (Reconstruct ty) (WriteShape ty) shape
  value_returns l shape = returns (reconstructed ty) (shaped ty) shape (never_zero (reconstructed_row ty shape) refl) (λ val e. accepted_written ty b l shape val e)

  -- likewise every call of `write_frame` one frame, which is accepted for the type
  pub value_framed : (t : Ty) → lowering ty ≡ done t → (val : List ℕ) (v : Value t) → value_of t val ≡ done v → Bytes val → (frame : List ℕ) × Makes (WriteFrame ty) val frame × FrameAccepted after ty frame
  value_framed t k val v h c = let (frame, e, a) = value_has_frame ty b after t k val v h c in (frame, makes (framed after ty) val frame e, a)

  -- what a call of `write_frame` left, a call of `read_frame` turns into the value file it came from
  pub frame_returns : (val : List ℕ) → Bytes val → Returns (WriteFrame ty) (ReadFrame ty) val
  frame_returns val c = returns (framed after ty) (unframed after ty) val (never_zero (framed_row after ty val) refl) (λ frame e. frame_reads_back ty b after val frame c e)

  -- of a frame of the type, every call of `read_frame` makes one value file
  pub frame_taken : (frame : List ℕ) → Bytes frame → FrameAccepted after ty frame → (val : List ℕ) × Makes (ReadFrame ty) frame val
  frame_taken frame c a = let r = accepted_frame_reads ty b after frame c a in (r.val, makes (unframed after ty) frame r.val r.read)

  -- and what an accepted call of `read_frame` left, whatever the frame, a call of `write_frame` writes to that frame again
  pub frame_again : (frame : List ℕ) → Bytes frame → Returns (ReadFrame ty) (WriteFrame ty) frame
  frame_again frame c = returns (unframed after ty) (framed after ty) frame (never_zero (unframed_row after ty frame) refl) (λ val e. again (accepted_frame_reads ty b after frame c ((frame_accepted ty b after frame c).0 (val, e))) val e)

-- WHERE A UNIT BELONGS (02, R-5), whatever the type

module _ (ty shape before : List ℕ) (n len : ℕ) (left : List ℕ) (h : Reconstruct ty shape before n len left) where
  -- a call of `reconstruct` is answered by 20 exactly where the shape is one that the Rust reads and that lacks a unit
  pub no_unit_told : (n ≡ no_unit) ↔ LacksUnit ty shape
  no_unit_told = ((λ e. (no_unit_row ty shape).0 (refused_with (reconstructed ty shape) before n len left (λ z. omega arith) (λ z. omega arith) h ∙ ap refused e)), λ l. (parts _ _ (h ∙ refuses (reconstructed ty shape) no_unit before ((no_unit_row ty shape).1 l))).0)

  -- and elsewhere it was answered, and its buffer left, as by the earlier reading, the Rust's
  pub elsewhere_told : (LacksUnit ty shape → ⊥) → (n, len, left) ≡ delivered (earlier_reconstructed ty shape) before
  elsewhere_told l = h ∙ ap (λ o. delivered o before) (elsewhere_earlier ty shape l)

-- CLEANING (02, R-6), whatever the type

module _ (ty shape : List ℕ) where
  -- a shape that the earlier reading refuses is refused with its number, and nothing is written
  pub clean_refused : (m : ℕ) → earlier_reconstructed ty shape ≡ refused m → (before : List ℕ) (n len : ℕ) (left : List ℕ) → CleanShape ty shape before n len left → (n ≡ m) × (len ≡ 0) × (left ≡ before)
  clean_refused m e before n len left h = parts _ _ (h ∙ refuses (cleaned_shape ty shape) m before ((cleaned_refusals ty shape m).1 e))

  -- of one that it reads, every call of `clean_shape` makes one shape, which is no longer than it was, and of that every call of `reconstruct` the value file that the earlier reading gave
  pub clean_made : (val : List ℕ) → earlier_reconstructed ty shape ≡ done val → (clean : List ℕ) × Makes (CleanShape ty) shape clean × (length clean ≤ length shape) × Makes (Reconstruct ty) clean val
  clean_made val e = let (clean, c, r) = cleaned_passes ty shape val e in (clean, makes (cleaned_shape ty) shape clean c, never_longer ty shape clean c, makes (reconstructed ty) clean val r)

  -- a shape that `reconstruct` accepts comes back equal
  pub clean_keeps : (before : List ℕ) (len : ℕ) (left : List ℕ) → Reconstruct ty shape before 0 len left → Makes (CleanShape ty) shape shape
  clean_keeps before len left h = makes (cleaned_shape ty) shape shape ((passing_same ty shape).0 (take len left, accepted (reconstructed ty shape) before (never_zero (reconstructed_row ty shape) refl) len left h))

  -- for a type that lowers, a call is answered, and its buffer left, as a call of `write_shape` on that value file
  pub clean_as_written : Bytes ty → TypeLowers ty → (val : List ℕ) → earlier_reconstructed ty shape ≡ done val → (before : List ℕ) (n len : ℕ) (left : List ℕ) → CleanShape ty shape before n len left ↔ WriteShape ty val before n len left
  clean_as_written b l val e before n len left = let s = ap (λ o. delivered o before) (cleaned_written ty b l shape val e) in ((λ h. h ∙ s), λ h. h ∙ sym s)

  module _ (before : List ℕ) (n len : ℕ) (left : List ℕ) (h : CleanShape ty shape before n len left) where
    -- nothing is longer than it was
    pub clean_length : len ≤ length shape
    clean_length = go (told (cleaned_shape ty shape) before n len left h)
      where
        go : Told (cleaned_shape ty shape) before n len left → len ≤ length shape
        go (gave file e l (_, z, _)) = omega (arith, never_longer ty shape file e)
        go (withheld file e l (_, z, _)) = omega arith
        go (denied m e (_, z, _)) = omega arith

  -- of what an accepted call left
  module _ (before : List ℕ) (len : ℕ) (left : List ℕ) (h : CleanShape ty shape before 0 len left) where
    cleans : cleaned_shape ty shape ≡ done (take len left)
    cleans = accepted (cleaned_shape ty shape) before (never_zero (cleaned_row ty shape) refl) len left h

    -- every call of `reconstruct` makes the value file that the earlier reading gave
    pub clean_reads : (val : List ℕ) × (earlier_reconstructed ty shape ≡ done val) × Makes (Reconstruct ty) (take len left) val
    clean_reads = let (val, e, r) = passes_cleaned ty shape (take len left) cleans in (val, e, makes (reconstructed ty) (take len left) val r)

    -- and every call of `clean_shape` makes it again
    pub clean_again : Makes (CleanShape ty) (take len left) (take len left)
    clean_again = makes (cleaned_shape ty) (take len left) (take len left) (cleaned_again ty shape (take len left) cleans)
