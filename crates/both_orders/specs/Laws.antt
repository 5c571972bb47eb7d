-- What the program knows of its calls: what they answer counts bytes of the buffer, and what it prints has room. Assumes nothing.
use Rattle.std.specs.Prelude.{◌≡◌, List, ℕ, ◌≤◌, length, take, Result, Ok}
use Rattle.std.proofs.Common.{sym, ap, arith, length-take-le}
use Rattle.model.specs.Frames.{after}
use Rattle.model.specs.Operations.{framed, part_read}
use Rattle.model.specs.Calls.{WriteFrame, PartRead}
use Rattle.model.proofs.Laws.Delivered.{length_fits}
use Rattle.reply.specs.declared.Refusal.{Refusal}
use Rattle.reply.specs.Numbers.{refusal_number, number_of, length_of}
use Rattle.text.specs.Lines.{in_hex, refusal_line}
use Rattle.text.proofs.Laws.Sizes.{hex_length}
use Rattle.text.proofs.Laws.Refusals.{refusal_room}
use Rattle.io.specs.Counts.{IsPrefixLen}

counts : (n : ℕ) (left : List ℕ) → n ≤ length left → IsPrefixLen n left
counts n left l = (l, sym (length-take-le n left l))

-- the length that an entry answers, whatever it was lent
pub frame_counts : (ty value before left : List ℕ) (r : Result ℕ Refusal) (n : ℕ) → WriteFrame ty value before (number_of r) (length_of r) left → n ≡ length_of r → IsPrefixLen n left
frame_counts ty value before left r n h e = counts n left (omega (arith, length_fits (framed after ty value) before (number_of r) (length_of r) left h))

pub part_counts : (ty frame path before left : List ℕ) (r : Result ℕ Refusal) (n : ℕ) → PartRead ty frame path before (number_of r) (length_of r) left → n ≡ length_of r → IsPrefixLen n left
part_counts ty frame path before left r n h e = counts n left (omega (arith, length_fits (part_read after ty frame path) before (number_of r) (length_of r) left h))

-- what is cut by it is so long
pub frame_cut : (ty value before left : List ℕ) (r : Result ℕ Refusal) → WriteFrame ty value before (number_of r) (length_of r) left → (n : ℕ) → r ≡ Ok n → n ≡ length (take n left)
frame_cut ty value before left r h n e = (frame_counts ty value before left r n h (sym (ap length_of e))).1

pub part_cut : (ty frame path before left : List ℕ) (r : Result ℕ Refusal) → PartRead ty frame path before (number_of r) (length_of r) left → (n : ℕ) → r ≡ Ok n → n ≡ length (take n left)
part_cut ty frame path before left r h n e = (part_counts ty frame path before left r n h (sym (ap length_of e))).1

-- the line of a refusal
pub refusal_fits : (x : Refusal) (line : List ℕ) → length line ≡ 12 → length (refusal_line (refusal_number x)) ≤ length line
refusal_fits x line e = omega (arith, refusal_room x)

-- the digits of a frame
pub hex_room : (frame line : List ℕ) → length frame ≤ 4096 → length line ≡ 8192 → length (in_hex frame) ≤ length line
hex_room frame line l e = omega (arith, hex_length frame)
