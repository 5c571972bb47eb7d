-- The pieces of a heading, of contents, of a line and of what `job` prints, in the order in which they are written.
use Rattle.std.specs.Prelude.{◌≡◌, refl, Bool, true, false, ◌==◌, List, [], ◌∷◌, ◌++◌, ℕ, ◌≤◌, ◌<◌, length, set}
use Rattle.std.proofs.Common.{sym, append_assoc, arith, length-append}
use Rattle.std.proofs.lemmas.Bool.Decides.{nat_tests}
use Rattle.structural.specs.Writing.{Wrote}
use Rattle.structural.proofs.Laws.Writing.{wrote_none, wrote_set}
use Rattle.text.specs.Lines.{space, newline, decimal, heading, spaced, line, in_digits, in_hex, hex, type_name, shape_name, frame_name, refused_name, job_lines, short_line, refusal_line}
use Rattle.text.specs.Pieces.{shown}
use Rattle.text.specs.declared.Contents.{Contents}
use Rattle.text.specs.declared.Contents.TheVariants.{Records, Bytes}
use Rattle.text.proofs.Laws.Pieces.{Joined, first_room}

module _ (a b c out : List ℕ) (h : length (a ++ (b ++ c)) ≤ length out) where
  -- the first two of three pieces
  two_of : Joined a b (a ++ b) out
  two_of = record { same = refl; room = omega (arith, length-append a (b ++ c), length-append a b, length-append b c) }

  -- the third behind them
  third_of : Joined (a ++ b) c (a ++ (b ++ c)) out
  third_of = record { same = sym (append_assoc a b c); room = h }

module _ (name : List ℕ) (n : ℕ) (out : List ℕ) (h : length (heading name n) ≤ length out) where
  pub heading_space : Joined name (space ∷ []) (name ++ (space ∷ [])) out
  unfolding heading
  heading_space = two_of name (space ∷ []) (decimal n) out h

  pub heading_number : Joined (name ++ (space ∷ [])) (decimal n) (heading name n) out
  unfolding heading
  heading_number = third_of name (space ∷ []) (decimal n) out h

module _ (name : List ℕ) (n : ℕ) (contents out : List ℕ) (h : length (line name n contents) ≤ length out) where
  pub line_contents : Joined (heading name n) (spaced contents) (heading name n ++ spaced contents) out
  unfolding line
  line_contents = two_of (heading name n) (spaced contents) (newline ∷ []) out h

  pub line_end : Joined (heading name n ++ spaced contents) (newline ∷ []) (line name n contents) out
  unfolding line
  line_end = third_of (heading name n) (spaced contents) (newline ∷ []) out h

module _ (lowered shape frame out : List ℕ) (h : length (job_lines lowered shape frame) ≤ length out) where
  abbrev type_line : List ℕ
  type_line = line type_name (length lowered) (in_digits lowered)

  abbrev shape_line : List ℕ
  shape_line = line shape_name (length shape) (in_digits shape)

  abbrev frame_line : List ℕ
  frame_line = line frame_name (length frame) (in_hex frame)

  pub job_shape : Joined type_line shape_line (type_line ++ shape_line) out
  unfolding job_lines
  job_shape = two_of type_line shape_line frame_line out h

  pub job_frame : Joined (type_line ++ shape_line) frame_line (job_lines lowered shape frame) out
  unfolding job_lines
  job_frame = third_of type_line shape_line frame_line out h

pub short_end : (name : List ℕ) (n : ℕ) (out : List ℕ) → length (short_line name n) ≤ length out → Joined (heading name n) (newline ∷ []) (short_line name n) out
unfolding short_line
short_end name n out h = record { same = refl; room = h }

pub refusal_end : (n : ℕ) (out : List ℕ) → length (refusal_line n) ≤ length out → Joined (heading refused_name n) (newline ∷ []) (refusal_line n) out
unfolding refusal_line
refusal_end n out h = record { same = refl; room = h }

-- CONTENTS

empty_length : (s : List ℕ) {b : Bool} → b ≡ (length s == 0) → b ≡ true → length s ≡ 0
empty_length s e t = grind (arith, nat_tests)

pub no_contents : (k : Contents) (s : List ℕ) {b : Bool} → b ≡ (length s == 0) → b ≡ true → spaced (shown k s) ≡ []
unfolding spaced in_digits in_hex
no_contents Records [] e t = refl
no_contents Bytes [] e t = refl
no_contents Records (x ∷ s) e t = absurd (omega (arith, empty_length (x ∷ s) e t))
no_contents Bytes (x ∷ s) e t = absurd (omega (arith, empty_length (x ∷ s) e t))

some_contents : (k : Contents) (s : List ℕ) → (length s ≡ 0 → ⊥) → spaced (shown k s) ≡ space ∷ shown k s
unfolding spaced in_digits in_hex hex
some_contents k [] e = absurd (e refl)
some_contents Records (b ∷ s) e = refl
some_contents Bytes (b ∷ s) e = refl

-- the contents behind their space
pub contents_behind : (k : Contents) (s out : List ℕ) {b : Bool} → b ≡ (length s == 0) → b ≡ false → length (spaced (shown k s)) ≤ length out
    → Joined (space ∷ []) (shown k s) (spaced (shown k s)) out
contents_behind k s out e f h = record { same = some_contents k s (λ z. grind (arith, nat_tests)); room = h }

pub space_written : {ys xs out : List ℕ} → Joined (space ∷ []) ys xs out → Wrote (space ∷ []) out (set out 0 space) 1
space_written {out = out} j = wrote_set (wrote_none out) space (let f = first_room j in omega arith)
