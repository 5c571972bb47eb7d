-- The lines computed, on 01's sample, on a frame of no bytes, on a refusal and on what a search finds. Every right side is the text itself.
use Rattle.std.specs.Prelude.{◌≡◌, refl, List, [], ◌∷◌, ℕ}
use Rattle.text.specs.Ascii.{ascii}
use Rattle.text.specs.Lines.{digit, hex_digit, hex, places, decimal, heading, spaced, line, in_digits, in_hex, job_lines, short_line, refusal_line, found_line, none_line}

abbrev lowered : List ℕ
lowered = 2 ∷ 2 ∷ 2 ∷ 1 ∷ 0 ∷ 0 ∷ 1 ∷ 0 ∷ 0 ∷ 2 ∷ 1 ∷ 0 ∷ 0 ∷ 1 ∷ 0 ∷ 0 ∷ 2 ∷ 1 ∷ 0 ∷ 2 ∷ 1 ∷ 0 ∷ 0 ∷ 1 ∷ 0 ∷ 0 ∷ 1 ∷ 0 ∷ 1 ∷ 0 ∷ 0 ∷ []

abbrev shape : List ℕ
shape = 3 ∷ 3 ∷ 3 ∷ 2 ∷ 0 ∷ 1 ∷ 0 ∷ 3 ∷ 1 ∷ 0 ∷ 2 ∷ 0 ∷ 3 ∷ 1 ∷ 0 ∷ 2 ∷ 2 ∷ 0 ∷ []

-- 01's three lines
sample : job_lines lowered shape (145 ∷ 128 ∷ []) ≡ ascii "type 31 2221001002100100210210010010100\nshape 18 333201031020310220\nframe 2 9180\n"
unfolding digit hex_digit hex places decimal heading spaced line in_digits in_hex job_lines
sample = refl

-- a unit, whose frame has no bytes
no_frame : job_lines (0 ∷ []) (0 ∷ []) [] ≡ ascii "type 1 0\nshape 1 0\nframe 0\n"
unfolding digit hex_digit hex places decimal heading spaced line in_digits in_hex job_lines
no_frame = refl

-- a refusal, and bytes whose hexadecimal digits are letters
refused : refusal_line 16 ≡ ascii "refused 16\n"
unfolding digit places decimal heading short_line refusal_line
refused = refl

letters : in_hex (171 ∷ 9 ∷ 192 ∷ []) ≡ ascii "ab09c0"
unfolding hex_digit hex in_hex
letters = refl

-- a frame that was found, the first and one far behind, and none
found_first : found_line 0 ≡ ascii "found 0\n"
unfolding digit places decimal heading short_line found_line
found_first = refl

found_later : found_line 10070 ≡ ascii "found 10070\n"
unfolding digit places decimal heading short_line found_line
found_later = refl

found_none : none_line ≡ 110 ∷ 111 ∷ 110 ∷ 101 ∷ 10 ∷ []
found_none = refl

-- the least and the largest length of a file
zero_digits : decimal 0 ≡ ascii "0"
unfolding digit places decimal
zero_digits = refl

most_digits : decimal 65536 ≡ ascii "65536"
unfolding digit places decimal
most_digits = refl
