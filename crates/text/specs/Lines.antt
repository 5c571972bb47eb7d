-- The lines that programs print, as ASCII bytes: what `job` does (01, 'Along the edges', its last paragraph), the line of a refusal, and those of a search.
-- But for the line that says none, a line has a name, a space and a number; the contents, where there are any, stand behind one space more; every line ends with a newline.
use Rattle.std.specs.Prelude.{List, [], ◌∷◌, ◌++◌, map, ℕ, zero, suc, ◌+◌, ◌/◌, ◌%◌, ltb, length}
use Rattle.model.specs.Options.{pick, flat_map}
use Rattle.text.specs.Ascii.{ascii}

abbrev pub newline : ℕ
newline = 10

abbrev pub space : ℕ
space = 32

-- the digit of a record; records are 0 to 3, and of a byte above 9 it is the last decimal digit
unfoldable pub digit : ℕ → ℕ
digit b = 48 + b % 10

-- the hexadecimal digit of a number below 16: `0` to `9`, then `a` to `f`
unfoldable pub hex_digit : ℕ → ℕ
hex_digit d = pick (ltb d 10) (48 + d) (87 + d)

-- the two hexadecimal digits of a byte, high one first
unfoldable pub hex : ℕ → List ℕ
hex b = hex_digit (b / 16) ∷ hex_digit (b % 16) ∷ []

-- the decimal digits of n, high one first, none of 0; n has at most k
unfoldable pub places : ℕ → ℕ → List ℕ
places zero n = []
places (suc k) zero = []
places (suc k) (suc m) = places k (suc m / 10) ++ (digit (suc m) ∷ [])

-- a number in decimal digits, with no zero in front: the tens, if there are any, and the last digit
unfoldable pub decimal : ℕ → List ℕ
decimal n = places n (n / 10) ++ (digit n ∷ [])

-- a name and a number
unfoldable pub heading : List ℕ → ℕ → List ℕ
heading name n = name ++ (space ∷ decimal n)

-- contents behind their space: nothing, and no space, if empty
unfoldable pub spaced : List ℕ → List ℕ
spaced [] = []
spaced (b ∷ l) = space ∷ b ∷ l

unfoldable pub line : List ℕ → ℕ → List ℕ → List ℕ
line name n contents = heading name n ++ (spaced contents ++ (newline ∷ []))

-- a digit a record
unfoldable pub in_digits : List ℕ → List ℕ
in_digits l = map digit l

-- two hexadecimal digits a byte
unfoldable pub in_hex : List ℕ → List ℕ
in_hex l = flat_map hex l

abbrev pub type_name : List ℕ
type_name = ascii "type"

abbrev pub shape_name : List ℕ
shape_name = ascii "shape"

abbrev pub frame_name : List ℕ
frame_name = ascii "frame"

abbrev pub refused_name : List ℕ
refused_name = ascii "refused"

abbrev pub found_name : List ℕ
found_name = ascii "found"

-- the three lines of a type and a value that are accepted
unfoldable pub job_lines : List ℕ → List ℕ → List ℕ → List ℕ
job_lines lowered shape frame =
    line type_name (length lowered) (in_digits lowered)
    ++ (line shape_name (length shape) (in_digits shape)
    ++ line frame_name (length frame) (in_hex frame))

-- a line of a name and a number alone
unfoldable pub short_line : List ℕ → ℕ → List ℕ
short_line name n = heading name n ++ (newline ∷ [])

-- the one line of a refusal
unfoldable pub refusal_line : ℕ → List ℕ
refusal_line n = heading refused_name n ++ (newline ∷ [])

-- the one line of a search that found frame i
unfoldable pub found_line : ℕ → List ℕ
found_line i = short_line found_name i

-- and of one that found none
abbrev pub none_line : List ℕ
none_line = ascii "none\n"
