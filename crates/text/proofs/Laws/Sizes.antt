-- How long the lines are at most.
use Rattle.std.specs.Prelude.{◌≡◌, refl, List, [], ◌∷◌, ◌++◌, map, ℕ, zero, suc, ◌+◌, ◌*◌, ◌/◌, ◌^◌, ◌≤◌, ◌<◌, length}
use Rattle.std.proofs.Common.{ap, ◌∙◌, arith, length-append}
use Rattle.model.specs.Options.{flat_map}
use Rattle.text.specs.Lines.{newline, space, digit, hex, places, decimal, heading, spaced, line, in_digits, in_hex, type_name, shape_name, frame_name, refused_name, found_name, job_lines, short_line, refusal_line, found_line}

-- a number below 10 ^ k has at most k digits
places_short : (j k n : ℕ) → n < 10 ^ k → length (places j n) ≤ k
unfolding places
places_short zero k n h = omega arith
places_short (suc j) k zero h = omega arith
places_short (suc j) zero (suc m) h = absurd (omega arith)
places_short (suc j) (suc k) (suc m) h =
    let s = places_short j k (suc m / 10) (omega arith) in
    omega (arith, length-append (places j (suc m / 10)) (digit (suc m) ∷ []))

decimal_short : (k n : ℕ) → n < 10 ^ suc k → length (decimal n) ≤ suc k
unfolding decimal
decimal_short k n h =
    let s = places_short n k (n / 10) (omega arith) in
    omega (arith, length-append (places n (n / 10)) (digit n ∷ []))

heading_length : (name : List ℕ) (n : ℕ) → length (heading name n) ≡ length name + suc (length (decimal n))
unfolding heading
heading_length name n = length-append name (space ∷ decimal n)

spaced_short : (l : List ℕ) → length (spaced l) ≤ suc (length l)
unfolding spaced
spaced_short [] = omega arith
spaced_short (b ∷ l) = omega arith

line_short : (name : List ℕ) (n : ℕ) (contents : List ℕ) → length (line name n contents) ≤ length name + length (decimal n) + length contents + 3
unfolding line
line_short name n contents =
    let s = spaced_short contents in
    omega (arith, length-append (heading name n) (spaced contents ++ (newline ∷ [])), length-append (spaced contents) (newline ∷ []), heading_length name n)

pub digits_length : (l : List ℕ) → length (in_digits l) ≡ length l
unfolding in_digits
digits_length l = go l
  where
    go : (l : List ℕ) → length (map digit l) ≡ length l
    go [] = refl
    go (b ∷ l) = ap suc (go l)

pub hex_length : (l : List ℕ) → length (in_hex l) ≡ 2 * length l
unfolding in_hex hex
hex_length l = go l
  where
    go : (l : List ℕ) → length (flat_map hex l) ≡ 2 * length l
    go [] = refl
    go (b ∷ l) = omega (arith, go l)

-- what `job` prints of a lowered type, a shape and a frame fits 140,000 bytes
pub job_short : (lowered shape frame : List ℕ) → length lowered ≤ 65536 → length shape ≤ 65536 → length frame ≤ 4096 → length (job_lines lowered shape frame) ≤ 140000
unfolding job_lines
job_short lowered shape frame a b c =
    let t = line_short type_name (length lowered) (in_digits lowered) in
    let s = line_short shape_name (length shape) (in_digits shape) in
    let f = line_short frame_name (length frame) (in_hex frame) in
    let i = decimal_short 4 (length lowered) (omega arith) in
    let j = decimal_short 4 (length shape) (omega arith) in
    let k = decimal_short 4 (length frame) (omega arith) in
    omega (arith, three (line type_name (length lowered) (in_digits lowered)) (line shape_name (length shape) (in_digits shape)) (line frame_name (length frame) (in_hex frame)), digits_length lowered, digits_length shape, hex_length frame)
  where
    three : (x y z : List ℕ) → length (x ++ (y ++ z)) ≡ length x + (length y + length z)
    three x y z = length-append x (y ++ z) ∙ ap (λ n. length x + n) (length-append y z)

-- a name and a number of at most k + 1 digits
short_short : (name : List ℕ) (k n : ℕ) → n < 10 ^ suc k → length (short_line name n) ≤ length name + k + 3
unfolding short_line
short_short name k n h = omega (arith, length-append (heading name n) (newline ∷ []), heading_length name n, decimal_short k n h)

-- the line of a refusal whose number has at most k + 1 digits
pub refusal_short : (k n : ℕ) → n < 10 ^ suc k → length (refusal_line n) ≤ 10 + k
unfolding refusal_line short_line
refusal_short k n h = omega (arith, short_short refused_name k n h)

-- the line of an index: a number that fits 64 bits has at most 20 digits
pub found_short : (i : ℕ) → i < 2 ^ 64 → length (found_line i) ≤ 27
unfolding found_line
found_short i h = omega (arith, short_short found_name 19 i (omega arith))
