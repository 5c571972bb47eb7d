-- Bytes, their bits, and the numbers in them (01, first paragraph and 'Frame').
-- Two-byte numbers and integers put the high byte first; bit 0 is the highest bit of byte 0.
use Rattle.std.specs.Prelude.{Bool, true, false, List, [], ◌∷◌, ◌++◌, ℕ, zero, suc, ◌+◌, ◌-◌, ◌*◌, ◌/◌, ◌%◌, ◌^◌, ◌<◌, leb, eqb, length, take, drop, get_or, replicate}
use Rattle.model.specs.Options.{All}

-- a list of bytes
abbrev pub Bytes : List ℕ → Type 0
Bytes = All (λ b. b < 256)

-- RECORDS

-- the first k records of `size` bytes
abbrev pub cut : ℕ → ℕ → List ℕ → List (List ℕ)
cut size zero l = []
cut size (suc k) l = take size l ∷ cut size k (drop size l)

-- all records of `size` bytes
abbrev pub records : ℕ → List ℕ → List (List ℕ)
records size l = cut size (length l / size) l

-- a two-byte number
abbrev pub two : ℕ → List ℕ
two n = (n / 256) ∷ (n % 256) ∷ []

abbrev pub two_at : List ℕ → ℕ → ℕ
two_at l i = get_or l i 0 * 256 + get_or l (suc i) 0

-- BITS OF A NUMBER, highest first

abbrev pub weight : Bool → ℕ → ℕ
weight true w = 2 ^ w
weight false w = 0

-- the w bits of a number below 2 ^ w
unfoldable pub to_bits : ℕ → ℕ → List Bool
to_bits zero n = []
to_bits (suc w) n = leb (2 ^ w) n ∷ to_bits w (n - weight (leb (2 ^ w) n) w)

-- the number that bits say
unfoldable pub of_bits : List Bool → ℕ
of_bits [] = 0
of_bits (b ∷ bs) = weight b (length bs) + of_bits bs

-- BITS OF BYTES

-- the lowest bit of a number
abbrev pub odd : ℕ → Bool
odd n = eqb (n % 2) 1

-- the eight bits of a byte
unfoldable pub byte_bits : ℕ → List Bool
byte_bits b = odd (b / 128) ∷ odd (b / 64) ∷ odd (b / 32) ∷ odd (b / 16) ∷ odd (b / 8) ∷ odd (b / 4) ∷ odd (b / 2) ∷ odd b ∷ []

-- the bits of bytes
unfoldable pub bits_of : List ℕ → List Bool
bits_of [] = []
bits_of (b ∷ bs) = byte_bits b ++ bits_of bs

-- the k bytes that 8 * k bits fill
unfoldable pub pack : ℕ → List Bool → List ℕ
pack zero l = []
pack (suc k) l = of_bits (take 8 l) ∷ pack k (drop 8 l)

abbrev pub zeros : ℕ → List Bool
zeros n = replicate n false

-- the bytes that n bits take
abbrev pub bytes_for : ℕ → ℕ
bytes_for n = (n + 7) / 8

-- bits as bytes; zeros fill the last byte
unfoldable pub fill : List Bool → List ℕ
fill l = pack (bytes_for (length l)) (l ++ zeros (8 * bytes_for (length l) - length l))

-- the number that bytes say
unfoldable pub number : List ℕ → ℕ
number l = of_bits (bits_of l)

-- a number in k bytes
unfoldable pub in_bytes : ℕ → ℕ → List ℕ
in_bytes k n = pack k (to_bits (8 * k) n)
