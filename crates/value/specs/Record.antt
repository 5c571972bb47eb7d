-- One record of a value file: 36 bytes, kind, choice, a number of two bytes, an integer of 32 bytes.
use Rattle.std.specs.Prelude.{ℕ, zero, suc, ◌+◌, ◌*◌, ◌/◌, ◌^◌, List, Bool, true, false, length, get_or, take, drop, ltb, eqb, Option, Some, None}
use Rattle.model.specs.Bytes.{number}
use Rattle.model.specs.Options.{pick}

-- record v is there, and its first two bytes are these
unfoldable pub starts : List ℕ → ℕ → ℕ → ℕ → Bool
starts s v k c = pick (ltb v (length s / 36)) (pick (eqb (get_or s (v * 36) 0) k) (eqb (get_or s (v * 36 + 1) 0) c) false) false

-- the number in bytes 2 and 3
unfoldable pub number_at : List ℕ → ℕ → ℕ
number_at s v = get_or s (v * 36 + 2) 0 * 256 + get_or s (v * 36 + 3) 0

-- the integer's bytes
unfoldable pub integer_bytes : List ℕ → ℕ → List ℕ
integer_bytes s v = take 32 (drop (v * 36 + 4) s)

-- the n bytes from b on are zero
unfoldable pub clear : List ℕ → ℕ → ℕ → Bool
clear s b zero = true
clear s b (suc n) = pick (eqb (get_or s (b + n) 0) 0) (clear s b n) false

-- the integer is below 2 ^ w
unfoldable pub below : List ℕ → ℕ → ℕ → Bool
below s v w = ltb (number (integer_bytes s v)) (2 ^ w)

-- the choice of a record of kind k that has nothing else
unfoldable pub choice_at : List ℕ → ℕ → ℕ → Option Bool
choice_at s v k =
    pick (starts s v k 0) (pick (eqb (number_at s v) 0) (pick (below s v 0) (Some false) None) None)
    (pick (starts s v k 1) (pick (eqb (number_at s v) 0) (pick (below s v 0) (Some true) None) None) None)

-- the number of a record of kind k that has nothing else
unfoldable pub count_at : List ℕ → ℕ → ℕ → Option ℕ
count_at s v k = pick (starts s v k 0) (pick (below s v 0) (Some (number_at s v)) None) None
