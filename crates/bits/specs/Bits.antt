-- Bits of a byte slice, as the contracts say them: bit 0 is the highest bit of byte 0 (01, 'Frame'), and a writer is told by what it puts where.
use Rattle.std.specs.Prelude.{◌≡◌, Bool, true, false, List, ◌++◌, ℕ, ◌+◌, ◌-◌, ◌*◌, ◌^◌, ◌≤◌, ◌<◌, length, take, drop}
use Rattle.model.specs.Bytes.{bits_of}

-- l with what stands from `at` on replaced by s
abbrev pub splice : {A : Type 0} → List A → ℕ → List A → List A
splice l at s = take at l ++ s ++ drop (at + length s) l

-- the n bits of l from `at` on
abbrev pub bits_at : List ℕ → ℕ → ℕ → List Bool
bits_at l at n = take n (drop at (bits_of l))

-- the lowest w bits of an integer in bytes
abbrev pub low_bits : ℕ → List ℕ → List Bool
low_bits w l = drop (8 * length l - w) (bits_of l)

-- the n bits from `at` on lie inside l, and their end is a number of the machine
abbrev pub Inside : List ℕ → ℕ → ℕ → Type 0
Inside l at n = (at + n ≤ 8 * length l) × (at + n < 2 ^ 64)

-- l is d with the bits s put at `at`, and every other bit as it was
pub record Wrote (d : List ℕ) (at : ℕ) (s : List Bool) (l : List ℕ) : Type 0 where
  pub same : length l ≡ length d
  pub bits : bits_of l ≡ splice (bits_of d) at s

-- the answer to a question
pub record Tells (r : Bool) (P : Type 0) : Type 0 where
  pub yes : r ≡ true → P
  pub no : r ≡ false → P → ⊥
