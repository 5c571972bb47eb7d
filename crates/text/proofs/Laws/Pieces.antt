-- What is written in two pieces, the second into the rest behind the first, or a byte behind what is written.
use Rattle.std.specs.Prelude.{◌≡◌, List, [], ◌∷◌, ◌++◌, ℕ, ◌+◌, ◌≤◌, ◌<◌, length, set}
use Rattle.std.proofs.Common.{ap, arith, length-append}
use Rattle.structural.specs.Writing.{Wrote}
use Rattle.structural.proofs.Laws.Writing.{rest, back, wrote_set, wrote_length, wrote_room, wrote_lent, wrote_as}

-- ys and then zs are what is to be written over the front of out, which has room for them
pub record Joined (ys zs xs out : List ℕ) : Type 0 where
  pub same : xs ≡ ys ++ zs
  pub room : length xs ≤ length out

module _ {ys zs xs out : List ℕ} (j : Joined ys zs xs out) where
  total : length ys + length zs ≤ length out
  total = omega (arith, ap length j.same, j.room, length-append ys zs)

  pub first_room : length ys ≤ length out
  first_room = let t = total in omega arith

  module _ {o : List ℕ} {k : ℕ} (w : Wrote ys out o k) where
    first_small : k + length zs ≤ length out
    first_small = let t = total in let e = w.len in omega arith

    pub first_fits : k + length zs ≤ length o
    first_fits = let s = first_small in omega (arith, wrote_length w first_room)

    pub rest_room : length zs ≤ length (rest k o)
    rest_room = wrote_room w (length zs) total

    pub both : {p : List ℕ} {r : ℕ} → Wrote zs (rest k o) p r → Wrote xs out (back k o p) (r + k)
    both v = wrote_as j.same (wrote_lent w total v)

    pub both_small : {p : List ℕ} {r : ℕ} → Wrote zs (rest k o) p r → r + k ≤ length out
    both_small v = let s = first_small in let e = v.len in omega arith

-- a byte behind them
module _ {ys xs out o : List ℕ} {x k : ℕ} (j : Joined ys (x ∷ []) xs out) (w : Wrote ys out o k) where
  pub byte_fits : k < length o
  byte_fits = let f = first_fits j w in omega arith

  byte_small : k < length out
  byte_small = let f = first_small j w in omega arith

  pub byte_more : Wrote xs out (set o k x) (k + 1)
  byte_more = wrote_as j.same (wrote_set w x byte_small)
