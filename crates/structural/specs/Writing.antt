-- What a writer into the front of a buffer leaves.
use Rattle.std.specs.Prelude.{◌≡◌, List, ◌++◌, ℕ, length, drop}

-- xs over the front of a buffer
unfoldable pub put : List ℕ → List ℕ → List ℕ
put xs o = xs ++ drop (length xs) o

-- xs was written over the front of a buffer, every byte behind it is as it was, and the answer is its length
pub record Wrote (xs before after : List ℕ) (r : ℕ) : Type 0 where
  pub len : r ≡ length xs
  pub out : after ≡ put xs before
