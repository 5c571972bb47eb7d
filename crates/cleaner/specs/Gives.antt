-- What the program `clean` gives of its two files: the cleaned shape, or the line of the first row that holds.
use Rattle.std.specs.Prelude.{Bool, true, false, List, ℕ}
use Rattle.model.specs.Outcome.{Outcome, done, refused}
use Rattle.text.specs.Lines.{refusal_line}

-- whether it is a shape, and its bytes
abbrev pub given : Outcome (List ℕ) → Bool × List ℕ
given (done shape) = (true, shape)
given (refused n) = (false, refusal_line n)
