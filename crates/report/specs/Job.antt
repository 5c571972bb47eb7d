-- What the program `job` prints of its two files (01, 'Along the edges', its last paragraph): the three lines, or the one of the first row that holds.
-- A file over 65,536 bytes is 17 before all else; nothing else is, since the results always fit.
use Rattle.std.specs.Prelude.{◌≡◌, true, false, List, ℕ, ◌≤◌, ltb, length, Result}
use Rattle.model.specs.Numbers.{no_room, most_shape_records}
use Rattle.model.specs.Outcome.{Outcome, done, refused, ◌>>=◌, ◌>>◌, refuse}
use Rattle.model.specs.Structural.{type_records}
use Rattle.model.specs.Lowering.{lower}
use Rattle.model.specs.Values.{Value}
use Rattle.model.specs.ValueFiles.{value_of}
use Rattle.model.specs.Frames.{after}
use Rattle.model.specs.Operations.{lowering, lowered, shaped, framed}
use Rattle.types.specs.Trees.{tree}
use Rattle.types.specs.Steps.{Given}
use Rattle.told.specs.Widths.{Wide}
use Rattle.structural.specs.Writing.{Wrote}
use Rattle.io.specs.Counts.{IsPrefixLen}
use Rattle.text.specs.Lines.{job_lines, refusal_line}
use Rattle.reply.specs.declared.Refusal.{Refusal}

-- the most bytes that a file may have
abbrev pub most : ℕ
most = 65536

-- the lowered type, the shape and the frame of a job
unfoldable pub job : List ℕ → List ℕ → Outcome (List ℕ × List ℕ × List ℕ)
job ty val = do
  refuse no_room (ltb most (length ty))
  refuse no_room (ltb most (length val))
  a ← lowered ty
  b ← shaped ty val
  c ← framed after ty val
  done (a, b, c)

-- as it is printed
abbrev pub printed : Outcome (List ℕ × List ℕ × List ℕ) → List ℕ
printed (done x) = job_lines x.0 x.1 x.2
printed (refused n) = refusal_line n

unfoldable pub job_text : List ℕ → List ℕ → List ℕ
job_text ty val = printed (job ty val)

-- a type that lowers, with its table, and a value of it
pub record Accepted (s E W val : List ℕ) : Type 0 where
  pub short_type : length s ≤ most
  pub short_value : length val ≤ most
  pub given : Given 32 false s E 0
  pub wide : Wide s E W
  pub lowers : lowering s ≡ done (tree 32 s 0)
  pub small : length (type_records (lower (tree 32 s 0))) ≤ most_shape_records
  pub value : Value (tree 32 s 0)
  pub says : value_of (tree 32 s 0) val ≡ done value

-- two files that are not too long, and a buffer that always holds what is printed of them
pub record Printable (s val out : List ℕ) : Type 0 where
  pub short_type : length s ≤ most
  pub short_value : length val ≤ most
  pub room : 140000 ≤ length out

-- what is printed stands over the front of the buffer, and n counts its bytes
pub record Reported (s val out out' : List ℕ) (n : ℕ) : Type 0 where
  pub wrote : Wrote (job_text s val) out out' n
  pub counts : IsPrefixLen n out'
