-- Shape files (01, 'Shape'; rows 8 and 9): one byte a record, parent first: 0 unit, 1 left, 2 right, 3 pair. Exactly one tree.
use Rattle.std.specs.Prelude.{List, [], ◌∷◌, ℕ, zero, suc, ltb, length}
use Rattle.std.proofs.Math.Option.{Option, none, some}
use Rattle.model.specs.Numbers.{shape_too_long, not_one_tree, most_shape_records}
use Rattle.model.specs.Outcome.{Outcome, ◌>>=◌, ◌>>◌, refuse, or_refuse, all_read}
use Rattle.model.specs.Options.{map_o, bind_o}
use Rattle.model.specs.Structural.{SValue, unit, left, right, pair, shape_records}

-- a tree of at most `fuel` levels, from the front; the rest is handed back
unfoldable pub read_shape : ℕ → List ℕ → Option (SValue × List ℕ)
read_shape zero l = none
read_shape (suc fuel) [] = none
read_shape (suc fuel) (zero ∷ l) = some (unit, l)
read_shape (suc fuel) (suc zero ∷ l) = map_o (λ x. (left x.0, x.1)) (read_shape fuel l)
read_shape (suc fuel) (suc (suc zero) ∷ l) = map_o (λ x. (right x.0, x.1)) (read_shape fuel l)
read_shape (suc fuel) (suc (suc (suc zero)) ∷ l) = bind_o (read_shape fuel l) (λ x. map_o (λ y. (pair x.0 y.0, y.1)) (read_shape fuel x.1))
read_shape (suc fuel) (suc (suc (suc (suc b))) ∷ l) = none

-- the shape that a shape file says
unfoldable pub shape_of : List ℕ → Outcome SValue
shape_of file = do
  refuse shape_too_long (ltb most_shape_records (length file))
  x ← or_refuse not_one_tree (read_shape (length file) file)
  all_read not_one_tree x

-- the shape file that says a shape
abbrev pub shape_file : SValue → List ℕ
shape_file s = shape_records s
