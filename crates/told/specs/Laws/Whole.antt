-- A whole value is told from the file's first record to its end.
use Rattle.std.specs.Prelude.{◌≡◌, false, ◌||◌, not, List, [], ℕ, ◌/◌, ◌%◌, eqb, length}
use Rattle.std.proofs.Common.{sym, ap, ◌∙◌, append-nil, arith}
use Rattle.std.proofs.Math.Option.{some}
use Rattle.model.specs.Numbers.{value_length, not_one_value}
use Rattle.model.specs.Outcome.{done, ◌>>=◌, all_read}
use Rattle.model.specs.Values.{Value, inject}
use Rattle.model.specs.ValueFiles.{encode, parse, value_of}
use Rattle.model.proofs.Laws.Outcome.{refuse_step, whole_read}
use Rattle.model.proofs.Laws.ValueFiles.{parse_sound}
use Rattle.types.specs.Trees.{tree}
use Rattle.types.specs.Steps.{Given}
use Rattle.value.specs.Model.{rows, length_rows}
use Rattle.told.specs.Forms.{told, standing}
use Rattle.told.specs.Laws.Seen.{seen}
use Rattle.told.specs.Laws.Rows.{standing_is}

-- the value of a file that is accepted for the type at a record is told from the file's first record, and ends with the file
pub whole_told : (s E val : List ℕ) {d p : ℕ} (x : Value (tree d s p)) → Given d false s E p → value_of (tree d s p) val ≡ done x → standing d s val p 0 ≡ some (inject (tree d s p) x, length val / 36)
unfolding told value_of
whole_told s E val {d} {p} x g h =
    let t = tree d s p in
    let q = (refuse_step value_length (eqb (length val) 0 || not (eqb (length val % 36) 0)) (parse t (rows val) >>= all_read not_one_value) x h).1 in
    let e : parse t (rows val) ≡ done (x, []) = whole_read not_one_value (parse t (rows val)) x q in
    let n : length (encode t x) ≡ length (rows val) = ap length (sym ((parse_sound t (rows val) (x, []) e).back ∙ append-nil (encode t x))) in
    standing_is val 0 g ∙ ap (seen (inject t) (encode t) 0) e ∙ ap (λ n. some (inject t x, n)) (omega (arith, n, length_rows val))
