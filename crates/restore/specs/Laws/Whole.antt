-- What the whole shape file gives: all of it is one tree, and what stands there is the value's own records.
use Rattle.std.specs.Prelude.{◌≡◌, false, List, [], ℕ, ◌+◌, length}
use Rattle.std.proofs.Common.{sym, ap, ◌∙◌, append-nil, zero-add, arith}
use Rattle.std.proofs.Math.Option.{some}
use Rattle.model.specs.Outcome.{done}
use Rattle.model.specs.Options.{map_o, bind_o}
use Rattle.model.specs.Structural.{SValue, shape_records}
use Rattle.model.specs.Values.{Value}
use Rattle.model.specs.ShapeFiles.{read_shape, shape_of}
use Rattle.model.specs.Reconstruct.{reconstruct}
use Rattle.model.specs.ValueFiles.{encode}
use Rattle.model.proofs.Laws.ShapeFiles.{read_shape_records, shape_written_read}
use Rattle.types.specs.Trees.{tree}
use Rattle.types.specs.Steps.{Given}
use Rattle.record.specs.Trees.{value_in, part}
use Rattle.record.specs.Laws.Products.{part_is}
use Rattle.restore.specs.Forms.{tree_at, made_at, standing}

-- the file's tree stands at its first place and ends with it
whole_tree : (sh : List ℕ) (x : SValue) → shape_of sh ≡ done x → tree_at sh 0 ≡ some (x, length sh)
unfolding tree_at
whole_tree sh x h =
    let e = (shape_written_read sh x h).0 in
    let l : length (shape_records x) ≡ length sh = ap length (sym e) in
    let r : read_shape (length sh) sh ≡ some (x, []) = ap (read_shape (length sh)) (e ∙ sym (append-nil (shape_records x))) ∙ read_shape_records (length sh) x [] (omega arith) in
    ap (map_o (λ (y : SValue × List ℕ). (y.0, 0 + length (shape_records y.0)))) r ∙ ap (λ n. some (x, n)) (zero-add (length (shape_records x)) ∙ l)

pub whole_given : (s E sh : List ℕ) (x : SValue) (w : Value (tree 32 s 0)) → Given 32 false s E 0 → shape_of sh ≡ done x → reconstruct (tree 32 s 0) x ≡ some w → standing sh 32 s 0 0 ≡ some (encode (tree 32 s 0) w, length sh)
unfolding standing made_at value_in
whole_given s E sh x w g h e =
    ap (λ o. bind_o o (λ y. map_o (λ rs. (rs, y.1)) (part 32 s 0 y.0))) (whole_tree sh x h)
    ∙ ap (map_o (λ rs. (rs, length sh))) (part_is g x ∙ ap (map_o (encode (tree 32 s 0))) e)
