-- Laws of shape files as trees: what is written is read back, and what is accepted is what the writer makes, in 65,536 records or fewer.
-- A tree has no more levels than records, so the fuel never runs out on a written tree; and each record read is the one that the writer puts there.
use Rattle.std.specs.Prelude.{◌≡◌, refl, List, [], ◌∷◌, ◌++◌, ℕ, zero, suc, ◌≤◌, ltb, length}
use Rattle.std.proofs.Common.{sym, ap, ap₂, ◌∙◌, append_assoc, append-nil, arith, length-append, ltb-false, le-ltb}
use Rattle.std.proofs.Math.Option.{some, none-ne-some, some-injective}
use Rattle.model.specs.Numbers.{most_shape_records, shape_too_long, not_one_tree}
use Rattle.model.specs.Outcome.{done, or_refuse}
use Rattle.model.specs.Structural.{SValue, unit, left, right, pair, shape_records}
use Rattle.model.specs.ShapeFiles.{read_shape, shape_of, shape_file}
use Rattle.model.proofs.Laws.Options.{bind_o_some, map_o_some}
use Rattle.model.proofs.Laws.Outcome.{outcome_step, refuse_step, or_refuse_done, all_read_done}

-- a tree has a record
pub shape_some : (s : SValue) → 1 ≤ length (shape_records s)
unfolding shape_records
shape_some unit = omega arith
shape_some (left s) = omega arith
shape_some (right s) = omega arith
shape_some (pair s t) = omega arith

-- a written tree is read from the front, and the rest is handed back
pub read_shape_records : (fuel : ℕ) (s : SValue) (rest : List ℕ) → length (shape_records s) ≤ fuel → read_shape fuel (shape_records s ++ rest) ≡ some (s, rest)
unfolding read_shape shape_records
read_shape_records zero unit rest h = absurd (omega arith)
read_shape_records zero (left s) rest h = absurd (omega arith)
read_shape_records zero (right s) rest h = absurd (omega arith)
read_shape_records zero (pair s t) rest h = absurd (omega arith)
read_shape_records (suc fuel) unit rest h = refl
read_shape_records (suc fuel) (left s) rest h = rw (read_shape_records fuel s rest (omega arith))
read_shape_records (suc fuel) (right s) rest h = rw (read_shape_records fuel s rest (omega arith))
read_shape_records (suc fuel) (pair s t) rest h =
    let n = length-append (shape_records s) (shape_records t) in
    rw (append_assoc (shape_records s) (shape_records t) rest, read_shape_records fuel s (shape_records t ++ rest) (omega arith), read_shape_records fuel t rest (omega arith))

-- a tree and what stands behind it
abbrev written : SValue × List ℕ → List ℕ
written x = shape_records x.0 ++ x.1

-- what is read stands in front as the writer puts it
pub shape_records_read : (fuel : ℕ) (l : List ℕ) (x : SValue × List ℕ) → read_shape fuel l ≡ some x → l ≡ shape_records x.0 ++ x.1
unfolding read_shape shape_records
shape_records_read zero l x h = absurd (none-ne-some x h)
shape_records_read (suc fuel) [] x h = absurd (none-ne-some x h)
shape_records_read (suc fuel) (zero ∷ l) x h = ap written (some-injective (unit, l) x h)
shape_records_read (suc fuel) (suc zero ∷ l) x h =
    let (y, e, k) = map_o_some _ (read_shape fuel l) x h in
    ap {B = List ℕ} (λ m. 1 ∷ m) (shape_records_read fuel l y e) ∙ ap written k
shape_records_read (suc fuel) (suc (suc zero) ∷ l) x h =
    let (y, e, k) = map_o_some _ (read_shape fuel l) x h in
    ap {B = List ℕ} (λ m. 2 ∷ m) (shape_records_read fuel l y e) ∙ ap written k
shape_records_read (suc fuel) (suc (suc (suc zero)) ∷ l) x h =
    let (y, e, k) = bind_o_some (read_shape fuel l) _ x h in
    let (z, f, m) = map_o_some _ (read_shape fuel y.1) x k in
    ap {B = List ℕ} (λ m. 3 ∷ m) (shape_records_read fuel l y e ∙ ap (λ m. shape_records y.0 ++ m) (shape_records_read fuel y.1 z f) ∙ sym (append_assoc (shape_records y.0) (shape_records z.0) z.1)) ∙ ap written m
shape_records_read (suc fuel) (suc (suc (suc (suc b))) ∷ l) x h = absurd (none-ne-some x h)

-- the shape file of a shape says the shape
pub shape_read_written : (s : SValue) → length (shape_file s) ≤ most_shape_records → shape_of (shape_file s) ≡ done s
unfolding shape_of
shape_read_written s h =
    let r : read_shape (length (shape_records s)) (shape_records s) ≡ some (s, []) = ap (read_shape (length (shape_records s))) (sym (append-nil (shape_records s))) ∙ read_shape_records (length (shape_records s)) s [] (omega arith) in
    rw (le-ltb most_shape_records (length (shape_file s)) h, r)

-- a file that says a shape is the shape's file
pub shape_written_read : (file : List ℕ) (s : SValue) → shape_of file ≡ done s → (file ≡ shape_file s) × (length file ≤ most_shape_records)
unfolding shape_of
shape_written_read file s h =
    let (b, k) = refuse_step shape_too_long (ltb most_shape_records (length file)) _ s h in
    let (x, e, a) = outcome_step (or_refuse not_one_tree (read_shape (length file) file)) _ s k in
    let (n, y) = all_read_done not_one_tree x s a in
    let r : file ≡ shape_records x.0 ++ x.1 = shape_records_read (length file) file x (or_refuse_done not_one_tree _ x e) in
    (r ∙ ap₂ (λ t l. shape_records t ++ l) y n ∙ append-nil (shape_records s), ltb-false _ _ b)
