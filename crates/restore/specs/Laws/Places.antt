-- Laws of the trees of a shape file: what a tree's first record is, and where the trees below it stand.
use Rattle.std.specs.Prelude.{◌≡◌, ℕ, suc, ◌+◌, ◌≤◌, ◌<◌, get_or, Option as Optional, Some, None, unwrap_or}
use Rattle.std.proofs.Math.Path.{refl, sym, ap}
use Rattle.std.proofs.Common.{◌∙◌, add-zero, arith, drop-drop, get_or-drop}
use mathlib.Core.List.{List, ◌∷◌, ◌++◌, append_assoc}
use Rattle.std.proofs.Math.Option.{Option, some}
use Rattle.std.proofs.Math.ListN.{length, drop, length-append, length-drop}
use Rattle.std.proofs.Math.Seq.{drop_at}
use Rattle.array.specs.Ends.{tree_end_of}
use Rattle.array.specs.Laws.{tree_end_some}
use Rattle.model.specs.Structural.{SValue, unit, left, right, pair, shape_records}
use Rattle.model.specs.ShapeFiles.{read_shape}
use Rattle.model.proofs.Laws.Options.{map_o_some}
use Rattle.model.proofs.Laws.ShapeFiles.{read_shape_records, shape_records_read}
use Rattle.restore.specs.Forms.{tree_at, made_at, Found, Ends}
use Rattle.restore.specs.Laws.Made.{MadeOf}

-- the tree x stands at place q, and e is the place after it
record Lies (sh : List ℕ) (q : ℕ) (x : SValue) (e : ℕ) : Type 0 where
  behind : List ℕ
  here : drop q sh ≡ shape_records x ++ behind
  end : e ≡ q + length (shape_records x)

module _ {sh : List ℕ} {q : ℕ} {x : SValue} {e : ℕ} where
  lies : tree_at sh q ≡ some (x, e) → Lies sh q x e
  unfolding tree_at
  lies h =
      let (y, r, k) = map_o_some _ (read_shape (length sh) (drop q sh)) (x, e) h in
      let i : y.0 ≡ x = ap (λ (z : SValue × ℕ). z.0) k in
      let j : q + length (shape_records y.0) ≡ e = ap (λ (z : SValue × ℕ). z.1) k in
      record { behind = y.1; here = shape_records_read (length sh) (drop q sh) y r ∙ ap (λ t. shape_records t ++ y.1) i; end = sym j ∙ ap (λ t. q + length (shape_records t)) i }

  stands : Lies sh q x e → tree_at sh q ≡ some (x, e)
  unfolding tree_at
  stands l =
      let n : length (shape_records x) ≤ length sh = omega (arith, ap length l.here, length-append (shape_records x) l.behind, length-drop q sh) in
      let r : read_shape (length sh) (drop q sh) ≡ some (x, l.behind) = ap (read_shape (length sh)) l.here ∙ read_shape_records (length sh) x l.behind n in
      rw (r, l.end) refl

  lies_end : Lies sh q x e → tree_end_of sh q ≡ Some e
  lies_end l =
      let n : length (shape_records x) ≤ length sh = omega (arith, ap length l.here, length-append (shape_records x) l.behind, length-drop q sh) in
      let r : read_shape (length sh) (drop q sh) ≡ some (x, l.behind) = ap (read_shape (length sh)) l.here ∙ read_shape_records (length sh) x l.behind n in
      (tree_end_some (length sh) sh q (x, l.behind) r).0 ∙ ap Some (sym l.end)

-- THE FIRST RECORD

module _ (sh : List ℕ) (q b : ℕ) (l : List ℕ) (h : drop q sh ≡ b ∷ l) where
  first : get_or sh q 0 ≡ b
  first = ap (λ i. get_or sh i 0) (sym (add-zero q)) ∙ sym (get_or-drop q sh 0 0) ∙ ap (λ m. get_or m 0 0) h

  within : q < length sh
  within = omega (arith, ap length h, length-drop q sh)

  next : drop (q + 1) sh ≡ l
  next = sym (drop-drop 1 q sh) ∙ ap (drop 1) h

-- a unit has no tree below it: its one record is all of it
pub record OneRecord (sh : List ℕ) (q e : ℕ) : Type 0 where
  pub inside : q < length sh
  pub end : e ≡ q + 1

-- a tree that starts with the record b has one
pub record One (sh : List ℕ) (q b : ℕ) (x : SValue) (e : ℕ) : Type 0 where
  pub starts : get_or sh q 0 ≡ b
  pub inside : q < length sh
  pub below : tree_at sh (q + 1) ≡ some (x, e)

-- or two
pub record Two (sh : List ℕ) (q : ℕ) (x y : SValue) (e : ℕ) : Type 0 where
  pub inside : q < length sh
  pub mid : ℕ
  pub first : tree_at sh (q + 1) ≡ some (x, mid)
  pub second : tree_at sh mid ≡ some (y, e)

module _ {sh : List ℕ} {q e : ℕ} where
  one : (b : ℕ) (x : SValue) (l : List ℕ) → drop q sh ≡ b ∷ shape_records x ++ l → e ≡ q + suc (length (shape_records x)) → One sh q b x e
  one b x l h n = record { starts = first sh q b _ h; inside = within sh q b _ h; below = stands (record { behind = l; here = next sh q b _ h; end = omega arith }) }

  pub left_at : (x : SValue) → tree_at sh q ≡ some (left x, e) → One sh q 1 x e
  unfolding shape_records
  left_at x h = let l = lies h in one 1 x l.behind l.here l.end

  pub right_at : (x : SValue) → tree_at sh q ≡ some (right x, e) → One sh q 2 x e
  unfolding shape_records
  right_at x h = let l = lies h in one 2 x l.behind l.here l.end

  pub pair_at : (x y : SValue) → tree_at sh q ≡ some (pair x y, e) → Two sh q x y e
  unfolding shape_records
  pair_at x y h =
      let l = lies h in
      let k = length (shape_records x) in
      let w : drop q sh ≡ 3 ∷ shape_records x ++ (shape_records y ++ l.behind) = l.here ∙ ap {B = List ℕ} (λ m. 3 ∷ m) (append_assoc (shape_records x) (shape_records y) l.behind) in
      let v : drop (q + 1 + k) sh ≡ shape_records y ++ l.behind = sym (drop-drop k (q + 1) sh) ∙ ap (drop k) (next sh q 3 _ w) ∙ drop_at (shape_records x) (shape_records y ++ l.behind) k refl in
      let n : e ≡ q + 1 + k + length (shape_records y) = l.end ∙ omega (arith, length-append (shape_records x) (shape_records y)) in
      record {
        inside = within sh q 3 _ w;
        mid = q + 1 + k;
        first = stands (record { behind = shape_records y ++ l.behind; here = next sh q 3 _ w; end = refl });
        second = stands (record { behind = l.behind; here = v; end = n });
      }

  pub unit_at : tree_at sh q ≡ some (unit, e) → OneRecord sh q e
  unfolding shape_records
  unit_at h = let l = lies h in record { inside = within sh q 0 _ l.here; end = l.end }

-- WHERE A TREE ENDS

module _ (sh : List ℕ) (q : ℕ) (g : Found (tree_at sh q)) where
  ends : tree_end_of sh q ≡ Some g.end
  ends = lies_end (lies g.there)

  pub passed : (r : Optional ℕ) (n : ℕ) → r ≡ tree_end_of sh q → n ≡ unwrap_or r q → Ends (tree_at sh q) n
  passed r n h k = let e : g.end ≡ n = ap (λ r. unwrap_or r q) (sym (h ∙ ends)) ∙ sym k in record { what = g.what; there = g.there ∙ ap (λ i. some (g.what, i)) e }

  pub not_passed : (r : Optional ℕ) → r ≡ tree_end_of sh q → r ≡ None → ⊥
  not_passed r h k = let e : ◌≡◌ {A = Optional ℕ} (Some g.end) None = sym ends ∙ sym h ∙ k in cc

-- WHAT IS MADE OF A TREE

-- of the tree that stands there what f makes of it is made
pub made_there : {A : Type 0} {sh : List ℕ} {f : SValue → Option A} {q : ℕ} {y : A × ℕ} → MadeOf sh f q y → made_at sh f q ≡ some y
unfolding made_at
made_there m = rw (m.stood, m.made) refl
