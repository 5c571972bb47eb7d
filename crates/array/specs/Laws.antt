-- Laws of the ends of trees: a tree's own records close it and no sooner, and where the model reads no tree there is no end.
-- So the end tells the same as the model's reader of shapes, with any fuel that is not below the records that are left.
use Rattle.std.specs.Prelude.{◌≡◌, refl, List, [], ◌∷◌, ◌++◌, ℕ, zero, suc, ◌+◌, ◌≤◌, ◌<◌, length, drop, Option as Optional, Some, None}
use Rattle.std.proofs.Common.{sym, ap, ◌∙◌, append_assoc, append-nil, arith, length-append, length-drop, drop-drop, drop_at, le-ltb}
use Rattle.std.proofs.Math.Option.{Option, none, some, none-ne-some}
use Rattle.std.proofs.Math.Seq.{drop-length}
use Rattle.model.specs.Numbers.{not_one_tree, most_shape_records}
use Rattle.model.specs.Outcome.{done, refused, ◌>>=◌, or_refuse, all_read}
use Rattle.model.specs.Options.{map_o, bind_o}
use Rattle.model.specs.Structural.{SValue, unit, left, right, pair, shape_records}
use Rattle.model.specs.ShapeFiles.{read_shape, shape_of}
use Rattle.model.proofs.Laws.ShapeFiles.{shape_some, shape_records_read, shape_read_written}
use Rattle.array.specs.Ends.{closes, tree_end_of}

-- the place after the trees that are due, for records that start at place i
abbrev others : ℕ → List ℕ → ℕ → Optional ℕ
others zero l i = Some i
others (suc due) l i = closes due l i

-- a tree's records close it
closes_tree : (s : SValue) (l : List ℕ) (due i : ℕ) → closes due (shape_records s ++ l) i ≡ others due l (i + length (shape_records s))
unfolding closes shape_records
closes_tree unit l zero i = refl
closes_tree unit l (suc due) i = refl
closes_tree (left s) l due i = closes_tree s l due (i + 1) ∙ ap (others due l) (omega arith)
closes_tree (right s) l due i = closes_tree s l due (i + 1) ∙ ap (others due l) (omega arith)
closes_tree (pair s t) l due i =
    ap (λ m. closes (suc due) m (i + 1)) (append_assoc (shape_records s) (shape_records t) l)
    ∙ closes_tree s (shape_records t ++ l) (suc due) (i + 1)
    ∙ closes_tree t l due (i + 1 + length (shape_records s))
    ∙ ap (others due l) (omega (arith, length-append (shape_records s) (shape_records t)))

map_o_none : {A B : Type 0} (f : A → B) (o : Option A) → map_o f o ≡ none → o ≡ none
map_o_none f none h = refl
map_o_none f (some a) h = absurd (none-ne-some (f a) (sym h))

-- where no tree is read nothing is closed
closes_nothing : (fuel : ℕ) (l : List ℕ) (due i : ℕ) → length l ≤ fuel → read_shape fuel l ≡ none → closes due l i ≡ None
unfolding closes read_shape
closes_nothing zero [] due i n h = refl
closes_nothing zero (b ∷ l) due i n h = absurd (omega arith)
closes_nothing (suc fuel) [] due i n h = refl
closes_nothing (suc fuel) (zero ∷ l) due i n h = absurd (none-ne-some _ (sym h))
closes_nothing (suc fuel) (suc zero ∷ l) due i n h = closes_nothing fuel l due (i + 1) (omega arith) (map_o_none _ _ h)
closes_nothing (suc fuel) (suc (suc zero) ∷ l) due i n h = closes_nothing fuel l due (i + 1) (omega arith) (map_o_none _ _ h)
closes_nothing (suc fuel) (suc (suc (suc zero)) ∷ l) due i n h = go (read_shape fuel l) refl h (closes_nothing fuel)
  where
    go : (o : Option (SValue × List ℕ)) → read_shape fuel l ≡ o
        → bind_o {B = SValue × List ℕ} o (λ x. map_o (λ y. (pair x.0 y.0, y.1)) (read_shape fuel x.1)) ≡ none
        → ((m : List ℕ) (due i : ℕ) → length m ≤ fuel → read_shape fuel m ≡ none → closes due m i ≡ None)
        → closes (suc due) l (i + 1) ≡ None
    go none e m rest = rest l (suc due) (i + 1) (omega arith) e
    go (some x) e m rest =
        let r : l ≡ shape_records x.0 ++ x.1 = shape_records_read fuel l x e in
        ap (λ k. closes (suc due) k (i + 1)) r
        ∙ closes_tree x.0 x.1 (suc due) (i + 1)
        ∙ rest x.1 due (i + 1 + length (shape_records x.0)) (omega (arith, ap length r, length-append (shape_records x.0) x.1)) (map_o_none _ _ m)
closes_nothing (suc fuel) (suc (suc (suc (suc b))) ∷ l) due i n h = refl

-- THE END AND THE MODEL'S READER

-- a tree that is read ends where its records end, and what is handed back stands there
pub tree_end_some : (fuel : ℕ) (s : List ℕ) (at : ℕ) (x : SValue × List ℕ) → read_shape fuel (drop at s) ≡ some x → (tree_end_of s at ≡ Some (at + length (shape_records x.0))) × (x.1 ≡ drop (at + length (shape_records x.0)) s)
unfolding tree_end_of
tree_end_some fuel s at x h =
    let n = length (shape_records x.0) in
    let r : drop at s ≡ shape_records x.0 ++ x.1 = shape_records_read fuel (drop at s) x h in
    (ap (λ m. closes 0 m at) r ∙ closes_tree x.0 x.1 0 at, sym (drop_at (shape_records x.0) x.1 n refl) ∙ ap (drop n) (sym r) ∙ drop-drop n at s)

-- where no tree is read there is no end
pub tree_end_none : (fuel : ℕ) (s : List ℕ) (at : ℕ) → length (drop at s) ≤ fuel → read_shape fuel (drop at s) ≡ none → tree_end_of s at ≡ None
unfolding tree_end_of
tree_end_none fuel s at n h = closes_nothing fuel (drop at s) 0 at n h

-- a tree of s from `at` to `to`
pub record Tree (fuel : ℕ) (s : List ℕ) (at to : ℕ) : Type 0 where
  pub tree : SValue
  pub reads : read_shape fuel (drop at s) ≡ some (tree, drop to s)
  pub size : to ≡ at + length (shape_records tree)
  pub after : at < to
  pub inside : to ≤ length s

-- where there is an end a tree is read
pub tree_end_at : (fuel : ℕ) (s : List ℕ) (at to : ℕ) → length (drop at s) ≤ fuel → tree_end_of s at ≡ Some to → Tree fuel s at to
tree_end_at fuel s at to n h = go (read_shape fuel (drop at s)) refl
  where
    go : (o : Option (SValue × List ℕ)) → read_shape fuel (drop at s) ≡ o → Tree fuel s at to
    go none q = let e = tree_end_none fuel s at n q in let z : ◌≡◌ {A = ℕ} 0 1 = cc in absurd (omega arith)
    go (some x) q =
        let (e, r) = tree_end_some fuel s at x q in
        let w : drop at s ≡ shape_records x.0 ++ x.1 = shape_records_read fuel (drop at s) x q in
        let t : to ≡ at + length (shape_records x.0) = cc in
        record { tree = x.0; reads = q ∙ ap (λ l. some (x.0, l)) (r ∙ ap (λ k. drop k s) (sym t)); size = t; after = omega (arith, shape_some x.0); inside = omega (arith, shape_some x.0, length-drop at s, ap length w, length-append (shape_records x.0) x.1) }

-- A WHOLE FILE

-- so many records that are one tree to their end are a shape file
pub whole_shape : (s : List ℕ) → length s ≤ most_shape_records → tree_end_of s 0 ≡ Some (length s) → (t : SValue) × (shape_of s ≡ done t)
whole_shape s n h =
    let r = tree_end_at (length s) s 0 (length s) (omega arith) h in
    let t = r.tree in
    let w : s ≡ shape_records t = shape_records_read (length s) s (t, drop (length s) s) r.reads ∙ ap (λ l. shape_records t ++ l) (drop-length s) ∙ append-nil (shape_records t) in
    (t, ap shape_of w ∙ shape_read_written t (rw (← w) n))

-- and so many that are not are refused as row 9
pub no_shape : (s : List ℕ) → length s ≤ most_shape_records → (tree_end_of s 0 ≡ Some (length s) → ⊥) → shape_of s ≡ refused not_one_tree
unfolding shape_of
no_shape s n h = rw (le-ltb most_shape_records (length s) n) (go (read_shape (length s) s) refl)
  where
    go : (o : Option (SValue × List ℕ)) → read_shape (length s) s ≡ o → (or_refuse not_one_tree o >>= all_read not_one_tree) ≡ refused not_one_tree
    go none q = refl
    go (some (t, [])) q = absurd (h ((tree_end_some (length s) s 0 (t, []) q).0 ∙ ap Some (omega (arith, ap length (shape_records_read (length s) s (t, []) q), length-append (shape_records t) []))))
    go (some (t, r ∷ rs)) q = refl
