-- Readers over places follow a walk if what they answer does, of each record (`Agrees`).
use Rattle.std.specs.Prelude.{◌≡◌, ℕ, suc, ◌+◌}
use Rattle.std.proofs.Math.Path.{refl, sym, ap}
use Rattle.std.proofs.Common.{◌∙◌, arith, drop-drop}
use mathlib.Core.List.{List, ◌∷◌, ◌++◌, append_assoc}
use Rattle.std.proofs.Math.Option.{Option, none, some}
use Rattle.std.proofs.Math.ListN.{length, drop, length-append}
use Rattle.std.proofs.Math.Seq.{drop_at}
use Rattle.array.specs.Laws.{tree_end_some}
use Rattle.model.specs.Options.{map_o}
use Rattle.model.specs.Structural.{SValue, unit, left, right, pair, shape_records}
use Rattle.model.specs.ShapeFiles.{read_shape}
use Rattle.model.specs.Spots.{Walk, in_sum, in_pair}
use Rattle.model.proofs.Laws.ShapeFiles.{read_shape_records}
use Rattle.rebuild.specs.Places.{Answers, closed, side, both, passed, units, sums, pairs, passes, at_places}
use Rattle.rebuild.specs.Laws.Places.{Counter, plus_o, unit_count, sum_count, pair_count, any_count, Stands, first, behind, child, Same, Follows}

-- what is answered at a place, from what is counted of a shape and what a walk makes of it
module _ {R X : Type 0} (answer : ℕ → Option ℕ → X → R) where
  pub record Agrees (A : Answers R) (K : Walk X) : Type 0 where
    pub nothing : (e : ℕ) (y : X) → A.nothing ≡ answer e none y
    pub unit : (e : ℕ) → A.unit e ≡ answer e (some 0) (K.other unit)
    pub lefts : (e : ℕ) (o : Option ℕ) (y : X) → A.lefts (answer e o y) ≡ answer e o (K.lefts y)
    pub rights : (e : ℕ) (o : Option ℕ) (y : X) → A.rights (answer e o y) ≡ answer e o (K.rights y)
    pub pairs : (r : ℕ → R) (m e : ℕ) (u v : Option ℕ) (i j : X) → r m ≡ answer e v j → A.pairs (answer m u i) r ≡ answer e (plus_o u v) (K.pairs i j)
    pub tree : (p : ℕ) (x : SValue) → A.tree p (p + length (shape_records x)) ≡ answer (p + length (shape_records x)) (some 0) (K.spot x)
    pub one : (e : ℕ) (o : Option ℕ) (y : X) → A.one (answer e o y) ≡ answer e (map_o (λ n. 1 + n) o) y
    -- a bit holds no spot
    pub bit : (x : SValue) → in_sum K K.other K.other x ≡ K.other x

  module _ {A : Answers R} {K : Walk X} (g : Agrees A K) (s : List ℕ) where
    units_told : (p : ℕ) (x : SValue) → Stands s p x → units A s p ≡ answer (p + length (shape_records x)) (unit_count x) (K.other x)
    unfolding units shape_records
    units_told p unit h = ap (λ b. closed A b (p + 1)) (first s p 0 _ h.here) ∙ g.unit (p + 1)
    units_told p (left x) h = ap (λ b. closed A b (p + 1)) (first s p 1 _ h.here) ∙ g.nothing _ _
    units_told p (right x) h = ap (λ b. closed A b (p + 1)) (first s p 2 _ h.here) ∙ g.nothing _ _
    units_told p (pair x y) h = ap (λ b. closed A b (p + 1)) (first s p 3 _ h.here) ∙ g.nothing _ _

    further : (p n : ℕ) (o : Option ℕ) (y : X) → answer (p + 1 + n) o y ≡ answer (p + suc n) o y
    further p n o y = ap (λ e. answer e o y) (omega arith)

    module _ (l r : ℕ → R) (a c : Counter) (v w : SValue → X) (f : Same answer s l a v) (k : Same answer s r c w) where
      sums_told : (p : ℕ) (x : SValue) → Stands s p x → sums A s l r p ≡ answer (p + length (shape_records x)) (sum_count a c x) (in_sum K v w x)
      unfolding sums shape_records
      sums_told p unit h = ap (λ b. side A b l r (p + 1)) (first s p 0 _ h.here) ∙ g.nothing _ _
      sums_told p (left x) h = ap (λ b. side A b l r (p + 1)) (first s p 1 _ h.here) ∙ ap A.lefts (f.told (p + 1) x (child s p 1 x h.rest h.here)) ∙ g.lefts _ (a x) (v x) ∙ further p _ (a x) (K.lefts (v x))
      sums_told p (right x) h = ap (λ b. side A b l r (p + 1)) (first s p 2 _ h.here) ∙ ap A.rights (k.told (p + 1) x (child s p 2 x h.rest h.here)) ∙ g.rights _ (c x) (w x) ∙ further p _ (c x) (K.rights (w x))
      sums_told p (pair x y) h = ap (λ b. side A b l r (p + 1)) (first s p 3 _ h.here) ∙ g.nothing _ _

      pairs_told : (p : ℕ) (x : SValue) → Stands s p x → pairs A s l r p ≡ answer (p + length (shape_records x)) (pair_count a c x) (in_pair K v w x)
      unfolding pairs shape_records
      pairs_told p unit h = ap (λ b. both A b l r (p + 1)) (first s p 0 _ h.here) ∙ g.nothing _ _
      pairs_told p (left x) h = ap (λ b. both A b l r (p + 1)) (first s p 1 _ h.here) ∙ g.nothing _ _
      pairs_told p (right x) h = ap (λ b. both A b l r (p + 1)) (first s p 2 _ h.here) ∙ g.nothing _ _
      pairs_told p (pair x y) h =
          let n = length (shape_records x) in
          let z : drop p s ≡ 3 ∷ shape_records x ++ (shape_records y ++ h.rest) = h.here ∙ ap {B = List ℕ} (λ m. 3 ∷ m) (append_assoc (shape_records x) (shape_records y) h.rest) in
          let o : drop (p + 1 + n) s ≡ shape_records y ++ h.rest = sym (drop-drop n (p + 1) s) ∙ ap (drop n) (behind s p 3 _ z) ∙ drop_at (shape_records x) (shape_records y ++ h.rest) n refl in
          ap (λ b. both A b l r (p + 1)) (first s p 3 _ z)
          ∙ ap (λ o. A.pairs o r) (f.told (p + 1) x (child s p 3 x _ z))
          ∙ g.pairs r (p + 1 + n) (p + 1 + n + length (shape_records y)) (a x) (c y) (v x) (w y) (k.told (p + 1 + n) y (record { rest = h.rest; here = o }))
          ∙ ap (λ e. answer e (plus_o (a x) (c y)) (K.pairs (v x) (w y))) (omega (arith, length-append (shape_records x) (shape_records y)))

    passes_told : (p : ℕ) (x : SValue) → Stands s p x → passes A s p ≡ answer (p + length (shape_records x)) (any_count x) (K.spot x)
    unfolding passes
    passes_told p x h =
        let n = length (shape_records x) in
        ap (passed A p) (tree_end_some n s p (x, h.rest) (ap (read_shape n) h.here ∙ read_shape_records n x h.rest (omega arith))).0 ∙ g.tree p x

    pub follows : Follows answer s (at_places A s) K
    unfolding at_places
    follows = record {
      units = record { told = units_told };
      sums = λ l r a c v w f k. record { told = sums_told l r a c v w f k };
      pairs = λ l r a c v w f k. record { told = pairs_told l r a c v w f k };
      passes = record { told = passes_told };
      fails = record { told = λ p x h. g.nothing _ _ };
      one = λ {r} {c} {w} f. record { told = λ p x h. ap A.one (f.told p x h) ∙ g.one (p + length (shape_records x)) (c x) (w x) };
      bit = g.bit;
    }
