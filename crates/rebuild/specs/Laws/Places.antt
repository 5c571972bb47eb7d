-- Laws of readers over places: where a shape stands in a file, a reader answers its end, what is counted of the shape, and what a walk makes of it (02, R-5).
-- It is enough that the readers of one record do so (`Follows`).
use Rattle.std.specs.Prelude.{◌≡◌, List, [], ◌∷◌, ◌++◌, ℕ, zero, suc, ◌+◌, length, get_or, take, drop, replicate}
use Rattle.std.proofs.Common.{sym, ap, ◌∙◌, add-zero, drop-drop, get_or-drop}
use Rattle.std.proofs.Math.Option.{Option, none, some}
use Rattle.model.specs.Options.{map_o, bind_o}
use Rattle.model.specs.Balanced.{BTree, leaf, fork, leaves, btree, fold}
use Rattle.model.specs.Structural.{SValue, unit, left, right, pair, shape_records}
use Rattle.model.specs.Spots.{Walk, in_sum, in_pair, in_tuple, in_choice}
use Rattle.rebuild.specs.Kinds.{Readers, products, choices, bits}

-- COUNTERS

-- what is counted of a shape, if it can be read
abbrev pub Counter : Type 0
Counter = SValue → Option ℕ

abbrev pub plus_o : Option ℕ → Option ℕ → Option ℕ
plus_o a b = bind_o a (λ n. map_o (λ m. n + m) b)

abbrev pub unit_count : Counter
unit_count unit = some 0
unit_count (left x) = none
unit_count (right x) = none
unit_count (pair x y) = none

abbrev pub sum_count : Counter → Counter → Counter
sum_count l r unit = none
sum_count l r (left x) = l x
sum_count l r (right x) = r x
sum_count l r (pair x y) = none

abbrev pub pair_count : Counter → Counter → Counter
pair_count l r unit = none
pair_count l r (left x) = none
pair_count l r (right x) = none
pair_count l r (pair x y) = plus_o (l x) (r y)

abbrev pub any_count : Counter
any_count x = some 0

abbrev pub no_count : Counter
no_count x = none

-- WHERE A SHAPE STANDS

-- the shape x stands at place p
pub record Stands (s : List ℕ) (p : ℕ) (x : SValue) : Type 0 where
  pub rest : List ℕ
  pub here : drop p s ≡ shape_records x ++ rest

module _ (s : List ℕ) where
  pub first : (p b : ℕ) (l : List ℕ) → drop p s ≡ b ∷ l → get_or s p 4 ≡ b
  first p b l h = ap (λ q. get_or s q 4) (sym (add-zero p)) ∙ sym (get_or-drop p s 0 4) ∙ ap (λ m. get_or m 0 4) h

  pub behind : (p b : ℕ) (l : List ℕ) → drop p s ≡ b ∷ l → drop (p + 1) s ≡ l
  behind p b l h = sym (drop-drop 1 p s) ∙ ap (drop 1) h

  pub child : (p b : ℕ) (x : SValue) (l : List ℕ) → drop p s ≡ b ∷ shape_records x ++ l → Stands s (p + 1) x
  child p b x l h = record { rest = l; here = behind p b _ h }

-- READERS

-- what a reader answers at the end of a shape, from what is counted of it and what a walk makes of it
module _ {R X : Type 0} (answer : ℕ → Option ℕ → X → R) (s : List ℕ) where
  pub record Same (r : ℕ → R) (c : Counter) (w : SValue → X) : Type 0 where
    pub told : (p : ℕ) (x : SValue) → Stands s p x → r p ≡ answer (p + length (shape_records x)) (c x) (w x)

  pub same_as : {r : ℕ → R} {c d : Counter} {w : SValue → X} → Same r c w → ((x : SValue) → c x ≡ d x) → Same r d w
  same_as {r} {c} {d} {w} f g = record { told = λ p x h. f.told p x h ∙ ap (λ o. answer (p + length (shape_records x)) o (w x)) (g x) }

  pub data Sames : List (ℕ → R) → List Counter → List (SValue → X) → Type 0 where
    none_left : Sames [] [] []
    one_more : {r : ℕ → R} {c : Counter} {w : SValue → X} {rs : List (ℕ → R)} {cs : List Counter} {ws : List (SValue → X)} → Same r c w → Sames rs cs ws → Sames (r ∷ rs) (c ∷ cs) (w ∷ ws)

  sames_take : (n : ℕ) {rs : List (ℕ → R)} {cs : List Counter} {ws : List (SValue → X)} → Sames rs cs ws → Sames (take n rs) (take n cs) (take n ws)
  sames_take zero h = none_left
  sames_take (suc n) none_left = none_left
  sames_take (suc n) (one_more h k) = one_more h (sames_take n k)

  sames_drop : (n : ℕ) {rs : List (ℕ → R)} {cs : List Counter} {ws : List (SValue → X)} → Sames rs cs ws → Sames (drop n rs) (drop n cs) (drop n ws)
  sames_drop zero h = h
  sames_drop (suc n) none_left = none_left
  sames_drop (suc n) (one_more h k) = sames_drop n k

  pub sames_replicate : (n : ℕ) {r : ℕ → R} {c : Counter} {w : SValue → X} → Same r c w → Sames (replicate n r) (replicate n c) (replicate n w)
  sames_replicate zero h = none_left
  sames_replicate (suc n) h = one_more h (sames_replicate n h)

  module _ (f : (ℕ → R) → (ℕ → R) → ℕ → R) (g : Counter → Counter → Counter) (o : (SValue → X) → (SValue → X) → SValue → X) (d : ℕ → R) (e : Counter) (u : SValue → X)
      (k : (l r : ℕ → R) (a c : Counter) (v w : SValue → X) → Same l a v → Same r c w → Same (f l r) (g a c) (o v w)) (z : Same d e u) where
    fold_same : (t : BTree) {rs : List (ℕ → R)} {cs : List Counter} {ws : List (SValue → X)} → Sames rs cs ws → Same (fold f d t rs) (fold g e t cs) (fold o u t ws)
    unfolding fold
    fold_same leaf none_left = z
    fold_same leaf (one_more h i) = h
    fold_same (fork l r) h = k _ _ _ _ _ _ (fold_same l (sames_take (leaves l) h)) (fold_same r (sames_drop (leaves l) h))

  -- the readers of one record answer what the walk makes of it
  pub record Follows (W : Readers (ℕ → R)) (K : Walk X) : Type 0 where
    pub units : Same W.units unit_count K.other
    pub sums : (l r : ℕ → R) (a c : Counter) (v w : SValue → X) → Same l a v → Same r c w → Same (W.sums l r) (sum_count a c) (in_sum K v w)
    pub pairs : (l r : ℕ → R) (a c : Counter) (v w : SValue → X) → Same l a v → Same r c w → Same (W.pairs l r) (pair_count a c) (in_pair K v w)
    pub passes : Same W.passes any_count K.spot
    pub fails : Same W.fails no_count K.other
    pub one : {r : ℕ → R} {c : Counter} {w : SValue → X} → Same r c w → Same (W.one r) (λ x. map_o (λ n. 1 + n) (c x)) w
    -- a bit holds no spot
    pub bit : (x : SValue) → in_sum K K.other K.other x ≡ K.other x

  module _ {W : Readers (ℕ → R)} {K : Walk X} (f : Follows W K) where
    pub one_same : {r : ℕ → R} {c d : Counter} {w : SValue → X} → Same r c w → ((x : SValue) → map_o (λ n. 1 + n) (c x) ≡ d x) → Same (W.one r) d w
    one_same h g = same_as (f.one h) g

    pub bits_same : Same (bits W) (sum_count unit_count unit_count) K.other
    bits_same = record { told = λ p x h. (f.sums W.units W.units unit_count unit_count K.other K.other f.units f.units).told p x h ∙ ap (answer (p + length (shape_records x)) (sum_count unit_count unit_count x)) (f.bit x) }

    pub products_same : (n : ℕ) {rs : List (ℕ → R)} {cs : List Counter} {ws : List (SValue → X)} → Sames rs cs ws → Same (products W n rs) (fold pair_count any_count (btree n) cs) (in_tuple K n ws)
    unfolding products
    products_same n h = fold_same W.pairs pair_count (in_pair K) W.passes any_count K.spot f.pairs f.passes (btree n) h

    pub choices_same : (n : ℕ) {rs : List (ℕ → R)} {cs : List Counter} {ws : List (SValue → X)} → Sames rs cs ws → Same (choices W n rs) (fold sum_count no_count (btree n) cs) (in_choice K n ws)
    unfolding choices
    choices_same n h = fold_same W.sums sum_count (in_sum K) W.fails no_count K.other f.sums f.fails (btree n) h
