-- Laws of counting a shape's parts: a balanced tree, a block and a list are counted by the parts that the model takes out of them.
use Rattle.std.specs.Prelude.{◌≡◌, refl, List, [], ◌∷◌, ◌++◌, ℕ, zero, suc, ◌+◌, ◌<◌, ◌^◌, length, get_or, take, drop, replicate}
use Rattle.std.proofs.Common.{sym, ap₂, ◌∙◌, add-zero, arith, get_or-take, get_or-drop}
use Rattle.std.proofs.Math.Path.{ap}
use Rattle.std.proofs.Math.Option.{Option, none, some}
use Rattle.std.proofs.lemmas.List.{length-replicate}
use Rattle.model.specs.Options.{map_o, bind_o}
use Rattle.model.specs.Balanced.{BTree, leaf, fork, leaves, btree, grow, fold}
use Rattle.model.specs.Structural.{SValue, unit, left, right, pair}
use Rattle.model.specs.Reconstruct.{unfold_tree, as_tuple, as_block, combine, as_enum_leaf}
use Rattle.model.proofs.Laws.Balanced.{btree_leaves, size_left, size_right}
use Rattle.model.proofs.Laws.Valid.{length_unfold_tree, leaf_below, length_as_tuple}
use Rattle.rebuild.specs.Laws.Places.{Counter, plus_o, unit_count, sum_count, pair_count, any_count, no_count}

-- each shape by its own counter
abbrev pub zip : List Counter → List SValue → Option ℕ
zip [] [] = some 0
zip [] (x ∷ xs) = none
zip (c ∷ cs) [] = none
zip (c ∷ cs) (x ∷ xs) = plus_o (c x) (zip cs xs)

-- all by one
abbrev pub total : Counter → List SValue → Option ℕ
total c [] = some 0
total c (x ∷ xs) = plus_o (c x) (total c xs)

plus_o_zero : (o : Option ℕ) → plus_o o (some 0) ≡ o
plus_o_zero none = refl
plus_o_zero (some n) = ap some (add-zero n)

zero_plus_o : (o : Option ℕ) → plus_o (some 0) o ≡ o
zero_plus_o none = refl
zero_plus_o (some n) = ap some (omega arith)

plus_o_none : (o : Option ℕ) → plus_o o none ≡ none
plus_o_none none = refl
plus_o_none (some n) = refl

plus_o_assoc : (a b c : Option ℕ) → plus_o (plus_o a b) c ≡ plus_o a (plus_o b c)
plus_o_assoc none b c = refl
plus_o_assoc (some n) none c = refl
plus_o_assoc (some n) (some m) none = refl
plus_o_assoc (some n) (some m) (some k) = ap some (omega arith)

zip_append : (cs : List Counter) (xs ys : List SValue) → zip cs (xs ++ ys) ≡ plus_o (zip (take (length xs) cs) xs) (zip (drop (length xs) cs) ys)
zip_append cs [] ys = sym (zero_plus_o (zip cs ys))
zip_append [] (x ∷ xs) ys = refl
zip_append (c ∷ cs) (x ∷ xs) ys = ap (plus_o (c x)) (zip_append cs xs ys) ∙ sym (plus_o_assoc (c x) (zip (take (length xs) cs) xs) (zip (drop (length xs) cs) ys))

total_append : (c : Counter) (xs ys : List SValue) → total c (xs ++ ys) ≡ plus_o (total c xs) (total c ys)
total_append c [] ys = sym (zero_plus_o (total c ys))
total_append c (x ∷ xs) ys = ap (plus_o (c x)) (total_append c xs ys) ∙ sym (plus_o_assoc (c x) (total c xs) (total c ys))

zip_replicate : (n : ℕ) (c : Counter) (xs : List SValue) → length xs ≡ n → zip (replicate n c) xs ≡ total c xs
zip_replicate zero c [] h = refl
zip_replicate zero c (x ∷ xs) h = absurd (omega arith)
zip_replicate (suc n) c [] h = absurd (omega arith)
zip_replicate (suc n) c (x ∷ xs) h = ap (plus_o (c x)) (zip_replicate n c xs (omega arith))

-- PRODUCTS

-- the parts of both sides, counted
both_sides : (f g k : List SValue → Option ℕ) (u v : Option (List SValue)) → ((xs ys : List SValue) → u ≡ some xs → k (xs ++ ys) ≡ plus_o (f xs) (g ys)) → plus_o (bind_o u f) (bind_o v g) ≡ bind_o (bind_o u (λ xs. map_o (λ ys. xs ++ ys) v)) k
both_sides f g k none v h = refl
both_sides f g k (some xs) none h = plus_o_none (f xs)
both_sides f g k (some xs) (some ys) h = sym (h xs ys refl)

unfolds : (t : BTree) (cs : List Counter) (x : SValue) → length cs ≡ leaves t → fold pair_count any_count t cs x ≡ bind_o (unfold_tree t x) (zip cs)
unfolding fold unfold_tree
unfolds leaf [] x h = absurd (omega arith)
unfolds leaf (c ∷ []) x h = sym (plus_o_zero (c x))
unfolds leaf (c ∷ (d ∷ cs)) x h = absurd (omega arith)
unfolds (fork l r) cs unit h = refl
unfolds (fork l r) cs (left x) h = refl
unfolds (fork l r) cs (right x) h = refl
unfolds (fork l r) cs (pair x y) h =
    ap₂ plus_o (unfolds l (take (leaves l) cs) x (size_left l r cs h)) (unfolds r (drop (leaves l) cs) y (size_right l r cs h))
    ∙ both_sides (zip (take (leaves l) cs)) (zip (drop (leaves l) cs)) (zip cs) (unfold_tree l x) (unfold_tree r y) (λ xs ys e. zip_append cs xs ys ∙ ap (λ n. plus_o (zip (take n cs) xs) (zip (drop n cs) ys)) (length_unfold_tree l x xs e))

pub product_zip : (n : ℕ) (cs : List Counter) (x : SValue) → length cs ≡ n → fold pair_count any_count (btree n) cs x ≡ bind_o (as_tuple n x) (zip cs)
unfolding fold btree grow
product_zip zero [] x h = refl
product_zip zero (c ∷ cs) x h = absurd (omega arith)
product_zip (suc n) cs x h = unfolds (btree (suc n)) cs x (h ∙ sym (btree_leaves (suc n) (omega arith)))

bind_same : (o : Option (List SValue)) (f g : List SValue → Option ℕ) → ((xs : List SValue) → o ≡ some xs → f xs ≡ g xs) → bind_o o f ≡ bind_o o g
bind_same none f g h = refl
bind_same (some xs) f g h = h xs refl

pub product_total : (n : ℕ) (c : Counter) (x : SValue) → fold pair_count any_count (btree n) (replicate n c) x ≡ bind_o (as_tuple n x) (total c)
product_total n c x = product_zip n (replicate n c) x (length-replicate n c) ∙ bind_same (as_tuple n x) _ _ (λ xs e. zip_replicate n c xs (length_as_tuple n x xs e))

-- LISTS

abbrev pub block_count : ℕ → Counter → Counter
block_count n c = sum_count unit_count (fold pair_count any_count (btree n) (replicate n c))

abbrev pub list_count : ℕ → Counter → Counter
list_count zero c = block_count 1 c
list_count (suc e) c = pair_count (block_count (2 ^ suc e) c) (list_count e c)

block_total : (n : ℕ) (c : Counter) (x : SValue) → block_count n c x ≡ bind_o (as_block n x) (total c)
block_total n c unit = refl
block_total n c (left unit) = refl
block_total n c (left (left x)) = refl
block_total n c (left (right x)) = refl
block_total n c (left (pair x y)) = refl
block_total n c (right x) = product_total n c x
block_total n c (pair x y) = refl

pub list_total : (e : ℕ) (c : Counter) (x : SValue) → list_count e c x ≡ bind_o (combine e x) (total c)
unfolding combine
list_total zero c x = block_total 1 c x
list_total (suc e) c unit = refl
list_total (suc e) c (left x) = refl
list_total (suc e) c (right x) = refl
list_total (suc e) c (pair x y) =
    ap₂ plus_o (block_total (2 ^ suc e) c x) (list_total e c y)
    ∙ both_sides (total c) (total c) (total c) (as_block (2 ^ suc e) x) (combine e y) (λ xs ys h. total_append c xs ys)

-- SUMS

abbrev nth : List Counter → ℕ × SValue → Option ℕ
nth cs y = get_or cs y.0 no_count y.1

left_leaf : (k : ℕ) (cs : List Counter) (o : Option (ℕ × SValue)) → ((y : ℕ × SValue) → o ≡ some y → y.0 < k) → bind_o o (nth (take k cs)) ≡ bind_o o (nth cs)
left_leaf k cs none h = refl
left_leaf k cs (some y) h = ap (λ (c : Counter). c y.1) (get_or-take k cs y.0 no_count (h y refl))

right_leaf : (k : ℕ) (cs : List Counter) (o : Option (ℕ × SValue)) → bind_o o (nth (drop k cs)) ≡ bind_o (map_o (λ (y : ℕ × SValue). (k + y.0, y.1)) o) (nth cs)
right_leaf k cs none = refl
right_leaf k cs (some y) = ap (λ (c : Counter). c y.1) (get_or-drop k cs y.0 no_count)

pub sum_leaf : (t : BTree) (cs : List Counter) (x : SValue) → length cs ≡ leaves t → fold sum_count no_count t cs x ≡ bind_o (as_enum_leaf t x) (λ y. get_or cs y.0 no_count y.1)
unfolding fold as_enum_leaf
sum_leaf leaf [] x h = absurd (omega arith)
sum_leaf leaf (c ∷ cs) x h = refl
sum_leaf (fork l r) cs unit h = refl
sum_leaf (fork l r) cs (left x) h = sum_leaf l (take (leaves l) cs) x (size_left l r cs h) ∙ left_leaf (leaves l) cs (as_enum_leaf l x) (leaf_below l x)
sum_leaf (fork l r) cs (right x) h = sum_leaf r (drop (leaves l) cs) x (size_right l r cs h) ∙ right_leaf (leaves l) cs (as_enum_leaf r x)
sum_leaf (fork l r) cs (pair x y) h = refl
