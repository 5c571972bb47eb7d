-- Laws of the spots of a shape: what two walks make of it agree where they agree at each step, so that a shape is clean exactly if cleaning leaves it as it is,
-- and exactly if no record is left over at its spots, which are all that it takes away. Of a shape that is read, cleaning makes the shape of the value.
use Rattle.std.specs.Prelude.{◌≡◌, refl, Bool, true, false, ◌||◌, ◌↔◌, ◌⊎◌, ltb, get_or, take, drop, replicate}
use Rattle.std.proofs.Math.Path.{sym, ap, ap₂}
use Rattle.std.proofs.Common.{◌∙◌, true≢false, inl, inr, arith, length-append, get_or-take, get_or-drop, take_at, drop_at, lt-ltb, le-ltb}
use mathlib.Core.List.{List, [], ◌∷◌, ◌++◌, map, map-append}
use Rattle.std.proofs.Math.Option.{Option, none, some, none-ne-some, some-injective}
use Prim.Native.Nat.{ℕ, zero, suc, ◌+◌, ◌-◌, ◌≤◌, ◌<◌, ◌^◌}
use Rattle.std.proofs.Math.Nat.{add-sub_cancel_left, one-le-pow}
use Rattle.std.proofs.Math.ListN.{length}
use Rattle.std.proofs.lemmas.List.{length-map, length-replicate}
use Rattle.model.specs.Options.{pick, bind_o, map_m}
use Rattle.model.specs.Bytes.{to_bits, of_bits}
use Rattle.model.specs.Balanced.{BTree, leaf, fork, leaves, btree, grow, fold}
use Rattle.model.specs.Structural.{SValue, unit, left, right, pair, shape_records, tuple_of, enum_injection, block, partition}
use Rattle.model.specs.Types.{Ty, Tys, Variants, never, bool, uint, either, option, tuple, array, list, enum, nil, cons, last, more, size, count}
use Rattle.model.specs.Values.{Value, Values, Choice, Valid, bit, inject, injects, payload}
use Rattle.model.specs.Reconstruct.{unfold_tree, as_tuple, as_bit, as_integer, as_option, as_block, as_elements, combine, as_enum_leaf, reconstruct, reconstructs, choose}
use Rattle.model.specs.Spots.{Walk, in_sum, in_pair, in_tuple, in_choice, in_block, in_list, walk, walks, walks_of, not_unit, lacking, lacks_unit, cleaning, cleaned}
use Rattle.model.proofs.Laws.Options.{bind_o_some, map_o_some}
use Rattle.model.proofs.Laws.Outcome.{or_false}
use Rattle.model.proofs.Laws.Balanced.{btree_leaves, fold_fork, size_left, size_right}
use Rattle.model.proofs.Laws.Bytes.{to_bits_of_bits}
use Rattle.model.proofs.Laws.Shapes.{reconstruct_inject, count_leaves}
use Rattle.model.proofs.Laws.ShapeFiles.{shape_some}
use Rattle.model.proofs.Laws.Valid.{length_unfold_tree, length_as_tuple, length_combine, leaf_below, choose_index, length_map_m, reconstruct_valid}

-- TWO WALKS

-- R holds of what two walks make of a shape if it holds of it at a spot, of what holds none, and goes on from what they make below
module _ {A B : Type 0} (w : Walk A) (z : Walk B) (R : SValue → A → B → Type 0) where
  pub record Agree : Type 0 where
    pub spot : (s : SValue) → R s (w.spot s) (z.spot s)
    pub other : (s : SValue) → R s (w.other s) (z.other s)
    pub lefts : (s : SValue) (a : A) (b : B) → R s a b → R (left s) (w.lefts a) (z.lefts b)
    pub rights : (s : SValue) (a : A) (b : B) → R s a b → R (right s) (w.rights a) (z.rights b)
    pub pairs : (s t : SValue) (a c : A) (b d : B) → R s a b → R t c d → R (pair s t) (w.pairs a c) (z.pairs b d)

  record Alike (f : SValue → A) (g : SValue → B) : Type 0 where
    at : (s : SValue) → R s (f s) (g s)

  abbrev Alikes : List (SValue → A) → List (SValue → B) → Type 0
  Alikes [] [] = Unit
  Alikes [] (g ∷ gs) = ⊥
  Alikes (f ∷ fs) [] = ⊥
  Alikes (f ∷ fs) (g ∷ gs) = Alike f g × Alikes fs gs

  alikes_take : (n : ℕ) (fs : List (SValue → A)) (gs : List (SValue → B)) → Alikes fs gs → Alikes (take n fs) (take n gs)
  alikes_take zero fs gs h = tt
  alikes_take (suc n) [] [] h = tt
  alikes_take (suc n) [] (g ∷ gs) h = absurd h
  alikes_take (suc n) (f ∷ fs) [] h = absurd h
  alikes_take (suc n) (f ∷ fs) (g ∷ gs) h = (h.0, alikes_take n fs gs h.1)

  alikes_drop : (n : ℕ) (fs : List (SValue → A)) (gs : List (SValue → B)) → Alikes fs gs → Alikes (drop n fs) (drop n gs)
  alikes_drop zero fs gs h = h
  alikes_drop (suc n) [] [] h = tt
  alikes_drop (suc n) [] (g ∷ gs) h = absurd h
  alikes_drop (suc n) (f ∷ fs) [] h = absurd h
  alikes_drop (suc n) (f ∷ fs) (g ∷ gs) h = alikes_drop n fs gs h.1

  alikes_replicate : (n : ℕ) (f : SValue → A) (g : SValue → B) → Alike f g → Alikes (replicate n f) (replicate n g)
  alikes_replicate zero f g h = tt
  alikes_replicate (suc n) f g h = (h, alikes_replicate n f g h)

  fold_alike : (p : (SValue → A) → (SValue → A) → SValue → A) (q : (SValue → B) → (SValue → B) → SValue → B) (d : SValue → A) (e : SValue → B)
      → ((f h : SValue → A) (g k : SValue → B) → Alike f g → Alike h k → Alike (p f h) (q g k)) → Alike d e
      → (t : BTree) (fs : List (SValue → A)) (gs : List (SValue → B)) → Alikes fs gs → Alike (fold p d t fs) (fold q e t gs)
  unfolding fold
  fold_alike p q d e k z leaf [] [] h = z
  fold_alike p q d e k z leaf [] (g ∷ gs) h = absurd h
  fold_alike p q d e k z leaf (f ∷ fs) [] h = absurd h
  fold_alike p q d e k z leaf (f ∷ fs) (g ∷ gs) h = h.0
  fold_alike p q d e k z (fork l r) fs gs h = k _ _ _ _ (fold_alike p q d e k z l _ _ (alikes_take (leaves l) fs gs h)) (fold_alike p q d e k z r _ _ (alikes_drop (leaves l) fs gs h))

  module _ (a : Agree) where
    sum_at : (f h : SValue → A) (g k : SValue → B) → Alike f g → Alike h k → (s : SValue) → R s (in_sum w f h s) (in_sum z g k s)
    sum_at f h g k x y unit = a.other unit
    sum_at f h g k x y (left s) = a.lefts s _ _ (x.at s)
    sum_at f h g k x y (right s) = a.rights s _ _ (y.at s)
    sum_at f h g k x y (pair s t) = a.other (pair s t)

    pair_at : (f h : SValue → A) (g k : SValue → B) → Alike f g → Alike h k → (s : SValue) → R s (in_pair w f h s) (in_pair z g k s)
    pair_at f h g k x y unit = a.other unit
    pair_at f h g k x y (left s) = a.other (left s)
    pair_at f h g k x y (right s) = a.other (right s)
    pair_at f h g k x y (pair s t) = a.pairs s t _ _ _ _ (x.at s) (y.at t)

    sum_alike : (f h : SValue → A) (g k : SValue → B) → Alike f g → Alike h k → Alike (in_sum w f h) (in_sum z g k)
    sum_alike f h g k x y = record { at = sum_at f h g k x y }

    pair_alike : (f h : SValue → A) (g k : SValue → B) → Alike f g → Alike h k → Alike (in_pair w f h) (in_pair z g k)
    pair_alike f h g k x y = record { at = pair_at f h g k x y }

    others : Alike w.other z.other
    others = record { at = a.other }

    tuple_alike : (n : ℕ) (fs : List (SValue → A)) (gs : List (SValue → B)) → Alikes fs gs → Alike (in_tuple w n fs) (in_tuple z n gs)
    tuple_alike n = fold_alike (in_pair w) (in_pair z) w.spot z.spot pair_alike (record { at = a.spot }) (btree n)

    choice_alike : (n : ℕ) (fs : List (SValue → A)) (gs : List (SValue → B)) → Alikes fs gs → Alike (in_choice w n fs) (in_choice z n gs)
    choice_alike n = fold_alike (in_sum w) (in_sum z) w.other z.other sum_alike others (btree n)

    block_alike : (n : ℕ) (f : SValue → A) (g : SValue → B) → Alike f g → Alike (in_block w n f) (in_block z n g)
    block_alike n f g h = sum_alike _ _ _ _ others (tuple_alike n _ _ (alikes_replicate n f g h))

    list_alike : (e : ℕ) (f : SValue → A) (g : SValue → B) → Alike f g → Alike (in_list w e f) (in_list z e g)
    unfolding in_list
    list_alike zero f g h = block_alike 1 f g h
    list_alike (suc e) f g h = pair_alike _ _ _ _ (block_alike (2 ^ suc e) f g h) (list_alike e f g h)

    mutual
      unfolding walk

      walk_alike : (t : Ty) → Alike (walk w t) (walk z t)
      walk_alike never = others
      walk_alike bool = others
      walk_alike (uint n) = tuple_alike n _ _ (alikes_replicate n _ _ others)
      walk_alike (either x y) = sum_alike _ _ _ _ (walk_alike x) (walk_alike y)
      walk_alike (option x) = sum_alike _ _ _ _ others (walk_alike x)
      walk_alike (tuple ts) = tuple_alike (size ts) _ _ (walks_alike ts)
      walk_alike (array x n) = tuple_alike n _ _ (alikes_replicate n _ _ (walk_alike x))
      walk_alike (list x e) = list_alike e _ _ (walk_alike x)
      walk_alike (enum vs) = choice_alike (count vs) _ _ (walks_of_alike vs)

      walks_alike : (ts : Tys) → Alikes (walks w ts) (walks z ts)
      walks_alike nil = tt
      walks_alike (cons t ts) = (walk_alike t, walks_alike ts)

      walks_of_alike : (vs : Variants) → Alikes (walks_of w vs) (walks_of z vs)
      walks_of_alike (last ts) = (tuple_alike (size ts) _ _ (walks_alike ts), tt)
      walks_of_alike (more ts vs) = (tuple_alike (size ts) _ _ (walks_alike ts), walks_of_alike vs)

    pub walks_agree : (t : Ty) (s : SValue) → R s (walk w t s) (walk z t s)
    walks_agree t = (walk_alike t).at

-- CLEAN SHAPES

-- the records beyond the first
abbrev pub excess : SValue → ℕ
excess s = length (shape_records s) - 1

-- those at the spots, which cleaning takes away
abbrev pub counting : Walk ℕ
counting = record { spot = excess; other = λ s. 0; lefts = λ n. n; rights = λ n. n; pairs = ◌+◌ }

abbrev pub surplus : Ty → SValue → ℕ
surplus t s = walk counting t s

unit_excess : (s : SValue) → (not_unit s ≡ false) ↔ (excess s ≡ 0)
unfolding shape_records
unit_excess unit = ((λ h. refl), λ h. refl)
unit_excess (left s) = ((λ h. absurd (true≢false h)), λ h. absurd (omega (arith, shape_some s)))
unit_excess (right s) = ((λ h. absurd (true≢false h)), λ h. absurd (omega (arith, shape_some s)))
unit_excess (pair s t) = ((λ h. absurd (true≢false h)), λ h. absurd (omega (arith, shape_some s, shape_some t, length-append (shape_records s) (shape_records t))))

neither : (b c : Bool) → b ≡ false → c ≡ false → b || c ≡ false
neither b c h k = ap₂ ◌||◌ h k

-- no spot lacks its unit exactly if there are none of them
pub no_surplus : (t : Ty) (s : SValue) → (lacks_unit t s ≡ false) ↔ (surplus t s ≡ 0)
no_surplus = walks_agree lacking counting (λ s b n. (b ≡ false) ↔ (n ≡ 0)) (record {
  spot = unit_excess;
  other = λ s. ((λ h. refl), λ h. refl);
  lefts = λ s b n h. h;
  rights = λ s b n h. h;
  pairs = λ s t b c n m h k. ((λ e. let (x, y) = or_false b c e in let i = h.0 x in let j = k.0 y in omega arith), λ e. neither b c (h.1 (omega arith)) (k.1 (omega arith)));
})

-- and cleaning takes away these and nothing else
pub cleaned_length : (t : Ty) (s : SValue) → length (shape_records (cleaned t s)) + surplus t s ≡ length (shape_records s)
unfolding shape_records
cleaned_length = walks_agree cleaning counting (λ s c n. length (shape_records c) + n ≡ length (shape_records s)) (record {
  spot = λ s. omega (arith, shape_some s);
  other = λ s. omega arith;
  lefts = λ s c n h. omega arith;
  rights = λ s c n h. omega arith;
  pairs = λ s t c d n m h k. omega (arith, length-append (shape_records s) (shape_records t), length-append (shape_records c) (shape_records d));
})

unit_kept : (s : SValue) → (not_unit s ≡ false) ↔ (unit ≡ s)
unit_kept unit = ((λ h. refl), λ h. refl)
unit_kept (left s) = ((λ h. absurd (true≢false h)), λ h. let z : ◌≡◌ {A = ℕ} 0 1 = cc in absurd (omega arith))
unit_kept (right s) = ((λ h. absurd (true≢false h)), λ h. let z : ◌≡◌ {A = ℕ} 0 1 = cc in absurd (omega arith))
unit_kept (pair s t) = ((λ h. absurd (true≢false h)), λ h. let z : ◌≡◌ {A = ℕ} 0 1 = cc in absurd (omega arith))

-- and exactly if cleaning leaves the shape as it is
pub clean_same : (t : Ty) (s : SValue) → (lacks_unit t s ≡ false) ↔ (cleaned t s ≡ s)
clean_same = walks_agree lacking cleaning (λ s b c. (b ≡ false) ↔ (c ≡ s)) (record {
  spot = unit_kept;
  other = λ s. ((λ h. refl), λ h. refl);
  lefts = λ s b c h. ((λ e. ap {B = SValue} left (h.0 e)), λ e. h.1 (left_is e));
  rights = λ s b c h. ((λ e. ap {B = SValue} right (h.0 e)), λ e. h.1 (right_is e));
  pairs = λ s t b d c e h k. ((λ f. let (x, y) = or_false b d f in ap₂ {C = SValue} pair (h.0 x) (k.0 y)), λ f. neither b d (h.1 (pair_is f).0) (k.1 (pair_is f).1));
})
  where
    left_is : {a b : SValue} → left a ≡ left b → a ≡ b
    left_is h = cc

    right_is : {a b : SValue} → right a ≡ right b → a ≡ b
    right_is h = cc

    pair_is : {a b c d : SValue} → pair a b ≡ pair c d → (a ≡ c) × (b ≡ d)
    pair_is h = (cc, cc)

-- THE SHAPE OF THE VALUE

-- each function on its own shape
abbrev apply : List (SValue → SValue) → List SValue → List SValue
apply [] ss = []
apply (f ∷ fs) [] = []
apply (f ∷ fs) (s ∷ ss) = f s ∷ apply fs ss

length_apply : (fs : List (SValue → SValue)) (ss : List SValue) → length fs ≡ length ss → length (apply fs ss) ≡ length ss
length_apply [] [] h = refl
length_apply [] (s ∷ ss) h = absurd (omega arith)
length_apply (f ∷ fs) [] h = absurd (omega arith)
length_apply (f ∷ fs) (s ∷ ss) h = ap suc (length_apply fs ss (omega arith))

apply_append : (n : ℕ) (fs : List (SValue → SValue)) (xs ys : List SValue) → length xs ≡ n → n ≤ length fs → apply fs (xs ++ ys) ≡ apply (take n fs) xs ++ apply (drop n fs) ys
apply_append zero fs [] ys h k = refl
apply_append zero fs (x ∷ xs) ys h k = absurd (omega arith)
apply_append (suc n) fs [] ys h k = absurd (omega arith)
apply_append (suc n) [] (x ∷ xs) ys h k = absurd (omega arith)
apply_append (suc n) (f ∷ fs) (x ∷ xs) ys h k = ap {B = List SValue} (λ l. f x ∷ l) (apply_append n fs xs ys (omega arith) (omega arith))

apply_replicate : (n : ℕ) (f : SValue → SValue) (ss : List SValue) → length ss ≡ n → apply (replicate n f) ss ≡ map f ss
apply_replicate zero f [] h = refl
apply_replicate zero f (s ∷ ss) h = absurd (omega arith)
apply_replicate (suc n) f [] h = absurd (omega arith)
apply_replicate (suc n) f (s ∷ ss) h = ap {B = List SValue} (λ l. f s ∷ l) (apply_replicate n f ss (omega arith))

tree_cleaned : (t : BTree) (fs : List (SValue → SValue)) (s : SValue) (ss : List SValue) → length fs ≡ leaves t → unfold_tree t s ≡ some ss → fold (in_pair cleaning) (λ x. unit) t fs s ≡ fold pair unit t (apply fs ss)
unfolding fold unfold_tree
tree_cleaned leaf [] s ss h k = absurd (omega arith)
tree_cleaned leaf (f ∷ fs) s ss h k = rw (← some-injective (s ∷ []) ss k) refl
tree_cleaned (fork l r) fs unit ss h k = absurd (none-ne-some ss k)
tree_cleaned (fork l r) fs (left s) ss h k = absurd (none-ne-some ss k)
tree_cleaned (fork l r) fs (right s) ss h k = absurd (none-ne-some ss k)
tree_cleaned (fork l r) fs (pair s t) ss h k =
    let (xs, e, m) = bind_o_some (unfold_tree l s) _ ss k in
    let (ys, f, n) = map_o_some _ (unfold_tree r t) ss m in
    let x : length xs ≡ leaves l = length_unfold_tree l s xs e in
    let g : length (apply (take (leaves l) fs) xs) ≡ leaves l = length_apply (take (leaves l) fs) xs (size_left l r fs h ∙ sym x) ∙ x in
    ap₂ {C = SValue} pair (tree_cleaned l (take (leaves l) fs) s xs (size_left l r fs h) e) (tree_cleaned r (drop (leaves l) fs) t ys (size_right l r fs h) f)
    ∙ sym (fold_fork pair unit l r (apply (take (leaves l) fs) xs) (apply (drop (leaves l) fs) ys) g)
    ∙ ap (fold pair unit (fork l r)) (sym (apply_append (leaves l) fs xs ys x (omega arith)) ∙ ap (apply fs) n)

tuple_cleaned : (n : ℕ) (fs : List (SValue → SValue)) (s : SValue) (ss : List SValue) → length fs ≡ n → as_tuple n s ≡ some ss → in_tuple cleaning n fs s ≡ tuple_of (apply fs ss)
unfolding btree grow fold
tuple_cleaned zero [] s ss h k = refl
tuple_cleaned zero (f ∷ fs) s ss h k = absurd (omega arith)
tuple_cleaned (suc n) fs s ss h k =
    let z : length ss ≡ suc n = length_as_tuple (suc n) s ss k in
    tree_cleaned (btree (suc n)) fs s ss (h ∙ sym (btree_leaves (suc n) (omega arith))) k
    ∙ ap (λ m. fold pair unit (btree m) (apply fs ss)) (sym (length_apply fs ss (h ∙ sym z) ∙ z))

array_cleaned : (n : ℕ) (f : SValue → SValue) (s : SValue) (ss : List SValue) → as_tuple n s ≡ some ss → in_tuple cleaning n (replicate n f) s ≡ tuple_of (map f ss)
array_cleaned n f s ss k = tuple_cleaned n (replicate n f) s ss (length-replicate n f) k ∙ ap tuple_of (apply_replicate n f ss (length_as_tuple n s ss k))

-- none or all of a block
block_size : (n : ℕ) (s : SValue) (ss : List SValue) → as_block n s ≡ some ss → (length ss ≡ 0) ⊎ (length ss ≡ n)
block_size n s ss h = let (o, e, k) = bind_o_some (as_option s) _ ss h in go o k
  where
    go : (o : Option SValue) → as_elements n o ≡ some ss → (length ss ≡ 0) ⊎ (length ss ≡ n)
    go none k = inl (ap length (sym (some-injective [] ss k)))
    go (some x) k = inr (length_as_tuple n x ss k)

block_cleaned : (n : ℕ) (f : SValue → SValue) (s : SValue) (ss : List SValue) → 1 ≤ n → as_block n s ≡ some ss → in_block cleaning n f s ≡ block (map f ss)
block_cleaned n f unit ss o h = absurd (none-ne-some ss h)
block_cleaned n f (left unit) ss o h = rw (← some-injective [] ss h) refl
block_cleaned n f (left (left s)) ss o h = absurd (none-ne-some ss h)
block_cleaned n f (left (right s)) ss o h = absurd (none-ne-some ss h)
block_cleaned n f (left (pair s t)) ss o h = absurd (none-ne-some ss h)
block_cleaned n f (right s) ss o h = ap {B = SValue} right (array_cleaned n f s ss h) ∙ go ss (length_as_tuple n s ss h)
  where
    go : (xs : List SValue) → length xs ≡ n → right (tuple_of (map f xs)) ≡ block (map f xs)
    go [] z = absurd (omega arith)
    go (x ∷ xs) z = refl
block_cleaned n f (pair s t) ss o h = absurd (none-ne-some ss h)

partition_split : (e : ℕ) (xs ys : List SValue) → (length xs ≡ 0) ⊎ (length xs ≡ 2 ^ suc e) → length ys < 2 ^ suc e → pair (block xs) (partition e ys) ≡ partition (suc e) (xs ++ ys)
unfolding partition
partition_split e [] ys z k = rw (lt-ltb (length ys) (2 ^ suc e) k) refl
partition_split e (x ∷ xs) ys (inl z) k = absurd (omega arith)
partition_split e (x ∷ xs) ys (inr z) k =
    rw (le-ltb (length ((x ∷ xs) ++ ys)) (2 ^ suc e) (rw (length-append (x ∷ xs) ys) (omega arith)), take_at (x ∷ xs) ys (2 ^ suc e) z, drop_at (x ∷ xs) ys (2 ^ suc e) z) refl

map_size : (f : SValue → SValue) (n : ℕ) (xs : List SValue) → (length xs ≡ 0) ⊎ (length xs ≡ n) → (length (map f xs) ≡ 0) ⊎ (length (map f xs) ≡ n)
map_size f n xs (inl z) = inl (length-map xs f ∙ z)
map_size f n xs (inr z) = inr (length-map xs f ∙ z)

list_cleaned : (e : ℕ) (f : SValue → SValue) (s : SValue) (ss : List SValue) → combine e s ≡ some ss → in_list cleaning e f s ≡ partition e (map f ss)
unfolding in_list combine partition
list_cleaned zero f s ss h = block_cleaned 1 f s ss (omega arith) h
list_cleaned (suc e) f unit ss h = absurd (none-ne-some ss h)
list_cleaned (suc e) f (left s) ss h = absurd (none-ne-some ss h)
list_cleaned (suc e) f (right s) ss h = absurd (none-ne-some ss h)
list_cleaned (suc e) f (pair b r) ss h =
    let (xs, g, k) = bind_o_some (as_block (2 ^ suc e) b) _ ss h in
    let (ys, m, n) = map_o_some _ (combine e r) ss k in
    ap₂ {C = SValue} pair (block_cleaned (2 ^ suc e) f b xs (one-le-pow (suc e) 2 (omega arith)) g) (list_cleaned e f r ys m)
    ∙ partition_split e (map f xs) (map f ys) (map_size f (2 ^ suc e) xs (block_size (2 ^ suc e) b xs g)) (rw (length-map ys f) (length_combine e r ys m))
    ∙ ap (partition (suc e)) (sym (map-append f xs ys) ∙ ap (map f) n)

-- what was made at leaf i of a balanced sum, under the lefts and rights that lead there
unfoldable along : {A : Type 0} → Walk A → BTree → ℕ → A → A
along w leaf i a = a
along w (fork l r) i a = pick (ltb i (leaves l)) (w.lefts (along w l i a)) (w.rights (along w r (i - leaves l) a))

-- a choice is walked at the leaf that the shape leads to, and nowhere else
choice_walked : {A : Type 0} (w : Walk A) (t : BTree) (fs : List (SValue → A)) (s : SValue) (x : ℕ × SValue) → length fs ≡ leaves t → as_enum_leaf t s ≡ some x → fold (in_sum w) w.other t fs s ≡ along w t x.0 (get_or fs x.0 w.other x.1)
unfolding fold as_enum_leaf along
choice_walked w leaf [] s x h k = absurd (omega arith)
choice_walked w leaf (f ∷ fs) s x h k = ap (λ (z : ℕ × SValue). get_or (f ∷ fs) z.0 w.other z.1) (some-injective (0, s) x k)
choice_walked w (fork l r) fs unit x h k = absurd (none-ne-some x k)
choice_walked w (fork l r) fs (left s) x h k =
    let b : x.0 < leaves l = leaf_below l s x k in
    rw (lt-ltb x.0 (leaves l) b) (ap w.lefts (choice_walked w l (take (leaves l) fs) s x (size_left l r fs h) k ∙ ap (λ f. along w l x.0 (f x.1)) (get_or-take (leaves l) fs x.0 w.other b)))
choice_walked w (fork l r) fs (right s) x h k =
    let (z, e, m) = map_o_some _ (as_enum_leaf r s) x k in
    rw (← m, le-ltb (leaves l + z.0) (leaves l) (omega arith), add-sub_cancel_left (leaves l) z.0) (ap w.rights (choice_walked w r (drop (leaves l) fs) s z (size_right l r fs h) e ∙ ap (λ f. along w r z.0 (f z.1)) (get_or-drop (leaves l) fs z.0 w.other)))
choice_walked w (fork l r) fs (pair s t) x h k = absurd (none-ne-some x k)

along_cleaning : (t : BTree) (i : ℕ) (s : SValue) → along cleaning t i s ≡ enum_injection t i s
unfolding along enum_injection
along_cleaning leaf i s = refl
along_cleaning (fork l r) i s = ap₂ {C = SValue} (pick (ltb i (leaves l))) (ap {B = SValue} left (along_cleaning l i s)) (ap {B = SValue} right (along_cleaning r (i - leaves l) s))

along_lacking : (t : BTree) (i : ℕ) (b : Bool) → along lacking t i b ≡ b
unfolding along
along_lacking leaf i b = refl
along_lacking (fork l r) i b = ap₂ {C = Bool} (pick (ltb i (leaves l))) (along_lacking l i b) (along_lacking r (i - leaves l) b) ∙ same (ltb i (leaves l))
  where
    same : (c : Bool) → pick c b b ≡ b
    same true = refl
    same false = refl

choice_cleaned : (t : BTree) (fs : List (SValue → SValue)) (s : SValue) (x : ℕ × SValue) → length fs ≡ leaves t → as_enum_leaf t s ≡ some x → fold (in_sum cleaning) (λ y. y) t fs s ≡ enum_injection t x.0 (get_or fs x.0 (λ y. y) x.1)
choice_cleaned t fs s x h k = choice_walked cleaning t fs s x h k ∙ along_cleaning t x.0 _

-- each element is made what its value is
map_read : {A : Type 0} (f : SValue → Option A) (g : SValue → SValue) (h : A → SValue) → ((s : SValue) (v : A) → f s ≡ some v → g s ≡ h v) → (ss : List SValue) (vs : List A) → map_m f ss ≡ some vs → map g ss ≡ map h vs
map_read f g h e [] vs k = rw (← some-injective [] vs k) refl
map_read f g h e (s ∷ ss) vs k =
    let (v, m, n) = bind_o_some (f s) _ vs k in
    let (us, i, j) = map_o_some _ (map_m f ss) vs n in
    rw (← j) (ap₂ {C = List SValue} ◌∷◌ (e s v m) (map_read f g h e ss us i))

bit_read : (s : SValue) (b : Bool) → as_bit s ≡ some b → s ≡ bit b
bit_read unit b h = absurd (none-ne-some b h)
bit_read (left unit) b h = ap bit (some-injective false b h)
bit_read (left (left s)) b h = absurd (none-ne-some b h)
bit_read (left (right s)) b h = absurd (none-ne-some b h)
bit_read (left (pair s t)) b h = absurd (none-ne-some b h)
bit_read (right unit) b h = ap bit (some-injective true b h)
bit_read (right (left s)) b h = absurd (none-ne-some b h)
bit_read (right (right s)) b h = absurd (none-ne-some b h)
bit_read (right (pair s t)) b h = absurd (none-ne-some b h)
bit_read (pair s t) b h = absurd (none-ne-some b h)

integer_cleaned : (w : ℕ) (s : SValue) (n : ℕ) → as_integer w s ≡ some n → in_tuple cleaning w (replicate w (λ x. x)) s ≡ tuple_of (map bit (to_bits w n))
integer_cleaned w s n h =
    let (ss, e, k) = bind_o_some (as_tuple w s) _ n h in
    let (bs, f, m) = map_o_some of_bits (map_m as_bit ss) n k in
    let z : length bs ≡ w = length_map_m as_bit ss bs f ∙ length_as_tuple w s ss e in
    array_cleaned w (λ x. x) s ss e ∙ ap tuple_of (map_read as_bit (λ x. x) bit bit_read ss bs f ∙ ap (map bit) (sym (rw z at (to_bits_of_bits bs)) ∙ ap (to_bits w) m))

length_walks : {A : Type 0} (w : Walk A) (ts : Tys) → length (walks w ts) ≡ size ts
unfolding walk
length_walks w nil = refl
length_walks w (cons t ts) = ap suc (length_walks w ts)

length_walks_of : {A : Type 0} (w : Walk A) (vs : Variants) → length (walks_of w vs) ≡ count vs
unfolding walk
length_walks_of w (last ts) = refl
length_walks_of w (more ts vs) = ap suc (length_walks_of w vs)

mutual
  unfolding reconstruct inject walk

  -- of a shape that is read, cleaning makes the shape of the value
  pub cleaned_inject : (t : Ty) (s : SValue) (v : Value t) → reconstruct t s ≡ some v → cleaned t s ≡ inject t v
  cleaned_inject never s v h = absurd v
  cleaned_inject bool s v h = bit_read s v h
  cleaned_inject (uint w) s n h = integer_cleaned w s n h
  cleaned_inject (either a b) unit v h = absurd (none-ne-some v h)
  cleaned_inject (either a b) (left s) v h =
      let (x, e, k) = map_o_some inl (reconstruct a s) v h in
      rw (← k) (ap {B = SValue} left (cleaned_inject a s x e))
  cleaned_inject (either a b) (right s) v h =
      let (x, e, k) = map_o_some inr (reconstruct b s) v h in
      rw (← k) (ap {B = SValue} right (cleaned_inject b s x e))
  cleaned_inject (either a b) (pair s t) v h = absurd (none-ne-some v h)
  cleaned_inject (option a) unit v h = absurd (none-ne-some v h)
  cleaned_inject (option a) (left unit) v h = rw (← some-injective none v h) refl
  cleaned_inject (option a) (left (left s)) v h = absurd (none-ne-some v h)
  cleaned_inject (option a) (left (right s)) v h = absurd (none-ne-some v h)
  cleaned_inject (option a) (left (pair s t)) v h = absurd (none-ne-some v h)
  cleaned_inject (option a) (right s) v h =
      let (x, e, k) = map_o_some some (reconstruct a s) v h in
      rw (← k) (ap {B = SValue} right (cleaned_inject a s x e))
  cleaned_inject (option a) (pair s t) v h = absurd (none-ne-some v h)
  cleaned_inject (tuple ts) s v h =
      let (ss, e, k) = bind_o_some (as_tuple (size ts) s) _ v h in
      tuple_cleaned (size ts) (walks cleaning ts) s ss (length_walks cleaning ts) e ∙ ap tuple_of (cleaned_injects ts ss v k)
  cleaned_inject (array a n) s xs h =
      let (ss, e, k) = bind_o_some (as_tuple n s) _ xs h in
      array_cleaned n (λ x. cleaned a x) s ss e ∙ ap tuple_of (map_read (λ x. reconstruct a x) (λ x. cleaned a x) (λ x. inject a x) (λ x v. cleaned_inject a x v) ss xs k)
  cleaned_inject (list a e) s xs h =
      let (ss, f, k) = bind_o_some (combine e s) _ xs h in
      list_cleaned e (λ x. cleaned a x) s ss f ∙ ap (partition e) (map_read (λ x. reconstruct a x) (λ x. cleaned a x) (λ x. inject a x) (λ x v. cleaned_inject a x v) ss xs k)
  cleaned_inject (enum vs) s c h =
      let (x, e, k) = bind_o_some (as_enum_leaf (btree (count vs)) s) _ c h in
      choice_cleaned (btree (count vs)) (walks_of cleaning vs) s x (length_walks_of cleaning vs ∙ sym (count_leaves vs)) e
      ∙ ap₂ (enum_injection (btree (count vs))) (sym (choose_index vs x.0 x.1 c k)) (cleaned_payload vs x.0 x.1 c k)

  cleaned_injects : (ts : Tys) (ss : List SValue) (v : Values ts) → reconstructs ts ss ≡ some v → apply (walks cleaning ts) ss ≡ injects ts v
  cleaned_injects nil ss v h = refl
  cleaned_injects (cons t ts) [] v h = absurd (none-ne-some v h)
  cleaned_injects (cons t ts) (s ∷ ss) v h =
      let (x, e, k) = bind_o_some (reconstruct t s) _ v h in
      let (xs, f, m) = map_o_some _ (reconstructs ts ss) v k in
      rw (← m) (ap₂ {C = List SValue} ◌∷◌ (cleaned_inject t s x e) (cleaned_injects ts ss xs f))

  cleaned_payload : (vs : Variants) (i : ℕ) (s : SValue) (c : Choice vs) → choose vs i s ≡ some c → get_or (walks_of cleaning vs) i (λ x. x) s ≡ payload vs c
  cleaned_payload (last ts) zero s c h =
      let (ss, e, k) = bind_o_some (as_tuple (size ts) s) _ c h in
      tuple_cleaned (size ts) (walks cleaning ts) s ss (length_walks cleaning ts) e ∙ ap tuple_of (cleaned_injects ts ss c k)
  cleaned_payload (last ts) (suc i) s c h = absurd (none-ne-some c h)
  cleaned_payload (more ts vs) zero s c h =
      let (x, f, m) = map_o_some inl (bind_o (as_tuple (size ts) s) (λ ss. reconstructs ts ss)) c h in
      let (ss, e, k) = bind_o_some (as_tuple (size ts) s) _ x f in
      rw (← m) (tuple_cleaned (size ts) (walks cleaning ts) s ss (length_walks cleaning ts) e ∙ ap tuple_of (cleaned_injects ts ss x k))
  cleaned_payload (more ts vs) (suc i) s c h =
      let (x, e, k) = map_o_some inr (choose vs i s) c h in
      rw (← k) (cleaned_payload vs i s x e)

-- a written shape is clean
pub written_clean : (t : Ty) (v : Value t) → Valid t v → lacks_unit t (inject t v) ≡ false
written_clean t v h = (clean_same t (inject t v)).1 (cleaned_inject t (inject t v) v (reconstruct_inject t v h))

-- a shape that is read is clean exactly if it is the shape of its value
pub clean_written : (t : Ty) (s : SValue) (v : Value t) → reconstruct t s ≡ some v → (lacks_unit t s ≡ false) ↔ (s ≡ inject t v)
clean_written t s v h =
    let e = cleaned_inject t s v h in
    ((λ k. sym ((clean_same t s).0 k) ∙ e), λ k. (clean_same t s).1 (e ∙ sym k))

-- cleaned, it is read as the same value, and it is clean
pub cleaned_reads : (t : Ty) (s : SValue) (v : Value t) → reconstruct t s ≡ some v → (reconstruct t (cleaned t s) ≡ some v) × (lacks_unit t (cleaned t s) ≡ false)
cleaned_reads t s v h =
    let e = cleaned_inject t s v h in
    let o = reconstruct_valid t s v h in
    (ap (reconstruct t) e ∙ reconstruct_inject t v o, ap (λ x. lacks_unit t x) e ∙ written_clean t v o)

-- SIDES NOT TAKEN HOLD NO SPOT: only the side that the shape takes is asked, whatever type the other has

pub left_taken : (a b : Ty) (s : SValue) → lacks_unit (either a b) (left s) ≡ lacks_unit a s
unfolding walk
left_taken a b s = refl

pub right_taken : (a b : Ty) (s : SValue) → lacks_unit (either a b) (right s) ≡ lacks_unit b s
unfolding walk
right_taken a b s = refl

pub none_taken : (a : Ty) (s : SValue) → lacks_unit (option a) (left s) ≡ false
unfolding walk
none_taken a s = refl

pub some_taken : (a : Ty) (s : SValue) → lacks_unit (option a) (right s) ≡ lacks_unit a s
unfolding walk
some_taken a s = refl

-- of a List, an empty block is a none
pub last_block_empty : (a : Ty) (s : SValue) → lacks_unit (list a 0) (left s) ≡ false
unfolding walk in_list
last_block_empty a s = refl

pub block_empty : (a : Ty) (e : ℕ) (s r : SValue) → lacks_unit (list a (suc e)) (pair (left s) r) ≡ lacks_unit (list a e) r
unfolding walk in_list
block_empty a e s r = refl

-- of an Enum, only the payload of the variant present
pub variant_taken : (vs : Variants) (s : SValue) (x : ℕ × SValue) → as_enum_leaf (btree (count vs)) s ≡ some x → lacks_unit (enum vs) s ≡ get_or (walks_of lacking vs) x.0 (λ y. false) x.1
unfolding walk
variant_taken vs s x h = choice_walked lacking (btree (count vs)) (walks_of lacking vs) s x (length_walks_of lacking vs ∙ sym (count_leaves vs)) h ∙ along_lacking (btree (count vs)) x.0 _
