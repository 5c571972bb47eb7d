-- Whatever `reconstruct` gives is a valid value of its type, and the variant chosen is the one asked for.
-- A tree of n parts is taken apart into n parts, the blocks of a list are empty or full, and w bits say a number below 2 ^ w.
use Rattle.std.specs.Prelude.{◌≡◌, refl}
use Rattle.std.proofs.Common.{sym, subst₂, ◌∙◌, inl, inr, arith}
use Rattle.std.proofs.Math.Path.{ap, ap₂}
use mathlib.Core.List.{List, [], ◌∷◌}
use Rattle.std.proofs.Math.Option.{Option, none, some, none-ne-some, some-injective}
use Prim.Native.Nat.{ℕ, zero, suc, ◌+◌, ◌<◌, ◌≤◌, ◌^◌}
use Rattle.std.proofs.Math.Nat.{two-pow-succ}
use Rattle.std.proofs.Math.ListN.{length, length-append}
use Rattle.model.specs.Options.{bind_o, map_m, All}
use Rattle.model.specs.Bytes.{of_bits}
use Rattle.model.specs.Balanced.{BTree, leaf, fork, leaves, btree}
use Rattle.model.specs.Structural.{SValue, unit, left, right, pair}
use Rattle.model.specs.Types.{Ty, Tys, Variants, never, bool, uint, either, option, tuple, array, list, enum, nil, cons, last, more, size, count}
use Rattle.model.specs.Values.{Value, Values, Choice, Valid, Valids, ValidChoice, index}
use Rattle.model.specs.Reconstruct.{unfold_tree, as_tuple, as_bit, as_integer, as_option, as_elements, as_block, combine, as_enum_leaf, optional, reconstruct, reconstructs, choose}
use Rattle.model.proofs.Laws.Options.{bind_o_some, map_o_some}
use Rattle.model.proofs.Laws.Balanced.{btree_leaves}
use Rattle.model.proofs.Laws.Bytes.{of_bits_bound}

-- SIZES OF WHAT IS TAKEN APART

-- a tree gives as many parts as it has leaves
pub length_unfold_tree : (t : BTree) (s : SValue) (ss : List SValue) → unfold_tree t s ≡ some ss → length ss ≡ leaves t
unfolding unfold_tree
length_unfold_tree leaf s ss h = ap length (sym (some-injective (s ∷ []) ss h))
length_unfold_tree (fork l r) unit ss h = absurd (none-ne-some ss h)
length_unfold_tree (fork l r) (left s) ss h = absurd (none-ne-some ss h)
length_unfold_tree (fork l r) (right s) ss h = absurd (none-ne-some ss h)
length_unfold_tree (fork l r) (pair s t) ss h =
    let (xs, e, k) = bind_o_some (unfold_tree l s) _ ss h in
    let (ys, f, m) = map_o_some _ (unfold_tree r t) ss k in
    ap length (sym m) ∙ length-append xs ys ∙ ap₂ ◌+◌ (length_unfold_tree l s xs e) (length_unfold_tree r t ys f)

-- a choice is of one of the tree's leaves
pub leaf_below : (t : BTree) (x : SValue) (y : ℕ × SValue) → as_enum_leaf t x ≡ some y → y.0 < leaves t
unfolding as_enum_leaf
leaf_below leaf x y h = omega (arith, ap (λ (z : ℕ × SValue). z.0) (some-injective (0, x) y h))
leaf_below (fork l r) unit y h = absurd (none-ne-some y h)
leaf_below (fork l r) (left x) y h = omega (arith, leaf_below l x y h)
leaf_below (fork l r) (right x) y h = let (z, e, k) = map_o_some _ (as_enum_leaf r x) y h in omega (arith, leaf_below r x z e, ap (λ (z : ℕ × SValue). z.0) k)
leaf_below (fork l r) (pair x z) y h = absurd (none-ne-some y h)

-- a tuple of n parts gives n parts
pub length_as_tuple : (n : ℕ) (s : SValue) (ss : List SValue) → as_tuple n s ≡ some ss → length ss ≡ n
length_as_tuple zero s ss h = ap length (sym (some-injective [] ss h))
length_as_tuple (suc n) s ss h = length_unfold_tree (btree (suc n)) s ss h ∙ btree_leaves (suc n) (omega arith)

-- a block of n gives at most n: none or all
pub length_as_block : (n : ℕ) (s : SValue) (ss : List SValue) → as_block n s ≡ some ss → length ss ≤ n
length_as_block n s ss h =
    let (o, e, k) = bind_o_some (as_option s) _ ss h in go o k
  where
    go : (o : Option SValue) → as_elements n o ≡ some ss → length ss ≤ n
    go none k = rw (← some-injective [] ss k) (omega arith)
    go (some x) k = omega (arith, length_as_tuple n x ss k)

-- a list of bound 2 ^ suc e gives fewer
pub length_combine : (e : ℕ) (s : SValue) (ss : List SValue) → combine e s ≡ some ss → length ss < 2 ^ suc e
unfolding combine
length_combine zero s ss h = omega (arith, length_as_block 1 s ss h)
length_combine (suc e) unit ss h = absurd (none-ne-some ss h)
length_combine (suc e) (left s) ss h = absurd (none-ne-some ss h)
length_combine (suc e) (right s) ss h = absurd (none-ne-some ss h)
length_combine (suc e) (pair b r) ss h =
    let (xs, f, k) = bind_o_some (as_block (2 ^ suc e) b) _ ss h in
    let (ys, g, m) = map_o_some _ (combine e r) ss k in
    rw (← m, length-append xs ys) (omega (arith, two-pow-succ (suc e), length_as_block (2 ^ suc e) b xs f, length_combine e r ys g))

-- EACH ELEMENT

-- each element's result: as many as there are elements
pub length_map_m : {A B : Type 0} (f : A → Option B) (xs : List A) (ys : List B) → map_m f xs ≡ some ys → length ys ≡ length xs
length_map_m f [] ys h = ap length (sym (some-injective [] ys h))
length_map_m f (x ∷ xs) ys h =
    let (z, e, k) = bind_o_some (f x) _ ys h in
    let (zs, g, m) = map_o_some _ (map_m f xs) ys k in
    ap length (sym m) ∙ ap suc (length_map_m f xs zs g)

-- what holds of each result holds of all
pub all_map_m : {A B : Type 0} (P : B → Type 0) (f : A → Option B) → ((x : A) (y : B) → f x ≡ some y → P y) → (xs : List A) (ys : List B) → map_m f xs ≡ some ys → All P ys
all_map_m P f p [] ys h = rw (← some-injective [] ys h) tt
all_map_m P f p (x ∷ xs) ys h =
    let (z, e, k) = bind_o_some (f x) _ ys h in
    let (zs, g, m) = map_o_some _ (map_m f xs) ys k in
    rw (← m) (p x z e, all_map_m P f p xs zs g)

-- VALUES

-- an integer of w bits is below 2 ^ w
pub as_integer_bound : (w : ℕ) (s : SValue) (n : ℕ) → as_integer w s ≡ some n → n < 2 ^ w
as_integer_bound w s n h =
    let (ss, e, k) = bind_o_some (as_tuple w s) _ n h in
    let (bs, f, m) = map_o_some of_bits (map_m as_bit ss) n k in
    let z : length bs ≡ w = length_map_m as_bit ss bs f ∙ length_as_tuple w s ss e in
    subst₂ (λ x k. x < 2 ^ k) m z (of_bits_bound bs)

-- an Option's value is valid if the one in it is
optional_valid : (a : Ty) (o : Option SValue) (v : Option (Value a)) → ((x : SValue) (y : Value a) → reconstruct a x ≡ some y → Valid a y) → optional (λ x. reconstruct a x) o ≡ some v → Valid (option a) v
optional_valid a none v p h = rw (← some-injective none v h) tt
optional_valid a (some s) v p h =
    let (x, e, k) = map_o_some some (reconstruct a s) v h in
    rw (← k) (p s x e)

mutual
  unfolding reconstruct

  -- what is reconstructed is valid
  pub reconstruct_valid : (t : Ty) (s : SValue) (v : Value t) → reconstruct t s ≡ some v → Valid t v
  reconstruct_valid never s v h = absurd v
  reconstruct_valid bool s v h = tt
  reconstruct_valid (uint w) s n h = as_integer_bound w s n h
  reconstruct_valid (either a b) unit v h = absurd (none-ne-some v h)
  reconstruct_valid (either a b) (left s) v h =
      let (x, e, k) = map_o_some inl (reconstruct a s) v h in
      rw (← k) (reconstruct_valid a s x e)
  reconstruct_valid (either a b) (right s) v h =
      let (x, e, k) = map_o_some inr (reconstruct b s) v h in
      rw (← k) (reconstruct_valid b s x e)
  reconstruct_valid (either a b) (pair s t) v h = absurd (none-ne-some v h)
  reconstruct_valid (option a) s v h =
      let (o, e, k) = bind_o_some (as_option s) _ v h in
      optional_valid a o v (λ x y. reconstruct_valid a x y) k
  reconstruct_valid (tuple ts) s v h =
      let (ss, e, k) = bind_o_some (as_tuple (size ts) s) _ v h in
      reconstructs_valid ts ss v k
  reconstruct_valid (array a n) s xs h =
      let (ss, e, k) = bind_o_some (as_tuple n s) _ xs h in
      (length_map_m (λ x. reconstruct a x) ss xs k ∙ length_as_tuple n s ss e, all_map_m (λ x. Valid a x) (λ x. reconstruct a x) (λ x v. reconstruct_valid a x v) ss xs k)
  reconstruct_valid (list a e) s xs h =
      let (ss, f, k) = bind_o_some (combine e s) _ xs h in
      let z : length xs ≡ length ss = length_map_m (λ x. reconstruct a x) ss xs k in
      (omega (arith, length_combine e s ss f), all_map_m (λ x. Valid a x) (λ x. reconstruct a x) (λ x v. reconstruct_valid a x v) ss xs k)
  reconstruct_valid (enum vs) s c h =
      let (x, e, k) = bind_o_some (as_enum_leaf (btree (count vs)) s) _ c h in
      choose_valid vs x.0 x.1 c k

  -- part by part
  pub reconstructs_valid : (ts : Tys) (ss : List SValue) (v : Values ts) → reconstructs ts ss ≡ some v → Valids ts v
  reconstructs_valid nil ss v h = tt
  reconstructs_valid (cons t ts) [] v h = absurd (none-ne-some v h)
  reconstructs_valid (cons t ts) (s ∷ ss) v h =
      let (x, e, k) = bind_o_some (reconstruct t s) _ v h in
      let (xs, f, m) = map_o_some _ (reconstructs ts ss) v k in
      rw (← m) (reconstruct_valid t s x e, reconstructs_valid ts ss xs f)

  -- and the chosen payload
  pub choose_valid : (vs : Variants) (i : ℕ) (s : SValue) (c : Choice vs) → choose vs i s ≡ some c → ValidChoice vs c
  choose_valid (last ts) zero s c h =
      let (ss, e, k) = bind_o_some (as_tuple (size ts) s) _ c h in
      reconstructs_valid ts ss c k
  choose_valid (last ts) (suc i) s c h = absurd (none-ne-some c h)
  choose_valid (more ts vs) zero s c h =
      let (x, f, m) = map_o_some inl (bind_o (as_tuple (size ts) s) (λ ss. reconstructs ts ss)) c h in
      let (ss, e, k) = bind_o_some (as_tuple (size ts) s) _ x f in
      rw (← m) (reconstructs_valid ts ss x k)
  choose_valid (more ts vs) (suc i) s c h =
      let (x, e, k) = map_o_some inr (choose vs i s) c h in
      rw (← k) (choose_valid vs i s x e)

-- the variant that is chosen is the one that the leaf says
pub choose_index : (vs : Variants) (i : ℕ) (s : SValue) (c : Choice vs) → choose vs i s ≡ some c → index vs c ≡ i
unfolding choose index
choose_index (last ts) zero s c h = refl
choose_index (last ts) (suc i) s c h = absurd (none-ne-some c h)
choose_index (more ts vs) zero s c h =
    let (x, e, k) = map_o_some inl (bind_o (as_tuple (size ts) s) (λ ss. reconstructs ts ss)) c h in
    rw (← k) refl
choose_index (more ts vs) (suc i) s c h =
    let (x, e, k) = map_o_some inr (choose vs i s) c h in
    rw (← k) (ap suc (choose_index vs i s x e))
