-- Laws of balanced products and sums of structural types and values, and of their one-level readers.
use Rattle.std.specs.Prelude.{◌≡◌, Bool, true, false, ltb, take, drop, get_or}
use Rattle.std.proofs.Math.Path.{refl, sym, ap, ap₂}
use Rattle.std.proofs.Common.{◌∙◌, arith, add-sub_of_le, get_or-take, get_or-drop, ltb-true, ltb-false, lt-ltb, le-ltb}
use mathlib.Core.List.{List, [], ◌∷◌, ◌++◌, append_assoc, append-nil}
use Rattle.std.proofs.Math.Option.{some}
use Prim.Native.Nat.{ℕ, zero, suc, ◌+◌, ◌-◌, ◌≤◌, ◌<◌}
use Rattle.std.proofs.Math.Nat.{add-sub_cancel_left}
use Rattle.std.proofs.Math.ListN.{length, take-append-drop}
use Rattle.model.specs.Balanced.{BTree, leaf, fork, leaves, fold, btree, grow}
use Rattle.model.specs.Structural.{SType, 𝟙, SValue, unit, left, right, pair, Belongs, is_unit, is_left, is_right, is_pair, product, tuple, balanced_sum, product_of, tuple_of, enum_injection}
use Rattle.model.specs.Reconstruct.{unfold_tree, as_tuple, as_enum_leaf}
use Rattle.model.specs.Frames.{Place, bits}
use Rattle.model.proofs.Laws.Balanced.{fold_fork, btree_leaves, size_left, size_right}

-- part by part
pub data BelongAll : List SType → List SValue → Type 0 where
  none_left : BelongAll [] []
  one_more : {t : SType} {s : SValue} {ts : List SType} {ss : List SValue} → Belongs t s → BelongAll ts ss → BelongAll (t ∷ ts) (s ∷ ss)

pub BelongAll-length : {ts : List SType} {ss : List SValue} → BelongAll ts ss → length ss ≡ length ts
BelongAll-length none_left = refl
BelongAll-length (one_more h k) = ap suc (BelongAll-length k)

pub BelongAll-take : (n : ℕ) {ts : List SType} {ss : List SValue} → BelongAll ts ss → BelongAll (take n ts) (take n ss)
BelongAll-take zero h = none_left
BelongAll-take (suc n) none_left = none_left
BelongAll-take (suc n) (one_more h k) = one_more h (BelongAll-take n k)

pub BelongAll-drop : (n : ℕ) {ts : List SType} {ss : List SValue} → BelongAll ts ss → BelongAll (drop n ts) (drop n ss)
BelongAll-drop zero h = h
BelongAll-drop (suc n) none_left = none_left
BelongAll-drop (suc n) (one_more h k) = BelongAll-drop n k

pub BelongAll-append : {ts us : List SType} {ss rs : List SValue} → BelongAll ts ss → BelongAll us rs → BelongAll (ts ++ us) (ss ++ rs)
BelongAll-append none_left k = k
BelongAll-append (one_more h m) k = one_more h (BelongAll-append m k)

pub unfold_fold : (t : BTree) (xs : List SValue) → length xs ≡ leaves t → unfold_tree t (tuple t xs) ≡ some xs
unfolding unfold_tree fold
unfold_fold leaf [] h = absurd (omega arith)
unfold_fold leaf (x ∷ []) h = refl
unfold_fold leaf (x ∷ (y ∷ ys)) h = absurd (omega arith)
unfold_fold (fork l r) xs h =
    rw (unfold_fold l (take (leaves l) xs) (size_left l r xs h), unfold_fold r (drop (leaves l) xs) (size_right l r xs h), take-append-drop (leaves l) xs)

pub tuple_belongs : (t : BTree) {ts : List SType} {ss : List SValue} → length ts ≡ leaves t → BelongAll ts ss → Belongs (product t ts) (tuple t ss)
unfolding fold
tuple_belongs leaf h none_left = absurd (omega arith)
tuple_belongs leaf h (one_more b k) = b
tuple_belongs (fork l r) {ts} h k = is_pair (tuple_belongs l (size_left l r ts h) (BelongAll-take (leaves l) k)) (tuple_belongs r (size_right l r ts h) (BelongAll-drop (leaves l) k))

pub record Unfolds (t : BTree) (ts : List SType) (s : SValue) : Type 0 where
  pub parts : List SValue
  pub reads : unfold_tree t s ≡ some parts
  pub belong : BelongAll ts parts
  pub folds : tuple t parts ≡ s

unfolds_fork : (l r : BTree) (ts : List SType) (a b : SValue) → length ts ≡ leaves (fork l r) → Unfolds l (take (leaves l) ts) a → Unfolds r (drop (leaves l) ts) b → Unfolds (fork l r) ts (pair a b)
unfolding unfold_tree
unfolds_fork l r ts a b h x y = record {
  parts = x.parts ++ y.parts;
  reads = rw (x.reads, y.reads);
  belong = rw (take-append-drop (leaves l) ts) at (BelongAll-append x.belong y.belong);
  folds = fold_fork pair unit l r x.parts y.parts (BelongAll-length x.belong ∙ size_left l r ts h) ∙ ap₂ {C = SValue} pair x.folds y.folds;
}

pub belongs_unfold : (t : BTree) (ts : List SType) (s : SValue) → length ts ≡ leaves t → Belongs (product t ts) s → Unfolds t ts s
unfolding fold unfold_tree
belongs_unfold leaf [] s h k = absurd (omega arith)
belongs_unfold leaf (t ∷ []) s h k = record { parts = s ∷ []; reads = refl; belong = one_more k none_left; folds = refl }
belongs_unfold leaf (t ∷ (u ∷ us)) s h k = absurd (omega arith)
belongs_unfold (fork l r) ts s h (is_pair {s = a} {t = b} j k) = unfolds_fork l r ts a b h (belongs_unfold l _ a (size_left l r ts h) j) (belongs_unfold r _ b (size_right l r ts h) k)

-- the bits of the parts, one after the other
module _ (p : Place) where
  unfoldable pub bits_all : List SType → List SValue → List Bool
  bits_all [] ss = []
  bits_all (t ∷ ts) [] = []
  bits_all (t ∷ ts) (s ∷ ss) = bits p t s ++ bits_all ts ss

  pub bits_all_nil : (ts : List SType) → bits_all ts [] ≡ []
  unfolding bits_all
  bits_all_nil [] = refl
  bits_all_nil (t ∷ ts) = refl

  pub bits_all_take_drop : (n : ℕ) (ts : List SType) (ss : List SValue) → bits_all (take n ts) (take n ss) ++ bits_all (drop n ts) (drop n ss) ≡ bits_all ts ss
  unfolding bits_all
  bits_all_take_drop zero ts ss = refl
  bits_all_take_drop (suc n) [] ss = refl
  bits_all_take_drop (suc n) (t ∷ ts) [] = bits_all_nil (drop n ts)
  bits_all_take_drop (suc n) (t ∷ ts) (s ∷ ss) = append_assoc (bits p t s) _ _ ∙ ap (λ l. bits p t s ++ l) (bits_all_take_drop n ts ss)

  -- the shape of the tree does not matter for the bits
  pub bits_tuple : (t : BTree) {ts : List SType} {ss : List SValue} → length ts ≡ leaves t → BelongAll ts ss → bits p (product t ts) (tuple t ss) ≡ bits_all ts ss
  unfolding bits bits_all fold
  bits_tuple leaf h none_left = absurd (omega arith)
  bits_tuple leaf h (one_more b none_left) = sym (append-nil _)
  bits_tuple leaf h (one_more b (one_more c k)) = absurd (omega arith)
  bits_tuple (fork l r) {ts} {ss} h k =
      ap₂ ◌++◌ (bits_tuple l (size_left l r ts h) (BelongAll-take (leaves l) k)) (bits_tuple r (size_right l r ts h) (BelongAll-drop (leaves l) k))
      ∙ bits_all_take_drop (leaves l) ts ss

pub leaf_injection : (t : BTree) (i : ℕ) (s : SValue) → i < leaves t → as_enum_leaf t (enum_injection t i s) ≡ some (i, s)
unfolding enum_injection as_enum_leaf
leaf_injection leaf i s h = ap (λ n. some (n, s)) (omega arith)
leaf_injection (fork l r) i s h = go (ltb i (leaves l)) refl (leaf_injection l i s) (leaf_injection r (i - leaves l) s)
  where
    go : (b : Bool) → ltb i (leaves l) ≡ b → (i < leaves l → as_enum_leaf l (enum_injection l i s) ≡ some (i, s))
        → (i - leaves l < leaves r → as_enum_leaf r (enum_injection r (i - leaves l) s) ≡ some (i - leaves l, s))
        → as_enum_leaf (fork l r) (enum_injection (fork l r) i s) ≡ some (i, s)
    go true e hl hr = rw (e, enum_injection) (hl (ltb-true _ _ e))
    go false e hl hr = let q : leaves l ≤ i = ltb-false _ _ e in rw (e, enum_injection) (rw (hr (omega arith)) (ap (λ n. some (n, s)) (omega arith)))

pub injection_belongs : (t : BTree) (ts : List SType) (i : ℕ) (s : SValue) → length ts ≡ leaves t → i < leaves t → Belongs (get_or ts i 𝟙) s → Belongs (balanced_sum t ts) (enum_injection t i s)
unfolding fold enum_injection
injection_belongs leaf [] i s h k b = absurd (omega arith)
injection_belongs leaf (t ∷ ts) zero s h k b = b
injection_belongs leaf (t ∷ ts) (suc i) s h k b = absurd (omega arith)
injection_belongs (fork l r) ts i s h k b = go (ltb i (leaves l)) refl (injection_belongs l (take (leaves l) ts) i s) (injection_belongs r (drop (leaves l) ts) (i - leaves l) s)
  where
    go : (c : Bool) → ltb i (leaves l) ≡ c
        → (length (take (leaves l) ts) ≡ leaves l → i < leaves l → Belongs (get_or (take (leaves l) ts) i 𝟙) s → Belongs (balanced_sum l (take (leaves l) ts)) (enum_injection l i s))
        → (length (drop (leaves l) ts) ≡ leaves r → i - leaves l < leaves r → Belongs (get_or (drop (leaves l) ts) (i - leaves l) 𝟙) s → Belongs (balanced_sum r (drop (leaves l) ts)) (enum_injection r (i - leaves l) s))
        → Belongs (balanced_sum (fork l r) ts) (enum_injection (fork l r) i s)
    go true e hl hr = rw (e, enum_injection) (is_left (hl (size_left l r ts h) (ltb-true _ _ e) (rw (get_or-take (leaves l) ts i 𝟙 (ltb-true _ _ e)) b)))
    go false e hl hr = let q : leaves l ≤ i = ltb-false _ _ e in rw (e, enum_injection) (is_right (hr (size_right l r ts h) (omega arith) (rw (get_or-drop (leaves l) ts (i - leaves l) 𝟙, add-sub_of_le q) b)))

pub record Leaf (t : BTree) (ts : List SType) (s : SValue) : Type 0 where
  pub index : ℕ
  pub payload : SValue
  pub reads : as_enum_leaf t s ≡ some (index, payload)
  pub known : index < leaves t
  pub belongs : Belongs (get_or ts index 𝟙) payload
  pub injects : enum_injection t index payload ≡ s

leaf_left : (l r : BTree) (ts : List SType) (s : SValue) → Leaf l (take (leaves l) ts) s → Leaf (fork l r) ts (left s)
unfolding as_enum_leaf enum_injection
leaf_left l r ts s x = record {
  index = x.index;
  payload = x.payload;
  reads = x.reads;
  known = omega arith;
  belongs = rw (get_or-take (leaves l) ts x.index 𝟙 x.known) at x.belongs;
  injects = rw (lt-ltb x.index (leaves l) x.known) (ap {B = SValue} left x.injects);
}

leaf_right : (l r : BTree) (ts : List SType) (s : SValue) → Leaf r (drop (leaves l) ts) s → Leaf (fork l r) ts (right s)
unfolding as_enum_leaf enum_injection
leaf_right l r ts s x = record {
  index = leaves l + x.index;
  payload = x.payload;
  reads = rw x.reads;
  known = omega arith;
  belongs = rw (get_or-drop (leaves l) ts x.index 𝟙) at x.belongs;
  injects = rw (le-ltb (leaves l + x.index) (leaves l) (omega arith), add-sub_cancel_left (leaves l) x.index) (ap {B = SValue} right x.injects);
}

pub belongs_leaf : (t : BTree) (ts : List SType) (s : SValue) → length ts ≡ leaves t → Belongs (balanced_sum t ts) s → Leaf t ts s
unfolding fold as_enum_leaf enum_injection
belongs_leaf leaf [] s h k = absurd (omega arith)
belongs_leaf leaf (t ∷ ts) s h k = record { index = 0; payload = s; reads = refl; known = omega arith; belongs = k; injects = refl }
belongs_leaf (fork l r) ts s h (is_left {s = x} k) = leaf_left l r ts x (belongs_leaf l _ x (size_left l r ts h) k)
belongs_leaf (fork l r) ts s h (is_right {s = x} k) = leaf_right l r ts x (belongs_leaf r _ x (size_right l r ts h) k)

-- TUPLES: the balanced product of any number of parts, none of them too

pub record Tuple (ts : List SType) (s : SValue) : Type 0 where
  pub parts : List SValue
  pub reads : as_tuple (length ts) s ≡ some parts
  pub belong : BelongAll ts parts
  pub folds : tuple_of parts ≡ s

pub as_tuple_tuple_of : (n : ℕ) (ss : List SValue) → length ss ≡ n → as_tuple n (tuple_of ss) ≡ some ss
as_tuple_tuple_of zero [] h = refl
as_tuple_tuple_of zero (s ∷ ss) h = absurd (omega arith)
as_tuple_tuple_of (suc n) ss h = rw h (unfold_fold (btree (suc n)) ss (h ∙ sym (btree_leaves (suc n) (omega arith))))

some_belong : {ts : List SType} {ss : List SValue} → 1 ≤ length ts → BelongAll ts ss → Belongs (product_of ts) (tuple_of ss)
some_belong {ts} o h = rw (BelongAll-length h) (tuple_belongs (btree (length ts)) (sym (btree_leaves (length ts) o)) h)

pub tuple_of_belongs : {ts : List SType} {ss : List SValue} → BelongAll ts ss → Belongs (product_of ts) (tuple_of ss)
unfolding btree grow fold
tuple_of_belongs none_left = is_unit
tuple_of_belongs (one_more h k) = some_belong (omega arith) (one_more h k)

pub belongs_tuple : (ts : List SType) (s : SValue) → Belongs (product_of ts) s → Tuple ts s
unfolding btree grow fold
belongs_tuple [] s is_unit = record { parts = []; reads = refl; belong = none_left; folds = refl }
belongs_tuple (t ∷ ts) s h =
    let u = belongs_unfold (btree (suc (length ts))) (t ∷ ts) s (sym (btree_leaves (suc (length ts)) (omega arith))) h in
    record { parts = u.parts; reads = u.reads; belong = u.belong; folds = rw (BelongAll-length u.belong) u.folds }

bits_some : (p : Place) {ts : List SType} {ss : List SValue} → 1 ≤ length ts → BelongAll ts ss → bits p (product_of ts) (tuple_of ss) ≡ bits_all p ts ss
bits_some p {ts} o h = rw (BelongAll-length h) (bits_tuple p (btree (length ts)) (sym (btree_leaves (length ts) o)) h)

pub bits_tuple_of : (p : Place) {ts : List SType} {ss : List SValue} → BelongAll ts ss → bits p (product_of ts) (tuple_of ss) ≡ bits_all p ts ss
unfolding btree grow fold bits bits_all
bits_tuple_of p none_left = refl
bits_tuple_of p (one_more h k) = bits_some p (omega arith) (one_more h k)
