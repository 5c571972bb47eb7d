-- The frame of a product is its parts' frames, one after the other, whatever its tree; and so are the bits of an integer.
use Rattle.std.specs.Prelude.{◌≡◌, refl, Bool, true, false, List, [], ◌∷◌, ◌++◌, map, ℕ, zero, suc, length, take, drop, replicate}
use Rattle.std.proofs.Common.{sym, ap, ap₂, ◌∙◌, append-nil, arith}
use Rattle.std.proofs.Math.Option.{none, some}
use Rattle.std.proofs.lemmas.List.{length-map, length-replicate}
use Rattle.model.specs.Options.{map_o, bind_o}
use Rattle.model.specs.Balanced.{BTree, leaf, fork, leaves, btree, grow, fold}
use Rattle.model.specs.Structural.{SType, 𝟙, ◌⊕◌, ◌⊗◌, SValue, unit, pair, product, tuple}
use Rattle.model.specs.Values.{bit}
use Rattle.model.specs.Frames.{bits}
use Rattle.model.proofs.Laws.Balanced.{btree_leaves, size_left, size_right}
use Rattle.model.proofs.Laws.Products.{bits_all, bits_all_take_drop}
use Rattle.structural.specs.declared.Parts.{Parts}
use Rattle.structural.specs.declared.Parts.TheVariants as parts
use Rattle.structural.specs.Forms as structural
use Rattle.structural.proofs.Laws.Trees.{row_stays}
use Rattle.types.specs.declared.forms.Parts as told_parts
use Rattle.types.specs.declared.forms.Parts.TheVariants.{Copies, Types}
use Rattle.told.specs.Forms.{Told, record_bits, bits_told}
use Rattle.told.specs.Forms as told
use Rattle.told.specs.Laws.Trees.{Shapes, joined, row_length}
use Rattle.frame.specs.Forms.{place, Bits, and_then, framed, frame_at, row}

-- the two sides of a pair
pub framed_pair : (a b : SType) (l : Told) (r : ℕ → Told) → framed (a ⊗ b) (joined l r) ≡ and_then (framed a l) (λ w. framed b (r w))
unfolding framed bits
framed_pair a b none r = refl
framed_pair a b (some x) r = go (r x.1)
  where
    go : (o : Told) → framed (a ⊗ b) (map_o (λ y. (pair x.0 y.0, y.1)) o) ≡ map_o (λ y. (bits place a x.0 ++ y.0, y.1)) (framed b o)
    go none = refl
    go (some y) = refl

-- BALANCED PRODUCTS

bits_product : (t : BTree) (ts : List SType) (ss : List SValue) → length ts ≡ leaves t → length ss ≡ leaves t → bits place (product t ts) (tuple t ss) ≡ bits_all place ts ss
unfolding bits bits_all fold
bits_product leaf [] ss h k = absurd (omega arith)
bits_product leaf (t ∷ ts) [] h k = absurd (omega arith)
bits_product leaf (t ∷ []) (s ∷ ss) h k = sym (append-nil (bits place t s))
bits_product leaf (t ∷ (u ∷ ts)) (s ∷ ss) h k = absurd (omega arith)
bits_product (fork l r) ts ss h k =
    ap₂ ◌++◌ (bits_product l (take (leaves l) ts) (take (leaves l) ss) (size_left l r ts h) (size_left l r ss k)) (bits_product r (drop (leaves l) ts) (drop (leaves l) ss) (size_right l r ts h) (size_right l r ss k))
    ∙ bits_all_take_drop place (leaves l) ts ss

-- of any number of parts
bits_tree : (n : ℕ) (ts : List SType) (ss : List SValue) → length ts ≡ n → length ss ≡ n → bits place (product (btree n) ts) (tuple (btree n) ss) ≡ bits_all place ts ss
unfolding bits bits_all btree grow fold
bits_tree zero [] ss h k = refl
bits_tree zero (t ∷ ts) ss h k = absurd (omega arith)
bits_tree (suc n) ts ss h k = let l = sym (btree_leaves (suc n) (omega arith)) in bits_product (btree (suc n)) ts ss (h ∙ l) (k ∙ l)

abbrev all_framed : List SType → Shapes → Bits
all_framed ts = map_o (λ x. (bits_all place ts x.0, x.1))

tree_framed : (n : ℕ) (ts : List SType) → length ts ≡ n → (o : Shapes) → ((x : List SValue × ℕ) → o ≡ some x → length x.0 ≡ n) → framed (product (btree n) ts) (map_o (λ x. (fold pair unit (btree n) x.0, x.1)) o) ≡ all_framed ts o
unfolding framed
tree_framed n ts h none k = refl
tree_framed n ts h (some x) k = ap (λ b. some (b, x.1)) (bits_tree n ts x.0 h (k x refl))

-- PARTS IN A ROW

pub length_row : (k : Parts) (d : ℕ) (s : List ℕ) (n p : ℕ) → length (structural.row k d s n p) ≡ n
unfolding structural.row
length_row k d s zero p = refl
length_row k d s (suc n) p = ap suc (length_row k d s n (structural.after k d s p))

-- one, and those behind it
first_framed : (a : SType) (us : List SType) (o : Told) (r : ℕ → Shapes) → all_framed (a ∷ us) (bind_o o (λ x. map_o (λ y. (x.0 ∷ y.0, y.1)) (r x.1))) ≡ and_then (framed a o) (λ w. all_framed us (r w))
unfolding framed bits_all
first_framed a us none r = refl
first_framed a us (some x) r = go (r x.1)
  where
    go : (o : Shapes) → all_framed (a ∷ us) (map_o (λ y. (x.0 ∷ y.0, y.1)) o) ≡ map_o (λ y. (bits place a x.0 ++ y.0, y.1)) (all_framed us o)
    go none = refl
    go (some y) = refl

-- the parts of a told product, as those of a lowered type
abbrev pub parts_of : told_parts.Parts → Parts
parts_of Copies = parts.Copies
parts_of Types = parts.Types

row_framed : (k : told_parts.Parts) (d : ℕ) (s val : List ℕ) (n p v : ℕ) → all_framed (structural.row (parts_of k) d s n p) (told.row k d s val n p v) ≡ row k d s val n p v
unfolding row told.row structural.row frame_at bits_all structural.part structural.after told.after
row_framed k d s val zero p v = refl
row_framed Copies d s val (suc n) p v =
    first_framed (structural.standing d s p) (structural.row parts.Copies d s n p) (told.standing d s val p v) (told.row Copies d s val n p)
    ∙ ap (λ (f : ℕ → Bits). and_then (frame_at d s val p v) f) (λ i w. row_framed Copies d s val n p w i)
row_framed Types d s val (suc n) p v =
    let q = structural.ending d s p in
    first_framed (structural.standing d s p) (structural.row parts.Types d s n q) (told.standing d s val p v) (told.row Types d s val n q)
    ∙ ap (λ (f : ℕ → Bits). and_then (frame_at d s val p v) f) (λ i w. row_framed Types d s val n q w i)

join_is : (k : told_parts.Parts) → structural.join (parts_of k) ≡ ◌⊗◌
join_is Copies = refl
join_is Types = refl

-- the frame of a balanced product is that of its parts in a row
pub balanced_framed : (k : told_parts.Parts) (d : ℕ) (s val : List ℕ) (n p v : ℕ) → framed (structural.balanced (parts_of k) d s n p) (told.balanced k d s val n p v) ≡ row k d s val n p v
unfolding structural.balanced told.balanced
balanced_framed k d s val n p v =
    let ts = structural.row (parts_of k) d s n p in
    ap (λ f. framed (fold f 𝟙 (btree n) ts) (told.balanced k d s val n p v)) (join_is k)
    ∙ tree_framed n ts (length_row (parts_of k) d s n p) (told.row k d s val n p v) (row_length k d s val n p v)
    ∙ row_framed k d s val n p v

-- BITS

all_bits : (xs : List Bool) → bits_all place (replicate (length xs) (𝟙 ⊕ 𝟙)) (map bit xs) ≡ xs
unfolding bits bits_all
all_bits [] = refl
all_bits (true ∷ xs) = ap {B = List Bool} (λ l. true ∷ l) (all_bits xs)
all_bits (false ∷ xs) = ap {B = List Bool} (λ l. false ∷ l) (all_bits xs)

pub bits_framed : (d : ℕ) (s : List ℕ) (p : ℕ) (val : List ℕ) (v j n e : ℕ) → length (record_bits val v j n) ≡ n → framed (structural.balanced parts.Bits d s n p) (some (bits_told val v j n, e)) ≡ some (record_bits val v j n, e)
unfolding framed structural.balanced structural.part structural.after bits_told
bits_framed d s p val v j n e h =
    let xs = record_bits val v j n in
    ap (λ b. some (b, e))
    (ap (λ ts. bits place (product (btree n) ts) (tuple (btree n) (map bit xs))) (row_stays parts.Bits d s (λ q. refl) n p)
    ∙ bits_tree n (replicate n (𝟙 ⊕ 𝟙)) (map bit xs) (length-replicate n (𝟙 ⊕ 𝟙)) (length-map xs bit ∙ h)
    ∙ ap (λ m. bits_all place (replicate m (𝟙 ⊕ 𝟙)) (map bit xs)) (sym h)
    ∙ all_bits xs)
