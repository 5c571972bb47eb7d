-- The frame of a sum: the tags that lead to the choice, the choice's frame, and zeros up to the width.
use Rattle.std.specs.Prelude.{◌≡◌, refl, Bool, true, false, List, [], ◌∷◌, ◌++◌, ℕ, zero, suc, ◌+◌, ◌-◌, ◌≤◌, ◌<◌, max, ltb, length, take, drop, get_or}
use Rattle.std.proofs.Common.{sym, ap, ◌∙◌, append-nil, append_assoc, add-sub_of_le, arith, get_or-take, get_or-drop, ltb-true, ltb-false, lt-ltb, le-ltb}
use Rattle.std.proofs.lemmas.List.{replicate-append-replicate}
use Rattle.model.specs.Options.{pick}
use Rattle.model.specs.Bytes.{zeros}
use Rattle.model.specs.Balanced.{BTree, leaf, fork, leaves, btree, fold, btree_split_index}
use Rattle.model.specs.Structural.{SType, 𝟙, SValue, balanced_sum, enum_injection}
use Rattle.model.specs.Frames.{width, bits}
use Rattle.model.proofs.Laws.Balanced.{split_bounds, btree_leaves, btree_fork, size_left, size_right}
use Rattle.frame.specs.Forms.{place, tags}

-- TAGS, as code writes them

pub tags_one : (i : ℕ) → tags (btree 1) i ≡ []
unfolding tags btree Rattle.model.specs.Balanced.grow
tags_one i = refl

tags_step : (n i : ℕ) → 2 ≤ n → tags (btree n) i ≡ pick (ltb i (btree_split_index n)) (false ∷ tags (btree (btree_split_index n)) i) (true ∷ tags (btree (n - btree_split_index n)) (i - btree_split_index n))
unfolding tags
tags_step n i h = rw (btree_fork n h) (rw (btree_leaves (btree_split_index n) (split_bounds n h).0) refl)

pub tags_left : (n few i : ℕ) → few ≡ btree_split_index n → 2 ≤ n → i < few → tags (btree n) i ≡ false ∷ tags (btree few) i
tags_left n few i e h l = rw e (tags_step n i h ∙ rw (lt-ltb i (btree_split_index n) (omega arith)) refl)

pub tags_right : (n few i : ℕ) → few ≡ btree_split_index n → 2 ≤ n → few ≤ i → tags (btree n) i ≡ true ∷ tags (btree (n - few)) (i - few)
tags_right n few i e h l = rw e (tags_step n i h ∙ rw (le-ltb i (btree_split_index n) (omega arith)) refl)

-- THE BITS

-- zeros behind zeros
more_zeros : (t x : List Bool) (a b c : ℕ) → a + b ≡ c → (t ++ (x ++ zeros a)) ++ zeros b ≡ t ++ (x ++ zeros c)
more_zeros t x a b c e =
    append_assoc t (x ++ zeros a) (zeros b)
    ∙ ap (λ l. t ++ l) (append_assoc x (zeros a) (zeros b) ∙ ap (λ l. x ++ l) (replicate-append-replicate a b false ∙ ap zeros e))

-- leaf i of a balanced sum, which is of the type a
pub record Summed (t : BTree) (ts : List SType) (i : ℕ) (a : SType) (x : SValue) : Type 0 where
  pub room : length (tags t i) + width a ≤ width (balanced_sum t ts)
  pub same : bits place (balanced_sum t ts) (enum_injection t i x) ≡ tags t i ++ (bits place a x ++ zeros (width (balanced_sum t ts) - (length (tags t i) + length (bits place a x))))

pub sum_bits : (t : BTree) (ts : List SType) (i : ℕ) (a : SType) (x : SValue) → length ts ≡ leaves t → i < leaves t → get_or ts i 𝟙 ≡ a → length (bits place a x) ≡ width a → Summed t ts i a x
unfolding fold enum_injection tags bits
sum_bits leaf [] i a x h l e k = absurd (omega arith)
sum_bits leaf (t ∷ ts) (suc i) a x h l e k = absurd (omega arith)
sum_bits leaf (t ∷ ts) zero a x h l e k =
    let w = ap width e in
    let z : width t - (0 + length (bits place a x)) ≡ 0 = omega arith in
    record { room = omega arith; same = ap (λ (u : SType). bits place u x) e ∙ sym (append-nil (bits place a x)) ∙ ap (λ n. bits place a x ++ zeros n) (sym z) }
sum_bits (fork l r) ts i a x h m e k =
    go (ltb i (leaves l)) refl
    (λ q. sum_bits l (take (leaves l) ts) i a x (size_left l r ts h) q (get_or-take (leaves l) ts i 𝟙 q ∙ e) k)
    (λ q. sum_bits r (drop (leaves l) ts) (i - leaves l) a x (size_right l r ts h) (omega arith) (get_or-drop (leaves l) ts (i - leaves l) 𝟙 ∙ ap (λ j. get_or ts j 𝟙) (add-sub_of_le q) ∙ e) k)
  where
    go : (b : Bool) → ltb i (leaves l) ≡ b → (i < leaves l → Summed l (take (leaves l) ts) i a x) → (leaves l ≤ i → Summed r (drop (leaves l) ts) (i - leaves l) a x) → Summed (fork l r) ts i a x
    go true q f g =
        let s = f (ltb-true _ _ q) in
        let A = balanced_sum l (take (leaves l) ts) in
        let B = balanced_sum r (drop (leaves l) ts) in
        let n : width A - (length (tags l i) + length (bits place a x)) + (width B - width A) ≡ suc (max (width A) (width B)) - (suc (length (tags l i)) + length (bits place a x)) = omega (arith, s.room) in
        record {
          room = rw (q, tags) (omega (arith, s.room));
          same = rw (q, enum_injection, tags) (ap {B = List Bool} (λ l. false ∷ l) (ap (λ y. y ++ zeros (width B - width A)) s.same ∙ more_zeros (tags l i) (bits place a x) _ _ _ n));
        }
    go false q f g =
        let s = g (ltb-false _ _ q) in
        let A = balanced_sum l (take (leaves l) ts) in
        let B = balanced_sum r (drop (leaves l) ts) in
        let j = i - leaves l in
        let n : width B - (length (tags r j) + length (bits place a x)) + (width A - width B) ≡ suc (max (width A) (width B)) - (suc (length (tags r j)) + length (bits place a x)) = omega (arith, s.room) in
        record {
          room = rw (q, tags) (omega (arith, s.room));
          same = rw (q, enum_injection, tags) (ap {B = List Bool} (λ l. true ∷ l) (ap (λ y. y ++ zeros (width A - width B)) s.same ∙ more_zeros (tags r j) (bits place a x) _ _ _ n));
        }
