-- Laws of the tags of a sum, as code reads them: of one choice there are none, and of more a tag leads to the one side's choices or the other's.
use Rattle.std.specs.Prelude.{◌≡◌, true, false, List, [], ◌∷◌, ℕ, suc, ◌+◌, ◌-◌, ◌≤◌, max, take, drop}
use Rattle.std.proofs.Math.Path.{refl}
use Rattle.std.proofs.Common.{sym, ap, ◌∙◌, arith}
use Rattle.model.specs.Balanced.{BTree, leaf, fork, leaves, btree, fold}
use Rattle.model.specs.Structural.{SType, 𝟙, ◌⊕◌}
use Rattle.model.specs.Frames.{width}
use Rattle.model.proofs.Laws.Balanced.{Shares, btree_fork}
use Rattle.told.specs.Forms.{hops, Hops}
use Rattle.told.specs.Laws.Hops.{hops_add}
use Rattle.accept.specs.Forms.{tag_at, choice_in}
use Rattle.accept.specs.Laws.Sums.{choice_one, choice_left, choice_right}
use Rattle.unframe.specs.declared.Choice.{Choice}
use Rattle.unframe.specs.Forms.{height, Chosen}

-- THE RECORDS OF CHOICES

module _ {n few : ℕ} (h : Shares n few) {E : List ℕ} {p : ℕ} (g : Hops E n p) where
  pub left_hops : Hops E few p
  left_hops = let l = h.less in record { each = λ i m. g.each i (omega arith) }

  pub right_hops : {q : ℕ} → q ≡ hops E few p → Hops E (n - few) q
  right_hops e = let l = h.less in rw e (record { each = λ i m. rw (← hops_add E few i p) (g.each (few + i) (omega arith)) })

-- THE BITS OF TAGS

-- no more tags than the type has bits
pub height_width : (t : BTree) (ts : List SType) → height t ≤ width (fold ◌⊕◌ 𝟙 t ts)
unfolding fold
height_width leaf [] = omega arith
height_width leaf (t ∷ ts) = omega arith
height_width (fork l r) ts = omega (arith, height_width l (take (leaves l) ts), height_width r (drop (leaves l) ts))

-- a tag, and then those of a side
pub higher : {n few : ℕ} → Shares n few → height (btree n) ≡ suc (max (height (btree few)) (height (btree (n - few))))
higher {n} h = let l = h.some in let m = h.less in ap height (btree_fork n (omega arith)) ∙ ap (λ k. suc (max (height (btree k)) (height (btree (n - k))))) (sym h.split)

-- THE CHOICE

module _ (E : List ℕ) (p n : ℕ) (fr : List ℕ) (bit : ℕ) where
  pub chosen_only : n ≡ 1 → Chosen E p (choice_in n fr bit) (record { number = 0; at = p; bit = bit })
  unfolding hops
  chosen_only z = rw (z, choice_one fr bit) (record { number = refl; stands_at = refl; begins = refl })

  module _ {few : ℕ} (h : Shares n few) where
    pub chosen_left : {r : Choice} → tag_at fr bit ≡ false → Chosen E p (choice_in few fr (bit + 1)) r → Chosen E p (choice_in n fr bit) r
    chosen_left t c = let l = h.some in let m = h.less in rw (choice_left fr bit n few h.split (omega arith) t) c

    pub chosen_right : {q : ℕ} {r : Choice} → tag_at fr bit ≡ true → q ≡ hops E few p → Chosen E q (choice_in (n - few) fr (bit + 1)) r → Chosen E p (choice_in n fr bit) (record { number = few + r.number; at = r.at; bit = r.bit })
    chosen_right t e c =
        let l = h.some in
        let m = h.less in
        let i = (choice_in (n - few) fr (bit + 1)).0 in
        rw (choice_right fr bit n few h.split (omega arith) t) (record { number = ap (λ i. few + i) c.number; stands_at = c.stands_at ∙ ap (hops E i) e ∙ sym (hops_add E few i p); begins = c.begins })
