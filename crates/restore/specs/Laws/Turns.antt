-- Laws of balanced sums at a place of a shape file: of one choice, and of two or more, where a left or a right leads to the one side's choices or the other's.
use Rattle.std.specs.Prelude.{◌≡◌, List, length, get_or}
use Rattle.std.proofs.Common.{sym, ◌∙◌, arith}
use Rattle.std.proofs.Math.Path.{ap}
use Rattle.std.proofs.Math.Option.{some, none-ne-some}
use Prim.Native.Nat.{ℕ, ◌+◌, ◌-◌, ◌≤◌, ◌<◌}
use Rattle.model.specs.Options.{bind_o}
use Rattle.model.specs.Balanced.{fork, leaves, btree, grow, btree_split_index}
use Rattle.model.specs.Structural.{SValue, unit, left, right, pair}
use Rattle.model.specs.ValueFiles.{Rec}
use Rattle.model.specs.Reconstruct.{as_enum_leaf}
use Rattle.model.proofs.Laws.Options.{bind_o_some, map_o_some}
use Rattle.model.proofs.Laws.Balanced.{split_bounds, btree_fork, btree_leaves}
use Rattle.told.specs.Forms.{hops}
use Rattle.told.specs.Laws.Hops.{hops_add}
use Rattle.record.specs.Trees.{part, sum, numbered}
use Rattle.restore.specs.Forms.{tree_at, made_at, standing}
use Rattle.restore.specs.Laws.Made.{made_of, numbered_some}
use Rattle.restore.specs.Laws.Places.{left_at, right_at, made_there}

module _ (sh : List ℕ) (d : ℕ) (s E : List ℕ) where
  -- one choice is the first
  pub record Only (p q i : ℕ) (rs : List Rec) (e : ℕ) : Type 0 where
    pub first : i ≡ 0
    pub there : standing sh d s p q ≡ some (rs, e)

  pub sum_one : (n p q i : ℕ) (rs : List Rec) (e : ℕ) → n ≡ 1 → made_at sh (sum d s E n p) q ≡ some ((i, rs), e) → Only p q i rs e
  unfolding sum standing as_enum_leaf btree grow hops
  sum_one n p q i rs e z h =
      let m = made_of sh (sum d s E 1 p) q ((i, rs), e) (rw z at h) in
      let (f, g) = numbered_some 0 (part d s p m.tree) i rs m.made in
      record { first = f; there = made_there (record { tree = m.tree; stood = m.stood; made = g }) }

  -- a left leads to the first choices
  pub record Leftwards (n few p q i : ℕ) (rs : List Rec) (e : ℕ) : Type 0 where
    pub starts : get_or sh q 0 ≡ 1
    pub inside : q < length sh
    pub below : made_at sh (sum d s E few p) (q + 1) ≡ some ((i, rs), e)

  -- a right to the others
  pub record Rightwards (n few p q i : ℕ) (rs : List Rec) (e : ℕ) : Type 0 where
    pub starts : get_or sh q 0 ≡ 2
    pub inside : q < length sh
    pub number : ℕ
    pub moved : i ≡ few + number
    pub below : made_at sh (sum d s E (n - few) (hops E few p)) (q + 1) ≡ some ((number, rs), e)

  data Turned (n few p q i : ℕ) (rs : List Rec) (e : ℕ) : Type 0 where
    leftwards : Leftwards n few p q i rs e → Turned n few p q i rs e
    rightwards : Rightwards n few p q i rs e → Turned n few p q i rs e

  to_right : (n l p q i : ℕ) (rs : List Rec) (e : ℕ) (a : SValue) → tree_at sh q ≡ some (right a, e) → (z : ℕ × SValue) → as_enum_leaf (btree (n - l)) a ≡ some z → numbered (l + z.0) (part d s (hops E (l + z.0) p) z.1) ≡ some (i, rs) → Rightwards n l p q i rs e
  unfolding sum
  to_right n l p q i rs e a t z u g =
      let o = right_at a t in
      let (f, r) = numbered_some (l + z.0) (part d s (hops E (l + z.0) p) z.1) i rs g in
      let k : sum d s E (n - l) (hops E l p) a ≡ some (z.0, rs) = ap (λ o. bind_o o (λ y. numbered y.0 (part d s (hops E y.0 (hops E l p)) y.1))) u ∙ ap (λ k. numbered z.0 (part d s k z.1)) (sym (hops_add E l z.0 p)) ∙ ap (numbered z.0) r in
      record { starts = o.starts; inside = o.inside; number = z.0; moved = f; below = made_there (record { tree = a; stood = o.below; made = k }) }

  turned : (n p q i : ℕ) (rs : List Rec) (e : ℕ) → 2 ≤ n → made_at sh (sum d s E n p) q ≡ some ((i, rs), e) → Turned n (btree_split_index n) p q i rs e
  unfolding sum as_enum_leaf
  turned n p q i rs e h k =
      let m = made_of sh (sum d s E n p) q ((i, rs), e) k in
      let (y, f, g) = bind_o_some (as_enum_leaf (btree n) m.tree) _ (i, rs) m.made in
      go m.tree y m.stood (sym (ap (λ t. as_enum_leaf t m.tree) (btree_fork n h)) ∙ f) g
    where
      go : (x : SValue) (y : ℕ × SValue) → tree_at sh q ≡ some (x, e) → as_enum_leaf (fork (btree (btree_split_index n)) (btree (n - btree_split_index n))) x ≡ some y → numbered y.0 (part d s (hops E y.0 p) y.1) ≡ some (i, rs) → Turned n (btree_split_index n) p q i rs e
      go unit y t f g = absurd (none-ne-some y f)
      go (pair a c) y t f g = absurd (none-ne-some y f)
      go (left a) y t f g =
          let o = left_at a t in
          leftwards (record { starts = o.starts; inside = o.inside; below = made_there (record { tree = a; stood = o.below; made = ap (λ o. bind_o o (λ y. numbered y.0 (part d s (hops E y.0 p) y.1))) f ∙ g }) })
      go (right a) y t f g =
          let (z, u, v) = map_o_some _ (as_enum_leaf (btree (n - btree_split_index n)) a) y f in
          let w : leaves (btree (btree_split_index n)) ≡ btree_split_index n = btree_leaves (btree_split_index n) (split_bounds n h).0 in
          rightwards (to_right n (btree_split_index n) p q i rs e a t z u (ap (λ k. numbered k.0 (part d s (hops E k.0 p) k.1)) (ap (λ k. (k + z.0, z.1)) (sym w) ∙ v) ∙ g))

  pub sum_left : (n few p q i : ℕ) (rs : List Rec) (e : ℕ) → 2 ≤ n → few ≡ btree_split_index n → get_or sh q 0 ≡ 1 → made_at sh (sum d s E n p) q ≡ some ((i, rs), e) → Leftwards n few p q i rs e
  sum_left n few p q i rs e h f t k = rw f (go (turned n p q i rs e h k))
    where
      go : Turned n (btree_split_index n) p q i rs e → Leftwards n (btree_split_index n) p q i rs e
      go (leftwards l) = l
      go (rightwards r) = let u = r.starts in absurd (omega arith)

  pub sum_right : (n few p q i : ℕ) (rs : List Rec) (e : ℕ) → 2 ≤ n → few ≡ btree_split_index n → (get_or sh q 0 ≡ 1 → ⊥) → made_at sh (sum d s E n p) q ≡ some ((i, rs), e) → Rightwards n few p q i rs e
  sum_right n few p q i rs e h f t k = rw f (go (turned n p q i rs e h k))
    where
      go : Turned n (btree_split_index n) p q i rs e → Rightwards n (btree_split_index n) p q i rs e
      go (leftwards l) = absurd (t l.starts)
      go (rightwards r) = r

  pub sum_inside : (n p q i : ℕ) (rs : List Rec) (e : ℕ) → 2 ≤ n → made_at sh (sum d s E n p) q ≡ some ((i, rs), e) → q < length sh
  sum_inside n p q i rs e h k = go (turned n p q i rs e h k)
    where
      go : Turned n (btree_split_index n) p q i rs e → q < length sh
      go (leftwards l) = l.inside
      go (rightwards r) = r.inside
