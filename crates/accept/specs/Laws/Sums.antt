-- Laws of sums in a frame: the tags lead to a choice, whose payload stands behind them; all padding of the sum stands in one stretch behind the payload.
use Rattle.std.specs.Prelude.{◌≡◌, Bool, ◌||◌, List, [], ◌∷◌, length, take, drop, get_or}
use Rattle.std.proofs.Math.Path.{refl, sym, ap}
use Rattle.std.proofs.Common.{ap₂, subst, ◌∙◌, arith, get_or-take, get_or-drop}
use Rattle.std.proofs.Math.Bool.{true, false}
use Rattle.std.proofs.Math.Option.{some}
use Prim.Native.Nat.{ℕ, suc, ◌+◌, ◌-◌, ◌*◌, ◌≤◌, ◌<◌, max}
use Rattle.model.specs.Options.{any, map_o}
use Rattle.model.specs.Balanced.{BTree, leaf, fork, leaves, btree, grow, btree_split_index, fold}
use Rattle.model.specs.Structural.{SType, 𝟙, ◌⊕◌, SValue}
use Rattle.model.specs.Reconstruct.{as_enum_leaf}
use Rattle.model.specs.Frames.{width}
use Rattle.model.proofs.Laws.Balanced.{Shares, shares, btree_leaves, btree_fork, split_bounds, size_left, size_right}
use Rattle.bits.specs.Bits.{bits_at}
use Rattle.bits.specs.Laws.Runs.{bits_at_add}
use Rattle.accept.specs.Forms.{shape_at, stray_at, tag_at, farther, led, choice_in}
use Rattle.accept.specs.Laws.Bits.{any_both, left_shape, right_shape, left_stray, right_stray}

-- two stretches of padding, one behind the other, and what is between their tags
stretch : (fr : List ℕ) (at m n : ℕ) (x : Bool) → any (bits_at fr (at + m) n) || (any (bits_at fr at m) || x) ≡ any (bits_at fr at (m + n)) || x
stretch fr at m n x = go (any (bits_at fr at m)) (any (bits_at fr (at + m) n)) x ∙ ap (λ b. b || x) (sym (ap any (bits_at_add fr at m n) ∙ any_both (bits_at fr at m) (bits_at fr (at + m) n)))
  where
    go : (a b c : Bool) → b || (a || c) ≡ (a || b) || c
    go true true c = refl
    go true false c = refl
    go false b c = refl

-- of a sum of these types at a bit, choice i is taken, of the type c, with its payload at bit b
pub record Taken (t : BTree) (ts : List SType) (fr : List ℕ) (bit i : ℕ) (c : SType) (b : ℕ) : Type 0 where
  pub less : i < leaves t
  pub known : get_or ts i 𝟙 ≡ c
  pub fits : b + width c ≤ bit + width (fold ◌⊕◌ 𝟙 t ts)
  pub shape : as_enum_leaf t (shape_at (fold ◌⊕◌ 𝟙 t ts) fr bit) ≡ some (i, shape_at c fr b)
  pub stray : stray_at (fold ◌⊕◌ 𝟙 t ts) fr bit ≡ any (bits_at fr (b + width c) (bit + width (fold ◌⊕◌ 𝟙 t ts) - (b + width c))) || stray_at c fr b

-- the padding of a level joins that of the levels below it
wider : (fr : List ℕ) (bit : ℕ) (a c : SType) (b n w : ℕ) → b + width c ≤ bit + 1 + width a → w ≡ width a + n
    → stray_at a fr (bit + 1) ≡ any (bits_at fr (b + width c) (bit + 1 + width a - (b + width c))) || stray_at c fr b
    → any (bits_at fr (bit + 1 + width a) n) || stray_at a fr (bit + 1) ≡ any (bits_at fr (b + width c) (bit + suc w - (b + width c))) || stray_at c fr b
wider fr bit a c b n w f k e =
    let at = b + width c in
    let m = bit + 1 + width a - at in
    let i : bit + 1 + width a ≡ at + m = omega arith in
    let j : m + n ≡ bit + suc w - at = omega arith in
    ap₂ (λ q x. any (bits_at fr q n) || x) i e ∙ stretch fr at m n (stray_at c fr b) ∙ ap (λ q. any (bits_at fr at q) || stray_at c fr b) j

module _ (l r : BTree) (ts : List SType) (fr : List ℕ) (bit : ℕ) (h : bit < 8 * length fr) where
  abbrev lefts : SType
  lefts = fold ◌⊕◌ 𝟙 l (take (leaves l) ts)

  abbrev rights : SType
  rights = fold ◌⊕◌ 𝟙 r (drop (leaves l) ts)

  taken_left : (i : ℕ) (c : SType) (b : ℕ) → tag_at fr bit ≡ false → Taken l (take (leaves l) ts) fr (bit + 1) i c b → Taken (fork l r) ts fr bit i c b
  unfolding fold as_enum_leaf
  taken_left i c b e t =
      let f = t.fits in
      record {
        less = omega (arith, t.less);
        known = sym (get_or-take (leaves l) ts i 𝟙 t.less) ∙ t.known;
        fits = omega arith;
        shape = ap (as_enum_leaf (fork l r)) (left_shape fr bit lefts rights h e) ∙ t.shape;
        stray = left_stray fr bit lefts rights h e ∙ wider fr bit lefts c b (width rights - width lefts) (max (width lefts) (width rights)) f (omega arith) t.stray;
      }

  taken_right : (i : ℕ) (c : SType) (b : ℕ) → tag_at fr bit ≡ true → Taken r (drop (leaves l) ts) fr (bit + 1) i c b → Taken (fork l r) ts fr bit (leaves l + i) c b
  unfolding fold as_enum_leaf
  taken_right i c b e t =
      let f = t.fits in
      record {
        less = omega (arith, t.less);
        known = sym (get_or-drop (leaves l) ts i 𝟙) ∙ t.known;
        fits = omega arith;
        shape = ap (as_enum_leaf (fork l r)) (right_shape fr bit lefts rights h e) ∙ ap (map_o (λ (x : ℕ × SValue). (leaves l + x.0, x.1))) t.shape;
        stray = right_stray fr bit lefts rights h e ∙ wider fr bit rights c b (width lefts - width rights) (max (width lefts) (width rights)) f (omega arith) t.stray;
      }

-- what the tags lead to is taken
abbrev Led : BTree → List SType → List ℕ → ℕ → ℕ × ℕ → Type 0
Led t ts fr bit x = Taken t ts fr bit x.0 (get_or ts x.0 𝟙) x.1

led_is : (t : BTree) (ts : List SType) (fr : List ℕ) (bit i : ℕ) (c : SType) (b : ℕ) → Taken t ts fr bit i c b → Led t ts fr bit (i, b)
led_is t ts fr bit i c b h = subst (λ c. Taken t ts fr bit i c b) (sym h.known) h

one_taken : (t : SType) (ts : List SType) (fr : List ℕ) (bit : ℕ) → Taken leaf (t ∷ ts) fr bit 0 t bit
unfolding fold as_enum_leaf
one_taken t ts fr bit =
    let e : bit + width t - (bit + width t) ≡ 0 = omega arith in
    record { less = omega arith; known = refl; fits = omega arith; shape = refl; stray = sym (ap (λ n. any (bits_at fr (bit + width t) n) || stray_at t fr bit) e) }

taken : (t : BTree) (ts : List SType) (fr : List ℕ) (bit : ℕ) → length ts ≡ leaves t → bit + width (fold ◌⊕◌ 𝟙 t ts) ≤ 8 * length fr → Led t ts fr bit (led t fr bit)
unfolding led fold
taken leaf [] fr bit h k = absurd (omega arith)
taken leaf (t ∷ ts) fr bit h k = one_taken t ts fr bit
taken (fork l r) ts fr bit h k =
    go (tag_at fr bit) refl
    (taken l (take (leaves l) ts) fr (bit + 1) (size_left l r ts h) (omega arith))
    (taken r (drop (leaves l) ts) fr (bit + 1) (size_right l r ts h) (omega arith))
  where
    go : (x : Bool) → tag_at fr bit ≡ x → Led l (take (leaves l) ts) fr (bit + 1) (led l fr (bit + 1)) → Led r (drop (leaves l) ts) fr (bit + 1) (led r fr (bit + 1))
        → Led (fork l r) ts fr bit (elim x [ false ↦ led l fr (bit + 1) | true ↦ farther (leaves l) (led r fr (bit + 1)) ])
    go false e a b = led_is (fork l r) ts fr bit _ _ _ (taken_left l r ts fr bit (omega arith) _ _ _ e a)
    go true e a b = led_is (fork l r) ts fr bit _ _ _ (taken_right l r ts fr bit (omega arith) _ _ _ e b)

-- of a sum of n types the choice is taken that the tags lead to
pub sum_taken : (n : ℕ) (ts : List SType) (fr : List ℕ) (bit : ℕ) → 1 ≤ n → length ts ≡ n → bit + width (fold ◌⊕◌ 𝟙 (btree n) ts) ≤ 8 * length fr
    → Taken (btree n) ts fr bit (choice_in n fr bit).0 (get_or ts (choice_in n fr bit).0 𝟙) (choice_in n fr bit).1
unfolding choice_in
sum_taken n ts fr bit o h k = taken (btree n) ts fr bit (h ∙ sym (btree_leaves n o)) k

-- THE TAGS, as code reads them

-- the two sides of the choices, where there is more than one
pub shares_some : {n few : ℕ} → few ≡ btree_split_index n → 1 ≤ n → (n ≡ 1 → ⊥) → Shares n few
shares_some e l o = shares e (omega arith)

module _ (fr : List ℕ) (bit : ℕ) where
  pub choice_one : choice_in 1 fr bit ≡ (0, bit)
  unfolding choice_in btree grow led
  choice_one = refl

  choice_fork : (n : ℕ) → 2 ≤ n → choice_in n fr bit ≡ led (fork (btree (btree_split_index n)) (btree (n - btree_split_index n))) fr bit
  unfolding choice_in
  choice_fork n h = ap (λ t. led t fr bit) (btree_fork n h)

  -- a tag that is 0 leads to the left side's choices
  pub choice_left : (n few : ℕ) → few ≡ btree_split_index n → 2 ≤ n → tag_at fr bit ≡ false → choice_in n fr bit ≡ choice_in few fr (bit + 1)
  unfolding choice_in led
  choice_left n few e h g =
      choice_fork n h
      ∙ ap {B = ℕ × ℕ} (λ x. elim x [ false ↦ led (btree (btree_split_index n)) fr (bit + 1) | true ↦ farther (leaves (btree (btree_split_index n))) (led (btree (n - btree_split_index n)) fr (bit + 1)) ]) g
      ∙ ap (λ k. choice_in k fr (bit + 1)) (sym e)

  -- a tag that is 1 to those on the right, which are counted behind them
  pub choice_right : (n few : ℕ) → few ≡ btree_split_index n → 2 ≤ n → tag_at fr bit ≡ true → choice_in n fr bit ≡ farther few (choice_in (n - few) fr (bit + 1))
  unfolding choice_in led
  choice_right n few e h g =
      choice_fork n h
      ∙ ap {B = ℕ × ℕ} (λ x. elim x [ false ↦ led (btree (btree_split_index n)) fr (bit + 1) | true ↦ farther (leaves (btree (btree_split_index n))) (led (btree (n - btree_split_index n)) fr (bit + 1)) ]) g
      ∙ ap (λ k. farther k (led (btree (n - btree_split_index n)) fr (bit + 1))) (btree_leaves (btree_split_index n) (split_bounds n h).0)
      ∙ ap (λ k. farther k (choice_in (n - k) fr (bit + 1))) (sym e)

-- a choice is one of the n
abbrev Below : ℕ → ℕ × ℕ → Type 0
Below n x = x.0 < n

led_less : (t : BTree) (fr : List ℕ) (bit : ℕ) → (led t fr bit).0 < leaves t
unfolding led
led_less leaf fr bit = omega arith
led_less (fork l r) fr bit = go (tag_at fr bit) (led_less l fr (bit + 1)) (led_less r fr (bit + 1))
  where
    go : (x : Bool) → (led l fr (bit + 1)).0 < leaves l → (led r fr (bit + 1)).0 < leaves r → Below (leaves l + leaves r) (elim x [ false ↦ led l fr (bit + 1) | true ↦ farther (leaves l) (led r fr (bit + 1)) ])
    go false a b = omega arith
    go true a b = omega arith

pub choice_less : (n : ℕ) (fr : List ℕ) (bit : ℕ) → 1 ≤ n → (choice_in n fr bit).0 < n
unfolding choice_in
choice_less n fr bit o = omega (arith, led_less (btree n) fr bit, btree_leaves n o)
