-- What is made of the tree at a place.
use Rattle.std.specs.Prelude.{◌≡◌, refl, List, ℕ}
use Rattle.std.proofs.Common.{sym, ap, ◌∙◌}
use Rattle.std.proofs.Math.Option.{Option, none, some, none-ne-some, some-injective}
use Rattle.model.specs.Options.{map_o, bind_o}
use Rattle.model.specs.Structural.{SValue}
use Rattle.model.proofs.Laws.Options.{bind_o_some, map_o_some, bind_o_known}
use Rattle.model.specs.ValueFiles.{Rec}
use Rattle.record.specs.Trees.{numbered}
use Rattle.restore.specs.Forms.{Given, tree_at, made_at}

-- what is made of what is made
pub made_as : {A B : Type 0} (sh : List ℕ) (f : SValue → Option A) (g : SValue → Option B) (k : B → A) (q : ℕ) → ((x : SValue) → f x ≡ map_o k (g x)) → made_at sh f q ≡ map_o (λ y. (k y.0, y.1)) (made_at sh g q)
unfolding made_at
made_as {A} {B} sh f g k q h = go (tree_at sh q)
  where
    last : (n : ℕ) (o : Option B) → map_o {B = A × ℕ} (λ a. (a, n)) (map_o k o) ≡ map_o (λ (y : B × ℕ). (k y.0, y.1)) (map_o (λ b. (b, n)) o)
    last n none = refl
    last n (some b) = refl

    go : (o : Given SValue) → bind_o {B = A × ℕ} o (λ x. map_o (λ a. (a, x.1)) (f x.0)) ≡ map_o (λ (y : B × ℕ). (k y.0, y.1)) (bind_o o (λ x. map_o (λ b. (b, x.1)) (g x.0)))
    go none = refl
    go (some x) = ap (map_o (λ a. (a, x.1))) (h x.0) ∙ last x.1 (g x.0)

pub made_same : {A : Type 0} (sh : List ℕ) (f g : SValue → Option A) (q : ℕ) → ((x : SValue) → f x ≡ g x) → made_at sh f q ≡ made_at sh g q
unfolding made_at
made_same sh f g q h = bind_o_known (tree_at sh q) _ _ (λ x e. ap (map_o (λ a. (a, x.1))) (h x.0))

-- the tree that it was made of
pub record MadeOf {A : Type 0} (sh : List ℕ) (f : SValue → Option A) (q : ℕ) (y : A × ℕ) : Type 0 where
  pub tree : SValue
  pub stood : tree_at sh q ≡ some (tree, y.1)
  pub made : f tree ≡ some y.0

pub made_of : {A : Type 0} (sh : List ℕ) (f : SValue → Option A) (q : ℕ) (y : A × ℕ) → made_at sh f q ≡ some y → MadeOf sh f q y
unfolding made_at
made_of sh f q y h =
    let (x, e, k) = bind_o_some (tree_at sh q) _ y h in
    let (a, i, m) = map_o_some _ (f x.0) y k in
    record { tree = x.0; stood = e ∙ ap (λ n. some (x.0, n)) (ap (λ z. z.1) m); made = i ∙ ap (λ z. some z.0) m }

-- WHAT HAS A NUMBER

pub numbered_some : (j : ℕ) (o : Option (List Rec)) (i : ℕ) (rs : List Rec) → numbered j o ≡ some (i, rs) → (i ≡ j) × (o ≡ some rs)
numbered_some j none i rs h = absurd (none-ne-some (i, rs) h)
numbered_some j (some us) i rs h = let k = some-injective (j, us) (i, rs) h in (sym (ap (λ (y : ℕ × List Rec). y.0) k), ap (λ (y : ℕ × List Rec). some y.1) k)
