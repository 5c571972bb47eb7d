-- What is read from the records of a value file, told by places: a reader that gives only what was written leaves what stands behind it.
use Rattle.std.specs.Prelude.{◌≡◌, refl, Bool, true, false, not, List, ◌∷◌, ◌++◌, ◌⊎◌, ℕ, ◌+◌, length, drop}
use Rattle.std.proofs.Common.{sym, ap, ◌∙◌, inl, inr, arith, length-append, drop-drop}
use Rattle.std.proofs.Math.Option.{Option, some, none-ne-some, some-injective}
use Rattle.std.proofs.Math.Seq.{drop-append_seam}
use Rattle.std.proofs.lemmas.Bool.{not-false}
use Rattle.model.specs.Numbers.{not_one_value}
use Rattle.model.specs.Outcome.{Outcome, done, refused, ◌>>=◌, ◌>>◌, refuse}
use Rattle.model.specs.Options.{pick, map_o, bind_o}
use Rattle.model.specs.Structural.{SValue}
use Rattle.model.specs.ValueFiles.{Rec, Reader, same, must_be, made}
use Rattle.model.proofs.Laws.ValueFiles.{Sound}
use Rattle.value.specs.Model.{rows}
use Rattle.told.specs.Forms.{rows_from, read}

-- what was read from record v on, as f tells it, and the record after it
abbrev pub seen : {A X : Type 0} → (A → X) → (A → List Rec) → ℕ → Outcome (A × List Rec) → Option (X × ℕ)
seen f g v o = map_o (λ x. (f x.0, v + length (g x.0))) (read o)

-- what was read is what the reader gave
pub read_some : {A : Type 0} (o : Outcome A) (x : A) → read o ≡ some x → o ≡ done x
read_some (done y) x h = ap done (some-injective y x h)
read_some (refused n) x h = absurd (none-ne-some x h)

-- THE RECORDS BEHIND IT

module _ {A : Type 0} (P : A → Type 0) (g : A → List Rec) (f : Reader A) (sound : Sound P g f) (val : List ℕ) (v : ℕ) (x : A × List Rec) (h : f (rows_from val v) ≡ done x) where
  behind : x.1 ≡ rows_from val (v + length (g x.0))
  behind = sym (ap (drop (length (g x.0))) (sound (rows_from val v) x h).back ∙ drop-append_seam (g x.0) x.1) ∙ drop-drop (length (g x.0)) v (rows val)

-- ONE READER AND ANOTHER

-- a part and what follows it
pub seen_then : {A B C : Type 0} (P : A → Type 0) (fA : A → SValue) (gA : A → List Rec) (fB : B → List SValue) (gB : B → List Rec) (fC : C → List SValue) (gC : C → List Rec) (c : A → B → C)
    → ((x : A) (y : B) → fC (c x y) ≡ fA x ∷ fB y) → ((x : A) (y : B) → gC (c x y) ≡ gA x ++ gB y) → (f : Reader A) → Sound P gA f → (h : Reader B) (val : List ℕ) (v : ℕ)
    → seen fC gC v (f (rows_from val v) >>= λ x. made (λ y. c x.0 y) (h x.1)) ≡ bind_o (seen fA gA v (f (rows_from val v))) (λ x. map_o (λ y. (x.0 ∷ y.0, y.1)) (seen fB gB x.1 (h (rows_from val x.1))))
seen_then {A} {B} {C} P fA gA fB gB fC gC c eF eG f sound h val v = go (f (rows_from val v)) refl
  where
    further : (x : A) (y : B) → v + length (gC (c x y)) ≡ v + length (gA x) + length (gB y)
    further x y = let e : length (gC (c x y)) ≡ length (gA x) + length (gB y) = ap length (eG x y) ∙ length-append (gA x) (gB y) in omega arith

    last : (x : A) (o : Outcome (B × List Rec)) → seen fC gC v (made (λ y. c x y) o) ≡ map_o (λ y. (fA x ∷ y.0, y.1)) (seen fB gB (v + length (gA x)) o)
    last x (refused n) = refl
    last x (done y) = λ i. some (eF x y.0 i, further x y.0 i)

    go : (o : Outcome (A × List Rec)) → f (rows_from val v) ≡ o → seen fC gC v (o >>= λ x. made (λ y. c x.0 y) (h x.1)) ≡ bind_o (seen fA gA v o) (λ x. map_o (λ y. (x.0 ∷ y.0, y.1)) (seen fB gB x.1 (h (rows_from val x.1))))
    go (refused n) e = refl
    go (done x) e = ap (λ r. seen fC gC v (made (λ y. c x.0 y) (h r))) (behind P gA f sound val v x e) ∙ last x.0 (h (rows_from val (v + length (gA x.0))))

-- the same records told in two ways, from u on and from w on
module _ {A X Y : Type 0} (f : A → Y) (g : A → List Rec) (f' : A → X) (g' : A → List Rec) (k : X → Y) (u w : ℕ) (far : (x : A) → u + length (g x) ≡ w + length (g' x)) where
  pub seen_as : (o : Outcome (A × List Rec)) → ((x : A × List Rec) → o ≡ done x → f x.0 ≡ k (f' x.0)) → seen f g u o ≡ map_o (λ x. (k x.0, x.1)) (seen f' g' w o)
  seen_as (refused n) h = refl
  seen_as (done x) h = λ i. some (h x refl i, far x.0 i)

-- what is made of what was read
module _ {A B X Y : Type 0} (c : A → B) (f : B → Y) (g : B → List Rec) (f' : A → X) (g' : A → List Rec) (k : X → Y) (u w : ℕ) (same : (x : A) → f (c x) ≡ k (f' x)) (far : (x : A) → u + length (g (c x)) ≡ w + length (g' x)) where
  pub seen_made : (o : Outcome (A × List Rec)) → seen f g u (made c o) ≡ map_o (λ x. (k x.0, x.1)) (seen f' g' w o)
  seen_made (refused n) = refl
  seen_made (done x) = λ i. some (same x.0 i, far x.0 i)

module _ {A B X : Type 0} (c : A → B) (f : B → X) (g : B → List Rec) (f' : A → X) (g' : A → List Rec) (v : ℕ) (same : (x : A) → f (c x) ≡ f' x) (far : (x : A) → g (c x) ≡ g' x) where
  pub seen_of : (o : Outcome (A × List Rec)) → seen f g v (made c o) ≡ seen f' g' v o
  seen_of (refused n) = refl
  seen_of (done x) = λ i. some (same x.0 i, v + length (far x.0 i))

-- TESTS BEFORE IT

module _ {A X : Type 0} (f : A → X) (g : A → List Rec) (v : ℕ) (y : X × ℕ) where
  -- a row in front, which does not refuse what is told
  pub seen_row : (n : ℕ) (b : Bool) (o : Outcome (A × List Rec)) → seen f g v (refuse n b >> o) ≡ some y → (b ≡ false) × (seen f g v (refuse n b >> o) ≡ seen f g v o)
  seen_row n false o h = (refl, refl)
  seen_row n true o h = absurd (none-ne-some y h)

  -- a record that must be this one
  pub seen_must : (r s : Rec) (o : Outcome (A × List Rec)) → seen f g v (must_be r s >> o) ≡ some y → (same r s ≡ true) × (seen f g v (must_be r s >> o) ≡ seen f g v o)
  seen_must r s o h = let (e, k) = seen_row not_one_value (not (same r s)) o h in (not-false (same r s) e, k)

  -- one of two records
  pub seen_pick : (a : Bool) (r s : Rec) (o q : Outcome (A × List Rec)) → seen f g v (pick a o (must_be r s >> q)) ≡ some y → ((a ≡ true) × (seen f g v (pick a o (must_be r s >> q)) ≡ seen f g v o)) ⊎ ((same r s ≡ true) × (seen f g v (pick a o (must_be r s >> q)) ≡ seen f g v q))
  seen_pick true r s o q h = inl (refl, refl)
  seen_pick false r s o q h = inr (seen_must r s q h)
