-- Two paths' steps: the one's begin with the other's, or they take different steps from the same place.
use Rattle.std.specs.Prelude.{◌≡◌, refl, ◌≢◌, List, [], ◌∷◌, Bool, true, false, ℕ, eqb}
use Rattle.std.proofs.Common.{ap, eqb-true}
use Rattle.std.proofs.lemmas.Bool.{eqb-false}
use Rattle.two_edits.specs.TwoEdits.{BeginWith, StepsPart, PathsPart}

-- the two take different steps from the same place
pub data Diverge : List ℕ → List ℕ → Type 0 where
  here : {i j : ℕ} {q r : List ℕ} → i ≢ j → Diverge (i ∷ q) (j ∷ r)
  there : {i : ℕ} {q r : List ℕ} → Diverge q r → Diverge (i ∷ q) (i ∷ r)

-- any two paths do one of these
pub data Compared (q r : List ℕ) : Type 0 where
  first_begins : BeginWith r q → Compared q r
  second_begins : BeginWith q r → Compared q r
  diverge : Diverge q r → Compared q r

pub compare : (q r : List ℕ) → Compared q r
compare [] r = first_begins (r, refl)
compare (i ∷ q) [] = second_begins (i ∷ q, refl)
compare (i ∷ q) (j ∷ r) = go (eqb i j) refl (compare q r)
  where
    go : (b : Bool) → eqb i j ≡ b → Compared q r → Compared (i ∷ q) (j ∷ r)
    go false e c = diverge (here (eqb-false i j e))
    go true e (first_begins b) = rw (eqb-true i j e) (first_begins (b.0, ap {B = List ℕ} (λ l. j ∷ l) b.1))
    go true e (second_begins b) = rw (eqb-true i j e) (second_begins (b.0, ap {B = List ℕ} (λ l. j ∷ l) b.1))
    go true e (diverge d) = rw (eqb-true i j e) (diverge (there d))

-- where neither's begin with the other's they diverge
pub parting : (q r : List ℕ) → StepsPart q r → Diverge q r
parting q r s = go (compare q r)
  where
    go : Compared q r → Diverge q r
    go (first_begins b) = absurd (s.0 b)
    go (second_begins b) = absurd (s.1 b)
    go (diverge d) = d

-- it does not matter which is named first
pub turned_paths : (path other : List ℕ) → PathsPart path other → PathsPart other path
turned_paths path other s picks others e f = let (a, b) = s others picks f e in (b, a)
