-- The lowered type of what stands at a record: of a type the type's, of a Variant its payload type's. And of n of them in a row.
use Rattle.std.specs.Prelude.{◌≡◌, refl, List, [], ◌∷◌, Bool, true, false, ℕ, zero, suc, length}
use Rattle.std.proofs.Common.{ap}
use Rattle.model.specs.Structural.{SType, product_of}
use Rattle.model.specs.Lowering.{lower, lowers, payloads}
use Rattle.types.specs.Walks.{walk}
use Rattle.types.specs.Trees.{end_of, kids, cases, tree, treev}

-- v: a Variant stands here
unfoldable pub low : ℕ → Bool → List ℕ → ℕ → SType
low d false s at = lower (tree d s at)
low d true s at = product_of (lowers (treev d s at))

unfoldable pub lows : ℕ → Bool → List ℕ → ℕ → ℕ → List SType
lows d v s zero at = []
lows d v s (suc n) at = low d v s at ∷ lows d v s n (end_of (walk d v s at))

pub length_lows : (d : ℕ) (v : Bool) (s : List ℕ) (n at : ℕ) → length (lows d v s n at) ≡ n
unfolding lows
length_lows d v s zero at = refl
length_lows d v s (suc n) at = ap suc (length_lows d v s n (end_of (walk d v s at)))

pub lows_kids : (d : ℕ) (s : List ℕ) (n at : ℕ) → lowers (kids (tree d s) (walk d false s) n at) ≡ lows d false s n at
unfolding lows low kids lower
lows_kids d s zero at = refl
lows_kids d s (suc n) at = ap {B = List SType} (λ l. lower (tree d s at) ∷ l) (lows_kids d s n (end_of (walk d false s at)))

pub lows_cases : (d : ℕ) (s : List ℕ) (n at : ℕ) → payloads (cases (treev d s) (walk d true s) n at) ≡ lows d true s (suc n) at
unfolding lows low cases lower
lows_cases d s zero at = refl
lows_cases d s (suc n) at = ap {B = List SType} (λ l. product_of (lowers (treev d s at)) ∷ l) (lows_cases d s n (end_of (walk d true s at)))
