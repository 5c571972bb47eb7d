-- A law of what may be there.
use Rattle.std.specs.Prelude.{◌≡◌, refl, List, ◌++◌}
use Rattle.std.proofs.Common.{ap}
use Rattle.std.proofs.Math.Option.{Option, none, some}
use Rattle.model.specs.Options.{map_o, bind_o}
use Rattle.model.specs.ValueFiles.{Rec}

-- the records of one value and those of others
pub joined : {A B C : Type 0} (f : A → List Rec) (g : B → List Rec) (c : A → B → C) (k : C → List Rec) → ((x : A) (y : B) → f x ++ g y ≡ k (c x y)) → (o : Option A) (u : Option B)
    → bind_o (map_o f o) (λ rs. map_o (λ ys. rs ++ ys) (map_o g u)) ≡ map_o k (bind_o o (λ x. map_o (λ y. c x y) u))
joined f g c k h none u = refl
joined f g c k h (some x) none = refl
joined f g c k h (some x) (some y) = ap some (h x y)
