-- Small functions on Option, Bool and lists that the definitions share.
use Rattle.std.specs.Prelude.{Bool, true, false, ◌||◌, List, [], ◌∷◌, ◌++◌, ℕ, zero, suc, eqb}
use Rattle.std.proofs.Math.Option.{Option, none, some}

abbrev pub pick : {A : Type 0} → Bool → A → A → A
pick true a b = a
pick false a b = b

abbrev pub map_o : {A B : Type 0} → (A → B) → Option A → Option B
map_o f none = none
map_o f (some a) = some (f a)

abbrev pub bind_o : {A B : Type 0} → Option A → (A → Option B) → Option B
bind_o none f = none
bind_o (some a) f = f a

-- what is there, if the test holds
abbrev pub when : {A : Type 0} → Bool → Option A → Option A
when true o = o
when false o = none

-- each element's result, if each has one
abbrev pub map_m : {A B : Type 0} → (A → Option B) → List A → Option (List B)
map_m f [] = some []
map_m f (x ∷ xs) = bind_o (f x) (λ y. map_o (λ ys. y ∷ ys) (map_m f xs))

abbrev pub flat_map : {A B : Type 0} → (A → List B) → List A → List B
flat_map f [] = []
flat_map f (x ∷ xs) = f x ++ flat_map f xs

-- some bit is 1
abbrev pub any : List Bool → Bool
any [] = false
any (x ∷ xs) = x || any xs

-- the number stands in the list
abbrev pub one_of : ℕ → List ℕ → Bool
one_of n [] = false
one_of n (m ∷ ms) = eqb n m || one_of n ms

-- the first k at or after i with f k = n, of the next `fuel` ones
abbrev pub find : (ℕ → ℕ) → ℕ → ℕ → ℕ → Option ℕ
find f zero i n = none
find f (suc fuel) i n = pick (eqb n (f i)) (some i) (find f fuel (suc i) n)

-- each element has the property
abbrev pub All : {A : Type 0} → (A → Type 0) → List A → Type 0
All P [] = Unit
All P (x ∷ xs) = P x × All P xs
