-- Laws of the small functions on Option, Bool and lists.
use Rattle.std.specs.Prelude.{◌≡◌, refl, List, [], ◌∷◌, map, Bool, true, false, ◌||◌, ℕ, suc, eqb, length}
use Rattle.std.proofs.Common.{sym, ap, ap₂, subst, arith, eqb-true}
use Rattle.std.proofs.lemmas.Bool.{false≢true}
use Rattle.std.proofs.Math.Option.{Option, none, some, none-ne-some, some-injective}
use Rattle.model.specs.Options.{map_o, bind_o, when, map_m, one_of, All}

pub bind_o_some : {A B : Type 0} (o : Option A) (f : A → Option B) (b : B) → bind_o o f ≡ some b → (a : A) × (o ≡ some a) × (f a ≡ some b)
bind_o_some none f b h = absurd (none-ne-some b h)
bind_o_some (some a) f b h = (a, refl, h)

pub map_o_some : {A B : Type 0} (f : A → B) (o : Option A) (b : B) → map_o f o ≡ some b → (a : A) × (o ≡ some a) × (f a ≡ b)
map_o_some f none b h = absurd (none-ne-some b h)
map_o_some f (some a) b h = (a, refl, some-injective _ _ h)

module _ {A B C : Type 0} where
  pub map_o_map_o : (f : A → B) (g : B → C) (o : Option A) → map_o g (map_o f o) ≡ map_o (λ x. g (f x)) o
  map_o_map_o f g none = refl
  map_o_map_o f g (some x) = refl

  pub map_o_bind_o : (f : A → Option B) (g : B → C) (o : Option A) → map_o g (bind_o o f) ≡ bind_o o (λ x. map_o g (f x))
  map_o_bind_o f g none = refl
  map_o_bind_o f g (some x) = refl

-- functions that agree on what is there give the same
module _ {A B : Type 0} where
  pub map_o_known : (o : Option A) (f g : A → B) → ((x : A) → o ≡ some x → f x ≡ g x) → map_o f o ≡ map_o g o
  map_o_known none f g h = refl
  map_o_known (some x) f g h = ap some (h x refl)

  pub bind_o_known : (o : Option A) (f g : A → Option B) → ((x : A) → o ≡ some x → f x ≡ g x) → bind_o o f ≡ bind_o o g
  bind_o_known none f g h = refl
  bind_o_known (some x) f g h = h x refl

-- what holds of each number of a list holds of one that is found in it
pub one_of_all : (P : ℕ → Type 0) (n : ℕ) (l : List ℕ) → All P l → one_of n l ≡ true → P n
one_of_all P n [] a h = absurd (false≢true h)
one_of_all P n (m ∷ ms) a h = go (eqb n m) refl (one_of_all P n ms a.1) h
  where
    go : (b : Bool) → eqb n m ≡ b → (one_of n ms ≡ true → P n) → (b || one_of n ms) ≡ true → P n
    go true e rest q = subst P (sym (eqb-true n m e)) a.0
    go false e rest q = rest q

-- reading each element of a mapped list
pub map_m_map : {A B : Type 0} (P : A → Type 0) (f : B → Option A) (g : A → B) → ((x : A) → P x → f (g x) ≡ some x) → (xs : List A) → All P xs → map_m f (map g xs) ≡ some xs
map_m_map P f g h [] k = refl
map_m_map P f g h (x ∷ xs) k = rw (h x k.0, map_m_map P f g h xs k.1)

pub All-map : {A B : Type 0} (P : A → Type 0) (Q : B → Type 0) (g : A → B) → ((x : A) → P x → Q (g x)) → (xs : List A) → All P xs → All Q (map g xs)
All-map P Q g h [] k = tt
All-map P Q g h (x ∷ xs) k = (h x k.0, All-map P Q g h xs k.1)

-- what is read element by element, when each element of the list can be read, and back
pub record ReadAll {A B : Type 0} (P : A → Type 0) (f : B → Option A) (g : A → B) (ys : List B) : Type 0 where
  pub values : List A
  pub reads : map_m f ys ≡ some values
  pub size : length values ≡ length ys
  pub valid : All P values
  pub back : map g values ≡ ys

pub record ReadOne {A B : Type 0} (P : A → Type 0) (f : B → Option A) (g : A → B) (y : B) : Type 0 where
  pub value : A
  pub reads : f y ≡ some value
  pub valid : P value
  pub back : g value ≡ y

read_cons : {A B : Type 0} (P : A → Type 0) (f : B → Option A) (g : A → B) (y : B) (ys : List B) → ReadOne P f g y → ReadAll P f g ys → ReadAll P f g (y ∷ ys)
read_cons {A} {B} P f g y ys o a = record {
  values = o.value ∷ a.values;
  reads = rw (o.reads, a.reads);
  size = ap suc a.size;
  valid = (o.valid, a.valid);
  back = ap₂ {C = List B} ◌∷◌ o.back a.back;
}

pub read_all : {A B : Type 0} (P : A → Type 0) (Q : B → Type 0) (f : B → Option A) (g : A → B) → ((y : B) → Q y → ReadOne P f g y) → (ys : List B) → All Q ys → ReadAll P f g ys
read_all P Q f g h [] k = record { values = []; reads = refl; size = refl; valid = tt; back = refl }
read_all P Q f g h (y ∷ ys) k = read_cons P f g y ys (h y k.0) (read_all P Q f g h ys k.1)

pub when_some : {A : Type 0} (b : Bool) (x y : A) → when b (some x) ≡ some y → (b ≡ true) × (x ≡ y)
when_some true x y h = (refl, cc)
when_some false x y h = let z : ◌≡◌ {A = ℕ} 0 1 = cc in absurd (omega arith)
