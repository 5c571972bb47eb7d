-- Values of a type (the Rust's Value), and the shape of a value (01, 'Shape'; the Rust's `From<&Value> for StructuralValue`).
use Rattle.std.specs.Prelude.{◌≡◌, Bool, true, false, List, [], ◌∷◌, map, ◌⊎◌, ℕ, suc, ◌<◌, ◌^◌, length}
use Rattle.std.proofs.Common.{inl, inr}
use Rattle.std.proofs.Math.Option.{Option, none, some}
use Rattle.model.specs.Options.{All}
use Rattle.model.specs.Bytes.{to_bits}
use Rattle.model.specs.Balanced.{btree}
use Rattle.model.specs.Structural.{SValue, unit, left, right, tuple_of, enum_injection, partition}
use Rattle.model.specs.Types.{Ty, Tys, Variants, never, bool, uint, either, option, tuple, array, list, enum, nil, cons, last, more, count}

abbrev mutual
  pub Value : Ty → Type 0
  Value never = ⊥
  Value bool = Bool
  Value (uint w) = ℕ
  Value (either a b) = Value a ⊎ Value b
  Value (option a) = Option (Value a)
  Value (tuple ts) = Values ts
  Value (array a n) = List (Value a)
  Value (list a e) = List (Value a)
  Value (enum vs) = Choice vs

  pub Values : Tys → Type 0
  Values nil = Unit
  Values (cons t ts) = Value t × Values ts

  -- the variant present, with its payload
  pub Choice : Variants → Type 0
  Choice (last ts) = Values ts
  Choice (more ts vs) = Values ts ⊎ Choice vs

-- the numbers in a value fit its type: integers their width, an array its size, a list its bound
abbrev mutual
  pub Valid : (t : Ty) → Value t → Type 0
  Valid never v = ⊥
  Valid bool v = Unit
  Valid (uint w) n = n < 2 ^ w
  Valid (either a b) (inl x) = Valid a x
  Valid (either a b) (inr y) = Valid b y
  Valid (option a) none = Unit
  Valid (option a) (some x) = Valid a x
  Valid (tuple ts) vs = Valids ts vs
  Valid (array a n) xs = (length xs ≡ n) × All (λ x. Valid a x) xs
  Valid (list a e) xs = (length xs < 2 ^ suc e) × All (λ x. Valid a x) xs
  Valid (enum vs) c = ValidChoice vs c

  pub Valids : (ts : Tys) → Values ts → Type 0
  Valids nil v = Unit
  Valids (cons t ts) v = Valid t v.0 × Valids ts v.1

  pub ValidChoice : (vs : Variants) → Choice vs → Type 0
  ValidChoice (last ts) c = Valids ts c
  ValidChoice (more ts vs) (inl c) = Valids ts c
  ValidChoice (more ts vs) (inr c) = ValidChoice vs c

-- SHAPES

-- false and 0 are left
abbrev pub bit : Bool → SValue
bit false = left unit
bit true = right unit

unfoldable mutual
  pub inject : (t : Ty) → Value t → SValue
  inject never v = unit
  inject bool b = bit b
  inject (uint w) n = tuple_of (map bit (to_bits w n))
  inject (either a b) (inl x) = left (inject a x)
  inject (either a b) (inr y) = right (inject b y)
  inject (option a) none = left unit
  inject (option a) (some x) = right (inject a x)
  inject (tuple ts) vs = tuple_of (injects ts vs)
  inject (array a n) xs = tuple_of (map (λ x. inject a x) xs)
  inject (list a e) xs = partition e (map (λ x. inject a x) xs)
  inject (enum vs) c = enum_injection (btree (count vs)) (index vs c) (payload vs c)

  pub injects : (ts : Tys) → Values ts → List SValue
  injects nil v = []
  injects (cons t ts) v = inject t v.0 ∷ injects ts v.1

  -- the variant's number, from 0
  pub index : (vs : Variants) → Choice vs → ℕ
  index (last ts) c = 0
  index (more ts vs) (inl c) = 0
  index (more ts vs) (inr c) = suc (index vs c)

  pub payload : (vs : Variants) → Choice vs → SValue
  payload (last ts) c = tuple_of (injects ts c)
  payload (more ts vs) (inl c) = tuple_of (injects ts c)
  payload (more ts vs) (inr c) = payload vs c
