-- Types: the tree of the ten kinds (01, 'Type file'; the Rust's ResolvedType). Names of enums and variants are not carried.
use Rattle.std.specs.Prelude.{ℕ, suc}

mutual
  pub data Ty : Type 0 where
    never bool : Ty
    -- bits
    uint : ℕ → Ty
    either : Ty → Ty → Ty
    option : Ty → Ty
    tuple : Tys → Ty
    -- size
    array : Ty → ℕ → Ty
    -- exponent e, for the bound 2 ^ suc e
    list : Ty → ℕ → Ty
    enum : Variants → Ty

  -- the types in a Tuple or a Variant
  pub data Tys : Type 0 where
    nil : Tys
    cons : Ty → Tys → Tys

  -- the Variants of an Enum, at least one
  pub data Variants : Type 0 where
    last : Tys → Variants
    more : Tys → Variants → Variants

abbrev pub size : Tys → ℕ
size nil = 0
size (cons t ts) = suc (size ts)

abbrev pub count : Variants → ℕ
count (last ts) = 1
count (more ts vs) = suc (count vs)
