-- Structural types and values: Simplicity's unit, sums and products (the Rust's StructuralType and StructuralValue).
-- 01 calls a structural type a lowered type, and a structural value a shape.
use Rattle.std.specs.Prelude.{List, [], ◌∷◌, ◌++◌, ℕ, zero, suc, ◌-◌, ◌^◌, ltb, length, take, drop, replicate}
use Rattle.model.specs.Options.{pick}
use Rattle.model.specs.Balanced.{BTree, leaf, fork, leaves, btree, fold}

infixr 40 ◌⊕◌
infixr 50 ◌⊗◌
pub data SType : Type 0 where
  𝟙 : SType
  ◌⊕◌ ◌⊗◌ : SType → SType → SType

pub data SValue : Type 0 where
  unit : SValue
  left right : SValue → SValue
  pair : SValue → SValue → SValue

-- a shape is one of the type (the Rust's `is_of_type`)
pub data Belongs : SType → SValue → Type 0 where
  is_unit : Belongs 𝟙 unit
  is_left : {a b : SType} {s : SValue} → Belongs a s → Belongs (a ⊕ b) (left s)
  is_right : {a b : SType} {s : SValue} → Belongs b s → Belongs (a ⊕ b) (right s)
  is_pair : {a b : SType} {s t : SValue} → Belongs a s → Belongs b t → Belongs (a ⊗ b) (pair s t)

-- LOWERED TYPES AND SHAPES AS FILES, one byte a record, parent first

unfoldable pub type_records : SType → List ℕ
type_records 𝟙 = 0 ∷ []
type_records (a ⊕ b) = 1 ∷ type_records a ++ type_records b
type_records (a ⊗ b) = 2 ∷ type_records a ++ type_records b

unfoldable pub shape_records : SValue → List ℕ
shape_records unit = 0 ∷ []
shape_records (left s) = 1 ∷ shape_records s
shape_records (right s) = 2 ∷ shape_records s
shape_records (pair s t) = 3 ∷ shape_records s ++ shape_records t

-- BALANCED PRODUCTS AND SUMS

abbrev pub product : BTree → List SType → SType
product t = fold ◌⊗◌ 𝟙 t

abbrev pub tuple : BTree → List SValue → SValue
tuple t = fold pair unit t

abbrev pub balanced_sum : BTree → List SType → SType
balanced_sum t = fold ◌⊕◌ 𝟙 t

-- a tuple of any number of parts, unit for none
abbrev pub product_of : List SType → SType
product_of ts = product (btree (length ts)) ts

abbrev pub tuple_of : List SValue → SValue
tuple_of ss = tuple (btree (length ss)) ss

-- leaf i of a balanced sum
unfoldable pub enum_injection : BTree → ℕ → SValue → SValue
enum_injection leaf i s = s
enum_injection (fork l r) i s = pick (ltb i (leaves l)) (left (enum_injection l i s)) (right (enum_injection r (i - leaves l) s))

-- LISTS (the Rust's Partition): blocks of powers of two, the largest first. Exponent e is for the bound 2 ^ suc e.

-- a block of n: Option of an array of n
abbrev pub block_type : ℕ → SType → SType
block_type n t = 𝟙 ⊕ product_of (replicate n t)

-- a block with these elements: none or all that it takes
abbrev pub block : List SValue → SValue
block [] = left unit
block (s ∷ ss) = right (tuple_of (s ∷ ss))

unfoldable pub partition_type : ℕ → SType → SType
partition_type zero t = block_type 1 t
partition_type (suc e) t = block_type (2 ^ suc e) t ⊗ partition_type e t

-- the largest block is full if enough elements remain for it
unfoldable pub partition : ℕ → List SValue → SValue
partition zero xs = block xs
partition (suc e) xs =
    pick (ltb (length xs) (2 ^ suc e))
    (pair (block []) (partition e xs))
    (pair (block (take (2 ^ suc e) xs)) (partition e (drop (2 ^ suc e) xs)))
