-- Lowering (01, 'Lowered type'; rows 6 and 7; the Rust's `From<&ResolvedType> for StructuralType`).
use Rattle.std.specs.Prelude.{Bool, true, false, ◌||◌, List, [], ◌∷◌, ltb, length, replicate}
use Rattle.model.specs.Numbers.{most_shape_records}
use Rattle.model.specs.Balanced.{btree}
use Rattle.model.specs.Structural.{SType, 𝟙, ◌⊕◌, product_of, balanced_sum, partition_type, type_records}
use Rattle.model.specs.Types.{Ty, Tys, Variants, never, bool, uint, either, option, tuple, array, list, enum, nil, cons, last, more, count}

-- a Never has no lowered type: what stands for it here is never used, since row 6 comes first
unfoldable mutual
  pub lower : Ty → SType
  lower never = 𝟙
  lower bool = 𝟙 ⊕ 𝟙
  lower (uint w) = product_of (replicate w (𝟙 ⊕ 𝟙))
  lower (either a b) = lower a ⊕ lower b
  lower (option a) = 𝟙 ⊕ lower a
  lower (tuple ts) = product_of (lowers ts)
  lower (array a n) = product_of (replicate n (lower a))
  lower (list a e) = partition_type e (lower a)
  lower (enum vs) = balanced_sum (btree (count vs)) (payloads vs)

  pub lowers : Tys → List SType
  lowers nil = []
  lowers (cons t ts) = lower t ∷ lowers ts

  -- the payload types: the empty tuple for no parts, the part itself for one, a tuple for more
  pub payloads : Variants → List SType
  payloads (last ts) = product_of (lowers ts) ∷ []
  payloads (more ts vs) = product_of (lowers ts) ∷ payloads vs

-- row 6: Never stands anywhere
unfoldable mutual
  pub has_never : Ty → Bool
  has_never never = true
  has_never bool = false
  has_never (uint w) = false
  has_never (either a b) = has_never a || has_never b
  has_never (option a) = has_never a
  has_never (tuple ts) = some_never ts
  has_never (array a n) = has_never a
  has_never (list a e) = has_never a
  has_never (enum vs) = variant_never vs

  pub some_never : Tys → Bool
  some_never nil = false
  some_never (cons t ts) = has_never t || some_never ts

  pub variant_never : Variants → Bool
  variant_never (last ts) = some_never ts
  variant_never (more ts vs) = some_never ts || variant_never vs

abbrev pub large : SType → Bool
large s = ltb most_shape_records (length (type_records s))

-- row 7: it, a type in it or a payload type lowers to over 65,536 records
unfoldable mutual
  pub over_large : Ty → Bool
  over_large never = false
  over_large bool = false
  over_large (uint w) = large (lower (uint w))
  over_large (either a b) = large (lower (either a b)) || (over_large a || over_large b)
  over_large (option a) = large (lower (option a)) || over_large a
  over_large (tuple ts) = large (lower (tuple ts)) || some_large ts
  over_large (array a n) = large (lower (array a n)) || over_large a
  over_large (list a e) = large (lower (list a e)) || over_large a
  over_large (enum vs) = large (lower (enum vs)) || variant_large vs

  pub some_large : Tys → Bool
  some_large nil = false
  some_large (cons t ts) = over_large t || some_large ts

  pub variant_large : Variants → Bool
  variant_large (last ts) = large (product_of (lowers ts)) || some_large ts
  variant_large (more ts vs) = large (product_of (lowers ts)) || (some_large ts || variant_large vs)
