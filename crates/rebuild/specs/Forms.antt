-- What is read at a record of a type file, part by part: a balanced product or sum of parts, or a list.
use Rattle.std.specs.Prelude.{List, [], ◌∷◌, Bool, true, false, ℕ, zero, suc, ◌-◌, ◌≤◌, ◌<◌, length, replicate, Option, Some, None}
use Rattle.num.specs.declared.NonZeroPow2Usize.{NonZeroPow2Usize}
use Rattle.num.specs.Powers.{bound_log2}
use Rattle.model.specs.Types.{size}
use Rattle.types.specs.declared.forms.Parts.{Parts}
use Rattle.types.specs.declared.forms.Parts.TheVariants.{Copies, Types}
use Rattle.types.specs.Record.{rec_at}
use Rattle.types.specs.Trees.{tree, treev}
use Rattle.structural.specs.Forms.{is_variant, Stands}
use Rattle.told.specs.Forms.{hops, Hops}
use Rattle.rebuild.specs.declared.Read.{Read}
use Rattle.rebuild.specs.Kinds.{Readers, bits, products, choices, blocks, lists, reads, readers}

-- no value read has more records than this: 33 for each of the shape's
abbrev pub most_records : ℕ
most_records = 2162688

-- the shape and the levels are as small as rows 8 and 4 say
pub record Limits (sh : List ℕ) (d : ℕ) : Type 0 where
  pub short : length sh ≤ 65536
  pub low : d ≤ 32

abbrev pub count_of : Option Read → ℕ
count_of (Some r) = r.records
count_of None = 0

abbrev pub surplus_of : Option Read → ℕ
surplus_of (Some r) = r.surplus
surplus_of None = 0

-- so many records of the value, and so much surplus, are no more than that
pub record Few (n k : ℕ) : Type 0 where
  pub records : n ≤ most_records
  pub surplus : k ≤ most_records

-- PARTS

-- the record after n parts
abbrev pub skip : Parts → List ℕ → ℕ → ℕ → ℕ
skip Copies E n p = p
skip Types E n p = hops E n p

-- and those before it stand in the table
abbrev pub Hopped : Parts → List ℕ → ℕ → ℕ → Type 0
Hopped Copies E n p = Unit
Hopped Types E n p = Hops E n p

-- what is known of n parts
pub record GivenParts (k : Parts) (d : ℕ) (s E : List ℕ) (n p : ℕ) : Type 0 where
  pub each : (i : ℕ) → i < n → Stands d s E (skip k E i p)

module _ {A : Type 0} (W : Readers A) where
  -- v: a Variant stands here
  unfoldable pub reading : ℕ → Bool → List ℕ → ℕ → A
  reading d false s p = reads W (tree d s p)
  reading d true s p = products W (size (treev d s p)) (readers W (treev d s p))

  -- what stands at a record, be it a type or a Variant
  unfoldable pub standing : ℕ → List ℕ → ℕ → A
  standing d s p = reading d (is_variant (rec_at s p)) s p

  -- the balanced product of n bits
  unfoldable pub bits_of : ℕ → A
  bits_of n = products W n (replicate n (bits W))

  -- n parts
  unfoldable pub row : Parts → ℕ → List ℕ → List ℕ → ℕ → ℕ → List A
  row k d s E zero p = []
  row k d s E (suc n) p = standing d s p ∷ row k d s E n (skip k E 1 p)

  -- their balanced product
  unfoldable pub balanced : Parts → ℕ → List ℕ → List ℕ → ℕ → ℕ → A
  balanced k d s E n p = products W n (row k d s E n p)

  -- the balanced sum of n records in a row
  unfoldable pub chosen : ℕ → List ℕ → List ℕ → ℕ → ℕ → A
  chosen d s E n p = choices W n (row Types d s E n p)

  -- a block of n, each of them what stands at p
  unfoldable pub block_of : ℕ → List ℕ → ℕ → ℕ → A
  block_of d s n p = blocks W n (standing d s p)

  -- the list with the bound of what stands at p
  unfoldable pub listed : ℕ → List ℕ → NonZeroPow2Usize → ℕ → A
  listed d s b p = lists W (bound_log2 b.value - 1) (standing d s p)
