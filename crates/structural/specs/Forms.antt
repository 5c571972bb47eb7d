-- The lowered type of what stands at a record, part by part (01, 'Lowered type'): a balanced tree of parts, or a list.
use Rattle.std.specs.Prelude.{◌≡◌, List, [], ◌∷◌, Bool, true, false, ℕ, zero, suc, ◌-◌, ◌≤◌, ◌<◌, length}
use Rattle.num.specs.declared.NonZeroPow2Usize.{NonZeroPow2Usize}
use Rattle.num.specs.Powers.{bound_log2}
use Rattle.model.specs.Balanced.{btree, fold}
use Rattle.model.specs.Structural.{SType, 𝟙, ◌⊕◌, ◌⊗◌, partition_type, type_records}
use Rattle.types.specs.declared.Head.{Head}
use Rattle.types.specs.declared.Rec.{Rec}
use Rattle.types.specs.declared.Rec.TheVariants.{Gone, Wrong, Enum, Variant}
use Rattle.types.specs.declared.Rec.TheVariants as rec
use Rattle.types.specs.declared.forms.Form as said
use Rattle.types.specs.declared.forms.Form.TheVariants as kind
use Rattle.types.specs.declared.forms.Parts.TheVariants as parts
use Rattle.types.specs.Forms as types
use Rattle.types.specs.Record.{rec_at}
use Rattle.types.specs.Walks.{walk}
use Rattle.types.specs.Trees.{end_of}
use Rattle.types.specs.Steps.{Given}
use Rattle.types.specs.Lows.{low}
use Rattle.structural.specs.declared.Form.{Form}
use Rattle.structural.specs.declared.Form.TheVariants as form
use Rattle.structural.specs.declared.Parts.{Parts}
use Rattle.structural.specs.declared.Parts.TheVariants.{Bits, Copies, Types, Choices}
use Rattle.structural.specs.declared.Written.{Written}
use Rattle.structural.specs.Writing.{Wrote}

-- no tree has more parts than this
abbrev pub most_parts : ℕ
most_parts = 65536

-- a buffer has room for the type
abbrev pub Room : SType → List ℕ → Type 0
Room t out = length (type_records t) ≤ length out

-- what a record's form lowers to; the tree of no parts is a unit
abbrev pub lowered_form : said.Form → Form
lowered_form kind.Nothing = form.Tree Types 0
lowered_form kind.Bit = form.Tree Bits 1
lowered_form (kind.Integer n) = form.Tree Bits n
lowered_form (kind.Product parts.Types n) = form.Tree Types n
lowered_form (kind.Product parts.Copies n) = form.Tree Copies n
lowered_form (kind.Sum n) = form.Tree Choices n
lowered_form (kind.List b) = form.List b
lowered_form (kind.Payload n) = form.Tree Types n

-- the form of what a record says
abbrev pub form_of : Head → Form
form_of h = lowered_form (types.form_of h)

-- the record is a Variant's
abbrev pub is_variant : Rec → Bool
is_variant Gone = false
is_variant Wrong = false
is_variant (rec.Types n) = false
is_variant (Enum n) = false
is_variant (Variant n) = true

-- the lowered type of what stands at a record, be it a type or a Variant
unfoldable pub standing : ℕ → List ℕ → ℕ → SType
standing d s p = low d (is_variant (rec_at s p)) s p

-- where it ends
unfoldable pub ending : ℕ → List ℕ → ℕ → ℕ
ending d s p = end_of (walk d (is_variant (rec_at s p)) s p)

-- it is one of an accepted type file s, whose table of ends is E
pub record Stands (d : ℕ) (s E : List ℕ) (p : ℕ) : Type 0 where
  pub given : Given d (is_variant (rec_at s p)) s E p

-- PARTS

-- the record that joins the two sides of a tree: 1 for a sum, 2 for a product
abbrev pub joint_of : Parts → ℕ
joint_of Bits = 2
joint_of Copies = 2
joint_of Types = 2
joint_of Choices = 1

-- the type that it makes of them
abbrev pub join : Parts → SType → SType → SType
join Bits = ◌⊗◌
join Copies = ◌⊗◌
join Types = ◌⊗◌
join Choices = ◌⊕◌

-- all parts are told by one record, and are the same
abbrev pub all_same : Parts → Bool
all_same Bits = true
all_same Copies = true
all_same Types = false
all_same Choices = false

-- the part at a record
unfoldable pub part : Parts → ℕ → List ℕ → ℕ → SType
part Bits d s p = 𝟙 ⊕ 𝟙
part Copies d s p = standing d s p
part Types d s p = standing d s p
part Choices d s p = standing d s p

-- the record of the part after it
unfoldable pub after : Parts → ℕ → List ℕ → ℕ → ℕ
after Bits d s p = p
after Copies d s p = p
after Types d s p = ending d s p
after Choices d s p = ending d s p

-- the record after n parts
unfoldable pub skip : Parts → ℕ → List ℕ → ℕ → ℕ → ℕ
skip k d s zero p = p
skip k d s (suc n) p = skip k d s n (after k d s p)

-- n parts
unfoldable pub row : Parts → ℕ → List ℕ → ℕ → ℕ → List SType
row k d s zero p = []
row k d s (suc n) p = part k d s p ∷ row k d s n (after k d s p)

-- their balanced tree
unfoldable pub balanced : Parts → ℕ → List ℕ → ℕ → ℕ → SType
balanced k d s n p = fold (join k) 𝟙 (btree n) (row k d s n p)

-- what is known of a part; nothing has to be of a bit
abbrev pub GivenPart : Parts → ℕ → List ℕ → List ℕ → ℕ → Type 0
GivenPart Bits d s E p = Unit
GivenPart Copies d s E p = Stands d s E p
GivenPart Types d s E p = Stands d s E p
GivenPart Choices d s E p = Stands d s E p

-- and of n parts
pub record GivenParts (k : Parts) (d : ℕ) (s E : List ℕ) (n p : ℕ) : Type 0 where
  pub each : (i : ℕ) → i < n → GivenPart k d s E (skip k d s i p)

-- the type was written over the front of a buffer, and the answer has its length and the record after its parts
pub record Placed (t : SType) (p : ℕ) (before after : List ℕ) (r : Written) : Type 0 where
  pub next : r.next ≡ p
  pub wrote : Wrote (type_records t) before after r.len

-- LISTS

-- a block of n parts, each of them what stands at p
unfoldable pub block_of : ℕ → List ℕ → ℕ → ℕ → SType
block_of d s n p = 𝟙 ⊕ balanced Copies d s n p

-- the list with the bound of what stands at p
unfoldable pub listed : ℕ → List ℕ → NonZeroPow2Usize → ℕ → SType
listed d s b p = partition_type (bound_log2 b.value - 1) (standing d s p)
