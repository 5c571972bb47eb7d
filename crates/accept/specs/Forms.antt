-- What stands in a frame from a bit on, as one of a lowered type: its shape, and whether a padding bit beside it is 1.
use Rattle.std.specs.Prelude.{Bool, true, false, ◌||◌, List, [], ◌∷◌, ◌++◌, ℕ, zero, suc, ◌+◌, ◌-◌, ◌*◌, ◌^◌, length, get_or, replicate}
use Rattle.std.proofs.Math.Option.{Option, none, some}
use Rattle.num.specs.declared.NonZeroPow2Usize.{NonZeroPow2Usize}
use Rattle.num.specs.Powers.{bound_log2}
use Rattle.model.specs.Options.{map_o, bind_o, any}
use Rattle.model.specs.Bytes.{bits_of}
use Rattle.model.specs.Balanced.{BTree, leaf, fork, leaves, btree}
use Rattle.model.specs.Structural.{SType, SValue, product_of, block_type}
use Rattle.model.specs.Frames.{Place, width, from_bits, padding}
use Rattle.model.specs.Frames as frames
use Rattle.structural.specs.Forms.{standing}
use Rattle.bits.specs.Bits.{bits_at}
use Rattle.types.specs.declared.forms.Parts.{Parts}
use Rattle.types.specs.declared.forms.Parts.TheVariants.{Copies}
use Rattle.told.specs.Forms.{after, hops}
use Rattle.record.specs.Trees.{part}

-- where the padding of a sum stands
abbrev pub place : Place
place = frames.after

-- the shape that the tags say
unfoldable pub shape_at : SType → List ℕ → ℕ → SValue
shape_at a fr bit = from_bits place a (bits_at fr bit (width a))

-- a padding bit beside what it takes is 1
unfoldable pub stray_at : SType → List ℕ → ℕ → Bool
stray_at a fr bit = any (padding place a (bits_at fr bit (width a)))

-- the bit at a place; 0 behind the last
abbrev pub tag_at : List ℕ → ℕ → Bool
tag_at fr bit = get_or (bits_of fr) bit false

-- ONE BEHIND THE OTHER

-- the shapes of types, each as many bits behind the one before as that is wide
abbrev pub shapes_at : List SType → List ℕ → ℕ → List SValue
shapes_at [] fr bit = []
shapes_at (t ∷ ts) fr bit = shape_at t fr bit ∷ shapes_at ts fr (bit + width t)

-- one of them strays
abbrev pub strays_at : List SType → List ℕ → ℕ → Bool
strays_at [] fr bit = false
strays_at (t ∷ ts) fr bit = stray_at t fr bit || strays_at ts fr (bit + width t)

-- CHOICES

-- the number that a tag's other side has behind so many on its left
abbrev pub farther : ℕ → ℕ × ℕ → ℕ × ℕ
farther n x = (n + x.0, x.1)

-- the leaf of a balanced sum that the tags from a bit on lead to, and the bit after the tags
unfoldable pub led : BTree → List ℕ → ℕ → ℕ × ℕ
led leaf fr bit = (0, bit)
led (fork l r) fr bit = elim (tag_at fr bit) [ false ↦ led l fr (bit + 1) | true ↦ farther (leaves l) (led r fr (bit + 1)) ]

-- which of n choices, and where its payload begins
unfoldable pub choice_in : ℕ → List ℕ → ℕ → ℕ × ℕ
choice_in n fr bit = led (btree n) fr bit

-- LISTS

-- the elements of a block of n: none where its tag is 0, else all
unfoldable pub block_at : ℕ → SType → List ℕ → ℕ → List SValue
block_at n t fr bit = elim (tag_at fr bit) [ false ↦ [] | true ↦ shapes_at (replicate n t) fr (bit + 1) ]

-- a missing block's bits must be zeros, and an element must not stray
unfoldable pub block_stray : ℕ → SType → List ℕ → ℕ → Bool
block_stray n t fr bit = elim (tag_at fr bit) [ false ↦ any (bits_at fr (bit + 1) (width (product_of (replicate n t)))) | true ↦ strays_at (replicate n t) fr (bit + 1) ]

-- the elements of a list, block by block; exponent e is for the bound 2 ^ suc e
unfoldable pub elements_at : ℕ → SType → List ℕ → ℕ → List SValue
elements_at zero t fr bit = block_at 1 t fr bit
elements_at (suc e) t fr bit = block_at (2 ^ suc e) t fr bit ++ elements_at e t fr (bit + width (block_type (2 ^ suc e) t))

unfoldable pub list_stray : ℕ → SType → List ℕ → ℕ → Bool
list_stray zero t fr bit = block_stray 1 t fr bit
list_stray (suc e) t fr bit = block_stray (2 ^ suc e) t fr bit || list_stray e t fr (bit + width (block_type (2 ^ suc e) t))

-- WHAT IS SEEN: how many records the value has, or nothing where a padding bit is 1 or there is no value

-- nothing, if the test holds
abbrev pub unless : {A : Type 0} → Bool → Option A → Option A
unless true o = none
unless false o = o

-- the sum of both
abbrev pub plus : Option ℕ → Option ℕ → Option ℕ
plus a b = bind_o a (λ n. map_o (λ m. n + m) b)

-- as one of what stands at record p, with d levels from there on
unfoldable pub seen : ℕ → List ℕ → ℕ → List ℕ → ℕ → Option ℕ
seen d s p fr bit = unless (stray_at (standing d s p) fr bit) (map_o length (part d s p (shape_at (standing d s p) fr bit)))

-- the lowered types of n parts from record p on
unfoldable pub types_in : Parts → ℕ → List ℕ → ℕ → ℕ → List SType
types_in k d s zero p = []
types_in k d s (suc n) p = standing d s p ∷ types_in k d s n (after k d s p)

-- the bits that they take
unfoldable pub row_width : Parts → ℕ → List ℕ → ℕ → ℕ → ℕ
row_width k d s zero p = 0
row_width k d s (suc n) p = width (standing d s p) + row_width k d s n (after k d s p)

-- as n parts
unfoldable pub seen_row : Parts → ℕ → List ℕ → ℕ → ℕ → List ℕ → ℕ → Option ℕ
seen_row k d s zero p fr bit = some 0
seen_row k d s (suc n) p fr bit = plus (seen d s p fr bit) (seen_row k d s n (after k d s p) fr (bit + width (standing d s p)))

-- of a choice at record p whose payload begins at a bit, and which is padded up to another
unfoldable pub seen_choice : ℕ → List ℕ → ℕ → List ℕ → ℕ → ℕ → Option ℕ
seen_choice d s p fr bit end =
    let last = bit + width (standing d s p) in
    unless (any (bits_at fr last (end - last))) (seen d s p fr bit)

-- as one of the n choices that stand from record p on, padded up to a bit
unfoldable pub seen_sum : ℕ → List ℕ → List ℕ → ℕ → ℕ → List ℕ → ℕ → ℕ → Option ℕ
seen_sum d s E n p fr bit end =
    let x = choice_in n fr bit in
    seen_choice d s (hops E x.0 p) fr x.1 end

-- as a block of n of what stands at record p
unfoldable pub seen_block : ℕ → List ℕ → ℕ → ℕ → List ℕ → ℕ → Option ℕ
seen_block d s n p fr bit = elim (tag_at fr bit) [ false ↦ unless (any (bits_at fr (bit + 1) (n * width (standing d s p)))) (some 0) | true ↦ seen_row Copies d s n p fr (bit + 1) ]

-- as a list of it; exponent e is for the bound 2 ^ suc e
unfoldable pub seen_blocks : ℕ → List ℕ → ℕ → ℕ → List ℕ → ℕ → Option ℕ
seen_blocks d s zero p fr bit = seen_block d s 1 p fr bit
seen_blocks d s (suc e) p fr bit = plus (seen_block d s (2 ^ suc e) p fr bit) (seen_blocks d s e p fr (bit + 1 + 2 ^ suc e * width (standing d s p)))

unfoldable pub seen_list : ℕ → List ℕ → NonZeroPow2Usize → ℕ → List ℕ → ℕ → Option ℕ
seen_list d s b p fr bit = seen_blocks d s (bound_log2 b.value - 1) p fr bit
