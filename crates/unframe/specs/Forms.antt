-- The records of the value that stands in a frame from a bit on, as one of what stands at a record of a type file, and what their writers ask and answer.
-- What is read is what the model's `reconstruct` gives of the shape that the frame says there.
use Rattle.std.specs.Prelude.{◌≡◌, true, false, List, [], ◌++◌, ℕ, zero, suc, ◌+◌, ◌-◌, ◌*◌, ◌^◌, ◌≤◌, max, length}
use Rattle.std.proofs.Math.Option.{Option, some}
use Rattle.num.specs.declared.NonZeroPow2Usize.{NonZeroPow2Usize}
use Rattle.num.specs.Powers.{bound_log2}
use Rattle.model.specs.Options.{map_o, bind_o}
use Rattle.model.specs.Balanced.{BTree, leaf, fork}
use Rattle.model.specs.ValueFiles.{Rec}
use Rattle.model.specs.Frames.{width}
use Rattle.structural.specs.Forms as structural
use Rattle.structural.specs.Writing.{Wrote}
use Rattle.types.specs.declared.forms.Parts.{Parts}
use Rattle.types.specs.declared.forms.Parts.TheVariants.{Copies}
use Rattle.told.specs.Forms.{after, hops}
use Rattle.record.specs.Marks.{written}
use Rattle.record.specs.Trees.{part, numbered}
use Rattle.accept.specs.Forms.{shape_at, tag_at}
use Rattle.unframe.specs.declared.Choice.{Choice}
use Rattle.unframe.specs.declared.Numbered.{Numbered}

-- WHAT STANDS THERE

-- as one of what stands at record p, with d levels from there on
unfoldable pub standing : ℕ → List ℕ → ℕ → List ℕ → ℕ → Option (List Rec)
standing d s p fr bit = part d s p (shape_at (structural.standing d s p) fr bit)

-- the records of one and those of others
abbrev pub both : Option (List Rec) → Option (List Rec) → Option (List Rec)
both o u = bind_o o (λ rs. map_o (λ ys. rs ++ ys) u)

-- as n parts, each as many bits behind the one before as that is wide
unfoldable pub row : Parts → ℕ → List ℕ → ℕ → ℕ → List ℕ → ℕ → Option (List Rec)
row k d s zero p fr bit = some []
row k d s (suc n) p fr bit = both (standing d s p fr bit) (row k d s n (after k d s p) fr (bit + width (structural.standing d s p)))

-- as a block of n, with how many there are: none where its tag is 0, else all
unfoldable pub block : ℕ → List ℕ → ℕ → ℕ → List ℕ → ℕ → Option (ℕ × List Rec)
block d s n p fr bit = elim (tag_at fr bit) [ false ↦ some (0, []) | true ↦ numbered n (row Copies d s n p fr (bit + 1)) ]

-- the elements of one block and those of others
abbrev pub both_numbered : Option (ℕ × List Rec) → Option (ℕ × List Rec) → Option (ℕ × List Rec)
both_numbered o u = bind_o o (λ x. map_o (λ y. (x.0 + y.0, x.1 ++ y.1)) u)

-- as a list, block by block; exponent e is for the bound 2 ^ suc e
unfoldable pub blocks : ℕ → List ℕ → ℕ → ℕ → List ℕ → ℕ → Option (ℕ × List Rec)
blocks d s zero p fr bit = block d s 1 p fr bit
blocks d s (suc e) p fr bit = both_numbered (block d s (2 ^ suc e) p fr bit) (blocks d s e p fr (bit + 1 + 2 ^ suc e * width (structural.standing d s p)))

-- as a list with the bound
unfoldable pub listed : ℕ → List ℕ → NonZeroPow2Usize → ℕ → List ℕ → ℕ → Option (ℕ × List Rec)
listed d s b p fr bit = blocks d s (bound_log2 b.value - 1) p fr bit

-- TAGS

-- the most tags that lead to a leaf
abbrev pub height : BTree → ℕ
height leaf = 0
height (fork l r) = suc (max (height l) (height r))

-- a choice of those that stand from record p on: its number, its record, and the bit at which it begins
pub record Chosen (E : List ℕ) (p : ℕ) (x : ℕ × ℕ) (r : Choice) : Type 0 where
  pub number : r.number ≡ x.0
  pub stands_at : r.at ≡ hops E x.0 p
  pub begins : r.bit ≡ x.1

-- ASKED AND ANSWERED

-- records stand there, and a buffer has room for them
pub record Ready (o : Option (List Rec)) (out : List ℕ) : Type 0 where
  pub recs : List Rec
  pub there : o ≡ some recs
  pub room : length (written recs) ≤ length out

pub record ReadyNumbered (o : Option (ℕ × List Rec)) (out : List ℕ) : Type 0 where
  pub number : ℕ
  pub recs : List Rec
  pub there : o ≡ some (number, recs)
  pub room : length (written recs) ≤ length out

-- they were written over the front of the buffer, and the answer has their length
pub record Placed (o : Option (List Rec)) (before after : List ℕ) (len : ℕ) : Type 0 where
  pub recs : List Rec
  pub there : o ≡ some recs
  pub wrote : Wrote (written recs) before after len

-- and their number
pub record PlacedNumbered (o : Option (ℕ × List Rec)) (before after : List ℕ) (r : Numbered) : Type 0 where
  pub recs : List Rec
  pub there : o ≡ some (r.number, recs)
  pub wrote : Wrote (written recs) before after r.len
