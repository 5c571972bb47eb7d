-- The bits of a frame that a value file tells, record by record, and what the writers of a frame ask and answer (01, 'Frame').
use Rattle.std.specs.Prelude.{◌≡◌, Bool, true, false, List, [], ◌∷◌, ◌++◌, ℕ, zero, suc, ◌+◌, ◌-◌, ◌≤◌, ltb, length}
use Rattle.std.proofs.Math.Option.{Option, some}
use Rattle.num.specs.declared.NonZeroPow2Usize.{NonZeroPow2Usize}
use Rattle.model.specs.Options.{pick, map_o, bind_o}
use Rattle.model.specs.Bytes.{zeros, bytes_for, fill}
use Rattle.model.specs.Balanced.{BTree, leaf, fork, leaves, btree}
use Rattle.model.specs.Structural.{SType, SValue}
use Rattle.model.specs.Frames.{Place, after, width, bits}
use Rattle.structural.specs.Forms as structural
use Rattle.structural.specs.Writing as bytes
use Rattle.bits.specs.Bits.{Inside, Wrote}
use Rattle.types.specs.declared.forms.Parts.{Parts}
use Rattle.told.specs.Forms.{Told}
use Rattle.told.specs.Forms as told
use Rattle.told.specs.Laws.Lists.{block_told}

-- where the zeros of a sum stand
abbrev pub place : Place
place = after

-- THE BITS

-- bits, and the record after the value that they are of
abbrev pub Bits : Type 0
Bits = Option (List Bool × ℕ)

-- bits, and then those from the record after them
abbrev pub and_then : Bits → (ℕ → Bits) → Bits
and_then l r = bind_o l (λ x. map_o (λ y. (x.0 ++ y.0, y.1)) (r x.1))

-- the frame of a told shape, as one of the lowered type
unfoldable pub framed : SType → Told → Bits
framed a = map_o (λ x. (bits place a x.0, x.1))

-- of the value at record v, as one of what stands at record p
unfoldable pub frame_at : ℕ → List ℕ → List ℕ → ℕ → ℕ → Bits
frame_at d s val p v = framed (structural.standing d s p) (told.standing d s val p v)

-- of n parts one after the other
unfoldable pub row : Parts → ℕ → List ℕ → List ℕ → ℕ → ℕ → ℕ → Bits
row k d s val zero p v = some ([], v)
row k d s val (suc n) p v = and_then (frame_at d s val p v) (row k d s val n (told.after k d s p))

-- the tags that lead to leaf i of a balanced sum
unfoldable pub tags : BTree → ℕ → List Bool
tags leaf i = []
tags (fork l r) i = pick (ltb i (leaves l)) (false ∷ tags l i) (true ∷ tags r (i - leaves l))

-- of choice i of n, which stands at p, in w bits: its tags, the choice's frame, and zeros
unfoldable pub chosen : ℕ → List ℕ → List ℕ → ℕ → ℕ → ℕ → ℕ → ℕ → Bits
chosen d s val n i w p v = map_o (λ x. (tags (btree n) i ++ (x.0 ++ zeros (w - (length (tags (btree n) i) + length x.0))), x.1)) (frame_at d s val p v)

-- of a block of n with m elements, all of them or none
unfoldable pub block : ℕ → List ℕ → List ℕ → ℕ → ℕ → ℕ → ℕ → Bits
block d s val n m p v = framed (structural.block_of d s n p) (block_told d s val m p v)

-- of a list with the bound and m elements
unfoldable pub listed : ℕ → List ℕ → List ℕ → NonZeroPow2Usize → ℕ → ℕ → ℕ → Bits
listed d s val b m p v = framed (structural.listed d s b p) (told.listed d s val b m p v)

-- ASKED AND ANSWERED

-- bits are told, and they lie inside the buffer from `bit` on
pub record Fitted (o : Bits) (buf : List ℕ) (bit : ℕ) : Type 0 where
  pub frame : List Bool
  pub next : ℕ
  pub told : o ≡ some (frame, next)
  pub inside : Inside buf bit (length frame)

-- the bits that are told were written from `bit` on, up to `end`; `next` is the record after their value
pub record Framed (o : Bits) (before : List ℕ) (bit : ℕ) (after : List ℕ) (next end : ℕ) : Type 0 where
  pub frame : List Bool
  pub told : o ≡ some (frame, next)
  pub wrote : Wrote before bit frame after
  pub ends : end ≡ bit + length frame

-- tags were written from `bit` on, up to `end`
pub record Tagged (t : List Bool) (before : List ℕ) (bit : ℕ) (after : List ℕ) (end : ℕ) : Type 0 where
  pub wrote : Wrote before bit t after
  pub ends : end ≡ bit + length t

-- a shape is told, and the buffer has room for its frame's bytes
pub record Room (a : SType) (o : Told) (out : List ℕ) : Type 0 where
  pub shape : SValue
  pub next : ℕ
  pub told : o ≡ some (shape, next)
  pub room : bytes_for (width a) ≤ length out

-- the bytes of its frame were written over the front of the buffer, and r is their number
pub record Filed (a : SType) (o : Told) (before after : List ℕ) (r : ℕ) : Type 0 where
  pub shape : SValue
  pub next : ℕ
  pub told : o ≡ some (shape, next)
  pub count : r ≡ bytes_for (width a)
  pub wrote : bytes.Wrote (fill (bits place a shape)) before after r
