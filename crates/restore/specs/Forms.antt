-- The records of the value that stands at a place of a shape file, as one of the type at a record of a type file, and the place after it.
-- What is read is what the model's `reconstruct` gives of the tree that stands there.
use Rattle.std.specs.Prelude.{◌≡◌, Bool, List, ℕ, ◌+◌, ◌≤◌, length, drop, eqb}
use Rattle.std.proofs.Math.Option.{Option, some}
use Rattle.model.specs.Options.{pick, map_o, bind_o}
use Rattle.model.specs.Bytes.{of_bits, in_bytes}
use Rattle.model.specs.Structural.{SValue, shape_records}
use Rattle.model.specs.ShapeFiles.{read_shape}
use Rattle.model.specs.ValueFiles.{Rec}
use Rattle.structural.specs.Writing.{Wrote}
use Rattle.structural.specs.declared.Written.{Written}
use Rattle.bits.specs.Bits as bits
use Rattle.record.specs.Marks.{written}
use Rattle.record.specs.Trees.{part}

-- THE TREES OF A SHAPE FILE

-- what is read at a place, and the place after it
abbrev pub Given : Type 0 → Type 0
Given A = Option (A × ℕ)

-- the tree that stands at place q
unfoldable pub tree_at : List ℕ → ℕ → Given SValue
tree_at sh q = map_o (λ x. (x.0, q + length (shape_records x.0))) (read_shape (length sh) (drop q sh))

-- what f makes of it
unfoldable pub made_at : {A : Type 0} → List ℕ → (SValue → Option A) → ℕ → Given A
made_at sh f q = bind_o (tree_at sh q) (λ x. map_o (λ a. (a, x.1)) (f x.0))

-- its records, as one of what stands at record p of a type file with d levels from there on
unfoldable pub standing : List ℕ → ℕ → List ℕ → ℕ → ℕ → Given (List Rec)
standing sh d s p q = made_at sh (part d s p) q

-- LISTS

-- how many elements a block of n holds, by its side: none with a left, else all
unfoldable pub held : ℕ → ℕ → ℕ
held side n = pick (eqb side 1) 0 n

-- WHAT THE CONTRACTS SAY

-- something stands there
pub record Found {A : Type 0} (g : Given A) : Type 0 where
  pub what : A
  pub end : ℕ
  pub there : g ≡ some (what, end)

-- and this is the place after it
pub record Ends {A : Type 0} (g : Given A) (next : ℕ) : Type 0 where
  pub what : A
  pub there : g ≡ some (what, next)

-- records stand there, and a buffer has room for them
pub record Ready (g : Given (List Rec)) (out : List ℕ) : Type 0 where
  pub recs : List Rec
  pub end : ℕ
  pub there : g ≡ some (recs, end)
  pub room : length (written recs) ≤ length out

pub record ReadyNumbered (g : Given (ℕ × List Rec)) (out : List ℕ) : Type 0 where
  pub number : ℕ
  pub recs : List Rec
  pub end : ℕ
  pub there : g ≡ some ((number, recs), end)
  pub room : length (written recs) ≤ length out

-- they were written over the front of the buffer, and the answer has the place after them and their length
pub record Placed (g : Given (List Rec)) (before after : List ℕ) (r : Written) : Type 0 where
  pub recs : List Rec
  pub there : g ≡ some (recs, r.next)
  pub wrote : Wrote (written recs) before after r.len

-- of which the length alone is told
pub record Whole (g : Given (List Rec)) (before after : List ℕ) (len : ℕ) : Type 0 where
  pub recs : List Rec
  pub end : ℕ
  pub there : g ≡ some (recs, end)
  pub wrote : Wrote (written recs) before after len

-- and the number, from i on
pub record PlacedNumbered (g : Given (ℕ × List Rec)) (i : ℕ) (before after : List ℕ) (n : ℕ) (r : Written) : Type 0 where
  pub number : ℕ
  pub recs : List Rec
  pub there : g ≡ some ((number, recs), r.next)
  pub counted : n ≡ i + number
  pub wrote : Wrote (written recs) before after r.len

-- bits stand there, and were put at bit j of an integer's bytes
pub record BitsPlaced (g : Given (List Bool)) (before : List ℕ) (j : ℕ) (after : List ℕ) (next : ℕ) : Type 0 where
  pub bools : List Bool
  pub there : g ≡ some (bools, next)
  pub wrote : bits.Wrote before j bools after

-- the integer that they say stands in its bytes
pub record IntegerPlaced (g : Given (List Bool)) (after : List ℕ) (next : ℕ) : Type 0 where
  pub bools : List Bool
  pub there : g ≡ some (bools, next)
  pub same : after ≡ in_bytes 32 (of_bits bools)
