-- What the walk that counts the most records of a shape says of what stands at a record, and of a tree of parts.
use Rattle.std.specs.Prelude.{◌≡◌, ℕ, suc, ◌+◌, ◌≤◌, max}
use Rattle.model.specs.Numbers.{most_shape_records}
use Rattle.model.specs.Structural.{SType}
use Rattle.model.specs.Room.{longest_shape}
use Rattle.model.proofs.Laws.Sizes.{nodes}
use Rattle.structural.specs.declared.Parts.{Parts}
use Rattle.structural.specs.declared.Parts.TheVariants.{Bits, Copies, Types, Choices}
use Rattle.room.specs.declared.Longest.{Longest}

-- no more records than row 7 allows
abbrev pub Small : SType → Type 0
Small t = nodes t ≤ most_shape_records

-- the most records of two sides that are joined, from theirs
abbrev pub joined : Parts → ℕ → ℕ → ℕ
joined Bits a b = suc (a + b)
joined Copies a b = suc (a + b)
joined Types a b = suc (a + b)
joined Choices a b = suc (max a b)

-- the answer has the most records of a shape of the type, and the record after its parts
pub record Counted (t : SType) (p : ℕ) (r : Longest) : Type 0 where
  pub next : r.next ≡ p
  pub most : r.most ≡ longest_shape t
