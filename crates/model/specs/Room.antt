-- R-1 of 02: the room that a type takes, known before a value is made.
use Rattle.std.specs.Prelude.{ℕ, suc, ◌+◌, max}
use Rattle.model.specs.Structural.{SType, 𝟙, ◌⊕◌, ◌⊗◌}

-- the most records that a shape of the type has: one for a unit, one and the longer side for a sum, one and both sides for a product
abbrev pub longest_shape : SType → ℕ
longest_shape 𝟙 = 1
longest_shape (a ⊕ b) = suc (max (longest_shape a) (longest_shape b))
longest_shape (a ⊗ b) = suc (longest_shape a + longest_shape b)

-- what is told of a type alone
pub record TypeRoom : Type 0 where
  -- the records of the lowered type
  pub lowered : ℕ
  -- the bits of a frame
  pub bits : ℕ
  -- the most records of a shape
  pub shape : ℕ
