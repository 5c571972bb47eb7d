-- The table's widths, as walks over frames are given them.
use Rattle.std.specs.Prelude.{◌≡◌, List, ℕ, ◌/◌, ◌≤◌, length, get_or}
use Rattle.model.specs.Frames.{width}
use Rattle.structural.specs.Forms.{Stands, standing}

-- the table has the width of what stands at each record, 32,768 bits at most
pub record Wide (s E W : List ℕ) : Type 0 where
  pub long : length s / 4 ≤ length W
  pub right : (d p : ℕ) → Stands d s E p → get_or W p 0 ≡ width (standing d s p)
  pub small : (d p : ℕ) → Stands d s E p → get_or W p 0 ≤ 32768
