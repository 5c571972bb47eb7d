-- Cleaning a shape file in lock step with a type (02, R-6), over places: each copier tells the shape that it makes of what stands at a place
-- and the place after it, or that it cannot be read. All is copied, but a unit is made of any tree at a spot.
use Rattle.std.specs.Prelude.{List, ℕ}
use Rattle.std.proofs.Math.Option.{none, some}
use Rattle.model.specs.Structural.{unit, left, right}
use Rattle.model.specs.Types.{Ty}
use Rattle.told.specs.Forms.{Told}
use Rattle.told.specs.Laws.Trees.{joined}
use Rattle.told.specs.Laws.Lists.{tagged}
use Rattle.rebuild.specs.Kinds.{Readers, reads}
use Rattle.rebuild.specs.Places.{Answers, at_places}

abbrev pub Copier : Type 0
Copier = ℕ → Told

-- what they answer: of a tree that is not looked into a unit, and the place after the tree
unfoldable pub copied : Answers Told
copied = record { nothing = none; unit = λ e. some (unit, e); lefts = tagged left; rights = tagged right; pairs = joined; tree = λ p e. some (unit, e); one = λ t. t }

-- the readers that copy
unfoldable pub copier : List ℕ → Readers Copier
copier s = at_places copied s

-- the cleaned shape of a shape file
unfoldable pub copies : List ℕ → Ty → Told
copies s t = reads (copier s) t 0
