-- What stands at the first record is the file's type, and `copy_record` copies what stands there. Assumes nothing.
use mathlib.Core.Path.{◌≡◌, sym, ap}
use mathlib.Core.Bool.{false}
use mathlib.Core.List.{List}
use Prim.Native.Nat.{ℕ}
use Rattle.types.specs.Trees.{type_in}
use Rattle.types.specs.Steps.{Given}
use Rattle.structural.proofs.Laws.Forms.{stands}
use Rattle.shape.specs.Laws.Writing.{ready_as, placed_as}
use Rattle.rebuild.specs.Forms.{reading, standing}
use Rattle.rebuild.specs.Laws.Forms.{standing_is}
use Rattle.shape_clean.specs.Copies.{Copier, copier, copies}
use Rattle.shape_clean.proofs.write_cleaned.Goals as goal

whole : {s E : List ℕ} (sh : List ℕ) → Given 32 false s E 0 → copies sh (type_in s) ≡ standing (copier sh) 32 s 0 0
unfolding copies type_in reading
whole sh g = sym (ap (λ (r : Copier). r 0) (standing_is g (copier sh)))

pub copy_record-requires : goal.copy_record-requires
copy_record-requires c = record { stands = stands c.requires.given; ready = ready_as (whole _ c.requires.given) c.requires.ready }

pub returns : goal.returns
returns c = record { next = _; placed = placed_as (whole _ c.requires.given) c.copy_record.ensures }
