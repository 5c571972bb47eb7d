-- What stands at the first record is the file's type, and `read_record` reads what stands there. Assumes nothing.
use Rattle.std.specs.Prelude.{Option}
use mathlib.Core.Path.{◌≡◌, ap, ◌∙◌}
use mathlib.Core.Bool.{false}
use mathlib.Core.List.{List}
use Prim.Native.Nat.{ℕ}
use Rattle.types.specs.Trees.{type_in}
use Rattle.types.specs.Steps.{Given}
use Rattle.rebuild.specs.declared.Read.{Read}
use Rattle.rebuild.specs.Reads.{Reader, reader, records_in, value_records}
use Rattle.rebuild.specs.Forms.{reading, standing}
use Rattle.structural.proofs.Laws.Forms.{stands}
use Rattle.rebuild.specs.Laws.Forms.{standing_is}
use Rattle.rebuild.proofs.value_records.Goals as goal

module _ {s E : List ℕ} (g : Given 32 false s E 0) (sh : List ℕ) (x : Option Read) (h : x ≡ standing (reader sh) 32 s 0 0) where
  whole : records_in x ≡ value_records (type_in s) sh
  unfolding value_records type_in reading
  whole = ap records_in (h ∙ ap (λ (r : Reader). r 0) (standing_is g (reader sh)))

pub read_record-requires-clause-stands : goal.read_record-requires-clause-stands
read_record-requires-clause-stands c = stands c.requires.given

pub returns-in_err-read : goal.returns-in_err-read
returns-in_err-read c = rw c.from_residual.ensures (whole c.requires.given _ _ c.in_err-read.ensures)

pub returns : goal.returns
returns c = whole c.requires.given _ _ c.in_ok-read.ensures
