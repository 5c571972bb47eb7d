-- Three bytes are written, one behind the other, and a sum of two units is three records. Assumes nothing.
use native.Mathlib.Omega.{arith}
use Rattle.model.specs.Structural.{type_records}
use Rattle.structural.proofs.Laws.Writing.{wrote_none, wrote_set}
use Rattle.structural.proofs.write_bit.Goals as goal

pub returns : goal.returns
unfolding type_records
returns c = wrote_set (wrote_set (wrote_set (wrote_none _) 1 (omega arith)) 0 (omega arith)) 0 (omega arith)
