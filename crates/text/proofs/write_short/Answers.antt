-- The name and the number are written, and a newline behind them. Assumes nothing.
use native.Mathlib.Omega.{arith}
use Rattle.text.proofs.Laws.Pieces.{first_room, byte_fits, byte_more}
use Rattle.text.proofs.Laws.Lines.{short_end}
use Rattle.text.proofs.write_short.Goals as goal

pub write_heading-k-requires : goal.write_heading-k-requires
write_heading-k-requires c = first_room (short_end _ _ c.args.out.now c.requires)

pub bounds-out-k : goal.bounds-out-k
bounds-out-k c = byte_fits (short_end _ _ _ c.requires) c.write_heading-k.ensures

pub overflow_add-result : goal.overflow_add-result
overflow_add-result c = let g = c.well_formed in let l = byte_fits (short_end _ _ _ c.requires) c.write_heading-k.ensures in omega arith

pub returns : goal.returns
returns c = byte_more (short_end _ _ _ c.requires) c.write_heading-k.ensures
