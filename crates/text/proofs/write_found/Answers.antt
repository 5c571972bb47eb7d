-- The line of an index is short. Assumes nothing.
use native.Mathlib.Omega.{arith}
use Rattle.text.specs.Lines.{found_line}
use Rattle.text.proofs.Laws.Sizes.{found_short}
use Rattle.text.proofs.write_found.Goals as goal

pub write_short-requires : goal.write_short-requires
unfolding found_line
write_short-requires c = omega (arith, found_short c.args.i c.ranges.i.fits, c.requires)

pub returns : goal.returns
unfolding found_line
returns c = c.write_short.ensures
