-- One byte changes, by a mask of one bit, and the slice changes where the byte does.
use Rattle.bits.specs.Laws.Places.{wrote_on, wrote_off}
use Rattle.bits.proofs.set_bit.Goals as goal

pub returns-then-bit : goal.returns-then-bit
returns-then-bit c = rw c.if-bit.true (wrote_on c.args.buf.now c.args.at c.requires)

pub returns-else-bit : goal.returns-else-bit
returns-else-bit c = rw c.if-bit.false (wrote_off c.args.buf.now c.args.at c.requires)
