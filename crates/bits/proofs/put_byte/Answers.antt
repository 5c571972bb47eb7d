-- Eight bits are a byte, or the end of one and the beginning of the next; the mask keeps the others.
use Rattle.bits.specs.Laws.Places.{wrote_aligned, wrote_across}
use Rattle.bits.proofs.put_byte.Goals as goal

pub returns-then-k-eq0 : goal.returns-then-k-eq0
returns-then-k-eq0 c = wrote_aligned c.args.buf.now c.args.at c.requires c.args.v c.if-k-eq0.true

pub returns : goal.returns
returns c = wrote_across c.args.buf.now c.args.at c.requires c.args.v c.ranges.v.fits c.if-k-eq0.false
