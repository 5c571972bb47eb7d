-- Eight bits are a byte, or the end of one and the beginning of the next.
use Rattle.bits.specs.Laws.Places.{byte_aligned, byte_across}
use Rattle.bits.proofs.get_byte.Goals as goal

pub returns-then-k-eq0 : goal.returns-then-k-eq0
returns-then-k-eq0 c = byte_aligned c.args.s.now c.args.at c.requires c.if-k-eq0.true

pub returns : goal.returns
returns c = byte_across c.args.s.now c.args.at c.requires (λ i. (c.type_inv.s i).fits) c.if-k-eq0.false
