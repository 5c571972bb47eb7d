-- The record's 36 bytes are lent, and the bit is read in them. Assumes nothing.
use Rattle.shape.specs.Laws.Bits.{tag_right, tag_left}
use Rattle.shape.proofs.tag.Goals as goal

pub returns-then-get_bit : goal.returns-then-get_bit
returns-then-get_bit c = tag_right _ _ _ _ c.get_bit.ensures c.if-get_bit.true

pub returns-else-get_bit : goal.returns-else-get_bit
returns-else-get_bit c = tag_left _ _ _ _ c.get_bit.ensures c.if-get_bit.false
