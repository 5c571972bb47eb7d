-- Zeros and then the bits are all 256 bits, and bytes are told by their bits. Assumes nothing.
use Rattle.bits.specs.Laws.Integers.{integer_wrote}
use Rattle.restore.specs.Laws.Splits.{length_bit_row}
use Rattle.restore.proofs.write_integer.Goals as goal

pub returns : goal.returns
returns c = let v = c.write_bits.ensures in
    record {
      bools = v.bools;
      there = v.there;
      same = integer_wrote 32 c.args.w c.write_zeros.ensures v.wrote c.requires.le_w.2 (length_bit_row c.args.shape.now c.args.w c.args.q v.bools _ v.there) c.requires.le_w.1 (λ i. (c.type_inv.int i).fits);
    }
