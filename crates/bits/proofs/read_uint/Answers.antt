-- Zeros and then the bits are all 256 bits, and bytes are told by their bits.
use Rattle.bits.specs.Laws.Runs.{length_bits_at}
use Rattle.bits.specs.Laws.Integers.{integer_wrote}
use Rattle.bits.proofs.read_uint.Goals as goal

pub returns : goal.returns
returns c = integer_wrote 32 c.args.w c.write_zeros.ensures c.copy_bits.ensures c.requires.2
    (length_bits_at c.args.s.now c.args.at c.args.w c.requires.0.0) c.requires.1 (λ i. (c.type_inv.int i).fits)
