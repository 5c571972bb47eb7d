-- The bit at `at` is bit at % 8 of byte at / 8.
use mathlib.Core.Path.{sym}
use Rattle.bits.specs.Laws.Places.{bit_at}
use Rattle.bits.proofs.get_bit.Goals as goal

pub returns : goal.returns
returns c = sym (bit_at c.args.s.now c.args.at c.requires)
