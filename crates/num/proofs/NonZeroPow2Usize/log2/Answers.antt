-- A bound's logarithm is the k with 2 ^ k <= bound < 2 ^ (k + 1).
use Rattle.num.specs.Laws.{log2_is}
use Rattle.num.proofs.NonZeroPow2Usize.log2.Goals as goal

pub returns : goal.returns
returns c = log2_is c.args.self _ c.ilog2.ensures.power_le c.ilog2.ensures.next_power_gt
