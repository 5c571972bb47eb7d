use Rattle.table.specs.Hops.{hops_step}
use Rattle.table.proofs.hop.Goals as goal

pub loop-preserved : goal.loop-preserved
loop-preserved c = hops_step _ c.loop.invariant c.loop-test.true c.end-next.ensures
