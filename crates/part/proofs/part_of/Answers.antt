use native.Mathlib.Omega.{arith}
use mathlib.Core.Path.{refl}
use Rattle.part.specs.Laws.Asked.{passing_start, passing_inside, passing_fits, passing_next, passing_end, among_none}
use Rattle.part.proofs.part_of.Goals as goal

pub returns-then-n-i : goal.returns-then-n-i
returns-then-n-i c = among_none _ _ _ _ _ _ _ c.if-n-i.true

pub loop-init : goal.loop-init
loop-init c = (passing_start c.requires c.if-n-i.false, refl)

pub width-requires : goal.width-requires
width-requires c = (passing_inside c.loop.invariant.0 c.loop-test.true).1

pub overflow_add-here : goal.overflow_add-here
overflow_add-here c = let l = passing_fits c.loop.invariant.0 c.loop-test.true in omega (arith, c.width.ensures)

pub end-requires : goal.end-requires
end-requires c = (passing_inside c.loop.invariant.0 c.loop-test.true).0

pub loop-preserved : goal.loop-preserved
loop-preserved c = (rw (c.width.ensures, c.end.ensures) (passing_next c.loop.invariant.0 c.loop-test.true), c.loop.invariant.1)

pub returns : goal.returns
returns c = rw c.loop.invariant.1 (passing_end c.loop.invariant.0 c.args.first.level c.if-n-i.false c.loop-test.false)
