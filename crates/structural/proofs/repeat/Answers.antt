use mathlib.Core.Path.{◌≡◌}
use native.Mathlib.Omega.{arith}
use Rattle.structural.proofs.Laws.Writing.{repeated_none, repeated_length, repeated_next}
use Rattle.structural.proofs.repeat.Goals as goal

pub loop-i-init : goal.loop-i-init
loop-i-init c = (omega arith, repeated_none _ _ (omega arith))

pub bounds-out-i : goal.bounds-out-i
bounds-out-i c = let t = c.loop-i.invariant in omega (arith, repeated_length c.requires t.1 t.0)

pub overflow_add-out : goal.overflow_add-out
overflow_add-out c = omega arith

pub bounds-out-len : goal.bounds-out-len
bounds-out-len c = let t = c.loop-i.invariant in omega (arith, repeated_length c.requires t.1 t.0)

pub loop-i-preserved : goal.loop-i-preserved
loop-i-preserved c = (omega arith, repeated_next c.requires c.loop-i.invariant.1 c.loop-i-test.true)

pub overflow_add-result : goal.overflow_add-result
overflow_add-result c = omega arith

pub shape_of-out : goal.shape_of-out
shape_of-out c = let t = c.loop-i.invariant in repeated_length c.requires t.1 t.0

pub returns : goal.returns
returns c = let t = c.loop-i.invariant in
    let e : c.loop-i.i ≡ c.args.len = omega arith in
    rw e at t.1
