use Rattle.std.proofs.Common.{arith}
use Rattle.text.specs.Lines.{digit}
use Rattle.text.proofs.Laws.Contents.{digits_start, next_fits, one_passed, digits_passed}
use Rattle.text.proofs.write_digits.Goals as goal

pub loop-i-init : goal.loop-i-init
loop-i-init c = digits_start _ _ c.requires

pub bounds-out-i : goal.bounds-out-i
bounds-out-i c = let f = next_fits c.loop-i.invariant c.loop-i-test.true in omega arith

pub loop-i-preserved : goal.loop-i-preserved
unfolding digit
loop-i-preserved c = one_passed {f = digit} c.loop-i.invariant c.loop-i-test.true

pub returns : goal.returns
returns c = digits_passed c.loop-i.invariant c.loop-i-test.false
