use Rattle.std.proofs.Common.{arith, length-set}
use Rattle.text.proofs.Laws.Contents.{hexes_start, hex_fits, hex_passed, hexes_passed}
use Rattle.text.proofs.write_hex.Goals as goal

pub loop-i-init : goal.loop-i-init
loop-i-init c = hexes_start _ _ c.requires

pub bounds-out-i : goal.bounds-out-i
bounds-out-i c = let f = hex_fits c.loop-i.invariant c.loop-i-test.true in omega arith

pub bounds-out-i-in-loop-i : goal.bounds-out-i-in-loop-i
bounds-out-i-in-loop-i c = let f = hex_fits c.loop-i.invariant c.loop-i-test.true in simp length-set (omega arith)

pub loop-i-preserved : goal.loop-i-preserved
loop-i-preserved c = hex_passed c.loop-i.invariant c.loop-i-test.true c.hex_digit.ensures c.hex_digit-in-loop-i.ensures

pub returns : goal.returns
returns c = hexes_passed c.loop-i.invariant c.loop-i-test.false
