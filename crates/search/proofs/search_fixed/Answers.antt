use native.Mathlib.Omega.{arith}
use Rattle.day_files.specs.Laws.Days.{none_at_first, none_next, frame_cut}
use Rattle.search.proofs.search_fixed.Goals as goal

pub loop-i-init : goal.loop-i-init
loop-i-init c = none_at_first _

pub returns-then-has_bits : goal.returns-then-has_bits
returns-then-has_bits c = let a = c.args in
    (c.loop-i-test.true, rw (← frame_cut a.size a.day.now c.loop-i.i) (c.has_bits.ensures.yes c.if-has_bits.true))

pub loop-i-preserved : goal.loop-i-preserved
loop-i-preserved c = let a = c.args in
    let l = c.loop-i in
    none_next l.invariant (rw (← frame_cut a.size a.day.now l.i) (c.has_bits.ensures.no c.if-has_bits.false))

pub returns : goal.returns
returns c = let b = c.loop-i.invariant in let l = c.loop-i-test.false in record { none_yet = λ j k. b.none_yet j (omega arith) }
