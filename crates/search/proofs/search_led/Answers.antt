use mathlib.Core.Path.{subst}
use native.Mathlib.Omega.{arith}
use Rattle.model.specs.DayFiles.{Matches}
use Rattle.model.specs.Frames.{after}
use Rattle.day_files.specs.Laws.Days.{none_at_first, none_next, frame_cut}
use Rattle.search.proofs.search_led.Goals as goal

pub loop-i-init : goal.loop-i-init
loop-i-init c = (c.requires.kept, none_at_first _)

pub returns-then-matches : goal.returns-then-matches
returns-then-matches c = let a = c.args in
    (c.loop-i-test.true, subst (λ fr. Matches after a.table.now.ty.now fr a.path.now a.value.now) (frame_cut a.size a.day.now c.loop-i.i) (c.matches.ensures.told.yes c.if-matches.true))

pub loop-i-preserved : goal.loop-i-preserved
loop-i-preserved c = let a = c.args in
    let l = c.loop-i in
    (c.matches.ensures.keeps, none_next l.invariant.1 (rw (← frame_cut a.size a.day.now l.i) (c.matches.ensures.told.no c.if-matches.false)))

pub returns : goal.returns
returns c = let b = c.loop-i.invariant.1 in let l = c.loop-i-test.false in record { none_yet = λ j k. b.none_yet j (omega arith) }
