-- A bit that is 1 decides, among the whole bytes or behind them.
use mathlib.Core.Path.{sym, ap, ◌∙◌}
use mathlib.Core.Bool.{not}
use Prim.Native.Nat.{◌+◌, ◌*◌, ◌/◌}
use native.Mathlib.Omega.{arith}
use Rattle.bits.specs.Laws.Runs.{run_behind, run_one, any_inside, one_in_front}
use Rattle.bits.proofs.is_zero_run.Goals as goal

pub returns-then-not-are_zero_bytes : goal.returns-then-not-are_zero_bytes
returns-then-not-are_zero_bytes c = let a = c.args in one_in_front a.s.now a.at (8 * (a.n / 8)) a.n (omega arith) c.if-not-are_zero_bytes.ensures

pub returns-then-get_bit : goal.returns-then-get_bit
returns-then-get_bit c =
    let a = c.args in
    let i = c.loop-i.i in
    sym (ap not (any_inside a.s.now a.at i 1 a.n (omega arith) (run_one a.s.now (a.at + i) (omega arith) ∙ sym c.if-get_bit.ensures)))

pub loop-i-preserved : goal.loop-i-preserved
loop-i-preserved c =
    let a = c.args in
    let t = c.loop-i in
    run_behind a.s.now a.at t.i 1 t.invariant ∙ run_one a.s.now (a.at + t.i) (omega arith) ∙ sym c.if-get_bit.ensures
