use mathlib.Core.Path.{sym, ap, ◌∙◌}
use mathlib.Core.List.{[], ◌∷◌}
use Prim.Native.Nat.{◌+◌}
use native.Mathlib.Omega.{arith}
use Rattle.bits.specs.Laws.Runs.{length_bits_at, bits_at_one, bits_more}
use Rattle.bits.specs.Laws.Writing.{wrote_behind}
use Rattle.bits.proofs.copy_bits.Goals as goal

pub loop-i-preserved : goal.loop-i-preserved
loop-i-preserved c = let a = c.args in
    let t = c.loop-i in
    let one = ap (λ x. x ∷ []) c.get_bit.ensures ∙ sym (bits_at_one a.src.now (a.from + t.i) (omega arith)) in
    wrote_behind t.invariant c.set_bit.ensures (length_bits_at a.src.now a.from t.i (omega arith)) (bits_more a.src.now a.from t.i 1 (t.i + 1) one (omega arith))
