use Prim.Native.Nat.{◌+◌, ◌*◌}
use native.Mathlib.Omega.{arith}
use Rattle.bits.specs.Laws.Places.{wrote_next, bytes_next}
use Rattle.bits.specs.Laws.Runs.{length_bits_at, bits_more}
use Rattle.bits.specs.Laws.Writing.{wrote_same, wrote_behind}
use Rattle.bits.proofs.copy_bytes.Goals as goal

pub loop-i-preserved : goal.loop-i-preserved
loop-i-preserved c = let a = c.args in
    let t = c.loop-i in
    wrote_same (wrote_next t.i _ t.invariant (length_bits_at a.src.now a.from (8 * t.i) (omega arith)) (omega arith) (omega arith)) (bytes_next a.src.now a.from t.i (omega arith) (omega arith))

pub loop-i-2-preserved : goal.loop-i-2-preserved
loop-i-2-preserved c = let a = c.args in
    let t = c.loop-i-2 in
    wrote_behind t.invariant c.put_byte.ensures (length_bits_at a.src.now a.from (8 * t.i) (omega arith)) (bits_more a.src.now a.from (8 * t.i) 8 (8 * (t.i + 1)) c.get_byte.ensures (omega arith))
