-- A byte that differs decides, and a bit; what stands behind runs that are the same makes them longer.
use mathlib.Core.Path.{◌≡◌, sym, ap, ◌∙◌}
use Prim.Native.Nat.{◌+◌, ◌*◌}
use native.Mathlib.Omega.{arith}
use Rattle.std.proofs.lemmas.Bool.Decides.{nat_tests}
use Rattle.model.specs.Bytes.{byte_bits}
use Rattle.bits.specs.Bits.{bits_at}
use Rattle.bits.specs.Laws.Runs.{alike_behind, alike_inside, alike_one, byte_alike, told_not}
use Rattle.bits.proofs.same_bits.Goals as goal

pub returns-then-get_byte : goal.returns-then-get_byte
returns-then-get_byte c =
    let a = c.args in
    let i = 8 * c.loop-i.i in
    let x = c.get_byte in
    let y = c.get_byte-in-loop-i in
    told_not (λ h. c.if-get_byte.true (byte_alike x.result y.result x.type_inv y.type_inv (x.ensures ∙ alike_inside a.s.now a.at a.other.now a.from i 8 a.n (omega arith) (omega arith) (omega arith) h ∙ sym y.ensures)))

pub loop-i-preserved : goal.loop-i-preserved
loop-i-preserved c =
    let a = c.args in
    let t = c.loop-i in
    let x = c.get_byte in
    let y = c.get_byte-in-loop-i in
    let e : 8 * (t.i + 1) ≡ 8 * t.i + 8 = omega arith in
    ap (bits_at a.s.now a.at) e ∙ alike_behind a.s.now a.at a.other.now a.from (8 * t.i) 8 t.invariant (sym x.ensures ∙ ap byte_bits c.if-get_byte.false ∙ y.ensures) ∙ ap (bits_at a.other.now a.from) (sym e)

pub returns-then-get_bit : goal.returns-then-get_bit
returns-then-get_bit c =
    let a = c.args in
    let i = c.loop-i-2.i in
    let one = alike_one a.s.now (a.at + i) a.other.now (a.from + i) (omega arith) (omega arith) in
    told_not (λ h. let e = one.0 (alike_inside a.s.now a.at a.other.now a.from i 1 a.n (omega arith) (omega arith) (omega arith) h) in grind (arith, nat_tests))

pub loop-i-2-preserved : goal.loop-i-2-preserved
loop-i-2-preserved c =
    let a = c.args in
    let t = c.loop-i-2 in
    let one = alike_one a.s.now (a.at + t.i) a.other.now (a.from + t.i) (omega arith) (omega arith) in
    alike_behind a.s.now a.at a.other.now a.from t.i 1 t.invariant (one.1 (grind (arith, nat_tests)))
