-- Bytes that are all 0 have no bit that is 1, and one that is not has one.
use mathlib.Core.Path.{◌≡◌, sym, ap, ◌∙◌}
use mathlib.Core.Bool.{not}
use Prim.Native.Nat.{◌+◌, ◌-◌, ◌*◌, ◌/◌}
use lib.ListN.{take, drop}
use native.Mathlib.Omega.{arith}
use borrow.Author.Rules.{rules}
use borrow.Author.Tests.{tests}
use Rattle.std.proofs.lemmas.Iterator.{YieldsList-from_slice, cases_from_all}
use Rattle.model.specs.Options.{any}
use Rattle.model.specs.Bytes.{byte_bits}
use Rattle.bits.specs.Bits.{bits_at}
use Rattle.bits.specs.Laws.Runs.{run_behind, any_inside, byte_any}
use Rattle.bits.specs.Laws.Places.{zero_told}
use Rattle.bits.proofs.are_zero_bytes.Goals as goal

pub returns-then-at-eq0 : goal.returns-then-at-eq0
returns-then-at-eq0 c =
    let a = c.args in
    let q : a.at / 8 + a.k - a.at / 8 ≡ a.k = omega arith in
    let part = take a.k (drop (a.at / 8) a.s.now) in
    let f = cases_from_all _ _ c.all.result (λ x. x ≡ 0) (λ x. x ≡ 0 → ⊥) c.all.ensures.ran (YieldsList-from_slice part (c.iter.ensures.rest ∙ ap (λ k. take k (drop (a.at / 8) a.s.now)) q)) (λ x q k. search (rules, tests)) (λ x q k. search (rules, tests)) in
    zero_told a.s.now a.at a.k (omega arith) (omega arith) (λ i. (c.type_inv.s i).fits) c.all.result f

pub returns-then-get_byte-ne0 : goal.returns-then-get_byte-ne0
returns-then-get_byte-ne0 c =
    let a = c.args in
    let b = c.get_byte in
    sym (ap not (any_inside a.s.now a.at (8 * c.loop-i.i) 8 (8 * a.k) (omega arith) (ap any (sym b.ensures) ∙ byte_any b.result b.type_inv c.if-get_byte-ne0.true)))

pub loop-i-preserved : goal.loop-i-preserved
unfolding byte_bits
loop-i-preserved c =
    let a = c.args in
    let t = c.loop-i in
    let e : 8 * (t.i + 1) ≡ 8 * t.i + 8 = omega arith in
    ap (λ k. any (bits_at a.s.now a.at k)) e ∙ run_behind a.s.now a.at (8 * t.i) 8 t.invariant ∙ ap any (sym c.get_byte.ensures ∙ ap byte_bits c.if-get_byte-ne0.false)
