use mathlib.Core.Path.{◌≡◌, ap, ◌∙◌}
use mathlib.Core.Bool.{false}
use mathlib.Core.List.{List, ◌++◌, append-nil}
use Prim.Native.Nat.{ℕ, ◌+◌, ◌-◌, ◌*◌, ◌/◌}
use lib.ListN.{length, take, drop, set, replicate, length-replicate}
use lib.Seq.{drop-length}
use native.Mathlib.Omega.{arith}
use Rattle.std.proofs.lemmas.List.Edits.{fill_more, length-between}
use Rattle.model.specs.Bytes.{bits_of}
use Rattle.bits.specs.Laws.Places.{wrote_bytes, zero_bytes, zeros_next}
use Rattle.bits.specs.Laws.Writing.{wrote_same, wrote_behind}
use Rattle.bits.proofs.zero_bytes.Goals as goal

pub loop-byte-preserved : goal.loop-byte-preserved
loop-byte-preserved c = let t = c.loop-byte in
    ap (λ l. set l t.byte-index 0) t.invariant ∙ fill_more t.byte-index 0 _ c.loop-byte-test.true

-- at the end no byte is as it was
all_zero : (i : ℕ) (l : List ℕ) → i ≡ length l → replicate i 0 ++ drop i l ≡ replicate (length l) 0
all_zero i l e = rw e (rw drop-length (append-nil (replicate (length l) 0)))

pub returns-then-at-eq0 : goal.returns-then-at-eq0
returns-then-at-eq0 c = let a = c.args in
    let t = c.loop-byte in
    let part = take (a.at / 8 + a.k - a.at / 8) (drop (a.at / 8) a.buf.now) in
    let q : a.at / 8 + a.k - a.at / 8 ≡ a.k = omega arith in
    let n : length part ≡ a.k = length-between a.buf.now (a.at / 8) (a.at / 8 + a.k) (omega arith) ∙ q in
    let e : t.byte-items ≡ replicate a.k 0 = rw (← n) (t.invariant ∙ all_zero t.byte-index part (omega arith)) in
    rw q (wrote_same (wrote_bytes a.buf.now a.at (omega arith) a.k t.byte-items (ap length e ∙ length-replicate a.k 0) (omega arith)) (ap bits_of e ∙ zero_bytes a.k))

pub loop-i-preserved : goal.loop-i-preserved
loop-i-preserved c = let t = c.loop-i in
    wrote_behind t.invariant c.put_byte.ensures (length-replicate (8 * t.i) false) (zeros_next t.i)
