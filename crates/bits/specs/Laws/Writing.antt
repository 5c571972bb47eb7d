-- Laws of `Wrote`: nothing; one after the other; more behind the first i bits; the whole buffer.
use Rattle.std.specs.Prelude.{◌≡◌, refl, Bool, List, [], ◌++◌, ℕ, ◌+◌, ◌*◌, length}
use Rattle.std.proofs.Common.{sym, ap, ap₂, subst, ◌∙◌}
use Rattle.model.specs.Bytes.{bits_of}
use Rattle.model.proofs.Laws.Bytes.{length_bits_of}
use Rattle.bits.specs.Bits.{splice, Wrote}
use Rattle.bits.specs.Laws.Splice.{splice_none, splice_then, splice_whole}

pub wrote_none : {d : List ℕ} {at : ℕ} → Wrote d at [] d
wrote_none {d} {at} = record { same = refl; bits = sym (splice_none (bits_of d) at) }

pub wrote_then : {d x y : List ℕ} {at p : ℕ} {s t : List Bool} → Wrote d at s x → Wrote x p t y → p ≡ at + length s → Wrote d at (s ++ t) y
wrote_then {d} {x} {y} {at} {p} {s} {t} u v e =
    record { same = v.same ∙ u.same; bits = v.bits ∙ ap₂ (λ l n. splice l n t) u.bits e ∙ splice_then (bits_of d) at s t }

pub wrote_same : {d l : List ℕ} {at : ℕ} {s t : List Bool} → Wrote d at s l → s ≡ t → Wrote d at t l
wrote_same {d} {l} {at} u e = subst (λ s. Wrote d at s l) e u

-- i bits, and more behind them
pub wrote_behind : {d x y : List ℕ} {at i : ℕ} {s t u : List Bool} → Wrote d at s x → Wrote x (at + i) t y → length s ≡ i → s ++ t ≡ u → Wrote d at u y
wrote_behind {at = at} v w h e = wrote_same (wrote_then v w (ap (λ k. at + k) (sym h))) e

-- what was written over the whole is all there is
pub wrote_whole : {d l : List ℕ} {s : List Bool} → Wrote d 0 s l → length s ≡ 8 * length d → bits_of l ≡ s
wrote_whole {d} {l} {s} u e = u.bits ∙ splice_whole (bits_of d) s (e ∙ sym (length_bits_of d))
