-- Integers in bytes, for all widths together: their low bits are the number's, and bits behind zeros are the integer that they say.
use Rattle.std.specs.Prelude.{◌≡◌, Bool, false, List, [], ◌∷◌, ◌++◌, ℕ, suc, ◌+◌, ◌-◌, ◌*◌, ◌^◌, ◌≤◌, ◌<◌, length, drop, get_or}
use Rattle.std.proofs.Common.{sym, ap, ap₂, ◌∙◌, zero-add, arith, length-append, length-drop, take_all, drop_at}
use Rattle.std.proofs.lemmas.List.{length-replicate}
use Rattle.model.specs.Bytes.{Bytes, bits_of, to_bits, of_bits, zeros, pack, number, in_bytes}
use Rattle.model.proofs.Laws.Bytes.{length_bits_of, pack_bits_of, to_bits_of_bits, to_bits_wider, of_bits_bound, integer_bits}
use Rattle.bits.specs.Bits.{bits_at, low_bits, Wrote}
use Rattle.bits.specs.Laws.Writing.{wrote_then, wrote_whole}

-- each element of a list of bytes is one
pub bytes_each : (l : List ℕ) → ((i : ℕ) → get_or l i 0 < 256) → Bytes l
bytes_each [] h = tt
bytes_each (b ∷ l) h = (h 0, bytes_each l (λ i. h (suc i)))

-- LOW BITS

pub length_low_bits : (l : List ℕ) (w : ℕ) → w ≤ 8 * length l → length (low_bits w l) ≡ w
length_low_bits l w h = simp (length-drop, length_bits_of) (omega arith)

pub low_bits_at : (k : ℕ) (l : List ℕ) (w : ℕ) → length l ≡ k → w ≤ 8 * k → bits_at l (8 * k - w) w ≡ low_bits w l
low_bits_at k l w e h = ap (λ n. bits_at l (8 * n - w) w) (sym e) ∙ take_all w (low_bits w l) (omega (arith, length_low_bits l w (omega arith)))

-- an integer that fits w bits is its low bits
pub low_bits_number : (l : List ℕ) (w : ℕ) → w ≤ 8 * length l → number l < 2 ^ w → low_bits w l ≡ to_bits w (number l)
low_bits_number l w h k =
    let n = 8 * length l - w in
    ap (drop n) (integer_bits w l h k) ∙ drop_at (zeros n) (to_bits w (number l)) n (length-replicate n false)

-- BITS BEHIND ZEROS

pub integer_wrote : (k w : ℕ) {d x l : List ℕ} {xs : List Bool} → Wrote d 0 (zeros (8 * k - w)) x → Wrote x (8 * k - w) xs l → length d ≡ k → length xs ≡ w → w ≤ 8 * k → ((i : ℕ) → get_or l i 0 < 256) → l ≡ in_bytes k (of_bits xs)
unfolding in_bytes
integer_wrote k w {d} {x} {l} {xs} u v n m h b =
    let z : length (zeros (8 * k - w)) ≡ 8 * k - w = length-replicate (8 * k - w) false in
    let q : 8 * k - w + w ≡ 8 * k = omega arith in
    let e : bits_of l ≡ zeros (8 * k - w) ++ xs = wrote_whole (wrote_then u v (sym (zero-add _ ∙ z))) (length-append (zeros (8 * k - w)) xs ∙ omega arith) in
    let f : to_bits w (of_bits xs) ≡ xs = rw m at (to_bits_of_bits xs) in
    let o : of_bits xs < 2 ^ w = rw m at (of_bits_bound xs) in
    sym (pack_bits_of l (bytes_each l b))
    ∙ ap₂ pack (v.same ∙ u.same ∙ n) (e ∙ sym (ap (λ m. to_bits m (of_bits xs)) (sym q) ∙ to_bits_wider (8 * k - w) w (of_bits xs) o ∙ ap (λ x. zeros (8 * k - w) ++ x) f))
