-- A window of a list of bytes: bits that lie in m bytes from byte i on are read and written there, and nowhere else.
use Rattle.std.specs.Prelude.{◌≡◌, refl, Bool, List, [], ◌∷◌, ◌++◌, ℕ, zero, suc, ◌+◌, ◌*◌, ◌≤◌, length, take, drop}
use Rattle.std.proofs.Common.{sym, ap, ap₂, ◌∙◌, arith, length-take, length-drop, take-append-drop, drop-drop}
use Rattle.std.proofs.Math.Seq.{take-nil, drop-nil, take-append-add, drop-append-add}
use Rattle.std.proofs.lemmas.List.{take-append-le, drop-append-le}
use Rattle.model.specs.Bytes.{bits_of, byte_bits}
use Rattle.model.proofs.Laws.Bytes.{length_bits_of, bits_of_append}
use Rattle.bits.specs.Bits.{splice, bits_at, Wrote}
use Rattle.bits.specs.Laws.Splice.{length_splice, splice_self, splice_within}

-- THE BITS OF A PART OF THE BYTES

eight_more : (k : ℕ) → 8 * suc k ≡ 8 + 8 * k
eight_more k = omega arith

bits_of_take : (k : ℕ) (l : List ℕ) → bits_of (take k l) ≡ take (8 * k) (bits_of l)
unfolding bits_of byte_bits
bits_of_take zero l = refl
bits_of_take (suc k) [] = sym (take-nil (8 * suc k))
bits_of_take (suc k) (b ∷ l) =
    ap (λ x. byte_bits b ++ x) (bits_of_take k l) ∙ sym (ap (λ n. take n (byte_bits b ++ bits_of l)) (eight_more k) ∙ take-append-add (byte_bits b) (bits_of l) (8 * k))

bits_of_drop : (k : ℕ) (l : List ℕ) → bits_of (drop k l) ≡ drop (8 * k) (bits_of l)
unfolding bits_of byte_bits
bits_of_drop zero l = refl
bits_of_drop (suc k) [] = sym (drop-nil (8 * suc k))
bits_of_drop (suc k) (b ∷ l) = bits_of_drop k l ∙ sym (ap (λ n. drop n (byte_bits b ++ bits_of l)) (eight_more k) ∙ drop-append-add (byte_bits b) (bits_of l) (8 * k))

pub bits_of_splice : (d : List ℕ) (i : ℕ) (new : List ℕ) → bits_of (splice d i new) ≡ splice (bits_of d) (8 * i) (bits_of new)
bits_of_splice d i new =
    let e : 8 * (i + length new) ≡ 8 * i + length (bits_of new) = omega (arith, length_bits_of new) in
    bits_of_append (take i d ++ new) (drop (i + length new) d)
    ∙ ap₂ ◌++◌ (bits_of_append (take i d) new ∙ ap (λ x. x ++ bits_of new) (bits_of_take i d)) (bits_of_drop (i + length new) d ∙ ap (λ n. drop n (bits_of d)) e)

-- A WINDOW

module _ (d : List ℕ) (i m : ℕ) (h : i + m ≤ length d) where
  pub window_bits : bits_of (take m (drop i d)) ≡ bits_at d (8 * i) (8 * m)
  window_bits = bits_of_take m (drop i d) ∙ ap (take (8 * m)) (bits_of_drop i d)

  length_window : length (bits_of (take m (drop i d))) ≡ 8 * m
  length_window = length_bits_of (take m (drop i d)) ∙ simp (length-take, length-drop) (omega arith)

  pub bits_within : (k n : ℕ) → k + n ≤ 8 * m → bits_at d (8 * i + k) n ≡ take n (drop k (bits_of (take m (drop i d))))
  bits_within k n q =
      let w = bits_of (take m (drop i d)) in
      let r = drop (8 * m) (drop (8 * i) (bits_of d)) in
      ap (take n) (sym (drop-drop k (8 * i) (bits_of d)) ∙ ap (drop k) (sym (ap (λ x. x ++ r) window_bits ∙ take-append-drop (8 * m) (drop (8 * i) (bits_of d)))) ∙ drop-append-le k w r (omega (arith, length_window)))
      ∙ take-append-le n (drop k w) r (rw (length-drop k w) (omega (arith, length_window)))

  pub wrote_within : (k : ℕ) (s : List Bool) (new : List ℕ) → k + length s ≤ 8 * m → length new ≡ m → bits_of new ≡ splice (bits_of (take m (drop i d))) k s → Wrote d (8 * i + k) s (splice d i new)
  wrote_within k s new q n e = record {
    same = length_splice d i new (omega arith);
    bits =
        bits_of_splice d i new ∙ ap (splice (bits_of d) (8 * i)) e
        ∙ sym (splice_within (bits_of d) (8 * i) (bits_of (take m (drop i d))) k s (omega (arith, length_bits_of d)) (omega (arith, length_window)))
        ∙ ap (λ x. splice x (8 * i + k) s) (ap (splice (bits_of d) (8 * i)) window_bits ∙ splice_self (bits_of d) (8 * i) (8 * m) (omega (arith, length_bits_of d)));
  }
