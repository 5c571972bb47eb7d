-- A bit's place is bit at % 8 of byte at / 8: what one byte, or two neighbours, hold there is what the slice holds at bit `at`.
use Rattle.std.specs.Prelude.{◌≡◌, refl, Bool, true, false, ◌≢◌, ℕ, zero, suc, ◌+◌, ◌-◌, ◌*◌, ◌/◌, ◌%◌, ◌^◌, ◌≤◌, ◌<◌, eqb, not, drop, set}
use Rattle.std.proofs.Math.Path.{sym, ap, ap₂}
use Rattle.std.proofs.Common.{subst, subst₂, ◌∙◌, add-zero, lit<, length-set, length-take, length-drop, drop-cons, take-take, get_or-drop, get_or-take}
use mathlib.Core.List.{List, [], ◌∷◌, ◌++◌, append-nil, append_assoc}
use Rattle.std.proofs.Math.Numerals.{add-one}
use native.Mathlib.Omega.{arith}
use Rattle.std.specs.Int.Bits.{bit_and, bit_or}
use Rattle.std.proofs.Math.ListN.{length, take, get_or, replicate}
use Rattle.std.specs.Bool.{MatchBool}
use Rattle.std.specs.List.{AllWithin, HoldsAt}
use Rattle.std.proofs.lemmas.List.{replicate-append-replicate}
use Rattle.std.proofs.lemmas.List.Edits.{paste_all}
use Rattle.std.proofs.lemmas.Slice.{put_mid-paste}
use borrow.Rule.Slice.PartMut.{put_mid}
use Rattle.model.specs.Options.{any}
use Rattle.model.proofs.Laws.Frames.{any_zeros}
use Rattle.model.specs.Bytes.{byte_bits, bits_of, zeros}
use Rattle.bits.specs.Bits.{splice, bits_at, Wrote}
use Rattle.bits.specs.Laws.Splice.{length_splice, splice_one, splice_then}
use Rattle.bits.specs.Laws.Writing.{wrote_then}
use Rattle.bits.specs.Laws.Byte.{bit_of, bit_set, bit_cleared, byte_read, byte_put}
use Rattle.bits.specs.Laws.Window.{bits_of_splice, window_bits, bits_within, wrote_within}
use Rattle.bits.specs.Laws.Runs.{bits_at_add, any_inside, byte_any}

-- ONE BYTE AND TWO, in a list

one_byte : (d : List ℕ) (i : ℕ) → i < length d → take 1 (drop i d) ≡ get_or d i 0 ∷ []
one_byte d i h = ap (take 1) (drop-cons d i 0 h)

two_bytes : (d : List ℕ) (i : ℕ) → suc i < length d → take 2 (drop i d) ≡ get_or d i 0 ∷ get_or d (suc i) 0 ∷ []
two_bytes d i h = ap (take 2) (drop-cons d i 0 (omega arith) ∙ ap {B = List ℕ} (λ x. get_or d i 0 ∷ x) (drop-cons d (suc i) 0 h))

set_two : (d : List ℕ) (i x y : ℕ) → suc i < length d → set (set d i x) (suc i) y ≡ splice d i (x ∷ y ∷ [])
set_two d i x y h =
    splice_one (set d i x) (suc i) y (omega (arith, length-set d i x))
    ∙ ap₂ (λ l n. splice l n (y ∷ [])) (splice_one d i x (omega arith)) (sym (add-one i)) ∙ splice_then d i (x ∷ []) (y ∷ [])

first : (l : List Bool) (at : ℕ) → get_or (take 1 (drop at l)) 0 false ≡ get_or l at false
first l at = get_or-take 1 (drop at l) 0 false (lit< tt) ∙ get_or-drop at l 0 false ∙ ap (λ n. get_or l n false) (add-zero at)

-- AT A BIT'S NUMBER

module _ (d : List ℕ) (at : ℕ) where
  place : 8 * (at / 8) + at % 8 ≡ at
  place = omega arith

  pub bit_at : at < 8 * length d → get_or (bits_of d) at false ≡ eqb (bit_and (get_or d (at / 8) 0 / 2 ^ (7 - at % 8)) 1) 1
  unfolding bits_of
  bit_at h =
      ap (λ n. get_or (bits_of d) n false) (sym place) ∙ sym (first (bits_of d) (8 * (at / 8) + at % 8))
      ∙ ap (λ x. get_or x 0 false) (bits_within d (at / 8) 1 (omega arith) (at % 8) 1 (omega arith)) ∙ first (bits_of (take 1 (drop (at / 8) d))) (at % 8)
      ∙ ap (λ x. get_or x (at % 8) false) (ap bits_of (one_byte d (at / 8) (omega arith)) ∙ append-nil (byte_bits (get_or d (at / 8) 0)))
      ∙ bit_of (get_or d (at / 8) 0) (at % 8) (omega arith)

  module _ (s : List Bool) where
    wrote_one : (x : ℕ) → at < 8 * length d → at % 8 + length s ≤ 8 → bits_of (x ∷ []) ≡ splice (bits_of (get_or d (at / 8) 0 ∷ [])) (at % 8) s → Wrote d at s (set d (at / 8) x)
    wrote_one x h q e =
        let i : at / 8 < length d = omega arith in
        subst₂ (λ n l. Wrote d n s l) place (sym (splice_one d (at / 8) x i))
        (wrote_within d (at / 8) 1 (omega arith) (at % 8) s (x ∷ []) q refl (e ∙ ap (λ l. splice (bits_of l) (at % 8) s) (sym (one_byte d (at / 8) i))))

    wrote_two : (x y : ℕ) → suc (at / 8) < length d → at % 8 + length s ≤ 16 → bits_of (x ∷ y ∷ []) ≡ splice (bits_of (get_or d (at / 8) 0 ∷ get_or d (suc (at / 8)) 0 ∷ [])) (at % 8) s
        → Wrote d at s (set (set d (at / 8) x) (suc (at / 8)) y)
    wrote_two x y i q e =
        subst₂ (λ n l. Wrote d n s l) place (sym (set_two d (at / 8) x y i))
        (wrote_within d (at / 8) 2 (omega arith) (at % 8) s (x ∷ y ∷ []) q refl (e ∙ ap (λ l. splice (bits_of l) (at % 8) s) (sym (two_bytes d (at / 8) i))))

  pub wrote_on : at < 8 * length d → Wrote d at (true ∷ []) (set d (at / 8) (bit_or (get_or d (at / 8) 0) (128 / 2 ^ (at % 8))))
  wrote_on h = wrote_one (true ∷ []) _ h (omega arith) (bit_set (get_or d (at / 8) 0) (at % 8) (omega arith))

  pub wrote_off : at < 8 * length d → Wrote d at (false ∷ []) (set d (at / 8) (bit_and (get_or d (at / 8) 0) (255 - 128 / 2 ^ (at % 8))))
  wrote_off h = wrote_one (false ∷ []) _ h (omega arith) (bit_cleared (get_or d (at / 8) 0) (at % 8) (omega arith))

  module _ (h : at + 8 ≤ 8 * length d) where
    pub byte_aligned : at % 8 ≡ 0 → byte_bits (get_or d (at / 8) 0) ≡ bits_at d at 8
    unfolding bits_of byte_bits
    byte_aligned z =
        let i : at / 8 < length d = omega arith in
        sym (ap (λ n. bits_at d n 8) (sym place) ∙ bits_within d (at / 8) 1 (omega arith) (at % 8) 8 (omega arith)
        ∙ ap₂ (λ n l. take 8 (drop n (bits_of l))) z (one_byte d (at / 8) i))

    pub byte_across : ((i : ℕ) → get_or d i 0 < 256) → at % 8 ≢ 0 → byte_bits (bit_or (get_or d (at / 8) 0 * 2 ^ (at % 8) % 256) (get_or d (at / 8 + 1) 0 / 2 ^ (8 - at % 8))) ≡ bits_at d at 8
    byte_across b n =
        let i : suc (at / 8) < length d = omega arith in
        rw add-one (byte_read (get_or d (at / 8) 0) (get_or d (suc (at / 8)) 0) (at % 8) (b (at / 8)) (b (suc (at / 8))) (omega arith)
        ∙ sym (ap (λ n. bits_at d n 8) (sym place) ∙ bits_within d (at / 8) 2 (omega arith) (at % 8) 8 (omega arith)
        ∙ ap (λ l. take 8 (drop (at % 8) (bits_of l))) (two_bytes d (at / 8) i)))

    pub wrote_aligned : (v : ℕ) → at % 8 ≡ 0 → Wrote d at (byte_bits v) (set d (at / 8) v)
    unfolding bits_of byte_bits
    wrote_aligned v z = wrote_one (byte_bits v) v (omega arith) (omega arith) (rw z)

    pub wrote_across : (v : ℕ) → v < 256 → at % 8 ≢ 0
        → Wrote d at (byte_bits v) (set (set d (at / 8) (bit_or (bit_and (get_or d (at / 8) 0) (255 - 255 / 2 ^ (at % 8))) (v / 2 ^ (at % 8))))
        (at / 8 + 1) (bit_or (bit_and (get_or d (at / 8 + 1) 0) (255 / 2 ^ (at % 8))) (v * 2 ^ (8 - at % 8) % 256)))
    unfolding byte_bits
    wrote_across v hv n =
        rw add-one (wrote_two (byte_bits v) _ _ (omega arith) (omega arith) (byte_put (get_or d (at / 8) 0) (get_or d (suc (at / 8)) 0) v (at % 8) hv (omega arith)))

-- BYTE AFTER BYTE, from a byte's first bit on

-- behind i bytes stands the next one
pub wrote_next : {d x : List ℕ} {at : ℕ} {s : List Bool} (i v : ℕ) → Wrote d at s x → length s ≡ 8 * i → at % 8 ≡ 0 → at + 8 * i + 8 ≤ 8 * length d → Wrote d at (s ++ byte_bits v) (set x (at / 8 + i) v)
wrote_next {d} {x} {at} {s} i v u n z h =
    let e : at + 8 * i ≡ at + length s = omega arith in
    let q : (at + 8 * i) / 8 ≡ at / 8 + i = omega arith in
    let w : Wrote x (at + 8 * i) (byte_bits v) (set x ((at + 8 * i) / 8) v) = wrote_aligned x (at + 8 * i) (omega (arith, u.same)) v (omega arith) in
    wrote_then u (subst (λ k. Wrote x (at + 8 * i) (byte_bits v) (set x k v)) q w) e

pub bytes_next : (d : List ℕ) (at i : ℕ) → at % 8 ≡ 0 → at + 8 * i + 8 ≤ 8 * length d → bits_at d at (8 * i) ++ byte_bits (get_or d (at / 8 + i) 0) ≡ bits_at d at (8 * (i + 1))
bytes_next d at i z h =
    let q : (at + 8 * i) / 8 ≡ at / 8 + i = omega arith in
    let e : 8 * i + 8 ≡ 8 * (i + 1) = omega arith in
    ap (λ x. bits_at d at (8 * i) ++ x) (ap (λ k. byte_bits (get_or d k 0)) (sym q) ∙ byte_aligned d (at + 8 * i) h (omega arith)) ∙ sym (bits_at_add d at (8 * i) 8) ∙ ap (bits_at d at) e

-- ALL BYTES AT ONCE, from a byte's first bit on

module _ (d : List ℕ) (at : ℕ) (z : at % 8 ≡ 0) where
  first_bit : 8 * (at / 8) ≡ at
  first_bit = omega arith

  -- the bits of k bytes
  pub bytes_at : (k : ℕ) → at + 8 * k ≤ 8 * length d → bits_at d at (8 * k) ≡ bits_of (take k (drop (at / 8) d))
  bytes_at k h = ap (λ n. bits_at d n (8 * k)) (sym first_bit) ∙ sym (window_bits d (at / 8) k (omega arith))

  -- k bytes that are put
  pub wrote_bytes : (k : ℕ) (x : List ℕ) → length x ≡ k → at + 8 * k ≤ 8 * length d → Wrote d at (bits_of x) (put_mid (at / 8) k d x)
  wrote_bytes k x n h =
      subst (Wrote d at (bits_of x)) (append_assoc (take (at / 8) d) x (drop (at / 8 + length x) d) ∙ sym (put_mid-paste (at / 8) k d x x k refl refl (sym n) ∙ paste_all d (at / 8) x k (sym n) ∙ ap (λ m. take (at / 8) d ++ (x ++ drop (at / 8 + m) d)) (sym n)))
      (record {
        same = length_splice d (at / 8) x (omega arith);
        bits = bits_of_splice d (at / 8) x ∙ ap (λ n. splice (bits_of d) n (bits_of x)) first_bit;
      })

-- BYTES THAT ARE 0

pub zero_bytes : (k : ℕ) → bits_of (replicate k 0) ≡ zeros (8 * k)
unfolding bits_of byte_bits
zero_bytes zero = refl
zero_bytes (suc k) =
    let e : 8 + 8 * k ≡ 8 * suc k = omega arith in
    ap (λ x. byte_bits 0 ++ x) (zero_bytes k) ∙ replicate-append-replicate 8 (8 * k) false ∙ ap zeros e

zero_front : (i : ℕ) (l : List ℕ) → i ≤ length l → AllWithin (λ x. x ≡ 0) l 0 i → take i l ≡ replicate i 0
zero_front zero l q h = refl
zero_front (suc i) [] q h = absurd (omega arith)
zero_front (suc i) (b ∷ l) q h = ap₂ ◌∷◌ (h 0 0 (omega arith) (omega arith)) (zero_front i l (omega arith) (λ k d _ p. h (suc k) d (omega arith) (omega arith)))

-- behind i bytes that are 0, one more
pub zeros_next : (i : ℕ) → zeros (8 * i) ++ byte_bits 0 ≡ zeros (8 * (i + 1))
unfolding byte_bits
zeros_next i = let e : 8 * i + 8 ≡ 8 * (i + 1) = omega arith in replicate-append-replicate (8 * i) 8 false ∙ ap zeros e

-- the bits of k bytes are zeros if all of these are 0, and else one is 1
module _ (d : List ℕ) (at k : ℕ) (z : at % 8 ≡ 0) (h : at + 8 * k ≤ 8 * length d) where
  abbrev whole : List ℕ
  whole = take k (drop (at / 8) d)

  length_whole : length whole ≡ k
  length_whole = simp (length-take, length-drop) (omega arith)

  pub zero_told : ((i : ℕ) → get_or d i 0 < 256) → (r : Bool) → MatchBool r (AllWithin (λ x. x ≡ 0) whole 0 (length whole)) ((i : ℕ) × (i < length whole) × HoldsAt (λ x. x ≡ 0 → ⊥) whole i) → r ≡ not (any (bits_at d at (8 * k)))
  zero_told b true f = sym (ap not (ap any (bytes_at d at z k h ∙ ap bits_of (sym (take-take k k (drop (at / 8) d) (omega arith)) ∙ zero_front k whole (omega (arith, length_whole)) (rw length_whole at f)) ∙ zero_bytes k) ∙ any_zeros (8 * k)))
  zero_told b false (i, q, f) =
      let j : i < k = omega (arith, length_whole) in
      let e : get_or whole i 0 ≡ get_or d (at / 8 + i) 0 = get_or-take k (drop (at / 8) d) i 0 j ∙ get_or-drop (at / 8) d i 0 in
      let p : (at + 8 * i) / 8 ≡ at / 8 + i = omega arith in
      let g : get_or d ((at + 8 * i) / 8) 0 ≡ 0 → ⊥ = λ y. f 0 (e ∙ ap (λ n. get_or d n 0) (sym p) ∙ y) in
      sym (ap not (any_inside d at (8 * i) 8 (8 * k) (omega arith) (ap any (sym (byte_aligned d (at + 8 * i) (omega arith) (omega arith))) ∙ byte_any _ (b _) g)))
