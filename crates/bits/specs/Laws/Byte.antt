-- The bits of a byte under `&`, `|` and shifts, and what masks make of one byte, or of two neighbours, at their bit k.
use Rattle.std.specs.Prelude.{◌≡◌, refl, Bool, true, false, ◌&&◌, ◌||◌, ℕ, zero, suc, ◌+◌, ◌-◌, ◌*◌, ◌/◌, ◌%◌, ◌^◌, ◌<◌, min, max, eqb, take, drop, get_or}
use Rattle.std.proofs.Common.{sym, ap, ap₂, ◌∙◌, div-one, mul-one, pow-suc, mul_assoc, mod-lt, mod-eq_of_lt, div-le_self, lt_of_le_of_lt, add-one, arith, lit<, length-append, take-take, drop-drop, shr-shr}
use Rattle.std.proofs.Math.Bool.{or-false}
use mathlib.Core.List.{List, [], ◌∷◌, ◌++◌, zip_with, append_assoc}
use Rattle.std.proofs.Math.Nat.{mul-add-mod_self_right, div-div-eq-div-mul}
use Rattle.std.proofs.lemmas.List.{length-replicate, replicate-append-replicate, drop-append-le}
use Rattle.std.specs.Int.Bits.{bit_and, bit_or, and_step, or_step}
use Rattle.std.proofs.lemmas.Nat.{and_shr, or_shr, and_mask}
use Rattle.model.specs.Bytes.{odd, byte_bits, bits_of, zeros}
use Rattle.bits.specs.Bits.{splice}

-- EIGHT PLACES

below_eight : (P : ℕ → Type 0) → P 0 → P 1 → P 2 → P 3 → P 4 → P 5 → P 6 → P 7 → (k : ℕ) → k < 8 → P k
below_eight P a b c d e f g h zero q = a
below_eight P a b c d e f g h (suc zero) q = b
below_eight P a b c d e f g h (suc (suc zero)) q = c
below_eight P a b c d e f g h (suc (suc (suc zero))) q = d
below_eight P a b c d e f g h (suc (suc (suc (suc zero)))) q = e
below_eight P a b c d e f g h (suc (suc (suc (suc (suc zero))))) q = f
below_eight P a b c d e f g h (suc (suc (suc (suc (suc (suc zero)))))) q = g
below_eight P a b c d e f g h (suc (suc (suc (suc (suc (suc (suc zero))))))) q = h
below_eight P a b c d e f g h (suc (suc (suc (suc (suc (suc (suc (suc k)))))))) q = absurd (omega arith)

-- two lists of eight are equal place by place
eight : {a b c d e f g h a' b' c' d' e' f' g' h' : Bool} → a ≡ a' → b ≡ b' → c ≡ c' → d ≡ d' → e ≡ e' → f ≡ f' → g ≡ g' → h ≡ h'
    → a ∷ b ∷ c ∷ d ∷ e ∷ f ∷ g ∷ h ∷ [] ≡ a' ∷ b' ∷ c' ∷ d' ∷ e' ∷ f' ∷ g' ∷ h' ∷ []
eight p q r s t u v w i = p i ∷ q i ∷ r i ∷ s i ∷ t i ∷ u i ∷ v i ∷ w i ∷ []

-- AND, OR

digit : (q r : ℕ) → r < 2 → odd (q * 2 + r) ≡ eqb r 1
digit q r h = ap (λ z. eqb z 1) (mul-add-mod_self_right q 2 r ∙ mod-eq_of_lt h)

two_digits : (P : ℕ → ℕ → Type 0) → P 0 0 → P 0 1 → P 1 0 → P 1 1 → (x y : ℕ) → x < 2 → y < 2 → P x y
two_digits P a b c d zero zero h k = a
two_digits P a b c d zero (suc zero) h k = b
two_digits P a b c d (suc zero) zero h k = c
two_digits P a b c d (suc zero) (suc zero) h k = d
two_digits P a b c d zero (suc (suc y)) h k = absurd (omega arith)
two_digits P a b c d (suc zero) (suc (suc y)) h k = absurd (omega arith)
two_digits P a b c d (suc (suc x)) y h k = absurd (omega arith)

-- f on digits is g on bits
abbrev OnBits : (ℕ → ℕ → ℕ) → (Bool → Bool → Bool) → ℕ → ℕ → Type 0
OnBits f g x y = (f x y < 2) × (eqb (f x y) 1 ≡ g (eqb y 1) (eqb x 1))

-- an operation on numbers that is f on their digits is g on their bits
module _ (op f : ℕ → ℕ → ℕ) (g : Bool → Bool → Bool) (on_bits : (x y : ℕ) → x < 2 → y < 2 → OnBits f g x y)
    (step : (a m : ℕ) → op a m ≡ op (a / 2) (m / 2) * 2 + f (a % 2) (m % 2)) (shr : (a m k : ℕ) → op a m / 2 ^ k ≡ op (a / 2 ^ k) (m / 2 ^ k)) where
  odd_op : (a m : ℕ) → odd (op a m) ≡ g (odd m) (odd a)
  odd_op a m =
      let (small, e) = on_bits (a % 2) (m % 2) (mod-lt a (lit< tt)) (mod-lt m (lit< tt)) in
      ap odd (step a m) ∙ digit (op (a / 2) (m / 2)) (f (a % 2) (m % 2)) small ∙ e

  bit_op : (k a m : ℕ) → odd (op a m / 2 ^ k) ≡ g (odd (m / 2 ^ k)) (odd (a / 2 ^ k))
  bit_op k a m = ap odd (shr a m k) ∙ odd_op (a / 2 ^ k) (m / 2 ^ k)

  bits_op : (a m : ℕ) → byte_bits (op a m) ≡ zip_with g (byte_bits m) (byte_bits a)
  unfolding byte_bits zip_with
  bits_op a m = eight (bit_op 7 a m) (bit_op 6 a m) (bit_op 5 a m) (bit_op 4 a m) (bit_op 3 a m) (bit_op 2 a m) (bit_op 1 a m) (odd_op a m)

bits_or : (a m : ℕ) → byte_bits (bit_or a m) ≡ zip_with ◌||◌ (byte_bits m) (byte_bits a)
bits_or = bits_op bit_or max ◌||◌ (two_digits (OnBits max ◌||◌) (lit< tt, refl) (lit< tt, refl) (lit< tt, refl) (lit< tt, refl)) or_step or_shr

bits_and : (a m : ℕ) → byte_bits (bit_and a m) ≡ zip_with ◌&&◌ (byte_bits m) (byte_bits a)
bits_and = bits_op bit_and min ◌&&◌ (two_digits (OnBits min ◌&&◌) (lit< tt, refl) (lit< tt, refl) (lit< tt, refl) (lit< tt, refl)) and_step and_shr

-- SHIFTS

right_one : (b : ℕ) → b < 256 → byte_bits (b / 2) ≡ false ∷ take 7 (byte_bits b)
unfolding byte_bits
right_one b h =
    let z : b / 2 / 128 ≡ 0 = omega arith in
    eight (ap odd z) (ap odd (shr-shr b 1 6)) (ap odd (shr-shr b 1 5)) (ap odd (shr-shr b 1 4)) (ap odd (shr-shr b 1 3)) (ap odd (shr-shr b 1 2)) (ap odd (shr-shr b 1 1)) refl

-- k zeros come in front
right_bits : (k b : ℕ) → b < 256 → byte_bits (b / 2 ^ k) ≡ take 8 (zeros k ++ byte_bits b)
unfolding byte_bits
right_bits zero b h = ap byte_bits (div-one b)
right_bits (suc k) b h =
    ap byte_bits (ap (λ n. b / n) (pow-suc 2 k) ∙ sym (div-div-eq-div-mul b (2 ^ k) 2)) ∙ right_one (b / 2 ^ k) (lt_of_le_of_lt (div-le_self b (2 ^ k)) h)
    ∙ ap {B = List Bool} (λ x. false ∷ x) (ap (take 7) (right_bits k b h) ∙ take-take 7 8 (zeros k ++ byte_bits b) (lit< tt))

same_digit : {m n : ℕ} → m ≡ n → eqb m 1 ≡ eqb n 1
same_digit e = ap (λ x. eqb x 1) e

left_one : (b : ℕ) → byte_bits (b * 2 % 256) ≡ drop 1 (byte_bits b) ++ (false ∷ [])
unfolding byte_bits
left_one b =
    let e7 : b * 2 % 256 / 128 % 2 ≡ b / 64 % 2 = omega arith in
    let e6 : b * 2 % 256 / 64 % 2 ≡ b / 32 % 2 = omega arith in
    let e5 : b * 2 % 256 / 32 % 2 ≡ b / 16 % 2 = omega arith in
    let e4 : b * 2 % 256 / 16 % 2 ≡ b / 8 % 2 = omega arith in
    let e3 : b * 2 % 256 / 8 % 2 ≡ b / 4 % 2 = omega arith in
    let e2 : b * 2 % 256 / 4 % 2 ≡ b / 2 % 2 = omega arith in
    let e1 : b * 2 % 256 / 2 % 2 ≡ b % 2 = omega arith in
    let e0 : b * 2 % 256 % 2 ≡ 0 = omega arith in
    eight (same_digit e7) (same_digit e6) (same_digit e5) (same_digit e4) (same_digit e3) (same_digit e2) (same_digit e1) (same_digit e0)

-- k zeros come behind
left_bits : (k b : ℕ) → b < 256 → byte_bits (b * 2 ^ k % 256) ≡ drop k (byte_bits b ++ zeros k)
unfolding byte_bits
left_bits zero b h = ap byte_bits (ap (λ n. n % 256) (mul-one b) ∙ mod-eq_of_lt h)
left_bits (suc k) b h =
    ap byte_bits (ap (λ n. n % 256) (ap (λ n. b * n) (pow-suc 2 k) ∙ sym (mul_assoc b (2 ^ k) 2)) ∙ twice (b * 2 ^ k)) ∙ left_one (b * 2 ^ k % 256)
    ∙ ap (λ x. drop 1 x ++ (false ∷ [])) (left_bits k b h) ∙ further
  where
    twice : (x : ℕ) → x * 2 % 256 ≡ x % 256 * 2 % 256
    twice x = omega arith

    further : drop 1 (drop k (byte_bits b ++ zeros k)) ++ zeros 1 ≡ drop (suc k) (byte_bits b ++ zeros (suc k))
    further =
        ap (λ x. x ++ zeros 1) (drop-drop 1 k (byte_bits b ++ zeros k))
        ∙ sym (drop-append-le (k + 1) (byte_bits b ++ zeros k) (zeros 1) (omega (arith, length-append (byte_bits b) (zeros k), length-replicate k false)))
        ∙ ap (drop (k + 1)) (append_assoc (byte_bits b) (zeros k) (zeros 1) ∙ ap (λ x. byte_bits b ++ x) (replicate-append-replicate k 1 false))
        ∙ ap (λ n. drop n (byte_bits b ++ zeros n)) (add-one k)

-- ONE BYTE

pub bit_of : (a k : ℕ) → k < 8 → get_or (byte_bits a) k false ≡ eqb (bit_and (a / 2 ^ (7 - k)) 1) 1
unfolding byte_bits
bit_of a k h =
    below_eight (λ k. get_or (byte_bits a) k false ≡ odd (a / 2 ^ (7 - k))) refl refl refl refl refl refl refl (ap odd (sym (div-one a))) k h
    ∙ ap (λ x. eqb x 1) (sym (and_mask (a / 2 ^ (7 - k)) 1))

pub bit_set : (a k : ℕ) → k < 8 → bits_of (bit_or a (128 / 2 ^ k) ∷ []) ≡ splice (bits_of (a ∷ [])) k (true ∷ [])
unfolding byte_bits bits_of zip_with
bit_set a =
    below_eight (λ k. bits_of (bit_or a (128 / 2 ^ k) ∷ []) ≡ splice (bits_of (a ∷ [])) k (true ∷ []))
    (bits_or a 128) (bits_or a 64) (bits_or a 32) (bits_or a 16) (bits_or a 8) (bits_or a 4) (bits_or a 2) (bits_or a 1)

pub bit_cleared : (a k : ℕ) → k < 8 → bits_of (bit_and a (255 - 128 / 2 ^ k) ∷ []) ≡ splice (bits_of (a ∷ [])) k (false ∷ [])
unfolding byte_bits bits_of zip_with
bit_cleared a =
    below_eight (λ k. bits_of (bit_and a (255 - 128 / 2 ^ k) ∷ []) ≡ splice (bits_of (a ∷ [])) k (false ∷ []))
    (bits_and a 127) (bits_and a 191) (bits_and a 223) (bits_and a 239) (bits_and a 247) (bits_and a 251) (bits_and a 253) (bits_and a 254)

-- TWO NEIGHBOURS

abbrev Read : ℕ → ℕ → ℕ → Type 0
Read a b k = zip_with ◌||◌ (take 8 (zeros (8 - k) ++ byte_bits b)) (drop k (byte_bits a ++ zeros k)) ≡ take 8 (drop k (bits_of (a ∷ b ∷ [])))

pub byte_read : (a b k : ℕ) → a < 256 → b < 256 → k < 8 → byte_bits (bit_or (a * 2 ^ k % 256) (b / 2 ^ (8 - k))) ≡ take 8 (drop k (bits_of (a ∷ b ∷ [])))
unfolding byte_bits bits_of zip_with
byte_read a b k ha hb h =
    bits_or (a * 2 ^ k % 256) (b / 2 ^ (8 - k)) ∙ ap₂ (zip_with ◌||◌) (right_bits (8 - k) b hb) (left_bits k a ha)
    ∙ below_eight (Read a b) refl (simp or-false) (simp or-false) (simp or-false) (simp or-false) (simp or-false) (simp or-false) (simp or-false) k h

abbrev Put : ℕ → ℕ → ℕ → ℕ → Type 0
Put a b v k =
    zip_with ◌||◌ (take 8 (zeros k ++ byte_bits v)) (zip_with ◌&&◌ (byte_bits (255 - 255 / 2 ^ k)) (byte_bits a))
    ++ (zip_with ◌||◌ (drop (8 - k) (byte_bits v ++ zeros (8 - k))) (zip_with ◌&&◌ (byte_bits (255 / 2 ^ k)) (byte_bits b)) ++ [])
    ≡ splice (bits_of (a ∷ b ∷ [])) k (byte_bits v)

pub byte_put : (a b v k : ℕ) → v < 256 → k < 8
    → bits_of (bit_or (bit_and a (255 - 255 / 2 ^ k)) (v / 2 ^ k) ∷ bit_or (bit_and b (255 / 2 ^ k)) (v * 2 ^ (8 - k) % 256) ∷ []) ≡ splice (bits_of (a ∷ b ∷ [])) k (byte_bits v)
unfolding byte_bits bits_of zip_with
byte_put a b v k hv h =
    ap₂ (λ x y. x ++ (y ++ []))
    (bits_or (bit_and a (255 - 255 / 2 ^ k)) (v / 2 ^ k) ∙ ap₂ (zip_with ◌||◌) (right_bits k v hv) (bits_and a (255 - 255 / 2 ^ k)))
    (bits_or (bit_and b (255 / 2 ^ k)) (v * 2 ^ (8 - k) % 256) ∙ ap₂ (zip_with ◌||◌) (left_bits (8 - k) v hv) (bits_and b (255 / 2 ^ k)))
    ∙ below_eight (Put a b v) (simp or-false) (simp or-false) (simp or-false) (simp or-false) (simp or-false) (simp or-false) (simp or-false) (simp or-false) k h
