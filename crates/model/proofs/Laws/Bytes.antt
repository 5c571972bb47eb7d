-- Laws of bytes, bits and records: for all widths together, the bits of a number say the number, bytes are their bits, and records are their bytes.
use Rattle.std.specs.Prelude.{◌≡◌, refl, List, [], ◌∷◌, ◌++◌, Bool, true, false, ℕ, zero, suc, ◌+◌, ◌-◌, ◌*◌, ◌/◌, ◌%◌, ◌≤◌, ◌<◌, ◌^◌, leb, eqb, length, take, drop}
use Rattle.std.proofs.Common.{sym, ap, ap₂, ◌∙◌, append_assoc, arith, mod-lt, zero-add, suc-add, zero-mul, one-mul, add-mul, le_trans, lit<, pow-add, length-append, length-take, length-drop, take-append-drop, leb-true, leb-false, le-leb}
use Rattle.std.proofs.Math.Nat.{two-pow-succ, sub-zero, pow-le-pow_right}
use Rattle.std.proofs.lemmas.List.{length-replicate}
use Rattle.std.proofs.lemmas.Bool.{lt-leb}
use Rattle.model.specs.Bytes.{Bytes, weight, to_bits, of_bits, odd, byte_bits, bits_of, pack, zeros, bytes_for, fill, number, in_bytes}

-- BITS OF A NUMBER

pub length_to_bits : (w n : ℕ) → length (to_bits w n) ≡ w
unfolding to_bits
length_to_bits zero n = refl
length_to_bits (suc w) n = ap suc (length_to_bits w _)

pub of_bits_bound : (bs : List Bool) → of_bits bs < 2 ^ length bs
unfolding of_bits
of_bits_bound [] = omega arith
of_bits_bound (true ∷ bs) = omega (arith, two-pow-succ (length bs), of_bits_bound bs)
of_bits_bound (false ∷ bs) = omega (arith, two-pow-succ (length bs), of_bits_bound bs)

pub of_bits_to_bits : (w n : ℕ) → n < 2 ^ w → of_bits (to_bits w n) ≡ n
unfolding of_bits to_bits
of_bits_to_bits zero n h = omega arith
of_bits_to_bits (suc w) n h = rw (length_to_bits w (n - weight (leb (2 ^ w) n) w)) (go (leb (2 ^ w) n) refl (of_bits_to_bits w))
  where
    go : (b : Bool) → leb (2 ^ w) n ≡ b → ((m : ℕ) → m < 2 ^ w → of_bits (to_bits w m) ≡ m) → weight b w + of_bits (to_bits w (n - weight b w)) ≡ n
    go true q rec = let l : 2 ^ w ≤ n = leb-true _ _ q in omega (arith, rec (n - 2 ^ w) (omega (arith, two-pow-succ w)))
    go false q rec = let l : n < 2 ^ w = leb-false _ _ q in omega (arith, rec (n - 0) (omega arith))

pub to_bits_of_bits : (bs : List Bool) → to_bits (length bs) (of_bits bs) ≡ bs
unfolding of_bits to_bits
to_bits_of_bits [] = refl
to_bits_of_bits (true ∷ bs) = rw (le-leb (2 ^ length bs) (2 ^ length bs + of_bits bs) (omega arith)) (ap {B = List Bool} (λ l. true ∷ l) (ap (to_bits (length bs)) (omega arith) ∙ to_bits_of_bits bs))
to_bits_of_bits (false ∷ bs) = rw (lt-leb (2 ^ length bs) (0 + of_bits bs) (omega (arith, of_bits_bound bs))) (ap {B = List Bool} (λ l. false ∷ l) (ap (to_bits (length bs)) (omega arith) ∙ to_bits_of_bits bs))

-- a number that fits w bits has zeros before them
pub to_bits_wider : (k w n : ℕ) → n < 2 ^ w → to_bits (k + w) n ≡ zeros k ++ to_bits w n
unfolding to_bits
to_bits_wider zero w n h = ap (λ m. to_bits m n) (zero-add w)
to_bits_wider (suc k) w n h =
    let q : n < 2 ^ (k + w) = le_trans h (pow-le-pow_right (omega arith) (omega arith)) in
    ap (λ m. to_bits m n) (suc-add k w) ∙ rw (lt-leb (2 ^ (k + w)) n q) (ap {B = List Bool} (λ l. false ∷ l) (ap (to_bits (k + w)) (sub-zero n) ∙ to_bits_wider k w n h))

-- BITS OF BYTES

digit : (x w : ℕ) → x < 2 → weight (eqb x 1) w ≡ x * 2 ^ w
digit zero w h = sym (zero-mul (2 ^ w))
digit (suc zero) w h = sym (one-mul (2 ^ w))
digit (suc (suc x)) w h = absurd (omega arith)

weight_odd : (n w : ℕ) → weight (odd n) w ≡ n % 2 * 2 ^ w
weight_odd n w = digit (n % 2) w (mod-lt n (lit< tt))

eight_digits : (b : ℕ) → b < 256 → b / 128 % 2 * 128 + (b / 64 % 2 * 64 + (b / 32 % 2 * 32 + (b / 16 % 2 * 16 + (b / 8 % 2 * 8 + (b / 4 % 2 * 4 + (b / 2 % 2 * 2 + (b % 2 * 1 + 0))))))) ≡ b
eight_digits b h =
    sum b (b / 2) (b / 4) (b / 8) (b / 16) (b / 32) (b / 64) (b / 128) _ _ _ _ _ _ _ _
    (omega arith) (omega arith) (omega arith) (omega arith) (omega arith) (omega arith) (omega arith) (omega arith)
  where
    sum : (b q₁ q₂ q₃ q₄ q₅ q₆ q₇ d₀ d₁ d₂ d₃ d₄ d₅ d₆ d₇ : ℕ)
        → b ≡ q₁ * 2 + d₀ → q₁ ≡ q₂ * 2 + d₁ → q₂ ≡ q₃ * 2 + d₂ → q₃ ≡ q₄ * 2 + d₃ → q₄ ≡ q₅ * 2 + d₄ → q₅ ≡ q₆ * 2 + d₅ → q₆ ≡ q₇ * 2 + d₆ → q₇ ≡ d₇
        → d₇ * 128 + (d₆ * 64 + (d₅ * 32 + (d₄ * 16 + (d₃ * 8 + (d₂ * 4 + (d₁ * 2 + (d₀ * 1 + 0))))))) ≡ b
    sum b q₁ q₂ q₃ q₄ q₅ q₆ q₇ d₀ d₁ d₂ d₃ d₄ d₅ d₆ d₇ e₀ e₁ e₂ e₃ e₄ e₅ e₆ e₇ = omega arith

pub byte_number : (b : ℕ) → b < 256 → of_bits (byte_bits b) ≡ b
unfolding byte_bits of_bits
byte_number b h = simp weight_odd (eight_digits b h)

-- the bits of a byte are those of its number
pub byte_to_bits : (b : ℕ) → b < 256 → to_bits 8 b ≡ byte_bits b
unfolding byte_bits
byte_to_bits b h = ap (to_bits 8) (sym (byte_number b h)) ∙ to_bits_of_bits (byte_bits b)

pub length_bits_of : (l : List ℕ) → length (bits_of l) ≡ 8 * length l
unfolding bits_of byte_bits
length_bits_of [] = refl
length_bits_of (b ∷ l) = omega (arith, length_bits_of l)

pub bits_of_append : (l m : List ℕ) → bits_of (l ++ m) ≡ bits_of l ++ bits_of m
unfolding bits_of
bits_of_append [] m = refl
bits_of_append (b ∷ l) m = ap (λ x. byte_bits b ++ x) (bits_of_append l m) ∙ sym (append_assoc (byte_bits b) (bits_of l) (bits_of m))

-- PACKING

eight_bits : (xs : List Bool) → length xs ≡ 8 → byte_bits (of_bits xs) ≡ xs
eight_bits xs h =
    let q : of_bits xs < 2 ^ 8 = rw h at (of_bits_bound xs) in
    sym (byte_to_bits (of_bits xs) q) ∙ rw h at (to_bits_of_bits xs)

module _ (k : ℕ) (xs : List Bool) (h : length xs ≡ 8 * suc k) where
  first_eight : length (take 8 xs) ≡ 8
  first_eight = length-take 8 xs ∙ omega arith

  others : length (drop 8 xs) ≡ 8 * k
  others = length-drop 8 xs ∙ omega arith

pub bits_of_pack : (k : ℕ) (xs : List Bool) → length xs ≡ 8 * k → bits_of (pack k xs) ≡ xs
unfolding pack bits_of
bits_of_pack zero [] h = refl
bits_of_pack zero (x ∷ xs) h = absurd (omega arith)
bits_of_pack (suc k) xs h = ap₂ ◌++◌ (eight_bits (take 8 xs) (first_eight k xs h)) (bits_of_pack k (drop 8 xs) (others k xs h)) ∙ take-append-drop 8 xs

pub bytes_pack : (k : ℕ) (xs : List Bool) → length xs ≡ 8 * k → Bytes (pack k xs)
unfolding pack
bytes_pack zero xs h = tt
bytes_pack (suc k) xs h = (rw (first_eight k xs h) at (of_bits_bound (take 8 xs)), bytes_pack k (drop 8 xs) (others k xs h))

pub length_pack : (k : ℕ) (xs : List Bool) → length (pack k xs) ≡ k
unfolding pack
length_pack zero xs = refl
length_pack (suc k) xs = ap suc (length_pack k (drop 8 xs))

pub pack_bits_of : (l : List ℕ) → Bytes l → pack (length l) (bits_of l) ≡ l
unfolding pack bits_of byte_bits
pack_bits_of [] h = refl
pack_bits_of (b ∷ l) h = ap₂ {C = List ℕ} ◌∷◌ (byte_number b h.0) (pack_bits_of l h.1)

-- bytes are told by their bits
pub bits_of_injective : (l m : List ℕ) → Bytes l → Bytes m → length l ≡ length m → bits_of l ≡ bits_of m → l ≡ m
bits_of_injective l m h k n e = sym (pack_bits_of l h) ∙ ap₂ pack n e ∙ pack_bits_of m k

-- FILLING THE LAST BYTE

pub record Filled (l : List Bool) : Type 0 where
  pub bits : bits_of (fill l) ≡ l ++ zeros (8 * bytes_for (length l) - length l)
  pub size : length (fill l) ≡ bytes_for (length l)
  pub bytes : Bytes (fill l)

pub filled : (l : List Bool) → Filled l
unfolding fill
filled l = record { bits = bits_of_pack (bytes_for (length l)) (l ++ z) whole; size = length_pack (bytes_for (length l)) (l ++ z); bytes = bytes_pack (bytes_for (length l)) (l ++ z) whole }
  where
    z : List Bool
    z = zeros (8 * bytes_for (length l) - length l)

    whole : length (l ++ zeros (8 * bytes_for (length l) - length l)) ≡ 8 * bytes_for (length l)
    whole = length-append l z ∙ ap (λ n. length l + n) (length-replicate (8 * bytes_for (length l) - length l) false) ∙ omega arith

-- bytes whose bits are these and zeros are these filled
pub filled_is : (l : List Bool) (file : List ℕ) → Bytes file → length file ≡ bytes_for (length l) → bits_of file ≡ l ++ zeros (8 * bytes_for (length l) - length l) → file ≡ fill l
filled_is l file b n e = let f = filled l in bits_of_injective file (fill l) b f.bytes (n ∙ sym f.size) (e ∙ sym f.bits)

-- NUMBERS IN BYTES

pub number_in_bytes : (k n : ℕ) → n < 2 ^ (8 * k) → number (in_bytes k n) ≡ n
unfolding number in_bytes
number_in_bytes k n h = ap of_bits (bits_of_pack k (to_bits (8 * k) n) (length_to_bits (8 * k) n)) ∙ of_bits_to_bits (8 * k) n h

pub in_bytes_number : (k : ℕ) (l : List ℕ) → length l ≡ k → Bytes l → in_bytes k (number l) ≡ l
unfolding number in_bytes
in_bytes_number k l h b =
    ap (pack k) (ap (λ n. to_bits n (of_bits (bits_of l))) (sym (length_bits_of l ∙ ap (λ n. 8 * n) h)) ∙ to_bits_of_bits (bits_of l)) ∙ ap (λ n. pack n (bits_of l)) (sym h) ∙ pack_bits_of l b

pub length_in_bytes : (k n : ℕ) → length (in_bytes k n) ≡ k
unfolding in_bytes
length_in_bytes k n = length_pack k (to_bits (8 * k) n)

pub bytes_in_bytes : (k n : ℕ) → Bytes (in_bytes k n)
unfolding in_bytes
bytes_in_bytes k n = bytes_pack k (to_bits (8 * k) n) (length_to_bits (8 * k) n)

weight_shift : (x : Bool) (m n : ℕ) → weight x (m + n) ≡ weight x m * 2 ^ n
weight_shift true m n = pow-add 2 m n
weight_shift false m n = sym (zero-mul (2 ^ n))

of_bits_append : (xs ys : List Bool) → of_bits (xs ++ ys) ≡ of_bits xs * 2 ^ length ys + of_bits ys
unfolding of_bits
of_bits_append [] ys = omega (arith, zero-mul (2 ^ length ys))
of_bits_append (x ∷ xs) ys =
    ap₂ ◌+◌ (ap (weight x) (length-append xs ys) ∙ weight_shift x (length xs) (length ys)) (of_bits_append xs ys)
    ∙ omega (arith, add-mul (weight x (length xs)) (of_bits xs) (2 ^ length ys))

-- high byte first
pub number_cons : (b : ℕ) (l : List ℕ) → b < 256 → number (b ∷ l) ≡ b * 2 ^ (8 * length l) + number l
unfolding number bits_of
number_cons b l h = of_bits_append (byte_bits b) (bits_of l) ∙ ap₂ (λ x n. x * 2 ^ n + of_bits (bits_of l)) (byte_number b h) (length_bits_of l)

-- the bits of an integer in bytes are zeros and then the integer's own, for every width
pub integer_bits : (w : ℕ) (l : List ℕ) → w ≤ 8 * length l → number l < 2 ^ w → bits_of l ≡ zeros (8 * length l - w) ++ to_bits w (number l)
unfolding number
integer_bits w l h k =
    sym (to_bits_of_bits (bits_of l)) ∙ ap (λ n. to_bits n (of_bits (bits_of l))) (length_bits_of l ∙ omega arith) ∙ to_bits_wider (8 * length l - w) w (of_bits (bits_of l)) k
