-- Contents written byte by byte: each byte of s gives some bytes of text, one after the other.
use Rattle.std.specs.Prelude.{◌≡◌, refl, List, [], ◌∷◌, ◌++◌, map, ℕ, ◌+◌, ◌*◌, ◌/◌, ◌%◌, ◌≤◌, ◌<◌, length, get_or, take, drop, set}
use Rattle.std.proofs.Common.{sym, ap, ◌∙◌, append_assoc, append-nil, add-one, arith, lt-ltb, le-ltb, length-append, take-append-drop, take-suc, take_all}
use Rattle.model.specs.Options.{flat_map}
use Rattle.structural.specs.Writing.{Wrote}
use Rattle.structural.proofs.Laws.Writing.{wrote_none, wrote_set, wrote_length, wrote_as}
use Rattle.text.specs.Lines.{digit, hex_digit, hex, in_digits, in_hex}

-- what stands for a byte: among records a digit, in a frame two digits
abbrev pub as_digit : ℕ → List ℕ
as_digit b = digit b ∷ []

-- the text of the first i bytes of s is written, k bytes; there is room for that of all
pub record Passed (g : ℕ → List ℕ) (s out o : List ℕ) (i k : ℕ) : Type 0 where
  pub inside : i ≤ length s
  pub room : length (flat_map g s) ≤ length out
  pub wrote : Wrote (flat_map g (take i s)) out o k

module _ (g : ℕ → List ℕ) where
  flat_append : (l m : List ℕ) → flat_map g (l ++ m) ≡ flat_map g l ++ flat_map g m
  flat_append [] m = refl
  flat_append (b ∷ l) m = ap (λ t. g b ++ t) (flat_append l m) ∙ sym (append_assoc (g b) (flat_map g l) (flat_map g m))

  front_short : (s : List ℕ) (i : ℕ) → length (flat_map g (take i s)) ≤ length (flat_map g s)
  front_short s i =
      let e = ap (λ l. length (flat_map g l)) (take-append-drop i s) in
      let f = ap length (flat_append (take i s) (drop i s)) in
      omega (arith, length-append (flat_map g (take i s)) (flat_map g (drop i s)))

  front_next : (s : List ℕ) (i : ℕ) → i < length s → flat_map g (take (i + 1) s) ≡ flat_map g (take i s) ++ g (get_or s i 0)
  front_next s i h =
      ap (λ n. flat_map g (take n s)) (add-one i)
      ∙ ap (flat_map g) (take-suc s i 0 h)
      ∙ flat_append (take i s) (get_or s i 0 ∷ [])
      ∙ ap (λ t. flat_map g (take i s) ++ t) (append-nil (g (get_or s i 0)))

  none_passed : (s out : List ℕ) → length (flat_map g s) ≤ length out → Passed g s out out 0 0
  none_passed s out h = record { inside = omega arith; room = h; wrote = wrote_none out }

module _ {g : ℕ → List ℕ} {s out o : List ℕ} {i k : ℕ} (p : Passed g s out o i k) where
  pub passed_length : length o ≡ length out
  passed_length = wrote_length p.wrote (omega (arith, front_short g s i, p.room))

  next_room : i < length s → k + length (g (get_or s i 0)) ≤ length out
  next_room h =
      let e = ap length (front_next g s i h) in
      let f = length-append (flat_map g (take i s)) (g (get_or s i 0)) in
      omega (arith, front_short g s (i + 1), p.room, p.wrote.len)

  pub next_fits : i < length s → k + length (g (get_or s i 0)) ≤ length o
  next_fits h = let r = next_room h in omega (arith, passed_length)

  all_passed : length s ≤ i → Wrote (flat_map g s) out o k
  all_passed h = wrote_as (ap (flat_map g) (sym (take_all i s h))) p.wrote

-- a byte for a byte
pub one_passed : {f : ℕ → ℕ} {s out o : List ℕ} {i k : ℕ} → Passed (λ b. f b ∷ []) s out o i k → i < length s → Passed (λ b. f b ∷ []) s out (set o k (f (get_or s i 0))) (i + 1) (k + 1)
one_passed {f} {s} {i = i} p h =
    record { inside = omega arith; room = p.room; wrote = wrote_as (front_next (λ b. f b ∷ []) s i h) (wrote_set p.wrote (f (get_or s i 0)) (let r = next_room p h in omega arith)) }

-- two bytes for a byte
pub hex_passed : {s out o : List ℕ} {i a b : ℕ} → Passed hex s out o i (2 * i) → i < length s → a ≡ hex_digit (get_or s i 0 / 16) → b ≡ hex_digit (get_or s i 0 % 16)
    → Passed hex s out (set (set o (2 * i) a) (2 * i + 1) b) (i + 1) (2 * (i + 1))
unfolding hex
hex_passed {s} {out} {o} {i} {a} {b} p h e f =
    let r = next_room p h in
    let x = flat_map hex (take i s) in
    let w : Wrote ((x ++ (a ∷ [])) ++ (b ∷ [])) out (set (set o (2 * i) a) (2 * i + 1) b) (2 * i + 1 + 1) = wrote_set (wrote_set p.wrote a (omega arith)) b (omega arith) in
    let n : 2 * i + 1 + 1 ≡ 2 * (i + 1) = omega arith in
    let d : x ++ hex (get_or s i 0) ≡ (x ++ (a ∷ [])) ++ (b ∷ []) = rw (append_assoc, e, f) in
    record { inside = omega arith; room = p.room; wrote = wrote_as (front_next hex s i h ∙ d) (rw n at w) }

pub hex_fits : {s out o : List ℕ} {i k : ℕ} → Passed hex s out o i k → i < length s → k + 2 ≤ length o
unfolding hex
hex_fits p h = next_fits p h

-- what is written when all are passed
flat_digits : (l : List ℕ) → map digit l ≡ flat_map as_digit l
flat_digits [] = refl
flat_digits (b ∷ l) = ap (λ t. digit b ∷ t) (flat_digits l)

pub digits_passed : {s out o : List ℕ} {i : ℕ} → Passed as_digit s out o i i → length s ≤ i → Wrote (in_digits s) out o (length s)
unfolding in_digits
digits_passed {s} {i = i} p h =
    let n : i ≡ length s = omega (arith, p.inside) in
    let w = all_passed p h in
    wrote_as (flat_digits s) (rw n at w)

pub hexes_passed : {s out o : List ℕ} {i : ℕ} → Passed hex s out o i (2 * i) → length s ≤ i → Wrote (in_hex s) out o (2 * length s)
unfolding in_hex
hexes_passed {s} {i = i} p h =
    let n : i ≡ length s = omega (arith, p.inside) in
    let w = all_passed p h in
    rw n at w

-- there is room from the start
pub digits_start : (s out : List ℕ) → length (in_digits s) ≤ length out → Passed as_digit s out out 0 0
unfolding in_digits
digits_start s out h = none_passed as_digit s out (omega (arith, ap length (flat_digits s)))

pub hexes_start : (s out : List ℕ) → length (in_hex s) ≤ length out → Passed hex s out out 0 0
unfolding in_hex
hexes_start s out h = none_passed hex s out h

-- a hexadecimal digit by the test
pub low_digit : (d : ℕ) → d < 10 → 48 + d ≡ hex_digit d
unfolding hex_digit
low_digit d h = rw (lt-ltb d 10 h)

pub high_digit : (d : ℕ) → 10 ≤ d → 87 + d ≡ hex_digit d
unfolding hex_digit
high_digit d h = rw (le-ltb d 10 h)
