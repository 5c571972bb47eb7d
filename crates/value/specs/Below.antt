-- An integer is below 2 ^ w if the bytes before its last w bits are zero, and the byte in which these begin is small enough. Assumes nothing.
use Rattle.std.specs.Prelude.{◌≡◌, List, Bool, length, get_or, drop, ltb}
use Rattle.std.proofs.Math.Path.{refl}
use Rattle.std.proofs.Common.{sym, ap, ◌∙◌, mul-le-mul_right, suc-mul, pow-add, arith, length-take, length-drop, drop-cons, get_or-take, get_or-drop, ltb-true, ltb-false, lt-ltb, le-ltb, eqb-true, Fits}
use Rattle.std.proofs.Math.Bool.{true, false}
use Prim.Native.Nat.{ℕ, zero, suc, ◌+◌, ◌-◌, ◌*◌, ◌/◌, ◌%◌, ◌<◌, ◌≤◌, ◌^◌}
use Rattle.std.proofs.Math.Nat.{pow-le-pow_right}
use Rattle.std.proofs.Math.Numerals.{add-one}
use Rattle.std.proofs.Math.Dec.{eqb}
use Rattle.std.proofs.lemmas.Bool.{eqb-false}
use Rattle.std.specs.Int.{w8}
use Rattle.model.specs.Bytes.{bits_of, number}
use Rattle.model.specs.Options.{pick}
use Rattle.model.proofs.Laws.Bytes.{of_bits_bound, length_bits_of, number_cons}
use Rattle.value.specs.Record.{integer_bytes, below, clear}

pub length_integer : (s : List ℕ) (v : ℕ) → v < length s / 36 → length (integer_bytes s v) ≡ 32
unfolding integer_bytes
length_integer s v h = simp (length-take, length-drop) (omega arith)

integer_byte : (s : List ℕ) (v i : ℕ) → i < 32 → get_or (integer_bytes s v) i 0 ≡ get_or s (v * 36 + 4 + i) 0
unfolding integer_bytes
integer_byte s v i h = get_or-take 32 (drop (v * 36 + 4) s) i 0 h ∙ get_or-drop (v * 36 + 4) s i 0

number_bound : (l : List ℕ) → number l < 2 ^ (8 * length l)
unfolding number
number_bound l = rw (length_bits_of l) at (of_bits_bound (bits_of l))

-- the number from byte i on
number_from : (l : List ℕ) (i : ℕ) → i < length l → get_or l i 0 < 256 → number (drop i l) ≡ get_or l i 0 * 2 ^ (8 * length (drop (i + 1) l)) + number (drop (i + 1) l)
number_from l i h b = rw (drop-cons l i 0 h, ← add-one i) (number_cons (get_or l i 0) (drop (i + 1) l) b)

-- how many bytes are zero for sure
abbrev lead_of : ℕ → ℕ
lead_of w = 32 - (w + 7) / 8

times_zero : (b P n : ℕ) → b ≡ 0 → b * P + n ≡ n
times_zero b P n e = rw e (omega arith)

times_some : (b P n q : ℕ) → (b ≡ 0 → ⊥) → q ≤ P → q ≤ b * P + n
times_some zero P n q h l = absurd (h refl)
times_some (suc b) P n q h l = let m : suc b * P ≡ b * P + P = suc-mul b P in omega arith

-- a first digit decides
digit : (x P n Q : ℕ) → n < P → ltb x Q ≡ ltb (x * P + n) (Q * P)
digit x P n Q h = go (ltb x Q) refl
  where
    go : (b : Bool) → ltb x Q ≡ b → ltb x Q ≡ ltb (x * P + n) (Q * P)
    go true p =
        let l = ltb-true x Q p in
        let m : suc x * P ≤ Q * P = mul-le-mul_right {m = suc x} {n = Q} P (omega arith) in
        let k : suc x * P ≡ x * P + P = suc-mul x P in
        p ∙ sym (lt-ltb (x * P + n) (Q * P) (omega (arith, m, k)))
    go false p =
        let l = ltb-false x Q p in
        let m : Q * P ≤ x * P = mul-le-mul_right {m = Q} {n = x} P l in
        p ∙ sym (le-ltb (x * P + n) (Q * P) (omega (arith, m)))

-- what is known of the integer where its first i bytes are zero, and where they are not
abbrev Leading : List ℕ → ℕ → ℕ → ℕ → Bool → Type 0
Leading s v w i true = below s v w ≡ ltb (number (drop i (integer_bytes s v))) (2 ^ w)
Leading s v w i false = below s v w ≡ false

module _ (s : List ℕ) (v w i : ℕ) (r : Leading s v w i true) (h : v < length s / 36) (o : i < lead_of w) (c : get_or s (v * 36 + 4 + i) 0 < 256) where
  from_here : number (drop i (integer_bytes s v)) ≡ get_or s (v * 36 + 4 + i) 0 * 2 ^ (8 * length (drop (i + 1) (integer_bytes s v))) + number (drop (i + 1) (integer_bytes s v))
  from_here = let n = length_integer s v h in let d = integer_byte s v i (omega arith) in rw d at (number_from (integer_bytes s v) i (omega arith) (omega arith))

  leading_next : get_or s (v * 36 + 4 + i) 0 ≡ 0 → Leading s v w (i + 1) true
  leading_next z = r ∙ ap (λ n. ltb n (2 ^ w)) (from_here ∙ times_zero (get_or s (v * 36 + 4 + i) 0) (2 ^ (8 * length (drop (i + 1) (integer_bytes s v)))) (number (drop (i + 1) (integer_bytes s v))) z)

  leading_stop : (get_or s (v * 36 + 4 + i) 0 ≡ 0 → ⊥) → below s v w ≡ false
  leading_stop z =
      let n = length_integer s v h in
      let l : length (drop (i + 1) (integer_bytes s v)) ≡ 32 - (i + 1) = simp length-drop (rw n) in
      let m : 2 ^ w ≤ 2 ^ (8 * length (drop (i + 1) (integer_bytes s v))) = pow-le-pow_right {n = 2} (omega arith) {i = w} {j = 8 * length (drop (i + 1) (integer_bytes s v))} (omega arith) in
      r ∙ le-ltb (number (drop i (integer_bytes s v))) (2 ^ w) (rw from_here (times_some (get_or s (v * 36 + 4 + i) 0) (2 ^ (8 * length (drop (i + 1) (integer_bytes s v)))) (number (drop (i + 1) (integer_bytes s v))) (2 ^ w) z m))

module _ (s : List ℕ) (v w : ℕ) (h : v < length s / 36) (k : w ≤ 256) (c : (i : ℕ) → get_or s i 0 < 256) where
  leading : (i : ℕ) → i ≤ lead_of w → Leading s v w i (clear s (v * 36 + 4) i)
  unfolding below clear
  leading zero o = refl
  leading (suc i) o = go (eqb (get_or s (v * 36 + 4 + i) 0) 0) refl (clear s (v * 36 + 4) i) (leading i (omega arith))
    where
      go : (p : Bool) → eqb (get_or s (v * 36 + 4 + i) 0) 0 ≡ p → (q : Bool) → Leading s v w i q → Leading s v w (suc i) (pick p q false)
      go true e true r = rw add-one at (leading_next s v w i r h (omega arith) (c _) (eqb-true _ 0 e))
      go true e false r = r
      go false e true r = leading_stop s v w i r h (omega arith) (c _) (eqb-false _ 0 e)
      go false e false r = r

  at_lead : (x : Bool) → x ≡ clear s (v * 36 + 4) (lead_of w) → Leading s v w (lead_of w) x
  at_lead x e = rw e (leading (lead_of w) (omega arith))

  -- a byte before the last w bits is not zero
  pub lead_stops : (x : Bool) → x ≡ clear s (v * 36 + 4) (lead_of w) → x ≡ false → false ≡ below s v w
  lead_stops x e f = sym (at_lead false (sym f ∙ e))

  -- the last w bits are whole bytes
  pub lead_decides : (x : Bool) → x ≡ clear s (v * 36 + 4) (lead_of w) → w % 8 ≡ 0 → x ≡ below s v w
  lead_decides true e z =
      let n = length_integer s v h in
      let l : length (drop (lead_of w) (integer_bytes s v)) ≡ 32 - lead_of w = simp length-drop (rw n) in
      let f : 8 * length (drop (lead_of w) (integer_bytes s v)) ≡ w = omega arith in
      sym (at_lead true e ∙ lt-ltb (number (drop (lead_of w) (integer_bytes s v))) (2 ^ w) (rw f at (number_bound (drop (lead_of w) (integer_bytes s v)))))
  lead_decides false e z = sym (at_lead false e)

  -- they begin within a byte
  module _ (x : Bool) (g : x ≡ clear s (v * 36 + 4) (lead_of w)) (y : x ≡ true) (z : w % 8 ≡ 0 → ⊥) (t p : ℕ) (e : t ≡ get_or s (v * 36 + 4 + lead_of w) 0) (q : p ≡ 2 ^ (w % 8)) where
    pub last_decides : ltb t p ≡ below s v w
    last_decides =
        let n = length_integer s v h in
        let l : length (drop (lead_of w + 1) (integer_bytes s v)) ≡ w / 8 = simp length-drop (rw n (omega arith)) in
        let d : get_or (integer_bytes s v) (lead_of w) 0 ≡ t = integer_byte s v (lead_of w) (omega arith) ∙ sym e in
        let b : t < 256 = rw e (c _) in
        let f : number (drop (lead_of w) (integer_bytes s v)) ≡ t * 2 ^ (8 * length (drop (lead_of w + 1) (integer_bytes s v))) + number (drop (lead_of w + 1) (integer_bytes s v)) = rw d at (number_from (integer_bytes s v) (lead_of w) (omega arith) (omega arith)) in
        let o : 2 ^ w ≡ p * 2 ^ (8 * length (drop (lead_of w + 1) (integer_bytes s v))) = split _ l in
        digit t (2 ^ (8 * length (drop (lead_of w + 1) (integer_bytes s v)))) (number (drop (lead_of w + 1) (integer_bytes s v))) p (number_bound (drop (lead_of w + 1) (integer_bytes s v))) ∙ sym (at_lead true (sym y ∙ g) ∙ rw (f, o))
      where
        split : (m : ℕ) → m ≡ w / 8 → 2 ^ w ≡ p * 2 ^ (8 * m)
        split m o = let a : w ≡ w % 8 + 8 * m = omega arith in ap (λ n. 2 ^ n) a ∙ pow-add 2 (w % 8) (8 * m) ∙ ap (λ n. n * 2 ^ (8 * m)) (sym q)

-- the bytes fit
abbrev pub Bytes : List ℕ → Type 0
Bytes s = (i : ℕ) → Fits w8 (get_or s i 0)

pub below_zero : (s : List ℕ) (v : ℕ) → v < length s / 36 → Bytes s → below s v 0 ≡ clear s (v * 36 + 4) 32
below_zero s v h f = sym (lead_decides s v 0 h (omega arith) (λ i. (f i).fits) (clear s (v * 36 + 4) 32) refl refl)

-- in the words of the code
pub below_lead : (s : List ℕ) (v w : ℕ) → v < length s / 36 → w ≤ 256 → Bytes s
    → below s v w ≡ pick (clear s (v * 36 + 4) (32 - (w + 7) / 8)) (pick (eqb (w % 8) 0) true (ltb (get_or s (v * 36 + 4 + (32 - (w + 7) / 8)) 0) (1 * 2 ^ (w % 8) % 2 ^ 64))) false
below_lead s v w h k f = go (clear s (v * 36 + 4) (lead_of w)) refl (eqb (w % 8) 0) refl
  where
    power : 1 * 2 ^ (w % 8) % 2 ^ 64 ≡ 2 ^ (w % 8)
    power = let b : 2 ^ (w % 8) ≤ 2 ^ 8 = pow-le-pow_right {n = 2} (omega arith) {i = w % 8} {j = 8} (omega arith) in omega arith

    go : (x : Bool) → x ≡ clear s (v * 36 + 4) (lead_of w) → (y : Bool) → eqb (w % 8) 0 ≡ y → below s v w ≡ pick x (pick y true (ltb (get_or s (v * 36 + 4 + lead_of w) 0) (1 * 2 ^ (w % 8) % 2 ^ 64))) false
    go true e true z = sym (lead_decides s v w h k (λ i. (f i).fits) true e (eqb-true _ 0 z))
    go true e false z = rw power (sym (last_decides s v w h k (λ i. (f i).fits) true e refl (eqb-false _ 0 z) _ _ refl refl))
    go false e y z = sym (lead_stops s v w h k (λ i. (f i).fits) false e refl)
