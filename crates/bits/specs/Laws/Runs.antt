-- A run of bits: its length, its first bit and its parts; and runs of zeros.
use Rattle.std.specs.Prelude.{◌≡◌, refl, ◌↔◌, Bool, true, false, List, [], ◌∷◌, ◌++◌, ℕ, ◌+◌, ◌-◌, ◌*◌, ◌≤◌, ◌<◌, not, length, take, drop, get_or}
use Rattle.std.proofs.Common.{sym, ap, ap₂, ◌∙◌, arith, add-zero, length-take, length-drop, drop-cons, drop-drop, take-add, take-take, drop_at}
use Rattle.std.proofs.Math.Bool.{or-false}
use Rattle.model.specs.Options.{any}
use Rattle.model.specs.Bytes.{byte_bits, bits_of, of_bits}
use Rattle.model.proofs.Laws.Bytes.{length_bits_of, byte_number}
use Rattle.model.proofs.Laws.Frames.{any_append, zeros_any}
use Rattle.bits.specs.Bits.{bits_at, Tells}

pub length_bits_at : (l : List ℕ) (at n : ℕ) → at + n ≤ 8 * length l → length (bits_at l at n) ≡ n
length_bits_at l at n h = simp (length-take, length-drop, length_bits_of) (omega arith)

pub bits_at_one : (l : List ℕ) (at : ℕ) → at < 8 * length l → bits_at l at 1 ≡ get_or (bits_of l) at false ∷ []
bits_at_one l at h = ap (take 1) (drop-cons (bits_of l) at false (omega (arith, length_bits_of l)))

pub bits_at_add : (l : List ℕ) (at m n : ℕ) → bits_at l at (m + n) ≡ bits_at l at m ++ bits_at l (at + m) n
bits_at_add l at m n = take-add m n (drop at (bits_of l)) ∙ ap (λ x. bits_at l at m ++ take n x) (drop-drop m at (bits_of l))

-- i bits, and the r behind them
pub bits_more : (l : List ℕ) (at i r n : ℕ) {s : List Bool} → s ≡ bits_at l (at + i) r → i + r ≡ n → bits_at l at i ++ s ≡ bits_at l at n
bits_more l at i r n e q = ap (λ x. bits_at l at i ++ x) e ∙ sym (bits_at_add l at i r) ∙ ap (bits_at l at) q

-- RUNS THAT ARE THE SAME

-- runs that are the same at first are the same as a whole if what is behind is
pub alike_behind : (l : List ℕ) (at : ℕ) (m : List ℕ) (from i n : ℕ) → bits_at l at i ≡ bits_at m from i → bits_at l (at + i) n ≡ bits_at m (from + i) n → bits_at l at (i + n) ≡ bits_at m from (i + n)
alike_behind l at m from i n e f = bits_at_add l at i n ∙ ap₂ ◌++◌ e f ∙ sym (bits_at_add m from i n)

-- and the runs behind them are the same if the whole is
pub behind_alike : (l : List ℕ) (at : ℕ) (m : List ℕ) (from i n : ℕ) → at + i ≤ 8 * length l → from + i ≤ 8 * length m → bits_at l at (i + n) ≡ bits_at m from (i + n) → bits_at l (at + i) n ≡ bits_at m (from + i) n
behind_alike l at m from i n h k e = sym (cut_off l at h) ∙ ap (drop i) e ∙ cut_off m from k
  where
    cut_off : (l : List ℕ) (at : ℕ) → at + i ≤ 8 * length l → drop i (bits_at l at (i + n)) ≡ bits_at l (at + i) n
    cut_off l at h = ap (drop i) (bits_at_add l at i n) ∙ drop_at (bits_at l at i) (bits_at l (at + i) n) i (length_bits_at l at i h)

-- and so is what stands within runs that are the same
pub alike_inside : (l : List ℕ) (at : ℕ) (m : List ℕ) (from i r n : ℕ) → i + r ≤ n → at + i ≤ 8 * length l → from + i ≤ 8 * length m → bits_at l at n ≡ bits_at m from n → bits_at l (at + i) r ≡ bits_at m (from + i) r
alike_inside l at m from i r n k h g e = behind_alike l at m from i r h g (run_take l at ∙ ap (take (i + r)) e ∙ sym (run_take m from))
  where
    run_take : (l : List ℕ) (at : ℕ) → bits_at l at (i + r) ≡ take (i + r) (bits_at l at n)
    run_take l at = sym (take-take (i + r) n (drop at (bits_of l)) k)

-- one bit
pub alike_one : (l : List ℕ) (at : ℕ) (m : List ℕ) (from : ℕ) → at < 8 * length l → from < 8 * length m → (bits_at l at 1 ≡ bits_at m from 1) ↔ (get_or (bits_of l) at false ≡ get_or (bits_of m) from false)
alike_one l at m from h k = ((λ e. let z : get_or (bits_of l) at false ∷ [] ≡ get_or (bits_of m) from false ∷ [] = sym (bits_at_one l at h) ∙ e ∙ bits_at_one m from k in cc), λ e. bits_at_one l at h ∙ ap (λ b. b ∷ []) e ∙ sym (bits_at_one m from k))

-- bytes are the same if their bits are
pub byte_alike : (a b : ℕ) → a < 256 → b < 256 → byte_bits a ≡ byte_bits b → a ≡ b
unfolding byte_bits of_bits
byte_alike a b h k e = sym (byte_number a h) ∙ ap of_bits e ∙ byte_number b k

-- what does not hold is told so
pub told_not : {P : Type 0} → (P → ⊥) → Tells false P
told_not f = record { yes = λ h. absurd (let z : ◌≡◌ {A = ℕ} 0 1 = cc in omega arith); no = λ _ p. f p }

-- RUNS OF ZEROS

pub any_behind : (xs ys : List Bool) → any xs ≡ false → any (xs ++ ys) ≡ any ys
any_behind [] ys h = refl
any_behind (true ∷ xs) ys h = absurd (let z : ◌≡◌ {A = ℕ} 0 1 = cc in omega arith)
any_behind (false ∷ xs) ys h = any_behind xs ys h

-- behind zeros the rest decides
pub run_behind : (l : List ℕ) (at m n : ℕ) → any (bits_at l at m) ≡ false → any (bits_at l at (m + n)) ≡ any (bits_at l (at + m) n)
run_behind l at m n e = ap any (bits_at_add l at m n) ∙ any_behind (bits_at l at m) (bits_at l (at + m) n) e

-- a bit that is 1 is one of the whole
pub any_inside : (l : List ℕ) (at i r n : ℕ) → i + r ≤ n → any (bits_at l (at + i) r) ≡ true → any (bits_at l at n) ≡ true
any_inside l at i r n h e = go (any (bits_at l at n)) refl
  where
    go : (x : Bool) → any (bits_at l at n) ≡ x → x ≡ true
    go true z = refl
    go false z =
        let q : i + (r + (n - i - r)) ≡ n = omega arith in
        let a = any_append (bits_at l at i) (bits_at l (at + i) (r + (n - i - r))) (sym (ap any (bits_at_add l at i (r + (n - i - r)))) ∙ ap (λ k. any (bits_at l at k)) q ∙ z) in
        let b = any_append (bits_at l (at + i) r) (bits_at l (at + i + r) (n - i - r)) (sym (ap any (bits_at_add l (at + i) r (n - i - r))) ∙ a.1) in
        sym b.0 ∙ e

-- and so is one of the front
pub one_in_front : (l : List ℕ) (at r n : ℕ) → r ≤ n → false ≡ not (any (bits_at l at r)) → false ≡ not (any (bits_at l at n))
one_in_front l at r n h e = sym (ap not (any_inside l at 0 r n (omega arith) (ap (λ k. any (bits_at l k r)) (add-zero at) ∙ is_one (any (bits_at l at r)) e)))
  where
    is_one : (b : Bool) → false ≡ not b → b ≡ true
    is_one true z = refl
    is_one false z = z

-- one bit
pub run_one : (l : List ℕ) (at : ℕ) → at < 8 * length l → any (bits_at l at 1) ≡ get_or (bits_of l) at false
run_one l at h = ap any (bits_at_one l at h) ∙ or-false (get_or (bits_of l) at false)

-- a byte that is not 0 has a bit that is 1
pub byte_any : (b : ℕ) → b < 256 → (b ≡ 0 → ⊥) → any (byte_bits b) ≡ true
unfolding byte_bits of_bits
byte_any b h n = go (any (byte_bits b)) refl
  where
    go : (x : Bool) → any (byte_bits b) ≡ x → x ≡ true
    go true e = refl
    go false e = absurd (n (sym (byte_number b h) ∙ ap of_bits (zeros_any (byte_bits b) e)))
