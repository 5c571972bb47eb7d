-- Laws of list bounds and bit widths: a look into the list of them is the model's test, and a bound is a power of two whose logarithm and half are known.
-- A value carries the proof that it is admitted; two values with the same number are one.
use Rattle.std.specs.Prelude.{◌≡◌, refl, Bool, true, false, ◌||◌, List, [], ◌∷◌, ◌⊎◌, ℕ, zero, suc, ◌+◌, ◌*◌, ◌/◌, ◌^◌, ◌≤◌, ◌<◌, eqb, Some, None}
use Rattle.std.proofs.Common.{sym, ap, subst, ◌∙◌, inl, inr, arith, eq-eqb, ne_eqb}
use Rattle.std.proofs.Math.Bool.{Bool-set}
use Rattle.std.proofs.Math.Option.{Option, none, some}
use Rattle.std.proofs.Math.Nat.{two-pow-succ, one-le-pow, pow-le-pow_right}
use Rattle.std.proofs.Math.Decide.{dec_le}
use Rattle.model.specs.Options.{pick, one_of, find}
use Rattle.model.specs.TypeFiles.{widths}
use Rattle.model.proofs.Laws.TypeFiles.{find_sound}
use Rattle.num.specs.declared.NonZeroPow2Usize.{NonZeroPow2Usize}
use Rattle.num.specs.declared.Pow2Usize.{Pow2Usize}
use Rattle.num.specs.Admitted.{bound_exponent, is_there, is_bound, is_width}
use Rattle.num.specs.Powers.{bound, bound_two, bound_if, bound_of, bound_log2, half_bound, width, width_if, width_of}

-- LISTED NUMBERS

-- n is one of these, as the arm of a `match` tells it
abbrev pub Among : ℕ → List ℕ → Type 0
Among n [] = ⊥
Among n (k ∷ []) = n ≡ k
Among n (k ∷ m ∷ ms) = (n ≡ k) ⊎ Among n (m ∷ ms)

or_true : (b : Bool) → b || true ≡ true
or_true true = refl
or_true false = refl

among : (n : ℕ) (ks : List ℕ) → Among n ks → one_of n ks ≡ true
among n [] h = absurd h
among n (k ∷ []) h = rw (eq-eqb n k h)
among n (k ∷ m ∷ ms) (inl h) = rw (eq-eqb n k h)
among n (k ∷ m ∷ ms) (inr h) = ap (λ b. eqb n k || b) (among n (m ∷ ms) h) ∙ or_true (eqb n k)

not_among : (n : ℕ) (ks : List ℕ) → (Among n ks → ⊥) → one_of n ks ≡ false
not_among n [] h = refl
not_among n (k ∷ []) h = rw (ne_eqb n k h)
not_among n (k ∷ m ∷ ms) h = rw (ne_eqb n k (λ e. h (inl e))) (not_among n (m ∷ ms) (λ e. h (inr e)))

-- f i, f (i + 1) ..
abbrev values : (ℕ → ℕ) → ℕ → ℕ → List ℕ
values f zero i = []
values f (suc fuel) i = f i ∷ values f fuel (suc i)

-- SEARCHES

-- in a rising sequence f k is found at k
find_first : (f : ℕ → ℕ) → ((i k : ℕ) → i < k → f i < f k) → (fuel i k : ℕ) → i ≤ k → k < i + fuel → find f fuel i (f k) ≡ some k
find_first f rise zero i k h m = absurd (omega arith)
find_first f rise (suc fuel) i k h m = go (dec_le k i) (λ q. find_first f rise fuel (suc i) k q (omega arith))
  where
    go : Dec (k ≤ i) → (i < k → find f fuel (suc i) (f k) ≡ some k) → pick (eqb (f k) (f i)) (some i) (find f fuel (suc i) (f k)) ≡ some k
    go (yes q) rest = let e : k ≡ i = omega arith in rw (e, eq-eqb (f i) (f i) refl)
    go (no q) rest = rw (ne_eqb (f k) (f i) (λ e. omega (arith, rise i k (omega arith)))) (rest (omega arith))

two_pow_rise : (i k : ℕ) → i < k → 2 ^ i < 2 ^ k
two_pow_rise i k h = let m : 2 ^ suc i ≤ 2 ^ k = pow-le-pow_right (omega arith) h in omega (arith, two-pow-succ i, one-le-pow i 2 (omega arith))

half_power : (e : ℕ) → 2 ^ suc e / 2 ≡ 2 ^ e
half_power e = omega (arith, two-pow-succ e)

-- LIST BOUNDS

-- what is searched for among the f k is one of them
found_in : (f : ℕ → ℕ) (fuel i n : ℕ) → is_there (find f fuel i n) ≡ one_of n (values f fuel i)
found_in f zero i n = refl
found_in f (suc fuel) i n = go (eqb n (f i)) (found_in f fuel (suc i) n)
  where
    go : (b : Bool) → is_there (find f fuel (suc i) n) ≡ one_of n (values f fuel (suc i)) → is_there (pick b (some i) (find f fuel (suc i) n)) ≡ b || one_of n (values f fuel (suc i))
    go true rest = refl
    go false rest = rest

-- the bounds: 2, 4 .. 32,768
abbrev pub all_bounds : List ℕ
all_bounds = values (λ e. 2 ^ suc e) 15 0

pub listed_bound : (n : ℕ) → Among n all_bounds → is_bound n ≡ true
listed_bound n h = found_in (λ e. 2 ^ suc e) 15 0 n ∙ among n all_bounds h

pub same_bound : (a b : NonZeroPow2Usize) → a.value ≡ b.value → a ≡ b
same_bound a b e = subst (λ k. (h : is_bound k ≡ true) → a ≡ bound k h) e (λ h. ap (bound a.value) (Bool-set (is_bound a.value) true a.admitted h)) b.admitted

pub two_is : (h : is_bound 2 ≡ true) → bound 2 h ≡ bound_two
two_is h = same_bound (bound 2 h) bound_two refl

-- each bound is the one that its number is admitted as
pub some_bound : (b : NonZeroPow2Usize) → Some b ≡ bound_of b.value
unfolding bound_of
some_bound b = go (is_bound b.value) refl b.admitted
  where
    go : (c : Bool) (e : is_bound b.value ≡ c) → c ≡ true → Some b ≡ bound_if b.value c e
    go true e h = ap Some (same_bound b (bound b.value e) refl)
    go false e h = absurd (let z : ◌≡◌ {A = ℕ} 0 1 = cc in omega arith)

unbounded : (n : ℕ) → is_bound n ≡ false → None ≡ bound_of n
unfolding bound_of
unbounded n h = go (is_bound n) refl h
  where
    go : (c : Bool) (e : is_bound n ≡ c) → c ≡ false → None ≡ bound_if n c e
    go true e h = absurd (let z : ◌≡◌ {A = ℕ} 0 1 = cc in omega arith)
    go false e h = refl

pub no_bound : (n : ℕ) → (Among n all_bounds → ⊥) → None ≡ bound_of n
no_bound n h = unbounded n (found_in (λ e. 2 ^ suc e) 15 0 n ∙ not_among n all_bounds h)

-- an admitted bound and its exponent
pub record Bounded (n e : ℕ) : Type 0 where
  pub is : is_bound n ≡ true
  pub admitted : bound_of n ≡ Some (bound n is)
  pub power : n ≡ 2 ^ suc e
  pub log2 : bound_log2 n ≡ suc e

abbrev suc_or_zero : Option ℕ → ℕ
suc_or_zero none = 0
suc_or_zero (some e) = suc e

-- what the model's reader takes for a bound is one
pub bounded : (n e : ℕ) → find (λ e. 2 ^ suc e) 15 0 n ≡ some e → Bounded n e
unfolding bound_log2
bounded n e h =
    let i : is_bound n ≡ true = ap is_there h in
    record { is = i; admitted = sym (some_bound (bound n i)); power = (find_sound (λ e. 2 ^ suc e) 15 0 n e h).0; log2 = ap suc_or_zero h }

-- the bounds are 2, 4 .. 32,768
pub bound_power : (e : ℕ) → e < 15 → find (λ e. 2 ^ suc e) 15 0 (2 ^ suc e) ≡ some e
bound_power e h = find_first (λ e. 2 ^ suc e) (λ i k l. two_pow_rise (suc i) (suc k) (omega arith)) 15 0 e (omega arith) (omega arith)

-- the exponent that the model's reader finds of a bound
pub exponent_of : (b : NonZeroPow2Usize) → (e : ℕ) × (find (λ e. 2 ^ suc e) 15 0 b.value ≡ some e)
exponent_of b = go (bound_exponent b.value) refl b.admitted
  where
    go : (o : Option ℕ) → bound_exponent b.value ≡ o → is_there o ≡ true → (e : ℕ) × (bound_exponent b.value ≡ some e)
    go none q h = absurd (let z : ◌≡◌ {A = ℕ} 0 1 = cc in omega arith)
    go (some e) q h = (e, q)

-- the number that was admitted
pub bound_value : (n : ℕ) (b : NonZeroPow2Usize) → Some b ≡ bound_of n → b.value ≡ n
unfolding bound_of
bound_value n b h = go (is_bound n) refl h
  where
    go : (c : Bool) (e : is_bound n ≡ c) → Some b ≡ bound_if n c e → b.value ≡ n
    go true e h = let q : b ≡ bound n e = cc in ap (λ (x : NonZeroPow2Usize). x.value) q
    go false e h = absurd (let z : ◌≡◌ {A = ℕ} 0 1 = cc in omega arith)

-- what `new` admits the model's reader takes, and nothing else
pub bound_is : (n : ℕ) (b : NonZeroPow2Usize) → Some b ≡ bound_of n → (e : ℕ) × (find (λ e. 2 ^ suc e) 15 0 n ≡ some e) × (b.value ≡ n)
bound_is n b h =
    let v = bound_value n b h in
    let (e, k) = exponent_of b in
    (e, subst (λ m. find (λ e. 2 ^ suc e) 15 0 m ≡ some e) v k, v)

-- the k with 2 ^ k <= n < 2 ^ (k + 1) is a bound's logarithm
pub log2_is : (b : NonZeroPow2Usize) (r : ℕ) → 2 ^ r ≤ b.value → b.value < 2 * 2 ^ r → r ≡ bound_log2 b.value
log2_is b r l m = let (e, f) = exponent_of b in let k = bounded b.value e f in go e k.power k.log2 (dec_le r e) (dec_le r (suc e))
  where
    go : (e : ℕ) → b.value ≡ 2 ^ suc e → bound_log2 b.value ≡ suc e → Dec (r ≤ e) → Dec (r ≤ suc e) → r ≡ bound_log2 b.value
    go e p q (yes c) d = let n : 2 ^ suc r ≤ 2 ^ suc e = pow-le-pow_right {n = 2} (omega arith) {i = suc r} {j = suc e} (omega arith) in absurd (omega (arith, two-pow-succ r))
    go e p q (no c) (yes d) = omega arith
    go e p q (no c) (no d) = absurd (omega (arith, two_pow_rise (suc e) r (omega arith)))

-- HALVES

bound_least : (b : NonZeroPow2Usize) → 2 ≤ b.value
bound_least b = let (e, f) = exponent_of b in omega (arith, (bounded b.value e f).power, two-pow-succ e, one-le-pow e 2 (omega arith))

-- a number below 2 is no bound
below_two : (n : ℕ) → n < 2 → None ≡ bound_of n
unfolding bound_of
below_two zero h = refl
below_two (suc zero) h = refl
below_two (suc (suc n)) h = absurd (omega arith)

pub half_none : (b : NonZeroPow2Usize) → b.value / 2 < 2 → None ≡ half_bound b
unfolding half_bound
half_none b h = below_two (b.value / 2) h

-- the half of a bound that is not 2 is a bound
pub half_is_bound : (b : NonZeroPow2Usize) → 2 ≤ b.value / 2 → is_bound (b.value / 2) ≡ true
half_is_bound b l = let (e, f) = exponent_of b in go e (bounded b.value e f).power (find_sound (λ e. 2 ^ suc e) 15 0 b.value e f).1
  where
    go : (e : ℕ) → b.value ≡ 2 ^ suc e → e < 15 → is_bound (b.value / 2) ≡ true
    go zero p h = absurd (omega arith)
    go (suc e) p h = let q : b.value / 2 ≡ 2 ^ suc e = omega (arith, half_power (suc e)) in ap is_bound q ∙ ap is_there (bound_power e (omega arith))

pub half_some : (b : NonZeroPow2Usize) (h : is_bound (b.value / 2) ≡ true) → Some (bound (b.value / 2) h) ≡ half_bound b
unfolding half_bound
half_some b h = some_bound (bound (b.value / 2) h)

-- the smallest bound has no half, and the half of a larger one is the bound before it
pub half_bound_two : None ≡ half_bound bound_two
unfolding half_bound bound_of
half_bound_two = refl

pub half_bound_more : (e : ℕ) (h : is_bound (2 ^ suc e) ≡ true) (k : is_bound (2 ^ suc (suc e)) ≡ true) → Some (bound (2 ^ suc e) h) ≡ half_bound (bound (2 ^ suc (suc e)) k)
unfolding half_bound
half_bound_more e h k = rw (half_power (suc e)) (some_bound (bound (2 ^ suc e) h))

-- the half as a number: 1 at 2, else the half's own
pub half_is : (b : NonZeroPow2Usize) {h : NonZeroPow2Usize} → Some h ≡ half_bound b → b.value / 2 ≡ h.value
unfolding half_bound
half_is b {h} e = sym (bound_value (b.value / 2) h e)

-- a bound that has no half is 2
pub record NoHalf (b : NonZeroPow2Usize) : Type 0 where
  pub power : b.value ≡ 2
  pub log2 : bound_log2 b.value ≡ 1

pub no_half : {b : NonZeroPow2Usize} → None ≡ half_bound b → NoHalf b
unfolding half_bound
no_half {b} q = let (e, f) = exponent_of b in let k = bounded b.value e f in go e k.power k.log2 (find_sound (λ e. 2 ^ suc e) 15 0 b.value e f).1
  where
    go : (e : ℕ) → b.value ≡ 2 ^ suc e → bound_log2 b.value ≡ suc e → e < 15 → NoHalf b
    go zero p l h = record { power = p; log2 = l }
    go (suc e) p l h =
        let n : b.value / 2 ≡ 2 ^ suc e = omega (arith, half_power (suc e)) in
        let o = (bounded (2 ^ suc e) e (bound_power e (omega arith))).admitted in
        let m : None ≡ bound_of (2 ^ suc e) = q ∙ ap bound_of n in
        let z : ◌≡◌ {A = ℕ} 0 1 = cc in absurd (omega arith)

pub half_one : (b : NonZeroPow2Usize) → None ≡ half_bound b → b.value / 2 ≡ 1
half_one b q = let k = no_half {b = b} q in omega (arith, k.power)

power_log2 : (h : NonZeroPow2Usize) (e : ℕ) → h.value ≡ 2 ^ suc e → bound_log2 h.value ≡ suc e
power_log2 h e n = sym (log2_is h (suc e) (omega arith) (omega (arith, one-le-pow (suc e) 2 (omega arith))))

-- the half h of a bound b that is not 2
pub record HalfOf (b h : NonZeroPow2Usize) : Type 0 where
  pub exponent : ℕ
  pub power : h.value ≡ 2 ^ suc exponent
  pub log2 : bound_log2 h.value ≡ suc exponent
  pub twice : b.value ≡ 2 ^ suc (suc exponent)
  pub log2_twice : bound_log2 b.value ≡ suc (suc exponent)
  pub less : h.value < b.value

pub half_of : {b h : NonZeroPow2Usize} → Some h ≡ half_bound b → HalfOf b h
half_of {b} {h} q = let (e, f) = exponent_of b in let k = bounded b.value e f in go e k.power k.log2
  where
    go : (e : ℕ) → b.value ≡ 2 ^ suc e → bound_log2 b.value ≡ suc e → HalfOf b h
    go zero p l = absurd (omega (arith, half_is b q, bound_least h))
    go (suc e) p l =
        let n : h.value ≡ 2 ^ suc e = omega (arith, half_is b q, half_power (suc e)) in
        record {
          exponent = e;
          power = n;
          log2 = power_log2 h e n;
          twice = p;
          log2_twice = l;
          less = omega (arith, two-pow-succ (suc e), one-le-pow (suc e) 2 (omega arith));
        }

-- BIT WIDTHS

pub listed_width : (n : ℕ) → Among n widths → is_width n ≡ true
listed_width n h = among n widths h

pub same_width : (a b : Pow2Usize) → a.value ≡ b.value → a ≡ b
same_width a b e = subst (λ k. (h : is_width k ≡ true) → a ≡ width k h) e (λ h. ap (width a.value) (Bool-set (is_width a.value) true a.admitted h)) b.admitted

-- each width is the one that its number is admitted as
pub some_width : (b : Pow2Usize) → Some b ≡ width_of b.value
unfolding width_of
some_width b = go (is_width b.value) refl b.admitted
  where
    go : (c : Bool) (e : is_width b.value ≡ c) → c ≡ true → Some b ≡ width_if b.value c e
    go true e h = ap Some (same_width b (width b.value e) refl)
    go false e h = absurd (let z : ◌≡◌ {A = ℕ} 0 1 = cc in omega arith)

pub no_width : (n : ℕ) → (Among n widths → ⊥) → None ≡ width_of n
unfolding width_of
no_width n h = go (is_width n) refl (not_among n widths h)
  where
    go : (c : Bool) (e : is_width n ≡ c) → c ≡ false → None ≡ width_if n c e
    go true e h = absurd (let z : ◌≡◌ {A = ℕ} 0 1 = cc in omega arith)
    go false e h = refl

-- what `new` admits the model's reader takes, and nothing else
pub width_is : (n : ℕ) (w : Pow2Usize) → Some w ≡ width_of n → (one_of n widths ≡ true) × (w.value ≡ n)
unfolding width_of
width_is n w h = go (is_width n) refl h
  where
    go : (b : Bool) (e : is_width n ≡ b) → Some w ≡ width_if n b e → (one_of n widths ≡ true) × (w.value ≡ n)
    go true e m = (e, let q : w ≡ width n e = cc in ap (λ (x : Pow2Usize). x.value) q)
    go false e m = absurd (let z : ◌≡◌ {A = ℕ} 0 1 = cc in omega arith)
