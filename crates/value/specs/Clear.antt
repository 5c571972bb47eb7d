-- Runs of zero bytes: how bytes that are joined tell them, and how they are put together.
use Rattle.std.specs.Prelude.{◌≡◌, refl, List, Bool, true, false, ℕ, zero, suc, ◌+◌, ◌-◌, ◌≤◌, ◌<◌, get_or, take, drop, length, eqb}
use Rattle.std.proofs.Common.{ap, ◌∙◌, add-zero, add-suc, add_assoc, add-one, arith, length-take, get_or-take, get_or-drop, eqb-true, eq-eqb, ne_eqb}
use Rattle.std.specs.Int.Bits.{bit_or, or_add_and}
use Rattle.std.proofs.lemmas.Nat.{and_le_l, and_le_r}
use Rattle.std.proofs.lemmas.Bool.{eqb-false}
use Rattle.model.specs.Options.{pick}
use Rattle.value.specs.Record.{clear}

-- two bytes joined are zero if both are
or_clear : (a x : ℕ) → eqb (bit_or a x) 0 ≡ pick (eqb x 0) (eqb a 0) false
or_clear a x = go (eqb x 0) refl (eqb a 0) refl
  where
    go : (p : Bool) → eqb x 0 ≡ p → (q : Bool) → eqb a 0 ≡ q → eqb (bit_or a x) 0 ≡ pick p q false
    go true e true f =
        let m = eqb-true x 0 e in
        let n = eqb-true a 0 f in
        let k = or_add_and a x in
        eq-eqb (bit_or a x) 0 (omega (arith, m, n, k))
    go true e false f =
        let n = eqb-false a 0 f in
        let k = or_add_and a x in
        let l = and_le_r a x in
        ne_eqb (bit_or a x) 0 (λ z. n (omega (arith, k, l, z)))
    go false e q f =
        let n = eqb-false x 0 e in
        let k = or_add_and a x in
        let l = and_le_l a x in
        ne_eqb (bit_or a x) 0 (λ z. n (omega (arith, k, l, z)))

-- a run is clear if its end and its beginning are
clear_append : (s : List ℕ) (b m n : ℕ) → clear s b (m + n) ≡ pick (clear s (b + m) n) (clear s b m) false
unfolding clear
clear_append s b m zero = rw (add-zero m) refl
clear_append s b m (suc n) =
    rw (add-suc m n, clear_append s b m n, add_assoc b m n) (both (eqb (get_or s (b + (m + n)) 0) 0) (clear s (b + m) n) (clear s b m))
  where
    both : (x y z : Bool) → pick x (pick y z false) false ≡ pick (pick x y false) z false
    both true y z = refl
    both false y z = refl

-- two runs that overlap
pub clear_overlap : (s : List ℕ) (b m n : ℕ) → m ≤ n → n ≤ m + m → clear s b n ≡ pick (clear s b m) (clear s (b + (n - m)) m) false
clear_overlap s b m n h k =
    let e : n ≡ (n - m) + m = omega arith in
    let f : m ≡ (n - m) + (m - (n - m)) = omega arith in
    let g : m ≡ (m - (n - m)) + (n - m) = omega arith in
    ap (λ i. clear s b i) e ∙ clear_append s b (n - m) m
    ∙ three (clear s (b + (n - m)) (m - (n - m))) (clear s (b + (n - m) + (m - (n - m))) (n - m)) _ _ _ (ap (λ i. clear s b i) f ∙ clear_append s b (n - m) (m - (n - m))) (ap (λ i. clear s (b + (n - m)) i) g ∙ clear_append s (b + (n - m)) (m - (n - m)) (n - m))
  where
    three : (y z x p q : Bool) → p ≡ pick y x false → q ≡ pick z y false → pick q x false ≡ pick p q false
    three true true true p q e f = rw (e, f) refl
    three true true false p q e f = rw (e, f) refl
    three true false true p q e f = rw (e, f) refl
    three true false false p q e f = rw (e, f) refl
    three false true x p q e f = rw (e, f) refl
    three false false x p q e f = rw (e, f) refl

-- a run of 16 to 32 bytes by its first 16 and its last
pub clear_long : (s : List ℕ) (b n : ℕ) → 16 ≤ n → n ≤ 32 → clear s b n ≡ pick (clear s b 16) (clear s (b + (n - 16)) 16) false
clear_long s b n h k = clear_overlap s b 16 n h k

-- one more byte of the n from b on is joined to x
pub clear_joined : (s : List ℕ) (b n x i : ℕ) → i < length (take (b + n - b) (drop b s)) → eqb x 0 ≡ clear s b i → eqb (bit_or x (get_or (take (b + n - b) (drop b s)) i 0)) 0 ≡ clear s b (i + 1)
unfolding clear
clear_joined s b n x i h e =
    let l : i < b + n - b = omega (arith, simp length-take at h) in
    rw (get_or-take (b + n - b) (drop b s) i 0 l, get_or-drop b s i 0, add-one i) (or_clear x (get_or s (b + i) 0) ∙ ap (λ p. pick (eqb (get_or s (b + i) 0) 0) p false) e)
