-- Records in a row, each with all below it: where the table leads after n of them.
use Rattle.std.specs.Prelude.{◌≡◌, refl, List, ℕ, zero, suc, ◌+◌, ◌-◌, ◌<◌, ◌≤◌, length, get_or}
use Rattle.std.proofs.Common.{sym, ap, subst, ◌∙◌, zero-add, suc-add, sub-one, arith}

-- n records on, each time to the end that the table says
unfoldable pub hops : List ℕ → ℕ → ℕ → ℕ
hops E zero p = p
hops E (suc n) p = hops E n (get_or E p 0)

-- each of them stands in the table
pub record Hops (E : List ℕ) (n p : ℕ) : Type 0 where
  pub each : (i : ℕ) → i < n → hops E i p < length E

pub hops_next : (E : List ℕ) (n p : ℕ) → 0 < n → hops E n p ≡ hops E (n - 1) (get_or E p 0)
unfolding hops
hops_next E zero p h = absurd (omega arith)
hops_next E (suc n) p h = rw sub-one refl

pub hops_none : (E : List ℕ) (n p : ℕ) → n ≡ 0 → hops E n p ≡ p
unfolding hops
hops_none E n p h = ap (λ i. hops E i p) h

-- m records on, and n more
pub hops_add : (E : List ℕ) (m n p : ℕ) → hops E (m + n) p ≡ hops E n (hops E m p)
unfolding hops
hops_add E zero n p = ap (λ i. hops E i p) (zero-add n)
hops_add E (suc m) n p = ap (λ i. hops E i p) (suc-add m n) ∙ hops_add E m n (get_or E p 0)

pub hops_first : (E : List ℕ) (n p : ℕ) → 0 < n → Hops E n p → p < length E
unfolding hops
hops_first E n p h g = g.each 0 h

pub hops_rest : (E : List ℕ) (n p : ℕ) → 0 < n → Hops E n p → Hops E (n - 1) (get_or E p 0)
unfolding hops
hops_rest E n p h g = record { each = λ i l. g.each (suc i) (omega arith) }

-- THE LOOP, of which i records are behind

pub record Hopping (E : List ℕ) (n at i next : ℕ) : Type 0 where
  pub rest : hops E n at ≡ hops E (n - i) next
  pub inside : Hops E (n - i) next

pub hops_start : {E : List ℕ} {n at : ℕ} (i : ℕ) → i ≡ 0 → Hops E n at → Hopping E n at i at
hops_start {E} {n} {at} i z g = let e : n ≡ n - i = omega arith in record { rest = ap (λ k. hops E k at) e; inside = subst (λ k. Hops E k at) e g }

pub hops_left : {E : List ℕ} {n at i next : ℕ} → Hopping E n at i next → i < n → next < length E
hops_left {E} {n} {at} {i} {next} g l = hops_first E (n - i) next (omega arith) g.inside

pub hops_step : {E : List ℕ} {n at i next : ℕ} (q : ℕ) → Hopping E n at i next → i < n → q ≡ get_or E next 0 → Hopping E n at (i + 1) q
hops_step {E} {n} {at} {i} {next} q g l e =
    let m : 0 < n - i = omega arith in
    let z : n - i - 1 ≡ n - (i + 1) = omega arith in
    rw e (record {
      rest = g.rest ∙ hops_next E (n - i) next m ∙ ap (λ k. hops E k (get_or E next 0)) z;
      inside = subst (λ k. Hops E k (get_or E next 0)) z (hops_rest E (n - i) next m g.inside);
    })

pub hops_done : {E : List ℕ} {n at i next : ℕ} → Hopping E n at i next → n ≤ i → next ≡ hops E n at
hops_done {E} {n} {at} {i} {next} g l = sym (g.rest ∙ hops_none E (n - i) next (omega arith))
