-- A number's digits are those that the library prints.
use Rattle.std.specs.Prelude.{◌≡◌, refl, List, [], ◌∷◌, ◌++◌, ℕ, zero, suc, ◌+◌, ◌/◌, ◌%◌, ◌^◌, ◌≤◌, ◌<◌}
use Rattle.std.specs.Fmt.{decimal as printed}
use Rattle.std.proofs.Common.{sym, ap, ◌∙◌, arith}
use Rattle.std.proofs.lemmas.Fmt.{decimal_by_steps}
use Rattle.text.specs.Lines.{digit, places, decimal}

no_places : (k : ℕ) → places k 0 ≡ []
unfolding places
no_places zero = refl
no_places (suc k) = refl

-- it does not matter by how much k is enough
enough : (k j n : ℕ) → n ≤ k → n ≤ j → places k n ≡ places j n
unfolding places
enough zero zero n h l = refl
enough zero (suc j) zero h l = refl
enough zero (suc j) (suc m) h l = absurd (omega arith)
enough (suc k) zero zero h l = refl
enough (suc k) zero (suc m) h l = absurd (omega arith)
enough (suc k) (suc j) zero h l = refl
enough (suc k) (suc j) (suc m) h l = ap (λ t. t ++ (digit (suc m) ∷ [])) (enough k j (suc m / 10) (omega arith) (omega arith))

tens : (k n : ℕ) → n ≤ k → 0 < n → places k n ≡ decimal n
unfolding places decimal
tens zero n h p = absurd (omega arith)
tens (suc k) zero h p = absurd (omega arith)
tens (suc k) (suc m) h p = ap (λ t. t ++ (digit (suc m) ∷ [])) (enough k (suc m) (suc m / 10) (omega arith) (omega arith))

one_digit : (n : ℕ) → n < 10 → (48 + n) ∷ [] ≡ decimal n
unfolding decimal digit
one_digit n h =
    let z : n / 10 ≡ 0 = omega arith in
    let d : n % 10 ≡ n = omega arith in
    rw (z, d, no_places n) refl

last_digit : (n : ℕ) → places n (n / 10) ++ ((48 + n % 10) ∷ []) ≡ decimal n
unfolding decimal digit
last_digit n = refl

one_more : (n : ℕ) (l : List ℕ) → 10 ≤ n → l ≡ decimal (n / 10) → l ++ ((48 + n % 10) ∷ []) ≡ decimal n
one_more n l h e = ap (λ t. t ++ ((48 + n % 10) ∷ [])) (e ∙ sym (tens n (n / 10) (omega arith) (omega arith))) ∙ last_digit n

pub printed_is : (n : ℕ) → n < 2 ^ 64 → printed n ≡ decimal n
printed_is = decimal_by_steps (λ n l. l ≡ decimal n) one_digit one_more
