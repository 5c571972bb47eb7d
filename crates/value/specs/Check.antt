-- The walk of a value file in step with the type: where the value that starts at record v ends, and the shape's records up to there, k of which stand before it.
use Rattle.std.specs.Prelude.{ℕ, zero, suc, ◌+◌, ◌*◌, ◌/◌, ◌%◌, ◌^◌, List, length, ltb, eqb, Option, Some, None, Result, Ok, Err, Bool, true, false}
use Rattle.reply.specs.declared.Refusal.TheVariants.{ValueLength, NotOneValue, IntegerTooLarge, ListTooLong}
use Rattle.model.specs.Options.{pick}
use Rattle.model.specs.Balanced.{btree}
use Rattle.model.specs.Types.{Ty, Tys, Variants, never, bool, uint, either, option, tuple, array, list, enum, nil, cons, last, more, size, count}
use Rattle.value.specs.Record.{starts, number_at, below, choice_at, count_at}
use Rattle.value.specs.Lengths.{add, joints, blocks, tags}
use Rattle.reply.specs.declared.Refusal.{Refusal}

-- row 16: every fault but an integer too large and a list too long
abbrev pub wrong : Result (ℕ × ℕ) Refusal
wrong = Err NotOneValue

unfoldable pub side : Option Bool → Result (ℕ × ℕ) Refusal → Result (ℕ × ℕ) Refusal → Result (ℕ × ℕ) Refusal
side (Some false) a b = a
side (Some true) a b = b
side None a b = wrong

unfoldable pub says : Option ℕ → (ℕ → Result (ℕ × ℕ) Refusal) → Result (ℕ × ℕ) Refusal
says (Some n) f = f n
says None f = wrong

unfoldable pub next : Result (ℕ × ℕ) Refusal → (ℕ → ℕ → Result (ℕ × ℕ) Refusal) → Result (ℕ × ℕ) Refusal
next (Ok (e, k)) f = f e k
next (Err x) f = Err x

-- n values of one type
unfoldable pub run : (ℕ → ℕ → Result (ℕ × ℕ) Refusal) → ℕ → ℕ → ℕ → Result (ℕ × ℕ) Refusal
run f zero v k = Ok (v, k)
run f (suc n) v k = next (f v k) (run f n)

unfoldable mutual
  pub check : Ty → List ℕ → ℕ → ℕ → Result (ℕ × ℕ) Refusal
  check never s v k = wrong
  check bool s v k = side (choice_at s v 1) (Ok ((v + 1), (add k 2))) (Ok ((v + 1), (add k 2)))
  check (uint w) s v k = pick (starts s v 2 0) (pick (eqb (number_at s v) w) (pick (below s v w) (Ok ((v + 1), (add k (joints w + 2 * w)))) (Err IntegerTooLarge)) wrong) wrong
  check (either a b) s v k = side (choice_at s v 3) (check a s (v + 1) (add k 1)) (check b s (v + 1) (add k 1))
  check (option a) s v k = side (choice_at s v 4) (Ok ((v + 1), (add k 2))) (check a s (v + 1) (add k 1))
  check (tuple ts) s v k = says (count_at s v 5) (λ m. pick (eqb m (size ts)) (checks ts s (v + 1) (add k (joints (size ts)))) wrong)
  check (array a n) s v k = says (count_at s v 6) (λ m. pick (eqb m n) (run (λ i j. check a s i j) n (v + 1) (add k (joints n))) wrong)
  check (list a e) s v k = says (count_at s v 7) (λ m. pick (ltb m (2 ^ suc e)) (run (λ i j. check a s i j) m (v + 1) (add k (blocks e m 0))) (Err ListTooLong))
  check (enum vs) s v k = says (count_at s v 8) (λ i. check_case vs i s (v + 1) (add k (tags (btree (count vs)) i 0)))

  -- parts one after the other
  pub checks : Tys → List ℕ → ℕ → ℕ → Result (ℕ × ℕ) Refusal
  checks nil s v k = Ok (v, k)
  checks (cons t ts) s v k = next (check t s v k) (λ e j. checks ts s e j)

  -- the payload of Variant i
  pub check_case : Variants → ℕ → List ℕ → ℕ → ℕ → Result (ℕ × ℕ) Refusal
  check_case (last ts) zero s v k = checks ts s v (add k (joints (size ts)))
  check_case (last ts) (suc i) s v k = wrong
  check_case (more ts vs) zero s v k = checks ts s v (add k (joints (size ts)))
  check_case (more ts vs) (suc i) s v k = check_case vs i s v k

-- a tuple's parts
unfoldable pub parts : Tys → List ℕ → ℕ → ℕ → Result (ℕ × ℕ) Refusal
parts ts s v k = checks ts s v (add k (joints (size ts)))

-- one value and nothing after it
unfoldable pub whole : ℕ → Result (ℕ × ℕ) Refusal → Result (ℕ × ℕ) Refusal
whole n (Ok (e, k)) = pick (eqb e n) (Ok (e, k)) wrong
whole n (Err x) = Err x

-- rows 15, 16, 21 and 22
unfoldable pub file_answer : Ty → List ℕ → Result (ℕ × ℕ) Refusal
file_answer t s =
    pick (eqb (length s) 0) (Err ValueLength)
    (pick (eqb (length s % 36) 0) (whole (length s / 36) (check t s 0 0)) (Err ValueLength))
