-- What the numbers of a type's records are: a width 1 to 256, a bound 2 to 32,768, a count below 65,536.
use Rattle.std.specs.Prelude.{◌≡◌, refl, Bool, true, false, ℕ, suc, ◌+◌, ◌^◌, ◌<◌, ◌≤◌, eqb, Option, Some, None}
use Rattle.std.proofs.Common.{sym, ap, subst, ◌∙◌, arith}
use Rattle.std.proofs.Math.Option.{some}
use Rattle.std.proofs.Math.Nat.{pow-le-pow_right, two-pow-succ, one-le-pow}
use Rattle.std.proofs.lemmas.Bool.{eqb-false}
use Rattle.model.specs.Options.{pick, one_of, find}
use Rattle.model.specs.TypeFiles.{widths}
use Rattle.model.proofs.Laws.Options.{one_of_all}
use Rattle.model.proofs.Laws.TypeFiles.{find_sound}
use Rattle.num.specs.declared.NonZeroPow2Usize.{NonZeroPow2Usize}
use Rattle.num.specs.declared.Pow2Usize.{Pow2Usize}
use Rattle.num.specs.Admitted.{is_bound, is_width}
use Rattle.num.specs.Powers.{bound, bound_of, bound_log2, width_of}
use Rattle.num.specs.Laws.{bounded, exponent_of}
use Rattle.types.specs.declared.Head.{Head}
use Rattle.types.specs.declared.Head.TheVariants.{Missing, Faulty, Never, Boolean, UInt, Either, Opt, Tuple, Array, Listed, Variants, Payload}
use Rattle.types.specs.Record.{by_width, by_bound, head_of}

-- what num admits
pub record FairWidth (w : Pow2Usize) : Type 0 where
  pub admitted : one_of w.value widths ≡ true

pub record FairBound (b : NonZeroPow2Usize) : Type 0 where
  pub exponent : ℕ
  pub admitted : find (λ e. 2 ^ suc e) 15 0 b.value ≡ some exponent

-- every width and every bound is fair
pub fair_width_of : (w : Pow2Usize) → FairWidth w
fair_width_of w = record { admitted = w.admitted }

pub fair_bound_of : (b : NonZeroPow2Usize) → FairBound b
fair_bound_of b = let (e, f) = exponent_of b in record { exponent = e; admitted = f }

-- a width is 1 to 256
pub admitted_width : (n : ℕ) → is_width n ≡ true → (1 ≤ n) × (n ≤ 256)
admitted_width n h = one_of_all (λ n. (1 ≤ n) × (n ≤ 256)) n widths (omega arith) h

pub width_range : (w : Pow2Usize) → (1 ≤ w.value) × (w.value ≤ 256)
width_range w = admitted_width w.value w.admitted

-- a bound is 2 to 32,768
pub bound_range : (b : NonZeroPow2Usize) → (2 ≤ b.value) × (b.value ≤ 32768)
bound_range b =
    let (x, f) = exponent_of b in
    let (e, l) = find_sound (λ e. 2 ^ suc e) 15 0 b.value x f in
    let u : 2 ^ suc x ≤ 2 ^ 15 = pow-le-pow_right {n = 2} (omega arith) {i = suc x} {j = 15} (omega arith) in
    (omega (arith, two-pow-succ x, one-le-pow x 2 (omega arith)), omega arith)

pub admitted_bound : (n : ℕ) → is_bound n ≡ true → (2 ≤ n) × (n ≤ 32768)
admitted_bound n h = bound_range (bound n h)

-- its logarithm 1 to 15
pub log_range : (b : NonZeroPow2Usize) → (1 ≤ bound_log2 b.value) × (bound_log2 b.value ≤ 15)
log_range b =
    let (x, f) = exponent_of b in
    let l : x < 0 + 15 = (find_sound (λ e. 2 ^ suc e) 15 0 b.value x f).1 in
    let k = (bounded b.value x f).log2 in
    (omega arith, omega arith)

pub admitted_log : (n : ℕ) → is_bound n ≡ true → (1 ≤ bound_log2 n) × (bound_log2 n ≤ 15)
admitted_log n h = log_range (bound n h)

abbrev pub Fair : Head → Type 0
Fair Missing = Unit
Fair Faulty = Unit
Fair Never = Unit
Fair Boolean = Unit
Fair (UInt w) = FairWidth w
Fair Either = Unit
Fair Opt = Unit
Fair (Tuple n) = n < 65536
Fair (Array n) = n < 65536
Fair (Listed b) = FairBound b
Fair (Variants n) = (1 ≤ n) × (n < 65536)
Fair (Payload n) = n < 65536

both : (b : Bool) (x y : Head) → (b ≡ true → Fair x) → (b ≡ false → Fair y) → Fair (pick b x y)
both true x y f g = f refl
both false x y f g = g refl

fair_width : (r : Option Pow2Usize) → Fair (by_width r)
fair_width (Some w) = fair_width_of w
fair_width None = tt

fair_bound : (r : Option NonZeroPow2Usize) → Fair (by_bound r)
fair_bound (Some b) = fair_bound_of b
fair_bound None = tt

pub fair_of : (k z n : ℕ) → n < 65536 → Fair (head_of k z n)
unfolding head_of
fair_of k z n s =
    both (eqb z 0) _ _ (λ e.
    both (eqb k 0) _ _ (λ e. both (eqb n 0) _ _ (λ e. tt) (λ e. tt)) (λ e.
    both (eqb k 1) _ _ (λ e. both (eqb n 0) _ _ (λ e. tt) (λ e. tt)) (λ e.
    both (eqb k 2) _ _ (λ e. fair_width (width_of n)) (λ e.
    both (eqb k 3) _ _ (λ e. both (eqb n 0) _ _ (λ e. tt) (λ e. tt)) (λ e.
    both (eqb k 4) _ _ (λ e. both (eqb n 0) _ _ (λ e. tt) (λ e. tt)) (λ e.
    both (eqb k 5) _ _ (λ e. s) (λ e.
    both (eqb k 6) _ _ (λ e. s) (λ e.
    both (eqb k 7) _ _ (λ e. fair_bound (bound_of n)) (λ e.
    both (eqb k 8) _ _ (λ e. both (eqb n 0) _ _ (λ e. tt) (λ f. (some n (eqb-false n 0 f), s))) (λ e.
    both (eqb k 9) _ _ (λ e. s) (λ e. tt)))))))))))
    (λ e. tt)
  where
    some : (n : ℕ) → (n ≡ 0 → ⊥) → 1 ≤ n
    some n h = omega arith

pub fair : (r k : Head) → Fair r → r ≡ k → Fair k
fair r k f e = subst Fair e f

-- what a UInt's and a List's record say, by what `num` answers
pub width_yes : (n : ℕ) (r : Option Pow2Usize) (w : Pow2Usize) → r ≡ width_of n → r ≡ Some w → UInt w ≡ by_width (width_of n)
width_yes n r w e f = ap by_width (sym f ∙ e)

pub width_no : (n : ℕ) (r : Option Pow2Usize) → r ≡ width_of n → r ≡ None → Faulty ≡ by_width (width_of n)
width_no n r e f = ap by_width (sym f ∙ e)

pub bound_yes : (n : ℕ) (r : Option NonZeroPow2Usize) (b : NonZeroPow2Usize) → r ≡ bound_of n → r ≡ Some b → Listed b ≡ by_bound (bound_of n)
bound_yes n r b e f = ap by_bound (sym f ∙ e)

pub bound_no : (n : ℕ) (r : Option NonZeroPow2Usize) → r ≡ bound_of n → r ≡ None → Faulty ≡ by_bound (bound_of n)
bound_no n r e f = ap by_bound (sym f ∙ e)
