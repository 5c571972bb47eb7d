-- What is known of a file that is accepted: the walk goes through, and the table is filled. Assumes nothing.
use Rattle.reply.specs.declared.Refusal.{Refusal}
use Rattle.reply.specs.declared.Refusal.TheVariants.{TypeLength, TypeTooLong, NotOneType}
use Rattle.std.specs.Prelude.{◌≡◌, refl, List, Bool, true, false, ℕ, ◌≤◌, ◌*◌, ◌/◌, ◌%◌, length, leb, eqb, Result, Ok, Err}
use Rattle.std.proofs.Common.{sym, ap, subst, ◌∙◌, arith, eqb-true, leb-true}
use Rattle.types.specs.Walks.{walk}
use Rattle.types.specs.Table.{EndsIf, Checked, pick_answer, whole, type_answer}
use Rattle.types.specs.Steps.{Starts, Given}

refused_ok : {A : Type 0} {x : Refusal} {n : ℕ} → Err x ≡ Ok n → A
refused_ok p = let z : ◌≡◌ {A = ℕ} 0 1 = cc in absurd (omega arith)

-- a pick that is accepted, and has a refusal on one side
not_first : (b : Bool) (x : Refusal) (n : ℕ) (y : Result ℕ Refusal) → pick_answer b (Err x) y ≡ Ok n → y ≡ Ok n
not_first true x n y p = refused_ok p
not_first false x n y p = p

not_second : (b : Bool) (x : Refusal) (n : ℕ) (y : Result ℕ Refusal) → pick_answer b y (Err x) ≡ Ok n → y ≡ Ok n
not_second true x n y p = p
not_second false x n y p = refused_ok p

whole_ok : (m n : ℕ) (w : Result ℕ Refusal) → whole m w ≡ Ok n → (e : ℕ) × (w ≡ Ok e)
unfolding whole
whole_ok m n (Ok e) p = (e, refl)
whole_ok m n (Err x) p = refused_ok p

pub accepted : (s : List ℕ) (n : ℕ) → type_answer s ≡ Ok n → Starts 32 false s 0
unfolding type_answer
accepted s n p =
    let a : whole (length s / 4) (walk 32 false s 0) ≡ Ok n =
    not_second (leb (length s / 4) 1024) TypeTooLong n _ (not_second (eqb (length s % 4) 0) TypeLength n _ (not_first (eqb (length s) 0) TypeLength n _ p)) in
    let (e, w) = whole_ok (length s / 4) n (walk 32 false s 0) a in
    record { end = e; walks = w }

pub given : {s E : List ℕ} {r : Result ℕ Refusal} {n : ℕ} → Checked s r E → r ≡ Ok n → Given 32 false s E 0
given {s} {E} {r} {n} h e = record {
  starts = accepted s n (sym h.answer ∙ e);
  ends = subst (λ (x : Result ℕ Refusal). EndsIf x s E) e h.table;
}

second_true : (b : Bool) (x : Refusal) (n : ℕ) (y : Result ℕ Refusal) → pick_answer b y (Err x) ≡ Ok n → b ≡ true
second_true true x n y p = refl
second_true false x n y p = refused_ok p

-- the walk of an accepted file ends where the file ends
pub ends_whole : (s : List ℕ) (n : ℕ) → type_answer s ≡ Ok n → (walk 32 false s 0 ≡ Ok n) × (length s ≡ n * 4)
unfolding type_answer whole
ends_whole s n p =
    let f = not_first (eqb (length s) 0) TypeLength n _ p in
    let q = not_second (eqb (length s % 4) 0) TypeLength n _ f in
    let m : length s % 4 ≡ 0 = eqb-true _ _ (second_true (eqb (length s % 4) 0) TypeLength n _ f) in
    let a : whole (length s / 4) (walk 32 false s 0) ≡ Ok n = not_second (leb (length s / 4) 1024) TypeTooLong n _ q in
    let (e, w) = whole_ok (length s / 4) n (walk 32 false s 0) a in
    let c : pick_answer (eqb e (length s / 4)) (Ok e) (Err NotOneType) ≡ Ok n = rw w at a in
    let g : e ≡ length s / 4 = eqb-true _ _ (second_true (eqb e (length s / 4)) NotOneType n _ c) in
    let o : Ok e ≡ Ok n = not_second (eqb e (length s / 4)) NotOneType n _ c in
    let i : e ≡ n = cc in
    (w ∙ ap Ok i, omega arith)

-- an accepted file has at most 1,024 records
pub few : (s : List ℕ) (n : ℕ) → type_answer s ≡ Ok n → n ≤ 1024
unfolding type_answer
few s n p =
    let q = not_second (eqb (length s % 4) 0) TypeLength n _ (not_first (eqb (length s) 0) TypeLength n _ p) in
    let m : length s / 4 ≤ 1024 = leb-true _ _ (second_true (leb (length s / 4) 1024) TypeTooLong n _ q) in
    let e = (ends_whole s n p).1 in
    omega arith
