-- A subtree has one end, however many levels are left: so the table of an accepted file holds it. Assumes nothing.
use Rattle.reply.specs.declared.Refusal.{Refusal}
use Rattle.std.specs.Prelude.{◌≡◌, refl, List, Bool, true, false, ℕ, zero, suc, ◌+◌, ◌<◌, ◌≤◌, ◌/◌, length, get_or, Result, Ok, Err}
use Rattle.std.proofs.Common.{arith}
use Rattle.types.specs.declared.Rec.{Rec}
use Rattle.types.specs.declared.Rec.TheVariants.{Gone, Wrong, Types, Enum, Variant}
use Rattle.types.specs.Record.{rec_at}
use Rattle.types.specs.Walks.{opens, next, many, walk}
use Rattle.types.specs.Table.{Filled, Ends}
use Rattle.types.specs.Facts.{there, There}

pub bad_end : {A : Type 0} {x : Refusal} {e : ℕ} → Err x ≡ Ok e → A
bad_end p = let z : ◌≡◌ {A = ℕ} 0 1 = cc in absurd (omega arith)

abbrev pub kind : Rec → Bool
kind Gone = false
kind Wrong = false
kind (Types n) = false
kind (Enum n) = true
kind (Variant n) = false

abbrev pub count : Rec → ℕ
count Gone = 0
count Wrong = 0
count (Types n) = n
count (Enum n) = n
count (Variant n) = n

pub opened : (v : Bool) (r : Rec) (k : Bool → ℕ → Result ℕ Refusal) (e : ℕ) → opens v r k ≡ Ok e → k (kind r) (count r) ≡ Ok e
unfolding opens
opened v Gone k e p = bad_end p
opened v Wrong k e p = bad_end p
opened false (Types n) k e p = p
opened false (Enum n) k e p = p
opened false (Variant n) k e p = bad_end p
opened true (Types n) k e p = bad_end p
opened true (Enum n) k e p = bad_end p
opened true (Variant n) k e p = p

opened_there : (v : Bool) (r : Rec) (k : Bool → ℕ → Result ℕ Refusal) (e : ℕ) → opens v r k ≡ Ok e → There r
unfolding opens
opened_there v Gone k e p = bad_end p
opened_there v Wrong k e p = tt
opened_there v (Types n) k e p = tt
opened_there v (Enum n) k e p = tt
opened_there v (Variant n) k e p = tt

-- the first part's end
pub nexts : (w : Result ℕ Refusal) (k : ℕ → Result ℕ Refusal) (e : ℕ) → next w k ≡ Ok e → (m : ℕ) × (w ≡ Ok m) × (k m ≡ Ok e)
unfolding next
nexts (Ok m) k e p = (m, refl, p)
nexts (Err x) k e p = bad_end p

many_one : (f g : ℕ → Result ℕ Refusal) → ((a x y : ℕ) → f a ≡ Ok x → g a ≡ Ok y → x ≡ y) → (n a x y : ℕ) → many f n a ≡ Ok x → many g n a ≡ Ok y → x ≡ y
unfolding many
many_one f g h zero a x y p q = cc
many_one f g h (suc n) a x y p q =
    let (l, pl, pr) = nexts (f a) (many f n) x p in
    let (m, ql, qr) = nexts (g a) (many g n) y q in
    many_one f g h n l x y pr (rw (← h a l m pl ql) at qr)

pub one_end : (d c : ℕ) (v w : Bool) (s : List ℕ) (i x y : ℕ) → walk d v s i ≡ Ok x → walk c w s i ≡ Ok y → x ≡ y
unfolding walk
one_end zero c v w s i x y p q = bad_end (opened v (rec_at s i) _ x p)
one_end (suc d) zero v w s i x y p q = bad_end (opened w (rec_at s i) _ y q)
one_end (suc d) (suc c) v w s i x y p q = many_one _ _ (λ a. one_end d c (kind (rec_at s i)) (kind (rec_at s i)) s a) (count (rec_at s i)) (i + 1) x y (opened v (rec_at s i) _ x p) (opened w (rec_at s i) _ y q)

pub inside : (d : ℕ) (v : Bool) (s : List ℕ) (i x : ℕ) → walk d v s i ≡ Ok x → i < length s / 4
unfolding walk
inside zero v s i x p = there s i (rec_at s i) (rec_at s i) refl refl (opened_there v (rec_at s i) _ x p)
inside (suc d) v s i x p = there s i (rec_at s i) (rec_at s i) refl refl (opened_there v (rec_at s i) _ x p)

pub all_ends : (s E E' : List ℕ) (e : ℕ) → Filled s 0 e E E' → e ≡ length s / 4 → e ≤ length E' → Ends s E'
all_ends s E E' e f z m = record {
  long = omega arith;
  at_each = λ i d x v p.
      let l = inside d v s i x p in
      let h = f.filled i (omega arith) (omega arith) in
      one_end h.levels d h.variant v s i (get_or E' i 0) x h.ends p;
}

many_reach : (f : ℕ → Result ℕ Refusal) (m : ℕ) → ((a x : ℕ) → f a ≡ Ok x → x ≤ m) → (n a e : ℕ) → a ≤ m → many f n a ≡ Ok e → e ≤ m
unfolding many
many_reach f m h zero a e l p = let z : a ≡ e = cc in omega arith
many_reach f m h (suc n) a e l p =
    let (b, q, r) = nexts (f a) (many f n) e p in
    many_reach f m h n b e (h a b q) r

-- no walk goes past the file
pub reach : (d : ℕ) (v : Bool) (s : List ℕ) (i e : ℕ) → walk d v s i ≡ Ok e → e ≤ length s / 4
unfolding walk
reach zero v s i e p = bad_end (opened v (rec_at s i) _ e p)
reach (suc d) v s i e p =
    let l = there s i (rec_at s i) (rec_at s i) refl refl (opened_there v (rec_at s i) _ e p) in
    many_reach _ (length s / 4) (λ a x. reach d (kind (rec_at s i)) s a x) (count (rec_at s i)) (i + 1) e (omega arith) (opened v (rec_at s i) _ e p)
