-- From a type's record to its children, in the form in which the code's needs ask it. Assumes nothing.
use Rattle.std.specs.Prelude.{◌≡◌, refl, Bool, true, List, length, get_or, Result, Ok, Err}
use Rattle.std.proofs.Math.Path.{sym}
use Rattle.std.proofs.Common.{subst, ◌∙◌, Fits}
use Rattle.std.proofs.Math.Bool.{false}
use Prim.Native.Nat.{ℕ, zero, suc, ◌+◌, ◌-◌, ◌*◌, ◌^◌, ◌<◌, ◌≤◌}
use native.Mathlib.Omega.{arith}
use Rattle.std.specs.Int.{w64}
use Rattle.types.specs.declared.Rec.{Rec}
use Rattle.types.specs.declared.Rec.TheVariants.{Gone, Wrong, Types, Enum, Variant}
use Rattle.types.specs.Record.{rec_at}
use Rattle.types.specs.Walks.{opens, walk}
use Rattle.types.specs.Unique.{bad_end}
use Rattle.types.specs.Trees.{kids, payload, tree, treev}
use Rattle.types.specs.Steps.{Given, GivenRow, given_levels, given_within, given_inside, given_below, given_first, given_end, given_rest, treev_in, kids_more}
use Rattle.reply.specs.declared.Refusal.{Refusal}
use Rattle.model.specs.Types.{nil, cons}
use Rattle.value.specs.Check.{next, run, check, checks, parts}
use Rattle.table.specs.Hops.{hops, Hops}

-- a type stands here, if a value of it is called for
pub record GivenIf (n d : ℕ) (s E : List ℕ) (at : ℕ) : Type 0 where
  pub there : (n ≡ 0 → ⊥) → Given d false s E at

pub fits_next : {d : ℕ} {v : Bool} {s E : List ℕ} {at : ℕ} → Given d v s E at → length s < 2 ^ 64 → Fits w64 (at + 1)
fits_next g l = let m = given_within g in omega arith

pub deep_enough : {d : ℕ} {v : Bool} {s E : List ℕ} {at : ℕ} → Given d v s E at → 1 ≤ d
deep_enough {d} g = let m = given_levels g in omega arith

-- the subtree after i others
pub given_hop : (d : ℕ) (v : Bool) (s E : List ℕ) (i n at : ℕ) → i < n → GivenRow d v s E n at → Given d v s E (hops E i at)
unfolding hops
given_hop d v s E zero n at l g = given_first (λ z. omega arith) g
given_hop d v s E (suc i) n at l g = given_hop d v s E i (n - 1) (get_or E at 0) (omega arith) (given_rest (λ z. omega arith) g)

-- the places that are passed on the way
pub given_hops : (d : ℕ) (v : Bool) (s E : List ℕ) (i n at : ℕ) → i ≤ n → GivenRow d v s E n at → Hops E i at
given_hops d v s E i n at l g = record { each = λ j m. given_inside (given_hop d v s E j n at (omega arith) g) }

pub no_hops : (E : List ℕ) (p : ℕ) → Hops E 0 p
no_hops E p = record { each = λ i l. absurd (omega arith) }

pub given_payload : {d : ℕ} {v : Bool} {s E : List ℕ} {at : ℕ} (h : Rec) (n : ℕ) → Given d v s E at → h ≡ rec_at s at → h ≡ Variant n → GivenRow (d - 1) false s E n (at + 1)
given_payload h n g p e = given_below (Variant n) g p e

-- the records that do not stand where a subtree starts
abbrev pub Here : Bool → Rec → Type 0
Here v Gone = ⊥
Here v Wrong = ⊥
Here false (Types n) = Unit
Here false (Enum n) = Unit
Here false (Variant n) = ⊥
Here true (Types n) = ⊥
Here true (Enum n) = ⊥
Here true (Variant n) = Unit

opened_here : (v : Bool) (r : Rec) (k : Bool → ℕ → Result ℕ Refusal) (e : ℕ) → opens v r k ≡ Ok e → Here v r
unfolding opens
opened_here v Gone k e p = bad_end p
opened_here v Wrong k e p = bad_end p
opened_here false (Types n) k e p = tt
opened_here false (Enum n) k e p = tt
opened_here false (Variant n) k e p = bad_end p
opened_here true (Types n) k e p = bad_end p
opened_here true (Enum n) k e p = bad_end p
opened_here true (Variant n) k e p = tt

walk_here : (d : ℕ) (v : Bool) (s : List ℕ) (at e : ℕ) → walk d v s at ≡ Ok e → Here v (rec_at s at)
unfolding walk
walk_here zero v s at e p = opened_here v (rec_at s at) _ e p
walk_here (suc d) v s at e p = opened_here v (rec_at s at) _ e p

pub rec_here : {d : ℕ} {v : Bool} {s E : List ℕ} {at : ℕ} → Given d v s E at → (h k : Rec) → h ≡ rec_at s at → h ≡ k → Here v k
rec_here {d} {v} {s} {E} {at} g h k p e = subst (Here v) (sym p ∙ e) (walk_here d v s at g.starts.end g.starts.walks)

-- where a Variant is called for, one stands
pub no_other : {d : ℕ} {s E : List ℕ} {at : ℕ} (h : Rec) → Given d true s E at → h ≡ rec_at s at → ((n : ℕ) → h ≡ Variant n → ⊥) → ⊥
no_other h g p f = go h refl
  where
    go : (k : Rec) → h ≡ k → ⊥
    go Gone e = rec_here g h Gone p e
    go Wrong e = rec_here g h Wrong p e
    go (Types n) e = rec_here g h (Types n) p e
    go (Enum n) e = rec_here g h (Enum n) p e
    go (Variant n) e = f n e

-- the measures
pub into_row : {d : ℕ} {v : Bool} {s E : List ℕ} {at : ℕ} (t : ℕ) → Given d v s E at → d * 2 ≡ t → (d - 1) * 2 + 1 < t
into_row {d} t g e = let h = given_levels g in omega arith

pub into_payload : {d : ℕ} {v : Bool} {s E : List ℕ} {at : ℕ} (t : ℕ) → Given d v s E at → d * 2 ≡ t → (d - 1) * 2 < t
into_payload {d} t g e = let h = given_levels g in omega arith

pub into_one : (d t : ℕ) → d * 2 + 1 ≡ t → d * 2 < t
into_one d t e = omega arith

-- THE LOOPS, of which i values are behind

pub given_if : {n d : ℕ} {s E : List ℕ} {at : ℕ} (i : ℕ) → GivenIf n d s E at → i < n → Given d false s E at
given_if i g l = g.there (λ z. omega arith)

pub run_step : (f : ℕ → ℕ → Result (ℕ × ℕ) Refusal) (n i e k : ℕ) → i < n → run f (n - i) e k ≡ next (f e k) (run f (n - (i + 1)))
unfolding run
run_step f n i e k l = go (n - i) (n - (i + 1)) (omega arith)
  where
    go : (a b : ℕ) → a ≡ suc b → run f a e k ≡ next (f e k) (run f b)
    go a b p = rw p

pub run_done : (f : ℕ → ℕ → Result (ℕ × ℕ) Refusal) (n i e k : ℕ) → n ≤ i → run f (n - i) e k ≡ Ok (e, k)
unfolding run
run_done f n i e k l = let z : n - i ≡ 0 = omega arith in rw z

pub given_next : {d : ℕ} {s E : List ℕ} {p : ℕ} (n i : ℕ) → i < n → GivenRow d false s E (n - i) p → Given d false s E p
given_next n i l g = given_first (λ z. omega arith) g

pub given_left : {d : ℕ} {s E : List ℕ} {p : ℕ} (n i : ℕ) → i < n → GivenRow d false s E (n - i) p → GivenRow d false s E (n - (i + 1)) (get_or E p 0)
given_left {d} {s} {E} {p} n i l g = let z : n - i - 1 ≡ n - (i + 1) = omega arith in rw z at (given_rest (λ z. omega arith) g)

pub kids_step : (E : List ℕ) (d : ℕ) (s : List ℕ) (n i p : ℕ) → GivenRow d false s E (n - i) p → i < n → kids (tree d s) (walk d false s) (n - i) p ≡ cons (tree d s p) (kids (tree d s) (walk d false s) (n - (i + 1)) (get_or E p 0))
kids_step E d s n i p g l =
    let z : n - i - 1 ≡ n - (i + 1) = omega arith in
    rw (kids_more (tree d s) (walk d false s) (n - i) p (λ z. omega arith), z, given_end (given_next n i l g))

pub kids_done : (d : ℕ) (s : List ℕ) (n i p : ℕ) → n ≤ i → kids (tree d s) (walk d false s) (n - i) p ≡ nil
unfolding kids
kids_done d s n i p l = let z : n - i ≡ 0 = omega arith in rw z

pub kids_stop : {E : List ℕ} {d : ℕ} {s : List ℕ} {p : ℕ} (n i : ℕ) (val : List ℕ) (e k : ℕ) (c : Result (ℕ × ℕ) Refusal) (x : Refusal) → GivenRow d false s E (n - i) p → i < n → c ≡ check (tree d s p) val e k → c ≡ Err x → Err x ≡ checks (kids (tree d s) (walk d false s) (n - i) p) val e k
unfolding checks next
kids_stop {E} {d} {s} {p} n i val e k c x g l a b = sym (rw (kids_step E d s n i p g l, ← a, b))

-- a Variant's parts
pub payload_is : {d : ℕ} {s E : List ℕ} {at : ℕ} (h : Rec) (n : ℕ) (val : List ℕ) (v k : ℕ) (b : Result (ℕ × ℕ) Refusal) → Given d true s E at → h ≡ rec_at s at → h ≡ Variant n → b ≡ parts (kids (tree (d - 1) s) (walk (d - 1) false s) n (at + 1)) val v k → b ≡ parts (treev d s at) val v k
unfolding payload
payload_is {d} {s} {E} {at} h n val v k b g p e q = rw (treev_in s at d h (Variant n) (given_levels g) p e) q
