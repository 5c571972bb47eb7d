-- How the walks of specs/ go by one step, in the form in which the code's needs ask it. Assumes nothing.
use Rattle.reply.specs.declared.Refusal.TheVariants.{NotOneType, TooDeep}
use Rattle.std.specs.Prelude.{◌≡◌, refl, List, Bool, true, false, length, ltb, Result, Ok, Err}
use Rattle.std.proofs.Common.{sym, ap, subst, ◌∙◌, ltb-true}
use Prim.Native.Nat.{ℕ, zero, suc, ◌+◌, ◌-◌, ◌<◌, ◌/◌}
use Rattle.std.proofs.Math.Numerals.{sub-one}
use Rattle.types.specs.declared.Rec.{Rec}
use Rattle.types.specs.declared.Rec.TheVariants.{Gone, Wrong, Types, Enum, Variant}
use Rattle.types.specs.Record.{head_at, rec_at}
use Rattle.types.specs.Walks.{opens, children_of, next, many, walk}
use Rattle.reply.specs.declared.Refusal.{Refusal}

-- a record that is there stands before the end
pub present : (s : List ℕ) (at : ℕ) (r : Rec) → r ≡ rec_at s at → (r ≡ Gone → ⊥) → at < length s / 4
unfolding rec_at head_at
present s at r e h = go (ltb at (length s / 4)) refl
  where
    go : (b : Bool) → ltb at (length s / 4) ≡ b → at < length s / 4
    go true p = ltb-true at (length s / 4) p
    go false p = absurd (h (rw p at e))

abbrev pub There : Rec → Type 0
There Gone = ⊥
There Wrong = Unit
There (Types n) = Unit
There (Enum n) = Unit
There (Variant n) = Unit

pub there : (s : List ℕ) (at : ℕ) (r k : Rec) → r ≡ rec_at s at → r ≡ k → There k → at < length s / 4
there s at r k p e h = present s at r p (λ g. subst There (sym e ∙ g) h)

pub many_more : (f : ℕ → Result ℕ Refusal) (n at : ℕ) → (n ≡ 0 → ⊥) → many f n at ≡ next (f at) (many f (n - 1))
unfolding many
many_more f zero at h = absurd (h refl)
many_more f (suc n) at h = rw sub-one

-- what is done with the children that a record calls for
abbrev go_on : Result (Bool × ℕ) Refusal → (Bool → ℕ → Result ℕ Refusal) → Result ℕ Refusal
go_on (Ok c) k = k c.0 c.1
go_on (Err x) k = Err x

opens_by : (v : Bool) (r : Rec) (k : Bool → ℕ → Result ℕ Refusal) → opens v r k ≡ go_on (children_of v r) k
unfolding opens
opens_by v Gone k = refl
opens_by v Wrong k = refl
opens_by false (Types n) k = refl
opens_by false (Enum n) k = refl
opens_by false (Variant n) k = refl
opens_by true (Types n) k = refl
opens_by true (Enum n) k = refl
opens_by true (Variant n) k = refl

-- r is the record at place `at`, and c says what it calls for
module _ (v : Bool) (s : List ℕ) (at : ℕ) (r : Rec) (c : Result (Bool × ℕ) Refusal) (p : r ≡ rec_at s at) (o : c ≡ children_of v r) where
  by_children : (k : Bool → ℕ → Result ℕ Refusal) → opens v (rec_at s at) k ≡ go_on c k
  by_children k = rw (← p) (opens_by v r k ∙ ap (λ c. go_on c k) (sym o))

  by_err : (x : Refusal) → c ≡ Err x → (k : Bool → ℕ → Result ℕ Refusal) → Err x ≡ opens v (rec_at s at) k
  by_err x e k = sym (by_children k ∙ ap (λ c. go_on c k) e)

  pub walk_bad : (d : ℕ) (x : Refusal) → c ≡ Err x → Err x ≡ walk d v s at
  unfolding walk
  walk_bad zero x e = by_err x e (λ b n. Err TooDeep)
  walk_bad (suc d) x e = by_err x e (λ b n. many (walk d b s) n (at + 1))

  module _ (b : Bool) (n : ℕ) (e : c ≡ Ok (b, n)) where
    by_ok : (k : Bool → ℕ → Result ℕ Refusal) → k b n ≡ opens v (rec_at s at) k
    by_ok k = sym (by_children k ∙ ap (λ c. go_on c k) e)

    pub walk_deep : (d : ℕ) → d ≡ 0 → Err TooDeep ≡ walk d v s at
    unfolding walk
    walk_deep d z = rw z (by_ok (λ b n. Err TooDeep))

    pub walk_go : (d : ℕ) → (d ≡ 0 → ⊥) → many (walk (d - 1) b s) n (at + 1) ≡ walk d v s at
    unfolding walk
    walk_go zero h = absurd (h refl)
    walk_go (suc d) h = rw sub-one (by_ok (λ b n. many (walk d b s) n (at + 1)))

    pub called : at < length s / 4
    called = present s at r p (λ g. let z : Err NotOneType ≡ Ok (b, n) = ap (children_of v) (sym g) ∙ sym o ∙ e in cc)
