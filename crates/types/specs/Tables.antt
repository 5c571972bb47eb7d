-- How the table of ends is filled, step by step. Assumes nothing.
use Rattle.reply.specs.declared.Refusal.{Refusal}
use Rattle.std.specs.Prelude.{◌≡◌, refl, ◌⊎◌, List, Bool, true, false, ℕ, ◌+◌, ◌-◌, ◌<◌, ◌≤◌, length, set, leb, Result, Ok, Err}
use Rattle.std.proofs.Math.Path.{sym}
use Rattle.std.proofs.Common.{subst, ◌∙◌, ⊎_elim, inl, inr, le_refl, eq-or-lt_of_le, leb-true, leb-false, get_or-set_same, get_or-set_other}
use native.Mathlib.Omega.{arith}
use Rattle.types.specs.Walks.{next, many, walk}
use Rattle.types.specs.Table.{EndsAt, Filled, Table, Walked}
use Rattle.types.specs.Facts.{many_more}

le_or_lt : (a b : ℕ) → (a ≤ b) ⊎ (b < a)
le_or_lt a b = go (leb a b) refl
  where
    go : (t : Bool) → leb a b ≡ t → (a ≤ b) ⊎ (b < a)
    go true p = inl (leb-true a b p)
    go false p = inr (leb-false a b p)

filled_none : (s : List ℕ) (a : ℕ) (E : List ℕ) → Filled s a a E E
filled_none s a E = record { grows = le_refl a; below = λ i l. refl; filled = λ i h l. absurd (omega arith) }

filled_more : (s : List ℕ) (a e f : ℕ) (E E' E'' : List ℕ) → Filled s a e E E' → Filled s e f E' E'' → Filled s a f E E''
filled_more s a e f E E' E'' p q = record {
  grows = omega arith;
  below = λ i l. q.below i (omega arith) ∙ p.below i l;
  filled = λ i h l. ⊎_elim
      (λ k. q.filled i k l)
      (λ k. rw (q.below i k) (p.filled i h k))
      (le_or_lt e i);
}

-- the node itself, over its children
filled_node : (s : List ℕ) (a e : ℕ) (E E' : List ℕ) → EndsAt s a e → a < length E' → Filled s (a + 1) e E E' → Filled s a e E (set E' a e)
filled_node s a e E E' here l p = record {
  grows = omega arith;
  below = λ i h. get_or-set_other E' a i e 0 (λ z. omega arith) ∙ p.below i (omega arith);
  filled = λ i h k. ⊎_elim
      (λ z. rw (← z, get_or-set_same E' a e 0 l) here)
      (λ m. rw (get_or-set_other E' a i e 0 (λ z. omega arith)) (p.filled i (omega arith) k))
      (eq-or-lt_of_le h);
}

pub walked_node : (d : ℕ) (v : Bool) (s : List ℕ) (a e : ℕ) (u : Result ℕ Refusal) (E E' : List ℕ) → Walked u s (a + 1) (Ok e) E E' → u ≡ walk d v s a → a < length E' → Walked (walk d v s a) s a (Ok e) E (set E' a e)
walked_node d v s a e u E E' h p l = let q = h.answer ∙ p in record {
  answer = q;
  table = filled_node s a e E E' (record { levels = d; variant = v; ends = sym q }) l h.table;
}

pub walked_bad : (w : Result ℕ Refusal) (s : List ℕ) (a : ℕ) (x : Refusal) (E E' : List ℕ) → Err x ≡ w → Walked w s a (Err x) E E'
walked_bad w s a x E E' p = record { answer = p; table = tt }

pub walked_end : {u w : Result ℕ Refusal} {s : List ℕ} {a e : ℕ} {E E' : List ℕ} → Walked u s a w E E' → w ≡ Ok e → Filled s a e E E'
walked_end {u} {w} {s} {a} {e} {E} {E'} h q = subst (λ (x : Result ℕ Refusal). Table x s a E E') q h.table

-- what a loop over n subtrees keeps: `left` of them stand from p on, and the table is filled up to p
pub record Going (f : ℕ → Result ℕ Refusal) (s : List ℕ) (n a left p : ℕ) (E E' : List ℕ) : Type 0 where
  pub rest : many f n a ≡ many f left p
  pub filled : Filled s a p E E'
  pub same : length E' ≡ length E

module _ (f : ℕ → Result ℕ Refusal) {s : List ℕ} {n a : ℕ} {E : List ℕ} where
  pub going_start : Going f s n a n a E E
  going_start = record { rest = refl; filled = filled_none s a E; same = refl }

  pub going_on : {left p e : ℕ} {w : Result ℕ Refusal} {E' E'' : List ℕ} → (0 < left) → Going f s n a left p E E' → Walked (f p) s p w E' E'' → w ≡ Ok e → length E'' ≡ length E' → Going f s n a (left - 1) e E E''
  unfolding next
  going_on {left} {p} {e} {w} {E'} {E''} h g u q m = record {
    rest = g.rest ∙ rw (many_more f left p (λ z. omega arith), ← u.answer, q);
    filled = filled_more s a p e E E' E'' g.filled (walked_end u q);
    same = m ∙ g.same;
  }

  pub going_stop : {left p : ℕ} {x : Refusal} {w : Result ℕ Refusal} {E' E'' : List ℕ} → (0 < left) → Going f s n a left p E E' → Walked (f p) s p w E' E'' → w ≡ Err x → Walked (many f n a) s a (Err x) E E''
  unfolding next
  going_stop {left} {p} h g u q = record { answer = sym (g.rest ∙ rw (many_more f left p (λ z. omega arith), ← u.answer, q)); table = tt }

  pub going_end : {left p : ℕ} {E' : List ℕ} → left ≤ 0 → Going f s n a left p E E' → Walked (many f n a) s a (Ok p) E E'
  unfolding many
  going_end {left} {p} h g = let z : left ≡ 0 = omega arith in record { answer = sym (g.rest ∙ rw z); table = g.filled }
