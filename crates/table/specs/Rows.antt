-- Rows of records one after the other: where m of them end, and that m and then n of them are m + n.
use Rattle.std.specs.Prelude.{◌≡◌, Bool, take, drop, Ok}
use Rattle.std.proofs.Math.Path.{refl, ap}
use Rattle.std.proofs.Common.{sym, ◌∙◌, zero-add, suc-add}
use mathlib.Core.List.{List, ◌∷◌}
use Prim.Native.Nat.{ℕ, zero, suc, ◌+◌}
use Rattle.model.specs.Structural.{SType}
use Rattle.types.specs.Walks.{next, many, walk}
use Rattle.types.specs.Trees.{end_of}
use Rattle.types.specs.Unique.{nexts}
use Rattle.types.specs.Lows.{low, lows}

module _ (d : ℕ) (v : Bool) (s : List ℕ) where
  -- the place after n records' subtrees
  unfoldable pub skip : ℕ → ℕ → ℕ
  skip zero p = p
  skip (suc n) p = skip n (end_of (walk d v s p))

  pub skip_add : (m n p : ℕ) → skip (m + n) p ≡ skip n (skip m p)
  unfolding skip
  skip_add zero n p = ap (λ k. skip k p) (zero-add n)
  skip_add (suc m) n p = ap (λ k. skip k p) (suc-add m n) ∙ skip_add m n (end_of (walk d v s p))

  pub take_lows : (m n p : ℕ) → take m (lows d v s (m + n) p) ≡ lows d v s m p
  unfolding lows
  take_lows zero n p = refl
  take_lows (suc m) n p = rw (suc-add m n) (ap {B = List SType} (λ l. low d v s p ∷ l) (take_lows m n (end_of (walk d v s p))))

  pub drop_lows : (m n p : ℕ) → drop m (lows d v s (m + n) p) ≡ lows d v s n (skip m p)
  unfolding lows skip
  drop_lows zero n p = ap (λ k. lows d v s k p) (zero-add n)
  drop_lows (suc m) n p = rw (suc-add m n) (drop_lows m n (end_of (walk d v s p)))

  -- the first of n, and the others
  pub record First (n p e : ℕ) : Type 0 where
    pub end : ℕ
    pub walks : walk d v s p ≡ Ok end
    pub rest : many (walk d v s) n (end_of (walk d v s p)) ≡ Ok e

  pub first_of : (n p e : ℕ) → many (walk d v s) (suc n) p ≡ Ok e → First n p e
  unfolding many
  first_of n p e h = let (m, q, r) = nexts (walk d v s p) (many (walk d v s) n) e h in record { end = m; walks = q; rest = rw q r }

  pub split_row : (m n p e : ℕ) → many (walk d v s) (m + n) p ≡ Ok e → (many (walk d v s) m p ≡ Ok (skip m p)) × (many (walk d v s) n (skip m p) ≡ Ok e)
  unfolding skip many next
  split_row zero n p e h = (refl, ap (λ k. many (walk d v s) k p) (sym (zero-add n)) ∙ h)
  split_row (suc m) n p e h =
      let f = first_of (m + n) p e (ap (λ k. many (walk d v s) k p) (sym (suc-add m n)) ∙ h) in
      let (x, y) = split_row m n (end_of (walk d v s p)) e f.rest in
      (ahead f x, y)
    where
      ahead : First (m + n) p e → many (walk d v s) m (end_of (walk d v s p)) ≡ Ok (skip m (end_of (walk d v s p))) → many (walk d v s) (suc m) p ≡ Ok (skip m (end_of (walk d v s p)))
      ahead f x = rw f.walks (rw f.walks at x)
