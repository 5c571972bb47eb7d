-- Subtrees that stand one after the other, of any levels: what a loop that counts open children goes by. Assumes nothing.
use Rattle.std.specs.Prelude.{◌≡◌, List, Bool, ℕ, zero, suc, ◌+◌, ◌<◌, ◌≤◌, Result, Ok}
use Rattle.std.proofs.Common.{arith}
use Rattle.types.specs.Record.{rec_at}
use Rattle.types.specs.Walks.{many, walk}
use Rattle.types.specs.Unique.{bad_end, kind, count, opened, nexts}
use Rattle.reply.specs.declared.Refusal.{Refusal}

many_up : (f : ℕ → Result ℕ Refusal) → ((a x : ℕ) → f a ≡ Ok x → a < x) → (n a e : ℕ) → many f n a ≡ Ok e → a + n ≤ e
unfolding many
many_up f h zero a e p = let z : a ≡ e = cc in omega arith
many_up f h (suc n) a e p =
    let (b, q, r) = nexts (f a) (many f n) e p in
    let l = h a b q in
    let m = many_up f h n b e r in
    omega arith

-- a subtree has its own record at least
pub up : (d : ℕ) (v : Bool) (s : List ℕ) (i m : ℕ) → walk d v s i ≡ Ok m → i < m
unfolding walk
up zero v s i m p = bad_end (opened v (rec_at s i) _ m p)
up (suc d) v s i m p =
    let l = many_up _ (λ a x. up d (kind (rec_at s i)) s a x) (count (rec_at s i)) (i + 1) m (opened v (rec_at s i) _ m p) in
    omega arith
