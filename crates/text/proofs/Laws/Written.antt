-- What a program cuts out of the buffer that a writer wrote to.
use Rattle.std.specs.Prelude.{◌≡◌, refl, List, ℕ, ◌≤◌, length, take, drop}
use Rattle.std.proofs.Common.{sym, arith, take_at, length-take-le}
use Rattle.io.specs.Counts.{IsPrefixLen}
use Rattle.structural.specs.Writing.{put, Wrote}
use Rattle.structural.proofs.Laws.Writing.{wrote_length}

-- what was written over the front of a buffer is what its length cuts out of it
pub cut_out : {xs out o : List ℕ} {n : ℕ} → Wrote xs out o n → take n o ≡ xs
unfolding put
cut_out {xs} {out} {o} {n} w = rw (w.out, w.len) (take_at xs (drop (length xs) out) (length xs) refl)

-- and it counts bytes of it
pub wrote_counts : {xs out o : List ℕ} {n : ℕ} → length xs ≤ length out → Wrote xs out o n → IsPrefixLen n o
wrote_counts {o = o} {n = n} h w =
    let e = w.len in
    let f : n ≤ length o = omega (arith, wrote_length w h) in
    (f, sym (length-take-le n o f))
