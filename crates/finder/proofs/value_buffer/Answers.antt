-- A repeat is as long as it says, whatever it is: so the number is not computed with.
use Rattle.std.proofs.Common.{◌≡◌, ℕ, sym, length}
use lib.ListN.{replicate, length-replicate}
use Rattle.finder.proofs.value_buffer.Goals as goal

as_long : (n : ℕ) → n ≡ length {A = ℕ} (replicate n 0)
as_long n = sym (length-replicate n 0)

pub returns : goal.returns
returns c = as_long 1048577
