-- Which numbers are list bounds and bit widths (01, kinds 7 and 2): those that the model's reader of type files admits.
use Rattle.std.proofs.Math.Option.{Option, none, some}
use Rattle.std.specs.Prelude.{Bool, true, false, ℕ, suc, ◌^◌}
use Rattle.model.specs.Options.{one_of, find}
use Rattle.model.specs.TypeFiles.{widths}

-- the e of the bound n = 2 ^ (e + 1), as a type file's reader finds it
abbrev pub bound_exponent : ℕ → Option ℕ
bound_exponent n = find (λ e. 2 ^ suc e) 15 0 n

abbrev pub is_there : Option ℕ → Bool
is_there none = false
is_there (some e) = true

-- 2, 4 .. 32,768
abbrev pub is_bound : ℕ → Bool
is_bound n = is_there (bound_exponent n)

-- 1, 2 .. 256
abbrev pub is_width : ℕ → Bool
is_width n = one_of n widths
