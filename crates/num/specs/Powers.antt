-- List bounds and bit widths (num.rs; 01, kinds 7 and 2): what is admitted is what the model's reader of type files admits.
use Rattle.std.proofs.Math.Option.{none, some}
use Rattle.std.specs.Prelude.{◌≡◌, refl, Bool, true, false, ℕ, suc, ◌/◌, Option as Optional, Some, None}
use Rattle.num.specs.Admitted.{bound_exponent, is_bound, is_width}
use Rattle.num.specs.declared.NonZeroPow2Usize.{NonZeroPow2Usize}
use Rattle.num.specs.declared.Pow2Usize.{Pow2Usize}

-- LIST BOUNDS

abbrev pub bound : (n : ℕ) → is_bound n ≡ true → NonZeroPow2Usize
bound n h = record { value = n; admitted = h }

-- the smallest list bound
abbrev pub bound_two : NonZeroPow2Usize
bound_two = bound 2 refl

abbrev pub bound_if : (n : ℕ) (b : Bool) → is_bound n ≡ b → Optional NonZeroPow2Usize
bound_if n true h = Some (bound n h)
bound_if n false h = None

-- n as a list bound
unfoldable pub bound_of : ℕ → Optional NonZeroPow2Usize
bound_of n = bound_if n (is_bound n) refl

-- the binary logarithm of a list bound
unfoldable pub bound_log2 : ℕ → ℕ
bound_log2 n = elim (bound_exponent n) [ none ↦ 0 | some e ↦ suc e ]

-- half of a list bound, none at 2: 1 is no bound
unfoldable pub half_bound : NonZeroPow2Usize → Optional NonZeroPow2Usize
half_bound b = bound_of (b.value / 2)

-- BIT WIDTHS

abbrev pub width : (n : ℕ) → is_width n ≡ true → Pow2Usize
width n h = record { value = n; admitted = h }

abbrev pub width_if : (n : ℕ) (b : Bool) → is_width n ≡ b → Optional Pow2Usize
width_if n true h = Some (width n h)
width_if n false h = None

-- n as a bit width
unfoldable pub width_of : ℕ → Optional Pow2Usize
width_of n = width_if n (is_width n) refl
