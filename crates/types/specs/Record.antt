-- One record of a type file: what it says, and what it calls for.
use Rattle.std.specs.Prelude.{List, ℕ, ◌+◌, ◌*◌, ◌/◌, length, get_or, ltb, eqb, Option, Some, None}
use Rattle.model.specs.Options.{pick}
use Rattle.num.specs.Powers.{bound_of, width_of}
use Rattle.types.specs.declared.Head.{Head}
use Rattle.types.specs.declared.Head.TheVariants.{Missing, Faulty, Never, Boolean, UInt, Either, Opt, Tuple, Array, Listed, Variants, Payload}
use Rattle.types.specs.declared.Rec.{Rec}
use Rattle.types.specs.declared.Rec.TheVariants.{Gone, Wrong, Types, Enum, Variant}
use Rattle.num.specs.declared.Pow2Usize.{Pow2Usize}
use Rattle.num.specs.declared.NonZeroPow2Usize.{NonZeroPow2Usize}

-- a UInt of the width, if it is one
abbrev pub by_width : Option Pow2Usize → Head
by_width (Some w) = UInt w
by_width None = Faulty

-- a List with the bound, if it is one
abbrev pub by_bound : Option NonZeroPow2Usize → Head
by_bound (Some b) = Listed b
by_bound None = Faulty

-- what a record says, by its kind, byte 1 and n
unfoldable pub head_of : ℕ → ℕ → ℕ → Head
head_of k z n =
    pick (eqb z 0)
    (pick (eqb k 0) (pick (eqb n 0) Never Faulty)
    (pick (eqb k 1) (pick (eqb n 0) Boolean Faulty)
    (pick (eqb k 2) (by_width (width_of n))
    (pick (eqb k 3) (pick (eqb n 0) Either Faulty)
    (pick (eqb k 4) (pick (eqb n 0) Opt Faulty)
    (pick (eqb k 5) (Tuple n)
    (pick (eqb k 6) (Array n)
    (pick (eqb k 7) (by_bound (bound_of n))
    (pick (eqb k 8) (pick (eqb n 0) Faulty (Variants n))
    (pick (eqb k 9) (Payload n) Faulty))))))))))
    Faulty

-- the record that stands at place `at` of a file of whole records
unfoldable pub head_at : List ℕ → ℕ → Head
head_at s at =
    pick (ltb at (length s / 4))
    (head_of (get_or s (at * 4) 0) (get_or s (at * 4 + 1) 0) (get_or s (at * 4 + 2) 0 * 256 + get_or s (at * 4 + 3) 0))
    Missing

-- which children a record calls for
abbrev pub calls_for : Head → Rec
calls_for Missing = Gone
calls_for Faulty = Wrong
calls_for Never = Types 0
calls_for Boolean = Types 0
calls_for (UInt w) = Types 0
calls_for Either = Types 2
calls_for Opt = Types 1
calls_for (Tuple n) = Types n
calls_for (Array n) = Types 1
calls_for (Listed b) = Types 1
calls_for (Variants n) = Enum n
calls_for (Payload n) = Variant n

unfoldable pub rec_at : List ℕ → ℕ → Rec
rec_at s at = calls_for (head_at s at)
