use Prim.Native.Nat.{◌+◌, ◌-◌}
use Rattle.std.specs.Prelude.{◌≡◌, false}
use Rattle.types.specs.Walks.{walk}
use Rattle.types.specs.Tables.{Going}
use Rattle.types.specs.Entries.{ends, sizes, widths}
use Rattle.types.proofs.+walks.Given as goal

abbrev pub decreases-walk_type : goal.decreases-walk_type
decreases-walk_type l = l.depth

abbrev pub decreases-walk_variant : goal.decreases-walk_variant
decreases-walk_variant l = l.depth

abbrev pub invariant-walk_type-loop : goal.invariant-walk_type-loop
invariant-walk_type-loop l =
    Going (walk (l.depth - 1) l.are_variants l.ty) l.ty l.n (l.at + 1) (l.n - l.counter) l.end (ends l.initial.entries) (ends l.entries)
    × ((sizes l.entries ≡ sizes l.initial.entries) × (widths l.entries ≡ widths l.initial.entries))

abbrev pub invariant-walk_variant-loop : goal.invariant-walk_variant-loop
invariant-walk_variant-loop l =
    Going (walk (l.depth - 1) false l.ty) l.ty l.n (l.at + 1) (l.n - l.counter) l.next (ends l.initial.entries) (ends l.entries)
    × ((sizes l.entries ≡ sizes l.initial.entries) × (widths l.entries ≡ widths l.initial.entries))
