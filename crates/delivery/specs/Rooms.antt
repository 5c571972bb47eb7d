-- What `room` knows at each of its answers: rows 1 to 7, the table's first size and first width, and the most records of a shape.
use Rattle.std.specs.Prelude.{◌≡◌, false, List, ℕ, ◌≤◌, length, get_or, Result, Ok, Err}
use Rattle.std.proofs.Math.Path.{refl}
use Rattle.std.proofs.Common.{ap, ◌∙◌, arith}
use Rattle.model.specs.Structural.{type_records}
use Rattle.model.specs.Lowering.{lower}
use Rattle.model.specs.Frames.{width}
use Rattle.model.specs.Room.{longest_shape}
use Rattle.model.specs.Operations.{room, told_room}
use Rattle.model.specs.Calls.{Room}
use Rattle.model.proofs.Laws.Sizes.{length_type_records}
use Rattle.reply.specs.declared.Refusal.{Refusal}
use Rattle.reply.specs.Numbers.{refusal_number}
use Rattle.types.specs.Trees.{tree}
use Rattle.types.specs.Lows.{low}
use Rattle.table.specs.Tabled.{Tabled}
use Rattle.room.specs.Counting.{Small}
use Rattle.delivery.specs.Lowers.{lowers, lowers_small, lowered_size}
use Rattle.delivery.specs.Frames.{whole_width}

module _ {s E S W : List ℕ} {r : Result ℕ Refusal} (p : Tabled s r E S W) where
  pub room_refused : {x : Refusal} → r ≡ Err x → Room s (refusal_number x) 0 0 0
  unfolding room told_room
  room_refused e = rw (p.answer, e) refl

  module _ {n : ℕ} (e : r ≡ Ok n) where
    pub room_small : Small (low 32 false s 0)
    unfolding low
    room_small = omega (arith, lowers_small p e, length_type_records (lower (tree 32 s 0)))

    pub room_done : 1024 ≤ length W → (size most : ℕ) → size ≡ get_or S 0 0 → most ≡ longest_shape (low 32 false s 0) → Room s 0 size (get_or W 0 0) most
    unfolding room told_room low
    room_done long size most a c = rw (lowers p e, whole_width p e long, a ∙ lowered_size p e, c) refl
