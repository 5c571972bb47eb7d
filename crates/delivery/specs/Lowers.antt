-- What `lower` knows at each of its answers, from rows 1 to 7 and the table.
use Rattle.std.specs.Prelude.{◌≡◌, List, ℕ, ◌<◌, ◌≤◌, length, get_or, Result, Ok, Err}
use Rattle.std.proofs.Math.Path.{refl}
use Rattle.std.proofs.Common.{subst, arith}
use Rattle.std.proofs.Math.Bool.{false}
use Rattle.model.specs.Numbers.{most_shape_records}
use Rattle.model.specs.Outcome.{done}
use Rattle.model.specs.Structural.{type_records}
use Rattle.model.specs.Lowering.{lower}
use Rattle.model.specs.Operations.{lowering, lowered}
use Rattle.model.proofs.Laws.Lowering.{small, lowers_not_large}
use Rattle.model.proofs.Laws.Sizes.{length_type_records}
use Rattle.reply.specs.declared.Refusal.{Refusal}
use Rattle.reply.specs.declared.Refusal.TheVariants.{NoRoom}
use Rattle.types.specs.Trees.{tree}
use Rattle.types.specs.Lows.{low}
use Rattle.types.specs.Steps.{Given}
use Rattle.types.specs.Accepted.{accepted}
use Rattle.table.specs.Tabled.{Table, TableIf, Tabled}
use Rattle.structural.specs.Forms.{Room}
use Rattle.structural.specs.Writing.{Wrote}
use Rattle.delivery.specs.Delivering.{Delivers, deliver_refusal, deliver_no_room, deliver_result}

module _ {s E S W : List ℕ} {r : Result ℕ Refusal} (p : Tabled s r E S W) where
  pub lower_refused : {O : List ℕ} {x : Refusal} → r ≡ Err x → Delivers (lowered s) O O (Err x)
  unfolding lowered
  lower_refused {O} {x} e = deliver_refusal (lowered s) O x (rw (p.answer, e) refl)

  module _ {n : ℕ} (e : r ≡ Ok n) where
    table : Table s E S W n
    table = subst (λ (r : Result ℕ Refusal). TableIf r s E S W) e p.table

    pub lower_given : Given 32 false s E 0
    lower_given = record { starts = accepted s n table.accepted; ends = table.ends }

    pub lowers : lowering s ≡ done (tree 32 s 0)
    lowers = rw (p.answer, e) refl

    -- the lowered type has no more records than row 7 allows
    pub lowers_small : length (type_records (lower (tree 32 s 0))) ≤ most_shape_records
    lowers_small = small (tree 32 s 0) (lowers_not_large s (tree 32 s 0) lowers)

    -- the file's own size is not cut: it is the length of its lowered type
    pub lowered_size : get_or S 0 0 ≡ length (type_records (low 32 false s 0))
    unfolding low
    lowered_size =
        let g = lower_given.starts in
        let k = table.measured.size 0 32 g.end false (omega arith) g.walks in
        omega (arith, lowers_small, length_type_records (lower (tree 32 s 0)))

    lowered_is : lowered s ≡ done (type_records (low 32 false s 0))
    unfolding lowered low
    lowered_is = rw lowers refl

    pub lower_no_room : {O : List ℕ} → length O < get_or S 0 0 → Delivers (lowered s) O O (Err NoRoom)
    lower_no_room {O} l = deliver_no_room (lowered s) O (type_records (low 32 false s 0)) lowered_is (omega (arith, lowered_size))

    pub lower_room : (O : List ℕ) → get_or S 0 0 ≤ length O → Room (low 32 false s 0) O
    lower_room O l = omega (arith, lowered_size)

    pub lower_done : {O O' : List ℕ} {k : ℕ} → get_or S 0 0 ≤ length O → Wrote (type_records (low 32 false s 0)) O O' k → Delivers (lowered s) O O' (Ok k)
    lower_done {O} {O'} {k} l w = deliver_result (lowered s) O O' (type_records (low 32 false s 0)) k lowered_is (omega (arith, lowered_size)) w
