-- What `write_shape` and `shape_records` know at each of their answers: rows 1 to 7 and the table as `lower`, then rows 15, 16, 21 and 22 and the shape's length.
use Rattle.std.specs.Prelude.{◌≡◌, List, ℕ, ◌<◌, ◌≤◌, length, Result, Ok, Err}
use Rattle.std.proofs.Math.Path.{refl, sym}
use Rattle.std.proofs.Common.{◌∙◌, arith}
use Rattle.model.specs.Outcome.{done}
use Rattle.model.specs.Values.{Value, inject}
use Rattle.model.specs.ShapeFiles.{shape_file}
use Rattle.model.specs.ValueFiles.{value_of}
use Rattle.model.specs.Operations.{shaped, shape_room, told_count}
use Rattle.model.specs.Calls.{ShapeRecords}
use Rattle.reply.specs.declared.Refusal.{Refusal}
use Rattle.reply.specs.declared.Refusal.TheVariants.{NoRoom}
use Rattle.reply.specs.Numbers.{refusal_number}
use Rattle.types.specs.Trees.{tree}
use Rattle.table.specs.Tabled.{Tabled}
use Rattle.value.specs.Check.{file_answer}
use Rattle.value.specs.Model.{nothing_cut}
use Rattle.told.specs.Forms.{standing}
use Rattle.shape.specs.Forms.{Ready, Shaped}
use Rattle.shape.specs.Laws.Whole.{value_ready, value_shaped}
use Rattle.delivery.specs.Delivering.{Delivers, deliver_refusal, deliver_no_room, deliver_result}
use Rattle.delivery.specs.Values.{value_refused, value_read}
use Rattle.delivery.specs.Lowers.{lower_given, lowers, lowers_small}

module _ {s E S W : List ℕ} {r : Result ℕ Refusal} (p : Tabled s r E S W) where
  pub shape_refused : (val : List ℕ) {O : List ℕ} {x : Refusal} → r ≡ Err x → Delivers (shaped s val) O O (Err x)
  unfolding shaped
  shape_refused val {O} {x} e = deliver_refusal (shaped s val) O x (rw (p.answer, e) refl)

  pub count_refused : (val : List ℕ) {x : Refusal} → r ≡ Err x → ShapeRecords s val (refusal_number x) 0
  unfolding shape_room shaped told_count
  count_refused val e = rw (p.answer, e) refl

  module _ {n : ℕ} (e : r ≡ Ok n) (val : List ℕ) {c : Result (ℕ × ℕ) Refusal} (k : c ≡ file_answer (tree 32 s 0) val) where
    pub shape_bad_value : {O : List ℕ} {x : Refusal} → c ≡ Err x → Delivers (shaped s val) O O (Err x)
    unfolding shaped
    shape_bad_value {O} {x} h = deliver_refusal (shaped s val) O x (rw (lowers p e, value_refused (tree 32 s 0) val k h) refl)

    pub count_bad_value : {x : Refusal} → c ≡ Err x → ShapeRecords s val (refusal_number x) 0
    unfolding shape_room shaped told_count
    count_bad_value h = rw (lowers p e, value_refused (tree 32 s 0) val k h) refl

    module _ {i size : ℕ} (h : c ≡ Ok (i, size)) where
      -- the value that the file says
      value : Value (tree 32 s 0)
      value = (value_read (tree 32 s 0) val k h).had

      value_is : value_of (tree 32 s 0) val ≡ done value
      unfolding value
      value_is = (value_read (tree 32 s 0) val k h).is

      abbrev records : List ℕ
      records = shape_file (inject (tree 32 s 0) value)

      shape_size : length records ≡ size
      unfolding value
      shape_size = sym (nothing_cut (tree 32 s 0) val value (lowers_small p e) value_is) ∙ (value_read (tree 32 s 0) val k h).told

      shaped_is : shaped s val ≡ done records
      unfolding shaped
      shaped_is = rw (lowers p e, value_is) refl

      pub count_done : ShapeRecords s val 0 size
      unfolding shape_room told_count
      count_done = rw (shaped_is, shape_size) refl

      pub shape_no_room : {O : List ℕ} → length O < size → Delivers (shaped s val) O O (Err NoRoom)
      shape_no_room {O} l = deliver_no_room (shaped s val) O records shaped_is (omega (arith, shape_size))

      pub shape_ready : (O : List ℕ) → size ≤ length O → Ready (standing 32 s val 0 0) O
      shape_ready O l = value_ready s E val value (lower_given p e) value_is O (omega (arith, shape_size))

      pub shape_done : {O O' : List ℕ} {m : ℕ} → size ≤ length O → Shaped (standing 32 s val 0 0) O O' m → Delivers (shaped s val) O O' (Ok m)
      shape_done {O} {O'} {m} l w = deliver_result (shaped s val) O O' records m shaped_is (omega (arith, shape_size)) (value_shaped s E val value (lower_given p e) value_is w)
