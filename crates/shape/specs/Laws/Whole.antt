-- What `write_shape` asks and answers, said of the value that a value file is: its shape's file.
use Rattle.std.specs.Prelude.{◌≡◌, false, List, ℕ, ◌≤◌, length}
use Rattle.model.specs.Outcome.{done}
use Rattle.model.specs.Values.{Value, inject}
use Rattle.model.specs.ValueFiles.{value_of}
use Rattle.model.specs.ShapeFiles.{shape_file}
use Rattle.types.specs.Steps.{Given}
use Rattle.types.specs.Trees.{tree}
use Rattle.structural.specs.Writing.{Wrote}
use Rattle.told.specs.Forms.{standing}
use Rattle.told.specs.Laws.Whole.{whole_told}
use Rattle.shape.specs.Forms.{Ready, Shaped}
use Rattle.shape.specs.Laws.Writing.{placed_wrote}

module _ (s E val : List ℕ) (x : Value (tree 32 s 0)) (g : Given 32 false s E 0) (h : value_of (tree 32 s 0) val ≡ done x) where
  pub value_ready : (out : List ℕ) → length (shape_file (inject (tree 32 s 0) x)) ≤ length out → Ready (standing 32 s val 0 0) out
  value_ready out l = record { shape = inject (tree 32 s 0) x; end = _; told = whole_told s E val x g h; room = l }

  pub value_shaped : {before after : List ℕ} {len : ℕ} → Shaped (standing 32 s val 0 0) before after len → Wrote (shape_file (inject (tree 32 s 0) x)) before after len
  value_shaped w = placed_wrote w.placed (whole_told s E val x g h)
