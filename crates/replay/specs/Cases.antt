-- Where the files of a case stand in its body.
use Rattle.std.specs.Prelude.{◌++◌, ℕ, ◌≤◌, length}
use Rattle.replay.specs.declared.Case.{Case}

-- the files of a case, one behind the other, take no more than so many bytes
pub record Stands (c : Case) (len : ℕ) : Type 0 where
  pub within : length (c.ty.now ++ (c.file.now ++ (c.path.now ++ (c.value.now ++ c.result.now)))) ≤ len
