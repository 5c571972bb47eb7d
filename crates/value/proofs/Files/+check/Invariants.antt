-- Each child has a level less than its parent, and a row of children comes before each of them: twice the level, and one more for a row, is the measure.
-- In the loops what is left of the row decides.
use Rattle.types.specs.Entries.{ends}
use Rattle.std.proofs.Common.{◌≡◌, ◌+◌, ◌-◌, ◌*◌, false}
use Rattle.types.specs.Steps.{GivenRow}
use Rattle.types.specs.Trees.{tree, kids}
use Rattle.types.specs.Walks.{walk}
use Rattle.value.specs.Check.{check, checks, parts, run}
use Rattle.value.proofs.Files.+check.Given as goal

abbrev pub invariant-check_parts-loop : goal.invariant-check_parts-loop
invariant-check_parts-loop l = record {
  rest : checks (kids (tree l.level l.self.table.ty.now) (walk l.level false l.self.table.ty.now) (l.n - l.counter) l.p) l.self.val.now l.e l.size ≡ parts (kids (tree l.level l.self.table.ty.now) (walk l.level false l.self.table.ty.now) l.n l.at) l.self.val.now l.v l.shape;
  row : GivenRow l.level false l.self.table.ty.now (ends l.self.table.entries.now) (l.n - l.counter) l.p;
}

abbrev pub invariant-check_run-loop : goal.invariant-check_run-loop
invariant-check_run-loop l = run (check (tree l.level l.self.table.ty.now l.at) l.self.val.now) (l.n - l.counter) l.e l.size ≡ run (check (tree l.level l.self.table.ty.now l.at) l.self.val.now) l.n l.v l.shape

abbrev pub decreases-check_parts : goal.decreases-check_parts
decreases-check_parts l = l.level * 2 + 1

abbrev pub decreases-check_payload : goal.decreases-check_payload
decreases-check_payload l = l.level * 2

abbrev pub decreases-check_run : goal.decreases-check_run
decreases-check_run l = l.level * 2 + 1

abbrev pub decreases-check_value : goal.decreases-check_value
decreases-check_value l = l.level * 2
