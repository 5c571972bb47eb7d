-- The record decides, and one that stands in the shape is not its last place. Assumes nothing.
use borrow.Author.Rules.{rules}
use Rattle.rebuild.specs.Laws.Steps.{unit_fits, unit_yes, unit_no}
use Rattle.rebuild.proofs.read_unit.Goals as goal

ruleset steps = (unit_fits, unit_yes, unit_no, rules)

pub returns-then-record_at-eq-UNIT : goal.returns-then-record_at-eq-UNIT
returns-then-record_at-eq-UNIT c = search steps

pub returns : goal.returns
returns c = search steps
