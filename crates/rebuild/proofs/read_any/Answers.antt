-- The end is read off the definition's line for it. Assumes nothing.
use borrow.Author.Rules.{rules}
use Rattle.rebuild.specs.Laws.Steps.{any_at, any_after, any_next, any_nothing}
use Rattle.rebuild.proofs.read_any.Goals as goal

ruleset steps = (any_at, any_after, any_next, any_nothing, rules)

pub overflow_add-result : goal.overflow_add-result
overflow_add-result c = search steps

pub overflow_sub-result : goal.overflow_sub-result
overflow_sub-result c = search steps

pub returns : goal.returns
returns c = any_at _ _ _ _ c.tree_end.ensures c.in_ok-next.was

pub returns-in_err-next : goal.returns-in_err-next
returns-in_err-next c = rw c.from_residual.ensures (any_nothing _ _ _ c.tree_end.ensures c.in_err-next.was)
