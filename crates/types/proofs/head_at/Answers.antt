use Rattle.std.proofs.Common.{sym, subst, arith, lt-ltb}
use Rattle.types.specs.Record.{head_at}
use Rattle.types.specs.Heads.{Fair, fair_of}
use Rattle.types.proofs.head_at.Goals as goal

pub returns-then-at-ty : goal.returns-then-at-ty
unfolding head_at
returns-then-at-ty c = (simp (lt-ltb _ _ c.if-at-ty.true) (cc), subst Fair (sym c.head_of.ensures) (fair_of _ _ _ (omega arith)))
