use Rattle.std.proofs.Common.{◌≡◌, refl, ◌||◌, sym, ap, ◌∙◌, arith}
use Rattle.types.specs.Entries.{sizes_length}
use Rattle.table.specs.Lowering.{is_never, not_never}
use Rattle.table.specs.Measuring.{filling_start, filling_next, filling_flags}
use Rattle.table.proofs.enter_all.Goals.{Joined-matches, in-Never, in_default}
use Rattle.table.proofs.enter_all.Goals as goal

told : (c : Joined-matches) → c.match-matches.matches ≡ is_never c.head_at-h.result
told c = elim c.match-matches.branch [
  | in-Never w ↦ w.matches-is ∙ ap is_never (sym w.in-Never.is)
  | in_default w ↦ w.matches-is ∙ not_never _ w.in_default.not-Never
]

pub loop-i-init : goal.loop-i-init
loop-i-init c = (refl, filling_start _ _ _ _ _ c.requires)

pub enter-requires : goal.enter-requires
enter-requires c =
    let g = c.loop-i.invariant.1 in
    (c.head_at-h.ensures.1, omega (arith, g.within, g.given.sizes, sizes_length c.loop-i.entries))

pub loop-i-preserved : goal.loop-i-preserved
loop-i-preserved c =
    let (k, g) = c.loop-i.invariant in
    let e = c.enter.ensures.entered in
    (c.enter.ensures.kept ∙ k, filling_next _ _ _ _ g c.loop-i-test.true c.head_at-h.ensures (rw k at e) (ap (λ b. c.loop-i.never || b) (told (goal.at.loop-i-preserved c).Joined-matches)) refl)

pub returns-clause-kept : goal.returns-clause-kept
returns-clause-kept c = c.loop-i.invariant.0

pub returns-clause-flagged : goal.returns-clause-flagged
returns-clause-flagged c = filling_flags _ c.loop-i.invariant.1 (omega arith) refl refl
