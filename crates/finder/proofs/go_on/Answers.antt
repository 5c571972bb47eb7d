-- Whatever is found in the front stands; else what is found in the piece does, so many frames further.
use Rattle.std.proofs.Common.{◌≡◌, ◌∙◌, ap, Ok, Err, rules}
use Rattle.finder.specs.Laws.{index_fits, on_refused, on_nowhere, on_found}
use Rattle.finder.proofs.go_on.Goals as goal

pub overflow_add-before : goal.overflow_add-before
overflow_add-before c = let h = index_fits _ _ _ _ _ c.args.so_far _ c.search.ensures _ (c.in_ok-search.was ∙ ap Ok c.in-Some.is) c.requires in search rules

pub returns-in_err-search : goal.returns-in_err-search
returns-in_err-search c =
    let e : c.from_residual.result ≡ Err c.in_err-search.field-0.0 = search rules in
    rw e (on_refused _ _ _ _ _ _ _ c.search.ensures _ c.in_err-search.was)

pub returns-in-None : goal.returns-in-None
returns-in-None c = on_nowhere _ _ _ _ _ _ _ c.search.ensures (c.in_ok-search.was ∙ ap Ok c.in-None.is)

pub returns-in-Some : goal.returns-in-Some
returns-in-Some c = rw (c.or.ensures, c.unwrap_or.ensures) (on_found _ _ _ _ _ _ _ c.search.ensures _ (c.in_ok-search.was ∙ ap Ok c.in-Some.is))
