-- An Option is the list with the bound 2, whose value here and in the definition carry two proofs of one fact. Assumes nothing.
use Rattle.std.proofs.Common.{◌≡◌, refl, sym, ap, ap₂, ◌∙◌}
use Rattle.num.specs.Laws.{two_is}
use Rattle.told.specs.declared.Form.{Form}
use Rattle.told.specs.declared.Form.TheVariants as form
use Rattle.told.specs.Forms.{choice_at, form_of}
use Rattle.told.proofs.form_of.Goals as goal

pub returns-in-Opt : goal.returns-in-Opt
unfolding choice_at
returns-in-Opt c =
    let i : c.into-in-Opt.result ≡ choice_at c.args.val.now c.args.v = rw (c.into-in-Opt.ensures, c.choice-in-Opt.ensures, c.new-in-Opt.ensures.0, c.new-in-Opt.ensures.1) refl in
    ap₂ {C = Form} form.List (two_is _) i ∙ ap (λ h. form_of h c.args.val.now c.args.v) (sym c.in-Opt.is)
