-- An Option is the list with the bound 2, whose value here and in the definition carry two proofs of one fact. Assumes nothing.
use Rattle.std.proofs.Common.{sym, ap, ◌∙◌}
use Rattle.num.specs.Laws.{two_is}
use Rattle.types.specs.declared.forms.Form.TheVariants as form
use Rattle.types.specs.Forms.{form_of}
use Rattle.types.proofs.Head.form.Goals as goal

pub returns-in-Opt : goal.returns-in-Opt
returns-in-Opt c = ap form.List (two_is _) ∙ ap form_of (sym c.in-Opt.is)
