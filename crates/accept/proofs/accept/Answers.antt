-- What stands at the first record is the file's type, and its width is the table's: the length, the tail and what is seen are what the model asks. Assumes nothing.
use mathlib.Core.Path.{refl, sym, ap, ◌∙◌}
use native.Mathlib.Omega.{arith}
use Rattle.std.proofs.lemmas.Bool.{not_from_true, not_from_false}
use Rattle.structural.proofs.Laws.Forms.{stands}
use Rattle.accept.specs.Laws.Whole.{rounded, first_there, bits_fit, other_length, tail_run, whole_inside, stray_tail, frame_told}
use Rattle.accept.specs.Answers.{outcome_of}
use Rattle.accept.proofs.accept.Goals as goal

pub width-width-requires : goal.width-width-requires
width-width-requires c = first_there c.requires.given c.requires.wide

pub returns-then-len-size : goal.returns-then-len-size
returns-then-len-size c = let a = c.args in
    other_length c.requires.given c.requires.wide c.width-width.ensures a.frame.now _ refl (λ e. c.if-len-size.true (e ∙ sym (rounded _ c.div_ceil-size.ensures)))

pub overflow_mul-len : goal.overflow_mul-len
overflow_mul-len c = bits_fit c.requires.given c.requires.wide c.width-width.ensures _ (c.if-len-size.false ∙ rounded _ c.div_ceil-size.ensures)

pub overflow_sub-len : goal.overflow_sub-len
overflow_sub-len c = let e = c.if-len-size.false ∙ rounded _ c.div_ceil-size.ensures in omega arith

pub zeros_at-requires : goal.zeros_at-requires
zeros_at-requires c = let a = c.args in tail_run c.requires.given c.requires.wide c.width-width.ensures a.frame.now _ refl (c.if-len-size.false ∙ rounded _ c.div_ceil-size.ensures)

pub returns-then-not-zeros_at : goal.returns-then-not-zeros_at
returns-then-not-zeros_at c = let a = c.args in
    stray_tail c.requires.given c.requires.wide c.width-width.ensures a.frame.now _ refl (c.if-len-size.false ∙ rounded _ c.div_ceil-size.ensures) _ c.zeros_at.ensures (not_from_false _ c.if-not-zeros_at.true)

pub see_record-requires : goal.see_record-requires
see_record-requires c = let a = c.args in record { stands = stands c.requires.given; wide = c.requires.wide; inside = whole_inside c.requires.given c.requires.wide c.width-width.ensures a.frame.now _ refl (c.if-len-size.false ∙ rounded _ c.div_ceil-size.ensures) }

pub returns : goal.returns
returns c = let a = c.args in
    ap outcome_of c.ok_or.ensures.value
    ∙ frame_told c.requires.given c.requires.wide c.width-width.ensures a.frame.now _ refl (c.if-len-size.false ∙ rounded _ c.div_ceil-size.ensures) _ c.zeros_at.ensures (not_from_true _ c.if-not-zeros_at.false) _ c.see_record.ensures c.requires.lowered
