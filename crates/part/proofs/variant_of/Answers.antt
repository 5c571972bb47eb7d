-- The tags lead to one of the Variants, and the part is one of its payload's; what its record says is what `in_variant` asks.
-- Assumes nothing.
use mathlib.Core.Path.{◌∙◌}
use native.Mathlib.Omega.{arith}
use Rattle.types.specs.declared.Rec.TheVariants.{Variant}
use Rattle.types.specs.Entries.{ends_length, widths}
use Rattle.part.specs.Forms.{in_variant}
use Rattle.part.specs.Laws.Asked.{choice_inside, variant_none, variant_says, payload_rowed}
use Rattle.part.proofs.variant_of.Goals as goal

pub overflow_add-payload : goal.overflow_add-payload
overflow_add-payload c = let a = c.args in
    let l = choice_inside a.n a.frame.now a.first.bit c.find_choice-choice.ensures c.requires.le_n.0 c.requires.hops in
    let e = ends_length a.table.now.entries.now in
    omega arith

pub part_of-requires : goal.part_of-requires
part_of-requires c = let a = c.args in payload_rowed a.n a.frame.now a.first.bit c.find_choice-choice.ensures c.requires.cased c.rec.ensures c.in-Variant.is

pub returns : goal.returns
unfolding in_variant
returns c = let a = c.args in c.part_of.ensures ∙ variant_says a.n a.frame.now a.first.bit c.find_choice-choice.ensures a.first.level a.table.now.ty.now (widths a.table.now.entries.now) a.i (Variant c.in-Variant.m) c.rec.ensures c.in-Variant.is

pub returns-in_default : goal.returns-in_default
returns-in_default c = let a = c.args in variant_none a.n a.frame.now a.first.bit c.find_choice-choice.ensures a.first.level a.table.now.ty.now (widths a.table.now.entries.now) a.i c.rec.ensures c.in_default.not-Variant
