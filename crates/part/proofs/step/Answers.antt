-- What the record says leads to the kind's own function (`below`, `fixed_below`), and what stands at the place gives what that one asks.
-- Assumes nothing.
use mathlib.Core.Path.{◌≡◌, refl, sym, ap, subst, ◌∙◌}
use Prim.Native.Nat.{ℕ, ◌+◌, ◌-◌}
use Rattle.num.specs.Laws.{two_is}
use native.Mathlib.Omega.{arith}
use Rattle.std.proofs.Common.{Bor}
use Rattle.std.specs.Prelude.{List, Option, None, Some}
use Rattle.std.specs.Option.{option_copied}
use Rattle.types.specs.declared.Head.{Head}
use Rattle.types.specs.declared.Head.TheVariants.{Either, Opt, Tuple, Array, Listed, Variants}
use Rattle.types.specs.Record.{head_at}
use Rattle.structural.proofs.Laws.Forms.{level_some, next_fits}
use Rattle.types.specs.Entries.{ends, widths}
use Rattle.part.specs.declared.Spot.{Spot}
use Rattle.part.specs.Forms.{below, fixed_below, listed, stepped}
use Rattle.part.specs.Holds.{Holds, HoldsIn}
use Rattle.part.specs.Laws.Holds.{holding_stands}
use Rattle.part.specs.Laws.Asked.{step_says, tuple_rowed, array_asked, listed_asked, option_asked, either_asked, enum_asked}
use Rattle.part.specs.Laws.Fixed.{held_in, fixed_says, both_say, stepped_none}
use Rattle.part.proofs.step.Goals.{Start}
use Rattle.part.proofs.step.Goals as goal

-- in the frame that is given
given : {o : Option (Bor (List ℕ))} {d : ℕ} {s E : List ℕ} {p bit : ℕ} {f : Bor (List ℕ)} → o ≡ Some f → HoldsIn d s E p (option_copied o) bit → Holds d s E p f.now bit
given {o} {d} {s} {E} {p} {bit} e h = subst (λ o. HoldsIn d s E p (option_copied o) bit) e h

module _ (c : Start) {h : Head} (k : Head) (u : h ≡ head_at c.args.table.now.ty.now c.args.from.at) (v : h ≡ k) where
  abbrev there : Option (Bor (List ℕ)) → Option Spot
  there o = let a = c.args in stepped a.from.level a.table.now.ty.now (ends a.table.now.entries.now) (widths a.table.now.entries.now) a.from.at (option_copied o) a.from.bit a.i

  says : {f : Bor (List ℕ)} → c.args.frame ≡ Some f → let a = c.args in below k (a.from.level - 1) a.table.now.ty.now (ends a.table.now.entries.now) (widths a.table.now.entries.now) (a.from.at + 1) f.now a.from.bit a.i ≡ there c.args.frame
  says {f} e = let a = c.args in step_says a.from.level a.table.now.ty.now (ends a.table.now.entries.now) (widths a.table.now.entries.now) a.from.at f.now a.from.bit a.i h k u v ∙ sym (ap there e)

  -- and in none
  nowhere : c.args.frame ≡ None → let a = c.args in fixed_below k (a.from.level - 1) (ends a.table.now.entries.now) (widths a.table.now.entries.now) (a.from.at + 1) a.from.bit a.i ≡ there c.args.frame
  nowhere e = let a = c.args in fixed_says a.from.level a.table.now.ty.now (ends a.table.now.entries.now) (widths a.table.now.entries.now) a.from.at a.from.bit a.i h k u v ∙ sym (ap there e)

  -- in either
  told : {r : Option Spot} → let a = c.args in ((fr : List ℕ) → below k (a.from.level - 1) a.table.now.ty.now (ends a.table.now.entries.now) (widths a.table.now.entries.now) (a.from.at + 1) fr a.from.bit a.i ≡ r)
      → fixed_below k (a.from.level - 1) (ends a.table.now.entries.now) (widths a.table.now.entries.now) (a.from.at + 1) a.from.bit a.i ≡ r → r ≡ there a.frame
  told f g = let a = c.args in both_say a.from.level a.table.now.ty.now (ends a.table.now.entries.now) (widths a.table.now.entries.now) a.from.at (option_copied a.frame) a.from.bit a.i k f g u v

pub overflow_add-below : goal.overflow_add-below
overflow_add-below c = let k = c.well_formed in let l = next_fits (holding_stands (held_in _ c.requires.stood).holds.holding) (omega arith) in omega arith

pub overflow_sub-below : goal.overflow_sub-below
overflow_sub-below c = level_some (holding_stands (held_in _ c.requires.stood).holds.holding)

pub part_of-requires : goal.part_of-requires
part_of-requires c = tuple_rowed (held_in _ c.requires.stood).holds c.requires.wide c.head.ensures.0 c.head.ensures.1 c.in-Tuple.is

pub copy_of-requires : goal.copy_of-requires
copy_of-requires c = array_asked (held_in _ c.requires.stood).holds c.requires.wide c.head.ensures.0 c.head.ensures.1 c.in-Array.is

pub side_of-requires : goal.side_of-requires
side_of-requires c = let (h, i) = either_asked (given c.in_ok-frame-in-Either.was c.requires.stood) c.requires.wide c.head.ensures.0 c.head.ensures.1 c.in-Either.is in record { hops = h; inside = i }

pub element_of-requires : goal.element_of-requires
element_of-requires c = let (l, i) = option_asked (given c.in_ok-frame-in-Opt.was c.requires.stood) c.requires.wide c.head.ensures.0 c.head.ensures.1 c.in-Opt.is in record { at_in_bounds = l; inside = i }

pub element_of-requires-in-Listed : goal.element_of-requires-in-Listed
element_of-requires-in-Listed c = let (l, i) = listed_asked (given c.in_ok-frame-in-Listed.was c.requires.stood) c.requires.wide c.head.ensures.0 c.head.ensures.1 c.in-Listed.is in record { at_in_bounds = l; inside = i }

pub variant_of-requires : goal.variant_of-requires
variant_of-requires c = let (n, (h, (i, (l, k)))) = enum_asked (given c.in_ok-frame-in-Variants.was c.requires.stood) c.requires.wide c.head.ensures.0 c.head.ensures.1 c.in-Variants.is in record { le_n = n; hops = h; inside = i; le_level = l; cased = k }

pub returns-in-Tuple : goal.returns-in-Tuple
unfolding below fixed_below
returns-in-Tuple c = c.part_of.ensures ∙ told (goal.at.returns-in-Tuple c).Start (Tuple c.in-Tuple.n) c.head.ensures.0 c.in-Tuple.is (λ fr. refl) refl

pub returns-in-Array : goal.returns-in-Array
unfolding below fixed_below
returns-in-Array c = c.copy_of.ensures ∙ told (goal.at.returns-in-Array c).Start (Array c.in-Array.n) c.head.ensures.0 c.in-Array.is (λ fr. refl) refl

pub returns-in_ok-frame-in-Either : goal.returns-in_ok-frame-in-Either
unfolding below
returns-in_ok-frame-in-Either c = c.side_of.ensures ∙ says (goal.at.returns-in_ok-frame-in-Either c).Start Either c.head.ensures.0 c.in-Either.is c.in_ok-frame-in-Either.was

pub returns-in_err-frame-in-Either : goal.returns-in_err-frame-in-Either
unfolding fixed_below
returns-in_err-frame-in-Either c = c.from_residual.ensures ∙ nowhere (goal.at.returns-in_err-frame-in-Either c).Start Either c.head.ensures.0 c.in-Either.is c.in_err-frame-in-Either.was

pub returns-in_ok-frame-in-Opt : goal.returns-in_ok-frame-in-Opt
unfolding below
returns-in_ok-frame-in-Opt c = let a = c.args in c.element_of.ensures ∙ ap (λ b. listed (a.from.level - 1) (widths a.table.now.entries.now) b (a.from.at + 1) c.in_ok-frame-in-Opt.field-0.now a.from.bit a.i) (two_is _) ∙ says (goal.at.returns-in_ok-frame-in-Opt c).Start Opt c.head.ensures.0 c.in-Opt.is c.in_ok-frame-in-Opt.was

pub returns-in_err-frame-in-Opt : goal.returns-in_err-frame-in-Opt
unfolding fixed_below
returns-in_err-frame-in-Opt c = c.from_residual-in_err-frame-in-Opt.ensures ∙ nowhere (goal.at.returns-in_err-frame-in-Opt c).Start Opt c.head.ensures.0 c.in-Opt.is c.in_err-frame-in-Opt.was

pub returns-in_ok-frame-in-Listed : goal.returns-in_ok-frame-in-Listed
unfolding below
returns-in_ok-frame-in-Listed c = c.element_of-in-Listed.ensures ∙ says (goal.at.returns-in_ok-frame-in-Listed c).Start (Listed c.in-Listed.bound) c.head.ensures.0 c.in-Listed.is c.in_ok-frame-in-Listed.was

pub returns-in_err-frame-in-Listed : goal.returns-in_err-frame-in-Listed
unfolding fixed_below
returns-in_err-frame-in-Listed c = c.from_residual-in_err-frame-in-Listed.ensures ∙ nowhere (goal.at.returns-in_err-frame-in-Listed c).Start (Listed c.in-Listed.bound) c.head.ensures.0 c.in-Listed.is c.in_err-frame-in-Listed.was

pub returns-in_ok-frame-in-Variants : goal.returns-in_ok-frame-in-Variants
unfolding below
returns-in_ok-frame-in-Variants c = c.variant_of.ensures ∙ says (goal.at.returns-in_ok-frame-in-Variants c).Start (Variants c.in-Variants.n) c.head.ensures.0 c.in-Variants.is c.in_ok-frame-in-Variants.was

pub returns-in_err-frame-in-Variants : goal.returns-in_err-frame-in-Variants
unfolding fixed_below
returns-in_err-frame-in-Variants c = c.from_residual-in_err-frame-in-Variants.ensures ∙ nowhere (goal.at.returns-in_err-frame-in-Variants c).Start (Variants c.in-Variants.n) c.head.ensures.0 c.in-Variants.is c.in_err-frame-in-Variants.was

pub returns-in_default : goal.returns-in_default
returns-in_default c = let a = c.args in
    let n = c.in_default in
    stepped_none a.from.level a.table.now.ty.now (ends a.table.now.entries.now) (widths a.table.now.entries.now) a.from.at (option_copied a.frame) a.from.bit a.i c.head.ensures.0 n.not-Either n.not-Opt n.not-Tuple n.not-Array n.not-Listed n.not-Variants
