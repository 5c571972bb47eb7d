use mathlib.Core.Path.{◌≡◌, refl, sym, ap, ◌∙◌}
use Prim.Native.Nat.{ℕ, ◌-◌}
use native.Mathlib.Omega.{arith}
use lib.ListN.{get_or}
use Rattle.num.specs.Powers.{bound_log2}
use Rattle.model.specs.Options.{pick}
use Rattle.types.specs.Entries.{widths}
use Rattle.part.specs.Laws.Asked.{wide_some, copies_few, Last, last_block, More, more_blocks}
use Rattle.part.proofs.+element_of.Goals.{In_default, In-Some, then-present, else-present}
use Rattle.part.proofs.+element_of.Goals as goal

-- with the bound 2 the list is a block of 1 or of none
last : (t : _) (c : In_default t) → Last c.args.bound c.args.list.level (widths c.args.table.now.entries.now) c.args.list.at c.args.frame.now c.args.list.bit c.args.i
last t c = let a = c.args in last_block a.list.level (widths a.table.now.entries.now) a.list.at a.frame.now a.list.bit a.i (sym c.in_default.is ∙ c.checked_div2.ensures)

-- with another it is a block of the half or of none, and the list with that bound
more : (t : _) (c : In-Some t) (n : ℕ) → n ≡ c.in-Some.half.value → (w : ℕ) → w ≡ get_or (widths c.args.table.now.entries.now) c.args.list.at 0 → More c.args.bound c.in-Some.half n w c.args.list.level (widths c.args.table.now.entries.now) c.args.list.at c.args.frame.now c.args.list.bit c.args.i
more t c n e w f = let a = c.args in more_blocks a.list.level (widths a.table.now.entries.now) a.list.at a.frame.now a.list.bit a.i (sym c.in-Some.is ∙ c.checked_div2.ensures) e f

pub bit_at-present-requires : goal.bit_at-present-requires
bit_at-present-requires t c = let a = c.args in
    let l = wide_some (bound_log2 a.bound.value - 1) (get_or (widths a.table.now.entries.now) a.list.at 0) in
    omega arith

pub overflow_add-first : goal.overflow_add-first
overflow_add-first t c = let a = c.args in
    let l = wide_some (bound_log2 a.bound.value - 1) (get_or (widths a.table.now.entries.now) a.list.at 0) in
    omega arith

pub copy_of-requires : goal.copy_of-requires
copy_of-requires t c =
    let w = (last t (goal.at.copy_of-requires t c).In_default).wide in
    let l = copies_few c.bit_at-present.result c.from.ensures (get_or (widths c.args.table.now.entries.now) c.args.list.at 0) in
    (c.requires.at_in_bounds, omega arith)

pub returns-in_default : goal.returns-in_default
returns-in_default t c = c.copy_of.ensures ∙ (last t (goal.at.returns-in_default t c).In_default).same c.bit_at-present.ensures c.from.ensures

pub copy_of-requires-then-i-len : goal.copy_of-requires-then-i-len
copy_of-requires-then-i-len t c = let w = (more t (goal.at.copy_of-requires-then-i-len t c).In-Some _ c.get-n.ensures _ refl).wide in (c.requires.at_in_bounds, omega arith)

pub returns-then-i-len : goal.returns-then-i-len
returns-then-i-len t c =
    let e : c.if-present.len ≡ pick c.bit_at-present.result c.get-n.result 0 = elim c.if-present.branch [ then-present w ↦ w.len-is ∙ ap (λ b. pick b c.get-n.result 0) (sym w.if-present.true) | else-present w ↦ w.len-is ∙ ap (λ b. pick b c.get-n.result 0) (sym w.if-present.false) ] in
    c.copy_of-then-i-len.ensures ∙ (more t (goal.at.returns-then-i-len t c).In-Some _ c.get-n.ensures _ refl).near c.bit_at-present.ensures e c.if-i-len.true

pub overflow_mul-rest : goal.overflow_mul-rest
overflow_mul-rest t c = let w = (more t (goal.at.overflow_mul-rest t c).In-Some _ c.get-n.ensures _ c.width.ensures).wide in omega arith

pub overflow_add-rest : goal.overflow_add-rest
overflow_add-rest t c = let w = (more t (goal.at.overflow_add-rest t c).In-Some _ c.get-n.ensures _ c.width.ensures).wide in omega arith

pub element_of-requires : goal.element_of-requires
element_of-requires t c =
    let m = more t (goal.at.element_of-requires t c).In-Some _ c.get-n.ensures _ c.width.ensures in
    let w = m.wide in
    let l = m.less in
    let (i, j) = c.requires.inside in
    (omega arith, (c.requires.at_in_bounds, (omega arith, omega arith)))

pub returns : goal.returns
returns t c =
    let e : c.if-present.len ≡ pick c.bit_at-present.result c.get-n.result 0 = elim c.if-present.branch [ then-present w ↦ w.len-is ∙ ap (λ b. pick b c.get-n.result 0) (sym w.if-present.true) | else-present w ↦ w.len-is ∙ ap (λ b. pick b c.get-n.result 0) (sym w.if-present.false) ] in
    c.element_of.ensures ∙ (more t (goal.at.returns t c).In-Some _ c.get-n.ensures _ c.width.ensures).far c.bit_at-present.ensures e c.if-i-len.false
