use Prim.Native.Nat.{ℕ, ◌+◌, ◌-◌, ◌<◌}
use native.Mathlib.Omega.{arith}
use borrow.Author.Rules.{rules}
use Rattle.types.specs.Entries.{ends}
use Rattle.structural.proofs.Laws.Bounds.{bound_small}
use Rattle.structural.proofs.Laws.Forms.{level_some, next_fits, stands_inside}
use Rattle.types.specs.declared.forms.Parts.TheVariants.{Types}
use Rattle.told.specs.Laws.Rows.{given_copies}
use Rattle.frame.proofs.Laws.Lists.{share_all}
use Rattle.frame.proofs.Laws.Writing.{fitted_as, framed_as}
use Rattle.frame.proofs.Laws.Forms.{BitsFramed, RowFramed, SumFramed, ListFramed, readable, as_bits, as_product, product_there, as_sum, as_list, as_payload}
use Rattle.told.specs.Laws.Widths.{width_there}
use Rattle.frame.proofs.Steps.{value_fits, bits_inside, bits_done, going_start, going_stands, going_fitted, going_next, going_end, choice, sum_tags, sum_record, sum_end, sum_zeros, sum_done, empty_here, empty_zeros, empty_done, full_here, full_row, full_done, Half, half, half_first, half_rest, half_done, one_share, one_block}
use Rattle.frame.proofs.Source.+writers.Goals.{record-In-Bits, record-In-Product, record-In-Sum, record-In-List, record-In-Payload, list-After-share-k}
use Rattle.frame.proofs.Source.+writers.Goals as goal

ruleset steps = (level_some, stands_inside, width_there, next_fits, value_fits, rules)

-- what a record's form says of its frame
bits : (t : ℕ) (c : record-In-Bits t) → BitsFramed c.in-Bits.j c.in-Bits.n c.args.level c.args.self.now.table.ty.now c.args.self.now.val.now c.args.at c.args.from.next
bits t c = as_bits _ _ c.requires.stands c.requires.fitted c.head.ensures.0 c.head.ensures.1 c.form_of.ensures c.in-Bits.is

product : (t : ℕ) (c : record-In-Product t) → RowFramed c.in-Product.parts c.in-Product.n c.args.level c.args.self.now.table.ty.now (ends c.args.self.now.table.entries.now) c.args.self.now.val.now c.args.at c.args.from.next (c.args.from.next + 1)
product t c = as_product _ _ c.requires.stands c.requires.fitted c.head.ensures.0 c.head.ensures.1 c.form_of.ensures c.in-Product.is

sum : (t : ℕ) (c : record-In-Sum t) → SumFramed c.in-Sum.n c.in-Sum.i c.args.level c.args.self.now.table.ty.now (ends c.args.self.now.table.entries.now) c.args.self.now.val.now c.args.at c.args.from.next
sum t c = as_sum _ _ c.requires.stands c.requires.fitted c.head.ensures.0 c.head.ensures.1 c.form_of.ensures c.in-Sum.is

listed : (t : ℕ) (c : record-In-List t) → ListFramed c.in-List.bound c.in-List.m c.args.level c.args.self.now.table.ty.now (ends c.args.self.now.table.entries.now) c.args.self.now.val.now c.args.at c.args.from.next
listed t c = as_list _ _ c.requires.stands c.requires.fitted c.head.ensures.0 c.head.ensures.1 c.form_of.ensures c.in-List.is

payload : (t : ℕ) (c : record-In-Payload t) → RowFramed Types c.in-Payload.n c.args.level c.args.self.now.table.ty.now (ends c.args.self.now.table.entries.now) c.args.self.now.val.now c.args.at c.args.from.next c.args.from.next
payload t c = as_payload _ _ c.requires.stands c.requires.fitted c.head.ensures.0 c.head.ensures.1 c.form_of.ensures c.in-Payload.is

-- half of a list's bound
halved : (t : ℕ) (c : list-After-share-k t) → Half c.args.bound c.in-Some.half c.args.m c.get-n.result c.share-k.result
halved t c = half _ _ _ c.requires.few c.checked_div2.ensures c.in-Some.is c.get-n.ensures c.share-k.ensures

pub block-set_bit-requires : goal.block-set_bit-requires
block-set_bit-requires t c = (empty_here _ _ _ _ _ _ _ _ _ c.requires.stands c.args.self.now.wide c.requires.fitted c.if-m-eq0.true).0

pub block-overflow_add-start : goal.block-overflow_add-start
block-overflow_add-start t c = let e = (empty_here _ _ _ _ _ _ _ _ _ c.requires.stands c.args.self.now.wide c.requires.fitted c.if-m-eq0.true).1 in omega arith

pub block-width-requires : goal.block-width-requires
block-width-requires t c = search steps

pub block-overflow_mul-len : goal.block-overflow_mul-len
block-overflow_mul-len t c = let e = (empty_here _ _ _ _ _ _ _ _ _ c.requires.stands c.args.self.now.wide c.requires.fitted c.if-m-eq0.true).1 in rw c.width.ensures (omega arith)

pub block-write_zeros-requires : goal.block-write_zeros-requires
block-write_zeros-requires t c = rw c.width.ensures (empty_zeros _ _ _ _ _ _ _ _ _ c.requires.stands c.args.self.now.wide c.requires.fitted c.if-m-eq0.true c.set_bit.ensures)

pub block-overflow_add-result : goal.block-overflow_add-result
block-overflow_add-result t c = let e = (empty_here _ _ _ _ _ _ _ _ _ c.requires.stands c.args.self.now.wide c.requires.fitted c.if-m-eq0.true).1 in rw c.width.ensures (omega arith)

pub block-returns-then-m-eq0 : goal.block-returns-then-m-eq0
block-returns-then-m-eq0 t c = rw c.width.ensures (empty_done _ _ _ _ _ _ _ _ _ c.requires.stands c.args.self.now.wide c.requires.fitted c.if-m-eq0.true c.set_bit.ensures (rw (← c.width.ensures) c.write_zeros.ensures))

pub block-set_bit-requires-2 : goal.block-set_bit-requires-2
block-set_bit-requires-2 t c = (full_here _ _ _ _ _ _ _ _ _ c.requires.stands c.args.self.now.wide c.requires.fitted c.if-m-eq0.false c.requires.fact).0

pub block-overflow_add-from : goal.block-overflow_add-from
block-overflow_add-from t c = let e = (full_here _ _ _ _ _ _ _ _ _ c.requires.stands c.args.self.now.wide c.requires.fitted c.if-m-eq0.false c.requires.fact).1 in omega arith

pub block-row-requires : goal.block-row-requires
block-row-requires t c = (omega arith, (given_copies _ c.requires.stands, full_row _ _ _ _ _ _ _ _ _ c.requires.stands c.args.self.now.wide c.requires.fitted c.if-m-eq0.false c.requires.fact c.set_bit-2.ensures))

pub block-returns : goal.block-returns
block-returns t c = full_done _ _ _ _ _ _ _ _ _ c.requires.stands c.args.self.now.wide c.requires.fitted c.if-m-eq0.false c.requires.fact c.set_bit-2.ensures c.row.ensures

pub list-block-requires : goal.list-block-requires
list-block-requires t c = (omega arith, (one_share _ c.args.bound c.requires.few c.checked_div2.ensures c.in-None.is, (c.requires.stands, fitted_as (one_block _ c.args.bound c.requires.few c.checked_div2.ensures c.in-None.is _ _ _ _ _) c.requires.fitted)))

pub list-block-here-requires : goal.list-block-here-requires
list-block-here-requires t c =
    let b = halved t (goal.at.list-block-here-requires t c).After-share-k in
    (omega arith, (share_all _ _ _ c.share-k.ensures, (c.requires.stands, half_first b _ _ _ _ _ c.requires.fitted)))

pub list-overflow_sub-m : goal.list-overflow_sub-m
list-overflow_sub-m t c =
    let b = halved t (goal.at.list-overflow_sub-m t c).After-share-k in
    let l = b.most in omega arith

pub list-list-requires : goal.list-list-requires
list-list-requires t c =
    let b = halved t (goal.at.list-list-requires t c).After-share-k in
    let h = b in
    let l = h.less in
    (omega arith, (h.others, (c.requires.stands, half_rest h _ _ _ _ _ c.requires.fitted c.block-here.ensures)))

pub list-returns-in-None : goal.list-returns-in-None
list-returns-in-None t c = framed_as (one_block _ c.args.bound c.requires.few c.checked_div2.ensures c.in-None.is _ _ _ _ _) c.block.ensures

pub list-returns-in-Some : goal.list-returns-in-Some
list-returns-in-Some t c =
    let b = halved t (goal.at.list-returns-in-Some t c).After-share-k in
    half_done b _ _ _ _ _ c.block-here.ensures c.list.ensures

pub record-form_of-requires : goal.record-form_of-requires
record-form_of-requires t c = readable _ _ c.requires.stands c.requires.fitted c.head.ensures.0 c.head.ensures.1

pub record-write_bits-requires : goal.record-write_bits-requires
record-write_bits-requires t c =
    let b = bits t (goal.at.record-write_bits-requires t c).In-Bits in
    record { v_in_bounds = (b.there, b.inside); inside = bits_inside _ _ _ _ _ b c.requires.fitted }

pub record-overflow_add-result : goal.record-overflow_add-result
record-overflow_add-result t c =
    let b = bits t (goal.at.record-overflow_add-result t c).In-Bits in
    let l = b.there in search steps

pub record-overflow_add-result-in-Bits : goal.record-overflow_add-result-in-Bits
record-overflow_add-result-in-Bits t c =
    let b = bits t (goal.at.record-overflow_add-result-in-Bits t c).In-Bits in
    omega (arith, (bits_inside _ _ _ _ _ b c.requires.fitted).1)

pub record-overflow_add-at : goal.record-overflow_add-at
record-overflow_add-at t c = search steps

pub record-overflow_sub-level : goal.record-overflow_sub-level
record-overflow_sub-level t c = search steps

pub record-overflow_add-inner : goal.record-overflow_add-inner
record-overflow_add-inner t c = let l = product_there _ _ c.requires.stands c.requires.fitted c.head.ensures.0 c.head.ensures.1 c.form_of.ensures c.in-Product.is in search steps

pub record-row-requires : goal.record-row-requires
record-row-requires t c =
    let b = product t (goal.at.record-row-requires t c).In-Product in
    let l = level_some c.requires.stands in
    (omega arith, (b.given, fitted_as b.same c.requires.fitted))

pub record-overflow_add-at-in-Sum : goal.record-overflow_add-at-in-Sum
record-overflow_add-at-in-Sum t c = search steps

pub record-hop-place-requires : goal.record-hop-place-requires
record-hop-place-requires t c =
    let b = sum t (goal.at.record-hop-place-requires t c).In-Sum in
    b.hopped

pub record-overflow_sub-level-in-Sum : goal.record-overflow_sub-level-in-Sum
record-overflow_sub-level-in-Sum t c = search steps

pub record-width-requires : goal.record-width-requires
record-width-requires t c = search steps

pub record-overflow_add-inner-in-Sum : goal.record-overflow_add-inner-in-Sum
record-overflow_add-inner-in-Sum t c =
    let b = sum t (goal.at.record-overflow_add-inner-in-Sum t c).In-Sum in
    let l = b.there in search steps

pub record-sum-requires : goal.record-sum-requires
record-sum-requires t c =
    let b = sum t (goal.at.record-sum-requires t c).In-Sum in
    let u = choice b c.args.self.now.wide c.requires.stands c.width.ensures c.hop-place.ensures in
    let l = level_some c.requires.stands in
    (omega arith, ((b.less, b.few), (u.given, (u.room, fitted_as u.same c.requires.fitted))))

pub record-overflow_add-at-in-List : goal.record-overflow_add-at-in-List
record-overflow_add-at-in-List t c = search steps

pub record-overflow_sub-level-in-List : goal.record-overflow_sub-level-in-List
record-overflow_sub-level-in-List t c = search steps

pub record-overflow_add-inner-in-List : goal.record-overflow_add-inner-in-List
record-overflow_add-inner-in-List t c =
    let b = listed t (goal.at.record-overflow_add-inner-in-List t c).In-List in
    let l = b.there in search steps

pub record-list-requires : goal.record-list-requires
record-list-requires t c =
    let b = listed t (goal.at.record-list-requires t c).In-List in
    let l = level_some c.requires.stands in
    let m = bound_small c.in-List.bound in
    (omega arith, (b.less, (b.given, fitted_as b.same c.requires.fitted)))

pub record-overflow_add-at-in-Payload : goal.record-overflow_add-at-in-Payload
record-overflow_add-at-in-Payload t c = search steps

pub record-overflow_sub-level-in-Payload : goal.record-overflow_sub-level-in-Payload
record-overflow_sub-level-in-Payload t c = search steps

pub record-row-requires-in-Payload : goal.record-row-requires-in-Payload
record-row-requires-in-Payload t c =
    let b = payload t (goal.at.record-row-requires-in-Payload t c).In-Payload in
    let l = level_some c.requires.stands in
    (omega arith, (b.given, fitted_as b.same c.requires.fitted))

pub record-returns-in-Bits : goal.record-returns-in-Bits
record-returns-in-Bits t c =
    let b = bits t (goal.at.record-returns-in-Bits t c).In-Bits in
    bits_done _ _ _ _ _ b c.write_bits.ensures

pub record-returns-in-Product : goal.record-returns-in-Product
record-returns-in-Product t c =
    let b = product t (goal.at.record-returns-in-Product t c).In-Product in
    framed_as b.same c.row.ensures

pub record-returns-in-Sum : goal.record-returns-in-Sum
record-returns-in-Sum t c =
    let b = sum t (goal.at.record-returns-in-Sum t c).In-Sum in
    framed_as (choice b c.args.self.now.wide c.requires.stands c.width.ensures c.hop-place.ensures).same c.sum.ensures

pub record-returns-in-List : goal.record-returns-in-List
record-returns-in-List t c =
    let b = listed t (goal.at.record-returns-in-List t c).In-List in
    framed_as b.same c.list.ensures

pub record-returns-in-Payload : goal.record-returns-in-Payload
record-returns-in-Payload t c =
    let b = payload t (goal.at.record-returns-in-Payload t c).In-Payload in
    framed_as b.same c.row-in-Payload.ensures

pub row-loop-init : goal.row-loop-init
row-loop-init t c = going_start (omega arith) c.requires.given_parts c.requires.fitted

pub row-record-here-requires : goal.row-record-here-requires
row-record-here-requires t c = let g = c.loop.invariant in
    let l : 0 < c.args.n - c.loop.counter = omega arith in
    (omega arith, (going_stands l g, going_fitted l g))

pub row-after_part-place-requires : goal.row-after_part-place-requires
row-after_part-place-requires t c = stands_inside (going_stands (omega arith) c.loop.invariant)

pub row-loop-preserved : goal.row-loop-preserved
row-loop-preserved t c = going_next (c.args.n - c.loop.counter) (omega arith) c.loop.invariant c.record-here.ensures c.after_part-place.ensures

pub row-returns : goal.row-returns
row-returns t c = going_end _ (omega arith) c.loop.invariant

pub sum-write_tags-start-requires : goal.sum-write_tags-start-requires
sum-write_tags-start-requires t c = record { i_lt_n = c.requires.i_lt_n; inside = sum_tags _ _ _ _ _ _ _ _ c.requires.fitted }

pub sum-record-last-requires : goal.sum-record-last-requires
sum-record-last-requires t c = (omega arith, (c.requires.stands, sum_record _ _ _ _ _ _ _ _ c.requires.fitted c.write_tags-start.ensures))

pub sum-overflow_add-end : goal.sum-overflow_add-end
sum-overflow_add-end t c = let e = sum_end _ _ _ _ _ _ _ _ c.requires.fitted c.write_tags-start.ensures c.record-last.ensures c.requires.at_len_bound in omega (arith, e.1)

pub sum-overflow_sub-end : goal.sum-overflow_sub-end
sum-overflow_sub-end t c = let e = sum_end _ _ _ _ _ _ _ _ c.requires.fitted c.write_tags-start.ensures c.record-last.ensures c.requires.at_len_bound in omega (arith, e.0)

pub sum-write_zeros-requires : goal.sum-write_zeros-requires
sum-write_zeros-requires t c = let (a, b) = sum_zeros _ _ _ _ _ _ _ _ c.requires.fitted c.write_tags-start.ensures c.record-last.ensures c.requires.at_len_bound in
    (omega arith, omega arith)

pub sum-returns : goal.sum-returns
sum-returns t c = sum_done _ _ _ _ _ _ _ _ c.requires.fitted c.write_tags-start.ensures c.record-last.ensures c.requires.at_len_bound c.write_zeros.ensures
