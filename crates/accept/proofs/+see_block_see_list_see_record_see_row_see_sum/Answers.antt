use mathlib.Core.Path.{◌≡◌, refl, ap, ◌∙◌}
use Prim.Native.Nat.{◌+◌, ◌-◌, ◌<◌}
use native.Mathlib.Omega.{arith}
use borrow.Author.Rules.{rules}
use Rattle.model.specs.Frames.{width}
use Rattle.structural.proofs.Laws.Forms.{level_some, next_fits, stands_inside}
use Rattle.structural.proofs.Laws.Bounds.{bound_small}
use Rattle.told.specs.Laws.Rows.{given_copies}
use Rattle.told.specs.Laws.Trees.{one_given, left_given}
use Rattle.told.specs.Laws.Widths.{width_there}
use Rattle.accept.specs.Laws.Sums.{shares_some}
use Rattle.accept.specs.Laws.Walking.{rowing_start, rowing_stands, rowing_inside, rowing_end, rowing_next, others_given, few_hops, tag_inside, tag_fits, left_padded, right_padded, sum_left, sum_right, block_inside, block_some}
use Rattle.accept.specs.Laws.Answers.{both_stray, stray_second}
use Rattle.accept.proofs.Steps.{as_product, as_sum, as_list, as_payload, record_nothing, record_bit, record_integer, record_product, record_sum, record_list, record_payload, few, counted_both, two, halved, listed_two, listed_more, inside_as, record_end, sum_padded, block_mul, block_run, half_mul, half_next, half_block, half_list, half_tag, two_block, row_plain, row_end_there, row_width_there, row_next, row_stray, one_there, one_inside, one_last, one_fits, one_run, one_clear, one_stray, block_zeros}
use Rattle.accept.proofs.+see_block_see_list_see_record_see_row_see_sum.Goals as goal

ruleset steps = (level_some, stands_inside, width_there, next_fits, record_nothing, record_bit, record_integer, record_payload, record_end, rowing_start, row_plain, one_given, one_there, one_last, one_fits, one_run, one_clear, one_stray, block_inside, block_some, block_mul, block_run, rules)

pub see_record-see_row-requires : goal.see_record-see_row-requires
see_record-see_row-requires t c = let a = c.args in
    let i = as_product c.requires.stands c.head.ensures.0 c.head.ensures.1 c.form.ensures c.in-Product.is in
    let l = level_some c.requires.stands in
    (omega arith, (i.given, (c.requires.wide, inside_as a.frame.now a.bit _ _ i.wide c.requires.inside)))

pub see_record-both-requires : goal.see_record-both-requires
see_record-both-requires t c = (omega arith, few _ c.in_ok-see_row-in-Product.was c.see_row.ensures)

pub see_record-see_sum-requires : goal.see_record-see_sum-requires
see_record-see_sum-requires t c = let a = c.args in
    let i = as_sum c.requires.stands c.head.ensures.0 c.head.ensures.1 c.form.ensures c.in-Sum.is in
    let l = level_some c.requires.stands in
    let o = i.some_choice in
    let f = i.few in
    (omega arith, ((o, f), (i.given, (c.requires.wide, sum_padded c.requires.stands c.requires.wide c.width.ensures a.frame.now a.bit c.requires.inside i))))

pub see_record-both-requires-in-Sum : goal.see_record-both-requires-in-Sum
see_record-both-requires-in-Sum t c = (omega arith, few _ c.in_ok-see_sum-in-Sum.was c.see_sum.ensures)

pub see_record-see_list-requires : goal.see_record-see_list-requires
see_record-see_list-requires t c = let a = c.args in
    let i = as_list c.requires.stands c.head.ensures.0 c.head.ensures.1 c.form.ensures c.in-List.is in
    let l = level_some c.requires.stands in
    let f = bound_small c.in-List.bound in
    (omega arith, (i.given, (c.requires.wide, inside_as a.frame.now a.bit _ _ (ap width i.lowered) c.requires.inside)))

pub see_record-both-requires-in-List : goal.see_record-both-requires-in-List
see_record-both-requires-in-List t c = (omega arith, few _ c.in_ok-see_list-in-List.was c.see_list.ensures)

pub see_record-see_row-requires-in-Payload : goal.see_record-see_row-requires-in-Payload
see_record-see_row-requires-in-Payload t c = let a = c.args in
    let i = as_payload c.requires.stands c.head.ensures.0 c.head.ensures.1 c.form.ensures c.in-Payload.is in
    let l = level_some c.requires.stands in
    (omega arith, (i.given, (c.requires.wide, inside_as a.frame.now a.bit _ _ i.wide c.requires.inside)))

pub see_record-returns-in_ok-see_row-in-Product : goal.see_record-returns-in_ok-see_row-in-Product
see_record-returns-in_ok-see_row-in-Product t c = let a = c.args in
    counted_both refl c.in_ok-see_row-in-Product.was c.both.ensures ∙ record_product c.requires.stands c.head.ensures.0 c.head.ensures.1 c.form.ensures a.frame.now a.bit _ _ _ c.in-Product.is c.see_row.ensures

pub see_record-returns-in_err-see_row-in-Product : goal.see_record-returns-in_err-see_row-in-Product
see_record-returns-in_err-see_row-in-Product t c = let a = c.args in
    c.from_residual.ensures ∙ stray_second _ _ 1 refl c.in_err-see_row-in-Product.was ∙ record_product c.requires.stands c.head.ensures.0 c.head.ensures.1 c.form.ensures a.frame.now a.bit _ _ _ c.in-Product.is c.see_row.ensures

pub see_record-returns-in_ok-see_sum-in-Sum : goal.see_record-returns-in_ok-see_sum-in-Sum
see_record-returns-in_ok-see_sum-in-Sum t c = let a = c.args in
    counted_both refl c.in_ok-see_sum-in-Sum.was c.both-in-Sum.ensures ∙ record_sum c.requires.stands c.head.ensures.0 c.head.ensures.1 c.form.ensures a.frame.now a.bit _ _ _ _ c.in-Sum.is c.requires.wide c.width.ensures c.requires.inside c.see_sum.ensures

pub see_record-returns-in_err-see_sum-in-Sum : goal.see_record-returns-in_err-see_sum-in-Sum
see_record-returns-in_err-see_sum-in-Sum t c = let a = c.args in
    c.from_residual-in_err-see_sum-in-Sum.ensures ∙ stray_second _ _ 1 refl c.in_err-see_sum-in-Sum.was ∙ record_sum c.requires.stands c.head.ensures.0 c.head.ensures.1 c.form.ensures a.frame.now a.bit _ _ _ _ c.in-Sum.is c.requires.wide c.width.ensures c.requires.inside c.see_sum.ensures

pub see_record-returns-in_ok-see_list-in-List : goal.see_record-returns-in_ok-see_list-in-List
see_record-returns-in_ok-see_list-in-List t c = let a = c.args in
    counted_both refl c.in_ok-see_list-in-List.was c.both-in-List.ensures ∙ record_list c.requires.stands c.head.ensures.0 c.head.ensures.1 c.form.ensures a.frame.now a.bit _ _ c.in-List.is c.requires.inside c.see_list.ensures

pub see_record-returns-in_err-see_list-in-List : goal.see_record-returns-in_err-see_list-in-List
see_record-returns-in_err-see_list-in-List t c = let a = c.args in
    c.from_residual-in_err-see_list-in-List.ensures ∙ stray_second _ _ 1 refl c.in_err-see_list-in-List.was ∙ record_list c.requires.stands c.head.ensures.0 c.head.ensures.1 c.form.ensures a.frame.now a.bit _ _ c.in-List.is c.requires.inside c.see_list.ensures

pub see_record-overflow_add-at : goal.see_record-overflow_add-at
see_record-overflow_add-at t c = search steps

pub see_record-overflow_sub-level : goal.see_record-overflow_sub-level
see_record-overflow_sub-level t c = search steps

pub see_record-overflow_add-at-in-Sum : goal.see_record-overflow_add-at-in-Sum
see_record-overflow_add-at-in-Sum t c = search steps

pub see_record-overflow_sub-level-in-Sum : goal.see_record-overflow_sub-level-in-Sum
see_record-overflow_sub-level-in-Sum t c = search steps

pub see_record-width-requires : goal.see_record-width-requires
see_record-width-requires t c = search steps

pub see_record-overflow_add-at-in-List : goal.see_record-overflow_add-at-in-List
see_record-overflow_add-at-in-List t c = search steps

pub see_record-overflow_sub-level-in-List : goal.see_record-overflow_sub-level-in-List
see_record-overflow_sub-level-in-List t c = search steps

pub see_record-overflow_add-at-in-Payload : goal.see_record-overflow_add-at-in-Payload
see_record-overflow_add-at-in-Payload t c = search steps

pub see_record-overflow_sub-level-in-Payload : goal.see_record-overflow_sub-level-in-Payload
see_record-overflow_sub-level-in-Payload t c = search steps

pub see_record-returns-in-Nothing : goal.see_record-returns-in-Nothing
see_record-returns-in-Nothing t c = search steps

pub see_record-returns-in-Bit : goal.see_record-returns-in-Bit
see_record-returns-in-Bit t c = search steps

pub see_record-returns-in-Payload : goal.see_record-returns-in-Payload
see_record-returns-in-Payload t c = search steps

pub see_row-loop-preserved : goal.see_row-loop-preserved
see_row-loop-preserved t c = let a = c.args in
    let h : 0 < c.args.n - c.loop.counter = omega arith in
    let e : (a.n - c.loop.counter) - 1 ≡ a.n - (c.loop.counter + 1) = omega arith in
    rw e at (rowing_next c.loop.invariant _ _ _ _ h c.requires.wide c.see_record.ensures (counted_both refl c.in_ok-see_record.was c.both-all.ensures) c.width.ensures c.after_part-place.ensures)

pub see_row-see_record-requires : goal.see_row-see_record-requires
see_row-see_record-requires t c = let r = c.loop.invariant in
    let h : 0 < c.args.n - c.loop.counter = omega arith in
    (omega arith, (rowing_stands r h, (c.requires.wide, rowing_inside r h)))

pub see_row-returns-in_err-see_record : goal.see_row-returns-in_err-see_record
see_row-returns-in_err-see_record t c = let h : 0 < c.args.n - c.loop.counter = omega arith in
    c.from_residual.ensures ∙ row_stray c.loop.invariant h c.requires.wide c.see_record.ensures c.in_err-see_record.was

pub see_row-both-all-requires : goal.see_row-both-all-requires
see_row-both-all-requires t c = (c.loop.invariant.small, few _ c.in_ok-see_record.was c.see_record.ensures)

pub see_row-width-requires : goal.see_row-width-requires
see_row-width-requires t c = let h : 0 < c.args.n - c.loop.counter = omega arith in row_width_there c.loop.invariant h c.requires.wide

pub see_row-overflow_add-here : goal.see_row-overflow_add-here
see_row-overflow_add-here t c = let h : 0 < c.args.n - c.loop.counter = omega arith in row_next c.loop.invariant h c.requires.wide c.width.ensures

pub see_row-after_part-place-requires : goal.see_row-after_part-place-requires
see_row-after_part-place-requires t c = let h : 0 < c.args.n - c.loop.counter = omega arith in row_end_there c.loop.invariant h

pub see_row-returns : goal.see_row-returns
see_row-returns t c = rowing_end c.loop.invariant (omega arith)

pub see_row-returns-then-is_plain : goal.see_row-returns-then-is_plain
see_row-returns-then-is_plain t c = search steps

pub see_sum-see_record-requires : goal.see_sum-see_record-requires
see_sum-see_record-requires t c = let a = c.args in
    let e = c.if-n-eq1.true in
    (omega arith, (one_given c.requires.given_parts e, (c.requires.wide, one_inside c.requires.given_parts e c.requires.padded)))

pub see_sum-bit_at-requires : goal.see_sum-bit_at-requires
see_sum-bit_at-requires t c = let a = c.args in
    let s = shares_some c.btree_split_index-few.ensures c.requires.le_n.0 c.if-n-eq1.false in
    let o = s.some in
    let l = s.less in
    tag_inside s c.requires.given_parts c.requires.padded

pub see_sum-overflow_sub-others : goal.see_sum-overflow_sub-others
see_sum-overflow_sub-others t c = let a = c.args in
    let s = shares_some c.btree_split_index-few.ensures c.requires.le_n.0 c.if-n-eq1.false in
    let o = s.some in
    let l = s.less in
    omega arith

pub see_sum-hop-requires : goal.see_sum-hop-requires
see_sum-hop-requires t c = let a = c.args in
    let s = shares_some c.btree_split_index-few.ensures c.requires.le_n.0 c.if-n-eq1.false in
    let o = s.some in
    let l = s.less in
    few_hops s c.requires.given_parts

pub see_sum-overflow_add-bit : goal.see_sum-overflow_add-bit
see_sum-overflow_add-bit t c = let a = c.args in
    let s = shares_some c.btree_split_index-few.ensures c.requires.le_n.0 c.if-n-eq1.false in
    let o = s.some in
    let l = s.less in
    let f = tag_fits s c.requires.given_parts c.requires.padded in
    omega arith

pub see_sum-see_sum-requires : goal.see_sum-see_sum-requires
see_sum-see_sum-requires t c = let a = c.args in
    let s = shares_some c.btree_split_index-few.ensures c.requires.le_n.0 c.if-n-eq1.false in
    let o = s.some in
    let l = s.less in
    (omega arith, ((omega arith, omega arith), (others_given s c.requires.given_parts c.hop.ensures, (c.requires.wide, right_padded s c.requires.given_parts c.requires.padded c.hop.ensures))))

pub see_sum-returns-then-bit_at : goal.see_sum-returns-then-bit_at
see_sum-returns-then-bit_at t c = let a = c.args in
    let s = shares_some c.btree_split_index-few.ensures c.requires.le_n.0 c.if-n-eq1.false in
    let o = s.some in
    let l = s.less in
    sum_right _ _ _ _ _ _ _ s _ c.bit_at.ensures _ _ c.hop.ensures c.if-bit_at.true c.see_sum.ensures

pub see_sum-overflow_add-bit-2 : goal.see_sum-overflow_add-bit-2
see_sum-overflow_add-bit-2 t c = let a = c.args in
    let s = shares_some c.btree_split_index-few.ensures c.requires.le_n.0 c.if-n-eq1.false in
    let o = s.some in
    let l = s.less in
    let f = tag_fits s c.requires.given_parts c.requires.padded in
    omega arith

pub see_sum-see_sum-requires-2 : goal.see_sum-see_sum-requires-2
see_sum-see_sum-requires-2 t c = let a = c.args in
    let s = shares_some c.btree_split_index-few.ensures c.requires.le_n.0 c.if-n-eq1.false in
    let o = s.some in
    let l = s.less in
    (omega arith, ((omega arith, omega arith), (left_given s c.requires.given_parts, (c.requires.wide, left_padded s c.requires.given_parts c.requires.padded))))

pub see_sum-returns : goal.see_sum-returns
see_sum-returns t c = let a = c.args in
    let s = shares_some c.btree_split_index-few.ensures c.requires.le_n.0 c.if-n-eq1.false in
    let o = s.some in
    let l = s.less in
    sum_left _ _ _ _ _ _ _ s _ c.bit_at.ensures _ c.if-bit_at.false c.see_sum-2.ensures

pub see_sum-width-requires : goal.see_sum-width-requires
see_sum-width-requires t c = search steps

pub see_sum-overflow_add-last : goal.see_sum-overflow_add-last
see_sum-overflow_add-last t c = search steps

pub see_sum-overflow_sub-end : goal.see_sum-overflow_sub-end
see_sum-overflow_sub-end t c = search steps

pub see_sum-zeros_at-requires : goal.see_sum-zeros_at-requires
see_sum-zeros_at-requires t c = search steps

pub see_sum-returns-then-not-zeros_at : goal.see_sum-returns-then-not-zeros_at
see_sum-returns-then-not-zeros_at t c = search steps

pub see_sum-returns-then-n-eq1 : goal.see_sum-returns-then-n-eq1
see_sum-returns-then-n-eq1 t c = search steps

pub see_block-see_row-requires : goal.see_block-see_row-requires
see_block-see_row-requires t c = let a = c.args in
    (omega arith, (given_copies _ c.requires.stands, (c.requires.wide, block_inside a.level a.table.now.ty.now a.n a.at a.frame.now a.bit c.requires.inside)))

pub see_block-returns : goal.see_block-returns
see_block-returns t c = let a = c.args in block_zeros a.n a.frame.now a.bit c.bit_at.ensures c.if-bit_at.false c.requires.stands c.requires.wide c.width.ensures c.zeros_at.ensures c.then_some.ensures

pub see_block-returns-then-bit_at : goal.see_block-returns-then-bit_at
see_block-returns-then-bit_at t c = search steps

pub see_block-width-requires : goal.see_block-width-requires
see_block-width-requires t c = search steps

pub see_list-overflow_add-next : goal.see_list-overflow_add-next
see_list-overflow_add-next t c = let a = c.args in
    let e = c.get-n.ensures in
    let h = halved _ _ _ c.args.bound _ c.checked_div2.ensures _ c.in-Some.is in
    half_tag a.frame.now a.bit _ _ _ h c.requires.inside

pub see_list-overflow_mul-next : goal.see_list-overflow_mul-next
see_list-overflow_mul-next t c = let a = c.args in
    let e = c.get-n.ensures in
    let h = halved _ _ _ c.args.bound _ c.checked_div2.ensures _ c.in-Some.is in
    half_mul c.requires.stands c.requires.wide c.width.ensures a.frame.now a.bit _ h e c.requires.inside

pub see_list-see_list-requires : goal.see_list-see_list-requires
see_list-see_list-requires t c = let a = c.args in
    let e = c.get-n.ensures in
    let h = halved _ _ _ c.args.bound _ c.checked_div2.ensures _ c.in-Some.is in
    let l = h.less in
    (omega arith, (c.requires.stands, (c.requires.wide, half_list c.requires.stands c.requires.wide c.width.ensures a.frame.now a.bit _ h e c.requires.inside)))

pub see_list-both-requires : goal.see_list-both-requires
see_list-both-requires t c = (few _ c.in_ok-first.was c.see_block-2.ensures, few _ c.in_ok-others.was c.see_list.ensures)

pub see_list-see_block-requires : goal.see_list-see_block-requires
see_list-see_block-requires t c = let a = c.args in
    let h = two _ _ _ c.args.bound _ c.checked_div2.ensures c.in_default.is in
    (omega arith, (c.requires.stands, (c.requires.wide, two_block a.frame.now a.bit h c.requires.inside)))

pub see_list-returns-in_default : goal.see_list-returns-in_default
see_list-returns-in_default t c = let a = c.args in
    listed_two _ _ _ c.args.bound _ c.checked_div2.ensures a.frame.now a.bit _ c.in_default.is c.see_block.ensures

pub see_list-overflow_add-next-2 : goal.see_list-overflow_add-next-2
see_list-overflow_add-next-2 t c = let a = c.args in
    let h = halved _ _ _ c.args.bound _ c.checked_div2.ensures _ c.in-Some.is in
    half_next c.requires.stands c.requires.wide c.width.ensures a.frame.now a.bit _ h c.get-n.ensures c.requires.inside

pub see_list-see_block-requires-2 : goal.see_list-see_block-requires-2
see_list-see_block-requires-2 t c = let a = c.args in
    let h = halved _ _ _ c.args.bound _ c.checked_div2.ensures _ c.in-Some.is in
    (omega arith, (c.requires.stands, (c.requires.wide, half_block c.requires.stands c.requires.wide c.width.ensures a.frame.now a.bit _ h c.get-n.ensures c.requires.inside)))

pub see_list-returns-in_err-first : goal.see_list-returns-in_err-first
see_list-returns-in_err-first t c = let a = c.args in
    c.from_residual.ensures ∙ both_stray _ _ c.in_err-first.was ∙ listed_more _ _ _ c.args.bound _ c.checked_div2.ensures a.frame.now a.bit _ _ _ _ _ _ _ c.in-Some.is c.get-n.ensures c.requires.stands c.requires.wide c.width.ensures c.see_block-2.ensures refl

pub see_list-returns-in_err-others : goal.see_list-returns-in_err-others
see_list-returns-in_err-others t c = let a = c.args in
    c.from_residual-in_err-others.ensures ∙ stray_second _ _ _ c.in_ok-first.was c.in_err-others.was ∙ listed_more _ _ _ c.args.bound _ c.checked_div2.ensures a.frame.now a.bit _ _ _ _ _ _ _ c.in-Some.is c.get-n.ensures c.requires.stands c.requires.wide c.width.ensures c.see_block-2.ensures c.see_list.ensures

pub see_list-returns : goal.see_list-returns
see_list-returns t c = let a = c.args in
    counted_both c.in_ok-first.was c.in_ok-others.was c.both.ensures ∙ listed_more _ _ _ c.args.bound _ c.checked_div2.ensures a.frame.now a.bit _ _ _ _ _ _ _ c.in-Some.is c.get-n.ensures c.requires.stands c.requires.wide c.width.ensures c.see_block-2.ensures c.see_list.ensures

pub see_list-width-requires : goal.see_list-width-requires
see_list-width-requires t c = search steps
