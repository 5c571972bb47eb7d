use mathlib.Core.Path.{◌≡◌, refl, sym, ap, ◌∙◌}
use Prim.Native.Nat.{◌+◌, ◌-◌, ◌^◌, ◌<◌}
use native.Mathlib.Omega.{arith}
use borrow.Author.Rules.{rules}
use lib.ListN.{length}
use Rattle.model.proofs.Laws.Sizes.{width_block}
use Rattle.types.specs.Steps.{given_inside}
use Rattle.structural.specs.Forms as structural
use Rattle.structural.specs.Writing.{put}
use Rattle.structural.proofs.Laws.Forms.{level_some, next_fits}
use Rattle.structural.proofs.Laws.Bounds.{bound_small}
use Rattle.told.specs.Laws.Rows.{after_is, given_copies}
use Rattle.told.specs.Laws.Widths.{width_there}
use Rattle.record.specs.Marks.{mark_of, bytes}
use Rattle.record.specs.Laws.Writing.{lent_length}
use Rattle.accept.specs.Forms.{tag_at}
use Rattle.accept.specs.Laws.Formed.{copies_wide}
use Rattle.unframe.specs.Laws.Formed.{as_nothing, as_boolean, as_integer, as_product, as_sum, as_list, as_payload}
use Rattle.unframe.specs.Laws.Lists.{listed_below, list_two}
use Rattle.unframe.proofs.Steps.{nothing_there, ready_as, placed_as, one_room, one_placed, bit_below, marked_room, marked_ready, marked_length, marked_small, marked_placed, numbered_room, numbered_ready, numbered_length, numbered_small, numbered_placed, rowing_start, rowing_length, rowing_fits, rowing_end, rowing_stands, rowing_inside, rowing_ready, rowing_small, rowing_next, head_length, integer_placed, block_ready, block_placed, block_missing, two_ready, two_placed, two_missing, listing, first_ready, block_fits, second_ready, lengths_fit, list_placed, two_wide, bit_number_is}
use Rattle.unframe.proofs.+write_block_write_list_write_record_write_row.Goals as goal

pub write_block-bit_at-requires : goal.write_block-bit_at-requires
write_block-bit_at-requires t c = let a = c.args in
    let e = width_block a.n (structural.standing a.level a.table.now.ty.now a.at) in
    omega arith

pub write_block-overflow_add-bit : goal.write_block-overflow_add-bit
write_block-overflow_add-bit t c = let a = c.args in
    let e = width_block a.n (structural.standing a.level a.table.now.ty.now a.at) in
    omega arith

pub write_block-write_row-requires : goal.write_block-write_row-requires
write_block-write_row-requires t c = let a = c.args in
    let e = width_block a.n (structural.standing a.level a.table.now.ty.now a.at) in
    let f = copies_wide a.level a.table.now.ty.now a.n a.at in
    (omega arith, (given_copies a.n c.requires.stands, (c.requires.wide, ((omega arith, omega arith), block_ready a.level a.table.now.ty.now a.n a.at a.frame.now a.bit c.requires.ready_numbered (sym c.bit_at.ensures ∙ c.if-not-bit_at.false)))))

pub write_block-returns : goal.write_block-returns
write_block-returns t c = let a = c.args in block_placed a.level a.table.now.ty.now a.n a.at a.frame.now a.bit (sym c.bit_at.ensures ∙ c.if-not-bit_at.false) c.write_row.ensures

pub write_block-returns-then-not-bit_at : goal.write_block-returns-then-not-bit_at
write_block-returns-then-not-bit_at t c = let a = c.args in block_missing a.level a.table.now.ty.now a.n a.at a.frame.now a.bit a.out.now (sym c.bit_at.ensures ∙ c.if-not-bit_at.true)

pub write_list-bit_at-requires : goal.write_list-bit_at-requires
write_list-bit_at-requires t c = let a = c.args in
    let two = list_two a.level a.table.now.ty.now a.at (sym c.in-None.is ∙ c.checked_div2.ensures) in
    let w = two_wide two in
    omega arith

pub write_list-overflow_add-bit : goal.write_list-overflow_add-bit
write_list-overflow_add-bit t c = let a = c.args in
    let two = list_two a.level a.table.now.ty.now a.at (sym c.in-None.is ∙ c.checked_div2.ensures) in
    let w = two_wide two in
    omega arith

pub write_list-write_record-requires : goal.write_list-write_record-requires
write_list-write_record-requires t c = let a = c.args in
    let two = list_two a.level a.table.now.ty.now a.at (sym c.in-None.is ∙ c.checked_div2.ensures) in
    let w = two_wide two in
    (omega arith, (c.requires.stands, (c.requires.wide, ((omega arith, omega arith), two_ready two a.frame.now a.bit c.requires.ready_numbered (sym c.bit_at.ensures ∙ c.if-not-bit_at.false)))))

pub write_list-returns-in-None-2 : goal.write_list-returns-in-None-2
write_list-returns-in-None-2 t c = let a = c.args in
    let two = list_two a.level a.table.now.ty.now a.at (sym c.in-None.is ∙ c.checked_div2.ensures) in
    two_placed two a.frame.now a.bit (sym c.bit_at.ensures ∙ c.if-not-bit_at.false) c.write_record.ensures

pub write_list-returns-in-None : goal.write_list-returns-in-None
write_list-returns-in-None t c = let a = c.args in
    let two = list_two a.level a.table.now.ty.now a.at (sym c.in-None.is ∙ c.checked_div2.ensures) in
    two_missing two a.frame.now a.bit a.out.now (sym c.bit_at.ensures ∙ c.if-not-bit_at.true)

pub write_list-write_block-block-requires : goal.write_list-write_block-block-requires
write_list-write_block-block-requires t c = let a = c.args in
    let i = listing c.requires.stands c.requires.wide c.checked_div2.ensures c.in-Some.is c.get-n.ensures refl in
    let w = i.wide in
    let b = i.tagged in
    (omega arith, (c.requires.stands, (c.requires.wide, ((omega arith, omega arith), first_ready (i.blocks a.frame.now a.bit) c.requires.ready_numbered))))

pub write_list-overflow_add-next : goal.write_list-overflow_add-next
write_list-overflow_add-next t c = let a = c.args in
    let i = listing c.requires.stands c.requires.wide c.checked_div2.ensures c.in-Some.is c.get-n.ensures refl in
    let w = i.wide in
    omega arith

pub write_list-width-requires : goal.write_list-width-requires
write_list-width-requires t c = width_there c.requires.stands c.requires.wide

pub write_list-overflow_mul-next : goal.write_list-overflow_mul-next
write_list-overflow_mul-next t c = let a = c.args in
    let i = listing c.requires.stands c.requires.wide c.checked_div2.ensures c.in-Some.is c.get-n.ensures c.width.ensures in
    let w = i.wide in
    omega arith

pub write_list-overflow_add-next-in-Some : goal.write_list-overflow_add-next-in-Some
write_list-overflow_add-next-in-Some t c = let a = c.args in
    let i = listing c.requires.stands c.requires.wide c.checked_div2.ensures c.in-Some.is c.get-n.ensures c.width.ensures in
    let w = i.wide in
    omega arith

pub write_list-slice_bounds-write_list-count : goal.write_list-slice_bounds-write_list-count
write_list-slice_bounds-write_list-count t c = let a = c.args in
    let i = listing c.requires.stands c.requires.wide c.checked_div2.ensures c.in-Some.is c.get-n.ensures c.width.ensures in
    block_fits (i.blocks a.frame.now a.bit) c.requires.ready_numbered c.write_block-block.ensures

pub write_list-slice_bounds-write_list-start : goal.write_list-slice_bounds-write_list-start
write_list-slice_bounds-write_list-start t c = let a = c.args in
    let i = listing c.requires.stands c.requires.wide c.checked_div2.ensures c.in-Some.is c.get-n.ensures c.width.ensures in
    block_fits (i.blocks a.frame.now a.bit) c.requires.ready_numbered c.write_block-block.ensures

pub write_list-write_list-others-requires : goal.write_list-write_list-others-requires
write_list-write_list-others-requires t c = let a = c.args in
    let i = listing c.requires.stands c.requires.wide c.checked_div2.ensures c.in-Some.is c.get-n.ensures c.width.ensures in
    let w = i.wide in
    let l = i.less in
    (omega arith, (c.requires.stands, (c.requires.wide, ((omega arith, omega arith), second_ready (i.blocks a.frame.now a.bit) c.requires.ready_numbered c.write_block-block.ensures))))

pub write_list-overflow_add-result : goal.write_list-overflow_add-result
write_list-overflow_add-result t c = let a = c.args in
    let i = listing c.requires.stands c.requires.wide c.checked_div2.ensures c.in-Some.is c.get-n.ensures c.width.ensures in
    let m = listed_below a.level a.table.now.ty.now a.at a.frame.now a.bit _ c.args.bound (list_placed (i.blocks a.frame.now a.bit) c.requires.ready_numbered c.write_block-block.ensures c.write_list-others.ensures).there in
    let b = bound_small c.args.bound in
    omega arith

pub write_list-overflow_add-result-in-Some : goal.write_list-overflow_add-result-in-Some
write_list-overflow_add-result-in-Some t c = let a = c.args in
    let i = listing c.requires.stands c.requires.wide c.checked_div2.ensures c.in-Some.is c.get-n.ensures c.width.ensures in
    let short : length a.out.now < 2 ^ 64 = search rules in
    let l = lengths_fit (i.blocks a.frame.now a.bit) c.requires.ready_numbered c.write_block-block.ensures c.write_list-others.ensures in omega arith

pub write_list-returns-in-Some : goal.write_list-returns-in-Some
write_list-returns-in-Some t c = let a = c.args in
    let i = listing c.requires.stands c.requires.wide c.checked_div2.ensures c.in-Some.is c.get-n.ensures c.width.ensures in
    list_placed (i.blocks a.frame.now a.bit) c.requires.ready_numbered c.write_block-block.ensures c.write_list-others.ensures

pub write_record-bit_at-requires : goal.write_record-bit_at-requires
write_record-bit_at-requires t c =
    let i = as_boolean c.requires.stands c.head-h.ensures.0 c.head-h.ensures.1 c.form.ensures c.in-Bit.is in
    let w = i.wide in
    omega arith

pub write_record-write_mark-requires : goal.write_record-write_mark-requires
write_record-write_mark-requires t c =
    let i = as_boolean c.requires.stands c.head-h.ensures.0 c.head-h.ensures.1 c.form.ensures c.in-Bit.is in
    let a = c.args in let w = i.wide in let m = bit_below (tag_at a.frame.now a.bit) in let e = bit_number_is c.from.ensures c.bit_at.ensures in record { in_bounds = one_room (i.same a.frame.now a.bit (omega arith)) c.requires.ready; fair = (c.head-h.ensures.1, i.marks _ (omega arith)) }

pub write_record-write_mark-requires-in-Integer : goal.write_record-write_mark-requires-in-Integer
write_record-write_mark-requires-in-Integer t c =
    let i = as_integer c.requires.stands c.head-h.ensures.0 c.head-h.ensures.1 c.form.ensures c.in-Integer.is in
    let a = c.args in let w = i.wide in record { in_bounds = one_room (i.same a.frame.now a.bit (omega arith)) c.requires.ready; fair = (c.head-h.ensures.1, i.marks) }

pub write_record-slice_bounds-uint_at-end : goal.write_record-slice_bounds-uint_at-end
write_record-slice_bounds-uint_at-end t c =
    let i = as_integer c.requires.stands c.head-h.ensures.0 c.head-h.ensures.1 c.form.ensures c.in-Integer.is in
    let a = c.args in
    let w = i.wide in
    let e = i.same a.frame.now a.bit (omega arith) in
    let r = one_room e c.requires.ready in
    let m = head_length e c.requires.ready (c.write_mark-in-Integer.ensures ∙ ap (λ r. put (bytes r) a.out.now) i.mark) in
    omega arith

pub write_record-uint_at-requires : goal.write_record-uint_at-requires
write_record-uint_at-requires t c =
    let i = as_integer c.requires.stands c.head-h.ensures.0 c.head-h.ensures.1 c.form.ensures c.in-Integer.is in
    let a = c.args in
    let w = i.wide in
    let e = i.same a.frame.now a.bit (omega arith) in
    let r = one_room e c.requires.ready in
    let m = head_length e c.requires.ready (c.write_mark-in-Integer.ensures ∙ ap (λ r. put (bytes r) a.out.now) i.mark) in
    ((omega arith, omega arith), i.few, lent_length c.write_mark-in-Integer.new.out (omega arith))

pub write_record-overflow_add-at : goal.write_record-overflow_add-at
write_record-overflow_add-at t c = let l = next_fits c.requires.stands (let k = c.well_formed in omega arith) in omega arith

pub write_record-overflow_sub-level : goal.write_record-overflow_sub-level
write_record-overflow_sub-level t c = level_some c.requires.stands

pub write_record-slice_bounds-write_row-count : goal.write_record-slice_bounds-write_row-count
write_record-slice_bounds-write_row-count t c = let a = c.args in
    let i = as_product c.requires.stands c.head-h.ensures.0 c.head-h.ensures.1 c.form.ensures c.in-Product.is in
    marked_room (i.same a.frame.now a.bit) c.requires.ready

pub write_record-slice_bounds-write_row-start : goal.write_record-slice_bounds-write_row-start
write_record-slice_bounds-write_row-start t c = let a = c.args in
    let i = as_product c.requires.stands c.head-h.ensures.0 c.head-h.ensures.1 c.form.ensures c.in-Product.is in
    marked_room (i.same a.frame.now a.bit) c.requires.ready

pub write_record-write_row-k-requires : goal.write_record-write_row-k-requires
write_record-write_row-k-requires t c =
    let i = as_product c.requires.stands c.head-h.ensures.0 c.head-h.ensures.1 c.form.ensures c.in-Product.is in
    let a = c.args in
    let w = i.wide in
    let d = level_some c.requires.stands in
    (omega arith, (i.given, (c.requires.wide, ((omega arith, omega arith), marked_ready (i.same a.frame.now a.bit) c.requires.ready))))

pub write_record-write_mark-requires-in-Product : goal.write_record-write_mark-requires-in-Product
write_record-write_mark-requires-in-Product t c =
    let i = as_product c.requires.stands c.head-h.ensures.0 c.head-h.ensures.1 c.form.ensures c.in-Product.is in
    let a = c.args in let e = i.same a.frame.now a.bit in let l = marked_room e c.requires.ready in let m = marked_length e c.requires.ready c.write_row-k.ensures in record { in_bounds = omega arith; fair = (c.head-h.ensures.1, i.marks) }

pub write_record-overflow_add-result : goal.write_record-overflow_add-result
write_record-overflow_add-result t c = let a = c.args in
    let i = as_product c.requires.stands c.head-h.ensures.0 c.head-h.ensures.1 c.form.ensures c.in-Product.is in
    let short : length a.out.now < 2 ^ 64 = search rules in
    let l = marked_small (i.same a.frame.now a.bit) c.requires.ready c.write_row-k.ensures in
    omega arith

pub write_record-overflow_add-at-in-Sum : goal.write_record-overflow_add-at-in-Sum
write_record-overflow_add-at-in-Sum t c = let l = next_fits c.requires.stands (let k = c.well_formed in omega arith) in omega arith

pub write_record-find_choice-choice-requires : goal.write_record-find_choice-choice-requires
write_record-find_choice-choice-requires t c =
    let i = as_sum c.requires.stands c.head-h.ensures.0 c.head-h.ensures.1 c.form.ensures c.in-Sum.is in
    let w = i.tags in record { le_n = (i.some_choice, i.few); hops = i.hopping; inside = (omega arith, omega arith) }

pub write_record-overflow_sub-level-in-Sum : goal.write_record-overflow_sub-level-in-Sum
write_record-overflow_sub-level-in-Sum t c = level_some c.requires.stands

pub write_record-slice_bounds-write_record-count : goal.write_record-slice_bounds-write_record-count
write_record-slice_bounds-write_record-count t c = let a = c.args in
    let i = as_sum c.requires.stands c.head-h.ensures.0 c.head-h.ensures.1 c.form.ensures c.in-Sum.is in
    marked_room (i.choice a.frame.now a.bit c.requires.inside.0 _ c.find_choice-choice.ensures).same c.requires.ready

pub write_record-slice_bounds-write_record-start : goal.write_record-slice_bounds-write_record-start
write_record-slice_bounds-write_record-start t c = let a = c.args in
    let i = as_sum c.requires.stands c.head-h.ensures.0 c.head-h.ensures.1 c.form.ensures c.in-Sum.is in
    marked_room (i.choice a.frame.now a.bit c.requires.inside.0 _ c.find_choice-choice.ensures).same c.requires.ready

pub write_record-write_record-k-requires : goal.write_record-write_record-k-requires
write_record-write_record-k-requires t c = let a = c.args in
    let i = as_sum c.requires.stands c.head-h.ensures.0 c.head-h.ensures.1 c.form.ensures c.in-Sum.is in
    let x = i.choice a.frame.now a.bit c.requires.inside.0 _ c.find_choice-choice.ensures in
    let w = x.fits in
    let d = level_some c.requires.stands in
    (omega arith, (x.stands, (c.requires.wide, ((omega arith, omega arith), marked_ready x.same c.requires.ready))))

pub write_record-write_mark-requires-in-Sum : goal.write_record-write_mark-requires-in-Sum
write_record-write_mark-requires-in-Sum t c = let a = c.args in
    let i = as_sum c.requires.stands c.head-h.ensures.0 c.head-h.ensures.1 c.form.ensures c.in-Sum.is in
    let x = i.choice a.frame.now a.bit c.requires.inside.0 _ c.find_choice-choice.ensures in let l = marked_room x.same c.requires.ready in let m = marked_length x.same c.requires.ready c.write_record-k.ensures in record { in_bounds = omega arith; fair = (c.head-h.ensures.1, x.marks) }

pub write_record-overflow_add-result-in-Sum : goal.write_record-overflow_add-result-in-Sum
write_record-overflow_add-result-in-Sum t c = let a = c.args in
    let i = as_sum c.requires.stands c.head-h.ensures.0 c.head-h.ensures.1 c.form.ensures c.in-Sum.is in
    let short : length a.out.now < 2 ^ 64 = search rules in
    let l = marked_small (i.choice a.frame.now a.bit c.requires.inside.0 _ c.find_choice-choice.ensures).same c.requires.ready c.write_record-k.ensures in
    omega arith

pub write_record-overflow_add-at-in-List : goal.write_record-overflow_add-at-in-List
write_record-overflow_add-at-in-List t c = let l = next_fits c.requires.stands (let k = c.well_formed in omega arith) in omega arith

pub write_record-overflow_sub-level-in-List : goal.write_record-overflow_sub-level-in-List
write_record-overflow_sub-level-in-List t c = level_some c.requires.stands

pub write_record-slice_bounds-write_list-count : goal.write_record-slice_bounds-write_list-count
write_record-slice_bounds-write_list-count t c = let a = c.args in
    let i = as_list c.requires.stands c.head-h.ensures.0 c.head-h.ensures.1 c.form.ensures c.in-List.is in
    numbered_room (i.same a.frame.now a.bit c.requires.inside.0) c.requires.ready

pub write_record-slice_bounds-write_list-start : goal.write_record-slice_bounds-write_list-start
write_record-slice_bounds-write_list-start t c = let a = c.args in
    let i = as_list c.requires.stands c.head-h.ensures.0 c.head-h.ensures.1 c.form.ensures c.in-List.is in
    numbered_room (i.same a.frame.now a.bit c.requires.inside.0) c.requires.ready

pub write_record-write_list-list-requires : goal.write_record-write_list-list-requires
write_record-write_list-list-requires t c = let a = c.args in
    let i = as_list c.requires.stands c.head-h.ensures.0 c.head-h.ensures.1 c.form.ensures c.in-List.is in
    let w = i.wide in
    let b = bound_small c.in-List.bound in
    let d = level_some c.requires.stands in
    (omega arith, (i.given, (c.requires.wide, ((omega arith, omega arith), numbered_ready (i.same a.frame.now a.bit c.requires.inside.0) c.requires.ready))))

pub write_record-write_mark-requires-in-List : goal.write_record-write_mark-requires-in-List
write_record-write_mark-requires-in-List t c =
    let i = as_list c.requires.stands c.head-h.ensures.0 c.head-h.ensures.1 c.form.ensures c.in-List.is in
    let a = c.args in let e = i.same a.frame.now a.bit c.requires.inside.0 in let l = numbered_room e c.requires.ready in let m = numbered_length e c.requires.ready c.write_list-list.ensures in record { in_bounds = omega arith; fair = (c.head-h.ensures.1, i.marks _ (listed_below (a.level - 1) a.table.now.ty.now (a.at + 1) a.frame.now a.bit _ c.in-List.bound c.write_list-list.ensures.there)) }

pub write_record-overflow_add-result-in-List : goal.write_record-overflow_add-result-in-List
write_record-overflow_add-result-in-List t c = let a = c.args in
    let i = as_list c.requires.stands c.head-h.ensures.0 c.head-h.ensures.1 c.form.ensures c.in-List.is in
    let short : length a.out.now < 2 ^ 64 = search rules in
    let l = numbered_small (i.same a.frame.now a.bit c.requires.inside.0) c.requires.ready c.write_list-list.ensures in
    omega arith

pub write_record-overflow_add-at-in-Payload : goal.write_record-overflow_add-at-in-Payload
write_record-overflow_add-at-in-Payload t c = let l = next_fits c.requires.stands (let k = c.well_formed in omega arith) in omega arith

pub write_record-overflow_sub-level-in-Payload : goal.write_record-overflow_sub-level-in-Payload
write_record-overflow_sub-level-in-Payload t c = level_some c.requires.stands

pub write_record-write_row-requires : goal.write_record-write_row-requires
write_record-write_row-requires t c =
    let i = as_payload c.requires.stands c.head-h.ensures.0 c.head-h.ensures.1 c.form.ensures c.in-Payload.is in
    let a = c.args in
    let w = i.wide in
    let d = level_some c.requires.stands in
    (omega arith, (i.given, (c.requires.wide, ((omega arith, omega arith), ready_as (i.same a.frame.now a.bit) c.requires.ready))))

pub write_record-returns-in-Nothing : goal.write_record-returns-in-Nothing
write_record-returns-in-Nothing t c = let a = c.args in
    let nothing = as_nothing c.requires.stands c.head-h.ensures.0 c.head-h.ensures.1 c.form.ensures c.in-Nothing.is in
    absurd (nothing_there (nothing.same a.frame.now a.bit) c.requires.ready)

pub write_record-returns-in-Bit : goal.write_record-returns-in-Bit
write_record-returns-in-Bit t c =
    let i = as_boolean c.requires.stands c.head-h.ensures.0 c.head-h.ensures.1 c.form.ensures c.in-Bit.is in
    let a = c.args in
    let w = i.wide in
    one_placed (i.same a.frame.now a.bit (omega arith)) c.requires.ready (c.write_mark.ensures ∙ ap (λ j. put (bytes (mark_of c.head-h.result j)) a.out.now) (bit_number_is c.from.ensures c.bit_at.ensures))

pub write_record-returns-in-Integer : goal.write_record-returns-in-Integer
write_record-returns-in-Integer t c =
    let i = as_integer c.requires.stands c.head-h.ensures.0 c.head-h.ensures.1 c.form.ensures c.in-Integer.is in
    let a = c.args in
    let w = i.wide in
    integer_placed (i.same a.frame.now a.bit (omega arith)) c.requires.ready (c.write_mark-in-Integer.ensures ∙ ap (λ r. put (bytes r) a.out.now) i.mark) c.uint_at.ensures

pub write_record-returns-in-Product : goal.write_record-returns-in-Product
write_record-returns-in-Product t c = let a = c.args in
    let i = as_product c.requires.stands c.head-h.ensures.0 c.head-h.ensures.1 c.form.ensures c.in-Product.is in
    marked_placed (i.same a.frame.now a.bit) c.requires.ready c.write_row-k.ensures c.write_mark-in-Product.ensures

pub write_record-returns-in-Sum : goal.write_record-returns-in-Sum
write_record-returns-in-Sum t c = let a = c.args in
    let i = as_sum c.requires.stands c.head-h.ensures.0 c.head-h.ensures.1 c.form.ensures c.in-Sum.is in
    marked_placed (i.choice a.frame.now a.bit c.requires.inside.0 _ c.find_choice-choice.ensures).same c.requires.ready c.write_record-k.ensures c.write_mark-in-Sum.ensures

pub write_record-returns-in-List : goal.write_record-returns-in-List
write_record-returns-in-List t c = let a = c.args in
    let i = as_list c.requires.stands c.head-h.ensures.0 c.head-h.ensures.1 c.form.ensures c.in-List.is in
    numbered_placed (i.same a.frame.now a.bit c.requires.inside.0) c.requires.ready c.write_list-list.ensures c.write_mark-in-List.ensures

pub write_record-returns-in-Payload : goal.write_record-returns-in-Payload
write_record-returns-in-Payload t c = let a = c.args in
    let i = as_payload c.requires.stands c.head-h.ensures.0 c.head-h.ensures.1 c.form.ensures c.in-Payload.is in
    placed_as (i.same a.frame.now a.bit) c.write_row.ensures

pub write_row-loop-init : goal.write_row-loop-init
write_row-loop-init t c = let a = c.args in
    rowing_start a.frame.now a.bit (omega arith) c.requires.given_parts c.requires.inside c.requires.ready

pub write_row-slice_bounds-write_record-count : goal.write_row-slice_bounds-write_record-count
write_row-slice_bounds-write_record-count t c = rowing_fits c.loop.invariant

pub write_row-slice_bounds-write_record-start : goal.write_row-slice_bounds-write_record-start
write_row-slice_bounds-write_record-start t c = rowing_fits c.loop.invariant

pub write_row-write_record-k-requires : goal.write_row-write_record-k-requires
write_row-write_record-k-requires t c = let i = c.loop.invariant in
    let z : 0 < c.args.n - c.loop.counter = omega arith in
    (omega arith, (rowing_stands i z, (c.requires.wide, (rowing_inside i z, rowing_ready i z))))

pub write_row-overflow_add-k : goal.write_row-overflow_add-k
write_row-overflow_add-k t c = let z : 0 < c.args.n - c.loop.counter = omega arith in let l = rowing_small c.loop.invariant z c.write_record-k.ensures in omega arith

pub write_row-width-here-requires : goal.write_row-width-here-requires
write_row-width-here-requires t c = let z : 0 < c.args.n - c.loop.counter = omega arith in width_there (rowing_stands c.loop.invariant z) c.requires.wide

pub write_row-overflow_add-here : goal.write_row-overflow_add-here
write_row-overflow_add-here t c = let a = c.args in
    let i = c.loop.invariant in
    let z : 0 < a.n - c.loop.counter = omega arith in
    let w = c.width-here.ensures ∙ c.requires.wide.right a.level c.loop.place (rowing_stands i z) in
    let l = (rowing_inside i z).1 in
    omega arith

pub write_row-after_part-place-requires : goal.write_row-after_part-place-requires
write_row-after_part-place-requires t c = let z : 0 < c.args.n - c.loop.counter = omega arith in given_inside (rowing_stands c.loop.invariant z).given

pub write_row-loop-preserved : goal.write_row-loop-preserved
write_row-loop-preserved t c = let a = c.args in
    let i = c.loop.invariant in
    let z : 0 < a.n - c.loop.counter = omega arith in
    let s = rowing_stands i z in
    let e : (a.n - c.loop.counter) - 1 ≡ a.n - (c.loop.counter + 1) = omega arith in
    rw e at (rowing_next i z c.write_record-k.ensures _ _ (c.after_part-place.ensures ∙ after_is a.parts s) (ap (λ w. c.loop.here + w) (c.width-here.ensures ∙ c.requires.wide.right a.level c.loop.place s)))

pub write_row-shape_of-out : goal.write_row-shape_of-out
write_row-shape_of-out t c = rowing_length c.loop.invariant

pub write_row-returns : goal.write_row-returns
write_row-returns t c = rowing_end c.loop.invariant (omega arith)
