use mathlib.Core.Path.{sym, ap, ◌∙◌}
use native.Mathlib.Omega.{arith}
use borrow.Author.Rules.{rules}
use Rattle.model.specs.Structural.{type_records}
use Rattle.model.proofs.Laws.Balanced.{shares_else}
use Rattle.structural.proofs.Laws.Writing.{wrote_length, wrote_as, fork_start, left_room, left_small, left_fits, right_room, fork_done, fork_small, again_room, again_done, again_small}
use Rattle.structural.proofs.Laws.Bounds.{bound_small}
use Rattle.structural.proofs.Laws.Trees.{room_some, tree_fork, tree_start, tree_twice, given_copies}
use Rattle.structural.proofs.Laws.Lists.{list_two, list_sides}
use Rattle.structural.proofs.Laws.Forms.{level_some, next_fits}
use Rattle.structural.proofs.Laws.Parts.{as_tree, as_list, part_given, part_inside, one_given, left_given, right_given}
use Rattle.structural.proofs.Steps.{bit_room, bit_placed, copy_placed, part_room, row_placed, block_second, block_start, block_room, block_done, block_length, block_fits, none_placed, one_room, one_placed, tree_placed, twice_placed}
use Rattle.structural.proofs.+write_block_write_list_write_part_write_record_write_tree.Goals as goal

ruleset steps = (room_some, level_some, next_fits, bit_room, bit_placed, copy_placed, part_given, part_room, part_inside, row_placed, block_second, block_start, block_room, block_done, block_length, block_fits, none_placed, one_room, one_placed, one_given, rules)

pub write_block-write_tree-requires : goal.write_block-write_tree-requires
write_block-write_tree-requires t c = (omega arith, (omega arith, (given_copies _ c.requires.stands, search steps)))

pub write_block-bounds-out-0 : goal.write_block-bounds-out-0
write_block-bounds-out-0 t c = search steps

pub write_block-bounds-out-1 : goal.write_block-bounds-out-1
write_block-bounds-out-1 t c = search steps

pub write_block-slice_bounds-write_tree-count : goal.write_block-slice_bounds-write_tree-count
write_block-slice_bounds-write_tree-count t c = search steps

pub write_block-slice_bounds-write_tree-start : goal.write_block-slice_bounds-write_tree-start
write_block-slice_bounds-write_tree-start t c = search steps

pub write_block-overflow_add-result : goal.write_block-overflow_add-result
write_block-overflow_add-result t c = search steps

pub write_block-returns : goal.write_block-returns
write_block-returns t c = search steps

pub write_list-write_block-requires : goal.write_list-write_block-requires
write_list-write_block-requires t c = (omega arith, (omega arith, (c.requires.stands, rw (← list_two _ _ _ c.args.bound (sym c.in-None.is ∙ c.checked_div2.ensures)) c.requires.room)))

pub write_list-slice_bounds-write_block-count : goal.write_list-slice_bounds-write_block-count
write_list-slice_bounds-write_block-count t c =
    let sides = list_sides c.args.level c.args.table.now.ty.now c.args.at (sym c.in-Some.is ∙ c.checked_div2.ensures) c.get.ensures c.requires.room in
    fork_start sides.fork

pub write_list-slice_bounds-write_block-start : goal.write_list-slice_bounds-write_block-start
write_list-slice_bounds-write_block-start t c =
    let sides = list_sides c.args.level c.args.table.now.ty.now c.args.at (sym c.in-Some.is ∙ c.checked_div2.ensures) c.get.ensures c.requires.room in
    fork_start sides.fork

pub write_list-write_block-k-requires : goal.write_list-write_block-k-requires
write_list-write_block-k-requires t c =
    let sides = list_sides c.args.level c.args.table.now.ty.now c.args.at (sym c.in-Some.is ∙ c.checked_div2.ensures) c.get.ensures c.requires.room in
    let m = bound_small c.in-Some.half in
    (omega arith, (omega arith, (c.requires.stands, left_room sides.fork)))

pub write_list-overflow_add-k : goal.write_list-overflow_add-k
write_list-overflow_add-k t c =
    let sides = list_sides c.args.level c.args.table.now.ty.now c.args.at (sym c.in-Some.is ∙ c.checked_div2.ensures) c.get.ensures c.requires.room in
    omega (arith, left_small sides.fork c.write_block-k.ensures)

pub write_list-slice_bounds-write_list-count : goal.write_list-slice_bounds-write_list-count
write_list-slice_bounds-write_list-count t c =
    let sides = list_sides c.args.level c.args.table.now.ty.now c.args.at (sym c.in-Some.is ∙ c.checked_div2.ensures) c.get.ensures c.requires.room in
    left_fits sides.fork c.write_block-k.ensures

pub write_list-slice_bounds-write_list-start : goal.write_list-slice_bounds-write_list-start
write_list-slice_bounds-write_list-start t c =
    let sides = list_sides c.args.level c.args.table.now.ty.now c.args.at (sym c.in-Some.is ∙ c.checked_div2.ensures) c.get.ensures c.requires.room in
    left_fits sides.fork c.write_block-k.ensures

pub write_list-write_list-requires : goal.write_list-write_list-requires
write_list-write_list-requires t c =
    let sides = list_sides c.args.level c.args.table.now.ty.now c.args.at (sym c.in-Some.is ∙ c.checked_div2.ensures) c.get.ensures c.requires.room in
    (omega arith, (c.requires.stands, right_room sides.fork c.write_block-k.ensures))

pub write_list-overflow_add-result : goal.write_list-overflow_add-result
write_list-overflow_add-result t c =
    let sides = list_sides c.args.level c.args.table.now.ty.now c.args.at (sym c.in-Some.is ∙ c.checked_div2.ensures) c.get.ensures c.requires.room in
    omega (arith, fork_small sides.fork c.write_block-k.ensures c.write_list.ensures)

pub write_list-returns-in-None : goal.write_list-returns-in-None
write_list-returns-in-None t c = wrote_as (ap type_records (list_two _ _ _ c.args.bound (sym c.in-None.is ∙ c.checked_div2.ensures))) c.write_block.ensures

pub write_list-shape_of-out-in-Some : goal.write_list-shape_of-out-in-Some
write_list-shape_of-out-in-Some t c =
    let sides = list_sides c.args.level c.args.table.now.ty.now c.args.at (sym c.in-Some.is ∙ c.checked_div2.ensures) c.get.ensures c.requires.room in
    wrote_length (fork_done sides.fork c.write_block-k.ensures c.write_list.ensures) c.requires.room

pub write_list-returns-in-Some : goal.write_list-returns-in-Some
write_list-returns-in-Some t c =
    let sides = list_sides c.args.level c.args.table.now.ty.now c.args.at (sym c.in-Some.is ∙ c.checked_div2.ensures) c.get.ensures c.requires.room in
    fork_done sides.fork c.write_block-k.ensures c.write_list.ensures

pub write_list-bounds-out-0 : goal.write_list-bounds-out-0
write_list-bounds-out-0 t c = search steps

pub write_part-returns-in-Types : goal.write_part-returns-in-Types
write_part-returns-in-Types t c = rw c.end.ensures (search steps)

pub write_part-write_bit-requires : goal.write_part-write_bit-requires
write_part-write_bit-requires t c = search steps

pub write_part-write_record-requires : goal.write_part-write_record-requires
write_part-write_record-requires t c = search steps

pub write_part-end-requires : goal.write_part-end-requires
write_part-end-requires t c = search steps

pub write_part-write_record-requires-in-Types : goal.write_part-write_record-requires-in-Types
write_part-write_record-requires-in-Types t c = search steps

pub write_part-returns-in-Bits : goal.write_part-returns-in-Bits
write_part-returns-in-Bits t c = search steps

pub write_part-returns-in-Copies : goal.write_part-returns-in-Copies
write_part-returns-in-Copies t c = search steps

pub write_record-write_tree-requires : goal.write_record-write_tree-requires
write_record-write_tree-requires t c =
    let i = as_tree c.requires.stands _ _ c.in-Tree.parts c.in-Tree.n c.head.ensures.0 c.head.ensures.1 c.form_of.ensures c.in-Tree.is in
    let l = level_some c.requires.stands in
    (omega arith, (i.few, (i.given, rw (← i.same) c.requires.room)))

pub write_record-write_list-requires : goal.write_record-write_list-requires
write_record-write_list-requires t c =
    let i = as_list c.requires.stands _ _ c.in-List.bound c.head.ensures.0 c.head.ensures.1 c.form_of.ensures c.in-List.is in
    let l = level_some c.requires.stands in
    let m = bound_small c.in-List.bound in
    (omega arith, (i.given, rw (← i.same) c.requires.room))

pub write_record-returns-in-Tree : goal.write_record-returns-in-Tree
write_record-returns-in-Tree t c =
    let i = as_tree c.requires.stands _ _ c.in-Tree.parts c.in-Tree.n c.head.ensures.0 c.head.ensures.1 c.form_of.ensures c.in-Tree.is in
    wrote_as (ap type_records i.same) c.write_tree.ensures.wrote

pub write_record-returns-in-List : goal.write_record-returns-in-List
write_record-returns-in-List t c =
    let i = as_list c.requires.stands _ _ c.in-List.bound c.head.ensures.0 c.head.ensures.1 c.form_of.ensures c.in-List.is in
    wrote_as (ap type_records i.same) c.write_list.ensures

pub write_record-overflow_add-at : goal.write_record-overflow_add-at
write_record-overflow_add-at t c = search steps

pub write_record-overflow_sub-level : goal.write_record-overflow_sub-level
write_record-overflow_sub-level t c = search steps

pub write_record-overflow_add-at-in-List : goal.write_record-overflow_add-at-in-List
write_record-overflow_add-at-in-List t c = search steps

pub write_record-overflow_sub-level-in-List : goal.write_record-overflow_sub-level-in-List
write_record-overflow_sub-level-in-List t c = search steps

pub write_tree-overflow_sub-others : goal.write_tree-overflow_sub-others
write_tree-overflow_sub-others t c =
    let l = shares_else c.btree_split_index-few.ensures c.if-n-eq0.false c.if-n-eq1.false in omega arith

pub write_tree-slice_bounds-write_tree-count : goal.write_tree-slice_bounds-write_tree-count
write_tree-slice_bounds-write_tree-count t c =
    let f = tree_start _ _ _ _ c.btree_split_index-few.ensures c.if-n-eq0.false c.if-n-eq1.false c.joint.ensures c.requires.room in
    fork_start f

pub write_tree-slice_bounds-write_tree-start : goal.write_tree-slice_bounds-write_tree-start
write_tree-slice_bounds-write_tree-start t c =
    let f = tree_start _ _ _ _ c.btree_split_index-few.ensures c.if-n-eq0.false c.if-n-eq1.false c.joint.ensures c.requires.room in
    fork_start f

pub write_tree-write_tree-left-requires : goal.write_tree-write_tree-left-requires
write_tree-write_tree-left-requires t c =
    let l = shares_else c.btree_split_index-few.ensures c.if-n-eq0.false c.if-n-eq1.false in
    let f = tree_start _ _ _ _ c.btree_split_index-few.ensures c.if-n-eq0.false c.if-n-eq1.false c.joint.ensures c.requires.room in
    (omega arith, (omega arith, (left_given l c.requires.given_parts, left_room f)))

pub write_tree-slice_bounds-repeat-count : goal.write_tree-slice_bounds-repeat-count
write_tree-slice_bounds-repeat-count t c =
    let same = sym c.are_same.ensures ∙ c.if-are_same.true in
    let f = tree_twice _ _ _ _ c.btree_split_index-few.ensures c.if-n-eq0.false c.if-n-eq1.false c.joint.ensures same c.if-few-others.true c.requires.room in
    omega (arith, left_fits f c.write_tree-left.ensures.wrote)

pub write_tree-slice_bounds-repeat-start : goal.write_tree-slice_bounds-repeat-start
write_tree-slice_bounds-repeat-start t c =
    let same = sym c.are_same.ensures ∙ c.if-are_same.true in
    let f = tree_twice _ _ _ _ c.btree_split_index-few.ensures c.if-n-eq0.false c.if-n-eq1.false c.joint.ensures same c.if-few-others.true c.requires.room in
    omega (arith, left_fits f c.write_tree-left.ensures.wrote)

pub write_tree-repeat-requires : goal.write_tree-repeat-requires
write_tree-repeat-requires t c =
    let same = sym c.are_same.ensures ∙ c.if-are_same.true in
    let f = tree_twice _ _ _ _ c.btree_split_index-few.ensures c.if-n-eq0.false c.if-n-eq1.false c.joint.ensures same c.if-few-others.true c.requires.room in
    again_room f c.write_tree-left.ensures.wrote

pub write_tree-overflow_add-result : goal.write_tree-overflow_add-result
write_tree-overflow_add-result t c =
    let same = sym c.are_same.ensures ∙ c.if-are_same.true in
    let f = tree_twice _ _ _ _ c.btree_split_index-few.ensures c.if-n-eq0.false c.if-n-eq1.false c.joint.ensures same c.if-few-others.true c.requires.room in
    omega (arith, again_small f c.write_tree-left.ensures.wrote c.repeat.ensures)

pub write_tree-shape_of-out-then-are_same : goal.write_tree-shape_of-out-then-are_same
write_tree-shape_of-out-then-are_same t c =
    let same = sym c.are_same.ensures ∙ c.if-are_same.true in
    let f = tree_twice _ _ _ _ c.btree_split_index-few.ensures c.if-n-eq0.false c.if-n-eq1.false c.joint.ensures same c.if-few-others.true c.requires.room in
    wrote_length (again_done f c.write_tree-left.ensures.wrote c.repeat.ensures) c.requires.room

pub write_tree-returns-then-are_same : goal.write_tree-returns-then-are_same
write_tree-returns-then-are_same t c =
    let same = sym c.are_same.ensures ∙ c.if-are_same.true in
    let f = tree_twice _ _ _ _ c.btree_split_index-few.ensures c.if-n-eq0.false c.if-n-eq1.false c.joint.ensures same c.if-few-others.true c.requires.room in
    twice_placed _ _ _ _ _ same (again_done f c.write_tree-left.ensures.wrote c.repeat.ensures)

pub write_tree-overflow_add-k : goal.write_tree-overflow_add-k
write_tree-overflow_add-k t c =
    let f = tree_start _ _ _ _ c.btree_split_index-few.ensures c.if-n-eq0.false c.if-n-eq1.false c.joint.ensures c.requires.room in
    omega (arith, left_small f c.write_tree-left.ensures.wrote)

pub write_tree-slice_bounds-write_tree-count-2 : goal.write_tree-slice_bounds-write_tree-count-2
write_tree-slice_bounds-write_tree-count-2 t c =
    let f = tree_start _ _ _ _ c.btree_split_index-few.ensures c.if-n-eq0.false c.if-n-eq1.false c.joint.ensures c.requires.room in
    left_fits f c.write_tree-left.ensures.wrote

pub write_tree-slice_bounds-write_tree-start-2 : goal.write_tree-slice_bounds-write_tree-start-2
write_tree-slice_bounds-write_tree-start-2 t c =
    let f = tree_start _ _ _ _ c.btree_split_index-few.ensures c.if-n-eq0.false c.if-n-eq1.false c.joint.ensures c.requires.room in
    left_fits f c.write_tree-left.ensures.wrote

pub write_tree-write_tree-right-requires : goal.write_tree-write_tree-right-requires
write_tree-write_tree-right-requires t c =
    let l = shares_else c.btree_split_index-few.ensures c.if-n-eq0.false c.if-n-eq1.false in
    let f = tree_fork _ _ _ _ c.btree_split_index-few.ensures c.if-n-eq0.false c.if-n-eq1.false c.joint.ensures c.write_tree-left.ensures.next c.requires.room in
    (omega arith, (omega arith, (right_given l c.requires.given_parts c.write_tree-left.ensures.next, right_room f c.write_tree-left.ensures.wrote)))

pub write_tree-overflow_add-result-2 : goal.write_tree-overflow_add-result-2
write_tree-overflow_add-result-2 t c =
    let f = tree_fork _ _ _ _ c.btree_split_index-few.ensures c.if-n-eq0.false c.if-n-eq1.false c.joint.ensures c.write_tree-left.ensures.next c.requires.room in
    omega (arith, fork_small f c.write_tree-left.ensures.wrote c.write_tree-right.ensures.wrote)

pub write_tree-shape_of-out : goal.write_tree-shape_of-out
write_tree-shape_of-out t c =
    let f = tree_fork _ _ _ _ c.btree_split_index-few.ensures c.if-n-eq0.false c.if-n-eq1.false c.joint.ensures c.write_tree-left.ensures.next c.requires.room in
    wrote_length (fork_done f c.write_tree-left.ensures.wrote c.write_tree-right.ensures.wrote) c.requires.room

pub write_tree-returns : goal.write_tree-returns
write_tree-returns t c =
    let l = shares_else c.btree_split_index-few.ensures c.if-n-eq0.false c.if-n-eq1.false in
    let f = tree_fork _ _ _ _ c.btree_split_index-few.ensures c.if-n-eq0.false c.if-n-eq1.false c.joint.ensures c.write_tree-left.ensures.next c.requires.room in
    tree_placed l _ _ _ _ c.write_tree-left.ensures c.write_tree-right.ensures (fork_done f c.write_tree-left.ensures.wrote c.write_tree-right.ensures.wrote)

pub write_tree-returns-then-n-eq0 : goal.write_tree-returns-then-n-eq0
write_tree-returns-then-n-eq0 t c = search steps

pub write_tree-write_part-requires : goal.write_tree-write_part-requires
write_tree-write_part-requires t c = search steps

pub write_tree-returns-then-n-eq1 : goal.write_tree-returns-then-n-eq1
write_tree-returns-then-n-eq1 t c = search steps

pub write_tree-bounds-out-0 : goal.write_tree-bounds-out-0
write_tree-bounds-out-0 t c = search steps

pub write_tree-bounds-out-0-2 : goal.write_tree-bounds-out-0-2
write_tree-bounds-out-0-2 t c = search steps
