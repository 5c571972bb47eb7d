use mathlib.Core.Path.{refl, sym, ◌∙◌}
use Prim.Native.Nat.{◌≤◌}
use native.Mathlib.Omega.{arith}
use borrow.Author.Rules.{rules}
use lib.ListN.{length-set}
use Rattle.model.proofs.Laws.Balanced.{shares}
use Rattle.structural.proofs.Laws.Bounds.{bound_small}
use Rattle.structural.proofs.Laws.Forms.{level_some, next_fits, stands_inside}
use Rattle.told.specs.Forms.{skip}
use Rattle.told.specs.Laws.Rows.{given_copies}
use Rattle.told.specs.Laws.Trees.{one_given, left_given, right_given, skip_none, skip_sides}
use Rattle.told.specs.Laws.Lists.{listed_two}
use Rattle.told.specs.Laws.Formed.{readable, as_bits, as_product, as_sum, as_list, as_payload}
use Rattle.shape.specs.Laws.Writing.{ready_as, ready_room, ready_some, placed_as, placed_length, stem_start, stem_ready, stem_small, stem_done, pair_start, left_ready, pair_small, pair_fits, right_ready, pair_done, pair_total}
use Rattle.shape.proofs.Steps.{record_fits, none_placed, one_is, tree_pair, skip_one, list_sides, only_is, Side, on_left, on_right, block_stem, empty_room, empty_placed}
use Rattle.shape.proofs.+write_block_write_list_write_record_write_sum_write_tree.Goals.{write_sum-then-i-few, write_sum-else-i-few}
use Rattle.shape.proofs.+write_block_write_list_write_record_write_sum_write_tree.Goals as goal

ruleset steps = (ready_some, level_some, next_fits, record_fits, rules)

pub write_block-bounds-out-1 : goal.write_block-bounds-out-1
write_block-bounds-out-1 t c =
    let l = empty_room _ _ _ _ _ _ _ c.requires.ready c.if-n-eq0.true in
    simp length-set (omega arith)

pub write_block-shape_of-out-then-n-eq0 : goal.write_block-shape_of-out-then-n-eq0
write_block-shape_of-out-then-n-eq0 t c = placed_length c.requires.ready (empty_placed _ _ _ _ _ _ _ c.requires.ready c.if-n-eq0.true)

pub write_block-returns-then-n-eq0 : goal.write_block-returns-then-n-eq0
write_block-returns-then-n-eq0 t c = empty_placed _ _ _ _ _ _ _ c.requires.ready c.if-n-eq0.true

pub write_block-slice_bounds-write_tree-count : goal.write_block-slice_bounds-write_tree-count
write_block-slice_bounds-write_tree-count t c =
    let stem = block_stem c.args.level c.args.table.now.ty.now c.args.val.now c.args.n c.args.at c.args.v c.args.out.now c.requires.ready (omega arith) in
    stem_start stem

pub write_block-slice_bounds-write_tree-start : goal.write_block-slice_bounds-write_tree-start
write_block-slice_bounds-write_tree-start t c =
    let stem = block_stem c.args.level c.args.table.now.ty.now c.args.val.now c.args.n c.args.at c.args.v c.args.out.now c.requires.ready (omega arith) in
    stem_start stem

pub write_block-write_tree-requires : goal.write_block-write_tree-requires
write_block-write_tree-requires t c =
    let stem = block_stem c.args.level c.args.table.now.ty.now c.args.val.now c.args.n c.args.at c.args.v c.args.out.now c.requires.ready (omega arith) in
    (omega arith, (c.requires.n_le_most_parts, (given_copies _ c.requires.stands, stem_ready stem)))

pub write_block-overflow_add-result : goal.write_block-overflow_add-result
write_block-overflow_add-result t c =
    let stem = block_stem c.args.level c.args.table.now.ty.now c.args.val.now c.args.n c.args.at c.args.v c.args.out.now c.requires.ready (omega arith) in
    omega (arith, stem_small stem c.write_tree.ensures.0)

pub write_block-shape_of-out : goal.write_block-shape_of-out
write_block-shape_of-out t c =
    let stem = block_stem c.args.level c.args.table.now.ty.now c.args.val.now c.args.n c.args.at c.args.v c.args.out.now c.requires.ready (omega arith) in
    placed_length c.requires.ready (stem_done stem c.write_tree.ensures.0)

pub write_block-returns : goal.write_block-returns
write_block-returns t c =
    let stem = block_stem c.args.level c.args.table.now.ty.now c.args.val.now c.args.n c.args.at c.args.v c.args.out.now c.requires.ready (omega arith) in
    stem_done stem c.write_tree.ensures.0

pub write_block-bounds-out-0 : goal.write_block-bounds-out-0
write_block-bounds-out-0 t c = search steps

pub write_block-bounds-out-0-2 : goal.write_block-bounds-out-0-2
write_block-bounds-out-0-2 t c = search steps

pub write_list-write_block-requires : goal.write_list-write_block-requires
write_list-write_block-requires t c =
    let e = listed_two c.args.level c.args.table.now.ty.now c.args.val.now c.args.m c.args.at c.args.v c.args.bound (sym c.in-None.is ∙ c.checked_div2.ensures) in
    let m = bound_small c.args.bound in
    (omega arith, (omega arith, (c.requires.stands, ready_as e c.requires.ready)))

pub write_list-slice_bounds-write_block-count : goal.write_list-slice_bounds-write_block-count
write_list-slice_bounds-write_block-count t c =
    let sides = list_sides c.args.level c.args.table.now.ty.now c.args.val.now c.args.m c.args.at c.args.v c.requires.few (sym c.in-Some.is ∙ c.checked_div2.ensures) c.get.ensures c.share-n.ensures c.requires.ready in
    pair_start sides.pair

pub write_list-slice_bounds-write_block-start : goal.write_list-slice_bounds-write_block-start
write_list-slice_bounds-write_block-start t c =
    let sides = list_sides c.args.level c.args.table.now.ty.now c.args.val.now c.args.m c.args.at c.args.v c.requires.few (sym c.in-Some.is ∙ c.checked_div2.ensures) c.get.ensures c.share-n.ensures c.requires.ready in
    pair_start sides.pair

pub write_list-write_block-left-requires : goal.write_list-write_block-left-requires
write_list-write_block-left-requires t c =
    let sides = list_sides c.args.level c.args.table.now.ty.now c.args.val.now c.args.m c.args.at c.args.v c.requires.few (sym c.in-Some.is ∙ c.checked_div2.ensures) c.get.ensures c.share-n.ensures c.requires.ready in
    let m = bound_small c.in-Some.half in
    (omega arith, (omega arith, (c.requires.stands, left_ready sides.pair)))

pub write_list-overflow_add-k : goal.write_list-overflow_add-k
write_list-overflow_add-k t c =
    let sides = list_sides c.args.level c.args.table.now.ty.now c.args.val.now c.args.m c.args.at c.args.v c.requires.few (sym c.in-Some.is ∙ c.checked_div2.ensures) c.get.ensures c.share-n.ensures c.requires.ready in
    omega (arith, pair_small sides.pair c.write_block-left.ensures)

pub write_list-overflow_sub-others : goal.write_list-overflow_sub-others
write_list-overflow_sub-others t c =
    let sides = list_sides c.args.level c.args.table.now.ty.now c.args.val.now c.args.m c.args.at c.args.v c.requires.few (sym c.in-Some.is ∙ c.checked_div2.ensures) c.get.ensures c.share-n.ensures c.requires.ready in
    omega arith

pub write_list-slice_bounds-write_list-count : goal.write_list-slice_bounds-write_list-count
write_list-slice_bounds-write_list-count t c =
    let sides = list_sides c.args.level c.args.table.now.ty.now c.args.val.now c.args.m c.args.at c.args.v c.requires.few (sym c.in-Some.is ∙ c.checked_div2.ensures) c.get.ensures c.share-n.ensures c.requires.ready in
    pair_fits sides.pair c.write_block-left.ensures

pub write_list-slice_bounds-write_list-start : goal.write_list-slice_bounds-write_list-start
write_list-slice_bounds-write_list-start t c =
    let sides = list_sides c.args.level c.args.table.now.ty.now c.args.val.now c.args.m c.args.at c.args.v c.requires.few (sym c.in-Some.is ∙ c.checked_div2.ensures) c.get.ensures c.share-n.ensures c.requires.ready in
    pair_fits sides.pair c.write_block-left.ensures

pub write_list-write_list-right-requires : goal.write_list-write_list-right-requires
write_list-write_list-right-requires t c =
    let sides = list_sides c.args.level c.args.table.now.ty.now c.args.val.now c.args.m c.args.at c.args.v c.requires.few (sym c.in-Some.is ∙ c.checked_div2.ensures) c.get.ensures c.share-n.ensures c.requires.ready in
    (omega arith, (omega arith, (c.requires.stands, right_ready sides.pair c.write_block-left.ensures)))

pub write_list-overflow_add-result : goal.write_list-overflow_add-result
write_list-overflow_add-result t c =
    let sides = list_sides c.args.level c.args.table.now.ty.now c.args.val.now c.args.m c.args.at c.args.v c.requires.few (sym c.in-Some.is ∙ c.checked_div2.ensures) c.get.ensures c.share-n.ensures c.requires.ready in
    omega (arith, pair_total sides.pair c.write_block-left.ensures c.write_list-right.ensures)

pub write_list-shape_of-out-in-None : goal.write_list-shape_of-out-in-None
write_list-shape_of-out-in-None t c =
    let e = listed_two c.args.level c.args.table.now.ty.now c.args.val.now c.args.m c.args.at c.args.v c.args.bound (sym c.in-None.is ∙ c.checked_div2.ensures) in
    placed_length c.requires.ready (placed_as e c.write_block.ensures)

pub write_list-returns-in-None : goal.write_list-returns-in-None
write_list-returns-in-None t c =
    let e = listed_two c.args.level c.args.table.now.ty.now c.args.val.now c.args.m c.args.at c.args.v c.args.bound (sym c.in-None.is ∙ c.checked_div2.ensures) in
    placed_as e c.write_block.ensures

pub write_list-shape_of-out-in-Some : goal.write_list-shape_of-out-in-Some
write_list-shape_of-out-in-Some t c =
    let sides = list_sides c.args.level c.args.table.now.ty.now c.args.val.now c.args.m c.args.at c.args.v c.requires.few (sym c.in-Some.is ∙ c.checked_div2.ensures) c.get.ensures c.share-n.ensures c.requires.ready in
    placed_length c.requires.ready (pair_done sides.pair c.write_block-left.ensures c.write_list-right.ensures)

pub write_list-returns-in-Some : goal.write_list-returns-in-Some
write_list-returns-in-Some t c =
    let sides = list_sides c.args.level c.args.table.now.ty.now c.args.val.now c.args.m c.args.at c.args.v c.requires.few (sym c.in-Some.is ∙ c.checked_div2.ensures) c.get.ensures c.share-n.ensures c.requires.ready in
    pair_done sides.pair c.write_block-left.ensures c.write_list-right.ensures

pub write_list-bounds-out-0 : goal.write_list-bounds-out-0
write_list-bounds-out-0 t c = search steps

pub write_record-form_of-requires : goal.write_record-form_of-requires
write_record-form_of-requires t c = readable _ _ _ _ _ _ _ _ c.requires.stands c.requires.ready.told c.head.ensures.0 c.head.ensures.1

pub write_record-overflow_add-result : goal.write_record-overflow_add-result
write_record-overflow_add-result t c =
    let i = as_bits c.requires.stands c.requires.ready.told c.head.ensures.0 c.head.ensures.1 c.form_of.ensures c.in-Bits.is in
    let i = i.there in search steps

pub write_record-write_bits-requires : goal.write_record-write_bits-requires
write_record-write_bits-requires t c =
    let i = as_bits c.requires.stands c.requires.ready.told c.head.ensures.0 c.head.ensures.1 c.form_of.ensures c.in-Bits.is in
    record { bits_there = record { some_bits = i.some_bits; few = i.few; inside = i.inside; there = i.there }; room = ready_room c.requires.ready i.same }

pub write_record-overflow_add-v : goal.write_record-overflow_add-v
write_record-overflow_add-v t c =
    let i = as_product c.requires.stands c.requires.ready.told c.head.ensures.0 c.head.ensures.1 c.form_of.ensures c.in-Product.is in
    let i = i.there in search steps

pub write_record-write_tree-requires : goal.write_record-write_tree-requires
write_record-write_tree-requires t c =
    let i = as_product c.requires.stands c.requires.ready.told c.head.ensures.0 c.head.ensures.1 c.form_of.ensures c.in-Product.is in
    let l = level_some c.requires.stands in
    let f = i.few in
    (omega arith, (f, (i.given, ready_as i.same c.requires.ready)))

pub write_record-hop-place-requires : goal.write_record-hop-place-requires
write_record-hop-place-requires t c =
    let i = as_sum c.requires.stands c.requires.ready.told c.head.ensures.0 c.head.ensures.1 c.form_of.ensures c.in-Sum.is in
    i.hopped

pub write_record-overflow_add-v-in-Sum : goal.write_record-overflow_add-v-in-Sum
write_record-overflow_add-v-in-Sum t c =
    let i = as_sum c.requires.stands c.requires.ready.told c.head.ensures.0 c.head.ensures.1 c.form_of.ensures c.in-Sum.is in
    let i = i.there in search steps

pub write_record-write_sum-requires : goal.write_record-write_sum-requires
write_record-write_sum-requires t c =
    let i = as_sum c.requires.stands c.requires.ready.told c.head.ensures.0 c.head.ensures.1 c.form_of.ensures c.in-Sum.is in
    let l = level_some c.requires.stands in
    let f = i.few in
    let h = c.hop-place.ensures in
    (omega arith, ((i.less, f), (rw h i.given, rw h (ready_as i.same c.requires.ready))))

pub write_record-overflow_add-v-in-List : goal.write_record-overflow_add-v-in-List
write_record-overflow_add-v-in-List t c =
    let i = as_list c.requires.stands c.requires.ready.told c.head.ensures.0 c.head.ensures.1 c.form_of.ensures c.in-List.is in
    let i = i.there in search steps

pub write_record-write_list-requires : goal.write_record-write_list-requires
write_record-write_list-requires t c =
    let i = as_list c.requires.stands c.requires.ready.told c.head.ensures.0 c.head.ensures.1 c.form_of.ensures c.in-List.is in
    let l = level_some c.requires.stands in
    let m = bound_small c.in-List.bound in
    (omega arith, (i.less, (i.given, ready_as i.same c.requires.ready)))

pub write_record-write_tree-requires-in-Payload : goal.write_record-write_tree-requires-in-Payload
write_record-write_tree-requires-in-Payload t c =
    let i = as_payload c.requires.stands c.requires.ready.told c.head.ensures.0 c.head.ensures.1 c.form_of.ensures c.in-Payload.is in
    let l = level_some c.requires.stands in
    let f = i.few in
    (omega arith, (f, (i.given, ready_as i.same c.requires.ready)))

pub write_record-shape_of-out-in-Bits : goal.write_record-shape_of-out-in-Bits
write_record-shape_of-out-in-Bits t c =
    let i = as_bits c.requires.stands c.requires.ready.told c.head.ensures.0 c.head.ensures.1 c.form_of.ensures c.in-Bits.is in
    placed_length c.requires.ready (record { shape = _; told = i.same; wrote = c.write_bits.ensures })

pub write_record-returns-in-Bits : goal.write_record-returns-in-Bits
write_record-returns-in-Bits t c =
    let i = as_bits c.requires.stands c.requires.ready.told c.head.ensures.0 c.head.ensures.1 c.form_of.ensures c.in-Bits.is in
    record { shape = _; told = i.same; wrote = c.write_bits.ensures }

pub write_record-shape_of-out-in-Product : goal.write_record-shape_of-out-in-Product
write_record-shape_of-out-in-Product t c =
    let i = as_product c.requires.stands c.requires.ready.told c.head.ensures.0 c.head.ensures.1 c.form_of.ensures c.in-Product.is in
    placed_length c.requires.ready (placed_as i.same c.write_tree.ensures.0)

pub write_record-returns-in-Product : goal.write_record-returns-in-Product
write_record-returns-in-Product t c =
    let i = as_product c.requires.stands c.requires.ready.told c.head.ensures.0 c.head.ensures.1 c.form_of.ensures c.in-Product.is in
    placed_as i.same c.write_tree.ensures.0

pub write_record-shape_of-out-in-Sum : goal.write_record-shape_of-out-in-Sum
write_record-shape_of-out-in-Sum t c =
    let i = as_sum c.requires.stands c.requires.ready.told c.head.ensures.0 c.head.ensures.1 c.form_of.ensures c.in-Sum.is in
    let e = c.hop-place.ensures in
    placed_length c.requires.ready (placed_as i.same (rw e at c.write_sum.ensures))

pub write_record-returns-in-Sum : goal.write_record-returns-in-Sum
write_record-returns-in-Sum t c =
    let i = as_sum c.requires.stands c.requires.ready.told c.head.ensures.0 c.head.ensures.1 c.form_of.ensures c.in-Sum.is in
    placed_as i.same (rw (← c.hop-place.ensures) c.write_sum.ensures)

pub write_record-shape_of-out-in-List : goal.write_record-shape_of-out-in-List
write_record-shape_of-out-in-List t c =
    let i = as_list c.requires.stands c.requires.ready.told c.head.ensures.0 c.head.ensures.1 c.form_of.ensures c.in-List.is in
    placed_length c.requires.ready (placed_as i.same c.write_list.ensures)

pub write_record-returns-in-List : goal.write_record-returns-in-List
write_record-returns-in-List t c =
    let i = as_list c.requires.stands c.requires.ready.told c.head.ensures.0 c.head.ensures.1 c.form_of.ensures c.in-List.is in
    placed_as i.same c.write_list.ensures

pub write_record-shape_of-out-in-Payload : goal.write_record-shape_of-out-in-Payload
write_record-shape_of-out-in-Payload t c =
    let i = as_payload c.requires.stands c.requires.ready.told c.head.ensures.0 c.head.ensures.1 c.form_of.ensures c.in-Payload.is in
    placed_length c.requires.ready (placed_as i.same c.write_tree-in-Payload.ensures.0)

pub write_record-returns-in-Payload : goal.write_record-returns-in-Payload
write_record-returns-in-Payload t c =
    let i = as_payload c.requires.stands c.requires.ready.told c.head.ensures.0 c.head.ensures.1 c.form_of.ensures c.in-Payload.is in
    placed_as i.same c.write_tree-in-Payload.ensures.0

pub write_record-overflow_add-at : goal.write_record-overflow_add-at
write_record-overflow_add-at t c = search steps

pub write_record-overflow_sub-level : goal.write_record-overflow_sub-level
write_record-overflow_sub-level t c = search steps

pub write_record-overflow_add-at-in-Sum : goal.write_record-overflow_add-at-in-Sum
write_record-overflow_add-at-in-Sum t c = search steps

pub write_record-overflow_sub-level-in-Sum : goal.write_record-overflow_sub-level-in-Sum
write_record-overflow_sub-level-in-Sum t c = search steps

pub write_record-overflow_add-at-in-List : goal.write_record-overflow_add-at-in-List
write_record-overflow_add-at-in-List t c = search steps

pub write_record-overflow_sub-level-in-List : goal.write_record-overflow_sub-level-in-List
write_record-overflow_sub-level-in-List t c = search steps

pub write_record-overflow_add-at-in-Payload : goal.write_record-overflow_add-at-in-Payload
write_record-overflow_add-at-in-Payload t c = search steps

pub write_record-overflow_sub-level-in-Payload : goal.write_record-overflow_sub-level-in-Payload
write_record-overflow_sub-level-in-Payload t c = search steps

pub write_sum-write_record-requires : goal.write_sum-write_record-requires
write_sum-write_record-requires t c = (omega arith, (c.requires.stands, ready_as (only_is _ _ _ _ _ _ _ c.if-n-eq1.true) c.requires.ready))

pub write_sum-shape_of-out-then-n-eq1 : goal.write_sum-shape_of-out-then-n-eq1
write_sum-shape_of-out-then-n-eq1 t c = placed_length c.requires.ready (placed_as (only_is _ _ _ _ _ _ _ c.if-n-eq1.true) c.write_record.ensures)

pub write_sum-returns-then-n-eq1 : goal.write_sum-returns-then-n-eq1
write_sum-returns-then-n-eq1 t c = placed_as (only_is _ _ _ _ _ _ _ c.if-n-eq1.true) c.write_record.ensures

pub write_sum-btree_split_index-few-requires : goal.write_sum-btree_split_index-few-requires
write_sum-btree_split_index-few-requires t c =
    let e : 2 ≤ c.args.n = omega arith in
    (e, c.requires.i_lt_n.1)

pub write_sum-bounds-out-0 : goal.write_sum-bounds-out-0
write_sum-bounds-out-0 t c = search steps

pub write_tree-shape_of-out-then-n-eq0 : goal.write_tree-shape_of-out-then-n-eq0
write_tree-shape_of-out-then-n-eq0 t c = placed_length c.requires.ready (none_placed _ _ _ _ _ _ _ c.requires.ready c.if-n-eq0.true)

pub write_tree-returns-then-n-eq0 : goal.write_tree-returns-then-n-eq0
write_tree-returns-then-n-eq0 t c = (none_placed _ _ _ _ _ _ _ c.requires.ready c.if-n-eq0.true, skip_none _ _ _ _ _ c.if-n-eq0.true)

pub write_tree-write_record-requires : goal.write_tree-write_record-requires
write_tree-write_record-requires t c =
    let z = c.if-n-eq1.true in
    (omega arith, (one_given c.requires.given_parts z, ready_as (one_is _ _ _ _ _ _ _ z) c.requires.ready))

pub write_tree-after_part-requires : goal.write_tree-after_part-requires
write_tree-after_part-requires t c = stands_inside (one_given c.requires.given_parts c.if-n-eq1.true)

pub write_tree-shape_of-out-then-n-eq1 : goal.write_tree-shape_of-out-then-n-eq1
write_tree-shape_of-out-then-n-eq1 t c =
    let z = c.if-n-eq1.true in
    placed_length c.requires.ready (placed_as (one_is _ _ _ _ _ _ _ z) c.write_record.ensures)

pub write_tree-returns-then-n-eq1 : goal.write_tree-returns-then-n-eq1
write_tree-returns-then-n-eq1 t c =
    let z = c.if-n-eq1.true in
    (placed_as (one_is _ _ _ _ _ _ _ z) c.write_record.ensures, skip_one _ _ z (one_given c.requires.given_parts z) c.after_part.ensures)

pub write_tree-btree_split_index-few-requires : goal.write_tree-btree_split_index-few-requires
write_tree-btree_split_index-few-requires t c = let z = c.if-n-eq0.false in let o = c.if-n-eq1.false in (omega arith, c.requires.n_le_most_parts)

pub write_tree-overflow_sub-others : goal.write_tree-overflow_sub-others
write_tree-overflow_sub-others t c =
    let h = shares c.btree_split_index-few.ensures (omega arith) in
    omega arith

pub write_tree-slice_bounds-write_tree-count : goal.write_tree-slice_bounds-write_tree-count
write_tree-slice_bounds-write_tree-count t c =
    let pair = tree_pair _ _ _ _ _ _ _ _ (skip c.args.parts c.args.level c.args.table.now.ty.now c.btree_split_index-few.result c.args.at) _ c.btree_split_index-few.ensures c.if-n-eq0.false c.if-n-eq1.false refl c.requires.ready in
    pair_start pair

pub write_tree-slice_bounds-write_tree-start : goal.write_tree-slice_bounds-write_tree-start
write_tree-slice_bounds-write_tree-start t c =
    let pair = tree_pair _ _ _ _ _ _ _ _ (skip c.args.parts c.args.level c.args.table.now.ty.now c.btree_split_index-few.result c.args.at) _ c.btree_split_index-few.ensures c.if-n-eq0.false c.if-n-eq1.false refl c.requires.ready in
    pair_start pair

pub write_sum-slice_bounds-write_sum-count : goal.write_sum-slice_bounds-write_sum-count
write_sum-slice_bounds-write_sum-count t c =
    let side : Side c.if-i-few.side c.args.level c.args.table.now.ty.now c.args.val.now c.args.n c.args.i c.args.at c.args.v c.args.out.now = elim c.if-i-few.branch [
      | write_sum-then-i-few w ↦ on_left c.requires.ready c.btree_split_index-few.ensures c.if-n-eq1.false c.requires.i_lt_n.0 w.if-i-few.true w.side-is
      | write_sum-else-i-few w ↦ on_right c.requires.ready c.btree_split_index-few.ensures c.if-n-eq1.false c.requires.i_lt_n.0 w.if-i-few.false w.side-is
    ] in
    stem_start side.stem

pub write_sum-slice_bounds-write_sum-start : goal.write_sum-slice_bounds-write_sum-start
write_sum-slice_bounds-write_sum-start t c =
    let side : Side c.if-i-few.side c.args.level c.args.table.now.ty.now c.args.val.now c.args.n c.args.i c.args.at c.args.v c.args.out.now = elim c.if-i-few.branch [
      | write_sum-then-i-few w ↦ on_left c.requires.ready c.btree_split_index-few.ensures c.if-n-eq1.false c.requires.i_lt_n.0 w.if-i-few.true w.side-is
      | write_sum-else-i-few w ↦ on_right c.requires.ready c.btree_split_index-few.ensures c.if-n-eq1.false c.requires.i_lt_n.0 w.if-i-few.false w.side-is
    ] in
    stem_start side.stem

pub write_sum-write_sum-chosen-requires : goal.write_sum-write_sum-chosen-requires
write_sum-write_sum-chosen-requires t c =
    let side : Side c.if-i-few.side c.args.level c.args.table.now.ty.now c.args.val.now c.args.n c.args.i c.args.at c.args.v c.args.out.now = elim c.if-i-few.branch [
      | write_sum-then-i-few w ↦ on_left c.requires.ready c.btree_split_index-few.ensures c.if-n-eq1.false c.requires.i_lt_n.0 w.if-i-few.true w.side-is
      | write_sum-else-i-few w ↦ on_right c.requires.ready c.btree_split_index-few.ensures c.if-n-eq1.false c.requires.i_lt_n.0 w.if-i-few.false w.side-is
    ] in
    let l = side.less in
    (omega arith, ((side.choice, omega arith), (c.requires.stands, stem_ready side.stem)))

pub write_sum-overflow_add-result : goal.write_sum-overflow_add-result
write_sum-overflow_add-result t c =
    let side : Side c.if-i-few.side c.args.level c.args.table.now.ty.now c.args.val.now c.args.n c.args.i c.args.at c.args.v c.args.out.now = elim c.if-i-few.branch [
      | write_sum-then-i-few w ↦ on_left c.requires.ready c.btree_split_index-few.ensures c.if-n-eq1.false c.requires.i_lt_n.0 w.if-i-few.true w.side-is
      | write_sum-else-i-few w ↦ on_right c.requires.ready c.btree_split_index-few.ensures c.if-n-eq1.false c.requires.i_lt_n.0 w.if-i-few.false w.side-is
    ] in
    omega (arith, stem_small side.stem c.write_sum-chosen.ensures)

pub write_sum-shape_of-out : goal.write_sum-shape_of-out
write_sum-shape_of-out t c =
    let side : Side c.if-i-few.side c.args.level c.args.table.now.ty.now c.args.val.now c.args.n c.args.i c.args.at c.args.v c.args.out.now = elim c.if-i-few.branch [
      | write_sum-then-i-few w ↦ on_left c.requires.ready c.btree_split_index-few.ensures c.if-n-eq1.false c.requires.i_lt_n.0 w.if-i-few.true w.side-is
      | write_sum-else-i-few w ↦ on_right c.requires.ready c.btree_split_index-few.ensures c.if-n-eq1.false c.requires.i_lt_n.0 w.if-i-few.false w.side-is
    ] in
    placed_length c.requires.ready (stem_done side.stem c.write_sum-chosen.ensures)

pub write_sum-returns : goal.write_sum-returns
write_sum-returns t c =
    let side : Side c.if-i-few.side c.args.level c.args.table.now.ty.now c.args.val.now c.args.n c.args.i c.args.at c.args.v c.args.out.now = elim c.if-i-few.branch [
      | write_sum-then-i-few w ↦ on_left c.requires.ready c.btree_split_index-few.ensures c.if-n-eq1.false c.requires.i_lt_n.0 w.if-i-few.true w.side-is
      | write_sum-else-i-few w ↦ on_right c.requires.ready c.btree_split_index-few.ensures c.if-n-eq1.false c.requires.i_lt_n.0 w.if-i-few.false w.side-is
    ] in
    stem_done side.stem c.write_sum-chosen.ensures

pub write_tree-write_tree-left-requires : goal.write_tree-write_tree-left-requires
write_tree-write_tree-left-requires t c =
    let h = shares c.btree_split_index-few.ensures (omega arith) in
    let pair = tree_pair _ _ _ _ _ _ _ _ (skip c.args.parts c.args.level c.args.table.now.ty.now c.btree_split_index-few.result c.args.at) _ c.btree_split_index-few.ensures c.if-n-eq0.false c.if-n-eq1.false refl c.requires.ready in
    (omega arith, (omega arith, (left_given h c.requires.given_parts, left_ready pair)))

pub write_tree-overflow_add-k : goal.write_tree-overflow_add-k
write_tree-overflow_add-k t c =
    let pair = tree_pair _ _ _ _ _ _ _ _ (skip c.args.parts c.args.level c.args.table.now.ty.now c.btree_split_index-few.result c.args.at) _ c.btree_split_index-few.ensures c.if-n-eq0.false c.if-n-eq1.false refl c.requires.ready in
    omega (arith, pair_small pair c.write_tree-left.ensures.0)

pub write_tree-slice_bounds-write_tree-count-2 : goal.write_tree-slice_bounds-write_tree-count-2
write_tree-slice_bounds-write_tree-count-2 t c =
    let pair = tree_pair _ _ _ _ _ _ _ _ (skip c.args.parts c.args.level c.args.table.now.ty.now c.btree_split_index-few.result c.args.at) _ c.btree_split_index-few.ensures c.if-n-eq0.false c.if-n-eq1.false refl c.requires.ready in
    pair_fits pair c.write_tree-left.ensures.0

pub write_tree-slice_bounds-write_tree-start-2 : goal.write_tree-slice_bounds-write_tree-start-2
write_tree-slice_bounds-write_tree-start-2 t c =
    let pair = tree_pair _ _ _ _ _ _ _ _ (skip c.args.parts c.args.level c.args.table.now.ty.now c.btree_split_index-few.result c.args.at) _ c.btree_split_index-few.ensures c.if-n-eq0.false c.if-n-eq1.false refl c.requires.ready in
    pair_fits pair c.write_tree-left.ensures.0

pub write_tree-write_tree-right-requires : goal.write_tree-write_tree-right-requires
write_tree-write_tree-right-requires t c =
    let h = shares c.btree_split_index-few.ensures (omega arith) in
    let w = c.write_tree-left.ensures in
    let pair = tree_pair _ _ _ _ _ _ _ _ _ _ c.btree_split_index-few.ensures c.if-n-eq0.false c.if-n-eq1.false w.1 c.requires.ready in
    (omega arith, (omega arith, (right_given h c.requires.given_parts w.1, right_ready pair w.0)))

pub write_tree-overflow_add-written : goal.write_tree-overflow_add-written
write_tree-overflow_add-written t c =
    let pair = tree_pair _ _ _ _ _ _ _ _ _ _ c.btree_split_index-few.ensures c.if-n-eq0.false c.if-n-eq1.false c.write_tree-left.ensures.1 c.requires.ready in
    omega (arith, pair_total pair c.write_tree-left.ensures.0 c.write_tree-right.ensures.0)

pub write_tree-shape_of-out : goal.write_tree-shape_of-out
write_tree-shape_of-out t c =
    let h = shares c.btree_split_index-few.ensures (omega arith) in
    let w = c.write_tree-left.ensures in
    let u = c.write_tree-right.ensures in
    let pair = tree_pair _ _ _ _ _ _ _ _ _ _ c.btree_split_index-few.ensures c.if-n-eq0.false c.if-n-eq1.false w.1 c.requires.ready in
    placed_length c.requires.ready (pair_done pair w.0 u.0)

pub write_tree-returns : goal.write_tree-returns
write_tree-returns t c =
    let h = shares c.btree_split_index-few.ensures (omega arith) in
    let w = c.write_tree-left.ensures in
    let u = c.write_tree-right.ensures in
    let pair = tree_pair _ _ _ _ _ _ _ _ _ _ c.btree_split_index-few.ensures c.if-n-eq0.false c.if-n-eq1.false w.1 c.requires.ready in
    (pair_done pair w.0 u.0, skip_sides h _ _ _ _ w.1 u.1)

pub write_tree-bounds-out-0 : goal.write_tree-bounds-out-0
write_tree-bounds-out-0 t c = search steps

pub write_tree-bounds-out-0-2 : goal.write_tree-bounds-out-0-2
write_tree-bounds-out-0-2 t c = search steps
