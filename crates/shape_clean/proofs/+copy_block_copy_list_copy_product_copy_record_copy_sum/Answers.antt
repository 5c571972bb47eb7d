use Prim.Native.Nat.{◌≤◌}
use native.Mathlib.Omega.{arith}
use borrow.Author.Rules.{rules}
use Rattle.shape.specs.Laws.Writing.{stem_ready, stem_small, stem_done}
use Rattle.types.specs.Entries.{ends}
use Rattle.types.specs.declared.forms.Parts.TheVariants.{Types}
use Rattle.shape_clean.proofs.Steps.{of_records, of_products, of_sums, of_blocks, of_lists, same_count, product_hopped, product_right_given, product_right, product_total, product_done, block_done, list_right, list_total, list_done, Side, left_side, right_side}
use Rattle.shape_clean.proofs.+copy_block_copy_list_copy_product_copy_record_copy_sum.Goals as goal
use Rattle.shape_clean.proofs.+copy_block_copy_list_copy_product_copy_record_copy_sum.Goals.{copy_sum-then-tag-eq-LEFT, copy_sum-else-tag-eq-LEFT}

-- A need of several parts, and one that looks far back, is answered part by part; where a part of the buffer was lent, it is as long as it was by what was placed.

pub copy_block-copy_product-all-requires : goal.copy_block-copy_product-all-requires
copy_block-copy_product-all-requires t c = (search (of_blocks, rules), (search (of_blocks, rules), (search (of_blocks, rules), search (of_blocks, rules))))

pub copy_block-shape_of-out : goal.copy_block-shape_of-out
copy_block-shape_of-out t c = same_count (block_done _ _ _ _ _ _ _ c.requires.ready c.if-shape-p-eq-LEFT.false _ _ _ _ c.copy_product-all.ensures) c.requires.ready

pub copy_list-copy_block-requires : goal.copy_list-copy_block-requires
copy_list-copy_block-requires t c = (search (of_lists, rules), (search (of_lists, rules), (search (of_lists, rules), search (of_lists, rules))))

pub copy_list-copy_block-block-requires : goal.copy_list-copy_block-block-requires
copy_list-copy_block-block-requires t c = (search (of_lists, rules), (search (of_lists, rules), (search (of_lists, rules), search (of_lists, rules))))

pub copy_list-copy_list-block-requires : goal.copy_list-copy_list-block-requires
copy_list-copy_list-block-requires t c =
    let first = c.copy_block-block.ensures in
    let size = c.get.ensures in
    let half = c.checked_div2.ensures in
    (search (of_lists, rules), (search (of_lists, rules), list_right _ _ half _ (search rules) _ _ _ _ _ _ c.requires.ready _ size _ _ _ first))

pub copy_list-overflow_add-result : goal.copy_list-overflow_add-result
copy_list-overflow_add-result t c =
    let first = c.copy_block-block.ensures in
    let second = c.copy_list-block.ensures in
    let size = c.get.ensures in
    let half = c.checked_div2.ensures in
    list_total _ _ half _ (search rules) _ _ _ _ _ _ c.requires.ready _ size _ _ _ first _ _ _ second (search rules)

pub copy_list-shape_of-out-in-Some : goal.copy_list-shape_of-out-in-Some
copy_list-shape_of-out-in-Some t c =
    let first = c.copy_block-block.ensures in
    let second = c.copy_list-block.ensures in
    let size = c.get.ensures in
    let half = c.checked_div2.ensures in
    same_count (list_done _ _ half _ (search rules) _ _ _ _ _ _ c.requires.ready _ size _ _ _ first _ _ _ second) c.requires.ready

pub copy_list-returns-in-Some : goal.copy_list-returns-in-Some
copy_list-returns-in-Some t c =
    let first = c.copy_block-block.ensures in
    let second = c.copy_list-block.ensures in
    let size = c.get.ensures in
    let half = c.checked_div2.ensures in
    list_done _ _ half _ (search rules) _ _ _ _ _ _ c.requires.ready _ size _ _ _ first _ _ _ second

pub copy_product-copy_record-requires : goal.copy_product-copy_record-requires
copy_product-copy_record-requires t c = (search (of_products, rules), (search (of_products, rules), search (of_products, rules)))

pub copy_product-copy_product-side-requires : goal.copy_product-copy_product-side-requires
copy_product-copy_product-side-requires t c =
    let two : 2 ≤ c.args.n = omega arith in
    (search (of_products, rules), (search (of_products, rules), (search (of_products, rules), search (of_products, rules))))

pub copy_product-after-rest-requires : goal.copy_product-after-rest-requires
copy_product-after-rest-requires t c = product_hopped _ _ c.btree_split_index-few.ensures (omega arith) _ _ _ _ _ c.requires.given_parts

pub copy_product-copy_product-side-requires-in_default : goal.copy_product-copy_product-side-requires-in_default
copy_product-copy_product-side-requires-in_default t c =
    let two : 2 ≤ c.args.n = omega arith in
    (search (of_products, rules), (search (of_products, rules), (search (product_right_given, rules), search (product_right, rules))))

pub copy_product-overflow_add-result : goal.copy_product-overflow_add-result
copy_product-overflow_add-result t c =
    let first = c.copy_product-side.ensures in
    let second = c.copy_product-side-in_default.ensures in
    let rest = c.after-rest.ensures in
    let share = c.btree_split_index-few.ensures in
    let two : 2 ≤ c.args.n = omega arith in
    product_total _ _ _ _ _ _ _ _ _ _ share two c.requires.ready _ _ _ first _ rest _ _ _ second (search rules)

pub copy_product-shape_of-out-in_default : goal.copy_product-shape_of-out-in_default
copy_product-shape_of-out-in_default t c =
    let first = c.copy_product-side.ensures in
    let second = c.copy_product-side-in_default.ensures in
    let rest = c.after-rest.ensures in
    let share = c.btree_split_index-few.ensures in
    let two : 2 ≤ c.args.n = omega arith in
    same_count (product_done _ _ _ _ _ _ _ _ _ _ share two c.requires.ready _ _ _ first _ rest _ _ _ second) c.requires.ready

pub copy_product-returns-in_default : goal.copy_product-returns-in_default
copy_product-returns-in_default t c =
    let first = c.copy_product-side.ensures in
    let second = c.copy_product-side-in_default.ensures in
    let rest = c.after-rest.ensures in
    let share = c.btree_split_index-few.ensures in
    let two : 2 ≤ c.args.n = omega arith in
    product_done _ _ _ _ _ _ _ _ _ _ share two c.requires.ready _ _ _ first _ rest _ _ _ second

pub copy_record-copy_product-requires : goal.copy_record-copy_product-requires
copy_record-copy_product-requires t c = (search (of_records, rules), (search (of_records, rules), (search (of_records, rules), search (of_records, rules))))

pub copy_record-copy_sum-requires : goal.copy_record-copy_sum-requires
copy_record-copy_sum-requires t c = (search (of_records, rules), ((search (of_records, rules), search (of_records, rules)), (search (of_records, rules), search (of_records, rules))))

pub copy_record-copy_list-requires : goal.copy_record-copy_list-requires
copy_record-copy_list-requires t c = (search (of_records, rules), (search (of_records, rules), search (of_records, rules)))

pub copy_record-copy_product-requires-in-Payload : goal.copy_record-copy_product-requires-in-Payload
copy_record-copy_product-requires-in-Payload t c = (search (of_records, rules), (search (of_records, rules), (search (of_records, rules), search (of_records, rules))))

pub copy_sum-copy_record-requires : goal.copy_sum-copy_record-requires
copy_sum-copy_record-requires t c = (search (of_sums, rules), (search (of_sums, rules), search (of_sums, rules)))

pub copy_block-bounds-shape-p : goal.copy_block-bounds-shape-p
copy_block-bounds-shape-p t c = search (of_blocks, rules)

pub copy_block-bounds-out-0 : goal.copy_block-bounds-out-0
copy_block-bounds-out-0 t c = search (of_blocks, rules)

pub copy_block-bounds-out-1 : goal.copy_block-bounds-out-1
copy_block-bounds-out-1 t c = search (of_blocks, rules)

pub copy_block-bounds-out-0-2 : goal.copy_block-bounds-out-0-2
copy_block-bounds-out-0-2 t c = search (of_blocks, rules)

pub copy_block-overflow_add-p : goal.copy_block-overflow_add-p
copy_block-overflow_add-p t c = search (of_blocks, rules)

pub copy_block-slice_bounds-copy_product-count : goal.copy_block-slice_bounds-copy_product-count
copy_block-slice_bounds-copy_product-count t c = search (of_blocks, rules)

pub copy_block-slice_bounds-copy_product-start : goal.copy_block-slice_bounds-copy_product-start
copy_block-slice_bounds-copy_product-start t c = search (of_blocks, rules)

pub copy_block-overflow_add-result-2 : goal.copy_block-overflow_add-result-2
copy_block-overflow_add-result-2 t c = search (of_blocks, rules)

pub copy_list-bounds-out-0 : goal.copy_list-bounds-out-0
copy_list-bounds-out-0 t c = search (of_lists, rules)

pub copy_list-overflow_add-p : goal.copy_list-overflow_add-p
copy_list-overflow_add-p t c = search (of_lists, rules)

pub copy_list-slice_bounds-copy_block-count : goal.copy_list-slice_bounds-copy_block-count
copy_list-slice_bounds-copy_block-count t c = search (of_lists, rules)

pub copy_list-slice_bounds-copy_block-start : goal.copy_list-slice_bounds-copy_block-start
copy_list-slice_bounds-copy_block-start t c = search (of_lists, rules)

pub copy_list-overflow_add-k : goal.copy_list-overflow_add-k
copy_list-overflow_add-k t c = search (of_lists, rules)

pub copy_list-slice_bounds-copy_list-count : goal.copy_list-slice_bounds-copy_list-count
copy_list-slice_bounds-copy_list-count t c = search (of_lists, rules)

pub copy_list-slice_bounds-copy_list-start : goal.copy_list-slice_bounds-copy_list-start
copy_list-slice_bounds-copy_list-start t c = search (of_lists, rules)

pub copy_product-bounds-out-0 : goal.copy_product-bounds-out-0
copy_product-bounds-out-0 t c =
    let two : 2 ≤ c.args.n = omega arith in
    search (of_products, rules)

pub copy_product-overflow_add-p : goal.copy_product-overflow_add-p
copy_product-overflow_add-p t c =
    let two : 2 ≤ c.args.n = omega arith in
    search (of_products, rules)

pub copy_product-slice_bounds-copy_product-count : goal.copy_product-slice_bounds-copy_product-count
copy_product-slice_bounds-copy_product-count t c =
    let two : 2 ≤ c.args.n = omega arith in
    search (of_products, rules)

pub copy_product-slice_bounds-copy_product-start : goal.copy_product-slice_bounds-copy_product-start
copy_product-slice_bounds-copy_product-start t c =
    let two : 2 ≤ c.args.n = omega arith in
    search (of_products, rules)

pub copy_product-overflow_add-k : goal.copy_product-overflow_add-k
copy_product-overflow_add-k t c =
    let two : 2 ≤ c.args.n = omega arith in
    search (of_products, rules)

pub copy_product-slice_bounds-copy_product-count-in_default : goal.copy_product-slice_bounds-copy_product-count-in_default
copy_product-slice_bounds-copy_product-count-in_default t c =
    let two : 2 ≤ c.args.n = omega arith in
    search (of_products, rules)

pub copy_product-slice_bounds-copy_product-start-in_default : goal.copy_product-slice_bounds-copy_product-start-in_default
copy_product-slice_bounds-copy_product-start-in_default t c =
    let two : 2 ≤ c.args.n = omega arith in
    search (of_products, rules)

pub copy_record-overflow_add-first : goal.copy_record-overflow_add-first
copy_record-overflow_add-first t c = search (of_records, rules)

pub copy_record-overflow_sub-below : goal.copy_record-overflow_sub-below
copy_record-overflow_sub-below t c = search (of_records, rules)

pub copy_record-returns-in-Nothing : goal.copy_record-returns-in-Nothing
copy_record-returns-in-Nothing t c = search (of_records, rules)

pub copy_sum-bounds-shape-p : goal.copy_sum-bounds-shape-p
copy_sum-bounds-shape-p t c =
    let two : 2 ≤ c.args.n = omega arith in
    search (of_sums, rules)

pub copy_sum-bounds-out-0 : goal.copy_sum-bounds-out-0
copy_sum-bounds-out-0 t c =
    let two : 2 ≤ c.args.n = omega arith in
    search (of_sums, rules)

pub copy_sum-hop-requires : goal.copy_sum-hop-requires
copy_sum-hop-requires t c = product_hopped _ _ c.btree_split_index-few.ensures (omega arith) Types _ _ _ _ c.requires.given_parts

pub copy_sum-overflow_sub-place : goal.copy_sum-overflow_sub-place
copy_sum-overflow_sub-place t c =
    let two : 2 ≤ c.args.n = omega arith in
    search (of_sums, rules)

pub copy_sum-overflow_add-p : goal.copy_sum-overflow_add-p
copy_sum-overflow_add-p t c =
    let two : 2 ≤ c.args.n = omega arith in
    search (of_sums, rules)

pub copy_sum-slice_bounds-copy_sum-count : goal.copy_sum-slice_bounds-copy_sum-count
copy_sum-slice_bounds-copy_sum-count t c =
    let two : 2 ≤ c.args.n = omega arith in
    search (of_sums, rules)

pub copy_sum-slice_bounds-copy_sum-start : goal.copy_sum-slice_bounds-copy_sum-start
copy_sum-slice_bounds-copy_sum-start t c =
    let two : 2 ≤ c.args.n = omega arith in
    search (of_sums, rules)

pub copy_sum-copy_sum-side-requires : goal.copy_sum-copy_sum-side-requires
copy_sum-copy_sum-side-requires t c =
    let two : 2 ≤ c.args.n = omega arith in
    let side : Side c.args.shape.now c.args.level c.args.table.now.ty.now (ends c.args.table.now.entries.now) c.args.n c.args.at c.args.p c.args.out.now c.if-tag-eq-LEFT.place = elim c.if-tag-eq-LEFT.branch [
      | copy_sum-then-tag-eq-LEFT w ↦ rw w.place-is (left_side _ _ _ _ _ _ _ _ _ c.btree_split_index-few.ensures two c.requires.ready c.requires.given_parts w.if-tag-eq-LEFT.true)
      | copy_sum-else-tag-eq-LEFT w ↦ rw w.place-is (right_side _ _ _ _ _ _ _ _ _ c.btree_split_index-few.ensures two c.requires.ready c.requires.given_parts w.if-tag-eq-LEFT.false _ w.hop.ensures)
    ] in
    let some = side.some in
    let less = side.less in
    (omega arith, ((omega arith, omega arith), (side.given, stem_ready side.stem)))

pub copy_sum-overflow_add-result : goal.copy_sum-overflow_add-result
copy_sum-overflow_add-result t c =
    let two : 2 ≤ c.args.n = omega arith in
    let side : Side c.args.shape.now c.args.level c.args.table.now.ty.now (ends c.args.table.now.entries.now) c.args.n c.args.at c.args.p c.args.out.now c.if-tag-eq-LEFT.place = elim c.if-tag-eq-LEFT.branch [
      | copy_sum-then-tag-eq-LEFT w ↦ rw w.place-is (left_side _ _ _ _ _ _ _ _ _ c.btree_split_index-few.ensures two c.requires.ready c.requires.given_parts w.if-tag-eq-LEFT.true)
      | copy_sum-else-tag-eq-LEFT w ↦ rw w.place-is (right_side _ _ _ _ _ _ _ _ _ c.btree_split_index-few.ensures two c.requires.ready c.requires.given_parts w.if-tag-eq-LEFT.false _ w.hop.ensures)
    ] in
    let l = stem_small side.stem c.copy_sum-side.ensures in omega arith

pub copy_sum-shape_of-out : goal.copy_sum-shape_of-out
copy_sum-shape_of-out t c =
    let two : 2 ≤ c.args.n = omega arith in
    let side : Side c.args.shape.now c.args.level c.args.table.now.ty.now (ends c.args.table.now.entries.now) c.args.n c.args.at c.args.p c.args.out.now c.if-tag-eq-LEFT.place = elim c.if-tag-eq-LEFT.branch [
      | copy_sum-then-tag-eq-LEFT w ↦ rw w.place-is (left_side _ _ _ _ _ _ _ _ _ c.btree_split_index-few.ensures two c.requires.ready c.requires.given_parts w.if-tag-eq-LEFT.true)
      | copy_sum-else-tag-eq-LEFT w ↦ rw w.place-is (right_side _ _ _ _ _ _ _ _ _ c.btree_split_index-few.ensures two c.requires.ready c.requires.given_parts w.if-tag-eq-LEFT.false _ w.hop.ensures)
    ] in
    same_count (stem_done side.stem c.copy_sum-side.ensures) c.requires.ready

pub copy_sum-returns : goal.copy_sum-returns
copy_sum-returns t c =
    let two : 2 ≤ c.args.n = omega arith in
    let side : Side c.args.shape.now c.args.level c.args.table.now.ty.now (ends c.args.table.now.entries.now) c.args.n c.args.at c.args.p c.args.out.now c.if-tag-eq-LEFT.place = elim c.if-tag-eq-LEFT.branch [
      | copy_sum-then-tag-eq-LEFT w ↦ rw w.place-is (left_side _ _ _ _ _ _ _ _ _ c.btree_split_index-few.ensures two c.requires.ready c.requires.given_parts w.if-tag-eq-LEFT.true)
      | copy_sum-else-tag-eq-LEFT w ↦ rw w.place-is (right_side _ _ _ _ _ _ _ _ _ c.btree_split_index-few.ensures two c.requires.ready c.requires.given_parts w.if-tag-eq-LEFT.false _ w.hop.ensures)
    ] in
    stem_done side.stem c.copy_sum-side.ensures
