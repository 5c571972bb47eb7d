use Prim.Native.Nat.{◌^◌, ◌<◌}
use native.Mathlib.Omega.{arith}
use borrow.Author.Rules.{rules}
use mathlib.Core.Path.{◌∙◌}
use lib.ListN.{length}
use Rattle.rebuild.specs.Laws.Steps.{pair_fits}
use Rattle.model.proofs.Laws.Balanced.{shares, shares_else}
use Rattle.structural.proofs.Laws.Bounds.{bound_small}
use Rattle.structural.proofs.Laws.Forms.{level_some}
use Rattle.rebuild.specs.Laws.Forms.{given_hopped, as_product, as_sum, as_list, as_payload, as_integer, one_given, left_given, right_given}
use Rattle.rebuild.specs.Reads.{reader}
use Rattle.types.specs.declared.forms.Parts.TheVariants.{Types}
use Rattle.rebuild.proofs.Steps.{reading, nothing_few, bits_few, bit_few, record_bit, record_integer, limits_down, record_nothing, record_product, record_sum, record_list, product_few, sum_few, list_few, block_small, product_stop, product_on, halved, listed_stop, listed_on}
use Rattle.rebuild.proofs.+read_block_read_list_read_product_read_record_read_sum.Goals as goal
use Rattle.rebuild.proofs.+read_block_read_list_read_product_read_record_read_sum.Goals.{read_record-in-Nothing, read_record-in-Bit, read_record-in-Integer, read_record-in-Product, read_record-in-Sum, read_record-in-List}

pub read_list-read_block-requires-in-Some : goal.read_list-read_block-requires-in-Some
read_list-read_block-requires-in-Some t c =
    let h = halved c.args.shape.now c.args.level c.args.table.now.ty.now c.args.at 0 c.args.bound _ c.checked_div2.ensures _ c.in-Some.is in
    let l = h.less in
    let m = bound_small c.in-Some.half in
    let e = c.get.ensures in
    (omega arith, (omega arith, (c.requires.stands, c.requires.limits)))

pub read_list-read_list-rest-requires : goal.read_list-read_list-rest-requires
read_list-read_list-rest-requires t c =
    let h = halved c.args.shape.now c.args.level c.args.table.now.ty.now c.args.at 0 c.args.bound _ c.checked_div2.ensures _ c.in-Some.is in
    let l = h.less in
    (omega arith, (c.requires.stands, c.requires.limits))

pub read_list-plus-requires-in-Some : goal.read_list-plus-requires-in-Some
read_list-plus-requires-in-Some t c =
    let f = block_small _ _ _ _ _ _ _ c.in_ok-block-in-Some.ensures c.requires.limits in
    record { n_le_most_records = (omega arith, omega arith); few = list_few _ _ _ _ _ _ _ c.read_list-rest.ensures c.requires.limits }

pub read_list-returns-in_err-block-in-Some : goal.read_list-returns-in_err-block-in-Some
read_list-returns-in_err-block-in-Some t c = rw c.from_residual.ensures (listed_stop _ _ _ _ _ c.args.bound _ c.checked_div2.ensures _ c.in-Some.is _ c.record_at.ensures c.if-record_at-ne-PAIR.false _ c.get.ensures c.in_err-block-in-Some.ensures)

pub read_list-returns-in_ok-block-in-Some : goal.read_list-returns-in_ok-block-in-Some
read_list-returns-in_ok-block-in-Some t c = listed_on _ _ _ _ _ c.args.bound _ c.checked_div2.ensures _ c.in-Some.is _ c.record_at.ensures c.if-record_at-ne-PAIR.false _ c.get.ensures _ c.in_ok-block-in-Some.ensures _ _ c.read_list-rest.ensures c.plus-in-Some.ensures

pub read_product-read_record-requires : goal.read_product-read_record-requires
read_product-read_record-requires t c = (omega arith, (one_given c.requires.given_parts c.in-1.is, c.requires.limits))

pub read_product-overflow_sub-others : goal.read_product-overflow_sub-others
read_product-overflow_sub-others t c = let l = shares c.btree_split_index-few.ensures (omega arith) in let m = l.less in omega arith

pub read_product-overflow_add-p : goal.read_product-overflow_add-p
read_product-overflow_add-p t c =
    let l : length c.args.shape.now < 2 ^ 64 = omega arith in
    pair_fits c.args.shape.now c.args.p c.record_at.result c.record_at.ensures l c.if-record_at-ne-PAIR.false

pub read_product-read_product-side-requires : goal.read_product-read_product-side-requires
read_product-read_product-side-requires t c =
    let l = shares c.btree_split_index-few.ensures (omega arith) in
    let m = l.less in
    (omega arith, (omega arith, (left_given l c.requires.given_parts, c.requires.limits)))

pub read_product-after-rest-requires : goal.read_product-after-rest-requires
read_product-after-rest-requires t c = given_hopped _ (left_given (shares c.btree_split_index-few.ensures (omega arith)) c.requires.given_parts)

pub read_product-read_product-side-requires-in_default : goal.read_product-read_product-side-requires-in_default
read_product-read_product-side-requires-in_default t c =
    let l = shares c.btree_split_index-few.ensures (omega arith) in
    let m = l.some in
    let o = l.less in
    (omega arith, (omega arith, (right_given l c.requires.given_parts c.after-rest.ensures, c.requires.limits)))

pub read_product-plus-requires : goal.read_product-plus-requires
read_product-plus-requires t c =
    let f = product_few _ _ _ _ _ _ _ _ _ c.in_ok-left-in_default.ensures c.requires.limits in
    record { n_le_most_records = (omega arith, omega arith); few = product_few _ _ _ _ _ _ _ _ _ c.read_product-side-in_default.ensures c.requires.limits }

pub read_product-returns-in_err-left-in_default : goal.read_product-returns-in_err-left-in_default
read_product-returns-in_err-left-in_default t c = rw c.from_residual.ensures (product_stop _ _ _ _ _ _ _ _ _ c.record_at.ensures (omega arith) _ c.btree_split_index-few.ensures c.if-record_at-ne-PAIR.false c.in_err-left-in_default.ensures)

pub read_product-returns-in_ok-left-in_default : goal.read_product-returns-in_ok-left-in_default
read_product-returns-in_ok-left-in_default t c = product_on _ _ _ _ _ _ _ _ _ c.record_at.ensures (omega arith) _ c.btree_split_index-few.ensures c.if-record_at-ne-PAIR.false _ c.in_ok-left-in_default.ensures _ c.after-rest.ensures _ _ c.read_product-side-in_default.ensures c.plus.ensures

pub read_list-plus-requires : goal.read_list-plus-requires
read_list-plus-requires t c = search (reading, rules)

pub read_list-returns-then-record_at-ne-PAIR : goal.read_list-returns-then-record_at-ne-PAIR
read_list-returns-then-record_at-ne-PAIR t c = search (reading, rules)

pub read_record-overflow_add-first : goal.read_record-overflow_add-first
read_record-overflow_add-first t c = search (reading, rules)

pub read_record-overflow_sub-below : goal.read_record-overflow_sub-below
read_record-overflow_sub-below t c = search (reading, rules)

pub read_record-plus-requires-clause-few : goal.read_record-plus-requires-clause-few
read_record-plus-requires-clause-few t c = elim c.match-form.branch [
  | read_record-in-Nothing w ↦ rw w.read-is nothing_few
  | read_record-in-Bit w ↦ rw w.read-is (bit_few _ _ _ _ c.requires.limits w.read_bit-read.ensures)
  | read_record-in-Integer w ↦ rw w.read-is (bits_few _ _ _ _ c.requires.limits _ w.read_bits-read.ensures)
  | read_record-in-Product w ↦ rw w.read-is (product_few _ _ _ _ _ _ _ _ _ w.read_product-read.ensures (limits_down c.requires.limits))
  | read_record-in-Sum w ↦ rw w.read-is (sum_few _ _ _ _ _ _ _ _ w.read_sum-read.ensures (limits_down c.requires.limits))
  | read_record-in-List w ↦ rw w.read-is (list_few _ _ _ _ _ _ _ w.read_list-read.ensures (limits_down c.requires.limits))
]

pub read_record-returns : goal.read_record-returns
read_record-returns t c = elim c.match-form.branch [
  | read_record-in-Nothing w ↦ record_nothing c.requires.stands _ _ _ c.head.ensures.0 c.head.ensures.1 c.form.ensures _ _ _ w.in-Nothing.is w.read-is c.plus.ensures
  | read_record-in-Bit w ↦ record_bit c.requires.stands _ _ _ c.head.ensures.0 c.head.ensures.1 c.form.ensures _ _ _ w.in-Bit.is (w.read-is ∙ w.read_bit-read.ensures) c.plus.ensures
  | read_record-in-Integer w ↦ record_integer c.requires.stands _ _ _ c.head.ensures.0 c.head.ensures.1 c.form.ensures _ _ _ _ w.in-Integer.is (w.read-is ∙ w.read_bits-read.ensures) c.plus.ensures
  | read_record-in-Product w ↦ record_product c.requires.stands _ _ _ c.head.ensures.0 c.head.ensures.1 c.form.ensures _ _ _ _ _ w.in-Product.is (w.read-is ∙ w.read_product-read.ensures) c.plus.ensures
  | read_record-in-Sum w ↦ record_sum c.requires.stands _ _ _ c.head.ensures.0 c.head.ensures.1 c.form.ensures _ _ _ _ w.in-Sum.is (w.read-is ∙ w.read_sum-read.ensures) c.plus.ensures
  | read_record-in-List w ↦ record_list c.requires.stands _ _ _ c.head.ensures.0 c.head.ensures.1 c.form.ensures _ _ _ _ w.in-List.is (w.read-is ∙ w.read_list-read.ensures) c.plus.ensures
]

pub read_record-returns-in-Payload : goal.read_record-returns-in-Payload
read_record-returns-in-Payload t c = search (reading, rules)

pub read_record-read_product-requires : goal.read_record-read_product-requires
read_record-read_product-requires t c =
    let i = as_payload c.requires.stands (reader c.args.shape.now) _ _ c.head.ensures.0 c.head.ensures.1 c.form.ensures _ c.in-Payload.is in
    let f = i.few in
    let l = level_some c.requires.stands in
    (omega arith, (f, (i.given, limits_down c.requires.limits)))

pub read_record-read_product-read-requires : goal.read_record-read_product-read-requires
read_record-read_product-read-requires t c =
    let i = as_product c.requires.stands (reader c.args.shape.now) _ _ c.head.ensures.0 c.head.ensures.1 c.form.ensures _ _ c.in-Product.is in
    let f = i.few in
    let l = level_some c.requires.stands in
    (omega arith, (f, (i.given, limits_down c.requires.limits)))

pub read_record-read_bits-read-requires : goal.read_record-read_bits-read-requires
read_record-read_bits-read-requires t c = let i = as_integer c.requires.stands (reader c.args.shape.now) _ _ c.head.ensures.0 c.head.ensures.1 c.form.ensures _ c.in-Integer.is in record { le_n = (i.some, i.few); shape_len_bound = c.requires.limits.short }

pub read_record-read_sum-read-requires : goal.read_record-read_sum-read-requires
read_record-read_sum-read-requires t c =
    let i = as_sum c.requires.stands (reader c.args.shape.now) _ _ c.head.ensures.0 c.head.ensures.1 c.form.ensures _ c.in-Sum.is in
    let f = i.few in
    let l = level_some c.requires.stands in
    (omega arith, ((i.some, f), (i.given, limits_down c.requires.limits)))

pub read_record-read_list-read-requires : goal.read_record-read_list-read-requires
read_record-read_list-read-requires t c =
    let i = as_list c.requires.stands (reader c.args.shape.now) _ _ c.head.ensures.0 c.head.ensures.1 c.form.ensures _ c.in-List.is in
    let f = bound_small c.in-List.bound in
    let l = level_some c.requires.stands in
    (omega arith, (i.given, limits_down c.requires.limits))

pub read_sum-read_record-requires : goal.read_sum-read_record-requires
read_sum-read_record-requires t c = (omega arith, (one_given c.requires.given_parts c.if-n-eq1.true, c.requires.limits))

pub read_sum-read_sum-requires : goal.read_sum-read_sum-requires
read_sum-read_sum-requires t c =
    let l = shares_else c.btree_split_index-few.ensures (λ e. omega arith) c.if-n-eq1.false in
    let m = l.some in
    let o = l.less in
    (omega arith, ((omega arith, omega arith), (left_given l c.requires.given_parts, c.requires.limits)))

pub read_sum-overflow_sub-others : goal.read_sum-overflow_sub-others
read_sum-overflow_sub-others t c = let l = shares_else c.btree_split_index-few.ensures (λ e. omega arith) c.if-n-eq1.false in let m = l.less in omega arith

pub read_sum-hop-requires : goal.read_sum-hop-requires
read_sum-hop-requires t c = given_hopped Types (left_given (shares_else c.btree_split_index-few.ensures (λ e. omega arith) c.if-n-eq1.false) c.requires.given_parts)

pub read_sum-read_sum-requires-in-2 : goal.read_sum-read_sum-requires-in-2
read_sum-read_sum-requires-in-2 t c =
    let l = shares_else c.btree_split_index-few.ensures (λ e. omega arith) c.if-n-eq1.false in
    let m = l.some in
    let o = l.less in
    (omega arith, ((omega arith, omega arith), (right_given l c.requires.given_parts c.hop.ensures, c.requires.limits)))
