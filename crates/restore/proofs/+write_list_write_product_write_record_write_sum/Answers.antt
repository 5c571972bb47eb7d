use mathlib.Core.Path.{◌≡◌, refl, ap, ◌∙◌}
use Prim.Native.Nat.{ℕ, ◌≤◌}
use native.Mathlib.Omega.{arith}
use borrow.Author.Rules.{rules}
use Rattle.model.specs.Balanced.{btree_split_index}
use Rattle.model.proofs.Laws.Balanced.{Shares, shares, shares_else}
use Rattle.structural.proofs.Laws.Bounds.{bound_small}
use Rattle.structural.proofs.Laws.Forms.{level_some, next_fits, stands_inside}
use Rattle.structural.specs.Writing.{put}
use Rattle.told.specs.Laws.Rows.{after_is, given_copies}
use Rattle.told.specs.Laws.Trees.{one_given, left_given, right_given, skip_none, skip_sides}
use Rattle.record.specs.Laws.Formed.{as_nothing, as_boolean, as_integer, as_product, as_sum, as_list, as_payload}
use Rattle.record.specs.Laws.Writing.{lent_length}
use Rattle.record.specs.Marks.{mark_of, bytes}
use Rattle.restore.proofs.Steps.{skip_one, none_found, none_placed, one_ready, one_placed, parts_fit, left_ready, left_fits, right_ready, sides_placed, sides_small, ready_as, placed_as, only_ready, only_placed, choice_inside, choice_fits, first_ready, first_placed, others_ready, others_placed, given_hops, hopped_given, halves, two_inside, two_fits, absent_found, absent_placed, present_ready, present_placed, front_inside, front_fits, front_few, elements_fit, elements_ready, elements_end, rest_ready, rest_placed, rest_small, count_small, under, under_start, under_ready, under_back, under_small, under_placed, under_numbered, numbered_start, numbered_ready, numbered_back, numbered_small, numbered_placed, nothing_there, payload_is, choice_below, count_below, side_inside, bit_room, bit_marks, bit_done, integer_found, integer_room, integer_marks, integer_done}
use Rattle.restore.proofs.+write_list_write_product_write_record_write_sum.Goals as goal

ruleset levels = (level_some, next_fits, rules)

ruleset sides = (shares_else, rules)

pub write_list-bounds-shape-q : goal.write_list-bounds-shape-q
write_list-bounds-shape-q t c = two_inside _ _ _ _ _ _ _ c.requires.ready_numbered c.checked_div2.ensures c.in-None.is

pub write_list-pass-next-requires : goal.write_list-pass-next-requires
write_list-pass-next-requires t c = absent_found _ _ _ _ _ _ _ c.requires.ready_numbered c.checked_div2.ensures c.in-None.is c.if-shape-q-eq-LEFT.true

pub write_list-overflow_add-q-in-None-2 : goal.write_list-overflow_add-q-in-None-2
write_list-overflow_add-q-in-None-2 t c = two_fits _ _ _ _ _ _ _ c.requires.ready_numbered c.checked_div2.ensures c.in-None.is (search rules)

pub write_list-write_record-requires : goal.write_list-write_record-requires
write_list-write_record-requires t c = (omega arith, (c.requires.stands, present_ready _ _ _ _ _ _ _ c.requires.ready_numbered c.checked_div2.ensures c.in-None.is c.if-shape-q-eq-LEFT.false))

pub write_list-returns-in-None : goal.write_list-returns-in-None
write_list-returns-in-None t c = absent_placed _ _ _ _ _ _ _ c.requires.ready_numbered c.checked_div2.ensures c.in-None.is c.if-shape-q-eq-LEFT.true c.pass-next.ensures

pub write_list-returns-in-None-2 : goal.write_list-returns-in-None-2
write_list-returns-in-None-2 t c = present_placed _ _ _ _ _ _ _ c.requires.ready_numbered c.checked_div2.ensures c.in-None.is c.if-shape-q-eq-LEFT.false c.write_record.ensures

pub write_list-overflow_add-front : goal.write_list-overflow_add-front
write_list-overflow_add-front t c = front_fits _ _ _ _ _ _ _ c.requires.ready_numbered c.checked_div2.ensures c.in-Some.is (search rules)

pub write_list-held-n-requires : goal.write_list-held-n-requires
write_list-held-n-requires t c = front_inside _ _ _ _ _ _ _ c.requires.ready_numbered c.checked_div2.ensures c.in-Some.is refl

pub write_list-overflow_add-front-in-Some : goal.write_list-overflow_add-front-in-Some
write_list-overflow_add-front-in-Some t c = elements_fit _ _ _ _ _ _ _ c.requires.ready_numbered c.checked_div2.ensures c.in-Some.is refl (search rules)

pub write_list-write_product-side-requires : goal.write_list-write_product-side-requires
write_list-write_product-side-requires t c = let l = front_few _ _ _ _ _ _ _ c.requires.ready_numbered c.checked_div2.ensures c.in-Some.is c.get.ensures c.held-n.ensures in
    let m = bound_small c.args.bound in
    (omega arith, (omega arith, (given_copies _ c.requires.stands, elements_ready _ _ _ _ _ _ _ c.requires.ready_numbered c.checked_div2.ensures c.in-Some.is c.get.ensures c.held-n.ensures)))

pub write_list-slice_bounds-write_list-count : goal.write_list-slice_bounds-write_list-count
write_list-slice_bounds-write_list-count t c = elements_end _ _ _ _ _ _ _ c.requires.ready_numbered c.checked_div2.ensures c.in-Some.is c.get.ensures c.held-n.ensures c.write_product-side.ensures.1

pub write_list-slice_bounds-write_list-start : goal.write_list-slice_bounds-write_list-start
write_list-slice_bounds-write_list-start t c = elements_end _ _ _ _ _ _ _ c.requires.ready_numbered c.checked_div2.ensures c.in-Some.is c.get.ensures c.held-n.ensures c.write_product-side.ensures.1

pub write_list-write_list-side-requires : goal.write_list-write_list-side-requires
write_list-write_list-side-requires t c = let i = halves _ _ _ _ _ _ _ c.requires.ready_numbered c.checked_div2.ensures c.in-Some.is in
    let l = i.less in
    (omega arith, (c.requires.stands, rest_ready _ _ _ _ _ _ _ c.requires.ready_numbered c.checked_div2.ensures c.in-Some.is c.get.ensures c.held-n.ensures c.write_product-side.ensures.1))

pub write_list-overflow_add-side : goal.write_list-overflow_add-side
write_list-overflow_add-side t c = omega (arith, count_small _ _ _ _ _ _ _ c.requires.ready_numbered c.checked_div2.ensures c.in-Some.is c.get.ensures c.held-n.ensures c.write_product-side.ensures.1 c.write_list-side.ensures, bound_small c.args.bound)

pub write_list-overflow_add-side-in-Some : goal.write_list-overflow_add-side-in-Some
write_list-overflow_add-side-in-Some t c = let g = c.well_formed in
    omega (arith, rest_small _ _ _ _ _ _ _ c.requires.ready_numbered c.checked_div2.ensures c.in-Some.is c.get.ensures c.held-n.ensures c.write_product-side.ensures.1 c.write_list-side.ensures)

pub write_list-returns-in-Some : goal.write_list-returns-in-Some
write_list-returns-in-Some t c = rest_placed _ _ _ _ _ _ _ c.requires.ready_numbered c.checked_div2.ensures c.in-Some.is c.get.ensures c.held-n.ensures c.write_product-side.ensures.1 c.write_list-side.ensures

pub write_product-pass-next-requires : goal.write_product-pass-next-requires
write_product-pass-next-requires t c = none_found _ _ _ _ _ _ _ _ c.requires.ready c.in-0.is

pub write_product-write_record-one-requires : goal.write_product-write_record-one-requires
write_product-write_record-one-requires t c = (omega arith, (one_given c.requires.given_parts c.in-1.is, one_ready _ _ _ _ _ _ _ _ c.requires.ready c.in-1.is))

pub write_product-after_part-requires : goal.write_product-after_part-requires
write_product-after_part-requires t c = stands_inside (one_given c.requires.given_parts c.in-1.is)

pub write_product-overflow_sub-others : goal.write_product-overflow_sub-others
write_product-overflow_sub-others t c = let s : Shares c.args.n c.btree_split_index-few.result = search sides in
    let l = s.less in omega arith

pub write_product-overflow_add-q : goal.write_product-overflow_add-q
write_product-overflow_add-q t c = let s : Shares c.args.n c.btree_split_index-few.result = search sides in
    parts_fit _ _ _ _ _ _ _ _ c.requires.ready s (search rules)

pub write_product-write_product-side-requires : goal.write_product-write_product-side-requires
write_product-write_product-side-requires t c = let s : Shares c.args.n c.btree_split_index-few.result = search sides in
    let l = s.less in
    (omega arith, (omega arith, (left_given s c.requires.given_parts, left_ready _ _ _ _ _ _ _ _ c.requires.ready s)))

pub write_product-slice_bounds-write_product-count : goal.write_product-slice_bounds-write_product-count
write_product-slice_bounds-write_product-count t c = let s : Shares c.args.n c.btree_split_index-few.result = search sides in
    left_fits _ _ _ _ _ _ _ _ c.requires.ready s c.write_product-side.ensures.1

pub write_product-slice_bounds-write_product-start : goal.write_product-slice_bounds-write_product-start
write_product-slice_bounds-write_product-start t c = let s : Shares c.args.n c.btree_split_index-few.result = search sides in
    left_fits _ _ _ _ _ _ _ _ c.requires.ready s c.write_product-side.ensures.1

pub write_product-write_product-side-requires-in_default : goal.write_product-write_product-side-requires-in_default
write_product-write_product-side-requires-in_default t c = let s : Shares c.args.n c.btree_split_index-few.result = search sides in
    let v = c.write_product-side.ensures in
    let l = s.less in
    let m = s.some in
    (omega arith, (omega arith, (right_given s c.requires.given_parts v.0, right_ready _ _ _ _ _ _ _ _ c.requires.ready s v.1 v.0)))

pub write_product-overflow_add-side : goal.write_product-overflow_add-side
write_product-overflow_add-side t c = let s : Shares c.args.n c.btree_split_index-few.result = search sides in
    let g = c.well_formed in
    let v = c.write_product-side.ensures in
    omega (arith, sides_small _ _ _ _ _ _ _ _ c.requires.ready s v.1 v.0 c.write_product-side-in_default.ensures.1)

pub write_product-returns-in_default : goal.write_product-returns-in_default
write_product-returns-in_default t c = let s : Shares c.args.n c.btree_split_index-few.result = search sides in
    let v = c.write_product-side.ensures in
    let u = c.write_product-side-in_default.ensures in
    (skip_sides s _ _ _ _ v.0 u.0, sides_placed _ _ _ _ _ _ _ _ c.requires.ready s v.1 v.0 u.1)

pub write_product-returns-in-0 : goal.write_product-returns-in-0
write_product-returns-in-0 t c = (skip_none _ _ _ _ _ c.in-0.is, none_placed _ _ _ _ _ _ _ _ c.requires.ready c.in-0.is c.pass-next.ensures)

pub write_product-returns-in-1 : goal.write_product-returns-in-1
write_product-returns-in-1 t c = let g = one_given c.requires.given_parts c.in-1.is in
    (c.after_part.ensures ∙ after_is _ g ∙ skip_one _ _ _ _ _ c.in-1.is, one_placed _ _ _ _ _ _ _ _ c.requires.ready c.in-1.is c.write_record-one.ensures)

pub write_record-bounds-shape-q : goal.write_record-bounds-shape-q
write_record-bounds-shape-q t c = let i = as_boolean c.requires.stands c.head-h.ensures.0 c.head-h.ensures.1 c.form.ensures c.in-Bit.is in
    let l = side_inside _ _ _ _ _ _ c.requires.ready i in
    omega arith

pub write_record-write_mark-requires : goal.write_record-write_mark-requires
write_record-write_mark-requires t c = let i = as_boolean c.requires.stands c.head-h.ensures.0 c.head-h.ensures.1 c.form.ensures c.in-Bit.is in
    record {
      in_bounds = bit_room _ _ _ _ _ _ c.requires.ready i;
      fair = (c.head-h.ensures.1, rw c.from.ensures (bit_marks _ _ _ _ _ _ c.requires.ready i c.head-h.result _ c.form.ensures c.in-Bit.is));
    }

pub write_record-overflow_add-result : goal.write_record-overflow_add-result
write_record-overflow_add-result t c = let i = as_boolean c.requires.stands c.head-h.ensures.0 c.head-h.ensures.1 c.form.ensures c.in-Bit.is in
    let l = side_inside _ _ _ _ _ _ c.requires.ready i in
    let g = c.well_formed in
    omega arith

pub write_record-write_mark-requires-in-Integer : goal.write_record-write_mark-requires-in-Integer
write_record-write_mark-requires-in-Integer t c = let i = as_integer c.requires.stands c.head-h.ensures.0 c.head-h.ensures.1 c.form.ensures c.in-Integer.is in
    record {
      in_bounds = integer_room _ _ _ _ _ _ c.requires.ready i;
      fair = (c.head-h.ensures.1, integer_marks _ _ _ _ _ _ c.requires.ready i c.head-h.result _ c.form.ensures c.in-Integer.is);
    }

pub write_record-slice_bounds-write_integer-end : goal.write_record-slice_bounds-write_integer-end
write_record-slice_bounds-write_integer-end t c = let i = as_integer c.requires.stands c.head-h.ensures.0 c.head-h.ensures.1 c.form.ensures c.in-Integer.is in
    let k = c.write_mark-in-Integer.auto in
    omega (arith, integer_room _ _ _ _ _ _ c.requires.ready i)

pub write_record-write_integer-requires : goal.write_record-write_integer-requires
write_record-write_integer-requires t c = let i = as_integer c.requires.stands c.head-h.ensures.0 c.head-h.ensures.1 c.form.ensures c.in-Integer.is in
    let k = c.write_mark-in-Integer.auto in
    record {
      le_w = (i.some_bits, i.few, lent_length c.write_mark-in-Integer.new.out (omega (arith, integer_room _ _ _ _ _ _ c.requires.ready i)));
      found = integer_found _ _ _ _ _ _ c.requires.ready i;
    }

pub write_record-slice_bounds-write_product-count : goal.write_record-slice_bounds-write_product-count
write_record-slice_bounds-write_product-count t c = let i = as_product c.requires.stands c.head-h.ensures.0 c.head-h.ensures.1 c.form.ensures c.in-Product.is in
    under_start (under _ _ _ _ _ _ _ c.requires.ready i.same)

pub write_record-slice_bounds-write_product-start : goal.write_record-slice_bounds-write_product-start
write_record-slice_bounds-write_product-start t c = let i = as_product c.requires.stands c.head-h.ensures.0 c.head-h.ensures.1 c.form.ensures c.in-Product.is in
    under_start (under _ _ _ _ _ _ _ c.requires.ready i.same)

pub write_record-write_product-requires : goal.write_record-write_product-requires
write_record-write_product-requires t c = let i = as_product c.requires.stands c.head-h.ensures.0 c.head-h.ensures.1 c.form.ensures c.in-Product.is in
    let l = level_some c.requires.stands in
    let m = i.few in
    (omega arith, (m, (i.given, under_ready (under _ _ _ _ _ _ _ c.requires.ready i.same))))

pub write_record-write_mark-requires-in-Product : goal.write_record-write_mark-requires-in-Product
write_record-write_mark-requires-in-Product t c = let i = as_product c.requires.stands c.head-h.ensures.0 c.head-h.ensures.1 c.form.ensures c.in-Product.is in
    record {
      in_bounds = under_back (under _ _ _ _ _ _ _ c.requires.ready i.same) c.write_product.ensures.1;
      fair = (c.head-h.ensures.1, i.marks);
    }

pub write_record-overflow_add-result-in-Product : goal.write_record-overflow_add-result-in-Product
write_record-overflow_add-result-in-Product t c = let i = as_product c.requires.stands c.head-h.ensures.0 c.head-h.ensures.1 c.form.ensures c.in-Product.is in
    let g = c.well_formed in
    omega (arith, under_small (under _ _ _ _ _ _ _ c.requires.ready i.same) c.write_product.ensures.1)

pub write_record-slice_bounds-write_sum-count : goal.write_record-slice_bounds-write_sum-count
write_record-slice_bounds-write_sum-count t c = let i = as_sum c.requires.stands c.head-h.ensures.0 c.head-h.ensures.1 c.form.ensures c.in-Sum.is in
    numbered_start (under_numbered _ _ _ _ _ _ _ c.requires.ready i.same)

pub write_record-slice_bounds-write_sum-start : goal.write_record-slice_bounds-write_sum-start
write_record-slice_bounds-write_sum-start t c = let i = as_sum c.requires.stands c.head-h.ensures.0 c.head-h.ensures.1 c.form.ensures c.in-Sum.is in
    numbered_start (under_numbered _ _ _ _ _ _ _ c.requires.ready i.same)

pub write_record-write_sum-i-requires : goal.write_record-write_sum-i-requires
write_record-write_sum-i-requires t c = let i = as_sum c.requires.stands c.head-h.ensures.0 c.head-h.ensures.1 c.form.ensures c.in-Sum.is in
    let l = level_some c.requires.stands in
    let m = i.few in
    (omega arith, ((i.some_choice, omega arith), (i.given, numbered_ready (under_numbered _ _ _ _ _ _ _ c.requires.ready i.same))))

pub write_record-write_mark-requires-in-Sum : goal.write_record-write_mark-requires-in-Sum
write_record-write_mark-requires-in-Sum t c = let i = as_sum c.requires.stands c.head-h.ensures.0 c.head-h.ensures.1 c.form.ensures c.in-Sum.is in
    let v = c.write_sum-i.ensures in
    let l = choice_below _ _ _ _ _ _ _ (under_numbered _ _ _ _ _ _ _ c.requires.ready i.same) i.some_choice v in
    record {
      in_bounds = numbered_back (under_numbered _ _ _ _ _ _ _ c.requires.ready i.same) v;
      fair = (c.head-h.ensures.1, i.marks _ l);
    }

pub write_record-overflow_add-result-in-Sum : goal.write_record-overflow_add-result-in-Sum
write_record-overflow_add-result-in-Sum t c = let i = as_sum c.requires.stands c.head-h.ensures.0 c.head-h.ensures.1 c.form.ensures c.in-Sum.is in
    let g = c.well_formed in
    omega (arith, numbered_small (under_numbered _ _ _ _ _ _ _ c.requires.ready i.same) c.write_sum-i.ensures)

pub write_record-slice_bounds-write_list-count : goal.write_record-slice_bounds-write_list-count
write_record-slice_bounds-write_list-count t c = let i = as_list c.requires.stands c.head-h.ensures.0 c.head-h.ensures.1 c.form.ensures c.in-List.is in
    numbered_start (under_numbered _ _ _ _ _ _ _ c.requires.ready i.same)

pub write_record-slice_bounds-write_list-start : goal.write_record-slice_bounds-write_list-start
write_record-slice_bounds-write_list-start t c = let i = as_list c.requires.stands c.head-h.ensures.0 c.head-h.ensures.1 c.form.ensures c.in-List.is in
    numbered_start (under_numbered _ _ _ _ _ _ _ c.requires.ready i.same)

pub write_record-write_list-n-requires : goal.write_record-write_list-n-requires
write_record-write_list-n-requires t c = let i = as_list c.requires.stands c.head-h.ensures.0 c.head-h.ensures.1 c.form.ensures c.in-List.is in
    let l = level_some c.requires.stands in
    let m = bound_small c.in-List.bound in
    (omega arith, (i.given, numbered_ready (under_numbered _ _ _ _ _ _ _ c.requires.ready i.same)))

pub write_record-write_mark-requires-in-List : goal.write_record-write_mark-requires-in-List
write_record-write_mark-requires-in-List t c = let i = as_list c.requires.stands c.head-h.ensures.0 c.head-h.ensures.1 c.form.ensures c.in-List.is in
    let v = c.write_list-n.ensures in
    let l = count_below _ _ _ _ _ _ (under_numbered _ _ _ _ _ _ _ c.requires.ready i.same) v in
    record {
      in_bounds = numbered_back (under_numbered _ _ _ _ _ _ _ c.requires.ready i.same) v;
      fair = (c.head-h.ensures.1, i.marks _ l);
    }

pub write_record-overflow_add-result-in-List : goal.write_record-overflow_add-result-in-List
write_record-overflow_add-result-in-List t c = let i = as_list c.requires.stands c.head-h.ensures.0 c.head-h.ensures.1 c.form.ensures c.in-List.is in
    let g = c.well_formed in
    omega (arith, numbered_small (under_numbered _ _ _ _ _ _ _ c.requires.ready i.same) c.write_list-n.ensures)

pub write_record-write_product-requires-in-Payload : goal.write_record-write_product-requires-in-Payload
write_record-write_product-requires-in-Payload t c = let i = as_payload c.requires.stands c.head-h.ensures.0 c.head-h.ensures.1 c.form.ensures c.in-Payload.is in
    let l = level_some c.requires.stands in
    let m = i.few in
    (omega arith, (m, (i.given, ready_as (payload_is _ _ _ _ _ _ c.requires.ready i) c.requires.ready)))

pub write_record-returns-in-Nothing : goal.write_record-returns-in-Nothing
write_record-returns-in-Nothing t c = absurd (nothing_there _ _ _ _ _ _ c.requires.ready (as_nothing c.requires.stands c.head-h.ensures.0 c.head-h.ensures.1 c.form.ensures c.in-Nothing.is))

pub write_record-returns-in-Bit : goal.write_record-returns-in-Bit
write_record-returns-in-Bit t c = let i = as_boolean c.requires.stands c.head-h.ensures.0 c.head-h.ensures.1 c.form.ensures c.in-Bit.is in
    bit_done _ _ _ _ _ _ c.requires.ready i c.head-h.result _ c.form.ensures c.in-Bit.is (c.write_mark.ensures ∙ ap (λ i. put (bytes (mark_of c.head-h.result i)) c.args.out.now) c.from.ensures)

pub write_record-returns-in-Integer : goal.write_record-returns-in-Integer
write_record-returns-in-Integer t c = let i = as_integer c.requires.stands c.head-h.ensures.0 c.head-h.ensures.1 c.form.ensures c.in-Integer.is in
    integer_done _ _ _ _ _ _ c.requires.ready i c.head-h.result _ c.form.ensures c.in-Integer.is c.write_mark-in-Integer.ensures c.write_integer.ensures

pub write_record-returns-in-Product : goal.write_record-returns-in-Product
write_record-returns-in-Product t c = let i = as_product c.requires.stands c.head-h.ensures.0 c.head-h.ensures.1 c.form.ensures c.in-Product.is in
    under_placed (under _ _ _ _ _ _ _ c.requires.ready i.same) c.write_product.ensures.1 c.write_mark-in-Product.ensures

pub write_record-returns-in-Sum : goal.write_record-returns-in-Sum
write_record-returns-in-Sum t c = let i = as_sum c.requires.stands c.head-h.ensures.0 c.head-h.ensures.1 c.form.ensures c.in-Sum.is in
    numbered_placed (under_numbered _ _ _ _ _ _ _ c.requires.ready i.same) c.write_sum-i.ensures c.write_mark-in-Sum.ensures

pub write_record-returns-in-List : goal.write_record-returns-in-List
write_record-returns-in-List t c = let i = as_list c.requires.stands c.head-h.ensures.0 c.head-h.ensures.1 c.form.ensures c.in-List.is in
    numbered_placed (under_numbered _ _ _ _ _ _ _ c.requires.ready i.same) c.write_list-n.ensures c.write_mark-in-List.ensures

pub write_record-returns-in-Payload : goal.write_record-returns-in-Payload
write_record-returns-in-Payload t c = let i = as_payload c.requires.stands c.head-h.ensures.0 c.head-h.ensures.1 c.form.ensures c.in-Payload.is in
    placed_as (payload_is _ _ _ _ _ _ c.requires.ready i) c.write_product-in-Payload.ensures.1

pub write_record-overflow_add-at : goal.write_record-overflow_add-at
write_record-overflow_add-at t c = search levels

pub write_record-overflow_sub-level : goal.write_record-overflow_sub-level
write_record-overflow_sub-level t c = search levels

pub write_record-overflow_add-at-in-Sum : goal.write_record-overflow_add-at-in-Sum
write_record-overflow_add-at-in-Sum t c = search levels

pub write_record-overflow_sub-level-in-Sum : goal.write_record-overflow_sub-level-in-Sum
write_record-overflow_sub-level-in-Sum t c = search levels

pub write_record-overflow_add-at-in-List : goal.write_record-overflow_add-at-in-List
write_record-overflow_add-at-in-List t c = search levels

pub write_record-overflow_sub-level-in-List : goal.write_record-overflow_sub-level-in-List
write_record-overflow_sub-level-in-List t c = search levels

pub write_record-overflow_add-at-in-Payload : goal.write_record-overflow_add-at-in-Payload
write_record-overflow_add-at-in-Payload t c = search levels

pub write_record-overflow_sub-level-in-Payload : goal.write_record-overflow_sub-level-in-Payload
write_record-overflow_sub-level-in-Payload t c = search levels

-- the sides of a sum's choices, where there is more than one
choices : {n few : ℕ} → few ≡ btree_split_index n → 1 ≤ n → (n ≡ 1 → ⊥) → Shares n few
choices e l m = shares e (omega arith)

pub write_sum-write_record-requires : goal.write_sum-write_record-requires
write_sum-write_record-requires t c = (omega arith, (one_given c.requires.given_parts c.if-n-eq1.true, only_ready _ _ _ _ _ _ _ _ c.requires.ready_numbered c.if-n-eq1.true))

pub write_sum-returns-then-n-eq1 : goal.write_sum-returns-then-n-eq1
write_sum-returns-then-n-eq1 t c = only_placed _ _ _ _ _ _ _ _ c.requires.ready_numbered _ c.if-n-eq1.true c.write_record.ensures

pub write_sum-bounds-shape-q : goal.write_sum-bounds-shape-q
write_sum-bounds-shape-q t c = let s = choices c.btree_split_index-few.ensures c.requires.le_n.0 c.if-n-eq1.false in
    choice_inside _ _ _ _ _ _ _ _ c.requires.ready_numbered s

pub write_sum-overflow_add-q : goal.write_sum-overflow_add-q
write_sum-overflow_add-q t c = let s = choices c.btree_split_index-few.ensures c.requires.le_n.0 c.if-n-eq1.false in
    choice_fits _ _ _ _ _ _ _ _ c.requires.ready_numbered s (search rules)

pub write_sum-write_sum-requires : goal.write_sum-write_sum-requires
write_sum-write_sum-requires t c = let s = choices c.btree_split_index-few.ensures c.requires.le_n.0 c.if-n-eq1.false in
    let l = s.less in
    (omega arith, ((s.some, omega arith), (left_given s c.requires.given_parts, first_ready _ _ _ _ _ _ _ _ c.requires.ready_numbered s c.if-shape-q-eq-LEFT.true)))

pub write_sum-returns-then-shape-q-eq-LEFT : goal.write_sum-returns-then-shape-q-eq-LEFT
write_sum-returns-then-shape-q-eq-LEFT t c = let s = choices c.btree_split_index-few.ensures c.requires.le_n.0 c.if-n-eq1.false in
    first_placed _ _ _ _ _ _ _ _ c.requires.ready_numbered s c.if-shape-q-eq-LEFT.true c.write_sum.ensures

pub write_sum-overflow_sub-others : goal.write_sum-overflow_sub-others
write_sum-overflow_sub-others t c = let s = choices c.btree_split_index-few.ensures c.requires.le_n.0 c.if-n-eq1.false in
    let l = s.less in omega arith

pub write_sum-hop-requires : goal.write_sum-hop-requires
write_sum-hop-requires t c = let s = choices c.btree_split_index-few.ensures c.requires.le_n.0 c.if-n-eq1.false in
    given_hops c.requires.given_parts s

pub write_sum-overflow_add-i : goal.write_sum-overflow_add-i
write_sum-overflow_add-i t c = let s = choices c.btree_split_index-few.ensures c.requires.le_n.0 c.if-n-eq1.false in
    let l = s.less in omega arith

pub write_sum-overflow_add-q-2 : goal.write_sum-overflow_add-q-2
write_sum-overflow_add-q-2 t c = let s = choices c.btree_split_index-few.ensures c.requires.le_n.0 c.if-n-eq1.false in
    choice_fits _ _ _ _ _ _ _ _ c.requires.ready_numbered s (search rules)

pub write_sum-write_sum-requires-2 : goal.write_sum-write_sum-requires-2
write_sum-write_sum-requires-2 t c = let s = choices c.btree_split_index-few.ensures c.requires.le_n.0 c.if-n-eq1.false in
    let l = s.less in
    let m = s.some in
    (omega arith, ((omega arith, omega arith), (hopped_given c.requires.given_parts s c.hop.ensures, others_ready _ _ _ _ _ _ _ _ c.requires.ready_numbered s c.if-shape-q-eq-LEFT.false c.hop.ensures)))

pub write_sum-returns : goal.write_sum-returns
write_sum-returns t c = let s = choices c.btree_split_index-few.ensures c.requires.le_n.0 c.if-n-eq1.false in
    others_placed _ _ _ _ _ _ _ _ c.requires.ready_numbered s c.if-shape-q-eq-LEFT.false c.hop.ensures c.write_sum-2.ensures
