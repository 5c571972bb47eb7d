use mathlib.Core.Path.{refl, sym, ◌∙◌}
use Prim.Native.Nat.{◌≤◌}
use borrow.Author.Rules.{rules}
use Rattle.model.proofs.Laws.Balanced.{shares_else}
use Rattle.structural.proofs.Laws.Trees.{given_one}
use Rattle.structural.proofs.Laws.Forms.{level_some, next_fits}
use Rattle.structural.proofs.Laws.Parts.{as_tree, as_list, part_given, part_inside, one_given, left_given, right_given}
use Rattle.room.specs.Laws.{element_small, element_short, list_counted, tree_small, tree_counted, bit_counted, copy_counted, part_small, row_counted, none_counted, one_small, one_counted, same_small, same_short, same_counted, left_small, right_small, left_short, right_short, sides_counted}
use native.Mathlib.Omega.{arith}
use Rattle.room.proofs.+longest_part_longest_record_longest_tree.Goals as goal

ruleset steps = (level_some, next_fits, part_given, part_inside, one_given, bit_counted, copy_counted, row_counted, part_small, none_counted, one_small, one_counted, rules)

pub longest_part-longest_record-requires : goal.longest_part-longest_record-requires
longest_part-longest_record-requires t c = search steps

pub longest_part-end-requires : goal.longest_part-end-requires
longest_part-end-requires t c = search steps

pub longest_part-longest_record-requires-in-Types : goal.longest_part-longest_record-requires-in-Types
longest_part-longest_record-requires-in-Types t c = search steps

pub longest_part-returns-in-Bits : goal.longest_part-returns-in-Bits
longest_part-returns-in-Bits t c = search steps

pub longest_part-returns-in-Copies : goal.longest_part-returns-in-Copies
longest_part-returns-in-Copies t c = search steps

pub longest_part-returns-in-Types : goal.longest_part-returns-in-Types
longest_part-returns-in-Types t c = search steps

pub longest_record-longest_tree-requires : goal.longest_record-longest_tree-requires
longest_record-longest_tree-requires t c =
    let i = as_tree c.requires.stands _ _ c.in-Tree.parts c.in-Tree.n c.head.ensures.0 c.head.ensures.1 c.form_of.ensures c.in-Tree.is in
    let l = level_some c.requires.stands in
    let few = i.few in
    (omega arith, (i.few, (i.given, tree_small i c.requires.small)))

pub longest_record-longest_record-most-requires : goal.longest_record-longest_record-most-requires
longest_record-longest_record-most-requires t c =
    let i = as_list c.requires.stands _ _ c.in-List.bound c.head.ensures.0 c.head.ensures.1 c.form_of.ensures c.in-List.is in
    let l = level_some c.requires.stands in
    (omega arith, (i.given, element_small i c.requires.small))

pub longest_record-longest_list-requires : goal.longest_record-longest_list-requires
longest_record-longest_list-requires t c =
    let i = as_list c.requires.stands _ _ c.in-List.bound c.head.ensures.0 c.head.ensures.1 c.form_of.ensures c.in-List.is in
    element_short i _ c.requires.small c.longest_record-most.ensures

pub longest_record-returns-in-Tree : goal.longest_record-returns-in-Tree
longest_record-returns-in-Tree t c =
    let i = as_tree c.requires.stands _ _ c.in-Tree.parts c.in-Tree.n c.head.ensures.0 c.head.ensures.1 c.form_of.ensures c.in-Tree.is in
    tree_counted i c.longest_tree.ensures

pub longest_record-returns-in-List : goal.longest_record-returns-in-List
longest_record-returns-in-List t c =
    let i = as_list c.requires.stands _ _ c.in-List.bound c.head.ensures.0 c.head.ensures.1 c.form_of.ensures c.in-List.is in
    list_counted i _ _ c.longest_record-most.ensures c.longest_list.ensures

pub longest_record-overflow_add-at : goal.longest_record-overflow_add-at
longest_record-overflow_add-at t c = search steps

pub longest_record-overflow_sub-level : goal.longest_record-overflow_sub-level
longest_record-overflow_sub-level t c = search steps

pub longest_record-overflow_add-at-in-List : goal.longest_record-overflow_add-at-in-List
longest_record-overflow_add-at-in-List t c = search steps

pub longest_record-overflow_sub-level-in-List : goal.longest_record-overflow_sub-level-in-List
longest_record-overflow_sub-level-in-List t c = search steps

pub longest_tree-longest_part-one-requires : goal.longest_tree-longest_part-one-requires
longest_tree-longest_part-one-requires t c =
    let z = c.if-n-eq0.false in
    let some : 1 ≤ c.args.n = omega arith in
    let same = sym c.are_same.ensures ∙ c.if-are_same.true in
    (omega arith, (given_one c.requires.given_parts some, same_small _ _ _ _ _ same some c.requires.small))

pub longest_tree-longest_same-requires : goal.longest_tree-longest_same-requires
longest_tree-longest_same-requires t c =
    let z = c.if-n-eq0.false in
    let some : 1 ≤ c.args.n = omega arith in
    let same = sym c.are_same.ensures ∙ c.if-are_same.true in
    (some, c.requires.n_le_most_parts, same_short _ _ _ _ _ same _ some c.requires.small c.longest_part-one.ensures.most)

pub longest_tree-returns-then-are_same : goal.longest_tree-returns-then-are_same
longest_tree-returns-then-are_same t c =
    let z = c.if-n-eq0.false in
    let some : 1 ≤ c.args.n = omega arith in
    let same = sym c.are_same.ensures ∙ c.if-are_same.true in
    same_counted _ _ _ _ _ same _ _ some c.longest_part-one.ensures.most c.longest_same.ensures

pub longest_tree-longest_tree-left-requires : goal.longest_tree-longest_tree-left-requires
longest_tree-longest_tree-left-requires t c =
    let l = shares_else c.btree_split_index-few.ensures c.if-n-eq0.false c.if-n-eq1.false in
    (omega arith, (omega arith, (left_given l c.requires.given_parts, left_small _ _ _ _ _ _ _ c.btree_split_index-few.ensures c.if-n-eq0.false c.if-n-eq1.false refl c.requires.small)))

pub longest_tree-overflow_sub-n : goal.longest_tree-overflow_sub-n
longest_tree-overflow_sub-n t c =
    let l = shares_else c.btree_split_index-few.ensures c.if-n-eq0.false c.if-n-eq1.false in omega arith

pub longest_tree-longest_tree-right-requires : goal.longest_tree-longest_tree-right-requires
longest_tree-longest_tree-right-requires t c =
    let l = shares_else c.btree_split_index-few.ensures c.if-n-eq0.false c.if-n-eq1.false in
    (omega arith, (omega arith, (right_given l c.requires.given_parts c.longest_tree-left.ensures.next, right_small _ _ _ _ _ _ _ c.btree_split_index-few.ensures c.if-n-eq0.false c.if-n-eq1.false c.longest_tree-left.ensures.next c.requires.small)))

pub longest_tree-longest_joint-requires : goal.longest_tree-longest_joint-requires
longest_tree-longest_joint-requires t c =
    (left_short _ _ _ _ _ _ _ c.btree_split_index-few.ensures c.if-n-eq0.false c.if-n-eq1.false refl _ c.requires.small c.longest_tree-left.ensures.most, right_short _ _ _ _ _ _ _ c.btree_split_index-few.ensures c.if-n-eq0.false c.if-n-eq1.false c.longest_tree-left.ensures.next _ c.requires.small c.longest_tree-right.ensures.most)

pub longest_tree-returns : goal.longest_tree-returns
longest_tree-returns t c =
    let l = shares_else c.btree_split_index-few.ensures c.if-n-eq0.false c.if-n-eq1.false in
    sides_counted _ _ _ _ _ _ _ c.btree_split_index-few.ensures c.if-n-eq0.false c.if-n-eq1.false c.longest_tree-left.ensures.next l _ _ c.longest_tree-left.ensures.most c.longest_tree-right.ensures c.longest_joint.ensures

pub longest_tree-returns-then-n-eq0 : goal.longest_tree-returns-then-n-eq0
longest_tree-returns-then-n-eq0 t c = search steps

pub longest_tree-longest_part-requires : goal.longest_tree-longest_part-requires
longest_tree-longest_part-requires t c = search steps

pub longest_tree-returns-then-n-eq1 : goal.longest_tree-returns-then-n-eq1
longest_tree-returns-then-n-eq1 t c = search steps
