use native.Mathlib.Omega.{arith}
use borrow.Author.Rules.{rules}
use Rattle.structural.proofs.Laws.Writing.{wrote_length, fork_start, left_room, left_small, left_fits, right_room, fork_done, fork_small}
use Rattle.shape.specs.Laws.Writing.{room_some}
use Rattle.shape.specs.Laws.Bits.{one_second, one_wrote, few_less, few_there, others_there, bits_fork}
use Rattle.shape.proofs.+write_bits.Goals as goal

pub bounds-out-1 : goal.bounds-out-1
bounds-out-1 t c = one_second c.requires.bits_there _ c.requires.room c.if-n-eq1.true _

pub bounds-out-0-2 : goal.bounds-out-0-2
bounds-out-0-2 t c = search (room_some, rules)

pub bounds-out-0 : goal.bounds-out-0
bounds-out-0 t c = search (room_some, rules)

pub btree_split_index-few-requires : goal.btree_split_index-few-requires
btree_split_index-few-requires t c = let o = c.if-n-eq1.false in (omega arith, omega arith)

pub overflow_add-k : goal.overflow_add-k
overflow_add-k t c =
    let fork = bits_fork c.requires.bits_there c.btree_split_index-few.ensures c.if-n-eq1.false c.args.out.now c.requires.room in
    omega (arith, left_small fork c.write_bits-k.ensures)

pub overflow_add-j : goal.overflow_add-j
overflow_add-j t c =
    let l = few_less c.requires.bits_there c.btree_split_index-few.ensures c.if-n-eq1.false in omega arith

pub overflow_add-result : goal.overflow_add-result
overflow_add-result t c =
    let fork = bits_fork c.requires.bits_there c.btree_split_index-few.ensures c.if-n-eq1.false c.args.out.now c.requires.room in
    omega (arith, fork_small fork c.write_bits-k.ensures c.write_bits.ensures)

pub overflow_sub-others : goal.overflow_sub-others
overflow_sub-others t c =
    let l = few_less c.requires.bits_there c.btree_split_index-few.ensures c.if-n-eq1.false in omega arith

pub returns-then-n-eq1 : goal.returns-then-n-eq1
returns-then-n-eq1 t c = one_wrote c.requires.bits_there _ c.requires.room c.if-n-eq1.true _ c.tag.ensures

pub returns : goal.returns
returns t c =
    let fork = bits_fork c.requires.bits_there c.btree_split_index-few.ensures c.if-n-eq1.false c.args.out.now c.requires.room in
    fork_done fork c.write_bits-k.ensures c.write_bits.ensures

pub shape_of-out-then-n-eq1 : goal.shape_of-out-then-n-eq1
shape_of-out-then-n-eq1 t c = wrote_length (one_wrote c.requires.bits_there _ c.requires.room c.if-n-eq1.true _ c.tag.ensures) c.requires.room

pub shape_of-out : goal.shape_of-out
shape_of-out t c =
    let fork = bits_fork c.requires.bits_there c.btree_split_index-few.ensures c.if-n-eq1.false c.args.out.now c.requires.room in
    wrote_length (fork_done fork c.write_bits-k.ensures c.write_bits.ensures) c.requires.room

pub slice_bounds-write_bits-count : goal.slice_bounds-write_bits-count
slice_bounds-write_bits-count t c =
    let fork = bits_fork c.requires.bits_there c.btree_split_index-few.ensures c.if-n-eq1.false c.args.out.now c.requires.room in
    fork_start fork

pub slice_bounds-write_bits-start : goal.slice_bounds-write_bits-start
slice_bounds-write_bits-start t c =
    let fork = bits_fork c.requires.bits_there c.btree_split_index-few.ensures c.if-n-eq1.false c.args.out.now c.requires.room in
    fork_start fork

pub slice_bounds-write_bits-count-2 : goal.slice_bounds-write_bits-count-2
slice_bounds-write_bits-count-2 t c =
    let fork = bits_fork c.requires.bits_there c.btree_split_index-few.ensures c.if-n-eq1.false c.args.out.now c.requires.room in
    left_fits fork c.write_bits-k.ensures

pub slice_bounds-write_bits-start-2 : goal.slice_bounds-write_bits-start-2
slice_bounds-write_bits-start-2 t c =
    let fork = bits_fork c.requires.bits_there c.btree_split_index-few.ensures c.if-n-eq1.false c.args.out.now c.requires.room in
    left_fits fork c.write_bits-k.ensures

pub write_bits-k-requires : goal.write_bits-k-requires
write_bits-k-requires t c =
    let fork = bits_fork c.requires.bits_there c.btree_split_index-few.ensures c.if-n-eq1.false c.args.out.now c.requires.room in
    let there = few_there c.requires.bits_there c.btree_split_index-few.ensures c.if-n-eq1.false in
    let l = few_less c.requires.bits_there c.btree_split_index-few.ensures c.if-n-eq1.false in (omega arith, (there, left_room fork))

pub write_bits-requires : goal.write_bits-requires
write_bits-requires t c =
    let fork = bits_fork c.requires.bits_there c.btree_split_index-few.ensures c.if-n-eq1.false c.args.out.now c.requires.room in
    let there = others_there c.requires.bits_there c.btree_split_index-few.ensures c.if-n-eq1.false in
    let some = few_there c.requires.bits_there c.btree_split_index-few.ensures c.if-n-eq1.false in
    let l = few_less c.requires.bits_there c.btree_split_index-few.ensures c.if-n-eq1.false in
    let b = some.some_bits in
    (omega arith, (there, right_room fork c.write_bits-k.ensures))
