use native.Mathlib.Omega.{arith}
use Rattle.model.proofs.Laws.Balanced.{shares}
use Rattle.shape.specs.Laws.Writing.{ready_as, ready_some, placed_as, placed_length, pair_start, left_ready, pair_small, pair_fits, right_ready, pair_total, pair_done}
use Rattle.shape_clean.proofs.Steps.{bits_only, bits_inside, bits_split}
use Rattle.shape_clean.proofs.+copy_bits.Goals as goal

pub copy_bit-requires : goal.copy_bit-requires
copy_bit-requires t c = ready_as (bits_only _ _ _ c.if-n-eq1.true) c.requires.ready

pub shape_of-out-then-n-eq1 : goal.shape_of-out-then-n-eq1
shape_of-out-then-n-eq1 t c = placed_length c.requires.ready (placed_as (bits_only _ _ _ c.if-n-eq1.true) c.copy_bit.ensures)

pub returns-then-n-eq1 : goal.returns-then-n-eq1
returns-then-n-eq1 t c = placed_as (bits_only _ _ _ c.if-n-eq1.true) c.copy_bit.ensures

pub bounds-out-0 : goal.bounds-out-0
bounds-out-0 t c = ready_some c.requires.ready

pub btree_split_index-few-requires : goal.btree_split_index-few-requires
btree_split_index-few-requires t c = (omega arith, omega arith)

pub overflow_add-p : goal.overflow_add-p
overflow_add-p t c =
    let i = bits_inside _ _ _ _ c.btree_split_index-few.ensures (omega arith) c.requires.ready in omega arith

pub slice_bounds-copy_bits-count : goal.slice_bounds-copy_bits-count
slice_bounds-copy_bits-count t c =
    let fork = bits_split _ _ _ _ c.btree_split_index-few.ensures (omega arith) c.requires.ready in
    pair_start fork

pub slice_bounds-copy_bits-start : goal.slice_bounds-copy_bits-start
slice_bounds-copy_bits-start t c =
    let fork = bits_split _ _ _ _ c.btree_split_index-few.ensures (omega arith) c.requires.ready in
    pair_start fork

pub copy_bits-left-requires : goal.copy_bits-left-requires
copy_bits-left-requires t c =
    let fork = bits_split _ _ _ _ c.btree_split_index-few.ensures (omega arith) c.requires.ready in
    let share = shares c.btree_split_index-few.ensures (omega arith) in
    let some = share.some in
    let less = share.less in
    (omega arith, ((omega arith, omega arith), left_ready fork))

pub overflow_add-k : goal.overflow_add-k
overflow_add-k t c =
    let fork = bits_split _ _ _ _ c.btree_split_index-few.ensures (omega arith) c.requires.ready in
    let l = pair_small fork c.copy_bits-left.ensures in omega arith

pub overflow_sub-n : goal.overflow_sub-n
overflow_sub-n t c =
    let share = shares c.btree_split_index-few.ensures (omega arith) in
    let some = share.some in
    let less = share.less in
    omega arith

pub slice_bounds-copy_bits-count-2 : goal.slice_bounds-copy_bits-count-2
slice_bounds-copy_bits-count-2 t c =
    let fork = bits_split _ _ _ _ c.btree_split_index-few.ensures (omega arith) c.requires.ready in
    pair_fits fork c.copy_bits-left.ensures

pub slice_bounds-copy_bits-start-2 : goal.slice_bounds-copy_bits-start-2
slice_bounds-copy_bits-start-2 t c =
    let fork = bits_split _ _ _ _ c.btree_split_index-few.ensures (omega arith) c.requires.ready in
    pair_fits fork c.copy_bits-left.ensures

pub copy_bits-right-requires : goal.copy_bits-right-requires
copy_bits-right-requires t c =
    let fork = bits_split _ _ _ _ c.btree_split_index-few.ensures (omega arith) c.requires.ready in
    let share = shares c.btree_split_index-few.ensures (omega arith) in
    let some = share.some in
    let less = share.less in
    (omega arith, ((omega arith, omega arith), right_ready fork c.copy_bits-left.ensures))

pub overflow_add-result : goal.overflow_add-result
overflow_add-result t c =
    let fork = bits_split _ _ _ _ c.btree_split_index-few.ensures (omega arith) c.requires.ready in
    let l = pair_total fork c.copy_bits-left.ensures c.copy_bits-right.ensures in omega arith

pub shape_of-out : goal.shape_of-out
shape_of-out t c =
    let fork = bits_split _ _ _ _ c.btree_split_index-few.ensures (omega arith) c.requires.ready in
    placed_length c.requires.ready (pair_done fork c.copy_bits-left.ensures c.copy_bits-right.ensures)

pub returns : goal.returns
returns t c =
    let fork = bits_split _ _ _ _ c.btree_split_index-few.ensures (omega arith) c.requires.ready in
    pair_done fork c.copy_bits-left.ensures c.copy_bits-right.ensures
