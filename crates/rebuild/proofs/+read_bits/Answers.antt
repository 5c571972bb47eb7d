use native.Mathlib.Omega.{arith}
use borrow.Author.Rules.{rules}
use Rattle.model.proofs.Laws.Balanced.{shares_else}
use Rattle.rebuild.specs.Laws.Few.{few_bits}
use Rattle.rebuild.proofs.Steps.{bits_only, bits_no, bits_stop, bits_on}
use Rattle.rebuild.proofs.+read_bits.Goals as goal

pub returns-then-n-eq1 : goal.returns-then-n-eq1
returns-then-n-eq1 t c = search (bits_only, rules)

pub returns-then-record_at-ne-PAIR : goal.returns-then-record_at-ne-PAIR
returns-then-record_at-ne-PAIR t c = bits_no _ _ _ _ c.record_at.ensures c.requires.le_n.0 c.if-n-eq1.false c.if-record_at-ne-PAIR.true

pub btree_split_index-few-requires : goal.btree_split_index-few-requires
btree_split_index-few-requires t c = (omega arith, omega arith)

pub read_bits-requires : goal.read_bits-requires
read_bits-requires t c =
    let l = shares_else c.btree_split_index-few.ensures (λ e. omega arith) c.if-n-eq1.false in
    let m = l.some in
    let o = l.less in
    (omega arith, ((omega arith, omega arith), c.requires.shape_len_bound))

pub returns-in_err-left : goal.returns-in_err-left
returns-in_err-left t c = rw c.from_residual.ensures (bits_stop _ _ _ _ c.record_at.ensures c.requires.le_n.0 c.if-n-eq1.false _ c.btree_split_index-few.ensures c.if-record_at-ne-PAIR.false c.in_err-left.ensures)

pub overflow_sub-n : goal.overflow_sub-n
overflow_sub-n t c = let l = shares_else c.btree_split_index-few.ensures (λ e. omega arith) c.if-n-eq1.false in let m = l.less in omega arith

pub read_bits-rest-requires : goal.read_bits-rest-requires
read_bits-rest-requires t c =
    let l = shares_else c.btree_split_index-few.ensures (λ e. omega arith) c.if-n-eq1.false in
    let m = l.some in
    let o = l.less in
    (omega arith, ((omega arith, omega arith), c.requires.shape_len_bound))

pub plus-requires : goal.plus-requires
plus-requires t c =
    let f = few_bits _ _ _ _ c.requires.shape_len_bound c.in_ok-left.ensures in
    record { n_le_most_records = (omega arith, omega arith); few = few_bits _ _ _ _ c.requires.shape_len_bound c.read_bits-rest.ensures }

pub returns : goal.returns
returns t c = bits_on _ _ _ _ c.record_at.ensures c.requires.le_n.0 c.if-n-eq1.false _ c.btree_split_index-few.ensures c.if-record_at-ne-PAIR.false _ c.in_ok-left.ensures _ _ c.read_bits-rest.ensures c.plus.ensures
