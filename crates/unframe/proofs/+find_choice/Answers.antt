use mathlib.Core.Path.{sym, ◌∙◌}
use Prim.Native.Nat.{◌+◌, ◌-◌}
use native.Mathlib.Omega.{arith}
use Rattle.types.specs.Entries.{ends}
use Rattle.accept.specs.Laws.Sums.{shares_some, choice_less}
use Rattle.unframe.specs.Laws.Tags.{left_hops, right_hops, higher, chosen_only, chosen_left, chosen_right}
use Rattle.unframe.proofs.+find_choice.Goals as goal

pub returns-then-n-eq1 : goal.returns-then-n-eq1
returns-then-n-eq1 t c = let a = c.args in chosen_only (ends a.table.now.entries.now) a.at a.n a.frame.now a.bit c.if-n-eq1.true

pub bit_at-requires : goal.bit_at-requires
bit_at-requires t c =
    let s = shares_some c.btree_split_index-few.ensures c.requires.le_n.0 c.if-n-eq1.false in
    let e = higher s in omega arith

pub overflow_sub-others : goal.overflow_sub-others
overflow_sub-others t c =
    let s = shares_some c.btree_split_index-few.ensures c.requires.le_n.0 c.if-n-eq1.false in
    let l = s.less in omega arith

pub hop-requires : goal.hop-requires
hop-requires t c =
    let s = shares_some c.btree_split_index-few.ensures c.requires.le_n.0 c.if-n-eq1.false in
    left_hops s c.requires.hops

pub overflow_add-bit : goal.overflow_add-bit
overflow_add-bit t c =
    let s = shares_some c.btree_split_index-few.ensures c.requires.le_n.0 c.if-n-eq1.false in
    let e = higher s in omega arith

pub find_choice-other-requires : goal.find_choice-other-requires
find_choice-other-requires t c =
    let s = shares_some c.btree_split_index-few.ensures c.requires.le_n.0 c.if-n-eq1.false in
    let l = s.some in
    let m = s.less in
    let e = higher s in
    (omega arith, ((omega arith, omega arith), (right_hops s c.requires.hops c.hop.ensures, (omega arith, omega arith))))

pub overflow_add-result : goal.overflow_add-result
overflow_add-result t c =
    let s = shares_some c.btree_split_index-few.ensures c.requires.le_n.0 c.if-n-eq1.false in
    let l = s.less in
    let a = c.args in
    let e = c.find_choice-other.ensures.number in
    let m = choice_less (a.n - c.btree_split_index-few.result) a.frame.now (a.bit + 1) (omega arith) in
    omega arith

pub returns-then-bit_at : goal.returns-then-bit_at
returns-then-bit_at t c =
    let s = shares_some c.btree_split_index-few.ensures c.requires.le_n.0 c.if-n-eq1.false in
    let a = c.args in
    chosen_right (ends a.table.now.entries.now) a.at a.n a.frame.now a.bit s (sym c.bit_at.ensures ∙ c.if-bit_at.true) c.hop.ensures c.find_choice-other.ensures

pub overflow_add-bit-2 : goal.overflow_add-bit-2
overflow_add-bit-2 t c =
    let s = shares_some c.btree_split_index-few.ensures c.requires.le_n.0 c.if-n-eq1.false in
    let e = higher s in omega arith

pub find_choice-requires : goal.find_choice-requires
find_choice-requires t c =
    let s = shares_some c.btree_split_index-few.ensures c.requires.le_n.0 c.if-n-eq1.false in
    let l = s.some in
    let m = s.less in
    let e = higher s in
    (omega arith, ((omega arith, omega arith), (left_hops s c.requires.hops, (omega arith, omega arith))))

pub returns : goal.returns
returns t c =
    let s = shares_some c.btree_split_index-few.ensures c.requires.le_n.0 c.if-n-eq1.false in
    let a = c.args in
    chosen_left (ends a.table.now.entries.now) a.at a.n a.frame.now a.bit s (sym c.bit_at.ensures ∙ c.if-bit_at.false) c.find_choice.ensures
