use mathlib.Core.Bool.{false, true}
use Prim.Native.Nat.{ℕ, ◌-◌}
use native.Mathlib.Omega.{arith}
use borrow.Author.Rules.{rules}
use Rattle.frame.proofs.Laws.Tags.{tagged_none, Turned, turned_left, turned_right, turned_here, turned_rest, turned_done}
use Rattle.frame.proofs.+write_tags.Goals.{Then-i-few, Else-i-few}
use Rattle.frame.proofs.+write_tags.Goals as goal

-- the tag that the choice's side has
left : (t : ℕ) (c : Then-i-few t) → Turned c.args.n c.args.i false c.btree_split_index-few.result c.args.i
left t c = turned_left c.args.n c.btree_split_index-few.result c.args.i c.btree_split_index-few.ensures c.requires.i_lt_n.0 c.if-n-eq1.false c.if-i-few.true

right : (t : ℕ) (c : Else-i-few t) → Turned c.args.n c.args.i true (c.args.n - c.btree_split_index-few.result) (c.args.i - c.btree_split_index-few.result)
right t c = turned_right c.args.n c.btree_split_index-few.result c.args.i c.btree_split_index-few.ensures c.requires.i_lt_n.0 c.if-n-eq1.false c.if-i-few.false

pub returns-then-n-eq1 : goal.returns-then-n-eq1
returns-then-n-eq1 t c = search (tagged_none, rules)

pub set_bit-requires : goal.set_bit-requires
set_bit-requires t c = let u = left t (goal.at.set_bit-requires t c).Then-i-few in
    (turned_here u c.args.bit c.args.buf.now c.requires.inside).0

pub overflow_add-bit : goal.overflow_add-bit
overflow_add-bit t c = let u = left t (goal.at.overflow_add-bit t c).Then-i-few in
    let k = (turned_here u c.args.bit c.args.buf.now c.requires.inside).1 in omega arith

pub write_tags-requires : goal.write_tags-requires
write_tags-requires t c = let u = left t (goal.at.write_tags-requires t c).Then-i-few in
    let l = u.fewer in
    (omega arith, ((u.less, omega arith), turned_rest u c.args.bit c.args.buf.now c.requires.inside c.set_bit.ensures))

pub returns-then-i-few : goal.returns-then-i-few
returns-then-i-few t c = let u = left t (goal.at.returns-then-i-few t c).Then-i-few in
    turned_done u c.args.bit c.args.buf.now c.requires.inside c.set_bit.ensures c.write_tags.ensures

pub set_bit-requires-2 : goal.set_bit-requires-2
set_bit-requires-2 t c = let u = right t (goal.at.set_bit-requires-2 t c).Else-i-few in
    (turned_here u c.args.bit c.args.buf.now c.requires.inside).0

pub overflow_add-bit-2 : goal.overflow_add-bit-2
overflow_add-bit-2 t c = let u = right t (goal.at.overflow_add-bit-2 t c).Else-i-few in
    let k = (turned_here u c.args.bit c.args.buf.now c.requires.inside).1 in omega arith

pub write_tags-requires-2 : goal.write_tags-requires-2
write_tags-requires-2 t c = let u = right t (goal.at.write_tags-requires-2 t c).Else-i-few in
    let l = u.fewer in
    (omega arith, ((u.less, omega arith), turned_rest u c.args.bit c.args.buf.now c.requires.inside c.set_bit-2.ensures))

pub returns : goal.returns
returns t c = let u = right t (goal.at.returns t c).Else-i-few in
    turned_done u c.args.bit c.args.buf.now c.requires.inside c.set_bit-2.ensures c.write_tags-2.ensures
