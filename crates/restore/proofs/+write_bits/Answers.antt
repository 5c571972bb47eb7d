use mathlib.Core.Path.{◌≡◌, ◌∙◌}
use Prim.Native.Nat.{ℕ, ◌≤◌}
use native.Mathlib.Omega.{arith}
use borrow.Author.Rules.{rules}
use Rattle.model.specs.Balanced.{btree_split_index}
use Rattle.model.proofs.Laws.Balanced.{Shares, shares}
use Rattle.restore.proofs.Steps.{bit_inside, bit_fits, bit_placed, bits_fit, left_bits, right_bits, bits_placed}
use Rattle.restore.proofs.+write_bits.Goals as goal

ruleset steps = (bit_inside, bit_fits, bit_placed, rules)

-- the sides of the bits, where there is more than one
sides : {n few : ℕ} → few ≡ btree_split_index n → 1 ≤ n → (n ≡ 1 → ⊥) → Shares n few
sides e l m = shares e (omega arith)

pub bounds-shape-q : goal.bounds-shape-q
bounds-shape-q t c = search steps

pub set_bit-requires : goal.set_bit-requires
set_bit-requires t c = let z = c.if-n-eq1.true in omega arith

pub overflow_add-result : goal.overflow_add-result
overflow_add-result t c = search steps

pub shape_of-int-then-n-eq1 : goal.shape_of-int-then-n-eq1
shape_of-int-then-n-eq1 t c = c.set_bit.ensures.same

pub returns-then-n-eq1 : goal.returns-then-n-eq1
returns-then-n-eq1 t c = search steps

pub btree_split_index-few-requires : goal.btree_split_index-few-requires
btree_split_index-few-requires t c = search steps

pub overflow_sub-others : goal.overflow_sub-others
overflow_sub-others t c = let s = sides c.btree_split_index-few.ensures c.requires.le_n.0 c.if-n-eq1.false in
    let l = s.less in omega arith

pub overflow_add-q : goal.overflow_add-q
overflow_add-q t c = let s = sides c.btree_split_index-few.ensures c.requires.le_n.0 c.if-n-eq1.false in
    bits_fit _ _ _ c.requires.found s (search rules)

pub write_bits-mid-requires : goal.write_bits-mid-requires
write_bits-mid-requires t c = let s = sides c.btree_split_index-few.ensures c.requires.le_n.0 c.if-n-eq1.false in
    let l = s.less in
    (omega arith, ((s.some, omega arith, c.requires.le_n.2, omega arith), left_bits _ _ _ c.requires.found s))

pub overflow_add-j : goal.overflow_add-j
overflow_add-j t c = let s = sides c.btree_split_index-few.ensures c.requires.le_n.0 c.if-n-eq1.false in
    let l = s.less in
    omega arith

pub write_bits-requires : goal.write_bits-requires
write_bits-requires t c = let s = sides c.btree_split_index-few.ensures c.requires.le_n.0 c.if-n-eq1.false in
    let v = c.write_bits-mid.ensures in
    let l = s.less in
    let i = s.some in
    (omega arith, ((omega arith, omega arith, v.wrote.same ∙ c.requires.le_n.2, omega arith), right_bits _ _ _ c.requires.found s v))

pub shape_of-int : goal.shape_of-int
shape_of-int t c = c.write_bits.ensures.wrote.same ∙ c.write_bits-mid.ensures.wrote.same

pub returns : goal.returns
returns t c = let s = sides c.btree_split_index-few.ensures c.requires.le_n.0 c.if-n-eq1.false in
    bits_placed _ _ _ c.requires.found s c.write_bits-mid.ensures c.write_bits.ensures
