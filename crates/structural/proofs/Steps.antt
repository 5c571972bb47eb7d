-- The steps of the writers, in the form in which the code's needs ask them.
use mathlib.Core.Path.{◌≡◌, refl, sym, ◌∙◌}
use mathlib.Core.Bool.{true}
use mathlib.Core.Logic.{inl, inr}
use mathlib.Core.List.{List, [], ◌∷◌}
use Prim.Native.Nat.{ℕ, ◌+◌, ◌-◌, ◌^◌, ◌≤◌, ◌<◌}
use native.Mathlib.Omega.{arith}
use mir.Syntax.{w64}
use mir.Val.{Fits}
use lib.ListN.{length, get_or, set, length-set}
use Rattle.model.specs.Structural.{𝟙, ◌⊕◌, type_records}
use Rattle.model.proofs.Laws.Balanced.{Shares}
use Rattle.structural.specs.declared.Parts.{Parts}
use Rattle.structural.specs.declared.Parts.TheVariants.{Bits, Copies, Types, Choices}
use Rattle.structural.specs.declared.Written.{Written}
use Rattle.structural.specs.Writing.{Wrote}
use Rattle.structural.specs.Forms.{Room, all_same, standing, part, after, skip, balanced, GivenPart, Placed, block_of}
use Rattle.structural.proofs.Laws.Writing.{rest, back, wrote_none, wrote_set, wrote_length, wrote_room, wrote_lent}
use Rattle.structural.proofs.Laws.Trees.{room_some, skip_same, balanced_none, balanced_one}
use Rattle.structural.proofs.Laws.Forms.{stands_end}
use Rattle.structural.proofs.Laws.Parts.{Told, InRow, told_is, part_given, sides_next}

-- PARTS

module _ (k : Parts) (d : ℕ) (s : List ℕ) (p : ℕ) where
  pub bit_room : (out : List ℕ) → Room (part k d s p) out → k ≡ Bits → Room (𝟙 ⊕ 𝟙) out
  unfolding part
  bit_room out r e = rw e at r

  pub bit_placed : {out o : List ℕ} {r : ℕ} → k ≡ Bits → Wrote (type_records (𝟙 ⊕ 𝟙)) out o r → Placed (part k d s p) (after k d s p) out o (record { next = p; len = r })
  unfolding part after
  bit_placed e w = rw e (record { next = refl; wrote = w })

  pub copy_placed : {out o : List ℕ} {r : ℕ} → k ≡ Copies → Wrote (type_records (standing d s p)) out o r → Placed (part k d s p) (after k d s p) out o (record { next = p; len = r })
  unfolding part after
  copy_placed e w = rw e (record { next = refl; wrote = w })

module _ (j k : Parts) (d : ℕ) (s E : List ℕ) (p : ℕ) (e : k ≡ j) where
  pub part_room : (out : List ℕ) → Room (part k d s p) out → Told j → Room (standing d s p) out
  part_room out r t = rw (← told_is j d s p t, ← e) r

-- a part that stands in a row
pub row_placed : (k : Parts) (d : ℕ) (s E : List ℕ) (p : ℕ) → InRow k → GivenPart k d s E p → {out o : List ℕ} {r : ℕ} → Wrote (type_records (standing d s p)) out o r → Placed (part k d s p) (after k d s p) out o (record { next = get_or E p 0; len = r })
unfolding part after
row_placed k d s E p (inl e) g w = let g' = part_given Types k d s E p e tt g in rw e (record { next = stands_end g'; wrote = w })
row_placed k d s E p (inr e) g w = let g' = part_given Choices k d s E p e tt g in rw e (record { next = stands_end g'; wrote = w })

-- BLOCKS

module _ (d : ℕ) (s : List ℕ) (n p : ℕ) (out : List ℕ) (r : Room (block_of d s n p) out) where
  block_total : length (type_records (balanced Copies d s n p)) + 2 ≤ length out
  unfolding block_of type_records
  block_total = omega (arith, r)

  pub block_second : 1 < length (set out 0 1)
  block_second = let t = block_total in simp length-set (omega arith)

  pub block_start : 2 ≤ length (set (set out 0 1) 1 0)
  block_start = let t = block_total in simp length-set (omega arith)

  begun : Wrote (1 ∷ 0 ∷ []) out (set (set out 0 1) 1 0) 2
  begun = let t = block_total in wrote_set (wrote_set (wrote_none out) 1 (omega arith)) 0 (omega arith)

  pub block_room : Room (balanced Copies d s n p) (rest 2 (set (set out 0 1) 1 0))
  block_room = let t = block_total in wrote_room begun (length (type_records (balanced Copies d s n p))) (omega arith)

  module _ {q : ℕ} {o : List ℕ} {w : Written} (v : Placed (balanced Copies d s n p) q (rest 2 (set (set out 0 1) 1 0)) o w) where
    pub block_done : Wrote (type_records (block_of d s n p)) out (back 2 (set (set out 0 1) 1 0) o) (w.len + 2)
    unfolding block_of type_records
    block_done = let t = block_total in wrote_lent begun (omega arith) v.wrote

    pub block_length : length (back 2 (set (set out 0 1) 1 0) o) ≡ length out
    block_length = wrote_length block_done r

    pub block_fits : length out < 2 ^ 64 → Fits w64 (w.len + 2)
    block_fits l = let t = block_total in let e = v.wrote.len in omega arith

-- TREES

module _ (k : Parts) (d : ℕ) (s : List ℕ) (n p : ℕ) (out : List ℕ) where
  pub none_placed : Room (balanced k d s n p) out → n ≡ 0 → Placed (balanced k d s n p) (skip k d s n p) out (set out 0 0) (record { next = p; len = 1 })
  unfolding skip type_records
  none_placed r z =
      let i : 0 < length out = room_some _ out r in
      rw z (record { next = refl; wrote = rw (balanced_none k d s p) (wrote_set (wrote_none out) 0 i) })

  pub one_room : Room (balanced k d s n p) out → n ≡ 1 → Room (part k d s p) out
  one_room r z = rw (← balanced_one k d s p, ← z) r

  pub one_placed : {o : List ℕ} {r : Written} → n ≡ 1 → Placed (part k d s p) (after k d s p) out o r → Placed (balanced k d s n p) (skip k d s n p) out o r
  unfolding skip
  one_placed z w = rw (z, balanced_one k d s p) w

pub tree_placed : {n few : ℕ} → Shares n few → (k : Parts) (d : ℕ) (s : List ℕ) (p : ℕ) {lent lent' came came' out o : List ℕ} {left right : Written} {r : ℕ}
    → Placed (balanced k d s few p) (skip k d s few p) lent came left → Placed (balanced k d s (n - few) left.next) (skip k d s (n - few) left.next) lent' came' right
    → Wrote (type_records (balanced k d s n p)) out o r → Placed (balanced k d s n p) (skip k d s n p) out o (record { next = right.next; len = r })
tree_placed h k d s p v u w = record { next = u.next ∙ sides_next h k d s p v.next; wrote = w }

pub twice_placed : (k : Parts) (d : ℕ) (s : List ℕ) (n p : ℕ) {out o : List ℕ} {r : ℕ} → all_same k ≡ true → Wrote (type_records (balanced k d s n p)) out o r → Placed (balanced k d s n p) (skip k d s n p) out o (record { next = p; len = r })
twice_placed k d s n p h w = record { next = sym (skip_same k d s n p h); wrote = w }
