-- Laws of writing bits: a bit is its tag and a unit, and several are written as the record of a pair and the two sides of their tree.
use Rattle.std.specs.Prelude.{◌≡◌, refl, Bool, true, false, List, [], ◌∷◌, ℕ, ◌+◌, ◌-◌, ◌*◌, ◌≤◌, ◌<◌, length, take, drop, set}
use Rattle.std.proofs.Common.{sym, ◌∙◌, length-set}
use Rattle.std.proofs.Math.Path.{ap}
use native.Mathlib.Omega.{arith}
use Rattle.std.proofs.Math.ListN.{get_or}
use Rattle.model.specs.Bytes.{bits_of}
use Rattle.model.specs.Balanced.{btree_split_index}
use Rattle.model.specs.Structural.{shape_records}
use Rattle.model.specs.Values.{bit}
use Rattle.model.proofs.Laws.Balanced.{split_bounds}
use Rattle.structural.specs.Writing.{Wrote}
use Rattle.structural.proofs.Laws.Writing.{wrote_none, wrote_set, wrote_as, Fork}
use Rattle.told.specs.Forms.{bits_told}
use Rattle.told.specs.Laws.Lists.{record_bit, bits_one, bits_step}
use Rattle.shape.specs.Forms.{tag_of, BitsThere, Room}

-- ONE BIT

-- the record's bytes, as they are lent
module _ (val : List ℕ) (v j : ℕ) (x : Bool) (e : x ≡ get_or (bits_of (take (v * 36 + 36 - v * 36) (drop (v * 36) val))) j false) where
  lent : x ≡ record_bit val v j
  unfolding record_bit
  lent = let n : v * 36 + 36 - v * 36 ≡ 36 = omega arith in e ∙ ap (λ i. get_or (bits_of (take i (drop (v * 36) val))) j false) n

  pub tag_right : x ≡ true → 2 ≡ tag_of (record_bit val v j)
  tag_right h = ap tag_of (sym h ∙ lent)

  pub tag_left : x ≡ false → 1 ≡ tag_of (record_bit val v j)
  tag_left h = ap tag_of (sym h ∙ lent)

bit_records : (b : Bool) → shape_records (bit b) ≡ tag_of b ∷ 0 ∷ []
unfolding shape_records
bit_records false = refl
bit_records true = refl

module _ (b : Bool) (out : List ℕ) (r : Room (bit b) out) where
  pub bit_room : 2 ≤ length out
  bit_room = omega (arith, r, ap length (bit_records b))

  bit_second : (t : ℕ) → 1 < length (set out 0 t)
  bit_second t = let l = bit_room in simp length-set (omega arith)

  pub bit_wrote : (t : ℕ) → t ≡ tag_of b → Wrote (shape_records (bit b)) out (set (set out 0 t) 1 0) 2
  bit_wrote t e = let l = bit_room in wrote_as (bit_records b ∙ ap {B = List ℕ} (λ x. x ∷ 0 ∷ []) (sym e)) (wrote_set (wrote_set (wrote_none out) t (omega arith)) 0 (omega arith))

-- SEVERAL

module _ {val : List ℕ} {v j n : ℕ} (g : BitsThere val v j n) where
  pub one_is : n ≡ 1 → bits_told val v j n ≡ bit (record_bit val v j)
  one_is e = let i = g.inside in let t = g.there in ap (bits_told val v j) e ∙ bits_one val v j (omega arith) t

  pub one_there : n ≡ 1 → BitsThere val v j 1
  one_there e = rw (← e) g

  module _ (out : List ℕ) (r : Room (bits_told val v j n) out) (e : n ≡ 1) where
    one_room : Room (bit (record_bit val v j)) out
    one_room = rw (← one_is e) r

    pub one_second : (t : ℕ) → 1 < length (set out 0 t)
    one_second = bit_second (record_bit val v j) out one_room

    pub one_wrote : (t : ℕ) → t ≡ tag_of (record_bit val v j) → Wrote (shape_records (bits_told val v j n)) out (set (set out 0 t) 1 0) 2
    one_wrote t h = wrote_as (ap shape_records (one_is e)) (bit_wrote (record_bit val v j) out one_room t h)

  module _ {few : ℕ} (e : few ≡ btree_split_index n) (o : n ≡ 1 → ⊥) where
    two : 2 ≤ n
    two = let s = g.some_bits in omega arith

    bounds : (1 ≤ few) × (few < n)
    bounds = rw e (split_bounds n two)

    pub few_less : few < n
    few_less = bounds.1

    pub few_there : BitsThere val v j few
    few_there = let b = bounds in let f = g.few in let i = g.inside in record { some_bits = b.0; few = omega arith; inside = omega arith; there = g.there }

    pub others_there : BitsThere val v (j + few) (n - few)
    others_there = let b = bounds in let f = g.few in let i = g.inside in record { some_bits = omega arith; few = omega arith; inside = omega arith; there = g.there }

    pub bits_fork : (out : List ℕ) → Room (bits_told val v j n) out → Fork 3 (shape_records (bits_told val v j few)) (shape_records (bits_told val v (j + few) (n - few))) (shape_records (bits_told val v j n)) out
    unfolding shape_records
    bits_fork out r = record { same = rw e (ap shape_records (bits_step val v j n two)); room = r }
