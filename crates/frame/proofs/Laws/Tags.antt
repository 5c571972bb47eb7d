-- Tags as code writes them: the first one says the side of the tree, and the others lead on from there.
use Rattle.std.specs.Prelude.{◌≡◌, refl, Bool, true, false, List, [], ◌∷◌, ℕ, ◌+◌, ◌-◌, ◌*◌, ◌^◌, ◌≤◌, ◌<◌, length}
use Rattle.std.proofs.Common.{sym, ap, arith}
use Rattle.model.specs.Balanced.{btree, btree_split_index}
use Rattle.model.proofs.Laws.Balanced.{split_bounds}
use Rattle.bits.specs.Bits.{Inside, Wrote}
use Rattle.bits.specs.Laws.Writing.{wrote_none, wrote_then, wrote_same}
use Rattle.frame.specs.Forms.{tags, Tagged}
use Rattle.frame.proofs.Laws.Sums.{tags_one, tags_left, tags_right}

pub tagged_none : (n i bit : ℕ) (buf : List ℕ) → n ≡ 1 → Tagged (tags (btree n) i) buf bit buf bit
tagged_none n i bit buf e = rw (e, tags_one i) (record { wrote = wrote_none; ends = omega arith })

-- the tag b leads to choice j of the m of a side
pub record Turned (n i : ℕ) (b : Bool) (m j : ℕ) : Type 0 where
  pub same : tags (btree n) i ≡ b ∷ tags (btree m) j
  pub fewer : m < n
  pub less : j < m

module _ (n few i : ℕ) (e : few ≡ btree_split_index n) (l : i < n) (o : n ≡ 1 → ⊥) where
  bounds : (1 ≤ few) × (few < n)
  bounds = rw e (split_bounds n (omega arith))

  pub turned_left : i < few → Turned n i false few i
  turned_left h = let b = bounds in record { same = tags_left n few i e (omega arith) h; fewer = omega arith; less = h }

  pub turned_right : few ≤ i → Turned n i true (n - few) (i - few)
  turned_right h = let b = bounds in record { same = tags_right n few i e (omega arith) h; fewer = omega arith; less = omega arith }

module _ {n i : ℕ} {b : Bool} {m j : ℕ} (t : Turned n i b m j) (bit : ℕ) (buf : List ℕ) (h : Inside buf bit (length (tags (btree n) i))) where
  pub turned_here : (bit < 8 * length buf) × (bit + 1 < 2 ^ 64)
  turned_here = let e = ap length t.same in (omega (arith, h.0), omega (arith, h.1))

  pub turned_rest : {new : List ℕ} → Wrote buf bit (b ∷ []) new → Inside new (bit + 1) (length (tags (btree m) j))
  turned_rest w = let e = ap length t.same in let s = w.same in (omega (arith, h.0), omega (arith, h.1))

  pub turned_done : {mid new : List ℕ} {r : ℕ} → Wrote buf bit (b ∷ []) mid → Tagged (tags (btree m) j) mid (bit + 1) new r → Tagged (tags (btree n) i) buf bit new r
  turned_done w u =
      let e = ap length t.same in
      let f = u.ends in
      record { wrote = wrote_same (wrote_then w u.wrote refl) (sym t.same); ends = omega arith }
