-- The steps of the writers, in the form in which the code's needs ask them.
use Rattle.std.specs.Prelude.{Option, Some, None}
use mathlib.Core.Path.{◌≡◌, refl, sym, ap, ◌∙◌}
use mathlib.Core.Bool.{Bool, true, false}
use mathlib.Core.List.{List, [], ◌∷◌, ◌++◌}
use mathlib.Core.Logic.{◌⊎◌, inl, inr}
use mathlib.Core.Option.{some, some-injective}
use Prim.Native.Nat.{ℕ, zero, suc, ◌+◌, ◌-◌, ◌*◌, ◌/◌, ◌^◌, ◌≤◌, ◌<◌}
use native.Mathlib.Omega.{arith}
use mir.Syntax.{w64}
use mir.Val.{Fits}
use lib.ListN.{length, get_or, length-append, length-replicate}
use Rattle.num.specs.declared.NonZeroPow2Usize.{NonZeroPow2Usize}
use Rattle.num.specs.Powers.{half_bound}
use Rattle.model.specs.Options.{map_o}
use Rattle.model.specs.Bytes.{zeros}
use Rattle.model.specs.Balanced.{btree}
use Rattle.model.specs.Frames.{width}
use Rattle.model.proofs.Laws.Options.{map_o_some}
use Rattle.structural.specs.Forms.{Stands}
use Rattle.structural.specs.Forms as structural
use Rattle.bits.specs.Bits.{Inside, Wrote}
use Rattle.bits.specs.Laws.Writing.{wrote_then, wrote_same}
use Rattle.types.specs.declared.forms.Parts.{Parts}
use Rattle.types.specs.declared.forms.Parts.TheVariants.{Copies}
use Rattle.told.specs.Forms.{GivenParts, hops, after_at}
use Rattle.told.specs.Forms as told
use Rattle.told.specs.Laws.Lists.{block_share}
use Rattle.told.specs.Laws.Rows.{after_is}
use Rattle.told.specs.Widths.{Wide}
use Rattle.frame.specs.Forms.{and_then, frame_at, row, tags, chosen, block, listed, Fitted, Framed, Tagged}
use Rattle.frame.proofs.Laws.Told.{frame_width}
use Rattle.frame.proofs.Laws.Lists.{tag_true, block_zeros, block_row, list_block, Halved, list_halved, share_one}
use Rattle.frame.proofs.Laws.Writing.{fitted_as, framed_as, framed_none, fitted_first, fitted_rest, framed_then}
use Rattle.frame.proofs.Laws.Forms.{BitsFramed, SumFramed, length_record_bits}

-- RECORDS

pub value_fits : (val : List ℕ) (v : ℕ) → length val < 2 ^ 64 → v < length val / 36 → Fits w64 (v + 1)
value_fits val v l h = omega arith

module _ (d : ℕ) (s val : List ℕ) (p v : ℕ) where
  -- what was written is as wide as what stands there
  pub record_done : {before : List ℕ} {bit : ℕ} {after : List ℕ} {next end : ℕ} → Framed (frame_at d s val p v) before bit after next end → Framed (frame_at d s val p v) before bit after next (bit + width (structural.standing d s p))
  record_done {next = next} w =
      let l = frame_width d s val p v w.frame next w.told in
      record { frame = w.frame; told = w.told; wrote = w.wrote; ends = omega (arith, w.ends) }

  pub bits_inside : {j n : ℕ} {buf : List ℕ} {bit : ℕ} → BitsFramed j n d s val p v → Fitted (frame_at d s val p v) buf bit → Inside buf bit n
  bits_inside {j} {n} b f =
      let u = some-injective _ _ (sym b.same ∙ f.told) in
      let l = sym (ap (λ z. length z.0) u) ∙ length_record_bits val v j n b.there b.inside in
      (omega (arith, f.inside.0), omega (arith, f.inside.1))

  pub bits_done : {j n : ℕ} {before after : List ℕ} {bit : ℕ} → BitsFramed j n d s val p v → Wrote before bit (told.record_bits val v j n) after → Framed (frame_at d s val p v) before bit after (v + 1) (bit + n)
  bits_done {j} {n} {bit = bit} b w = record { frame = told.record_bits val v j n; told = b.same; wrote = w; ends = ap (λ l. bit + l) (sym (length_record_bits val v j n b.there b.inside)) }

-- ROWS

-- of n parts `left` are left, and what they write completes the row
pub record Going (k : Parts) (d : ℕ) (s E val : List ℕ) (n p v : ℕ) (start : List ℕ) (bit : ℕ) (buf : List ℕ) (place next here left : ℕ) : Type 0 where
  pub given : GivenParts k d s E left place
  pub rest : Fitted (row k d s val left place next) buf here
  pub whole : (new : List ℕ) (e z : ℕ) → Framed (row k d s val left place next) buf here new e z → Framed (row k d s val n p v) start bit new e z
  pub size : length buf ≡ length start

pub going_start : {k : Parts} {d : ℕ} {s E val : List ℕ} {n p v : ℕ} {buf : List ℕ} {bit left : ℕ} → left ≡ n → GivenParts k d s E n p → Fitted (row k d s val n p v) buf bit → Going k d s E val n p v buf bit buf p v bit left
going_start e g f = rw e (record { given = g; rest = f; whole = λ new e z w. w; size = refl })

module _ {k : Parts} {d : ℕ} {s E val : List ℕ} {n p v : ℕ} {start : List ℕ} {bit : ℕ} {buf : List ℕ} {place next here : ℕ} where
  first : (left : ℕ) → 0 < left → Going k d s E val n p v start bit buf place next here left → Stands d s E place × Fitted (frame_at d s val place next) buf here
  unfolding row told.skip
  first zero l g = absurd (omega arith)
  first (suc left) l g = (g.given.each 0 (omega arith), fitted_first (frame_at d s val place next) (row k d s val left (told.after k d s place)) g.rest)

  pub going_stands : {left : ℕ} → 0 < left → Going k d s E val n p v start bit buf place next here left → Stands d s E place
  going_stands {left} l g = (first left l g).0

  pub going_fitted : {left : ℕ} → 0 < left → Going k d s E val n p v start bit buf place next here left → Fitted (frame_at d s val place next) buf here
  going_fitted {left} l g = (first left l g).1

  pub going_next : (left : ℕ) {rest : ℕ} → rest + 1 ≡ left → Going k d s E val n p v start bit buf place next here left → {new : List ℕ} {e z place' : ℕ} → Framed (frame_at d s val place next) buf here new e z → place' ≡ after_at k E place → Going k d s E val n p v start bit new place' e z rest
  unfolding row told.skip
  going_next zero x g w q = absurd (omega arith)
  going_next (suc left) {rest} x g {new} {e} {z} {place'} w q =
      let r = row k d s val left (told.after k d s place) in
      let i : rest ≡ left = omega arith in
      let j : place' ≡ told.after k d s place = q ∙ after_is k (g.given.each 0 (omega arith)) in
      rw (i, j) (record {
        given = record { each = λ m h. g.given.each (suc m) (omega arith) };
        rest = fitted_rest (frame_at d s val place next) r g.rest w;
        whole = λ new e z u. g.whole new e z (framed_then (frame_at d s val place next) r w u);
        size = w.wrote.same ∙ g.size;
      })

  pub going_end : (left : ℕ) → left ≤ 0 → Going k d s E val n p v start bit buf place next here left → Framed (row k d s val n p v) start bit buf next here
  unfolding row
  going_end zero l g = g.whole buf next here (framed_none next here buf)
  going_end (suc left) l g = absurd (omega arith)

-- SUMS

-- choice i stands at o, and w is the sum's width
pub record Choice (n i d : ℕ) (s E val : List ℕ) (w p v o : ℕ) : Type 0 where
  pub given : Stands (d - 1) s E o
  pub room : length (tags (btree n) i) + width (structural.standing (d - 1) s o) ≤ w
  pub same : frame_at d s val p v ≡ chosen (d - 1) s val n i w o (v + 1)

pub choice : {n i d : ℕ} {s E val W : List ℕ} {w p v o : ℕ} → SumFramed n i d s E val p v → Wide s E W → Stands d s E p → w ≡ get_or W p 0 → o ≡ hops E i (p + 1) → Choice n i d s E val w p v o
choice {n} {i} {d} {s} {E} {val} {p = p} {v} u wide g k e =
    let q = k ∙ wide.right d p g in
    rw e (record { given = u.given; room = omega (arith, u.room); same = u.same ∙ ap (λ k. chosen (d - 1) s val n i k (hops E i (p + 1)) (v + 1)) (sym q) })

module _ (d : ℕ) (s val : List ℕ) (n i w p v : ℕ) {buf : List ℕ} {bit : ℕ} (f : Fitted (chosen d s val n i w p v) buf bit) where
  inner : (x : List Bool × ℕ) × (frame_at d s val p v ≡ some x) × (◌≡◌ {A = List Bool × ℕ} (tags (btree n) i ++ (x.0 ++ zeros (w - (length (tags (btree n) i) + length x.0))), x.1) (f.frame, f.next))
  unfolding chosen
  inner = map_o_some (λ x. (tags (btree n) i ++ (x.0 ++ zeros (w - (length (tags (btree n) i) + length x.0))), x.1)) (frame_at d s val p v) (f.frame, f.next) f.told

  whole_length : (t x : List Bool) (k : ℕ) → length (t ++ (x ++ zeros k)) ≡ length t + (length x + k)
  whole_length t x k = simp (length-append, length-replicate)

  sizes : length f.frame ≡ length (tags (btree n) i) + (length inner.0.0 + (w - (length (tags (btree n) i) + length inner.0.0)))
  sizes = sym (ap (λ (z : List Bool × ℕ). length z.0) inner.2) ∙ whole_length (tags (btree n) i) inner.0.0 _

  pub sum_tags : Inside buf bit (length (tags (btree n) i))
  sum_tags = let l = sizes in (omega (arith, f.inside.0), omega (arith, f.inside.1))

  module _ {mid : List ℕ} {start : ℕ} (t : Tagged (tags (btree n) i) buf bit mid start) where
    pub sum_record : Fitted (frame_at d s val p v) mid start
    sum_record =
        let l = sizes in
        let e = t.ends in
        let k = t.wrote.same in
        record { frame = inner.0.0; next = inner.0.1; told = inner.1; inside = (omega (arith, f.inside.0), omega (arith, f.inside.1)) }

    module _ {new : List ℕ} {next end : ℕ} (u : Framed (frame_at d s val p v) mid start new next end) (room : length (tags (btree n) i) + width (structural.standing d s p) ≤ w) where
      same_frame : inner.0 ≡ (u.frame, next)
      same_frame = some-injective inner.0 (u.frame, next) (sym inner.1 ∙ u.told)

      pub sum_end : (end ≤ bit + w) × (bit + w < 2 ^ 64)
      sum_end =
          let l = sizes in
          let e = t.ends in
          let h = u.ends in
          let q = frame_width d s val p v u.frame next u.told in
          let z = ap (λ (z : List Bool × ℕ). length z.0) same_frame in
          (omega arith, omega (arith, f.inside.1))

      pub sum_zeros : Inside new end (bit + w - end)
      sum_zeros =
          let l = sizes in
          let (a, b) = sum_end in
          let k = t.wrote.same in
          let m = u.wrote.same in
          (omega (arith, f.inside.0), omega arith)

      pub sum_done : {last : List ℕ} → Wrote new end (zeros (bit + w - end)) last → Framed (chosen d s val n i w p v) buf bit last next (bit + w)
      unfolding chosen
      sum_done x =
          let e = t.ends in
          let h = u.ends in
          let q = frame_width d s val p v u.frame next u.told in
          let k : bit + w - end ≡ w - (length (tags (btree n) i) + length u.frame) = omega arith in
          let j : end ≡ start + length u.frame = h in
          record {
            frame = tags (btree n) i ++ (u.frame ++ zeros (w - (length (tags (btree n) i) + length u.frame)));
            told = ap (map_o (λ x. (tags (btree n) i ++ (x.0 ++ zeros (w - (length (tags (btree n) i) + length x.0))), x.1))) u.told;
            wrote = wrote_then t.wrote (wrote_then u.wrote (wrote_same x (ap zeros k)) j) e;
            ends = omega (arith, whole_length (tags (btree n) i) u.frame (w - (length (tags (btree n) i) + length u.frame)));
          }

-- BLOCKS

module _ (d : ℕ) (s E val W : List ℕ) (n m p v : ℕ) {buf : List ℕ} {bit : ℕ} (g : Stands d s E p) (wide : Wide s E W) (f : Fitted (block d s val n m p v) buf bit) where
  -- without elements
  module _ (z : m ≡ 0) where
    empty : block d s val n m p v ≡ some (false ∷ zeros (n * get_or W p 0), v)
    empty = ap (λ k. block d s val n k p v) z ∙ block_zeros d s val n p v ∙ ap (λ k. some (false ∷ zeros (n * k), v)) (sym (wide.right d p g))

    empty_size : length f.frame ≡ suc (n * get_or W p 0)
    empty_size = sym (ap (λ (z : List Bool × ℕ). length z.0) (some-injective _ _ (sym empty ∙ f.told))) ∙ ap suc (length-replicate (n * get_or W p 0) false)

    pub empty_here : (bit < 8 * length buf) × (bit + 1 + n * get_or W p 0 < 2 ^ 64)
    empty_here = let l = empty_size in (omega (arith, f.inside.0), omega (arith, f.inside.1))

    pub empty_zeros : {mid : List ℕ} → Wrote buf bit (false ∷ []) mid → Inside mid (bit + 1) (n * get_or W p 0)
    empty_zeros w = let l = empty_size in let k = w.same in (omega (arith, f.inside.0), omega (arith, f.inside.1))

    pub empty_done : {mid new : List ℕ} → Wrote buf bit (false ∷ []) mid → Wrote mid (bit + 1) (zeros (n * get_or W p 0)) new → Framed (block d s val n m p v) buf bit new v (bit + 1 + n * get_or W p 0)
    empty_done w u = record { frame = false ∷ zeros (n * get_or W p 0); told = empty; wrote = wrote_then w u refl; ends = omega (arith, length-replicate (n * get_or W p 0) false) }

  -- with all that it has place for
  module _ (h : m ≡ 0 → ⊥) (k : (m ≡ 0) ⊎ (m ≡ n)) where
    count : (m ≡ 0) ⊎ (m ≡ n) → n ≡ m
    count (inl z) = absurd (h z)
    count (inr e) = sym e

    full : block d s val n m p v ≡ tag_true (row Copies d s val m p v)
    full = ap (λ x. block d s val x m p v) (count k) ∙ block_row d s val m p v (omega arith)

    elements : (x : List Bool × ℕ) × (row Copies d s val m p v ≡ some x) × (◌≡◌ {A = List Bool × ℕ} (true ∷ x.0, x.1) (f.frame, f.next))
    elements = map_o_some (λ x. (true ∷ x.0, x.1)) (row Copies d s val m p v) (f.frame, f.next) (sym full ∙ f.told)

    full_size : length f.frame ≡ suc (length elements.0.0)
    full_size = sym (ap (λ (z : List Bool × ℕ). length z.0) elements.2)

    pub full_here : (bit < 8 * length buf) × (bit + 1 < 2 ^ 64)
    full_here = let l = full_size in (omega (arith, f.inside.0), omega (arith, f.inside.1))

    pub full_row : {mid : List ℕ} → Wrote buf bit (true ∷ []) mid → Fitted (row Copies d s val m p v) mid (bit + 1)
    full_row w =
        let l = full_size in
        let k = w.same in
        record { frame = elements.0.0; next = elements.0.1; told = elements.1; inside = (omega (arith, f.inside.0), omega (arith, f.inside.1)) }

    pub full_done : {mid new : List ℕ} {next end : ℕ} → Wrote buf bit (true ∷ []) mid → Framed (row Copies d s val m p v) mid (bit + 1) new next end → Framed (block d s val n m p v) buf bit new next end
    full_done w u =
        let e = u.ends in
        record { frame = true ∷ u.frame; told = full ∙ ap tag_true u.told; wrote = wrote_then w u.wrote refl; ends = omega arith }

-- LISTS

-- n is the half h of the bound b, and k the share of m elements that the block of n takes
pub record Half (b h : NonZeroPow2Usize) (m n k : ℕ) : Type 0 where
  pub less : h.value < b.value
  pub most : k ≤ m
  pub others : m - k < h.value
  pub same : (d : ℕ) (s val : List ℕ) (p v : ℕ) → listed d s val b m p v ≡ and_then (block d s val n k p v) (listed d s val h (m - k) p)

pub half : (m n k : ℕ) {b h : NonZeroPow2Usize} {r : Option NonZeroPow2Usize} → m < b.value → r ≡ half_bound b → r ≡ Some h → n ≡ h.value → k ≡ block_share m n → Half b h m n k
half m n k {b} {h} l q j e x =
    let u = halved 0 [] [] 0 0 in
    record { less = u.less; most = u.most; others = u.others; same = λ d s val p v. rw e (halved d s val p v).same }
  where
    halved : (d : ℕ) (s val : List ℕ) (p v : ℕ) → Halved d s val b h m k p v
    halved d s val p v = list_halved d s val m k p v (sym j ∙ q) l (x ∙ ap (block_share m) e)

module _ {b h : NonZeroPow2Usize} {m n k : ℕ} (u : Half b h m n k) (d : ℕ) (s val : List ℕ) (p v : ℕ) where
  pub half_first : {buf : List ℕ} {bit : ℕ} → Fitted (listed d s val b m p v) buf bit → Fitted (block d s val n k p v) buf bit
  half_first t = fitted_first (block d s val n k p v) (listed d s val h (m - k) p) (fitted_as (u.same d s val p v) t)

  pub half_rest : {buf mid : List ℕ} {bit next end : ℕ} → Fitted (listed d s val b m p v) buf bit → Framed (block d s val n k p v) buf bit mid next end → Fitted (listed d s val h (m - k) p next) mid end
  half_rest t w = fitted_rest (block d s val n k p v) (listed d s val h (m - k) p) (fitted_as (u.same d s val p v) t) w

  pub half_done : {buf mid new : List ℕ} {bit next end next' end' : ℕ} → Framed (block d s val n k p v) buf bit mid next end → Framed (listed d s val h (m - k) p next) mid end new next' end' → Framed (listed d s val b m p v) buf bit new next' end'
  half_done w z = framed_as (u.same d s val p v) (framed_then (block d s val n k p v) (listed d s val h (m - k) p) w z)

module _ (m : ℕ) (b : NonZeroPow2Usize) {r : Option NonZeroPow2Usize} (l : m < b.value) (q : r ≡ half_bound b) (j : r ≡ None) where
  pub one_share : (m ≡ 0) ⊎ (m ≡ 1)
  one_share = share_one m b (sym j ∙ q) l

  pub one_block : (d : ℕ) (s val : List ℕ) (p v : ℕ) → listed d s val b m p v ≡ block d s val 1 m p v
  one_block d s val p v = list_block d s val m p v b (sym j ∙ q)
