-- The table of a type file that lowers has the width of what stands at each record: nothing in it is cut.
use Rattle.std.specs.Prelude.{◌≡◌, refl, Bool, List, ℕ, zero, suc, ◌+◌, ◌≤◌, ◌<◌, length, get_or, Result, Ok}
use Rattle.std.proofs.Common.{sym, subst, ◌∙◌, ltb-false}
use Rattle.std.proofs.Math.Path.{ap}
use Rattle.std.proofs.Math.Bool.{false}
use native.Mathlib.Omega.{arith}
use Rattle.model.specs.Numbers.{most_shape_records}
use Rattle.model.specs.Structural.{SType}
use Rattle.model.specs.Frames.{width}
use Rattle.model.specs.Lowering.{over_large}
use Rattle.model.proofs.Laws.Lowering.{lowers_not_large}
use Rattle.model.proofs.Laws.Outcome.{or_false}
use Rattle.model.proofs.Laws.Sizes.{nodes, width_nodes}
use Rattle.types.specs.Walks.{walk}
use Rattle.types.specs.Trees.{tree}
use Rattle.types.specs.Lows.{low}
use Rattle.types.specs.Steps.{given_within}
use Rattle.types.specs.Record.{rec_at}
use Rattle.types.specs.Accepted.{ends_whole, few}
use Rattle.types.specs.Unique.{inside}
use Rattle.table.specs.Facts.{cut}
use Rattle.table.specs.Flags.{flagged}
use Rattle.table.specs.Lowering.{large_at, large_flagged}
use Rattle.table.specs.Measuring.{some_variants}
use Rattle.table.specs.Tabled.{Table, TableIf, Tabled}
use Rattle.structural.specs.Forms.{Stands, is_variant, standing}
use Rattle.told.specs.Widths.{Wide}
use Rattle.reply.specs.declared.Refusal.{Refusal}

-- where none of n records is flagged, each is not
unflagged : (f : ℕ → Bool) (p n i : ℕ) → flagged f p n ≡ false → i < n → f (p + i) ≡ false
unfolding flagged
unflagged f p zero i h l = absurd (omega arith)
unflagged f p (suc n) zero h l = let e : p + 0 ≡ p = omega arith in ap f e ∙ (or_false (f p) (flagged f (p + 1) n) h).0
unflagged f p (suc n) (suc i) h l = let e : p + suc i ≡ p + 1 + i = omega arith in ap f e ∙ unflagged f (p + 1) n i (or_false (f p) (flagged f (p + 1) n) h).1 (omega arith)

-- a type of at most 65,536 records has at most 32,768 bits
uncut : (t : SType) (x y : ℕ) → x ≡ cut (nodes t) → x ≤ most_shape_records → y ≡ cut (width t) → (y ≡ width t) × (y ≤ 32768)
uncut t x y e l f = let k = width_nodes t in (omega arith, omega arith)

module _ {s E S W : List ℕ} {n : ℕ} (t : Table s E S W n) (h : over_large (tree 32 s 0) ≡ false) where
  record_width : (d p e : ℕ) (v : Bool) → walk d v s p ≡ Ok e → (get_or W p 0 ≡ width (low d v s p)) × (get_or W p 0 ≤ 32768)
  unfolding large_at
  record_width d p e v q =
      let (w, l) = ends_whole s n t.accepted in
      let m = t.measured in
      let i : p < n = let k = inside d v s p e q in omega arith in
      let f : flagged (large_at S) 0 n ≡ false = large_flagged s S W m (some_variants s) 32 n w ∙ h in
      let z : 0 + p ≡ p = omega arith in
      let g : large_at S p ≡ false = ap (large_at S) (sym z) ∙ unflagged (large_at S) 0 n p f i in
      uncut (low d v s p) (get_or S p 0) (get_or W p 0) (m.size p d e v (omega arith) q) (ltb-false _ _ g) (m.width p d e v (omega arith) q)

module _ {s E S W : List ℕ} {r : Result ℕ Refusal} {n : ℕ} (p : Tabled s r E S W) (e : r ≡ Ok n) where
  table : Table s E S W n
  table = subst (λ (r : Result ℕ Refusal). TableIf r s E S W) e p.table

  -- row 7 does not hold
  not_large : over_large (tree 32 s 0) ≡ false
  not_large = lowers_not_large s (tree 32 s 0) (rw (p.answer, e) refl)

  -- what the check of a type file leaves is what the writers of a frame ask
  pub tabled_wide : 1024 ≤ length W → Wide s E W
  unfolding standing
  tabled_wide l =
      let k = few s n table.accepted in
      let (w, m) = ends_whole s n table.accepted in
      record {
        long = omega arith;
        right = λ d i g. (record_width table not_large d i g.given.starts.end (is_variant (rec_at s i)) g.given.starts.walks).0;
        small = λ d i g. (record_width table not_large d i g.given.starts.end (is_variant (rec_at s i)) g.given.starts.walks).1;
      }

-- it has a place for each record that stands
pub width_there : {d : ℕ} {s E W : List ℕ} {p : ℕ} → Stands d s E p → Wide s E W → p < length W
width_there g w = let h = given_within g.given in let l = w.long in omega arith
