-- What a walk over an accepted file may use: from a record to its children, and from a child to the next one. Assumes nothing.
use Rattle.std.specs.Prelude.{◌≡◌, refl, List, Bool, true, false, length, get_or, Result, Ok}
use Rattle.std.proofs.Common.{ap, ◌∙◌, sub-one}
use Prim.Native.Nat.{ℕ, zero, suc, ◌+◌, ◌-◌, ◌<◌, ◌/◌}
use native.Mathlib.Omega.{arith}
use Rattle.types.specs.declared.Head.{Head}
use Rattle.types.specs.declared.Rec.{Rec}
use Rattle.types.specs.Record.{head_at, calls_for, rec_at}
use Rattle.types.specs.Walks.{many, walk}
use Rattle.types.specs.Table.{Ends}
use Rattle.types.specs.Trees.{end_of, kids, cases, node, payload, tree, treev}
use Rattle.model.specs.Types.{Ty, Tys, cons, size}
use Rattle.model.specs.Types as model
use Rattle.types.specs.Unique.{bad_end, kind, count, opened, nexts, inside}
use Rattle.reply.specs.declared.Refusal.{Refusal}

-- a whole subtree starts here, with d levels from here on
pub record Starts (d : ℕ) (v : Bool) (s : List ℕ) (at : ℕ) : Type 0 where
  pub end : ℕ
  pub walks : walk d v s at ≡ Ok end

-- n of them in a row
pub record Row (d : ℕ) (v : Bool) (s : List ℕ) (n at : ℕ) : Type 0 where
  pub end : ℕ
  pub walks : many (walk d v s) n at ≡ Ok end

module _ (v : Bool) (s : List ℕ) (at : ℕ) where
  pub levels : (d : ℕ) → Starts d v s at → d ≡ 0 → ⊥
  unfolding walk
  levels zero h z = bad_end (opened v (rec_at s at) _ h.end h.walks)
  levels (suc d) h z = omega arith

  -- it stands within the file
  pub within : {d : ℕ} → Starts d v s at → at < length s / 4
  within {d} h = inside d v s at h.end h.walks

  -- the children that the record calls for
  pub below : (d : ℕ) (h k : Rec) → Starts d v s at → h ≡ rec_at s at → h ≡ k → Row (d - 1) (kind k) s (count k) (at + 1)
  unfolding walk
  below zero h k st p e = bad_end (opened v (rec_at s at) _ st.end st.walks)
  below (suc d) h k st p e = record {
    end = st.end;
    walks = rw (sub-one, ← e, p) (opened v (rec_at s at) _ st.end st.walks);
  }

  first : (d n : ℕ) → Row d v s (suc n) at → Starts d v s at
  unfolding many
  first d n r = let (m, p, q) = nexts (walk d v s at) (many (walk d v s) n) r.end r.walks in record { end = m; walks = p }

  rest : (d n : ℕ) → Row d v s (suc n) at → Row d v s n (end_of (walk d v s at))
  unfolding many
  rest d n r = let (m, p, q) = nexts (walk d v s at) (many (walk d v s) n) r.end r.walks in record { end = r.end; walks = rw p q }

  pub row_first : {d : ℕ} (n : ℕ) → (n ≡ 0 → ⊥) → Row d v s n at → Starts d v s at
  row_first zero h r = absurd (h refl)
  row_first {d} (suc n) h r = first d n r

  pub row_rest : {d : ℕ} (n : ℕ) → (n ≡ 0 → ⊥) → Row d v s n at → Row d v s (n - 1) (end_of (walk d v s at))
  row_rest zero h r = absurd (h refl)
  row_rest {d} (suc n) h r = rw sub-one (rest d n r)

  -- what the table says
  pub table : {d : ℕ} {E : List ℕ} → Ends s E → Starts d v s at → get_or E at 0 ≡ end_of (walk d v s at)
  table {d} h st = h.at_each at d st.end v st.walks ∙ rw st.walks

module _ (s : List ℕ) (at : ℕ) where
  pub tree_in : (d : ℕ) (h k : Head) → (d ≡ 0 → ⊥) → h ≡ head_at s at → h ≡ k → tree d s at ≡ node k (tree (d - 1) s) (walk (d - 1) false s) (treev (d - 1) s) (walk (d - 1) true s) (at + 1)
  unfolding tree treev
  tree_in zero h k z p e = absurd (z refl)
  tree_in (suc d) h k z p e = rw (sub-one, ← e, p)

  pub treev_in : (d : ℕ) (h k : Rec) → (d ≡ 0 → ⊥) → h ≡ rec_at s at → h ≡ k → treev d s at ≡ payload k (tree (d - 1) s) (walk (d - 1) false s) (at + 1)
  unfolding tree treev
  treev_in zero h k z p e = absurd (z refl)
  treev_in (suc d) h k z p e = rw (sub-one, ← e, p)

-- what a walk over an accepted file is given: the file s, its table E, and a place
pub record Given (d : ℕ) (v : Bool) (s E : List ℕ) (at : ℕ) : Type 0 where
  pub starts : Starts d v s at
  pub ends : Ends s E

pub record GivenRow (d : ℕ) (v : Bool) (s E : List ℕ) (n at : ℕ) : Type 0 where
  pub row : Row d v s n at
  pub ends : Ends s E

module _ {d : ℕ} {v : Bool} {s E : List ℕ} {at : ℕ} where
  pub given_levels : Given d v s E at → d ≡ 0 → ⊥
  given_levels g = levels v s at d g.starts

  pub given_within : Given d v s E at → at < length s / 4
  given_within g = within v s at g.starts

  pub given_inside : Given d v s E at → at < length E
  given_inside g = let l = within v s at g.starts in let m = g.ends.long in omega arith

  pub given_below : {h : Rec} (k : Rec) → Given d v s E at → h ≡ rec_at s at → h ≡ k → GivenRow (d - 1) (kind k) s E (count k) (at + 1)
  given_below {h} k g p e = record { row = below v s at d h k g.starts p e; ends = g.ends }

  pub given_head : {h : Head} (k : Head) → Given d v s E at → h ≡ head_at s at → h ≡ k → GivenRow (d - 1) (kind (calls_for k)) s E (count (calls_for k)) (at + 1)
  unfolding rec_at
  given_head {h} k g p e = record { row = below v s at d (calls_for h) (calls_for k) g.starts (ap calls_for p) (ap calls_for e); ends = g.ends }

  pub given_first : {n : ℕ} → (n ≡ 0 → ⊥) → GivenRow d v s E n at → Given d v s E at
  given_first {n} h g = record { starts = row_first v s at n h g.row; ends = g.ends }

  pub given_end : Given d v s E at → get_or E at 0 ≡ end_of (walk d v s at)
  given_end g = table v s at g.ends g.starts

  pub given_rest : {n : ℕ} → (n ≡ 0 → ⊥) → GivenRow d v s E n at → GivenRow d v s E (n - 1) (get_or E at 0)
  given_rest {n} h g = record { row = rw (given_end (given_first h g)) (row_rest v s at n h g.row); ends = g.ends }

-- as many children as were asked for
pub size_kids : (g : ℕ → Ty) (f : ℕ → Result ℕ Refusal) (n at : ℕ) → size (kids g f n at) ≡ n
unfolding kids
size_kids g f zero at = refl
size_kids g f (suc n) at = ap suc (size_kids g f n (end_of (f at)))

pub count_cases : (g : ℕ → Tys) (f : ℕ → Result ℕ Refusal) (n at : ℕ) → model.count (cases g f n at) ≡ suc n
unfolding cases
count_cases g f zero at = refl
count_cases g f (suc n) at = ap suc (count_cases g f n (end_of (f at)))

pub kids_more : (g : ℕ → Ty) (f : ℕ → Result ℕ Refusal) (n at : ℕ) → (n ≡ 0 → ⊥) → kids g f n at ≡ cons (g at) (kids g f (n - 1) (end_of (f at)))
unfolding kids
kids_more g f zero at h = absurd (h refl)
kids_more g f (suc n) at h = rw sub-one
