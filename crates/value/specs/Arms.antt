-- One step of each walk that the code makes, as an equation of its definition. Assumes nothing.
use Rattle.std.specs.Prelude.{◌≡◌, refl, List, Result, Err, Bool, true, false, length, get_or, ltb, eqb}
use Rattle.std.proofs.Math.Path.{sym}
use Rattle.std.proofs.Common.{◌∙◌, arith}
use Prim.Native.Nat.{ℕ, zero, suc, ◌+◌, ◌-◌, ◌*◌, ◌/◌, ◌<◌, ◌≤◌, ◌^◌}
use Rattle.std.proofs.Math.Numerals.{sub-one}
use borrow.Author.Tests.{ltb-true, lt-ltb, le-ltb, ne_eqb}
use Rattle.model.specs.Options.{pick}
use Rattle.model.specs.Balanced.{btree, btree_split_index, grow}
use Rattle.model.proofs.Laws.Balanced.{split_bounds, btree_leaves, btree_fork}
use Rattle.num.specs.declared.Pow2Usize.{Pow2Usize}
use Rattle.reply.specs.declared.Refusal.{Refusal}
use Rattle.reply.specs.declared.Refusal.TheVariants.{NotOneValue}
use Rattle.types.specs.declared.Head.{Head}
use Rattle.types.specs.declared.Head.TheVariants.{Missing, Faulty, Never, Boolean, UInt, Either, Opt, Tuple, Array, Listed, Variants, Payload}
use Rattle.types.specs.Heads.{width_range}
use Rattle.value.specs.declared.Opens.{Opens}
use Rattle.value.specs.Record.{starts, choice_at, count_at}
use Rattle.value.specs.Opening.{by_choice, counted, uint_opens, list_opens, enum_opens, opens_of}
use Rattle.value.specs.Lengths.{add, blocks, tags}

-- TESTS

pub starts_there : (s : List ℕ) (v k c : ℕ) (x : Bool) → x ≡ starts s v k c → x ≡ true → v < length s / 36
unfolding starts
starts_there s v k c x e f = go (ltb v (length s / 36)) refl (sym f ∙ e)
  where
    go : (b : Bool) → ltb v (length s / 36) ≡ b → true ≡ pick b (pick (eqb (get_or s (v * 36) 0) k) (eqb (get_or s (v * 36 + 1) 0) c) false) false → v < length s / 36
    go true p h = ltb-true v (length s / 36) p
    go false p h = let z : ◌≡◌ {A = ℕ} 0 1 = cc in absurd (omega arith)

-- LISTS

pub blocks_step : (e m k : ℕ) → blocks e m k ≡ pick (eqb e 0) (add k (pick (eqb m 0) 2 1)) (pick (ltb m (2 ^ e)) (blocks (e - 1) m (add k 3)) (blocks (e - 1) (m - 2 ^ e) (add k (2 ^ e + 1))))
unfolding blocks
blocks_step zero m k = refl
blocks_step (suc e) m k = rw (sub-one, ne_eqb (suc e) 0 (λ z. omega arith))

-- ENUMS

pub tags_less : (n i k : ℕ) → 2 ≤ n → i < btree_split_index n → tags (btree n) i k ≡ tags (btree (btree_split_index n)) i (add k 1)
unfolding tags
tags_less n i k two l = let b = split_bounds n two in rw (btree_fork n two, btree_leaves (btree_split_index n) b.0, lt-ltb i (btree_split_index n) l)

pub tags_more : (n i k : ℕ) → 2 ≤ n → btree_split_index n ≤ i → tags (btree n) i k ≡ tags (btree (n - btree_split_index n)) (i - btree_split_index n) (add k 1)
unfolding tags
tags_more n i k two l = let b = split_bounds n two in rw (btree_fork n two, btree_leaves (btree_split_index n) b.0, le-ltb i (btree_split_index n) l)

pub tags_none : (n i k : ℕ) → n < 2 → k ≡ tags (btree n) i k
unfolding tags btree grow
tags_none zero i k l = refl
tags_none (suc zero) i k l = refl
tags_none (suc (suc n)) i k l = absurd (omega arith)

-- RECORDS

-- past the file's end no value stands
pub opens_past : (h : Head) (s : List ℕ) (v : ℕ) → length s / 36 ≤ v → Err NotOneValue ≡ opens_of h s v
unfolding opens_of choice_at count_at starts by_choice counted uint_opens list_opens enum_opens
opens_past Missing s v l = refl
opens_past Faulty s v l = refl
opens_past Never s v l = refl
opens_past Boolean s v l = rw (le-ltb v (length s / 36) l)
opens_past (UInt w) s v l = rw (le-ltb v (length s / 36) l)
opens_past Either s v l = rw (le-ltb v (length s / 36) l)
opens_past Opt s v l = rw (le-ltb v (length s / 36) l)
opens_past (Tuple n) s v l = rw (le-ltb v (length s / 36) l)
opens_past (Array n) s v l = rw (le-ltb v (length s / 36) l)
opens_past (Listed b) s v l = rw (le-ltb v (length s / 36) l)
opens_past (Variants n) s v l = rw (le-ltb v (length s / 36) l)
opens_past (Payload n) s v l = refl

-- KINDS

pub width_small : (w : Pow2Usize) (n : ℕ) → n ≡ w.value → n ≤ 256
width_small w n e = let r = width_range w in omega arith
