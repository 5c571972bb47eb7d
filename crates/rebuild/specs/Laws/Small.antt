-- How many records a reading can give: each has a place of the shape and a level of the type of its own, so for a type of d levels
-- there are at most d + 1 for each record of the shape that was read. And the surplus is no more than these.
use Rattle.std.specs.Prelude.{◌≡◌, length, get_or, take, drop, replicate, Option, Some, None, Result}
use Rattle.std.proofs.Math.Path.{refl}
use mathlib.Core.List.{List, [], ◌∷◌}
use Prim.Native.Nat.{ℕ, zero, suc, ◌+◌, ◌-◌, ◌*◌, ◌≤◌, ◌<◌, ◌^◌}
use Rattle.std.proofs.Common.{suc-mul, mul-le-mul_left, arith}
use Rattle.array.specs.Ends.{tree_end_of}
use Rattle.array.specs.Laws.{tree_end_at}
use Rattle.model.specs.Balanced.{BTree, leaf, fork, leaves, btree, fold}
use Rattle.model.specs.Types.{Ty, Tys, size}
use Rattle.types.specs.declared.Head.{Head}
use Rattle.types.specs.declared.Head.TheVariants.{Missing, Faulty, Never, Boolean, UInt, Either, Opt, Tuple, Array, Listed, Payload}
use Rattle.types.specs.declared.Head.TheVariants as head
use Rattle.types.specs.declared.Rec.{Rec}
use Rattle.types.specs.declared.Rec.TheVariants.{Gone, Wrong, Types, Enum, Variant}
use Rattle.types.specs.Record.{head_at, rec_at}
use Rattle.types.specs.Trees.{end_of, kids, node, payload, tree, treev}
use Rattle.types.specs.Trees as trees
use Rattle.rebuild.specs.declared.Read.{Read}
use Rattle.rebuild.specs.Kinds.{products, choices, bits, blocks, lists, reads, readers, cases}
use Rattle.rebuild.specs.Places.{passed, units, sums, pairs, passes, fails, at_places}
use Rattle.rebuild.specs.Reads.{Reader, plus, next, counts, reader}
use Rattle.rebuild.specs.Laws.Taken.{UnitTaken, is_unit, no_unit, unit_taken, SumTaken, is_left, is_right, no_sum, sum_taken, PairTaken, is_pair, no_pair, pair_taken}
use Rattle.reply.specs.declared.Refusal.{Refusal}

-- what was read from p on ends within the file, with at most L records of the value for each of the shape, and its surplus is among these
pub record Within (z L p e n k : ℕ) : Type 0 where
  pub after : p < e
  pub inside : e ≤ z
  pub few : n + L * p ≤ L * e
  pub part : k + p ≤ e

abbrev pub Fits : ℕ → ℕ → ℕ → Option Read → Type 0
Fits z L p (Some r) = Within z L p r.next r.records r.surplus
Fits z L p None = Unit

pub record Small (s : List ℕ) (L : ℕ) (r : Reader) : Type 0 where
  pub fits : (p : ℕ) → Fits (length s) L p (r p)

-- NUMBERS

from_next : (z L p e n k : ℕ) → Within z L (p + 1) e n k → Within z L p e n k
from_next z L p e n k h = let a = h.after in let b = h.few in let c = h.part in let m : L * p ≤ L * (p + 1) = mul-le-mul_left L (omega arith) in record { after = omega arith; inside = h.inside; few = more (L * p) (L * (p + 1)) (L * e) n m b; part = omega arith }
  where
    more : (a b c n : ℕ) → a ≤ b → n + b ≤ c → n + a ≤ c
    more a b c n e h = omega arith

then_next : (z L p m e n k i j : ℕ) → Within z L p m n i → Within z L m e k j → Within z L p e (n + k) (i + j)
then_next z L p m e n k i j h g = let a = h.after in let b = g.after in let c = h.part in let d = g.part in record { after = omega arith; inside = g.inside; few = more (L * p) (L * m) (L * e) n k h.few g.few; part = omega arith }
  where
    more : (a b c n k : ℕ) → n + a ≤ b → k + b ≤ c → n + k + a ≤ c
    more a b c n k h g = omega arith

none_read : (z L p e k : ℕ) → p < e → e ≤ z → k + p ≤ e → Within z L p e 0 k
none_read z L p e k h g i = let m : L * p ≤ L * e = mul-le-mul_left L (omega arith) in record { after = h; inside = g; few = omega arith; part = i }

deeper : (z L p e n k : ℕ) → Within z L p e n k → Within z (suc L) p e (1 + n) (0 + k)
deeper z L p e n k h = let i = h.part in let a = h.after in record { after = a; inside = h.inside; few = more (L * p) (L * e) (suc L * p) (suc L * e) n (suc-mul L p) (suc-mul L e) h.few a; part = omega arith }
  where
    more : (a b c d n : ℕ) → c ≡ a + p → d ≡ b + e → n + a ≤ b → p < e → 1 + n + c ≤ d
    more a b c d n f g h l = omega arith

wider : (z L p e n k : ℕ) → Within z L p e n k → Within z (suc L) p e n k
wider z L p e n k h = let i = h.part in let a = h.after in record { after = a; inside = h.inside; few = more (L * p) (L * e) (suc L * p) (suc L * e) n (suc-mul L p) (suc-mul L e) h.few a; part = omega arith }
  where
    more : (a b c d n : ℕ) → c ≡ a + p → d ≡ b + e → n + a ≤ b → p < e → n + c ≤ d
    more a b c d n f g h l = omega arith

pub in_file : (s : List ℕ) (p b : ℕ) → get_or s p 4 ≡ b → b < 4 → p + 1 ≤ length s
in_file [] p b e l = absurd (omega arith)
in_file (x ∷ s) zero b e l = omega arith
in_file (x ∷ s) (suc p) b e l = omega (arith, in_file s p b e l)

from_next_fits : (z L p : ℕ) (r : Option Read) → Fits z L (p + 1) r → Fits z L p r
from_next_fits z L p (Some x) h = from_next z L p x.next x.records x.surplus h
from_next_fits z L p None h = tt

plus_fits : (z L p m n i : ℕ) (r : Option Read) → Within z L p m n i → Fits z L m r → Fits z L p (plus n i r)
plus_fits z L p m n i (Some x) h g = then_next z L p m x.next n x.records i x.surplus h g
plus_fits z L p m n i None h g = tt

next_fits : (z L p : ℕ) (o : Option Read) (r : Reader) → Fits z L p o → ((m : ℕ) → Fits z L m (r m)) → Fits z L p (next o r)
next_fits z L p (Some x) r h g = plus_fits z L p x.next x.records x.surplus (r x.next) h (g x.next)
next_fits z L p None r h g = tt

one_fits : (z L p : ℕ) (r : Option Read) → Fits z L p r → Fits z (suc L) p (plus 1 0 r)
one_fits z L p (Some x) h = deeper z L p x.next x.records x.surplus h
one_fits z L p None h = tt

wider_fits : (z L p : ℕ) (r : Option Read) → Fits z L p r → Fits z (suc L) p r
wider_fits z L p (Some x) h = wider z L p x.next x.records x.surplus h
wider_fits z L p None h = tt

-- READERS

module _ (s : List ℕ) (L : ℕ) where
  pub units_small : Small s L (units counts s)
  unfolding counts
  units_small = record { fits = λ p. go p (unit_taken counts s p) }
    where
      go : (p : ℕ) → UnitTaken counts s p → Fits (length s) L p (units counts s p)
      go p (is_unit e k) = rw k (none_read (length s) L p (p + 1) 0 (omega arith) (in_file s p 0 e (omega arith)) (omega arith))
      go p (no_unit e k) = rw k tt

  pub sums_small : {l r : Reader} → Small s L l → Small s L r → Small s L (sums counts s l r)
  unfolding counts
  sums_small {l} {r} f g = record { fits = λ p. go p (sum_taken counts s p l r) }
    where
      go : (p : ℕ) → SumTaken counts s p l r → Fits (length s) L p (sums counts s l r p)
      go p (is_left e k) = rw k (from_next_fits (length s) L p (l (p + 1)) (f.fits (p + 1)))
      go p (is_right e k) = rw k (from_next_fits (length s) L p (r (p + 1)) (g.fits (p + 1)))
      go p (no_sum e i k) = rw k tt

  pub pairs_small : {l r : Reader} → Small s L l → Small s L r → Small s L (pairs counts s l r)
  unfolding counts
  pairs_small {l} {r} f g = record { fits = λ p. go p (pair_taken counts s p l r) }
    where
      go : (p : ℕ) → PairTaken counts s p l r → Fits (length s) L p (pairs counts s l r p)
      go p (is_pair e k) = rw k (next_fits (length s) L p (l (p + 1)) r (from_next_fits (length s) L p (l (p + 1)) (f.fits (p + 1))) (λ m. g.fits m))
      go p (no_pair e k) = rw k tt

  pub passes_small : Small s L (passes counts s)
  unfolding passes counts
  passes_small = record { fits = λ p. go p (tree_end_of s p) refl }
    where
      go : (p : ℕ) (o : Option ℕ) → tree_end_of s p ≡ o → Fits (length s) L p (passed counts p o)
      go p (Some e) h = let t = tree_end_at (length (drop p s)) s p e (omega arith) h in let a = t.after in none_read (length s) L p e (e - (p + 1)) t.after t.inside (omega arith)
      go p None h = tt

  pub fails_small : Small s L (fails counts s)
  unfolding counts
  fails_small = record { fits = λ p. tt }

  abbrev pub Smalls : List Reader → Type 0
  Smalls [] = Unit
  Smalls (r ∷ rs) = Small s L r × Smalls rs

  smalls_take : (n : ℕ) (rs : List Reader) → Smalls rs → Smalls (take n rs)
  smalls_take zero rs h = tt
  smalls_take (suc n) [] h = tt
  smalls_take (suc n) (r ∷ rs) h = (h.0, smalls_take n rs h.1)

  smalls_drop : (n : ℕ) (rs : List Reader) → Smalls rs → Smalls (drop n rs)
  smalls_drop zero rs h = h
  smalls_drop (suc n) [] h = tt
  smalls_drop (suc n) (r ∷ rs) h = smalls_drop n rs h.1

  pub smalls_replicate : (n : ℕ) {r : Reader} → Small s L r → Smalls (replicate n r)
  smalls_replicate zero h = tt
  smalls_replicate (suc n) h = (h, smalls_replicate n h)

  module _ (f : Reader → Reader → Reader) (d : Reader) (k : (l r : Reader) → Small s L l → Small s L r → Small s L (f l r)) (z : Small s L d) where
    fold_small : (t : BTree) (rs : List Reader) → Smalls rs → Small s L (fold f d t rs)
    unfolding fold
    fold_small leaf [] h = z
    fold_small leaf (r ∷ rs) h = h.0
    fold_small (fork l r) rs h = k _ _ (fold_small l _ (smalls_take (leaves l) rs h)) (fold_small r _ (smalls_drop (leaves l) rs h))

  pub products_small : (n : ℕ) (rs : List Reader) → Smalls rs → Small s L (products (reader s) n rs)
  unfolding products reader at_places
  products_small n = fold_small (pairs counts s) (passes counts s) (λ l r f g. pairs_small f g) passes_small (btree n)

  pub choices_small : (n : ℕ) (rs : List Reader) → Smalls rs → Small s L (choices (reader s) n rs)
  unfolding choices reader at_places
  choices_small n = fold_small (sums counts s) (fails counts s) (λ l r f g. sums_small f g) fails_small (btree n)

  pub bits_small : Small s L (bits (reader s))
  unfolding reader at_places
  bits_small = sums_small units_small units_small

  pub blocks_small : (n : ℕ) {r : Reader} → Small s L r → Small s L (blocks (reader s) n r)
  unfolding blocks reader at_places
  blocks_small n {r} h = sums_small units_small (products_small n (replicate n r) (smalls_replicate n h))

  pub lists_small : (e : ℕ) {r : Reader} → Small s L r → Small s L (lists (reader s) e r)
  unfolding lists reader at_places
  lists_small zero h = blocks_small 1 h
  lists_small (suc e) h = pairs_small (blocks_small (2 ^ suc e) h) (lists_small e h)

  pub one_small : {r : Reader} → Small s L r → Small s (suc L) (λ p. plus 1 0 (r p))
  one_small {r} h = record { fits = λ p. one_fits (length s) L p (r p) (h.fits p) }

  pub wider_small : {r : Reader} → Small s L r → Small s (suc L) r
  wider_small {r} h = record { fits = λ p. wider_fits (length s) L p (r p) (h.fits p) }

-- TYPES

module _ (s ty : List ℕ) where
  kids_small : (L : ℕ) (g : ℕ → Ty) (f : ℕ → Result ℕ Refusal) → ((p : ℕ) → Small s L (reads (reader s) (g p))) → (n p : ℕ) → Smalls s L (readers (reader s) (kids g f n p))
  unfolding kids reads reader at_places counts
  kids_small L g f h zero p = tt
  kids_small L g f h (suc n) p = (h p, kids_small L g f h n (end_of (f p)))

  -- a payload
  abbrev held : Tys → Reader
  held ts = products (reader s) (size ts) (readers (reader s) ts)

  cases_small : (L : ℕ) (g : ℕ → Tys) (f : ℕ → Result ℕ Refusal) → ((p : ℕ) → Small s L (held (g p))) → (n p : ℕ) → Smalls s L (cases (reader s) (trees.cases g f n p))
  unfolding trees.cases reads reader at_places counts
  cases_small L g f h zero p = (h p, tt)
  cases_small L g f h (suc n) p = (h p, cases_small L g f h n (end_of (f p)))

  node_small : (L : ℕ) (x : Head) (g : ℕ → Ty) (f : ℕ → Result ℕ Refusal) (h : ℕ → Tys) (k : ℕ → Result ℕ Refusal) (p : ℕ) → ((q : ℕ) → Small s L (reads (reader s) (g q))) → ((q : ℕ) → Small s L (held (h q))) → Small s (suc L) (reads (reader s) (node x g f h k p))
  unfolding node reads reader at_places counts
  node_small L Missing g f h k p a b = one_small s L (products_small s L 0 [] tt)
  node_small L Faulty g f h k p a b = one_small s L (products_small s L 0 [] tt)
  node_small L Never g f h k p a b = fails_small s (suc L)
  node_small L Boolean g f h k p a b = one_small s L (bits_small s L)
  node_small L (UInt w) g f h k p a b = one_small s L (products_small s L w.value _ (smalls_replicate s L w.value (bits_small s L)))
  node_small L Either g f h k p a b = one_small s L (sums_small s L (a p) (a (end_of (f p))))
  node_small L Opt g f h k p a b = one_small s L (sums_small s L (units_small s L) (a p))
  node_small L (Tuple n) g f h k p a b = one_small s L (products_small s L _ _ (kids_small L g f a n p))
  node_small L (Array n) g f h k p a b = one_small s L (products_small s L n _ (smalls_replicate s L n (a p)))
  node_small L (Listed c) g f h k p a b = one_small s L (lists_small s L _ (a p))
  node_small L (head.Variants n) g f h k p a b = one_small s L (choices_small s L _ _ (cases_small L h k b (n - 1) p))
  node_small L (Payload n) g f h k p a b = one_small s L (products_small s L 0 [] tt)

  payload_small : (L : ℕ) (x : Rec) (g : ℕ → Ty) (f : ℕ → Result ℕ Refusal) (p : ℕ) → ((q : ℕ) → Small s L (reads (reader s) (g q))) → Small s L (held (payload x g f p))
  unfolding payload reads reader at_places counts
  payload_small L Gone g f p a = products_small s L 0 [] tt
  payload_small L Wrong g f p a = products_small s L 0 [] tt
  payload_small L (Types n) g f p a = products_small s L 0 [] tt
  payload_small L (Enum n) g f p a = products_small s L 0 [] tt
  payload_small L (Variant n) g f p a = products_small s L _ _ (kids_small L g f a n p)

  mutual
    unfolding tree reads reader at_places counts

    pub tree_small : (d p : ℕ) → Small s (suc d) (reads (reader s) (tree d ty p))
    tree_small zero p = one_small s 0 (products_small s 0 0 [] tt)
    tree_small (suc d) p = node_small (suc d) (head_at ty p) _ _ _ _ (p + 1) (λ q. tree_small d q) (λ q. treev_small d q)

    pub treev_small : (d p : ℕ) → Small s (suc d) (held (treev d ty p))
    treev_small zero p = products_small s 1 0 [] tt
    treev_small (suc d) p = wider_small s (suc d) (payload_small (suc d) (rec_at ty p) _ _ (p + 1) (λ q. tree_small d q))
