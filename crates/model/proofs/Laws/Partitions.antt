-- Laws of lists as partitions into blocks, and of arrays.
use Rattle.std.specs.Prelude.{◌≡◌, refl, ◌⊎◌, List, [], ◌∷◌, ◌++◌, Bool, true, false, ℕ, zero, suc, ◌≤◌, ◌<◌, ◌^◌, ltb, length, take, drop, replicate}
use Rattle.std.proofs.Common.{ap, ap₂, ◌∙◌, inl, inr, arith, length-append, length-take, length-drop, take-append-drop, take_at, drop_at, ltb-true, ltb-false, lt-ltb, le-ltb}
use Rattle.std.proofs.Math.Option.{some}
use Rattle.std.proofs.Math.Nat.{two-pow-succ, one-le-pow}
use Rattle.std.proofs.lemmas.List.{length-replicate}
use Rattle.model.specs.Options.{All}
use Rattle.model.specs.Structural.{SType, SValue, right, pair, Belongs, is_unit, is_left, is_right, is_pair, product_of, tuple_of, block, block_type, partition, partition_type}
use Rattle.model.specs.Reconstruct.{as_tuple, as_block, combine}
use Rattle.model.proofs.Laws.Products.{as_tuple_tuple_of, tuple_of_belongs, Tuple, belongs_tuple, BelongAll, none_left, one_more, BelongAll-length}

-- every element belongs to t
abbrev pub Each : SType → List SValue → Type 0
Each t = All (Belongs t)

pub each_all : (t : SType) (ss : List SValue) → Each t ss → BelongAll (replicate (length ss) t) ss
each_all t [] h = none_left
each_all t (s ∷ ss) h = one_more h.0 (each_all t ss h.1)

pub all_each : (n : ℕ) (t : SType) (ss : List SValue) → BelongAll (replicate n t) ss → Each t ss
all_each zero t ss none_left = tt
all_each (suc n) t ss (one_more {ss = rs} h k) = (h, all_each n t rs k)

pub each_append : (t : SType) (ss rs : List SValue) → Each t ss → Each t rs → Each t (ss ++ rs)
each_append t [] rs h k = k
each_append t (s ∷ ss) rs h k = (h.0, each_append t ss rs h.1 k)

pub each_take : (n : ℕ) (t : SType) (ss : List SValue) → Each t ss → Each t (take n ss)
each_take zero t ss h = tt
each_take (suc n) t [] h = tt
each_take (suc n) t (s ∷ ss) h = (h.0, each_take n t ss h.1)

pub each_drop : (n : ℕ) (t : SType) (ss : List SValue) → Each t ss → Each t (drop n ss)
each_drop zero t ss h = h
each_drop (suc n) t [] h = tt
each_drop (suc n) t (s ∷ ss) h = each_drop n t ss h.1

-- arrays
pub array_belongs : (n : ℕ) (t : SType) (ss : List SValue) → length ss ≡ n → Each t ss → Belongs (product_of (replicate n t)) (tuple_of ss)
array_belongs n t ss h k = rw (← h) (tuple_of_belongs (each_all t ss k))

pub record Array (n : ℕ) (t : SType) (s : SValue) : Type 0 where
  pub parts : List SValue
  pub reads : as_tuple n s ≡ some parts
  pub size : length parts ≡ n
  pub each : Each t parts
  pub folds : tuple_of parts ≡ s

pub belongs_array : (n : ℕ) (t : SType) (s : SValue) → Belongs (product_of (replicate n t)) s → Array n t s
belongs_array n t s h = go (belongs_tuple (replicate n t) s h)
  where
    go : Tuple (replicate n t) s → Array n t s
    go u = record { parts = u.parts; reads = rw (length-replicate n t) at u.reads; size = BelongAll-length u.belong ∙ length-replicate n t; each = all_each n t u.parts u.belong; folds = u.folds }

-- blocks
pub as_block_block : (n : ℕ) (ss : List SValue) → 1 ≤ n → length ss ≡ n → as_block n (block ss) ≡ some ss
as_block_block n [] o h = absurd (omega arith)
as_block_block n (s ∷ ss) o h = as_tuple_tuple_of n (s ∷ ss) h

pub block_belongs : (n : ℕ) (t : SType) (ss : List SValue) → length ss ≡ n → Each t ss → Belongs (block_type n t) (block ss)
block_belongs n t [] h k = is_left is_unit
block_belongs n t (s ∷ ss) h k = is_right (array_belongs n t (s ∷ ss) h k)

pub record Block (n : ℕ) (t : SType) (s : SValue) : Type 0 where
  pub parts : List SValue
  pub reads : as_block n s ≡ some parts
  pub size : (length parts ≡ 0) ⊎ (length parts ≡ n)
  pub each : Each t parts
  pub folds : block parts ≡ s

block_of : (n : ℕ) (t : SType) (s : SValue) → 1 ≤ n → Array n t s → Block n t (right s)
block_of n t s o a = go a.parts a.reads a.size a.each a.folds
  where
    go : (ss : List SValue) → as_tuple n s ≡ some ss → length ss ≡ n → Each t ss → tuple_of ss ≡ s → Block n t (right s)
    go [] r z e f = absurd (omega arith)
    go (x ∷ xs) r z e f = record { parts = x ∷ xs; reads = r; size = inr z; each = e; folds = ap {B = SValue} right f }

pub belongs_block : (n : ℕ) (t : SType) (s : SValue) → 1 ≤ n → Belongs (block_type n t) s → Block n t s
belongs_block n t s o (is_left is_unit) = record { parts = []; reads = refl; size = inl refl; each = tt; folds = refl }
belongs_block n t s o (is_right {s = x} h) = block_of n t x o (belongs_array n t x h)

-- partitions
pub combine_partition : (e : ℕ) (ss : List SValue) → length ss < 2 ^ suc e → combine e (partition e ss) ≡ some ss
unfolding combine partition
combine_partition zero [] h = refl
combine_partition zero (s ∷ ss) h = as_block_block 1 (s ∷ ss) (omega arith) (omega arith)
combine_partition (suc e) ss h = go (ltb (length ss) (2 ^ suc e)) refl (combine_partition e ss) (combine_partition e (drop (2 ^ suc e) ss))
  where
    go : (b : Bool) → ltb (length ss) (2 ^ suc e) ≡ b → (length ss < 2 ^ suc e → combine e (partition e ss) ≡ some ss)
        → (length (drop (2 ^ suc e) ss) < 2 ^ suc e → combine e (partition e (drop (2 ^ suc e) ss)) ≡ some (drop (2 ^ suc e) ss))
        → combine (suc e) (partition (suc e) ss) ≡ some ss
    go true q hl hr = rw (q, partition) (rw (hl (ltb-true _ _ q)))
    go false q hl hr =
        let l : 2 ^ suc e ≤ length ss = ltb-false _ _ q in
        rw (q, partition) (rw (
          as_block_block (2 ^ suc e) (take (2 ^ suc e) ss) (one-le-pow (suc e) 2 (omega arith)) (length-take (2 ^ suc e) ss ∙ omega arith),
          hr (rw (length-drop (2 ^ suc e) ss) (omega (arith, two-pow-succ (suc e)))),
          take-append-drop (2 ^ suc e) ss,
        ))

pub partition_belongs : (e : ℕ) (t : SType) (ss : List SValue) → length ss < 2 ^ suc e → Each t ss → Belongs (partition_type e t) (partition e ss)
unfolding partition_type partition
partition_belongs zero t [] h k = is_left is_unit
partition_belongs zero t (s ∷ ss) h k = block_belongs 1 t (s ∷ ss) (omega arith) k
partition_belongs (suc e) t ss h k = go (ltb (length ss) (2 ^ suc e)) refl (partition_belongs e t ss) (partition_belongs e t (drop (2 ^ suc e) ss))
  where
    go : (b : Bool) → ltb (length ss) (2 ^ suc e) ≡ b → (length ss < 2 ^ suc e → Each t ss → Belongs (partition_type e t) (partition e ss))
        → (length (drop (2 ^ suc e) ss) < 2 ^ suc e → Each t (drop (2 ^ suc e) ss) → Belongs (partition_type e t) (partition e (drop (2 ^ suc e) ss)))
        → Belongs (partition_type (suc e) t) (partition (suc e) ss)
    go true q hl hr = rw (q, partition) (is_pair (is_left is_unit) (hl (ltb-true _ _ q) k))
    go false q hl hr =
        let l : 2 ^ suc e ≤ length ss = ltb-false _ _ q in
        rw (q, partition)
        (is_pair (block_belongs (2 ^ suc e) t (take (2 ^ suc e) ss) (length-take (2 ^ suc e) ss ∙ omega arith) (each_take (2 ^ suc e) t ss k))
        (hr (rw (length-drop (2 ^ suc e) ss) (omega (arith, two-pow-succ (suc e)))) (each_drop (2 ^ suc e) t ss k)))

pub record Partitioned (e : ℕ) (t : SType) (s : SValue) : Type 0 where
  pub parts : List SValue
  pub reads : combine e s ≡ some parts
  pub size : length parts < 2 ^ suc e
  pub each : Each t parts
  pub folds : partition e parts ≡ s

partitioned_pair : (e : ℕ) (t : SType) (b r : SValue) → Block (2 ^ suc e) t b → Partitioned e t r → Partitioned (suc e) t (pair b r)
unfolding combine partition
partitioned_pair e t b r x y = go x.parts x.reads x.size x.each x.folds
  where
    go : (ss : List SValue) → as_block (2 ^ suc e) b ≡ some ss → (length ss ≡ 0) ⊎ (length ss ≡ 2 ^ suc e) → Each t ss → block ss ≡ b → Partitioned (suc e) t (pair b r)
    go [] q z k f = record {
      parts = y.parts;
      reads = rw (q, y.reads);
      size = omega (arith, two-pow-succ (suc e));
      each = y.each;
      folds = rw (lt-ltb (length y.parts) (2 ^ suc e) y.size) (ap₂ {C = SValue} pair f y.folds);
    }
    go (s ∷ ss) q (inl z) k f = absurd (omega arith)
    go (s ∷ ss) q (inr z) k f = record {
      parts = (s ∷ ss) ++ y.parts;
      reads = rw (q, y.reads);
      size = rw (length-append (s ∷ ss) y.parts) (omega (arith, two-pow-succ (suc e)));
      each = each_append t (s ∷ ss) y.parts k y.each;
      folds = rw (le-ltb (length ((s ∷ ss) ++ y.parts)) (2 ^ suc e) (rw (length-append (s ∷ ss) y.parts) (omega arith)), take_at (s ∷ ss) y.parts (2 ^ suc e) z, drop_at (s ∷ ss) y.parts (2 ^ suc e) z)
          (ap₂ {C = SValue} pair f y.folds);
    }

pub belongs_partition : (e : ℕ) (t : SType) (s : SValue) → Belongs (partition_type e t) s → Partitioned e t s
unfolding partition_type combine partition
belongs_partition zero t s h = go (belongs_block 1 t s (omega arith) h)
  where
    go : Block 1 t s → Partitioned 0 t s
    go x = record { parts = x.parts; reads = x.reads; size = small x.size; each = x.each; folds = x.folds }
      where
        small : (length x.parts ≡ 0) ⊎ (length x.parts ≡ 1) → length x.parts < 2 ^ 1
        small (inl z) = omega arith
        small (inr z) = omega arith
belongs_partition (suc e) t s (is_pair {s = b} {t = r} h k) = partitioned_pair e t b r (belongs_block (2 ^ suc e) t b (one-le-pow (suc e) 2 (omega arith)) h) (belongs_partition e t r k)
