-- Where a part's bits stand in the whole's: in a balanced sum, in an array, in a list, behind the bits that are written before it.
use Rattle.std.specs.Prelude.{◌≡◌, Bool, length, take, get_or, replicate}
use Rattle.std.proofs.Math.Path.{refl, ap}
use Rattle.std.proofs.Common.{sym, ◌∙◌, arith, length-take, length-drop, length-set, get_or-take, get_or-drop, take-take}
use mathlib.Core.List.{List, [], ◌∷◌, ◌++◌, append_assoc, append-nil}
use Rattle.std.proofs.Math.Bool.{true, false}
use Prim.Native.Nat.{ℕ, zero, suc, ◌-◌, ◌≤◌, ◌<◌, ◌^◌}
use Rattle.std.proofs.Math.Nat.{zero-sub, two-pow-succ, add-sub_of_le}
use Rattle.std.proofs.Math.Dec.{ltb}
use Rattle.std.proofs.Math.ListN.{drop, set}
use Rattle.std.proofs.Math.Seq.{take-set-le, take-set-lt, drop-set-lt, drop-set-add}
use borrow.Author.Tests.{ltb-true, ltb-false, lt-ltb, le-ltb}
use Rattle.model.specs.Options.{flat_map}
use Rattle.model.specs.Bytes.{zeros}
use Rattle.model.specs.Balanced.{BTree, leaf, fork, leaves, fold}
use Rattle.model.specs.Structural.{SType, 𝟙, SValue, unit, left, Belongs, product_of, tuple_of, balanced_sum, enum_injection, block, block_type, partition, partition_type}
use Rattle.model.specs.Frames.{Place, after, before, width, padded, bits}
use Rattle.model.specs.Parts.{lead, ahead_of_payload, ahead_in_array, ahead_in_list}
use Rattle.model.proofs.Laws.Balanced.{size_left, size_right}
use Rattle.model.proofs.Laws.Frames.{padded_zero}
use Rattle.model.proofs.Laws.Products.{bits_all, bits_tuple_of}
use Rattle.model.proofs.Laws.Partitions.{Each, each_all, each_take, each_drop}

-- whatever is put there, the outer bits are those in front, the inner ones and those behind
pub record Around {X : Type 0} (ok : X → Type 0) (inner : X → List Bool) (outer : X → List Bool) (front : List Bool) : Type 0 where
  pub back : List Bool
  pub splits : (x : X) → ok x → outer x ≡ front ++ inner x ++ back

-- one inside another
pub around : {X : Type 0} {ok : X → Type 0} {f g h : X → List Bool} {j k : List Bool} → Around ok f g j → Around ok g h k → Around ok f h (k ++ j)
around {j = j} {k = k} a b = record { back = a.back ++ b.back; splits = λ x o. b.splits x o ∙ ap (λ l. k ++ l ++ b.back) (a.splits x o) ∙ simp append_assoc }

-- another name for the outer bits, and for those in front
pub outer_is : {X : Type 0} {ok : X → Type 0} {f g h : X → List Bool} {j k : List Bool} → ((x : X) → ok x → h x ≡ g x) → j ≡ k → Around ok f g j → Around ok f h k
outer_is {f = f} q e a = record { back = a.back; splits = λ x o. q x o ∙ a.splits x o ∙ ap (λ l. l ++ f x ++ a.back) e }

-- of what is made from another thing
pub pull : {X Y : Type 0} {okX : X → Type 0} (okY : Y → Type 0) {f g : X → List Bool} {k : List Bool} (h : Y → X) → ((y : Y) → okY y → okX (h y)) → Around okX f g k → Around okY (λ y. f (h y)) (λ y. g (h y)) k
pull okY h o a = record { back = a.back; splits = λ y q. a.splits (h y) (o y q) }

pub same_around : {X : Type 0} {ok : X → Type 0} {f g : X → List Bool} → ((x : X) → ok x → g x ≡ f x) → Around ok f g []
same_around h = record { back = []; splits = λ x o. h x o ∙ sym (append-nil _) }

pub padded_around : (p : Place) (n : ℕ) {X : Type 0} (ok : X → Type 0) (f : X → List Bool) → Around ok f (λ x. padded p n (f x)) (lead p n)
padded_around after n ok f = record { back = zeros n; splits = λ x o. refl }
padded_around before n ok f = record { back = []; splits = λ x o. sym (append-nil _) }

pub cons_around : (b : Bool) {X : Type 0} (ok : X → Type 0) (f : X → List Bool) → Around ok f (λ x. b ∷ f x) (b ∷ [])
cons_around b ok f = record { back = []; splits = λ x o. ap {B = List Bool} (λ l. b ∷ l) (sym (append-nil _)) }

pub then_around : (r : List Bool) {X : Type 0} (ok : X → Type 0) (f : X → List Bool) → Around ok f (λ x. f x ++ r) []
then_around r ok f = record { back = r; splits = λ x o. refl }

pub after_around : (l : List Bool) {X : Type 0} (ok : X → Type 0) (f : X → List Bool) → Around ok f (λ x. l ++ f x) l
after_around l ok f = record { back = []; splits = λ x o. sym (append-nil _) }

-- SUMS: behind a tag

pub tagged_around : (p : Place) (b : Bool) (n : ℕ) {X : Type 0} (ok : X → Type 0) (f : X → List Bool) → Around ok f (λ x. b ∷ padded p n (f x)) (b ∷ lead p n)
tagged_around p b n ok f = around (padded_around p n ok f) (cons_around b ok (λ x. padded p n (f x)))

module _ (p : Place) where
  abbrev pub Payload : BTree → List SType → ℕ → Type 0
  Payload t ts i = Around {X = SValue} (λ s. Unit) (bits p (get_or ts i 𝟙)) (λ s. bits p (balanced_sum t ts) (enum_injection t i s)) (ahead_of_payload p t ts i)

  -- the payload of variant i
  module _ (l r : BTree) (ts : List SType) (i : ℕ) where
    abbrev a : SType
    a = balanced_sum l (take (leaves l) ts)

    abbrev b : SType
    b = balanced_sum r (drop (leaves l) ts)

    payload_left : i < leaves l → Payload l (take (leaves l) ts) i → Payload (fork l r) ts i
    unfolding ahead_of_payload enum_injection fold bits
    payload_left h c = finish (around c (tagged_around p false (width b - width a) (λ s. Unit) (λ s. bits p a (enum_injection l i s))))
      where
        finish : Around {X = SValue} (λ s. Unit) (bits p (get_or (take (leaves l) ts) i 𝟙)) (λ s. false ∷ padded p (width b - width a) (bits p a (enum_injection l i s))) ((false ∷ lead p (width b - width a)) ++ ahead_of_payload p l (take (leaves l) ts) i) → Payload (fork l r) ts i
        finish d = record { back = d.back; splits = λ s o. rw (lt-ltb i (leaves l) h, enum_injection) (d.splits s o ∙ rw (get_or-take (leaves l) ts i 𝟙 h)) }

    payload_right : leaves l ≤ i → Payload r (drop (leaves l) ts) (i - leaves l) → Payload (fork l r) ts i
    unfolding ahead_of_payload enum_injection fold bits
    payload_right h c = finish (around c (tagged_around p true (width a - width b) (λ s. Unit) (λ s. bits p b (enum_injection r (i - leaves l) s))))
      where
        finish : Around {X = SValue} (λ s. Unit) (bits p (get_or (drop (leaves l) ts) (i - leaves l) 𝟙)) (λ s. true ∷ padded p (width a - width b) (bits p b (enum_injection r (i - leaves l) s))) ((true ∷ lead p (width a - width b)) ++ ahead_of_payload p r (drop (leaves l) ts) (i - leaves l)) → Payload (fork l r) ts i
        finish d = record { back = d.back; splits = λ s o. rw (le-ltb i (leaves l) h, enum_injection) (d.splits s o ∙ rw (get_or-drop (leaves l) ts (i - leaves l) 𝟙, add-sub_of_le h)) }

  pub enum_around : (t : BTree) (ts : List SType) (i : ℕ) → length ts ≡ leaves t → i < leaves t → Payload t ts i
  unfolding ahead_of_payload enum_injection fold
  enum_around leaf [] i h k = absurd (omega arith)
  enum_around leaf (t ∷ ts) zero h k = same_around (λ s o. refl)
  enum_around leaf (t ∷ ts) (suc i) h k = absurd (omega arith)
  enum_around (fork l r) ts i h k = go (ltb i (leaves l)) refl (enum_around l (take (leaves l) ts) i (size_left l r ts h)) (enum_around r (drop (leaves l) ts) (i - leaves l) (size_right l r ts h))
    where
      go : (c : Bool) → ltb i (leaves l) ≡ c → (i < leaves l → Payload l (take (leaves l) ts) i) → (i - leaves l < leaves r → Payload r (drop (leaves l) ts) (i - leaves l)) → Payload (fork l r) ts i
      go true e x y = payload_left l r ts i (ltb-true _ _ e) (x (ltb-true _ _ e))
      go false e x y = let q : leaves l ≤ i = ltb-false _ _ e in payload_right l r ts i q (y (omega arith))

-- ARRAYS AND LISTS

pub each_set : (t : SType) (ss : List SValue) (i : ℕ) (s : SValue) → Each t ss → Belongs t s → Each t (set ss i s)
each_set t [] i s h b = tt
each_set t (x ∷ xs) zero s h b = (b, h.1)
each_set t (x ∷ xs) (suc i) s h b = (h.0, each_set t xs i s h.1 b)

module _ (p : Place) (t : SType) where
  -- the elements' bits, one behind the other
  abbrev pub run : List SValue → List Bool
  run ss = flat_map (bits p t) ss

  pub run_around : (ss : List SValue) (i : ℕ) → i < length ss → Around {X = SValue} (Belongs t) (bits p t) (λ s. run (set ss i s)) (ahead_in_array p t ss i)
  run_around [] i h = absurd (omega arith)
  run_around (x ∷ xs) zero h = then_around (run xs) (Belongs t) (bits p t)
  run_around (x ∷ xs) (suc i) h = around (run_around xs i (omega arith)) (after_around (bits p t x) (Belongs t) (λ s. run (set xs i s)))

  all_run : (n : ℕ) (ss : List SValue) → length ss ≡ n → bits_all p (replicate n t) ss ≡ run ss
  unfolding bits_all
  all_run zero [] h = refl
  all_run zero (s ∷ ss) h = absurd (omega arith)
  all_run (suc n) [] h = absurd (omega arith)
  all_run (suc n) (s ∷ ss) h = ap (λ l. bits p t s ++ l) (all_run n ss (omega arith))

  -- the bits of an array are its elements' bits in order
  pub array_bits : (n : ℕ) (ss : List SValue) → length ss ≡ n → Each t ss → bits p (product_of (replicate n t)) (tuple_of ss) ≡ run ss
  array_bits n ss h k = bits_tuple_of p (rw h at (each_all t ss k)) ∙ all_run n ss h

  -- a full block: its tag, and its elements' bits in order
  pub block_bits : (n : ℕ) (ss : List SValue) → 1 ≤ n → length ss ≡ n → Each t ss → bits p (block_type n t) (block ss) ≡ true ∷ run ss
  unfolding bits
  block_bits n [] o h k = absurd (omega arith)
  block_bits n (s ∷ ss) o h k = rw (zero-sub (width (product_of (replicate n t))), padded_zero p (bits p (product_of (replicate n t)) (tuple_of (s ∷ ss))))
      (ap {B = List Bool} (λ l. true ∷ l) (array_bits n (s ∷ ss) h k))

  block_around : (n : ℕ) (ss : List SValue) (i : ℕ) → length ss ≡ n → i < n → Each t ss → Around {X = SValue} (Belongs t) (bits p t) (λ s. bits p (block_type n t) (block (set ss i s))) (true ∷ ahead_in_array p t ss i)
  block_around n ss i h o k =
      outer_is (λ s b. block_bits n (set ss i s) (omega arith) (length-set ss i s ∙ h) (each_set t ss i s k b)) refl
      (around (run_around ss i (omega arith)) (cons_around true (Belongs t) (λ s. run (set ss i s))))

  abbrev pub Element : ℕ → List SValue → ℕ → Type 0
  Element e ss i = Around {X = SValue} (Belongs t) (bits p t) (λ s. bits p (partition_type e t) (partition e (set ss i s))) (ahead_in_list p e t ss i)

  take_take_lt : (n i : ℕ) (ss : List SValue) → i < n → take i (take n ss) ≡ take i ss
  take_take_lt n i ss h = take-take i n ss (omega arith)

  -- the three ways in which the element can lie
  module _ (e : ℕ) (ss : List SValue) (i : ℕ) (k : Each t ss) where
    lies_later : length ss < 2 ^ suc e → Element e ss i → Element (suc e) ss i
    unfolding partition partition_type bits ahead_in_list
    lies_later q c = outer_is
        (λ s o. rw (length-set ss i s, lt-ltb (length ss) (2 ^ suc e) q) refl)
        (rw (lt-ltb (length ss) (2 ^ suc e) q) refl)
        (around c (after_around (bits p (block_type (2 ^ suc e) t) (left unit)) (Belongs t) (λ s. bits p (partition_type e t) (partition e (set ss i s)))))

    lies_here : 2 ^ suc e ≤ length ss → i < 2 ^ suc e → Element (suc e) ss i
    unfolding partition partition_type bits ahead_in_list
    lies_here q o = outer_is
        (λ s w. rw (length-set ss i s, le-ltb (length ss) (2 ^ suc e) q, take-set-lt (2 ^ suc e) ss i s o, drop-set-lt (2 ^ suc e) ss i s o) refl)
        (rw (le-ltb (length ss) (2 ^ suc e) q, lt-ltb i (2 ^ suc e) o, take_take_lt (2 ^ suc e) i ss o) refl)
        (around (block_around (2 ^ suc e) (take (2 ^ suc e) ss) i (length-take (2 ^ suc e) ss ∙ omega arith) o (each_take (2 ^ suc e) t ss k))
        (then_around (bits p (partition_type e t) (partition e (drop (2 ^ suc e) ss))) (Belongs t) (λ s. bits p (block_type (2 ^ suc e) t) (block (set (take (2 ^ suc e) ss) i s)))))

    lies_behind : 2 ^ suc e ≤ length ss → 2 ^ suc e ≤ i → Element e (drop (2 ^ suc e) ss) (i - 2 ^ suc e) → Element (suc e) ss i
    unfolding partition partition_type bits ahead_in_list
    lies_behind q o c = outer_is
        (λ s w. rw (length-set ss i s, le-ltb (length ss) (2 ^ suc e) q, take-set-le (2 ^ suc e) ss i s o, drop_behind s) refl)
        (rw (le-ltb (length ss) (2 ^ suc e) q, le-ltb i (2 ^ suc e) o) refl)
        (around c (after_around (bits p (block_type (2 ^ suc e) t) (block (take (2 ^ suc e) ss))) (Belongs t) (λ s. bits p (partition_type e t) (partition e (set (drop (2 ^ suc e) ss) (i - 2 ^ suc e) s)))))
      where
        drop_behind : (s : SValue) → drop (2 ^ suc e) (set ss i s) ≡ set (drop (2 ^ suc e) ss) (i - 2 ^ suc e) s
        drop_behind s = ap (λ j. drop (2 ^ suc e) (set ss j s)) (sym (add-sub_of_le o)) ∙ drop-set-add (2 ^ suc e) ss (i - 2 ^ suc e) s

  pub list_around : (e : ℕ) (ss : List SValue) (i : ℕ) → i < length ss → length ss < 2 ^ suc e → Each t ss → Element e ss i
  unfolding partition partition_type ahead_in_list
  list_around zero ss i h b k = block_around 1 ss i (omega arith) (omega arith) k
  list_around (suc e) ss i h b k = go (ltb (length ss) (2 ^ suc e)) refl (ltb i (2 ^ suc e)) refl (list_around e ss i h) (list_around e (drop (2 ^ suc e) ss) (i - 2 ^ suc e))
    where
      n : ℕ
      n = 2 ^ suc e

      go : (x : Bool) → ltb (length ss) n ≡ x → (y : Bool) → ltb i n ≡ y → (length ss < n → Each t ss → Element e ss i)
          → (i - n < length (drop n ss) → length (drop n ss) < n → Each t (drop n ss) → Element e (drop n ss) (i - n)) → Element (suc e) ss i
      go true q y r f g = lies_later e ss i k (ltb-true _ _ q) (f (ltb-true _ _ q) k)
      go false q true r f g = lies_here e ss i k (ltb-false _ _ q) (ltb-true _ _ r)
      go false q false r f g =
          let u : n ≤ length ss = ltb-false _ _ q in
          let v : n ≤ i = ltb-false _ _ r in
          lies_behind e ss i k u v (g (rw (length-drop n ss) (omega arith)) (rw (length-drop n ss) (omega (arith, two-pow-succ (suc e)))) (each_drop n t ss k))
