-- Round trips of shapes: reconstructing the shape of a value gives the value, and a shape of the lowered type is the shape of the value reconstructed from it.
use Rattle.std.specs.Prelude.{◌≡◌, refl, Bool, true, false, get_or}
use Rattle.std.proofs.Common.{sym, ◌∙◌, arith}
use Rattle.std.proofs.Math.Path.{ap, ap₂}
use Rattle.std.proofs.Math.Logic.{inl, inr}
use mathlib.Core.List.{List, [], ◌∷◌, map}
use Rattle.std.proofs.Math.Option.{none, some}
use Prim.Native.Nat.{ℕ, zero, suc, ◌<◌}
use Rattle.std.proofs.Math.ListN.{length}
use Rattle.std.proofs.lemmas.List.{length-map}
use Rattle.model.specs.Options.{bind_o, All}
use Rattle.model.specs.Bytes.{to_bits, of_bits}
use Rattle.model.specs.Balanced.{btree, leaves}
use Rattle.model.specs.Structural.{𝟙, ◌⊕◌, SValue, left, right, Belongs, is_unit, is_left, is_right, tuple_of}
use Rattle.model.specs.Types.{Ty, Tys, Variants, never, bool, uint, either, option, tuple, array, list, enum, nil, cons, last, more, size, count}
use Rattle.model.specs.Lowering.{lower, lowers, payloads}
use Rattle.model.specs.Values.{Value, Values, Choice, Valid, Valids, ValidChoice, bit, inject, injects, index, payload}
use Rattle.model.specs.Reconstruct.{as_tuple, as_bit, reconstruct, reconstructs, choose}
use Rattle.model.proofs.Laws.Options.{map_m_map, All-map, ReadOne, ReadAll, read_all}
use Rattle.model.proofs.Laws.Bytes.{of_bits_to_bits, to_bits_of_bits, length_to_bits, of_bits_bound}
use Rattle.model.proofs.Laws.Balanced.{btree_leaves}
use Rattle.model.proofs.Laws.Products.{as_tuple_tuple_of, tuple_of_belongs, Tuple, belongs_tuple, BelongAll, none_left, one_more, leaf_injection, injection_belongs, Leaf, belongs_leaf}
use Rattle.model.proofs.Laws.Partitions.{combine_partition, partition_belongs, Partitioned, belongs_partition, Array, belongs_array, array_belongs}

-- NO NEVER

-- no Never stands anywhere
abbrev mutual
  pub Lowers : Ty → Type 0
  Lowers never = ⊥
  Lowers bool = Unit
  Lowers (uint k) = Unit
  Lowers (either a b) = Lowers a × Lowers b
  Lowers (option a) = Lowers a
  Lowers (tuple ts) = LowersAll ts
  Lowers (array a n) = Lowers a
  Lowers (list a e) = Lowers a
  Lowers (enum vs) = LowersChoice vs

  pub LowersAll : Tys → Type 0
  LowersAll nil = Unit
  LowersAll (cons t ts) = Lowers t × LowersAll ts

  pub LowersChoice : Variants → Type 0
  LowersChoice (last ts) = LowersAll ts
  LowersChoice (more ts vs) = LowersAll ts × LowersChoice vs

-- SIZES

pub length_injects : (ts : Tys) (vs : Values ts) → length (injects ts vs) ≡ size ts
unfolding inject
length_injects nil v = refl
length_injects (cons t ts) v = ap suc (length_injects ts v.1)

pub length_lowers : (ts : Tys) → length (lowers ts) ≡ size ts
unfolding lower
length_lowers nil = refl
length_lowers (cons t ts) = ap suc (length_lowers ts)

pub length_payloads : (vs : Variants) → length (payloads vs) ≡ count vs
unfolding lower
length_payloads (last ts) = refl
length_payloads (more ts vs) = ap suc (length_payloads vs)

pub count_leaves : (vs : Variants) → leaves (btree (count vs)) ≡ count vs
count_leaves (last ts) = btree_leaves 1 (omega arith)
count_leaves (more ts vs) = btree_leaves (suc (count vs)) (omega arith)

pub index_count : (vs : Variants) (c : Choice vs) → index vs c < count vs
unfolding inject
index_count (last ts) c = omega arith
index_count (more ts vs) (inl c) = omega arith
index_count (more ts vs) (inr c) = omega (arith, index_count vs c)

pub index_bound : (vs : Variants) (c : Choice vs) → index vs c < leaves (btree (count vs))
index_bound vs c = rw (count_leaves vs) (index_count vs c)

-- BITS OF AN INTEGER

pub as_bit_bit : (b : Bool) → as_bit (bit b) ≡ some b
as_bit_bit true = refl
as_bit_bit false = refl

pub all_bool : (bs : List Bool) → All (λ b. Unit) bs
all_bool [] = tt
all_bool (b ∷ bs) = (tt, all_bool bs)

pub bit_belongs : (b : Bool) → Unit {0} → Belongs (𝟙 ⊕ 𝟙) (bit b)
bit_belongs true u = is_right is_unit
bit_belongs false u = is_left is_unit

pub length_bits_of : (k n : ℕ) → length (map bit (to_bits k n)) ≡ k
length_bits_of k n = length-map (to_bits k n) bit ∙ length_to_bits k n

-- 1. reconstructing the shape of a value gives the value

mutual
  unfolding reconstruct inject

  pub reconstruct_inject : (t : Ty) (v : Value t) → Valid t v → reconstruct t (inject t v) ≡ some v
  reconstruct_inject never v h = absurd v
  reconstruct_inject bool b h = as_bit_bit b
  reconstruct_inject (uint k) n h =
      rw (as_tuple_tuple_of k (map bit (to_bits k n)) (length_bits_of k n), map_m_map (λ b. Unit) as_bit bit (λ b u. as_bit_bit b) (to_bits k n) (all_bool (to_bits k n)))
      (ap some (of_bits_to_bits k n h))
  reconstruct_inject (either a b) (inl x) h = rw (reconstruct_inject a x h)
  reconstruct_inject (either a b) (inr y) h = rw (reconstruct_inject b y h)
  reconstruct_inject (option a) none h = refl
  reconstruct_inject (option a) (some x) h = rw (reconstruct_inject a x h)
  reconstruct_inject (tuple ts) vs h = rw (as_tuple_tuple_of (size ts) (injects ts vs) (length_injects ts vs)) (reconstructs_injects ts vs h)
  reconstruct_inject (array a n) xs h =
      rw (as_tuple_tuple_of n (map (λ x. inject a x) xs) (length-map xs (λ x. inject a x) ∙ h.0)) (map_m_map (Valid a) (reconstruct a) (inject a) (reconstruct_inject a) xs h.1)
  reconstruct_inject (list a e) xs h =
      rw (combine_partition e (map (λ x. inject a x) xs) (rw (length-map xs (λ x. inject a x)) h.0)) (map_m_map (Valid a) (reconstruct a) (inject a) (reconstruct_inject a) xs h.1)
  reconstruct_inject (enum vs) c h = rw (leaf_injection (btree (count vs)) (index vs c) (payload vs c) (index_bound vs c)) (choose_payload vs c h)

  pub reconstructs_injects : (ts : Tys) (v : Values ts) → Valids ts v → reconstructs ts (injects ts v) ≡ some v
  reconstructs_injects nil v h = refl
  reconstructs_injects (cons t ts) v h = rw (reconstruct_inject t v.0 h.0, reconstructs_injects ts v.1 h.1)

  pub choose_payload : (vs : Variants) (c : Choice vs) → ValidChoice vs c → choose vs (index vs c) (payload vs c) ≡ some c
  choose_payload (last ts) c h = rw (as_tuple_tuple_of (size ts) (injects ts c) (length_injects ts c)) (reconstructs_injects ts c h)
  choose_payload (more ts vs) (inl c) h = rw (as_tuple_tuple_of (size ts) (injects ts c) (length_injects ts c), reconstructs_injects ts c h)
  choose_payload (more ts vs) (inr c) h = rw (choose_payload vs c h)

-- and the shape belongs to the lowered type

mutual
  unfolding lower inject

  pub inject_belongs : (t : Ty) (v : Value t) → Valid t v → Belongs (lower t) (inject t v)
  inject_belongs never v h = absurd v
  inject_belongs bool b h = bit_belongs b tt
  inject_belongs (uint k) n h = array_belongs k (𝟙 ⊕ 𝟙) (map bit (to_bits k n)) (length_bits_of k n) (All-map (λ b. Unit) (Belongs (𝟙 ⊕ 𝟙)) bit bit_belongs (to_bits k n) (all_bool (to_bits k n)))
  inject_belongs (either a b) (inl x) h = is_left (inject_belongs a x h)
  inject_belongs (either a b) (inr y) h = is_right (inject_belongs b y h)
  inject_belongs (option a) none h = is_left is_unit
  inject_belongs (option a) (some x) h = is_right (inject_belongs a x h)
  inject_belongs (tuple ts) vs h = tuple_of_belongs (injects_belong ts vs h)
  inject_belongs (array a n) xs h = array_belongs n (lower a) (map (inject a) xs) (length-map xs (λ x. inject a x) ∙ h.0) (All-map (Valid a) (Belongs (lower a)) (inject a) (inject_belongs a) xs h.1)
  inject_belongs (list a e) xs h = partition_belongs e (lower a) (map (inject a) xs) (rw (length-map xs (λ x. inject a x)) h.0) (All-map (Valid a) (Belongs (lower a)) (inject a) (inject_belongs a) xs h.1)
  inject_belongs (enum vs) c h = injection_belongs (btree (count vs)) (payloads vs) (index vs c) (payload vs c) (length_payloads vs ∙ sym (count_leaves vs)) (index_bound vs c) (payload_belongs vs c h)

  pub injects_belong : (ts : Tys) (v : Values ts) → Valids ts v → BelongAll (lowers ts) (injects ts v)
  injects_belong nil v h = none_left
  injects_belong (cons t ts) v h = one_more (inject_belongs t v.0 h.0) (injects_belong ts v.1 h.1)

  pub payload_belongs : (vs : Variants) (c : Choice vs) → ValidChoice vs c → Belongs (get_or (payloads vs) (index vs c) 𝟙) (payload vs c)
  payload_belongs (last ts) c h = tuple_of_belongs (injects_belong ts c h)
  payload_belongs (more ts vs) (inl c) h = tuple_of_belongs (injects_belong ts c h)
  payload_belongs (more ts vs) (inr c) h = payload_belongs vs c h

-- 2. a shape of the lowered type is the shape of the value that is reconstructed from it, and that value is valid

abbrev pub Reconstructs : (t : Ty) → SValue → Type 0
Reconstructs t = ReadOne (Valid t) (reconstruct t) (inject t)

abbrev pub ReconstructsAll : (ts : Tys) → List SValue → Type 0
ReconstructsAll ts = ReadOne (Valids ts) (reconstructs ts) (injects ts)

pub record Chosen (vs : Variants) (i : ℕ) (s : SValue) : Type 0 where
  pub choice : Choice vs
  pub reads : choose vs i s ≡ some choice
  pub valid : ValidChoice vs choice
  pub index_is : index vs choice ≡ i
  pub payload_is : payload vs choice ≡ s

module _ where
  bool_back : (s : SValue) → Belongs (𝟙 ⊕ 𝟙) s → ReadOne {A = Bool} (λ b. Unit) as_bit bit s
  bool_back s (is_left is_unit) = record { value = false; reads = refl; valid = tt; back = refl }
  bool_back s (is_right is_unit) = record { value = true; reads = refl; valid = tt; back = refl }

  uint_back : (k : ℕ) (s : SValue) (a : Array k (𝟙 ⊕ 𝟙) s) → ReadAll {A = Bool} (λ b. Unit) as_bit bit a.parts → Reconstructs (uint k) s
  unfolding reconstruct inject
  uint_back k s a r =
      let z : length r.values ≡ k = r.size ∙ a.size in
      record {
        value = of_bits r.values;
        reads = rw (a.reads, r.reads);
        valid = rw z at (of_bits_bound r.values);
        back = rw (rw z at (to_bits_of_bits r.values), r.back) a.folds;
      }

  left_back : (a b : Ty) (s : SValue) → Reconstructs a s → Reconstructs (either a b) (left s)
  unfolding reconstruct inject
  left_back a b s r = record { value = inl r.value; reads = rw r.reads; valid = r.valid; back = ap {B = SValue} left r.back }

  right_back : (a b : Ty) (s : SValue) → Reconstructs b s → Reconstructs (either a b) (right s)
  unfolding reconstruct inject
  right_back a b s r = record { value = inr r.value; reads = rw r.reads; valid = r.valid; back = ap {B = SValue} right r.back }

  some_back : (a : Ty) (s : SValue) → Reconstructs a s → Reconstructs (option a) (right s)
  unfolding reconstruct inject
  some_back a s r = record { value = some r.value; reads = rw r.reads; valid = r.valid; back = ap {B = SValue} right r.back }

  parts_back : (ts : Tys) (s : SValue) (u : Tuple (lowers ts) s) → ReconstructsAll ts u.parts → ReadOne (Valids ts) (λ x. bind_o (as_tuple (size ts) x) (λ ss. reconstructs ts ss)) (λ v. tuple_of (injects ts v)) s
  parts_back ts s u r = record { value = r.value; reads = rw (rw (length_lowers ts) at u.reads) r.reads; valid = r.valid; back = rw r.back u.folds }

  array_back : (a : Ty) (n : ℕ) (s : SValue) (u : Array n (lower a) s) → ReadAll (Valid a) (reconstruct a) (inject a) u.parts → Reconstructs (array a n) s
  unfolding reconstruct inject
  array_back a n s u r = record { value = r.values; reads = rw u.reads r.reads; valid = (r.size ∙ u.size, r.valid); back = rw r.back u.folds }

  list_back : (a : Ty) (e : ℕ) (s : SValue) (u : Partitioned e (lower a) s) → ReadAll (Valid a) (reconstruct a) (inject a) u.parts → Reconstructs (list a e) s
  unfolding reconstruct inject
  list_back a e s u r = record { value = r.values; reads = rw u.reads r.reads; valid = (rw r.size u.size, r.valid); back = rw r.back u.folds }

  enum_back : (vs : Variants) (s : SValue) (u : Leaf (btree (count vs)) (payloads vs) s) → Chosen vs u.index u.payload → Reconstructs (enum vs) s
  unfolding reconstruct inject
  enum_back vs s u c = record { value = c.choice; reads = rw u.reads c.reads; valid = c.valid; back = rw (c.index_is, c.payload_is) u.injects }

  leaf_known : (vs : Variants) (s : SValue) (u : Leaf (btree (count vs)) (payloads vs) s) → u.index < count vs
  leaf_known vs s u = omega (arith, count_leaves vs)

  cons_back : (t : Ty) (ts : Tys) (s : SValue) (ss : List SValue) → Reconstructs t s → ReconstructsAll ts ss → ReconstructsAll (cons t ts) (s ∷ ss)
  unfolding reconstruct inject
  cons_back t ts s ss r rs = record { value = (r.value, rs.value); reads = rw (r.reads, rs.reads); valid = (r.valid, rs.valid); back = ap₂ {C = List SValue} ◌∷◌ r.back rs.back }

  last_back : (ts : Tys) (s : SValue) (u : Tuple (lowers ts) s) → ReconstructsAll ts u.parts → Chosen (last ts) 0 s
  unfolding reconstruct inject
  last_back ts s u r = let p = parts_back ts s u r in record { choice = p.value; reads = p.reads; valid = p.valid; index_is = refl; payload_is = p.back }

  here_back : (ts : Tys) (vs : Variants) (s : SValue) (u : Tuple (lowers ts) s) → ReconstructsAll ts u.parts → Chosen (more ts vs) 0 s
  unfolding reconstruct inject
  here_back ts vs s u r = let p = parts_back ts s u r in record { choice = inl p.value; reads = rw p.reads; valid = p.valid; index_is = refl; payload_is = p.back }

  there_back : (ts : Tys) (vs : Variants) (i : ℕ) (s : SValue) → Chosen vs i s → Chosen (more ts vs) (suc i) s
  unfolding reconstruct inject
  there_back ts vs i s c = record { choice = inr c.choice; reads = rw c.reads; valid = c.valid; index_is = ap suc c.index_is; payload_is = c.payload_is }

mutual
  unfolding lower reconstruct inject

  pub reconstructs_shape : (t : Ty) → Lowers t → (s : SValue) → Belongs (lower t) s → Reconstructs t s
  reconstructs_shape never l s h = absurd l
  reconstructs_shape bool l s h = bool_back s h
  reconstructs_shape (uint k) l s h = let a = belongs_array k (𝟙 ⊕ 𝟙) s h in uint_back k s a (read_all (λ b. Unit) (Belongs (𝟙 ⊕ 𝟙)) as_bit bit bool_back a.parts a.each)
  reconstructs_shape (either a b) l s (is_left {s = x} h) = left_back a b x (reconstructs_shape a l.0 x h)
  reconstructs_shape (either a b) l s (is_right {s = x} h) = right_back a b x (reconstructs_shape b l.1 x h)
  reconstructs_shape (option a) l s (is_left is_unit) = record { value = none; reads = refl; valid = tt; back = refl }
  reconstructs_shape (option a) l s (is_right {s = x} h) = some_back a x (reconstructs_shape a l x h)
  reconstructs_shape (tuple ts) l s h = let u = belongs_tuple (lowers ts) s h in parts_back ts s u (reconstructs_shapes ts l u.parts u.belong)
  reconstructs_shape (array a n) l s h = let u = belongs_array n (lower a) s h in array_back a n s u (read_all (Valid a) (Belongs (lower a)) (reconstruct a) (inject a) (reconstructs_shape a l) u.parts u.each)
  reconstructs_shape (list a e) l s h = let u = belongs_partition e (lower a) s h in list_back a e s u (read_all (Valid a) (Belongs (lower a)) (reconstruct a) (inject a) (reconstructs_shape a l) u.parts u.each)
  reconstructs_shape (enum vs) l s h =
      let u = belongs_leaf (btree (count vs)) (payloads vs) s (length_payloads vs ∙ sym (count_leaves vs)) h in
      enum_back vs s u (chooses_shape vs l u.index u.payload (leaf_known vs s u) u.belongs)

  pub reconstructs_shapes : (ts : Tys) → LowersAll ts → (ss : List SValue) → BelongAll (lowers ts) ss → ReconstructsAll ts ss
  reconstructs_shapes nil l ss none_left = record { value = tt; reads = refl; valid = tt; back = refl }
  reconstructs_shapes (cons t ts) l ss (one_more {s = s} {ss = rs} h k) = cons_back t ts s rs (reconstructs_shape t l.0 s h) (reconstructs_shapes ts l.1 rs k)

  pub chooses_shape : (vs : Variants) → LowersChoice vs → (i : ℕ) (s : SValue) → i < count vs → Belongs (get_or (payloads vs) i 𝟙) s → Chosen vs i s
  chooses_shape (last ts) l zero s k h = let u = belongs_tuple (lowers ts) s h in last_back ts s u (reconstructs_shapes ts l u.parts u.belong)
  chooses_shape (last ts) l (suc i) s k h = absurd (omega arith)
  chooses_shape (more ts vs) l zero s k h = let u = belongs_tuple (lowers ts) s h in here_back ts vs s u (reconstructs_shapes ts l.0 u.parts u.belong)
  chooses_shape (more ts vs) l (suc i) s k h = there_back ts vs i s (chooses_shape vs l.1 i s (omega arith) h)
