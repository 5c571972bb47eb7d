-- R-1: the most records of a shape are reached by some value and exceeded by none; and how code counts them.
-- A shape of the longer side of each sum has them, and each shape of a type that lowers is the shape of a value.
use Rattle.std.proofs.Math.Path.{◌≡◌, ap}
use Rattle.std.specs.Prelude.{refl, ◌↔◌, Bool, true, false, ℕ, zero, suc, ◌+◌, ◌-◌, ◌*◌, ◌≤◌, ◌^◌, leb, replicate}
use Rattle.std.proofs.Common.{sym, ◌∙◌, arith, add-mul, length-append, leb-true, leb-false}
use mathlib.Core.List.{List}
use Rattle.std.proofs.Math.Nat.{one-le-pow, two-pow-succ}
use Rattle.std.proofs.Math.ListN.{length}
use Rattle.model.specs.Numbers.{most_shape_records}
use Rattle.model.specs.Outcome.{Outcome, done, refused, ◌>>=◌}
use Rattle.model.specs.Bytes.{Bytes}
use Rattle.model.specs.Structural.{SType, 𝟙, ◌⊕◌, ◌⊗◌, SValue, unit, left, right, pair, Belongs, is_unit, is_left, is_right, is_pair, type_records, shape_records, product_of, block_type, partition_type}
use Rattle.model.specs.Types.{Ty}
use Rattle.model.specs.Lowering.{lower}
use Rattle.model.specs.Values.{Value, Valid, inject}
use Rattle.model.specs.ShapeFiles.{shape_file}
use Rattle.model.specs.ValueFiles.{value_file}
use Rattle.model.specs.Frames.{Place, width, frame}
use Rattle.model.specs.Room.{longest_shape, TypeRoom}
use Rattle.model.specs.Operations.{lowering, lowered, room, shaped}
use Rattle.model.proofs.Laws.Outcome.{done_injective, outcome_step}
use Rattle.model.proofs.Laws.Shapes.{inject_belongs, Reconstructs, reconstructs_shape}
use Rattle.model.proofs.Laws.ValueFiles.{bytes_value_file}
use Rattle.model.proofs.Laws.FrameFiles.{length_frame}
use Rattle.model.proofs.Laws.Sizes.{nodes, length_type_records, width_nodes, sum_array}
use Rattle.model.proofs.Laws.Lowering.{Known, known}
use Rattle.model.proofs.Laws.Operations.{shaped_is, shaped_read}

-- EXCEEDED BY NONE, REACHED BY SOME

-- no shape of the type has more
pub shape_longest : {t : SType} {s : SValue} → Belongs t s → length (shape_records s) ≤ longest_shape t
unfolding shape_records
shape_longest is_unit = omega arith
shape_longest (is_left h) = omega (arith, shape_longest h)
shape_longest (is_right h) = omega (arith, shape_longest h)
shape_longest (is_pair {s = s} {t = t} h k) = omega (arith, length-append (shape_records s) (shape_records t), shape_longest h, shape_longest k)

-- a shape that has as many
pub record Reached (t : SType) : Type 0 where
  pub shape : SValue
  pub belongs : Belongs t shape
  pub long : length (shape_records shape) ≡ longest_shape t

pub reached_by : (t : SType) → Reached t
unfolding shape_records
reached_by 𝟙 = record { shape = unit; belongs = is_unit; long = refl }
reached_by (a ⊕ b) = go (leb (longest_shape a) (longest_shape b)) refl (reached_by a) (reached_by b)
  where
    go : (c : Bool) → leb (longest_shape a) (longest_shape b) ≡ c → Reached a → Reached b → Reached (a ⊕ b)
    go true e x y = record { shape = right y.shape; belongs = is_right y.belongs; long = omega (arith, leb-true (longest_shape a) (longest_shape b) e, y.long) }
    go false e x y = record { shape = left x.shape; belongs = is_left x.belongs; long = omega (arith, leb-false (longest_shape a) (longest_shape b) e, x.long) }
reached_by (a ⊗ b) = go (reached_by a) (reached_by b)
  where
    go : Reached a → Reached b → Reached (a ⊗ b)
    go x y = record { shape = pair x.shape y.shape; belongs = is_pair x.belongs y.belongs; long = omega (arith, length-append (shape_records x.shape) (shape_records y.shape), x.long, y.long) }

-- a shape has at least one record, and the longest no more than the type
pub longest_some : (t : SType) → 1 ≤ longest_shape t
longest_some 𝟙 = omega arith
longest_some (a ⊕ b) = omega arith
longest_some (a ⊗ b) = omega arith

pub longest_nodes : (t : SType) → longest_shape t ≤ nodes t
longest_nodes 𝟙 = omega arith
longest_nodes (a ⊕ b) = omega (arith, longest_nodes a, longest_nodes b)
longest_nodes (a ⊗ b) = omega (arith, longest_nodes a, longest_nodes b)

-- THE OPERATIONS

-- what the room of a type says of its files
pub record Tells (ty : List ℕ) (r : TypeRoom) : Type 0 where
  -- the lowered type has so many records, one byte each
  pub lowered_is : (low : List ℕ) → lowered ty ≡ done low → length low ≡ r.lowered
  -- each value's frame has so many bits
  pub frame_is : (p : Place) (t : Ty) → lowering ty ≡ done t → (v : Value t) → Valid t v → length (frame p t v) ≡ r.bits
  -- no value's shape has more records, and some value's has as many
  pub exceeded_by_none : (val shape : List ℕ) → Bytes val → shaped ty val ≡ done shape → length shape ≤ r.shape
  pub reached : (val : List ℕ) × (shape : List ℕ) × Bytes val × (shaped ty val ≡ done shape) × (length shape ≡ r.shape)
  -- none of the three numbers is over 65,536
  pub fits : (r.lowered ≤ most_shape_records) × (r.bits ≤ r.lowered) × (r.shape ≤ r.lowered)

module _ (ty : List ℕ) where
  tells : (t : Ty) (k : lowering ty ≡ done t) (q : Known ty t) → Tells ty (record { lowered = length (type_records (lower t)); bits = width (lower t); shape = longest_shape (lower t) })
  unfolding lowered
  tells t k q = record {
    lowered_is = λ low h. ap length (sym (done_injective (type_records (lower t)) low (rw k at h)));
    frame_is = λ p u l. let same : u ≡ t = done_injective u t (sym l ∙ k) in rw (same) (λ v h. length_frame p t v h);
    exceeded_by_none = λ val shape c h. let s = shaped_read ty t k q val shape c h in rw s.shape_is (shape_longest (inject_belongs t s.value s.valid));
    reached = go (reached_by (lower t));
    fits = (q.size, omega (arith, width_nodes (lower t), length_type_records (lower t)), rw (length_type_records (lower t)) (longest_nodes (lower t)));
  }
    where
      go : Reached (lower t) → (val : List ℕ) × (shape : List ℕ) × Bytes val × (shaped ty val ≡ done shape) × (length shape ≡ longest_shape (lower t))
      go x = back (reconstructs_shape t q.lowers x.shape x.belongs)
        where
          back : Reconstructs t x.shape → (val : List ℕ) × (shape : List ℕ) × Bytes val × (shaped ty val ≡ done shape) × (length shape ≡ longest_shape (lower t))
          back r = (value_file t r.value, shape_file (inject t r.value), bytes_value_file t r.value q.file.allowed r.valid, shaped_is ty t k q r.value r.valid, ap (λ s. length (shape_file s)) r.back ∙ x.long)

  -- an accepted answer tells the truth
  pub room_tells : Bytes ty → (r : TypeRoom) → room ty ≡ done r → Tells ty r
  unfolding room
  room_tells b r h =
      let (t, k, e) = outcome_step (lowering ty) _ r h in
      rw (done_injective _ r e) at (tells t k (known ty t b k))

  -- and it refuses what lowering the type refuses, by the same number
  pub room_refuses : (n : ℕ) → (room ty ≡ refused n) ↔ (lowered ty ≡ refused n)
  unfolding room lowered
  room_refuses n = (go (lowering ty), back (lowering ty))
    where
      go : (o : Outcome Ty) → (◌>>=◌ {B = TypeRoom} o (λ t. done (record { lowered = length (type_records (lower t)); bits = width (lower t); shape = longest_shape (lower t) }))) ≡ refused n → (◌>>=◌ {B = List ℕ} o (λ t. done (type_records (lower t)))) ≡ refused n
      go (done t) m = absurd (let z : ◌≡◌ {A = ℕ} 0 1 = cc in omega arith)
      go (refused i) m = let z : i ≡ n = cc in ap {B = Outcome (List ℕ)} refused z

      back : (o : Outcome Ty) → (◌>>=◌ {B = List ℕ} o (λ t. done (type_records (lower t)))) ≡ refused n → (◌>>=◌ {B = TypeRoom} o (λ t. done (record { lowered = length (type_records (lower t)); bits = width (lower t); shape = longest_shape (lower t) }))) ≡ refused n
      back (done t) m = absurd (let z : ◌≡◌ {A = ℕ} 0 1 = cc in omega arith)
      back (refused i) m = let z : i ≡ n = cc in ap {B = Outcome TypeRoom} refused z

-- HOW CODE COUNTS THE MOST RECORDS

-- an array of n, n at least 1: n times the part's, and n - 1 pairs
pub longest_array : (n : ℕ) (t : SType) → 1 ≤ n → longest_shape (product_of (replicate n t)) + 1 ≡ n * longest_shape t + n
longest_array = sum_array longest_shape (λ a b. refl)

-- an option: the part's, and one
pub longest_option : (t : SType) → longest_shape (𝟙 ⊕ t) ≡ suc (longest_shape t)
longest_option t = omega (arith, longest_some t)

-- a block of n, n at least 1
longest_block : (n : ℕ) (t : SType) → 1 ≤ n → longest_shape (block_type n t) ≡ n * longest_shape t + n
longest_block n t h = omega (arith, longest_option (product_of (replicate n t)), longest_array n t h)

-- a list of bound 2 ^ suc e, with b - 1 elements: theirs, b - 1 and log2 b - 1 more
pub longest_list : (e : ℕ) (t : SType) → longest_shape (partition_type e t) ≡ (2 ^ suc e - 1) * longest_shape t + (2 ^ suc e - 1) + e
unfolding partition_type
longest_list zero t = omega (arith, longest_block 1 t (omega arith))
longest_list (suc e) t = more (2 ^ suc e) (2 ^ suc (suc e)) (longest_shape t) (longest_shape (block_type (2 ^ suc e) t)) (longest_shape (partition_type e t)) (one-le-pow (suc e) 2 (omega arith)) (two-pow-succ (suc e)) (longest_block (2 ^ suc e) t (one-le-pow (suc e) 2 (omega arith))) (longest_list e t)
  where
    more : (n b m x y : ℕ) → 1 ≤ n → b ≡ n + n → x ≡ n * m + n → y ≡ (n - 1) * m + (n - 1) + e → suc (x + y) ≡ (b - 1) * m + (b - 1) + suc e
    more n b m x y h i j k =
        let z : (b - 1) * m ≡ n * m + (n - 1) * m = ap (λ c. c * m) (omega arith) ∙ add-mul n (n - 1) m in
        omega arith
