-- Laws of writing a shape that is told: a tag and the shape behind it (`Stem`), or the record of a pair and its two sides (`Pair`).
use Rattle.std.specs.Prelude.{◌≡◌, refl, List, [], ◌∷◌, ℕ, suc, ◌+◌, ◌≤◌, ◌<◌, length, set}
use Rattle.std.proofs.Common.{sym, ap, ◌∙◌, arith}
use Rattle.std.proofs.Math.Option.{some, some-injective}
use Rattle.model.specs.Structural.{SValue, unit, left, right, pair, shape_records}
use Rattle.structural.specs.Writing.{Wrote}
use Rattle.structural.proofs.Laws.Writing.{rest, back, wrote_none, wrote_set, wrote_length, wrote_room, wrote_lent, wrote_as, Fork, fork_start, left_room, left_small, left_fits, right_room, fork_done, fork_small}
use Rattle.told.specs.Forms.{Told}
use Rattle.told.specs.Laws.Trees.{joined, Joined, joined_is}
use Rattle.told.specs.Laws.Lists.{tagged, tagged_is}
use Rattle.shape.specs.Forms.{Room, Ready, Placed}

-- every shape has a record
pub room_some : (x : SValue) (out : List ℕ) → Room x out → 0 < length out
unfolding shape_records
room_some unit out h = omega arith
room_some (left x) out h = omega arith
room_some (right x) out h = omega arith
room_some (pair x y) out h = omega arith

-- WHAT IS TOLD IS ONE SHAPE

same_shape : {t : Told} {x y : SValue} {m n : ℕ} → t ≡ some (x, m) → t ≡ some (y, n) → x ≡ y
same_shape {x = x} {y} {m} {n} e f = ap (λ (z : SValue × ℕ). z.0) (some-injective (x, m) (y, n) (sym e ∙ f))

same_end : {t : Told} {x y : SValue} {m n : ℕ} → t ≡ some (x, m) → t ≡ some (y, n) → m ≡ n
same_end {x = x} {y} {m} {n} e f = ap (λ (z : SValue × ℕ). z.1) (some-injective (x, m) (y, n) (sym e ∙ f))

pub ready_as : {t u : Told} {out : List ℕ} → t ≡ u → Ready t out → Ready u out
ready_as e r = record { shape = r.shape; end = r.end; told = sym e ∙ r.told; room = r.room }

pub ready_room : {t : Told} {out : List ℕ} {x : SValue} {e : ℕ} → Ready t out → t ≡ some (x, e) → Room x out
ready_room r h = rw (same_shape h r.told) r.room

pub ready_some : {t : Told} {out : List ℕ} → Ready t out → 0 < length out
ready_some {out = out} r = room_some r.shape out r.room

pub placed_as : {t u : Told} {out o : List ℕ} {next len : ℕ} → t ≡ u → Placed u out o next len → Placed t out o next len
placed_as e w = record { shape = w.shape; told = e ∙ w.told; wrote = w.wrote }

pub placed_wrote : {t : Told} {out o : List ℕ} {next len : ℕ} {x : SValue} {e : ℕ} → Placed t out o next len → t ≡ some (x, e) → Wrote (shape_records x) out o len
placed_wrote w h = wrote_as (ap shape_records (same_shape h w.told)) w.wrote

-- the buffer is as long as it was
pub placed_length : {t : Told} {out o : List ℕ} {next len : ℕ} → Ready t out → Placed t out o next len → length o ≡ length out
placed_length r w = wrote_length w.wrote (ready_room r w.told)

-- A TAG AND WHAT IS BEHIND IT

pub record Stem (b : ℕ) (t u : Told) (out : List ℕ) : Type 0 where
  pub ready : Ready t out
  pub inner : SValue
  pub told : u ≡ some (inner, ready.end)
  pub same : shape_records ready.shape ≡ b ∷ shape_records inner

stem_of : (b : ℕ) (f : SValue → SValue) → ((x : SValue) → shape_records (f x) ≡ b ∷ shape_records x) → {t u : Told} {out : List ℕ} → t ≡ tagged f u → Ready t out → Stem b t u out
stem_of b f h {u = u} e r = let g = tagged_is f u r.shape r.end (sym e ∙ r.told) in record { ready = r; inner = g.inner; told = g.told; same = ap shape_records g.same ∙ h g.inner }

pub left_stem : {t u : Told} {out : List ℕ} → t ≡ tagged left u → Ready t out → Stem 1 t u out
unfolding shape_records
left_stem = stem_of 1 left (λ x. refl)

pub right_stem : {t u : Told} {out : List ℕ} → t ≡ tagged right u → Ready t out → Stem 2 t u out
unfolding shape_records
right_stem = stem_of 2 right (λ x. refl)

module _ {b : ℕ} {t u : Told} {out : List ℕ} (f : Stem b t u out) where
  stem_total : suc (length (shape_records f.inner)) ≤ length out
  stem_total = omega (arith, ap length f.same, f.ready.room)

  begun : Wrote (b ∷ []) out (set out 0 b) 1
  begun = let l = stem_total in wrote_set (wrote_none out) b (omega arith)

  pub stem_start : 1 ≤ length (set out 0 b)
  stem_start = let l = stem_total in omega (arith, wrote_length begun (omega arith))

  pub stem_ready : Ready u (rest 1 (set out 0 b))
  stem_ready = let l = stem_total in record { shape = f.inner; end = f.ready.end; told = f.told; room = wrote_room begun (length (shape_records f.inner)) (omega arith) }

  module _ {p : List ℕ} {next len : ℕ} (w : Placed u (rest 1 (set out 0 b)) p next len) where
    pub stem_small : len + 1 ≤ length out
    stem_small = let l = stem_total in let e = (placed_wrote w f.told).len in omega arith

    pub stem_done : Placed t out (back 1 (set out 0 b) p) next (len + 1)
    stem_done =
        let l = stem_total in
        record {
          shape = f.ready.shape;
          told = f.ready.told ∙ ap (λ e. some (f.ready.shape, e)) (same_end f.told w.told);
          wrote = wrote_as f.same (wrote_lent begun (omega arith) (placed_wrote w f.told));
        }

-- THE TWO SIDES OF A PAIR

pub record Pair (t u : Told) (r : ℕ → Told) (out : List ℕ) : Type 0 where
  pub ready : Ready t out
  pub sides : Joined u r ready.shape ready.end
  pub fork : Fork 3 (shape_records sides.first) (shape_records sides.second) (shape_records ready.shape) out

pub pair_of : {t u : Told} {r : ℕ → Told} {out : List ℕ} → t ≡ joined u r → Ready t out → Pair t u r out
unfolding shape_records
pair_of {u = u} {r} e g = let s = joined_is u r g.shape g.end (sym e ∙ g.told) in record { ready = g; sides = s; fork = record { same = ap shape_records s.same; room = g.room } }

module _ {t u : Told} {r : ℕ → Told} {out : List ℕ} (f : Pair t u r out) where
  pub pair_start : 1 ≤ length (set out 0 3)
  pair_start = fork_start f.fork

  pub left_ready : Ready u (rest 1 (set out 0 3))
  left_ready = record { shape = f.sides.first; end = f.sides.middle; told = f.sides.left; room = left_room f.fork }

  module _ {p : List ℕ} {next len : ℕ} (w : Placed u (rest 1 (set out 0 3)) p next len) where
    left_wrote : Wrote (shape_records f.sides.first) (rest 1 (set out 0 3)) p len
    left_wrote = placed_wrote w f.sides.left

    right_told : r next ≡ some (f.sides.second, f.ready.end)
    right_told = ap r (same_end w.told f.sides.left) ∙ f.sides.right

    pub pair_small : len + 1 ≤ length out
    pair_small = left_small f.fork left_wrote

    pub pair_fits : len + 1 ≤ length (back 1 (set out 0 3) p)
    pair_fits = left_fits f.fork left_wrote

    pub right_ready : Ready (r next) (rest (len + 1) (back 1 (set out 0 3) p))
    right_ready = record { shape = f.sides.second; end = f.ready.end; told = right_told; room = right_room f.fork left_wrote }

    module _ {q : List ℕ} {next' len' : ℕ} (z : Placed (r next) (rest (len + 1) (back 1 (set out 0 3) p)) q next' len') where
      pub pair_done : Placed t out (back (len + 1) (back 1 (set out 0 3) p) q) next' (len' + (len + 1))
      pair_done = record {
        shape = f.ready.shape;
        told = f.ready.told ∙ ap (λ e. some (f.ready.shape, e)) (same_end right_told z.told);
        wrote = fork_done f.fork left_wrote (placed_wrote z right_told);
      }

      pub pair_total : len' + (len + 1) ≤ length out
      pair_total = fork_small f.fork left_wrote (placed_wrote z right_told)
