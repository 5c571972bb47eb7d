-- Laws of what stands at a bit of a frame, by the lowered type: a unit takes nothing, a pair stands side by side, and of a sum the tag tells the side.
use Rattle.std.specs.Prelude.{◌≡◌, Bool, ◌||◌, List, [], ◌∷◌, ◌++◌, length, take, drop}
use Rattle.std.proofs.Math.Path.{refl, ap, ap₂}
use Rattle.std.proofs.Common.{sym, ◌∙◌, add-one, drop-cons, drop-drop, take-take}
use Rattle.std.proofs.Math.Bool.{true, false}
use Prim.Native.Nat.{ℕ, zero, suc, ◌+◌, ◌-◌, ◌*◌, ◌≤◌, ◌<◌, max}
use native.Mathlib.Omega.{arith}
use Rattle.std.proofs.Math.Seq.{take-nil}
use Rattle.model.specs.Options.{any}
use Rattle.model.specs.Bytes.{bits_of}
use Rattle.model.specs.Structural.{SType, 𝟙, ◌⊕◌, ◌⊗◌, unit, left, right, pair}
use Rattle.model.specs.Frames.{width, from_bits, padding}
use Rattle.model.proofs.Laws.Bytes.{length_bits_of}
use Rattle.bits.specs.Bits.{bits_at}
use Rattle.accept.specs.Forms.{place, shape_at, stray_at, tag_at}

-- the bits behind some of n
drop_take : {A : Type 0} (m n : ℕ) (l : List A) → drop m (take n l) ≡ take (n - m) (drop m l)
drop_take zero n l = let e : n ≡ n - 0 = omega arith in ap (λ k. take k l) e
drop_take (suc m) zero l = let e : 0 ≡ 0 - suc m = omega arith in ap (λ k. take k (drop (suc m) l)) e
drop_take (suc m) (suc n) [] = sym (take-nil (suc n - suc m))
drop_take (suc m) (suc n) (x ∷ l) = let e : n - m ≡ suc n - suc m = omega arith in drop_take m n l ∙ ap (λ k. take k (drop m l)) e

pub any_both : (xs ys : List Bool) → any (xs ++ ys) ≡ any xs || any ys
any_both [] ys = refl
any_both (true ∷ xs) ys = refl
any_both (false ∷ xs) ys = any_both xs ys

-- parts of a run of bits
front_bits : (fr : List ℕ) (bit m n : ℕ) → m ≤ n → take m (bits_at fr bit n) ≡ bits_at fr bit m
front_bits fr bit m n h = take-take m n (drop bit (bits_of fr)) h

back_bits : (fr : List ℕ) (bit m n : ℕ) → drop m (bits_at fr bit n) ≡ bits_at fr (bit + m) (n - m)
back_bits fr bit m n = drop_take m n (drop bit (bits_of fr)) ∙ ap (take (n - m)) (drop-drop m bit (bits_of fr))

-- a run begins with its first bit
pub first_bit : (fr : List ℕ) (bit n : ℕ) → bit < 8 * length fr → bits_at fr bit (suc n) ≡ tag_at fr bit ∷ bits_at fr (bit + 1) n
first_bit fr bit n h = ap (take (suc n)) (drop-cons (bits_of fr) bit false (omega (arith, length_bits_of fr))) ∙ ap (λ i. tag_at fr bit ∷ take n (drop i (bits_of fr))) (sym (add-one bit))

module _ (fr : List ℕ) (bit : ℕ) where
  pub unit_shape : shape_at 𝟙 fr bit ≡ unit
  unfolding shape_at from_bits
  unit_shape = refl

  pub unit_stray : stray_at 𝟙 fr bit ≡ false
  unfolding stray_at padding
  unit_stray = refl

  module _ (a b : SType) where
    left_part : take (width a) (bits_at fr bit (width a + width b)) ≡ bits_at fr bit (width a)
    left_part = front_bits fr bit (width a) (width a + width b) (omega arith)

    right_part : drop (width a) (bits_at fr bit (width a + width b)) ≡ bits_at fr (bit + width a) (width b)
    right_part = let e : width a + width b - width a ≡ width b = omega arith in back_bits fr bit (width a) (width a + width b) ∙ ap (bits_at fr (bit + width a)) e

    pub pair_shape : shape_at (a ⊗ b) fr bit ≡ pair (shape_at a fr bit) (shape_at b fr (bit + width a))
    unfolding shape_at from_bits
    pair_shape = ap₂ (λ x y. pair (from_bits place a x) (from_bits place b y)) left_part right_part

    pub pair_stray : stray_at (a ⊗ b) fr bit ≡ stray_at a fr bit || stray_at b fr (bit + width a)
    unfolding stray_at padding
    pair_stray = any_both (padding place a (take (width a) (bits_at fr bit (width a + width b)))) (padding place b (drop (width a) (bits_at fr bit (width a + width b)))) ∙ ap₂ (λ x y. any (padding place a x) || any (padding place b y)) left_part right_part

    -- the side that the tag tells, and the padding place it
    module _ (h : bit < 8 * length fr) where
      tagged : (x : Bool) → tag_at fr bit ≡ x → bits_at fr bit (width (a ⊕ b)) ≡ x ∷ bits_at fr (bit + 1) (max (width a) (width b))
      tagged x e = first_bit fr bit (max (width a) (width b)) h ∙ ap (λ y. y ∷ bits_at fr (bit + 1) (max (width a) (width b))) e

      pub left_shape : tag_at fr bit ≡ false → shape_at (a ⊕ b) fr bit ≡ left (shape_at a fr (bit + 1))
      unfolding shape_at from_bits
      left_shape e = ap (from_bits place (a ⊕ b)) (tagged false e) ∙ ap (λ x. left (from_bits place a x)) (front_bits fr (bit + 1) (width a) (max (width a) (width b)) (omega arith))

      pub right_shape : tag_at fr bit ≡ true → shape_at (a ⊕ b) fr bit ≡ right (shape_at b fr (bit + 1))
      unfolding shape_at from_bits
      right_shape e = ap (from_bits place (a ⊕ b)) (tagged true e) ∙ ap (λ x. right (from_bits place b x)) (front_bits fr (bit + 1) (width b) (max (width a) (width b)) (omega arith))

      pub left_stray : tag_at fr bit ≡ false → stray_at (a ⊕ b) fr bit ≡ any (bits_at fr (bit + 1 + width a) (width b - width a)) || stray_at a fr (bit + 1)
      unfolding stray_at padding
      left_stray e =
          let m = max (width a) (width b) in
          let i : m - width a ≡ width b - width a = omega arith in
          ap (λ x. any (padding place (a ⊕ b) x)) (tagged false e)
          ∙ any_both (drop (width a) (bits_at fr (bit + 1) m)) (padding place a (take (width a) (bits_at fr (bit + 1) m)))
          ∙ ap₂ (λ x y. any x || any (padding place a y)) (back_bits fr (bit + 1) (width a) m ∙ ap (bits_at fr (bit + 1 + width a)) i) (front_bits fr (bit + 1) (width a) m (omega arith))

      pub right_stray : tag_at fr bit ≡ true → stray_at (a ⊕ b) fr bit ≡ any (bits_at fr (bit + 1 + width b) (width a - width b)) || stray_at b fr (bit + 1)
      unfolding stray_at padding
      right_stray e =
          let m = max (width a) (width b) in
          let i : m - width b ≡ width a - width b = omega arith in
          ap (λ x. any (padding place (a ⊕ b) x)) (tagged true e)
          ∙ any_both (drop (width b) (bits_at fr (bit + 1) m)) (padding place b (take (width b) (bits_at fr (bit + 1) m)))
          ∙ ap₂ (λ x y. any x || any (padding place b y)) (back_bits fr (bit + 1) (width b) m ∙ ap (bits_at fr (bit + 1 + width b)) i) (front_bits fr (bit + 1) (width b) m (omega arith))
