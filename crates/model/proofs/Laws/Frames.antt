-- Laws of frame bits: as many as the type is wide; the shape that the tags say of written bits is the shape written, and its padding is zeros;
-- and bits whose padding is zeros are those of the shape that their tags say. All for both places of the padding.
use Rattle.std.specs.Prelude.{◌≡◌, Bool, take, drop}
use Rattle.std.proofs.Math.Path.{refl, sym, ap, ap₂}
use Rattle.std.proofs.Common.{◌∙◌, length-take, length-drop, take_at}
use mathlib.Core.List.{List, [], ◌∷◌, ◌++◌, append-nil}
use Rattle.std.proofs.Math.Bool.{true, false}
use Prim.Native.Nat.{ℕ, zero, suc, ◌+◌, ◌-◌}
use native.Mathlib.Omega.{arith}
use Rattle.std.proofs.Math.ListN.{length, length-append, take-append-drop}
use Rattle.std.proofs.lemmas.List.{length-replicate}
use Rattle.std.proofs.Math.Seq.{drop_at}
use Rattle.model.specs.Options.{any}
use Rattle.model.specs.Bytes.{zeros}
use Rattle.model.specs.Structural.{SType, 𝟙, ◌⊕◌, ◌⊗◌, SValue, left, right, pair, Belongs, is_unit, is_left, is_right, is_pair}
use Rattle.model.specs.Frames.{Place, after, before, width, padded, payload_bits, beside, bits, from_bits, padding}

-- BITS THAT ARE ZERO

pub any_append : (xs ys : List Bool) → any (xs ++ ys) ≡ false → (any xs ≡ false) × (any ys ≡ false)
any_append [] ys h = (refl, h)
any_append (true ∷ xs) ys h = (h, absurd (let z : ◌≡◌ {A = ℕ} 0 1 = cc in omega arith))
any_append (false ∷ xs) ys h = any_append xs ys h

pub append_any : (xs ys : List Bool) → any xs ≡ false → any ys ≡ false → any (xs ++ ys) ≡ false
append_any [] ys h k = k
append_any (true ∷ xs) ys h k = h
append_any (false ∷ xs) ys h k = append_any xs ys h k

pub any_zeros : (n : ℕ) → any (zeros n) ≡ false
any_zeros zero = refl
any_zeros (suc n) = any_zeros n

pub zeros_any : (xs : List Bool) → any xs ≡ false → xs ≡ zeros (length xs)
zeros_any [] h = refl
zeros_any (true ∷ xs) h = absurd (let z : ◌≡◌ {A = ℕ} 0 1 = cc in omega arith)
zeros_any (false ∷ xs) h = ap {B = List Bool} (λ l. false ∷ l) (zeros_any xs h)

-- PADDING

pub length_padded : (p : Place) (n : ℕ) (xs : List Bool) → length (padded p n xs) ≡ length xs + n
length_padded after n xs = simp (length-append, length-replicate)
length_padded before n xs = simp (length-append, length-replicate) (omega arith)

pub padded_zero : (p : Place) (xs : List Bool) → padded p 0 xs ≡ xs
padded_zero after xs = append-nil xs
padded_zero before xs = refl

-- the payload of what was padded, and what stands beside it
pub payload_padded : (p : Place) (w n : ℕ) (xs : List Bool) → length xs ≡ w → payload_bits p w n (padded p n xs) ≡ xs
payload_padded after w n xs h = take_at xs (zeros n) w h
payload_padded before w n xs h = drop_at (zeros n) xs n (length-replicate n false)

pub beside_padded : (p : Place) (w n : ℕ) (xs : List Bool) → length xs ≡ w → beside p w n (padded p n xs) ≡ zeros n
beside_padded after w n xs h = drop_at xs (zeros n) w h
beside_padded before w n xs h = take_at (zeros n) xs n (length-replicate n false)

-- of w + n bits, with zeros beside the payload
pub padded_payload : (p : Place) (w n : ℕ) (xs : List Bool) → length xs ≡ w + n → any (beside p w n xs) ≡ false → xs ≡ padded p n (payload_bits p w n xs)
padded_payload after w n xs h k =
    let e : length (drop w xs) ≡ n = length-drop w xs ∙ omega arith in
    sym (take-append-drop w xs) ∙ ap (λ l. take w xs ++ l) (zeros_any (drop w xs) k ∙ ap zeros e)
padded_payload before w n xs h k =
    let e : length (take n xs) ≡ n = length-take n xs ∙ omega arith in
    sym (take-append-drop n xs) ∙ ap (λ l. l ++ drop n xs) (zeros_any (take n xs) k ∙ ap zeros e)

pub length_payload : (p : Place) (w n : ℕ) (xs : List Bool) → length xs ≡ w + n → length (payload_bits p w n xs) ≡ w
length_payload after w n xs h = length-take w xs ∙ omega arith
length_payload before w n xs h = length-drop n xs ∙ omega arith

module _ (p : Place) where
  pub length_bits : {t : SType} {s : SValue} → Belongs t s → length (bits p t s) ≡ width t
  unfolding bits
  length_bits is_unit = refl
  length_bits (is_left {a} {b} {s} h) = ap suc (length_padded p _ (bits p a s) ∙ omega (arith, length_bits h))
  length_bits (is_right {a} {b} {s} h) = ap suc (length_padded p _ (bits p b s) ∙ omega (arith, length_bits h))
  length_bits (is_pair {a} {b} {s} {t} h k) = length-append (bits p a s) (bits p b t) ∙ ap₂ ◌+◌ (length_bits h) (length_bits k)

  -- the tags of written bits say the shape
  pub from_bits_bits : {t : SType} {s : SValue} → Belongs t s → from_bits p t (bits p t s) ≡ s
  unfolding bits from_bits
  from_bits_bits is_unit = refl
  from_bits_bits (is_left {a} {b} {s} h) = ap {B = SValue} left (ap (from_bits p a) (payload_padded p (width a) (width b - width a) (bits p a s) (length_bits h)) ∙ from_bits_bits h)
  from_bits_bits (is_right {a} {b} {s} h) = ap {B = SValue} right (ap (from_bits p b) (payload_padded p (width b) (width a - width b) (bits p b s) (length_bits h)) ∙ from_bits_bits h)
  from_bits_bits (is_pair {a} {b} {s} {t} h k) =
      ap₂ {C = SValue} pair (ap (from_bits p a) (take_at (bits p a s) (bits p b t) (width a) (length_bits h)) ∙ from_bits_bits h) (ap (from_bits p b) (drop_at (bits p a s) (bits p b t) (width a) (length_bits h)) ∙ from_bits_bits k)

  -- their padding is zeros
  pub padding_bits : {t : SType} {s : SValue} → Belongs t s → any (padding p t (bits p t s)) ≡ false
  unfolding bits padding
  padding_bits is_unit = refl
  padding_bits (is_left {a} {b} {s} h) =
      rw (beside_padded p (width a) (width b - width a) (bits p a s) (length_bits h), payload_padded p (width a) (width b - width a) (bits p a s) (length_bits h))
      (append_any (zeros (width b - width a)) (padding p a (bits p a s)) (any_zeros (width b - width a)) (padding_bits h))
  padding_bits (is_right {a} {b} {s} h) =
      rw (beside_padded p (width b) (width a - width b) (bits p b s) (length_bits h), payload_padded p (width b) (width a - width b) (bits p b s) (length_bits h))
      (append_any (zeros (width a - width b)) (padding p b (bits p b s)) (any_zeros (width a - width b)) (padding_bits h))
  padding_bits (is_pair {a} {b} {s} {t} h k) =
      rw (take_at (bits p a s) (bits p b t) (width a) (length_bits h), drop_at (bits p a s) (bits p b t) (width a) (length_bits h))
      (append_any (padding p a (bits p a s)) (padding p b (bits p b t)) (padding_bits h) (padding_bits k))

  -- bits of the right length say a shape of the type
  pub from_bits_belongs : (t : SType) (xs : List Bool) → length xs ≡ width t → Belongs t (from_bits p t xs)
  unfolding from_bits
  from_bits_belongs 𝟙 xs h = is_unit
  from_bits_belongs (a ⊕ b) [] h = absurd (omega arith)
  from_bits_belongs (a ⊕ b) (false ∷ xs) h = is_left (from_bits_belongs a _ (length_payload p (width a) (width b - width a) xs (omega arith)))
  from_bits_belongs (a ⊕ b) (true ∷ xs) h = is_right (from_bits_belongs b _ (length_payload p (width b) (width a - width b) xs (omega arith)))
  from_bits_belongs (a ⊗ b) xs h = is_pair (from_bits_belongs a _ (length-take (width a) xs ∙ omega arith)) (from_bits_belongs b _ (length-drop (width a) xs ∙ omega arith))

  -- bits whose padding is zeros are those of the shape that they say
  pub bits_from_bits : (t : SType) (xs : List Bool) → length xs ≡ width t → any (padding p t xs) ≡ false → bits p t (from_bits p t xs) ≡ xs
  unfolding bits from_bits padding
  bits_from_bits 𝟙 [] h k = refl
  bits_from_bits 𝟙 (x ∷ xs) h k = absurd (omega arith)
  bits_from_bits (a ⊕ b) [] h k = absurd (omega arith)
  bits_from_bits (a ⊕ b) (false ∷ xs) h k =
      let n : length xs ≡ width a + (width b - width a) = omega arith in
      let q = any_append (beside p (width a) (width b - width a) xs) (padding p a (payload_bits p (width a) (width b - width a) xs)) k in
      ap {B = List Bool} (λ l. false ∷ l) (ap (padded p (width b - width a)) (bits_from_bits a _ (length_payload p (width a) (width b - width a) xs n) q.1) ∙ sym (padded_payload p (width a) (width b - width a) xs n q.0))
  bits_from_bits (a ⊕ b) (true ∷ xs) h k =
      let n : length xs ≡ width b + (width a - width b) = omega arith in
      let q = any_append (beside p (width b) (width a - width b) xs) (padding p b (payload_bits p (width b) (width a - width b) xs)) k in
      ap {B = List Bool} (λ l. true ∷ l) (ap (padded p (width a - width b)) (bits_from_bits b _ (length_payload p (width b) (width a - width b) xs n) q.1) ∙ sym (padded_payload p (width b) (width a - width b) xs n q.0))
  bits_from_bits (a ⊗ b) xs h k =
      let q = any_append (padding p a (take (width a) xs)) (padding p b (drop (width a) xs)) k in
      ap₂ ◌++◌ (bits_from_bits a _ (length-take (width a) xs ∙ omega arith) q.0) (bits_from_bits b _ (length-drop (width a) xs ∙ omega arith) q.1) ∙ take-append-drop (width a) xs
