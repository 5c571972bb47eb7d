-- Laws of a splice: nothing, the whole, what is there already, one element, one after the other, one within the other.
use Rattle.std.specs.Prelude.{◌≡◌, List, [], ◌∷◌, ◌++◌, ℕ, zero, suc, ◌+◌, ◌≤◌, ◌<◌, length, take, drop, set}
use Rattle.std.proofs.Common.{sym, ap, ap₂, ◌∙◌, append_assoc, append-nil, add-zero, add_assoc, zero-add, suc-add, add-one, arith, drop_of_length-le, length-append, length-take, length-drop, take-append-drop, take_at, take_all, drop-drop, take-add}
use Rattle.std.proofs.Math.Seq.{append_snoc, drop-append-add}
use Rattle.std.proofs.lemmas.List.{set_split, take-append-le, drop-append-le}
use Rattle.bits.specs.Bits.{splice}

module _ {A : Type 0} where
  pub length_splice : (l : List A) (at : ℕ) (s : List A) → at + length s ≤ length l → length (splice l at s) ≡ length l
  length_splice l at s h = simp (length-append, length-take, length-drop) (omega arith)

  -- behind the first element
  splice_cons : (x : A) (l : List A) (at : ℕ) (s : List A) → splice (x ∷ l) (suc at) s ≡ x ∷ splice l at s
  splice_cons x l at s = ap (λ n. x ∷ take at l ++ s ++ drop n (x ∷ l)) (suc-add at (length s))

  pub splice_none : (l : List A) (at : ℕ) → splice l at [] ≡ l
  splice_none l at = ap₂ (λ x n. x ++ drop n l) (append-nil (take at l)) (add-zero at) ∙ take-append-drop at l

  pub splice_whole : (l s : List A) → length s ≡ length l → splice l 0 s ≡ s
  splice_whole l s e = ap (λ x. s ++ x) (drop_of_length-le l {i = 0 + length s} (omega arith)) ∙ append-nil s

  -- what is there already
  pub splice_self : (l : List A) (at n : ℕ) → at + n ≤ length l → splice l at (take n (drop at l)) ≡ l
  splice_self l at n h =
      let e : length (take n (drop at l)) ≡ n = simp (length-take, length-drop) (omega arith) in
      ap₂ (λ x k. x ++ drop (at + k) l) (sym (take-add at n l)) e ∙ take-append-drop (at + n) l

  -- one element
  pub splice_one : (l : List A) (at : ℕ) (a : A) → at < length l → set l at a ≡ splice l at (a ∷ [])
  splice_one l at a h = set_split l at a h ∙ sym (append_snoc (take at l) a (drop (suc at) l)) ∙ ap (λ n. take at l ++ (a ∷ []) ++ drop n l) (sym (add-one at))

  -- behind the end
  splice_end : (l : List A) (at : ℕ) (s : List A) → length l ≤ at → splice l at s ≡ l ++ s
  splice_end l at s h = ap₂ (λ x y. x ++ s ++ y) (take_all at l h) (drop_of_length-le l {i = at + length s} (omega arith)) ∙ append-nil (l ++ s)

  -- one after the other
  pub splice_then : (l : List A) (at : ℕ) (s t : List A) → splice (splice l at s) (at + length s) t ≡ splice l at (s ++ t)
  splice_then l zero s t = ap₂ (λ x y. x ++ t ++ y) (take_at s r (0 + length s) (sym (zero-add (length s)))) back
    where
      r : List A
      r = drop (0 + length s) l

      back : drop (0 + length s + length t) (s ++ r) ≡ drop (0 + length (s ++ t)) l
      back =
          ap (λ n. drop (n + length t) (s ++ r)) (zero-add (length s)) ∙ drop-append-add s r (length t) ∙ drop-drop (length t) (0 + length s) l
          ∙ ap (λ n. drop n l) (add_assoc 0 (length s) (length t) ∙ ap (λ n. 0 + n) (sym (length-append s t)))
  splice_then [] (suc at) s t =
      ap (λ l. splice l (suc at + length s) t) (splice_end [] (suc at) s (omega arith)) ∙ splice_end s (suc at + length s) t (omega arith) ∙ sym (splice_end [] (suc at) (s ++ t) (omega arith))
  splice_then (x ∷ l) (suc at) s t =
      ap₂ (λ y n. splice y n t) (splice_cons x l at s) (suc-add at (length s)) ∙ splice_cons x (splice l at s) (at + length s) t
      ∙ ap {B = List A} (λ y. x ∷ y) (splice_then l at s t) ∙ sym (splice_cons x l at (s ++ t))

  -- one within the other
  pub splice_within : (l : List A) (at : ℕ) (s : List A) (k : ℕ) (t : List A) → at ≤ length l → k + length t ≤ length s → splice (splice l at s) (at + k) t ≡ splice l at (splice s k t)
  splice_within l zero s k t h q =
      ap₂ (λ x y. x ++ t ++ y) (ap (λ n. take n (s ++ r)) (zero-add k) ∙ take-append-le k s r (omega arith)) (ap (λ n. drop (n + length t) (s ++ r)) (zero-add k) ∙ drop-append-le (k + length t) s r q)
      ∙ sym (append_assoc (take k s ++ t) (drop (k + length t) s) r) ∙ ap (λ n. splice s k t ++ drop (0 + n) l) (sym (length_splice s k t q))
    where
      r : List A
      r = drop (0 + length s) l
  splice_within [] (suc at) s k t h q = absurd (omega arith)
  splice_within (x ∷ l) (suc at) s k t h q =
      ap₂ (λ y n. splice y n t) (splice_cons x l at s) (suc-add at k) ∙ splice_cons x (splice l at s) (at + k) t
      ∙ ap {B = List A} (λ y. x ∷ y) (splice_within l at s k t (omega arith) q) ∙ sym (splice_cons x l at (splice s k t))
