-- A record without an integer, written as zeros and then its first four bytes.
use Rattle.std.specs.Prelude.{◌≡◌, refl, List, [], ◌∷◌, ◌++◌, ℕ, ◌/◌, ◌%◌, ◌<◌, ◌≤◌, length, take, drop, replicate}
use Rattle.std.proofs.Common.{ap, ◌∙◌, arith}
use Rattle.std.proofs.Math.ListN.{length-take}
use mathlib.Core.Logic.{◌⊎◌, inl, inr}
use Rattle.model.specs.Bytes.{in_bytes, pack, to_bits, of_bits}
use Rattle.model.specs.ValueFiles.{rec}
use Rattle.types.specs.declared.Head.{Head}
use Rattle.types.specs.declared.Head.TheVariants.{Missing, Faulty, Never, Payload}
use Rattle.structural.specs.Writing.{put}
use Rattle.record.specs.Marks.{bytes, zeros, mark_of}

-- nothing is a value where no type stands, of a Never or of a Variant
no_mark : (h : Head) (i : ℕ) → (h ≡ Missing) ⊎ ((h ≡ Faulty) ⊎ ((h ≡ Never) ⊎ ((n : ℕ) × h ≡ Payload n))) → rec 0 0 0 0 ≡ mark_of h i
no_mark h i (inl e) = rw e refl
no_mark h i (inr (inl e)) = rw e refl
no_mark h i (inr (inr (inl e))) = rw e refl
no_mark h i (inr (inr (inr (n, e)))) = rw e refl

module _ (out : List ℕ) {z : List ℕ} (h : 36 ≤ length out) (e : z ≡ replicate (length (take 36 out)) 0) where
  cleared : z ≡ zeros 36
  cleared = let l : length (take 36 out) ≡ 36 = length-take 36 out ∙ omega arith in e ∙ ap (λ n. replicate n 0) l

  pub head_put : {kind choice n : ℕ} {f : List ℕ} → choice < 256 → n < 65536 → f ≡ kind ∷ (choice % 256) ∷ (n / 256 % 256) ∷ (n % 256) ∷ [] → f ++ drop 4 (z ++ drop 36 out) ≡ put (bytes (rec kind choice n 0)) out
  unfolding put bytes in_bytes pack to_bits of_bits
  head_put {choice = choice} {n = n} c l i =
      let a : choice % 256 ≡ choice = omega arith in
      let b : n / 256 % 256 ≡ n / 256 = omega arith in
      rw (i, cleared, a, b) refl

  zeros_put : z ++ drop 36 out ≡ put (bytes (rec 0 0 0 0)) out
  unfolding put bytes in_bytes pack to_bits of_bits
  zeros_put = rw cleared refl

  pub none_put : (h : Head) (i : ℕ) → (h ≡ Missing) ⊎ ((h ≡ Faulty) ⊎ ((h ≡ Never) ⊎ ((n : ℕ) × h ≡ Payload n))) → z ++ drop 36 out ≡ put (bytes (mark_of h i)) out
  none_put h i o = zeros_put ∙ ap (λ r. put (bytes r) out) (no_mark h i o)
