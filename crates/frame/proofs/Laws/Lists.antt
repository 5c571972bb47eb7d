-- The frame of a list: with the bound 2 a block, else the block of half the bound and the list with that bound; a block is its tag, then its elements or zeros.
use Rattle.std.specs.Prelude.{◌≡◌, refl, Bool, true, false, List, ◌∷◌, ◌++◌, ◌⊎◌, ℕ, zero, suc, ◌-◌, ◌*◌, ◌≤◌, ◌<◌, ltb, Some, None}
use Rattle.std.proofs.Math.Path.{ap, ap₂}
use Rattle.std.proofs.Common.{◌∙◌, append-nil, inl, inr, arith}
use Rattle.std.proofs.Math.Option.{none, some}
use Rattle.num.specs.declared.NonZeroPow2Usize.{NonZeroPow2Usize}
use Rattle.num.specs.Powers.{half_bound}
use Rattle.num.specs.Laws.{no_half}
use Rattle.model.specs.Options.{pick, map_o}
use Rattle.model.specs.Bytes.{zeros}
use Rattle.model.specs.Structural.{SType, 𝟙, ◌⊕◌, right}
use Rattle.model.specs.Frames.{width, bits}
use Rattle.model.proofs.Laws.Sizes.{width_array}
use Rattle.structural.specs.declared.Parts.TheVariants as parts
use Rattle.structural.specs.Forms as structural
use Rattle.structural.proofs.Laws.Trees.{copies}
use Rattle.structural.proofs.Laws.Lists.{list_two, list_more}
use Rattle.types.specs.declared.forms.Parts.TheVariants.{Copies}
use Rattle.told.specs.Forms.{Told}
use Rattle.told.specs.Forms as told
use Rattle.told.specs.Laws.Lists.{tagged, block_told, block_share, block_none, block_some, listed_two, listed_more}
use Rattle.frame.specs.Forms.{place, Bits, and_then, framed, row, block, listed}
use Rattle.frame.proofs.Laws.Products.{framed_pair, balanced_framed}

-- BLOCKS

-- a tag before bits
abbrev pub tag_true : Bits → Bits
tag_true = map_o (λ x. (true ∷ x.0, x.1))

tag_framed : (b : SType) (o : Told) → framed (𝟙 ⊕ b) (tagged right o) ≡ tag_true (framed b o)
unfolding framed bits
tag_framed b none = refl
tag_framed b (some x) = let z : 0 - width b ≡ 0 = omega arith in ap (λ l. some (true ∷ l, x.1)) (ap (λ n. bits place b x.0 ++ zeros n) z ∙ append-nil (bits place b x.0))

module _ (d : ℕ) (s val : List ℕ) where
  -- a block without elements: the tag and zeros
  pub block_zeros : (n p v : ℕ) → block d s val n 0 p v ≡ some (false ∷ zeros (n * width (structural.standing d s p)), v)
  unfolding block framed structural.block_of bits
  block_zeros n p v =
      let b = structural.balanced parts.Copies d s n p in
      let z : width b - 0 ≡ n * width (structural.standing d s p) = (let e = ap width (copies d s n p) ∙ width_array n (structural.standing d s p) in omega arith) in
      ap (framed (𝟙 ⊕ b)) (block_none d s val p v) ∙ ap (λ m. some (false ∷ zeros m, v)) z

  -- a full one: the tag and the elements
  pub block_row : (n p v : ℕ) → 1 ≤ n → block d s val n n p v ≡ tag_true (row Copies d s val n p v)
  unfolding block structural.block_of
  block_row n p v h =
      ap (framed (𝟙 ⊕ structural.balanced parts.Copies d s n p)) (block_some d s val n p v h)
      ∙ tag_framed (structural.balanced parts.Copies d s n p) (told.balanced Copies d s val n p v)
      ∙ ap tag_true (balanced_framed Copies d s val n p v)

  -- LISTS

  pub list_block : (m p v : ℕ) (b : NonZeroPow2Usize) → None ≡ half_bound b → listed d s val b m p v ≡ block d s val 1 m p v
  unfolding listed block
  list_block m p v b h = ap₂ framed (list_two d s p b h) (listed_two d s val m p v b h)

  -- the half h of the bound b, and the share n of m elements that the block of h takes
  pub record Halved (b h : NonZeroPow2Usize) (m n p v : ℕ) : Type 0 where
    pub less : h.value < b.value
    pub most : n ≤ m
    pub others : m - n < h.value
    pub same : listed d s val b m p v ≡ and_then (block d s val h.value n p v) (listed d s val h (m - n) p)

  pub list_halved : {b h : NonZeroPow2Usize} (m n p v : ℕ) → Some h ≡ half_bound b → m < b.value → n ≡ block_share m h.value → Halved b h m n p v
  unfolding listed block
  list_halved {b} {h} m n p v q l e =
      let t = listed_more d s val m n p v q l e in
      let u = list_more d s p q in
      record {
        less = t.less;
        most = t.most;
        others = t.others;
        same = ap₂ framed u.same t.same ∙ framed_pair (structural.block_of d s h.value p) (structural.listed d s h p) (block_told d s val n p v) (told.listed d s val h (m - n) p);
      }

-- a block takes none or all that it has place for
pub share_all : (m n k : ℕ) → k ≡ block_share m n → (k ≡ 0) ⊎ (k ≡ n)
share_all m n k e = go (ltb m n) e
  where
    go : (b : Bool) → k ≡ pick b 0 n → (k ≡ 0) ⊎ (k ≡ n)
    go true e = inl e
    go false e = inr e

-- with the bound 2 there is one element at most
pub share_one : (m : ℕ) (b : NonZeroPow2Usize) → None ≡ half_bound b → m < b.value → (m ≡ 0) ⊎ (m ≡ 1)
share_one m b h l = few m (omega (arith, (no_half {b = b} h).power))
  where
    few : (m : ℕ) → m < 2 → (m ≡ 0) ⊎ (m ≡ 1)
    few zero k = inl refl
    few (suc m) k = inr (omega arith)
