-- Rows 6 and 7 of a type, from its file and its table: Never stands at some record; some entry's size is over 65,536.
use Rattle.std.specs.Prelude.{◌≡◌, List, Bool, ◌||◌, ltb, length, get_or, Ok}
use Rattle.std.proofs.Math.Path.{refl, ap}
use Rattle.std.proofs.Common.{sym, ap₂, ◌∙◌, arith, ltb-true, ltb-false, lt-ltb, le-ltb}
use Rattle.std.proofs.Math.Bool.{true, false}
use Prim.Native.Nat.{ℕ, zero, suc, ◌+◌, ◌≤◌, ◌<◌}
use Rattle.std.proofs.Math.Nat.{sub-zero}
use Rattle.model.specs.Numbers.{most_shape_records}
use Rattle.model.specs.Structural.{SType, product_of, type_records}
use Rattle.model.specs.Types.{Ty, Tys, Variants, never, bool, uint, either, option, tuple, array, list, enum, nil, cons, last, more}
use Rattle.model.specs.Lowering.{lower, lowers, large, has_never, some_never, variant_never, over_large, some_large, variant_large}
use Rattle.model.proofs.Laws.Sizes.{nodes, length_type_records}
use Rattle.types.specs.declared.Head.{Head}
use Rattle.types.specs.declared.Head.TheVariants.{Missing, Faulty, Never, Boolean, UInt, Either, Opt, Tuple, Array, Listed, Payload}
use Rattle.types.specs.declared.Head.TheVariants as head
use Rattle.types.specs.Record.{head_at, calls_for, rec_at}
use Rattle.types.specs.Walks.{opens, many, walk}
use Rattle.types.specs.Trees.{node, tree, treev}
use Rattle.types.specs.Unique.{bad_end, opened}
use Rattle.types.specs.Lows.{low}
use Rattle.table.specs.Facts.{cut, Measured}
use Rattle.table.specs.Flags.{flagged, or_assoc, anywhere, among, in_variants, flagged_type}

-- ROW 6

abbrev pub is_never : Head → Bool
is_never Missing = false
is_never Faulty = false
is_never Never = true
is_never Boolean = false
is_never (UInt w) = false
is_never Either = false
is_never Opt = false
is_never (Tuple n) = false
is_never (Array n) = false
is_never (Listed b) = false
is_never (head.Variants n) = false
is_never (Payload n) = false

pub not_never : (h : Head) → (h ≡ Never → ⊥) → false ≡ is_never h
not_never Missing n = refl
not_never Faulty n = refl
not_never Never n = absurd (n refl)
not_never Boolean n = refl
not_never (UInt w) n = refl
not_never Either n = refl
not_never Opt n = refl
not_never (Tuple k) n = refl
not_never (Array k) n = refl
not_never (Listed b) n = refl
not_never (head.Variants k) n = refl
not_never (Payload k) n = refl

abbrev type_is_never : Ty → Bool
type_is_never never = true
type_is_never bool = false
type_is_never (uint w) = false
type_is_never (either a b) = false
type_is_never (option a) = false
type_is_never (tuple ts) = false
type_is_never (array a n) = false
type_is_never (list a e) = false
type_is_never (enum vs) = false

abbrev no_variant : Tys → Bool
no_variant ts = false

mutual
  unfolding anywhere has_never

  never_anywhere : (t : Ty) → anywhere type_is_never no_variant t ≡ has_never t
  never_anywhere never = refl
  never_anywhere bool = refl
  never_anywhere (uint w) = refl
  never_anywhere (either a b) = ap₂ ◌||◌ (never_anywhere a) (never_anywhere b)
  never_anywhere (option a) = never_anywhere a
  never_anywhere (tuple ts) = never_among ts
  never_anywhere (array a n) = never_anywhere a
  never_anywhere (list a e) = never_anywhere a
  never_anywhere (enum vs) = never_variants vs

  never_among : (ts : Tys) → among type_is_never no_variant ts ≡ some_never ts
  never_among nil = refl
  never_among (cons t ts) = ap₂ ◌||◌ (never_anywhere t) (never_among ts)

  never_variants : (vs : Variants) → in_variants type_is_never no_variant vs ≡ variant_never vs
  never_variants (last ts) = never_among ts
  never_variants (more ts vs) = ap₂ ◌||◌ (never_among ts) (never_variants vs)

-- Never at record i
unfoldable pub never_at : List ℕ → ℕ → Bool
never_at s i = is_never (head_at s i)

module _ (s : List ℕ) where
  type_heads : (d p e : ℕ) (k : Head) → opens false (calls_for k) (λ b n. many (walk d b s) n p) ≡ Ok e → is_never k ≡ type_is_never (node k (tree d s) (walk d false s) (treev d s) (walk d true s) p)
  unfolding opens node
  type_heads d p e Missing q = bad_end q
  type_heads d p e Faulty q = bad_end q
  type_heads d p e Never q = refl
  type_heads d p e Boolean q = refl
  type_heads d p e (UInt w) q = refl
  type_heads d p e Either q = refl
  type_heads d p e Opt q = refl
  type_heads d p e (Tuple n) q = refl
  type_heads d p e (Array n) q = refl
  type_heads d p e (Listed b) q = refl
  type_heads d p e (head.Variants n) q = refl
  type_heads d p e (Payload n) q = bad_end q

  variant_heads : (d p e : ℕ) (k : Head) → opens true (calls_for k) (λ b n. many (walk d b s) n p) ≡ Ok e → is_never k ≡ false
  unfolding opens
  variant_heads d p e Missing q = refl
  variant_heads d p e Faulty q = refl
  variant_heads d p e Never q = bad_end q
  variant_heads d p e Boolean q = refl
  variant_heads d p e (UInt w) q = refl
  variant_heads d p e Either q = refl
  variant_heads d p e Opt q = refl
  variant_heads d p e (Tuple n) q = refl
  variant_heads d p e (Array n) q = refl
  variant_heads d p e (Listed b) q = refl
  variant_heads d p e (head.Variants n) q = refl
  variant_heads d p e (Payload n) q = refl

  type_never : (d i e : ℕ) → walk d false s i ≡ Ok e → never_at s i ≡ type_is_never (tree d s i)
  unfolding walk tree rec_at never_at
  type_never zero i e q = bad_end (opened false (rec_at s i) _ e q)
  type_never (suc d) i e q = type_heads d (i + 1) e (head_at s i) q

  variant_never_no : (d i e : ℕ) → walk d true s i ≡ Ok e → never_at s i ≡ false
  unfolding walk rec_at never_at
  variant_never_no zero i e q = bad_end (opened true (rec_at s i) _ e q)
  variant_never_no (suc d) i e q = variant_heads d (i + 1) e (head_at s i) q

  -- Never stands anywhere exactly when it stands at some record
  pub never_flagged : ((i : ℕ) → head_at s i ≡ head.Variants 0 → ⊥) → (d e : ℕ) → walk d false s 0 ≡ Ok e → flagged (never_at s) 0 e ≡ has_never (tree d s 0)
  never_flagged f d e q = ap (flagged (never_at s) 0) (sym (sub-zero e)) ∙ flagged_type type_is_never no_variant s (never_at s) type_never variant_never_no f d 0 e q ∙ never_anywhere (tree d s 0)

-- ROW 7

mutual
  unfolding anywhere over_large lower type_records

  large_anywhere : (t : Ty) → anywhere (λ t. large (lower t)) (λ ts. large (product_of (lowers ts))) t ≡ over_large t
  large_anywhere never = refl
  large_anywhere bool = refl
  large_anywhere (uint w) = refl
  large_anywhere (either a b) = ap₂ (λ x y. large (lower (either a b)) || (x || y)) (large_anywhere a) (large_anywhere b)
  large_anywhere (option a) = ap (λ x. large (lower (option a)) || x) (large_anywhere a)
  large_anywhere (tuple ts) = ap (λ x. large (lower (tuple ts)) || x) (large_among ts)
  large_anywhere (array a n) = ap (λ x. large (lower (array a n)) || x) (large_anywhere a)
  large_anywhere (list a e) = ap (λ x. large (lower (list a e)) || x) (large_anywhere a)
  large_anywhere (enum vs) = ap (λ x. large (lower (enum vs)) || x) (large_variants vs)

  large_among : (ts : Tys) → among (λ t. large (lower t)) (λ ts. large (product_of (lowers ts))) ts ≡ some_large ts
  large_among nil = refl
  large_among (cons t ts) = ap₂ ◌||◌ (large_anywhere t) (large_among ts)

  large_variants : (vs : Variants) → in_variants (λ t. large (lower t)) (λ ts. large (product_of (lowers ts))) vs ≡ variant_large vs
  large_variants (last ts) = ap (λ x. large (product_of (lowers ts)) || x) (large_among ts)
  large_variants (more ts vs) = ap₂ (λ x y. (large (product_of (lowers ts)) || x) || y) (large_among ts) (large_variants vs) ∙ or_assoc (large (product_of (lowers ts))) (some_large ts) (variant_large vs)

-- an entry's size is over 65,536
unfoldable pub large_at : List ℕ → ℕ → Bool
large_at S i = ltb most_shape_records (get_or S i 0)

cut_large : (t : SType) (n : ℕ) → n ≡ cut (nodes t) → ltb most_shape_records n ≡ large t
cut_large t n e = go (ltb most_shape_records (length (type_records t))) refl
  where
    go : (b : Bool) → ltb most_shape_records (length (type_records t)) ≡ b → ltb most_shape_records n ≡ b
    go true h = let l : most_shape_records < length (type_records t) = ltb-true _ _ h in lt-ltb most_shape_records n (omega (arith, length_type_records t))
    go false h = let l : length (type_records t) ≤ most_shape_records = ltb-false _ _ h in le-ltb most_shape_records n (omega (arith, length_type_records t))

module _ (s S W : List ℕ) (m : Measured s S W 0) where
  pub large_flagged : ((i : ℕ) → head_at s i ≡ head.Variants 0 → ⊥) → (d e : ℕ) → walk d false s 0 ≡ Ok e → flagged (large_at S) 0 e ≡ over_large (tree d s 0)
  unfolding large_at low
  large_flagged f d e q =
      ap (flagged (large_at S) 0) (sym (sub-zero e)) ∙ flagged_type (λ t. large (lower t)) (λ ts. large (product_of (lowers ts))) s (large_at S)
      (λ d i e q. cut_large (low d false s i) (get_or S i 0) (m.size i d e false (omega arith) q))
      (λ d i e q. cut_large (low d true s i) (get_or S i 0) (m.size i d e true (omega arith) q)) f d 0 e q
      ∙ large_anywhere (tree d s 0)
