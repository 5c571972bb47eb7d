-- Rows 6 and 7 by records: something holds of some type in a type, or of some payload type in it, exactly when it holds at some record of its file.
use Rattle.std.specs.Prelude.{◌≡◌, List, Bool, Result, Ok}
use Rattle.std.proofs.Math.Path.{refl, ap, ap₂}
use Rattle.std.proofs.Common.{sym, ◌∙◌, zero-add, suc-add}
use Rattle.std.proofs.Math.Bool.{true, false, ◌||◌}
use Prim.Native.Nat.{ℕ, zero, suc, ◌+◌, ◌-◌, ◌≤◌, ◌<◌}
use native.Mathlib.Omega.{arith}
use Rattle.model.specs.Types.{Ty, Tys, Variants, never, bool, uint, either, option, tuple, array, list, enum, nil, cons, last, more}
use Rattle.reply.specs.declared.Refusal.{Refusal}
use Rattle.types.specs.declared.Head.{Head}
use Rattle.types.specs.declared.Head.TheVariants.{Missing, Faulty, Never, Boolean, UInt, Either, Opt, Tuple, Array, Listed, Payload}
use Rattle.types.specs.declared.Head.TheVariants as head
use Rattle.types.specs.Record.{head_at, calls_for, rec_at}
use Rattle.types.specs.Walks.{opens, many, walk}
use Rattle.types.specs.Trees.{end_of, kids, cases, node, payload, tree, treev}
use Rattle.types.specs.Unique.{bad_end, opened}
use Rattle.types.specs.Runs.{up}
use Rattle.table.specs.Rows.{First, first_of}

-- of some of the n records from p on
unfoldable pub flagged : (ℕ → Bool) → ℕ → ℕ → Bool
flagged f p zero = false
flagged f p (suc n) = f p || flagged f (p + 1) n

pub or_assoc : (a b c : Bool) → (a || b) || c ≡ a || (b || c)
or_assoc true b c = refl
or_assoc false b c = refl

or_false : (a : Bool) → a || false ≡ a
or_false true = refl
or_false false = refl

pub flagged_add : (f : ℕ → Bool) (p m n : ℕ) → flagged f p (m + n) ≡ flagged f p m || flagged f (p + m) n
unfolding flagged
flagged_add f p zero n = ap₂ (flagged f) (omega arith) (zero-add n)
flagged_add f p (suc m) n =
    ap (flagged f p) (suc-add m n) ∙ ap (λ b. f p || b) (flagged_add f (p + 1) m n ∙ ap (λ q. flagged f (p + 1) m || flagged f q n) (omega arith)) ∙ sym (or_assoc (f p) (flagged f (p + 1) m) (flagged f (p + suc m) n))

-- F of a type and G of the types in a Variant, anywhere in a type
module _ (F : Ty → Bool) (G : Tys → Bool) where
  unfoldable mutual
    pub anywhere : Ty → Bool
    anywhere never = F never
    anywhere bool = F bool
    anywhere (uint w) = F (uint w)
    anywhere (either a b) = F (either a b) || (anywhere a || anywhere b)
    anywhere (option a) = F (option a) || anywhere a
    anywhere (tuple ts) = F (tuple ts) || among ts
    anywhere (array a n) = F (array a n) || anywhere a
    anywhere (list a e) = F (list a e) || anywhere a
    anywhere (enum vs) = F (enum vs) || in_variants vs

    pub among : Tys → Bool
    among nil = false
    among (cons t ts) = anywhere t || among ts

    pub in_variants : Variants → Bool
    in_variants (last ts) = G ts || among ts
    in_variants (more ts vs) = (G ts || among ts) || in_variants vs

  -- by records: f says it at each record
  module _ (s : List ℕ) (f : ℕ → Bool) (h : (d i e : ℕ) → walk d false s i ≡ Ok e → f i ≡ F (tree d s i)) (k : (d i e : ℕ) → walk d true s i ≡ Ok e → f i ≡ G (treev d s i)) where
    abbrev AtType : ℕ → Type 0
    AtType d = (p e : ℕ) → walk d false s p ≡ Ok e → flagged f p (e - p) ≡ anywhere (tree d s p)

    abbrev AtVariant : ℕ → Type 0
    AtVariant d = (p e : ℕ) → walk d true s p ≡ Ok e → flagged f p (e - p) ≡ G (treev d s p) || among (treev d s p)

    -- rows go on
    many_up : (d : ℕ) (v : Bool) (n p e : ℕ) → many (walk d v s) n p ≡ Ok e → p ≤ e
    unfolding many
    many_up d v zero p e q = let z : p ≡ e = cc in omega arith
    many_up d v (suc n) p e q =
        let x = first_of d v s n p e q in
        let l = up d v s p x.end x.walks in
        let r = many_up d v n (end_of (walk d v s p)) e x.rest in
        let z = ap end_of x.walks in omega arith

    row : (d : ℕ) (v : Bool) (n p e : ℕ) (x : First d v s n p e) → flagged f p (e - p) ≡ flagged f p (x.end - p) || flagged f (end_of (walk d v s p)) (e - end_of (walk d v s p))
    row d v n p e x =
        let l = up d v s p x.end x.walks in
        let z = ap end_of x.walks in
        let r = many_up d v n (end_of (walk d v s p)) e x.rest in
        ap (flagged f p) (omega arith) ∙ flagged_add f p (x.end - p) (e - x.end) ∙ ap₂ (λ a b. flagged f p (x.end - p) || flagged f a b) (omega arith) (omega arith)

    kids_flagged : (d : ℕ) → AtType d → (n p e : ℕ) → many (walk d false s) n p ≡ Ok e → flagged f p (e - p) ≡ among (kids (tree d s) (walk d false s) n p)
    unfolding many kids anywhere flagged
    kids_flagged d ih zero p e q = let z : p ≡ e = cc in let o : e - p ≡ 0 = omega arith in ap (flagged f p) o
    kids_flagged d ih (suc n) p e q =
        let x = first_of d false s n p e q in
        row d false n p e x ∙ ap₂ ◌||◌ (ih p x.end x.walks) (kids_flagged d ih n (end_of (walk d false s p)) e x.rest)

    cases_flagged : (d : ℕ) → AtVariant d → (n p e : ℕ) → many (walk d true s) (suc n) p ≡ Ok e → flagged f p (e - p) ≡ in_variants (cases (treev d s) (walk d true s) n p)
    unfolding cases anywhere flagged many
    cases_flagged d iv zero p e q =
        let x = first_of d true s 0 p e q in
        let z : end_of (walk d true s p) ≡ e = let r = x.rest in cc in
        let o : e - end_of (walk d true s p) ≡ 0 = omega arith in
        row d true 0 p e x ∙ ap₂ ◌||◌ (iv p x.end x.walks) (ap (flagged f (end_of (walk d true s p))) o) ∙ or_false _
    cases_flagged d iv (suc n) p e q =
        let x = first_of d true s (suc n) p e q in
        row d true (suc n) p e x ∙ ap₂ ◌||◌ (iv p x.end x.walks) (cases_flagged d iv n (end_of (walk d true s p)) e x.rest)

    none_below : (b : Bool) (p e : ℕ) → ◌≡◌ {A = Result ℕ Refusal} (Ok p) (Ok e) → b || flagged f p (e - p) ≡ b
    unfolding flagged
    none_below b p e q = let z : p ≡ e = cc in let o : e - p ≡ 0 = omega arith in ap (λ n. b || flagged f p n) o ∙ or_false b

    -- a record and what stands below it
    here : (p e : ℕ) → p < e → flagged f p (e - p) ≡ f p || flagged f (p + 1) (e - (p + 1))
    unfolding flagged
    here p e l = let o : e - p ≡ suc (e - (p + 1)) = omega arith in ap (flagged f p) o

    below : (d : ℕ) → AtType d → AtVariant d → (x : Head) (p e : ℕ) → (x ≡ head.Variants 0 → ⊥) → opens false (calls_for x) (λ b n. many (walk d b s) n p) ≡ Ok e
        → F (node x (tree d s) (walk d false s) (treev d s) (walk d true s) p) || flagged f p (e - p) ≡ anywhere (node x (tree d s) (walk d false s) (treev d s) (walk d true s) p)
    unfolding opens node anywhere many kids
    below d ih iv Missing p e o q = bad_end q
    below d ih iv Faulty p e o q = bad_end q
    below d ih iv Never p e o q = none_below (F never) p e q
    below d ih iv Boolean p e o q = none_below (F bool) p e q
    below d ih iv (UInt w) p e o q = none_below (F (uint w.value)) p e q
    below d ih iv Either p e o q = rw (kids_flagged d ih 2 p e q, or_false (anywhere (tree d s (end_of (walk d false s p))))) refl
    below d ih iv Opt p e o q = rw (kids_flagged d ih 1 p e q, or_false (anywhere (tree d s p))) refl
    below d ih iv (Tuple n) p e o q = rw (kids_flagged d ih n p e q) refl
    below d ih iv (Array n) p e o q = rw (kids_flagged d ih 1 p e q, or_false (anywhere (tree d s p))) refl
    below d ih iv (Listed b) p e o q = rw (kids_flagged d ih 1 p e q, or_false (anywhere (tree d s p))) refl
    below d ih iv (head.Variants zero) p e o q = absurd (o refl)
    below d ih iv (head.Variants (suc n)) p e o q = let z : suc n - 1 ≡ n = omega arith in rw (z, cases_flagged d iv n p e q) refl
    below d ih iv (Payload n) p e o q = bad_end q

    below_variant : (d : ℕ) → AtType d → (x : Head) (p e : ℕ) → opens true (calls_for x) (λ b n. many (walk d b s) n p) ≡ Ok e → flagged f p (e - p) ≡ among (payload (calls_for x) (tree d s) (walk d false s) p)
    unfolding opens payload
    below_variant d ih Missing p e q = bad_end q
    below_variant d ih Faulty p e q = bad_end q
    below_variant d ih Never p e q = bad_end q
    below_variant d ih Boolean p e q = bad_end q
    below_variant d ih (UInt w) p e q = bad_end q
    below_variant d ih Either p e q = bad_end q
    below_variant d ih Opt p e q = bad_end q
    below_variant d ih (Tuple n) p e q = bad_end q
    below_variant d ih (Array n) p e q = bad_end q
    below_variant d ih (Listed b) p e q = bad_end q
    below_variant d ih (head.Variants n) p e q = bad_end q
    below_variant d ih (Payload n) p e q = kids_flagged d ih n p e q

    -- an Enum has a Variant
    module _ (fair : (i : ℕ) → head_at s i ≡ head.Variants 0 → ⊥) where
      both : (d : ℕ) → AtType d × AtVariant d
      unfolding walk tree rec_at
      both zero = ((λ p e q. bad_end (opened false (rec_at s p) _ e q)), λ p e q. bad_end (opened true (rec_at s p) _ e q))
      both (suc d) = let (ih, iv) = both d in (
        (λ p e q. here p e (up (suc d) false s p e q) ∙ ap (λ b. b || flagged f (p + 1) (e - (p + 1))) (h (suc d) p e q) ∙ below d ih iv (head_at s p) (p + 1) e (fair p) q),
        (λ p e q. here p e (up (suc d) true s p e q) ∙ ap₂ ◌||◌ (k (suc d) p e q) (below_variant d ih (head_at s p) (p + 1) e q)),
      )

      pub flagged_type : (d p e : ℕ) → walk d false s p ≡ Ok e → flagged f p (e - p) ≡ anywhere (tree d s p)
      flagged_type d = (both d).0
