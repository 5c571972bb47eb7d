-- What the steps of a walk over the parts of a tree know: what a record's form says, of which parts a record tells, and what is known of the parts of each side.
use Rattle.std.specs.Prelude.{◌≡◌, refl, List, ◌⊎◌, ℕ, ◌+◌, ◌-◌, ◌<◌, length}
use Rattle.std.proofs.Common.{sym, ap, subst, ◌∙◌, arith}
use Rattle.num.specs.declared.NonZeroPow2Usize.{NonZeroPow2Usize}
use Rattle.model.proofs.Laws.Balanced.{Shares}
use Rattle.types.specs.declared.Head.{Head}
use Rattle.types.specs.Record.{head_at}
use Rattle.types.specs.Heads.{Fair}
use Rattle.structural.specs.declared.Form.{Form}
use Rattle.structural.specs.declared.Form.TheVariants as form
use Rattle.structural.specs.declared.Parts.{Parts}
use Rattle.structural.specs.declared.Parts.TheVariants.{Bits, Copies, Types, Choices}
use Rattle.structural.specs.Forms.{form_of, standing, Stands, part, skip, GivenPart, GivenParts}
use Rattle.structural.proofs.Laws.Trees.{skip_add, given_one, given_left, given_right}
use Rattle.structural.proofs.Laws.Forms.{stands_inside, TreeOf, ListOf, Formed, formed}

-- RECORDS

module _ {d : ℕ} {s E : List ℕ} {p : ℕ} (g : Stands d s E p) where
  as_formed : (h : Head) (f x : Form) → h ≡ head_at s p → Fair h → f ≡ form_of h → f ≡ x → Formed x (d - 1) s E (p + 1) (standing d s p)
  as_formed h f x e i j k = subst (λ y. Formed y (d - 1) s E (p + 1) (standing d s p)) (sym j ∙ k) (formed g h e i)

  pub as_tree : (h : Head) (f : Form) (k : Parts) (n : ℕ) → h ≡ head_at s p → Fair h → f ≡ form_of h → f ≡ form.Tree k n → TreeOf k n (d - 1) s E (p + 1) (standing d s p)
  as_tree h f k n = as_formed h f (form.Tree k n)

  pub as_list : (h : Head) (f : Form) (b : NonZeroPow2Usize) → h ≡ head_at s p → Fair h → f ≡ form_of h → f ≡ form.List b → ListOf b (d - 1) s E (p + 1) (standing d s p)
  as_list h f b = as_formed h f (form.List b)

-- PARTS

-- what a record tells
abbrev pub Told : Parts → Type 0
Told Bits = ⊥
Told Copies = Unit
Told Types = Unit
Told Choices = Unit

-- what stands one after the other
abbrev pub InRow : Parts → Type 0
InRow k = (k ≡ Types) ⊎ (k ≡ Choices)

told_given : (k : Parts) (d : ℕ) (s E : List ℕ) (p : ℕ) → Told k → GivenPart k d s E p → Stands d s E p
told_given Bits d s E p t g = absurd t
told_given Copies d s E p t g = g
told_given Types d s E p t g = g
told_given Choices d s E p t g = g

pub told_is : (k : Parts) (d : ℕ) (s : List ℕ) (p : ℕ) → Told k → part k d s p ≡ standing d s p
unfolding part
told_is Bits d s p t = absurd t
told_is Copies d s p t = refl
told_is Types d s p t = refl
told_is Choices d s p t = refl

module _ (j k : Parts) (d : ℕ) (s E : List ℕ) (p : ℕ) (e : k ≡ j) where
  pub part_given : Told j → GivenPart k d s E p → Stands d s E p
  part_given t g = told_given j d s E p t (rw e at g)

  pub part_inside : Told j → GivenPart k d s E p → p < length E
  part_inside t g = stands_inside (part_given t g)

-- SIDES

pub one_given : {k : Parts} {d : ℕ} {s E : List ℕ} {n p : ℕ} → GivenParts k d s E n p → n ≡ 1 → GivenPart k d s E p
one_given g z = given_one g (omega arith)

module _ {n few : ℕ} (h : Shares n few) {k : Parts} {d : ℕ} {s E : List ℕ} {p : ℕ} (g : GivenParts k d s E n p) where
  pub left_given : GivenParts k d s E few p
  left_given = let l = h.less in given_left g few (omega arith)

  pub right_given : {q : ℕ} → q ≡ skip k d s few p → GivenParts k d s E (n - few) q
  right_given e = let l = h.less in rw e (given_right g few (omega arith))

-- behind the right side stands what stands behind all parts
pub sides_next : {n few : ℕ} → Shares n few → (k : Parts) (d : ℕ) (s : List ℕ) (p : ℕ) {q : ℕ} → q ≡ skip k d s few p → skip k d s (n - few) q ≡ skip k d s n p
sides_next {n} {few} h k d s p e =
    let l = h.less in
    let m : few + (n - few) ≡ n = omega arith in
    ap (skip k d s (n - few)) e ∙ sym (skip_add k d s few (n - few) p) ∙ ap (λ i. skip k d s i p) m
