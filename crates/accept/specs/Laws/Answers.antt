-- What the walk answers of numbers and places, in the form in which the code's needs ask it.
use Rattle.std.specs.Prelude.{◌≡◌, refl, Bool, true, false, List, ℕ, ◌+◌, ◌≤◌, ◌<◌, Option as Optional, Some, None}
use Rattle.std.specs.Option.{is_some}
use Rattle.std.proofs.Common.{sym, ap, ap₂, subst, ◌∙◌, arith, Fits}
use Rattle.std.proofs.Math.Option.{Option, none, some}
use Rattle.std.specs.Int.{w64}
use Rattle.types.specs.declared.Head.{Head}
use Rattle.types.specs.Record.{head_at}
use Rattle.types.specs.Heads.{Fair}
use Rattle.types.specs.declared.forms.Parts.{Parts}
use Rattle.types.specs.declared.forms.Parts.TheVariants.{Copies}
use Rattle.types.specs.declared.forms.Form.{Form}
use Rattle.types.specs.Forms.{form_of}
use Rattle.rebuild.specs.Forms.{most_records}
use Rattle.accept.specs.Forms.{plus}
use Rattle.accept.specs.Answers.{answer, count_of, both_of, plain_form, plain, Plain, Counted}

-- COPIES

pub plain_not : (k : Parts) (s : List ℕ) (p : ℕ) → Plain k s p false
plain_not k s p = record { same = λ i. absurd (let z : ◌≡◌ {A = ℕ} 0 1 = cc in omega arith); fair = λ i. absurd (let z : ◌≡◌ {A = ℕ} 0 1 = cc in omega arith) }

pub plain_as : (k : Parts) (s : List ℕ) (p : ℕ) (h : Head) (f x : Form) (r : Bool) → k ≡ Copies → h ≡ head_at s p → Fair h → f ≡ form_of h → f ≡ x → r ≡ plain_form x → Plain k s p r
plain_as k s p h f x r e i g j l m = record {
  same = λ o. ap (λ k. plain k (form_of (head_at s p))) e ∙ ap plain_form (ap form_of (sym i) ∙ sym j ∙ l) ∙ sym m ∙ o;
  fair = λ o. subst Fair i g;
}

-- NUMBERS

pub sum_fits : (a b : Optional ℕ) (n m : ℕ) → a ≡ Some n → b ≡ Some m → count_of a ≤ most_records → count_of b ≤ most_records → Fits w64 (n + m)
sum_fits a b n m e f g h = let i : count_of a ≡ n = ap count_of e in let j : count_of b ≡ m = ap count_of f in omega arith

pub both_stray : (a b : Optional ℕ) → a ≡ None → None ≡ both_of a b
both_stray a b e = sym (ap (λ a. both_of a b) e)

pub stray_second : (a b : Optional ℕ) (n : ℕ) → a ≡ Some n → b ≡ None → None ≡ both_of a b
stray_second a b n e f = sym (ap₂ both_of e f)

pub both_known : (a b r : Optional ℕ) (n m : ℕ) → a ≡ Some n → b ≡ Some m → r ≡ answer (some (n + m)) → r ≡ both_of a b
both_known a b r n m e f h = h ∙ sym (ap₂ both_of e f)

-- SUMS

pub both_assoc : (a b c : Optional ℕ) → both_of (both_of a b) c ≡ both_of a (both_of b c)
both_assoc None b c = refl
both_assoc (Some n) None c = refl
both_assoc (Some n) (Some m) None = refl
both_assoc (Some n) (Some m) (Some k) = ap Some (omega arith)

-- what is seen of both
pub answer_plus : (a b : Option ℕ) → answer (plus a b) ≡ both_of (answer a) (answer b)
answer_plus none b = refl
answer_plus (some n) none = refl
answer_plus (some n) (some m) = ap Some (omega arith)

pub answer_small : (r : Optional ℕ) (o : Option ℕ) → r ≡ answer o → count_of r ≤ most_records
answer_small r o e = let i : count_of r ≡ count_of (answer o) = ap count_of e in let k = small o in omega arith
  where
    small : (o : Option ℕ) → count_of (answer o) ≤ most_records
    small none = omega arith
    small (some n) = omega arith

pub none_first : (o : Option ℕ) → both_of (Some 0) (answer o) ≡ answer o
none_first none = refl
none_first (some n) = ap Some (omega arith)

pub none_last : (a : Optional ℕ) → count_of a ≤ most_records → both_of a (answer (some 0)) ≡ a
none_last None h = refl
none_last (Some n) h = ap Some (omega arith)

-- A PART: r is what the walk answers

module _ (r : Optional ℕ) (o : Option ℕ) (c : Counted o) (e : r ≡ answer o) where
  counted_is : r ≡ Some c.count
  counted_is = e ∙ ap answer c.there ∙ ap Some (omega (arith, c.few))

  pub part_some : is_some r ≡ true
  part_some = ap is_some counted_is

  pub part_counted : (n : ℕ) → r ≡ Some n → o ≡ some n
  part_counted n h = let i : c.count ≡ n = ap count_of (sym counted_is ∙ h) in c.there ∙ ap some i
