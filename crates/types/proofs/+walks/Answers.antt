use Rattle.std.proofs.Common.{rules, ◌≡◌, refl, sym, ap, ◌∙◌, subst, arith, ◌+◌, ◌-◌, ◌/◌, ◌<◌, length, ℕ, List, Bool, false, true, Result, Ok, Err}
use Rattle.reply.specs.declared.Refusal.{Refusal}
use Rattle.types.specs.declared.Rec.{Rec}
use Rattle.types.specs.declared.Rec.TheVariants.{Gone, Wrong, Types, Enum, Variant}
use Rattle.types.specs.Walks.{children_of, many, walk}
use Rattle.types.specs.Facts.{walk_bad, walk_deep, walk_go, called}
use Rattle.types.specs.Table.{Walked}
use Rattle.types.specs.Tables.{Going, walked_bad, walked_node, going_on, going_stop, going_end}
use Rattle.types.specs.Entries.{ends, ends_length}
use Rattle.types.proofs.Entries.{ends_set, sizes_same, widths_same}
use Rattle.types.proofs.+walks.Goals.{walk_type-In_ok-are_variants, walk_type-Else-depth-eq0, walk_type-then-are_variants+in_ok-end, walk_type-else-are_variants+in_ok-end-2, walk_variant-In_ok-n, walk_variant-Else-depth-eq0}
use Rattle.types.proofs.+walks.Goals as goal

abbrev are_variants_of : Result (Bool × ℕ) Refusal → Bool
are_variants_of (Ok c) = c.0
are_variants_of (Err x) = false

-- the parts of a Variant are types
only_types : (r : Rec) (b : Bool) (n : ℕ) → Ok (b, n) ≡ children_of true r → b ≡ false
only_types Gone b n e = cc
only_types Wrong b n e = cc
only_types (Types k) b n e = cc
only_types (Enum k) b n e = cc
only_types (Variant k) b n e = ap are_variants_of e

within : {t : _} (c : walk_type-In_ok-are_variants t) → c.args.at < length c.args.ty.now / 4
within c = called false _ _ _ _ c.rec_at.ensures c.children.ensures _ _ c.in_ok-are_variants.was

goes : {t : _} (c : walk_type-Else-depth-eq0 t) → many (walk (c.args.depth - 1) c.in_ok-are_variants.are_variants c.args.ty.now) c.in_ok-are_variants.n (c.args.at + 1) ≡ walk c.args.depth false c.args.ty.now c.args.at
goes c = walk_go false _ _ _ _ c.rec_at.ensures c.children.ensures _ _ c.in_ok-are_variants.was _ c.if-depth-eq0.false

pub walk_type-returns-in_err-are_variants : goal.walk_type-returns-in_err-are_variants
walk_type-returns-in_err-are_variants t c =
    let z : c.from_residual.result ≡ Err c.in_err-are_variants.field-0.0 = search rules in
    record { walked = rw z (walked_bad _ _ _ _ _ _ (walk_bad _ _ _ _ _ c.rec_at.ensures c.children.ensures _ _ c.in_err-are_variants.was)); kept = (refl, refl) }

pub walk_type-returns-then-depth-eq0 : goal.walk_type-returns-then-depth-eq0
walk_type-returns-then-depth-eq0 t c = record {
  walked = walked_bad _ _ _ _ _ _ (walk_deep _ _ _ _ _ c.rec_at.ensures c.children.ensures _ _ c.in_ok-are_variants.was _ c.if-depth-eq0.true);
  kept = (refl, refl);
}

pub walk_type-overflow_add-end : goal.walk_type-overflow_add-end
walk_type-overflow_add-end t c = let w = within (goal.at.walk_type-overflow_add-end t c).In_ok-are_variants in omega arith

-- what a step of an Enum's or of a type's row comes to
stopped : {t : _} (c : walk_type-Else-depth-eq0 t) {left p : ℕ} {x : Refusal} {r w : Result ℕ Refusal} {D D' : List ℕ} (v : Bool) → c.in_ok-are_variants.are_variants ≡ v → 0 < left
    → Going (walk (c.args.depth - 1) c.in_ok-are_variants.are_variants c.args.ty.now) c.args.ty.now c.in_ok-are_variants.n (c.args.at + 1) left p (ends c.args.entries.now) D
    → Walked (walk (c.args.depth - 1) v c.args.ty.now p) c.args.ty.now p w D D' → w ≡ Err x → r ≡ Err x
    → Walked (walk c.args.depth false c.args.ty.now c.args.at) c.args.ty.now c.args.at r (ends c.args.entries.now) D'
stopped c {left} {p} {x} {r} {w} {D} {D'} v e l g u q z =
    let h = going_stop _ l g (subst (λ v. Walked (walk (c.args.depth - 1) v c.args.ty.now p) c.args.ty.now p w D D') (sym e) u) q in
    rw z (walked_bad _ _ _ _ _ _ (h.answer ∙ goes c))

went : {t : _} (c : walk_type-Else-depth-eq0 t) {k p e : ℕ} {w : Result ℕ Refusal} {D D' : List ℕ} (v : Bool) → c.in_ok-are_variants.are_variants ≡ v → k < c.in_ok-are_variants.n
    → Going (walk (c.args.depth - 1) c.in_ok-are_variants.are_variants c.args.ty.now) c.args.ty.now c.in_ok-are_variants.n (c.args.at + 1) (c.in_ok-are_variants.n - k) p (ends c.args.entries.now) D
    → Walked (walk (c.args.depth - 1) v c.args.ty.now p) c.args.ty.now p w D D' → w ≡ Ok e → length D' ≡ length D
    → Going (walk (c.args.depth - 1) c.in_ok-are_variants.are_variants c.args.ty.now) c.args.ty.now c.in_ok-are_variants.n (c.args.at + 1) (c.in_ok-are_variants.n - (k + 1)) e (ends c.args.entries.now) D'
went c {k} {p} {e} {w} {D} {D'} v i l g u q m =
    let f = walk (c.args.depth - 1) c.in_ok-are_variants.are_variants c.args.ty.now in
    let n = c.in_ok-are_variants.n in
    let z : (n - k) - 1 ≡ n - (k + 1) = omega arith in
    let h = going_on f (omega arith) g (subst (λ v. Walked (walk (c.args.depth - 1) v c.args.ty.now p) c.args.ty.now p w D D') (sym i) u) q m in
    subst (λ j. Going f c.args.ty.now n (c.args.at + 1) j e (ends c.args.entries.now) D') z h

pub walk_type-returns-in_err-end : goal.walk_type-returns-in_err-end
walk_type-returns-in_err-end t c = record {
  walked = stopped (goal.at.walk_type-returns-in_err-end t c).Else-depth-eq0 true c.if-are_variants.true (omega arith) c.loop.invariant.0 c.walk_variant.ensures.walked c.in_err-end.was (search rules);
  kept = (c.walk_variant.ensures.kept.0 ∙ c.loop.invariant.1.0, c.walk_variant.ensures.kept.1 ∙ c.loop.invariant.1.1);
}

pub walk_type-returns-in_err-end-2 : goal.walk_type-returns-in_err-end-2
walk_type-returns-in_err-end-2 t c = record {
  walked = stopped (goal.at.walk_type-returns-in_err-end-2 t c).Else-depth-eq0 false c.if-are_variants.false (omega arith) c.loop.invariant.0 c.walk_type.ensures.walked c.in_err-end-2.was (search rules);
  kept = (c.walk_type.ensures.kept.0 ∙ c.loop.invariant.1.0, c.walk_type.ensures.kept.1 ∙ c.loop.invariant.1.1);
}

pub walk_type-loop-preserved : goal.walk_type-loop-preserved
walk_type-loop-preserved t c =
    let at = (goal.at.walk_type-loop-preserved t c).Else-depth-eq0 in
    elim c.if-are_variants.branch [
      | walk_type-then-are_variants+in_ok-end w ↦ rw (w.entries-is, w.end-is) (
        went at true w.if-are_variants.true (omega arith) c.loop.invariant.0 w.walk_variant.ensures.walked w.in_ok-end.was (ends_length _ ∙ w.walk_variant.auto.entries ∙ sym (ends_length _)),
        (w.walk_variant.ensures.kept.0 ∙ c.loop.invariant.1.0, w.walk_variant.ensures.kept.1 ∙ c.loop.invariant.1.1),
      )
      | walk_type-else-are_variants+in_ok-end-2 w ↦ rw (w.entries-is, w.end-is) (
        went at false w.if-are_variants.false (omega arith) c.loop.invariant.0 w.walk_type.ensures.walked w.in_ok-end-2.was (ends_length _ ∙ w.walk_type.auto.entries ∙ sym (ends_length _)),
        (w.walk_type.ensures.kept.0 ∙ c.loop.invariant.1.0, w.walk_type.ensures.kept.1 ∙ c.loop.invariant.1.1),
      )
    ]

pub walk_type-bounds-entries-at : goal.walk_type-bounds-entries-at
walk_type-bounds-entries-at t c =
    let w = within (goal.at.walk_type-bounds-entries-at t c).In_ok-are_variants in
    omega (arith, c.requires, c.loop.auto.entries)

pub walk_type-offset_bounds-entries-at : goal.walk_type-offset_bounds-entries-at
walk_type-offset_bounds-entries-at t c =
    let w = within (goal.at.walk_type-offset_bounds-entries-at t c).In_ok-are_variants in omega arith

pub walk_type-returns : goal.walk_type-returns
walk_type-returns t c =
    let w = within (goal.at.walk_type-returns t c).In_ok-are_variants in
    let h = going_end _ (omega arith) c.loop.invariant.0 in
    record {
      walked = rw (ends_set c.loop.entries c.args.at _)
          (walked_node _ _ _ _ _ _ _ _ h (goes (goal.at.walk_type-returns t c).Else-depth-eq0) (omega (arith, c.requires, c.loop.auto.entries, ends_length c.loop.entries)));
      kept = (sizes_same c.loop.entries c.args.at _ refl ∙ c.loop.invariant.1.0, widths_same c.loop.entries c.args.at _ refl ∙ c.loop.invariant.1.1);
    }

variant_within : {t : _} (c : walk_variant-In_ok-n t) → c.args.at < length c.args.ty.now / 4
variant_within c = called true _ _ _ _ c.rec_at.ensures c.children.ensures _ _ c.in_ok-n.was

variant_goes : {t : _} (c : walk_variant-Else-depth-eq0 t) → many (walk (c.args.depth - 1) false c.args.ty.now) c.in_ok-n.n (c.args.at + 1) ≡ walk c.args.depth true c.args.ty.now c.args.at
variant_goes c =
    let k = walk_go true _ _ _ _ c.rec_at.ensures c.children.ensures _ _ c.in_ok-n.was _ c.if-depth-eq0.false in
    subst (λ b. many (walk (c.args.depth - 1) b c.args.ty.now) c.in_ok-n.n (c.args.at + 1) ≡ walk c.args.depth true c.args.ty.now c.args.at)
    (only_types c.rec_at.result _ _ (sym c.in_ok-n.was ∙ c.children.ensures)) k

pub walk_variant-returns-in_err-n : goal.walk_variant-returns-in_err-n
walk_variant-returns-in_err-n t c =
    let z : c.from_residual.result ≡ Err c.in_err-n.field-0.0 = search rules in
    record { walked = rw z (walked_bad _ _ _ _ _ _ (walk_bad _ _ _ _ _ c.rec_at.ensures c.children.ensures _ _ c.in_err-n.was)); kept = (refl, refl) }

pub walk_variant-returns-then-depth-eq0 : goal.walk_variant-returns-then-depth-eq0
walk_variant-returns-then-depth-eq0 t c = record {
  walked = walked_bad _ _ _ _ _ _ (walk_deep _ _ _ _ _ c.rec_at.ensures c.children.ensures _ _ c.in_ok-n.was _ c.if-depth-eq0.true);
  kept = (refl, refl);
}

pub walk_variant-overflow_add-next : goal.walk_variant-overflow_add-next
walk_variant-overflow_add-next t c = let w = variant_within (goal.at.walk_variant-overflow_add-next t c).In_ok-n in omega arith

pub walk_variant-returns-in_err-next : goal.walk_variant-returns-in_err-next
walk_variant-returns-in_err-next t c =
    let z : c.from_residual-in_err-next.result ≡ Err c.in_err-next.field-0.0 = search rules in
    let h = going_stop _ (omega arith) c.loop.invariant.0 c.walk_type.ensures.walked c.in_err-next.was in
    record {
      walked = rw z (walked_bad _ _ _ _ _ _ (h.answer ∙ variant_goes (goal.at.walk_variant-returns-in_err-next t c).Else-depth-eq0));
      kept = (c.walk_type.ensures.kept.0 ∙ c.loop.invariant.1.0, c.walk_type.ensures.kept.1 ∙ c.loop.invariant.1.1);
    }

pub walk_variant-loop-preserved : goal.walk_variant-loop-preserved
walk_variant-loop-preserved t c =
    let f = walk (c.args.depth - 1) false c.args.ty.now in
    let n = c.in_ok-n.n in
    let e : (n - c.loop.counter) - 1 ≡ n - (c.loop.counter + 1) = omega arith in
    let g = going_on f (omega arith) c.loop.invariant.0 c.walk_type.ensures.walked c.in_ok-next.was (ends_length _ ∙ c.walk_type.auto.entries ∙ sym (ends_length _)) in (
      subst (λ k. Going f c.args.ty.now n (c.args.at + 1) k c.in_ok-next.next (ends c.args.entries.now) (ends c.walk_type.new.entries)) e g,
      (c.walk_type.ensures.kept.0 ∙ c.loop.invariant.1.0, c.walk_type.ensures.kept.1 ∙ c.loop.invariant.1.1),
    )

pub walk_variant-bounds-entries-at : goal.walk_variant-bounds-entries-at
walk_variant-bounds-entries-at t c =
    let w = variant_within (goal.at.walk_variant-bounds-entries-at t c).In_ok-n in
    omega (arith, c.requires, c.loop.auto.entries)

pub walk_variant-offset_bounds-entries-at : goal.walk_variant-offset_bounds-entries-at
walk_variant-offset_bounds-entries-at t c =
    let w = variant_within (goal.at.walk_variant-offset_bounds-entries-at t c).In_ok-n in omega arith

pub walk_variant-returns : goal.walk_variant-returns
walk_variant-returns t c =
    let w = variant_within (goal.at.walk_variant-returns t c).In_ok-n in
    let h = going_end _ (omega arith) c.loop.invariant.0 in
    record {
      walked = rw (ends_set c.loop.entries c.args.at _)
          (walked_node _ _ _ _ _ _ _ _ h (variant_goes (goal.at.walk_variant-returns t c).Else-depth-eq0) (omega (arith, c.requires, c.loop.auto.entries, ends_length c.loop.entries)));
      kept = (sizes_same c.loop.entries c.args.at _ refl ∙ c.loop.invariant.1.0, widths_same c.loop.entries c.args.at _ refl ∙ c.loop.invariant.1.1);
    }
