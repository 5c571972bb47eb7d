-- One step: the place found is the child's that the model picks, whatever the kind; and a value stands there.
use Rattle.std.specs.Prelude.{◌≡◌, true, false, List, ℕ, ◌+◌, ◌-◌, Option as Optional, Some}
use Rattle.std.proofs.Math.Path.{refl, subst}
use Rattle.std.proofs.Common.{sym, ◌∙◌}
use Rattle.model.specs.Types.{Ty}
use Rattle.model.specs.Lowering.{lower}
use Rattle.model.specs.Values.{Value, Valid}
use Rattle.model.specs.Frames.{after, width, frame}
use Rattle.model.specs.Parts.{child, part_of}
use Rattle.model.proofs.Laws.Parts.{Lies, IfSome, child_lies}
use Rattle.types.specs.declared.Head.{Head}
use Rattle.types.specs.declared.Head.TheVariants.{Missing, Faulty, Never, Boolean, UInt, Either, Opt, Tuple, Array, Listed, Variants, Payload}
use Rattle.types.specs.Record.{head_at}
use Rattle.types.specs.Walks.{walk}
use Rattle.types.specs.Trees.{node, tree, treev}
use Rattle.types.specs.Steps.{Given, given_levels, tree_in}
use Rattle.bits.specs.Bits.{Inside, bits_at}
use Rattle.told.specs.Widths.{Wide}
use Rattle.part.specs.declared.Spot.{Spot}
use Rattle.part.specs.Forms.{spot, below, step_at}
use Rattle.part.specs.Holds.{Holding, Holds, Reached, Leads}
use Rattle.part.specs.Laws.Holds.{part_holding}
use Rattle.part.specs.Laws.Rows.{tuple_leads, array_leads}
use Rattle.part.specs.Laws.Lists.{list_leads, option_leads}
use Rattle.part.specs.Laws.Sums.{either_leads, enum_leads}

-- whatever value of the type stands there
abbrev From : List ℕ → List ℕ → List ℕ → ℕ → ℕ → Ty → Optional Spot → Type 0
From s E fr bit i t x = (v : Value t) → Valid t v → Inside fr bit (width (lower t)) → bits_at fr bit (width (lower t)) ≡ frame after t v → Leads s E (child after t i v) bit x

module _ {d : ℕ} {s E W : List ℕ} {p : ℕ} (fr : List ℕ) (bit i : ℕ) (g : Given d false s E p) (w : Wide s E W) where
  head_leads : (k : Head) → head_at s p ≡ k → From s E fr bit i (node k (tree (d - 1) s) (walk (d - 1) false s) (treev (d - 1) s) (walk (d - 1) true s) (p + 1)) (below k (d - 1) s E W (p + 1) fr bit i)
  unfolding node below child part_of
  head_leads Missing e v o inside bits = refl
  head_leads Faulty e v o inside bits = refl
  head_leads Never e v o inside bits = refl
  head_leads Boolean e v o inside bits = refl
  head_leads (UInt n) e v o inside bits = refl
  head_leads Either e v o inside bits = either_leads fr bit i g w e v o inside bits
  head_leads Opt e v o inside bits = option_leads fr bit i g w e v o inside bits
  head_leads (Tuple n) e v o inside bits = tuple_leads bit i g w n e v o
  head_leads (Array n) e v o inside bits = array_leads bit i g w n e v o
  head_leads (Listed b) e v o inside bits = list_leads fr bit i g w b e v o inside bits
  head_leads (Variants n) e v o inside bits = enum_leads fr bit i g w n e v o inside bits
  head_leads (Payload n) e v o inside bits = refl

module _ {d : ℕ} {s E : List ℕ} {p : ℕ} {fr : List ℕ} {bit : ℕ} where
  pub step_leads : {W : List ℕ} {t : Ty} {v : Value t} → Holding d s E p fr bit t v → Wide s E W → (i : ℕ) → Leads s E (child after t i v) bit (step_at d s E W p fr bit i)
  unfolding step_at
  step_leads {W} {t} {v} h w i =
      subst (λ u. From s E fr bit i u (step_at d s E W p fr bit i)) (sym (tree_in s p d (head_at s p) (head_at s p) (given_levels h.given) refl refl) ∙ h.same)
      (head_leads fr bit i h.given w (head_at s p) refl) v h.valid h.inside h.bits

  pub step_holding : {t : Ty} {v : Value t} → Holding d s E p fr bit t v → (i : ℕ) {q e b : ℕ} → (r : Reached s E (child after t i v) bit q e b) → Holding e s E q fr b r.part.type r.part.value
  step_holding {t} {v} h i r = part_holding h r.part (subst (IfSome (Lies after (Valid t) (frame after t) v)) r.there (child_lies after t i v h.valid)) r.given r.same r.begins

  -- as the code asks it
  pub step_holds : {W : List ℕ} → Holds d s E p fr bit → Wide s E W → (i : ℕ) {q e b : ℕ} → step_at d s E W p fr bit i ≡ Some (spot q e b) → Holds e s E q fr b
  step_holds h w i e =
      let r = subst (Leads s E (child after h.type i h.value) bit) e (step_leads h.holding w i) in
      record { type = r.part.type; value = r.part.value; holding = step_holding h.holding i r }
