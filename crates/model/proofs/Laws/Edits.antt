-- Demand 3 of the operation: whatever is delivered of an edit is as `Edits` says.
use Rattle.std.specs.Prelude.{◌≡◌, refl, List, ℕ, ◌≤◌}
use Rattle.std.proofs.Common.{sym, ap, subst, ◌∙◌, arith}
use Rattle.model.specs.Outcome.{Outcome, done, refused}
use Rattle.model.specs.Bytes.{Bytes}
use Rattle.model.specs.Frames.{Place}
use Rattle.model.specs.Paths.{Found}
use Rattle.model.specs.Operations.{edited, delivered}
use Rattle.model.specs.Conditions.{PathLeads, HasType}
use Rattle.model.specs.Edits.{Replaced, Edited}
use Rattle.model.proofs.Laws.Outcome.{refused_done, done_injective}
use Rattle.model.proofs.Laws.Delivered.{Answer, parts}
use Rattle.model.proofs.Laws.Numbered.{never_zero, edited_row}
use Rattle.model.proofs.Laws.Demands.{edit_leaves, edit_accepted, edit_in_place, edit_refused}

module _ (p : Place) (ty frame path val : List ℕ) (b : Bytes ty) (c : Bytes frame) (d : Bytes val) (n len : ℕ) (left : List ℕ) where
  replaced_there : edited p ty frame path val ≡ done left → (target : Found) (leads : PathLeads p ty frame path target) (has : HasType target val) → Replaced p ty frame path val target leads.old has.0 left
  replaced_there e target leads has =
      let (result, r, g) = edit_leaves p ty frame path val b c d target leads has in
      subst (Replaced p ty frame path val target leads.old has.0) (done_injective result left (sym g ∙ e)) r

  pub edit_answered : ◌≡◌ {A = Answer} (n, len, left) (delivered (edited p ty frame path val) frame) → Edited p ty frame path val n len left
  edit_answered h = go (edited p ty frame path val) refl
    where
      go : (o : Outcome (List ℕ)) → edited p ty frame path val ≡ o → Edited p ty frame path val n len left
      go (done result) e =
          let (zero, long, same) = parts _ _ (h ∙ edit_in_place p ty frame path val b c d result e) in
          record {
            accepted = ((λ i. (edit_accepted p ty frame path val b c d).0 (result, e)), λ m. zero);
            length_is = λ i. long;
            leaves = λ i. replaced_there (e ∙ ap done (sym same));
            no_length = λ i. absurd (i zero);
            none_changed = λ i. absurd (i zero);
          }
      go (refused m) e =
          let (same, none, kept) = parts _ _ (h ∙ edit_refused p ty frame path val b c d m e) in
          let some : 1 ≤ m = never_zero (edited_row p ty frame path val) refl m e in
          record {
            accepted = ((λ i. absurd (omega arith)), λ a. let (result, g) = (edit_accepted p ty frame path val b c d).1 a in absurd (refused_done m result (sym e ∙ g)));
            length_is = λ i. absurd (omega arith);
            leaves = λ i. absurd (omega arith);
            no_length = λ i. none;
            none_changed = λ i. kept;
          }
