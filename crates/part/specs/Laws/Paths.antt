-- A path: the place found is the part's that the model leads to, and the part's value stands there.
use Rattle.std.specs.Prelude.{refl, ℕ, Option as Optional, Some, None}
use Rattle.std.proofs.Math.Path.{ap}
use mathlib.Core.List.{List, [], ◌∷◌}
use native.Mathlib.Omega.{arith}
use Rattle.model.specs.Options.{map_o, bind_o}
use Rattle.model.specs.Types.{Ty}
use Rattle.model.specs.Values.{Value}
use Rattle.model.specs.Frames.{after}
use Rattle.model.specs.Parts.{within, child, part}
use Rattle.model.proofs.Laws.Parts.{part_there}
use Rattle.told.specs.Widths.{Wide}
use Rattle.part.specs.declared.Spot.{Spot}
use Rattle.part.specs.Forms.{further, step_at, follow}
use Rattle.part.specs.Holds.{Holding, Reached, Leads}
use Rattle.part.specs.Laws.Holds.{part_holding}
use Rattle.part.specs.Laws.Rows.{leads_within}
use Rattle.part.specs.Laws.Steps.{step_leads, step_holding}

module _ {s E W fr : List ℕ} (w : Wide s E W) where
  pub follow_leads : (picks : List ℕ) {d p bit : ℕ} {t : Ty} {v : Value t} → Holding d s E p fr bit t v → Leads s E (part after t picks v) bit (follow d s E W p fr bit picks)
  unfolding part follow
  follow_leads [] {t = t} {v = v} h = record { part = record { type = t; value = v; put = λ x. x; ahead = [] }; there = refl; given = h.given; same = h.same; begins = omega arith }
  follow_leads (i ∷ picks) {d} {p} {bit} {t} {v} h = go (λ e q b u x k. follow_leads picks k) (step_at d s E W p fr bit i) (step_leads h w i)
    where
      go : ((e q b : ℕ) (u : Ty) (x : Value u) → Holding e s E q fr b u x → Leads s E (part after u picks x) b (follow e s E W q fr b picks)) → (x : Optional Spot) → Leads s E (child after t i v) bit x
          → Leads s E (bind_o (child after t i v) (λ c. map_o (within c.put c.ahead) (part after c.type picks c.value))) bit (further x (λ q e b. follow e s E W q fr b picks))
      go rec None l = ap (λ o. bind_o o (λ c. map_o (within c.put c.ahead) (part after c.type picks c.value))) l
      go rec (Some y) r =
          let c = r.part in
          rw r.there (leads_within s E c.put c.ahead (part after c.type picks c.value) bit (follow y.level s E W y.at fr y.bit picks) (rw (← r.begins) (rec y.level y.at y.bit c.type c.value (step_holding h i r))))

pub path_holding : {d : ℕ} {s E : List ℕ} {p : ℕ} {fr : List ℕ} {bit : ℕ} {t : Ty} {v : Value t} → Holding d s E p fr bit t v → (picks : List ℕ) {q e b : ℕ} → (r : Reached s E (part after t picks v) bit q e b) → Holding e s E q fr b r.part.type r.part.value
path_holding {t = t} {v = v} h picks r = part_holding h r.part (part_there after t picks v r.part h.valid r.there) r.given r.same r.begins
