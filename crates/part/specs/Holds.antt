-- What is known of a place in a frame: a value of the type at a record of the type file stands there, from a bit on.
use Rattle.std.specs.Prelude.{◌≡◌, false, List, ℕ, ◌+◌, length, Option as Optional, Some, None}
use Rattle.std.proofs.Math.Option.{Option, none, some}
use Rattle.model.specs.Types.{Ty}
use Rattle.model.specs.Lowering.{lower}
use Rattle.model.specs.Values.{Value, Valid}
use Rattle.model.specs.Frames.{after, width, frame}
use Rattle.model.specs.Parts.{Part}
use Rattle.types.specs.Trees.{tree}
use Rattle.types.specs.Steps.{Given}
use Rattle.bits.specs.Bits.{bits_at, Inside}
use Rattle.part.specs.declared.Spot.{Spot}

-- the value v of the type t, which is the one at record p with d levels from there on, stands from a bit on
pub record Holding (d : ℕ) (s E : List ℕ) (p : ℕ) (fr : List ℕ) (bit : ℕ) (t : Ty) (v : Value t) : Type 0 where
  pub given : Given d false s E p
  pub same : tree d s p ≡ t
  pub valid : Valid t v
  pub inside : Inside fr bit (width (lower t))
  pub bits : bits_at fr bit (width (lower t)) ≡ frame after t v

-- some value does
pub record Holds (d : ℕ) (s E : List ℕ) (p : ℕ) (fr : List ℕ) (bit : ℕ) : Type 0 where
  pub type : Ty
  pub value : Value type
  pub holding : Holding d s E p fr bit type value

-- some frame has some value there: a place of the type, in whatever frame
pub record Held (d : ℕ) (s E : List ℕ) (p bit : ℕ) : Type 0 where
  pub frame : List ℕ
  pub holds : Holds d s E p frame bit

-- some value stands there in the frame, or in some frame where none is given
abbrev pub HoldsIn : ℕ → List ℕ → List ℕ → ℕ → Optional (List ℕ) → ℕ → Type 0
HoldsIn d s E p (Some fr) bit = Holds d s E p fr bit
HoldsIn d s E p None bit = Held d s E p bit

-- WHERE A PART IS: what the model picks, beside the place that was found

-- the part is there; its type stands at record p with d levels, and it begins at bit b, as many bits behind `bit` as are written ahead of it
pub record Reached (s E : List ℕ) {X : Type 0} (o : Option (Part X)) (bit p d b : ℕ) : Type 0 where
  pub part : Part X
  pub there : o ≡ some part
  pub given : Given d false s E p
  pub same : tree d s p ≡ part.type
  pub begins : b ≡ bit + length part.ahead

-- a place was found exactly where there is a part
abbrev pub Leads : (s E : List ℕ) {X : Type 0} → Option (Part X) → ℕ → Optional Spot → Type 0
Leads s E o bit None = o ≡ none
Leads s E o bit (Some x) = Reached s E o bit x.at x.level x.bit
