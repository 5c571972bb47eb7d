-- What demands 2 and 3 speak of, each by itself, in 01's words ('Shape', 'Part read and part edit', 'The words of demand 3'); nothing here mentions the edit.
use Rattle.std.specs.Prelude.{◌≡◌, true, false, List, ℕ, length}
use Rattle.std.proofs.Math.Option.{some}
use Rattle.model.specs.Outcome.{done}
use Rattle.model.specs.Options.{any}
use Rattle.model.specs.Structural.{SValue, Belongs}
use Rattle.model.specs.Types.{Ty}
use Rattle.model.specs.Lowering.{lower}
use Rattle.model.specs.Values.{Value}
use Rattle.model.specs.Spots.{lacks_unit}
use Rattle.model.specs.ShapeFiles.{shape_of}
use Rattle.model.specs.ValueFiles.{value_of}
use Rattle.model.specs.Frames.{Place, frame_bytes, stray_bits, unframe}
use Rattle.model.specs.Paths.{Found, steps, found}
use Rattle.model.specs.Parts.{Part, part}
use Rattle.model.specs.Operations.{Reading, earlier_reading, lowering, unframed}

-- a shape belongs to a type if it is one of the lowered type
pub record ShapeBelongs (ty shape : List ℕ) : Type 0 where
  pub type : Ty
  pub lowers : lowering ty ≡ done type
  pub tree : SValue
  pub says : shape_of shape ≡ done tree
  pub belongs : Belongs (lower type) tree

-- a shape lacks a unit (02, R-5): it is read, and anything but a unit stands where an empty tuple, an array of 0 or a variant without parts is read
pub record LacksUnit (ty shape : List ℕ) : Type 0 where
  pub read : Reading
  pub reads : earlier_reading ty shape ≡ done read
  pub lacks : lacks_unit read.type read.tree ≡ true

-- THE FOUR CONDITIONS

-- a type lowers if no type or lowering row holds
abbrev pub TypeLowers : List ℕ → Type 0
TypeLowers ty = (t : Ty) × (lowering ty ≡ done t)

-- a frame is then accepted if no frame row holds: its length is the type's, and no padding or tail bit is 1
pub record FrameAccepted (p : Place) (ty frame : List ℕ) : Type 0 where
  pub type : Ty
  pub lowers : lowering ty ≡ done type
  pub long : length frame ≡ frame_bytes type
  pub clean : any (stray_bits p type frame) ≡ false

-- in its old value's file the path leads to the part: its length is even and every step picks a child
pub record PathLeads (p : Place) (ty frame path : List ℕ) (target : Found) : Type 0 where
  pub type : Ty
  pub lowers : lowering ty ≡ done type
  pub old : List ℕ
  pub accepted : unframed p ty frame ≡ done old
  pub picks : List ℕ
  pub even : steps path ≡ done picks
  pub leads : found type picks old ≡ some target

-- the new value has the part's type if no value row holds for it
abbrev pub HasType : Found → List ℕ → Type 0
HasType target val = (new : Value target.type) × (value_of target.type val ≡ done new)

-- THE STRETCH

-- a part's stretch begins where writing the whole value begins the part
pub record Begins (p : Place) (ty frame path : List ℕ) (bit : ℕ) : Type 0 where
  pub type : Ty
  pub lowers : lowering ty ≡ done type
  pub whole : Value type
  pub reads : unframe p type frame ≡ done whole
  pub picks : List ℕ
  pub even : steps path ≡ done picks
  pub place : Part (Value type)
  pub leads : part p type picks whole ≡ some place
  pub here : bit ≡ length place.ahead
