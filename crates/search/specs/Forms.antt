-- What the search of a day file (02, R-4) knows on its way: the bits that are sought, whether a frame has them, and how a loop over the frames ended.
use Rattle.std.specs.Prelude.{◌≡◌, Bool, true, false, List, ℕ, ◌<◌, Option, Some, None}
use Rattle.model.specs.Outcome.{done}
use Rattle.model.specs.Types.{Ty}
use Rattle.model.specs.Lowering.{lower}
use Rattle.model.specs.Values.{Value}
use Rattle.model.specs.ValueFiles.{value_of}
use Rattle.model.specs.Frames.{after, width, frame}
use Rattle.model.specs.DayFiles.{frame_at}
use Rattle.day_files.specs.Laws.Days.{NoneBefore}
use Rattle.types.specs.Trees.{tree}
use Rattle.bits.specs.Bits.{bits_at}
use Rattle.edit.specs.Opened.{Opened}
use Rattle.search.specs.declared.Asked.{Asked}

-- the bytes of the longest frame
abbrev pub longest : ℕ
longest = 4096

-- THE BITS THAT ARE SOUGHT

-- a value file says a value of the type, whose bits stand in the front of `bits`; or it says none
pub record Says (t : Ty) (val bits : List ℕ) (is : Bool) : Type 0 where
  pub one : is ≡ true → (v : Value t) × (value_of t val ≡ done v) × (bits_at bits 0 (width (lower t)) ≡ frame after t v)
  pub none_said : is ≡ false → (v : Value t) → value_of t val ≡ done v → ⊥

-- they are of the type that was asked for last
abbrev pub Kept : List ℕ → List ℕ → List ℕ → Option Asked → Type 0
Kept s val bits None = Unit
Kept s val bits (Some x) = Says (tree x.level s x.at) val bits x.is_said

-- A FRAME

-- a frame is accepted, and its w bits from `bit` on are the sought ones
pub record Standing (s E fr : List ℕ) (bit w : ℕ) (bits : List ℕ) : Type 0 where
  pub opened : Opened s E fr
  pub same : bits_at fr bit w ≡ bits_at bits 0 w

-- frame i of a day file
abbrev pub Stood : List ℕ → List ℕ → List ℕ → ℕ → ℕ → ℕ → List ℕ → ℕ → Type 0
Stood s E day size bit w bits i = Standing s E (frame_at size day i) bit w bits

-- A DAY FILE

-- a loop over n frames ended at one that is looked for, or there is none
abbrev pub Ended : (ℕ → Type 0) → ℕ → Option ℕ → Type 0
Ended P n (Some i) = (i < n) × P i
Ended P n None = NoneBefore P n
