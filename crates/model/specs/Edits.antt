-- DEMAND 3, all of it in one place and in 01's words: what an edit's reply (its number and its length) and the bytes that it leaves in the lent frame
-- tell of the type, the frame, the path and the new value. The contract of the entry `part_edit` says it of the code; `Laws.Edits` proves it of the operation.
use Rattle.std.specs.Prelude.{◌≡◌, false, List, ◌++◌, ◌↔◌, ℕ, ◌+◌, ◌*◌, ◌≤◌, ◌<◌, length, take, drop, get_or}
use Rattle.model.specs.Outcome.{done}
use Rattle.model.specs.Bytes.{bits_of}
use Rattle.model.specs.Lowering.{lower}
use Rattle.model.specs.Values.{Value}
use Rattle.model.specs.Frames.{Place, width}
use Rattle.model.specs.Frames as frames
use Rattle.model.specs.Paths.{Found, replaced}
use Rattle.model.specs.Operations.{framed, unframed}
use Rattle.model.specs.Conditions.{TypeLowers, FrameAccepted, PathLeads, HasType, Begins}

module _ (p : Place) (ty frame path val : List ℕ) where
  -- the four conditions: the type lowers, the frame is accepted for it, the path leads to a part present in it, and the new value has that part's type
  abbrev pub MayEdit : Type 0
  MayEdit = TypeLowers ty × FrameAccepted p ty frame × ((target : Found) × PathLeads p ty frame path target × HasType target val)

  -- `frame` is the frame of the old value, whose file is `old`, and `left` that of the value with the part replaced by `new`
  pub record Replaced (target : Found) (old : List ℕ) (new : Value target.type) (left : List ℕ) : Type 0 where
    pub frame_was : framed p ty old ≡ done frame
    -- `left` is exactly the frame of the value whose file is the old one with the part's records replaced; it reads as that value
    pub frame_of : framed p ty (replaced target old val) ≡ done left
    pub reads : unframed p ty left ≡ done (replaced target old val)
    pub size : length left ≡ length frame
    -- the part's own stretch: it begins where writing the whole value begins the part, is as wide as the part's type, and holds the new value's frame bits
    pub bit : ℕ
    pub begins : Begins p ty frame path bit
    pub ahead : take bit (bits_of frame) ≡ begins.place.ahead
    pub type_is : begins.place.type ≡ target.type
    pub inside : bit + width (lower target.type) ≤ 8 * length frame
    pub own : length (frames.frame p target.type new) ≡ width (lower target.type)
    pub bits : bits_of left ≡ take bit (bits_of frame) ++ frames.frame p target.type new ++ drop (bit + width (lower target.type)) (bits_of frame)
    -- no bit outside it has changed, tail included
    pub others : (i : ℕ) → (i < bit → get_or (bits_of left) i false ≡ get_or (bits_of frame) i false) × (bit + width (lower target.type) ≤ i → get_or (bits_of left) i false ≡ get_or (bits_of frame) i false)

  -- an edit of `frame` was answered by the number n and the length len, and left the bytes `left`
  pub record Edited (n len : ℕ) (left : List ℕ) : Type 0 where
    -- accepted, that is, answered by 0, exactly when the four conditions hold
    pub accepted : (n ≡ 0) ↔ MayEdit
    -- accepted, its length is the frame's, and it leaves exactly the frame of the old value with that one part replaced
    pub length_is : n ≡ 0 → len ≡ length frame
    pub leaves : n ≡ 0 → (target : Found) (leads : PathLeads p ty frame path target) (has : HasType target val) → Replaced target leads.old has.0 left
    -- refused, its length is 0, and it has changed no byte
    pub no_length : (n ≡ 0 → ⊥) → len ≡ 0
    pub none_changed : (n ≡ 0 → ⊥) → left ≡ frame
