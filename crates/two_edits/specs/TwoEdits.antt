-- R-2 of 02, in its words and 01's: when neither of two parts lies within the other, and what two edits leave. A part is the record that the path reaches in the
-- old value's file, with all under it; so a part lies within another if its records are all among the other's, and every part lies within itself.
-- It is said of records and not of bits: the stretch of a part of width 0 has no bits to tell where it lies.
use Rattle.std.specs.Prelude.{◌≡◌, List, ◌++◌, ℕ, ◌≤◌, length}
use Rattle.model.specs.Outcome.{done}
use Rattle.model.specs.Frames.{Place}
use Rattle.model.specs.Paths.{Found, steps}
use Rattle.model.specs.Operations.{part_read, edited}
use Rattle.model.specs.Calls.{PartRead, PartEdit, Makes}
use Rattle.model.specs.Conditions.{PathLeads}

-- TWO PARTS

-- each record of f is one of g's
abbrev pub LiesWithin : Found → Found → Type 0
LiesWithin f g = (g.first ≤ f.first) × (f.end ≤ g.end)

-- neither lies within the other
abbrev pub Apart : Found → Found → Type 0
Apart f g = (LiesWithin f g → ⊥) × (LiesWithin g f → ⊥)

-- the two paths lead to parts of the frame's value neither of which lies within the other
pub record PartsApart (p : Place) (ty frame path other : List ℕ) : Type 0 where
  pub part : Found
  pub leads : PathLeads p ty frame path part
  pub other_part : Found
  pub other_leads : PathLeads p ty frame other other_part
  pub apart : Apart part other_part

-- the two paths lead to the same part
pub record SamePart (p : Place) (ty frame path other : List ℕ) : Type 0 where
  pub part : Found
  pub leads : PathLeads p ty frame path part
  pub other_leads : PathLeads p ty frame other part

-- of two paths' steps: the one's begin with the other's
abbrev pub BeginWith : (picks first : List ℕ) → Type 0
BeginWith picks first = (rest : List ℕ) × (first ++ rest ≡ picks)

-- neither's begin with the other's
abbrev pub StepsPart : (picks others : List ℕ) → Type 0
StepsPart picks others = (BeginWith others picks → ⊥) × (BeginWith picks others → ⊥)

-- of two paths: neither's steps begin with the other's. A path of odd length has none, and no edit by it is accepted
abbrev pub PathsPart : (path other : List ℕ) → Type 0
PathsPart path other = (picks others : List ℕ) → steps path ≡ done picks → steps other ≡ done others → StepsPart picks others

-- TWO EDITS

-- of two edits of one frame, the one, of `path` to `val`, left x, and the other, of `other` to `new`, left y: the other edit of x and the one edit of y are accepted, too,
-- leave one and the same frame, and in that both parts read as their edit has them
pub record EitherOrder (p : Place) (ty path val other new x y : List ℕ) : Type 0 where
  pub left : List ℕ
  pub other_second : edited p ty x other new ≡ done left
  pub one_second : edited p ty y path val ≡ done left
  pub one_reads : part_read p ty left path ≡ done val
  pub other_reads : part_read p ty left other ≡ done new

-- TWO CALLS

-- a call on a frame, answered by the number n and the length len, was accepted, and has left `result` in it
pub record Leaves (frame result : List ℕ) (n len : ℕ) (left : List ℕ) : Type 0 where
  pub accepted : n ≡ 0
  pub long : len ≡ length frame
  pub leaves : left ≡ result

-- every call of `part_edit` on this frame, with this path and value, was accepted, and has left `result`
abbrev pub EditLeaves : (ty frame path value result : List ℕ) → Type 0
EditLeaves ty frame path value result = (n len : ℕ) (left : List ℕ) → PartEdit ty frame path value n len left → Leaves frame result n len left

-- of two calls on one frame, the one, of `path` to `value`, left x, and the other, of `other` to `new`, left y: every call of the other edit on x and of the one edit on y
-- was accepted, and they have left one and the same frame, of which every call of `part_read` gives each part as its edit has it
pub record CallsEitherOrder (ty path value other new x y : List ℕ) : Type 0 where
  pub left : List ℕ
  pub other_second : EditLeaves ty x other new left
  pub one_second : EditLeaves ty y path value left
  pub one_reads : Makes (λ frame. PartRead ty frame path) left value
  pub other_reads : Makes (λ frame. PartRead ty frame other) left new

-- a call was answered by n and i when it came first, and by n' and i' when it came second; the other by m and j, m' and j'; the two orders left z and w: no answer and no frame tells which came first
pub record OrderFree (n i n' i' m j m' j' : ℕ) (z w : List ℕ) : Type 0 where
  pub one_answer : (n' ≡ n) × (i' ≡ i)
  pub other_answer : (m' ≡ m) × (j' ≡ j)
  pub same_frame : z ≡ w
