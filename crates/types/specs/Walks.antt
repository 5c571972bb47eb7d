-- The preorder walk of a type file: where a subtree ends, or which refusal it meets.
use Rattle.reply.specs.declared.Refusal.TheVariants.{BadRecord, TooDeep, NotOneType}
use Rattle.std.specs.Prelude.{ℕ, zero, suc, ◌+◌, List, Bool, true, false, Result, Ok, Err}
use Rattle.types.specs.declared.Rec.{Rec}
use Rattle.types.specs.declared.Rec.TheVariants.{Gone, Wrong, Types, Enum, Variant}
use Rattle.types.specs.Record.{rec_at}
use Rattle.reply.specs.declared.Refusal.{Refusal}

-- what a record calls for: whether Variants (true) or types (false), and how many; or a refusal
unfoldable pub opens : Bool → Rec → (Bool → ℕ → Result ℕ Refusal) → Result ℕ Refusal
opens v Gone k = Err NotOneType
opens v Wrong k = Err BadRecord
opens false (Types n) k = k false n
opens false (Enum n) k = k true n
opens false (Variant n) k = Err BadRecord
opens true (Types n) k = Err BadRecord
opens true (Enum n) k = Err BadRecord
opens true (Variant n) k = k false n

-- the same as an answer of its own
abbrev pub children_of : Bool → Rec → Result (Bool × ℕ) Refusal
children_of v Gone = Err NotOneType
children_of v Wrong = Err BadRecord
children_of false (Types n) = Ok (false, n)
children_of false (Enum n) = Ok (true, n)
children_of false (Variant n) = Err BadRecord
children_of true (Types n) = Err BadRecord
children_of true (Enum n) = Err BadRecord
children_of true (Variant n) = Ok (false, n)

unfoldable pub next : Result ℕ Refusal → (ℕ → Result ℕ Refusal) → Result ℕ Refusal
next (Ok e) k = k e
next (Err x) k = Err x

-- n subtrees one after the other
unfoldable pub many : (ℕ → Result ℕ Refusal) → ℕ → ℕ → Result ℕ Refusal
many f zero at = Ok at
many f (suc n) at = next (f at) (many f n)

-- d levels are left; v: a Variant is called for
unfoldable pub walk : ℕ → Bool → List ℕ → ℕ → Result ℕ Refusal
walk zero v s at = opens v (rec_at s at) (λ b n. Err TooDeep)
walk (suc d) v s at = opens v (rec_at s at) (λ b n. many (walk d b s) n (at + 1))
