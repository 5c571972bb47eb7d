-- The type that a type file writes down, as a tree: which tree stands at a place.
use Rattle.std.specs.Prelude.{ℕ, zero, suc, ◌+◌, ◌-◌, List, true, false, Result, Ok, Err}
use Rattle.types.specs.declared.Head.{Head}
use Rattle.types.specs.declared.Head.TheVariants.{Missing, Faulty, Never, Boolean, UInt, Either, Opt, Tuple, Array, Listed, Payload}
use Rattle.types.specs.declared.Head.TheVariants as head
use Rattle.types.specs.declared.Rec.{Rec}
use Rattle.types.specs.declared.Rec.TheVariants.{Gone, Wrong, Types, Enum, Variant}
use Rattle.types.specs.Record.{head_at, rec_at}
use Rattle.types.specs.Walks.{walk}
use Rattle.num.specs.Powers.{bound_log2}
use Rattle.model.specs.Types.{Ty, Tys, Variants, never, bool, uint, either, option, tuple, array, list, enum, nil, cons, last, more}
use Rattle.reply.specs.declared.Refusal.{Refusal}

-- where a walk that is not refused ends
abbrev pub end_of : Result ℕ Refusal → ℕ
end_of (Ok e) = e
end_of (Err x) = 0

-- n types in a row: g gives the tree at a place, f its end
unfoldable pub kids : (ℕ → Ty) → (ℕ → Result ℕ Refusal) → ℕ → ℕ → Tys
kids g f zero at = nil
kids g f (suc n) at = cons (g at) (kids g f n (end_of (f at)))

-- a Variant, and n more after it
unfoldable pub cases : (ℕ → Tys) → (ℕ → Result ℕ Refusal) → ℕ → ℕ → Variants
cases g f zero at = last (g at)
cases g f (suc n) at = more (g at) (cases g f n (end_of (f at)))

-- a node (the empty tuple where there is none), over the trees g and ends f of types below it, and h and k of Variants
unfoldable pub node : Head → (ℕ → Ty) → (ℕ → Result ℕ Refusal) → (ℕ → Tys) → (ℕ → Result ℕ Refusal) → ℕ → Ty
node Missing g f h k at = tuple nil
node Faulty g f h k at = tuple nil
node Never g f h k at = never
node Boolean g f h k at = bool
node (UInt w) g f h k at = uint w.value
node Either g f h k at = either (g at) (g (end_of (f at)))
node Opt g f h k at = option (g at)
node (Tuple n) g f h k at = tuple (kids g f n at)
node (Array n) g f h k at = array (g at) n
node (Listed b) g f h k at = list (g at) (bound_log2 b.value - 1)
node (head.Variants n) g f h k at = enum (cases h k (n - 1) at)
node (Payload n) g f h k at = tuple nil

unfoldable pub payload : Rec → (ℕ → Ty) → (ℕ → Result ℕ Refusal) → ℕ → Tys
payload Gone g f at = nil
payload Wrong g f at = nil
payload (Types n) g f at = nil
payload (Enum n) g f at = nil
payload (Variant n) g f at = kids g f n at

-- the tree at a place of an accepted file, with d levels from there on
unfoldable mutual
  pub tree : ℕ → List ℕ → ℕ → Ty
  tree zero s at = tuple nil
  tree (suc d) s at = node (head_at s at) (λ i. tree d s i) (walk d false s) (λ i. treev d s i) (walk d true s) (at + 1)

  pub treev : ℕ → List ℕ → ℕ → Tys
  treev zero s at = nil
  treev (suc d) s at = payload (rec_at s at) (λ i. tree d s i) (walk d false s) (at + 1)

-- the type that an accepted type file writes down
unfoldable pub type_in : List ℕ → Ty
type_in s = tree 32 s 0
