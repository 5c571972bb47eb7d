-- What a record of a value file calls for, by what the type's record says.
use Rattle.std.specs.Prelude.{ℕ, zero, suc, ◌+◌, ◌-◌, ◌*◌, List, get_or, ltb, eqb, Option, Some, None, Bool, true, false, Result, Ok, Err}
use Rattle.model.specs.Options.{pick}
use Rattle.model.specs.Balanced.{btree}
use Rattle.num.specs.Powers.{bound_log2}
use Rattle.reply.specs.declared.Refusal.{Refusal}
use Rattle.reply.specs.declared.Refusal.TheVariants.{NotOneValue, IntegerTooLarge, ListTooLong}
use Rattle.types.specs.declared.Head.{Head}
use Rattle.types.specs.declared.Head.TheVariants.{Missing, Faulty, Never, Boolean, UInt, Either, Opt, Tuple, Array, Listed, Variants, Payload}
use Rattle.value.specs.declared.Kind.{Kind}
use Rattle.value.specs.declared.Kind.TheVariants as kinds
use Rattle.value.specs.declared.Opens.{Opens}
use Rattle.value.specs.declared.Opens.TheVariants.{Run, Parts, Case}
use Rattle.value.specs.Record.{starts, number_at, below, choice_at, count_at}
use Rattle.value.specs.Lengths.{joints, blocks, tags}

-- the byte of a kind
abbrev pub byte_of : Kind → ℕ
byte_of kinds.Boolean = 1
byte_of kinds.UInt = 2
byte_of kinds.Either = 3
byte_of kinds.Opt = 4
byte_of kinds.Tuple = 5
byte_of kinds.Array = 6
byte_of kinds.Listed = 7
byte_of kinds.Variants = 8

unfoldable pub by_choice : Option Bool → Opens → Opens → Result Opens Refusal
by_choice (Some false) a b = Ok a
by_choice (Some true) a b = Ok b
by_choice None a b = Err NotOneValue

unfoldable pub counted : Option ℕ → ℕ → Opens → Result Opens Refusal
counted (Some m) n o = pick (eqb m n) (Ok o) (Err NotOneValue)
counted None n o = Err NotOneValue

unfoldable pub uint_opens : ℕ → List ℕ → ℕ → Result Opens Refusal
uint_opens w s v = pick (starts s v 2 0) (pick (eqb (number_at s v) w) (pick (below s v w) (Ok (Run 0 0 (joints w + 2 * w))) (Err IntegerTooLarge)) (Err NotOneValue)) (Err NotOneValue)

unfoldable pub list_opens : Option ℕ → ℕ → Result Opens Refusal
list_opens (Some m) b = pick (ltb m b) (Ok (Run 0 m (blocks (bound_log2 b - 1) m 0))) (Err ListTooLong)
list_opens None b = Err NotOneValue

unfoldable pub enum_opens : Option ℕ → ℕ → Result Opens Refusal
enum_opens (Some i) n = pick (ltb i n) (Ok (Case i (tags (btree n) i 0))) (Err NotOneValue)
enum_opens None n = Err NotOneValue

unfoldable pub opens_of : Head → List ℕ → ℕ → Result Opens Refusal
opens_of Missing s v = Err NotOneValue
opens_of Faulty s v = Err NotOneValue
opens_of Never s v = Err NotOneValue
opens_of Boolean s v = by_choice (choice_at s v 1) (Run 0 0 2) (Run 0 0 2)
opens_of (UInt w) s v = uint_opens w.value s v
opens_of Either s v = by_choice (choice_at s v 3) (Run 0 1 1) (Run 1 1 1)
opens_of Opt s v = by_choice (choice_at s v 4) (Run 0 0 2) (Run 0 1 1)
opens_of (Tuple n) s v = counted (count_at s v 5) n (Parts n)
opens_of (Array n) s v = counted (count_at s v 6) n (Run 0 n (joints n))
opens_of (Listed b) s v = list_opens (count_at s v 7) b.value
opens_of (Variants n) s v = enum_opens (count_at s v 8) n
opens_of (Payload n) s v = Err NotOneValue
