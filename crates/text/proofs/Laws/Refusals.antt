-- The line of a refusal is short, whatever its number.
use Rattle.std.specs.Prelude.{◌≡◌, List, ℕ, ◌≤◌, length}
use Rattle.std.proofs.Common.{arith}
use Rattle.reply.specs.declared.Refusal.{Refusal}
use Rattle.reply.specs.declared.Refusal.TheVariants as refusal
use Rattle.reply.specs.Numbers.{refusal_number}
use Rattle.text.specs.Lines.{refusal_line}
use Rattle.text.proofs.Laws.Sizes.{refusal_short}
use Rattle.structural.specs.Writing.{Wrote}

-- 0 is the number of no refusal
pub number_range : (x : Refusal) → (1 ≤ refusal_number x) × (refusal_number x ≤ 22)
number_range refusal.TypeLength = (omega arith, omega arith)
number_range refusal.TypeTooLong = (omega arith, omega arith)
number_range refusal.BadRecord = (omega arith, omega arith)
number_range refusal.TooDeep = (omega arith, omega arith)
number_range refusal.NotOneType = (omega arith, omega arith)
number_range refusal.NeverStands = (omega arith, omega arith)
number_range refusal.TooLarge = (omega arith, omega arith)
number_range refusal.ShapeTooLong = (omega arith, omega arith)
number_range refusal.NotOneTree = (omega arith, omega arith)
number_range refusal.NotReconstructed = (omega arith, omega arith)
number_range refusal.NoUnit = (omega arith, omega arith)
number_range refusal.FrameLength = (omega arith, omega arith)
number_range refusal.StrayBit = (omega arith, omega arith)
number_range refusal.NoBytes = (omega arith, omega arith)
number_range refusal.DayLength = (omega arith, omega arith)
number_range refusal.PathOdd = (omega arith, omega arith)
number_range refusal.NoSuchPart = (omega arith, omega arith)
number_range refusal.ValueLength = (omega arith, omega arith)
number_range refusal.NotOneValue = (omega arith, omega arith)
number_range refusal.IntegerTooLarge = (omega arith, omega arith)
number_range refusal.ListTooLong = (omega arith, omega arith)
number_range refusal.NoRoom = (omega arith, omega arith)

pub refusal_room : (x : Refusal) → length (refusal_line (refusal_number x)) ≤ 12
refusal_room x = refusal_short 2 (refusal_number x) (omega (arith, (number_range x).1))

pub refused_as : {m n : ℕ} {out o : List ℕ} {r : ℕ} → m ≡ n → Wrote (refusal_line m) out o r → Wrote (refusal_line n) out o r
refused_as e w = rw (← e) w
