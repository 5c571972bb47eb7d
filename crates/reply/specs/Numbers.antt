-- The table's number for each refusal, and the numbers of an answer.
use Rattle.std.proofs.Math.Option.{Option, none, some}
use Rattle.std.specs.Prelude.{ℕ, Option as Optional, Some, None, Result, Ok, Err}
use Rattle.std.specs.Result.{result_unwrap_or}
use Rattle.model.specs.Numbers.{type_length, type_too_long, bad_record, too_deep, not_one_type, never_stands, too_large, shape_too_long, not_one_tree, not_reconstructed, no_unit, frame_length, stray_bit, no_bytes, day_length, path_odd, no_such_part, value_length, not_one_value, integer_too_large, list_too_long, no_room}
use Rattle.reply.specs.declared.Refusal.{Refusal}
use Rattle.reply.specs.declared.Refusal.TheVariants.{TypeLength, TypeTooLong, BadRecord, TooDeep, NotOneType, NeverStands, TooLarge, ShapeTooLong, NotOneTree, NotReconstructed, NoUnit, FrameLength, StrayBit, NoBytes, DayLength, PathOdd, NoSuchPart, ValueLength, NotOneValue, IntegerTooLarge, ListTooLong, NoRoom}
use Rattle.reply.specs.declared.TypeRoom.{TypeRoom}

abbrev pub refusal_number : Refusal → ℕ
refusal_number TypeLength = type_length
refusal_number TypeTooLong = type_too_long
refusal_number BadRecord = bad_record
refusal_number TooDeep = too_deep
refusal_number NotOneType = not_one_type
refusal_number NeverStands = never_stands
refusal_number TooLarge = too_large
refusal_number ShapeTooLong = shape_too_long
refusal_number NotOneTree = not_one_tree
refusal_number NotReconstructed = not_reconstructed
refusal_number NoUnit = no_unit
refusal_number FrameLength = frame_length
refusal_number StrayBit = stray_bit
refusal_number NoBytes = no_bytes
refusal_number DayLength = day_length
refusal_number PathOdd = path_odd
refusal_number NoSuchPart = no_such_part
refusal_number ValueLength = value_length
refusal_number NotOneValue = not_one_value
refusal_number IntegerTooLarge = integer_too_large
refusal_number ListTooLong = list_too_long
refusal_number NoRoom = no_room

-- the number of an answer: 0 where the operation is accepted
abbrev pub number_of : {A : Type 0} → Result A Refusal → ℕ
number_of (Ok x) = 0
number_of (Err x) = refusal_number x

-- its length: 0 where the operation is refused
abbrev pub length_of : Result ℕ Refusal → ℕ
length_of r = result_unwrap_or r 0

-- the room of an answer: three times 0 where the type is refused
abbrev pub room_of : Result TypeRoom Refusal → TypeRoom
room_of r = result_unwrap_or r (record { lowered = 0; bits = 0; shape = 0 })

-- the index that was found
abbrev pub found_at : Result (Optional ℕ) Refusal → Option ℕ
found_at (Ok (Some i)) = some i
found_at (Ok None) = none
found_at (Err x) = none
