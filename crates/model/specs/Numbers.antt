-- The numbers of 01's table, 'Numbers by the place of the check', with those of 02 in their places, by name and in its order.
use Rattle.std.specs.Prelude.{ℕ}

-- TYPE

-- length zero or no multiple of 4
abbrev pub type_length : ℕ
type_length = 1

-- over 1,024 records
abbrev pub type_too_long : ℕ
type_too_long = 2

-- bad kind, byte 1 or n, a Variant where a type belongs or the reverse
abbrev pub bad_record : ℕ
bad_record = 3

-- a record deeper than 32, the root being 1
abbrev pub too_deep : ℕ
too_deep = 4

-- a record missing, or some left over
abbrev pub not_one_type : ℕ
not_one_type = 5

-- LOWERING

-- Never stands anywhere
abbrev pub never_stands : ℕ
never_stands = 6

-- it, a type in it or a payload type lowers to over 65,536 records
abbrev pub too_large : ℕ
too_large = 7

-- SHAPE

-- over 65,536 records
abbrev pub shape_too_long : ℕ
shape_too_long = 8

-- a byte above 3, or not exactly one tree
abbrev pub not_one_tree : ℕ
not_one_tree = 9

-- `reconstruct` gives `None`
abbrev pub not_reconstructed : ℕ
not_reconstructed = 10

-- then: anything but a unit stands where an empty tuple, an array of 0 or a variant without parts is read (02, R-5)
abbrev pub no_unit : ℕ
no_unit = 20

-- FRAME

-- length other than the type's
abbrev pub frame_length : ℕ
frame_length = 11

-- a padding or tail bit is 1
abbrev pub stray_bit : ℕ
stray_bit = 12

-- DAY FILE (R-4), in the place of FRAME

-- a frame of the type has no bytes
abbrev pub no_bytes : ℕ
no_bytes = 18

-- length no multiple of a frame's
abbrev pub day_length : ℕ
day_length = 19

-- PATH

-- odd length
abbrev pub path_odd : ℕ
path_odd = 13

-- no such part
abbrev pub no_such_part : ℕ
no_such_part = 14

-- VALUE

-- length zero or no multiple of 36
abbrev pub value_length : ℕ
value_length = 15

-- not one value of the type (for an edit, the part's)
abbrev pub not_one_value : ℕ
not_one_value = 16

-- in the place of 16 (R-7), at the record whose fault comes earliest in the file and after all else of that record: an integer too large for its width
abbrev pub integer_too_large : ℕ
integer_too_large = 21

-- likewise in the place of 16: a list length at or above the bound
abbrev pub list_too_long : ℕ
list_too_long = 22

-- RESULT

-- needs more bytes than the buffer has
abbrev pub no_room : ℕ
no_room = 17

-- LIMITS OF THE FILES

abbrev pub most_type_records : ℕ
most_type_records = 1024

abbrev pub deepest : ℕ
deepest = 32

abbrev pub most_shape_records : ℕ
most_shape_records = 65536
