-- One table of cases over the operations, bytes in, number and bytes out, that the checker computes from the definitions (`computed`, by refl):
-- 01's starred cases; for every row of the numbers the smallest input; for two rows that hold at once, the number that comes first;
-- 01's traps; and the other cases along its edges. A second table has two edits, one after the other (02, R-2), a third the room of types and of values (02, R-1). Every right side is a literal, worked out by hand from 01 and 02.
use Rattle.std.specs.Prelude.{◌≡◌, refl, Bool, true, false, ◌&&◌, List, [], ◌∷◌, ◌++◌, map, ℕ, zero, suc, ◌/◌, ◌%◌, eqb, length, replicate}
use Rattle.model.specs.Outcome.{Outcome}
use Rattle.model.specs.Bytes.{to_bits, of_bits, byte_bits, bits_of, pack, fill, number, in_bytes}
use Rattle.model.specs.Balanced.{next, next_power_of_two, btree_split_index, grow, btree, fold}
use Rattle.model.specs.Structural.{type_records, shape_records, enum_injection, partition_type, partition}
use Rattle.model.specs.TypeFiles.{head, variant_parts, read_type, type_of}
use Rattle.model.specs.Lowering.{lower, has_never, over_large}
use Rattle.model.specs.Values.{inject}
use Rattle.model.specs.Reconstruct.{unfold_tree, combine, as_enum_leaf, reconstruct}
use Rattle.model.specs.Spots.{in_list, walk}
use Rattle.model.specs.ShapeFiles.{read_shape, shape_of}
use Rattle.model.specs.ValueFiles.{encode, value_file, same, parse_at, value_of}
use Rattle.model.specs.Frames.{after, bits, frame, frame_file, from_bits, padding, unframe}
use Rattle.model.specs.Paths.{steps, span, among, element, in_variant, step, pick_child, follow, found}
use Rattle.model.specs.Operations.{lowering, lowered, room, shaped, shape_room, earlier_reading, reconstructed, cleaned_shape, framed, unframed, part_read, edited, delivered, told_room, told_count}

-- HOW A CASE IS WRITTEN

-- k digits of n in the base
unfoldable pub digits_in : ℕ → ℕ → ℕ → List ℕ
digits_in base zero n = []
digits_in base (suc k) n = digits_in base k (n / base) ++ (n % base) ∷ []

-- k digits, and k bytes
abbrev digits : ℕ → ℕ → List ℕ
digits = digits_in 10

abbrev pub hex : ℕ → ℕ → List ℕ
hex = digits_in 256

-- k times the same bytes
unfoldable pub times : ℕ → List ℕ → List ℕ
times zero l = []
times (suc k) l = l ++ times k l

-- number, length and buffer
abbrev pub Reply : Type 0
Reply = ℕ × ℕ × List ℕ

pub record Case : Type 0 where
  pub got : Reply
  pub want : Reply

-- the reply with this buffer
abbrev answers : Outcome (List ℕ) → List ℕ → Reply → Case
answers o buffer reply = record { got = delivered o buffer; want = reply }

-- the result stands in a buffer with one byte more, which stays
abbrev pub gives : Outcome (List ℕ) → List ℕ → Case
gives o result = answers o (replicate (suc (length result)) 238) (0, length result, result ++ 238 ∷ [])

-- the number, and nothing in the buffer has changed
abbrev pub refuses : Outcome (List ℕ) → ℕ → Case
refuses o n = answers o (238 ∷ []) (n, 0, 238 ∷ [])

-- the number, though a buffer of no bytes has room for no result
abbrev refuses_first : Outcome (List ℕ) → ℕ → Case
refuses_first o n = answers o [] (n, 0, [])

-- an edit changes the frame's own bytes, or none of them: type, frame, path, value; the frame afterwards or the number
abbrev edits : List ℕ → List ℕ → List ℕ → List ℕ → List ℕ → Case
edits ty frame path val result = answers (edited after ty frame path val) frame (0, length result, result)

abbrev edit_refuses : List ℕ → List ℕ → List ℕ → List ℕ → ℕ → Case
edit_refuses ty frame path val n = answers (edited after ty frame path val) frame (n, 0, frame)

-- two edits that leave x and y alone, in both orders: type, frame, path, value, x, path, value, y; the one frame afterwards
abbrev either_way : List ℕ → List ℕ → List ℕ → List ℕ → List ℕ → List ℕ → List ℕ → List ℕ → List ℕ → List Case
either_way ty frame path val x other new y result = edits ty frame path val x ∷ edits ty frame other new y ∷ edits ty x other new result ∷ edits ty y path val result ∷ []

-- two of one part: the second leaves what it leaves alone, in both orders
abbrev second_only : List ℕ → List ℕ → List ℕ → List ℕ → List ℕ → List ℕ → List ℕ → List Case
second_only ty frame path val x new y = edits ty frame path val x ∷ edits ty frame path new y ∷ edits ty x path new y ∷ edits ty y path val x ∷ []

-- the value already there is read, and an edit to it leaves the frame
abbrev stays : List ℕ → List ℕ → List ℕ → List ℕ → List Case
stays ty frame path val = gives (part_read after ty frame path) val ∷ edits ty frame path val frame ∷ []

-- a type's room: lowered records, frame bits, the most records of a shape; the last two stand where other cases have their buffer
abbrev tells : List ℕ → ℕ × ℕ × ℕ × ℕ → Case
tells ty reply = record { got = let r = told_room (room ty) in (r.0, r.1, r.2 ∷ r.3 ∷ []); want = (reply.0, reply.1, reply.2 ∷ reply.3 ∷ []) }

abbrev takes : List ℕ → ℕ → ℕ → ℕ → Case
takes ty lowered bits shape = tells ty (0, lowered, bits, shape)

-- refused, and 0 for the three
abbrev takes_none : List ℕ → ℕ → Case
takes_none ty n = tells ty (n, 0, 0, 0)

-- the records of a value's shape, or the number and 0
abbrev counts : List ℕ → List ℕ → ℕ → Case
counts ty val n = record { got = let r = told_count (shape_room ty val) in (r.0, r.1, []); want = (0, n, []) }

abbrev counts_none : List ℕ → List ℕ → ℕ → Case
counts_none ty val n = record { got = let r = told_count (shape_room ty val) in (r.0, r.1, []); want = (n, 0, []) }

unfoldable pub same_list : List ℕ → List ℕ → Bool
same_list [] [] = true
same_list [] (y ∷ ys) = false
same_list (x ∷ xs) [] = false
same_list (x ∷ xs) (y ∷ ys) = eqb x y && same_list xs ys

unfoldable pub holds : Case → Bool
holds c = eqb c.got.0 c.want.0 && eqb c.got.1 c.want.1 && same_list c.got.2 c.want.2

unfoldable pub all_hold : List Case → Bool
all_hold [] = true
all_hold (c ∷ cs) = holds c && all_hold cs

-- TYPE FILES

abbrev pub never : List ℕ
never = hex 4 0x00000000

abbrev pub boolean : List ℕ
boolean = hex 4 0x01000000

abbrev pub u1 : List ℕ
u1 = hex 4 0x02000001

abbrev u2 : List ℕ
u2 = hex 4 0x02000002

abbrev u256 : List ℕ
u256 = hex 4 0x02000100

-- the empty tuple
abbrev pub nothing : List ℕ
nothing = hex 4 0x05000000

-- ((), ())
abbrev pub two_nothings : List ℕ
two_nothings = hex 12 0x05000002_05000000_05000000

-- an Array of 0 Booleans
abbrev pub no_booleans : List ℕ
no_booleans = hex 8 0x06000000_01000000

-- a List of () with bound 4
abbrev list_4_nothing : List ℕ
list_4_nothing = hex 8 0x07000004_05000000

-- one variant, without parts and with the part ()
abbrev one_variant : List ℕ
one_variant = hex 8 0x08000001_09000000

abbrev nothing_variant : List ℕ
nothing_variant = hex 12 0x08000001_09000001_05000000

-- k Options, one in the other, around what follows
abbrev pub options : ℕ → List ℕ
options k = times k (hex 4 0x04000000)

-- a Tuple of two, and an Either of two, which follow
abbrev pub two_of : List ℕ
two_of = hex 4 0x05000002

abbrev pub either_of : List ℕ
either_of = hex 4 0x03000000

abbrev option_bool : List ℕ
option_bool = hex 8 0x04000000_01000000

abbrev pub option_u4 : List ℕ
option_u4 = hex 8 0x04000000_02000004

abbrev three_booleans : List ℕ
three_booleans = hex 16 0x05000003_01000000_01000000_01000000

abbrev pub u4_or_bool : List ℕ
u4_or_bool = hex 12 0x03000000_02000004_01000000

abbrev pub three_u4 : List ℕ
three_u4 = hex 8 0x06000003_02000004

-- (u4, (), u4)
abbrev pub u4_nothing_u4 : List ℕ
u4_nothing_u4 = hex 16 0x05000003_02000004_05000000_02000004

-- Lists of u1 with bound 2, 4 and 8, of u4 with bound 8
abbrev list_2 : List ℕ
list_2 = hex 8 0x07000002_02000001

abbrev pub list_4 : List ℕ
list_4 = hex 8 0x07000004_02000001

abbrev list_8 : List ℕ
list_8 = hex 8 0x07000008_02000001

abbrev pub list_8_u4 : List ℕ
list_8_u4 = hex 8 0x07000008_02000004

-- (u4, List of u1 bound 4)
abbrev pub u4_and_list : List ℕ
u4_and_list = hex 16 0x05000002_02000004_07000004_02000001

-- (u4, List of u4 bound 8, Option of u8): a recipe, hits and a density
abbrev pub sensors : List ℕ
sensors = hex 24 0x05000003_02000004_07000008_02000004_04000000_02000008

-- variants none, (u1), (u1, bool)
abbrev pub variants : List ℕ
variants = hex 28 0x08000003_09000000_09000001_02000001_09000002_02000001_01000000

-- five variants without parts
abbrev five_variants : List ℕ
five_variants = hex 24 0x08000005_09000000_09000000_09000000_09000000_09000000

-- an Array of 65 u256: 65 * 1,023 + 64 = 66,559 records
abbrev pub large_type : List ℕ
large_type = hex 8 0x06000041_02000100

-- a record of no kind
abbrev pub bad_kind : List ℕ
bad_kind = hex 4 0x0A000000

-- 33 records, each under the one before
abbrev pub deep_type : List ℕ
deep_type = options 32 ++ boolean

-- 1,025 records
abbrev pub long_type : List ℕ
long_type = hex 4 0x05000400 ++ times 1024 boolean

-- VALUE FILES

-- a record: kind, choice, n, integer
abbrev pub val : ℕ → ℕ → ℕ → ℕ → List ℕ
val kind choice n integer = kind ∷ choice ∷ hex 2 n ++ hex 32 integer

abbrev pub bool_is : ℕ → List ℕ
bool_is choice = val 1 choice 0 0

abbrev pub u1_is : ℕ → List ℕ
u1_is = val 2 0 1

abbrev pub u4_is : ℕ → List ℕ
u4_is = val 2 0 4

abbrev pub u8_is : ℕ → List ℕ
u8_is = val 2 0 8

abbrev pub left_of : List ℕ
left_of = val 3 0 0 0

abbrev pub right_of : List ℕ
right_of = val 3 1 0 0

abbrev pub none_is : List ℕ
none_is = val 4 0 0 0

abbrev pub some_of : List ℕ
some_of = val 4 1 0 0

abbrev pub tuple_of : ℕ → List ℕ
tuple_of n = val 5 0 n 0

abbrev pub array_of : ℕ → List ℕ
array_of n = val 6 0 n 0

abbrev pub list_of : ℕ → List ℕ
list_of n = val 7 0 n 0

abbrev pub variant : ℕ → List ℕ
variant n = val 8 0 n 0

-- (9, [1]) of u4-and-list
abbrev pub nine_and_one : List ℕ
nine_and_one = tuple_of 2 ++ u4_is 9 ++ list_of 1 ++ u1_is 1

-- [1, 2, 3, 4] of a List of u4
abbrev pub four_hits : List ℕ
four_hits = list_of 4 ++ u4_is 1 ++ u4_is 2 ++ u4_is 3 ++ u4_is 4

-- a record of kind 0: no type has such a value
abbrev pub no_value : List ℕ
no_value = replicate 36 0

-- OTHER FILES

-- 65,537 trees, and one tree of 65,537 records
abbrev long_shape : List ℕ
long_shape = replicate 65537 0

abbrev long_tree : List ℕ
long_tree = replicate 65536 1 ++ 0 ∷ []

-- a path that leads to a part of no value: nothing has a child 65,535
abbrev pub no_path : List ℕ
no_path = hex 2 0xFFFF

-- 01'S STARRED CASES

starred : List Case
starred =
    -- the left sides of trees of 2 to 9 parts
    record { got = (0, 8, map btree_split_index (2 ∷ 3 ∷ 4 ∷ 5 ∷ 6 ∷ 7 ∷ 8 ∷ 9 ∷ [])); want = (0, 8, digits 8 11212341) }
    ∷ gives (lowered nothing) (digits 1 0)
    ∷ gives (lowered u2) (digits 7 2100100)
    ∷ gives (lowered three_booleans) (digits 11 21002100100)
    ∷ gives (lowered list_4) (digits 15 210210010010100)
    ∷ gives (shaped list_4 (list_of 0)) (digits 5 31010)
    ∷ gives (shaped list_4 (list_of 1 ++ u1_is 1)) (digits 6 310220)
    ∷ gives (shaped list_4 (list_of 2 ++ u1_is 1 ++ u1_is 0)) (digits 9 323201010)
    ∷ gives (shaped list_4 (list_of 3 ++ u1_is 1 ++ u1_is 0 ++ u1_is 1)) (digits 10 3232010220)
    ∷ gives (shaped variants (variant 0)) (digits 2 10)
    ∷ gives (shaped variants (variant 1 ++ u1_is 1)) (digits 4 2120)
    ∷ gives (shaped variants (variant 2 ++ u1_is 1 ++ bool_is 0)) (digits 7 2232010)
    ∷ gives (framed after u4_or_bool (right_of ++ bool_is 1)) (hex 1 0xC0)
    ∷ gives (framed after u4_and_list nine_and_one) (hex 2 0x9180)
    ∷ edits u4_and_list (hex 2 0x9180) (hex 2 0) (u4_is 6) (hex 2 0x6180)
    ∷ []

-- EVERY ROW ONCE, on the smallest input (the bytes of all arguments together)

rows : List Case
rows =
    refuses (lowered []) 1
    ∷ refuses (lowered long_type) 2
    ∷ refuses (lowered bad_kind) 3
    ∷ refuses (lowered deep_type) 4
    -- an Option without its child
    ∷ refuses (lowered (options 1)) 5
    ∷ refuses (lowered never) 6
    -- an Array of 32,769 units: 65,537 records
    ∷ refuses (lowered (hex 8 0x06008001_05000000)) 7
    ∷ refuses (reconstructed nothing long_tree) 8
    ∷ refuses (reconstructed nothing []) 9
    ∷ refuses (reconstructed boolean (digits 1 0)) 10
    ∷ refuses (reconstructed nothing (digits 2 10)) 20
    ∷ refuses (unframed after boolean []) 11
    ∷ refuses (unframed after boolean (hex 1 0x40)) 12
    ∷ refuses (part_read after nothing [] (hex 1 0)) 13
    ∷ refuses (part_read after nothing [] (hex 2 0)) 14
    ∷ refuses (framed after boolean []) 15
    ∷ refuses (framed after boolean no_value) 16
    ∷ answers (lowered nothing) [] (17, 0, [])
    -- a u1 holding 2; a length of 2 in a list of bound 2
    ∷ refuses (framed after u1 (u1_is 2)) 21
    ∷ refuses (framed after list_2 (list_of 2)) 22
    ∷ []

-- TWO ROWS AT ONCE; the comments name them. Left out is what cannot be: rows 9 and 10 (10 needs a tree), rows 10, 12, 20, 21 and 22 with 2 to 4 (they need a type),
-- and rows of files that no operation takes together.
-- In one type file

type_pairs : List Case
type_pairs =
    -- 1 and each of 2 to 7: a byte more than records
    refuses (lowered (long_type ++ 0 ∷ [])) 1
    ∷ refuses (lowered (bad_kind ++ 0 ∷ [])) 1
    ∷ refuses (lowered (deep_type ++ 0 ∷ [])) 1
    ∷ refuses (lowered (options 1 ++ 0 ∷ [])) 1
    ∷ refuses (lowered (never ++ 0 ∷ [])) 1
    ∷ refuses (lowered (large_type ++ 0 ∷ [])) 1
    -- 2 and each of 3 to 7
    ∷ refuses (lowered (times 1025 bad_kind)) 2
    ∷ refuses (lowered (options 1025)) 2
    ∷ refuses (lowered (times 1025 boolean)) 2
    ∷ refuses (lowered (hex 4 0x05000400 ++ times 1024 never)) 2
    ∷ refuses (lowered (hex 4 0x05000400 ++ times 1024 u256)) 2
    -- 3 and 4: at one record; the bad one earlier; the deep one earlier
    ∷ refuses (lowered (options 32 ++ bad_kind)) 3
    ∷ refuses (lowered (two_of ++ bad_kind ++ options 31 ++ boolean)) 3
    ∷ refuses (lowered (two_of ++ options 31 ++ boolean ++ bad_kind)) 4
    -- 3 and 5: one missing behind a bad one; a bad one left over
    ∷ refuses (lowered (two_of ++ bad_kind)) 3
    ∷ refuses (lowered (boolean ++ bad_kind)) 5
    -- 3 and 6; 3 and 7
    ∷ refuses (lowered (two_of ++ never ++ bad_kind)) 3
    ∷ refuses (lowered (two_of ++ large_type ++ bad_kind)) 3
    -- 4 and 5: one missing behind a deep one; one left over; but a record that is missing below depth 32 is not too deep
    ∷ refuses (lowered (two_of ++ options 31 ++ boolean)) 4
    ∷ refuses (lowered (deep_type ++ boolean)) 4
    ∷ refuses (lowered (options 32)) 5
    -- 4 and 6; 4 and 7
    ∷ refuses (lowered (options 32 ++ never)) 4
    ∷ refuses (lowered (options 32 ++ large_type)) 4
    -- 5 and 6; 5 and 7
    ∷ refuses (lowered (never ++ never)) 5
    ∷ refuses (lowered (large_type ++ boolean)) 5
    -- 6 and 7
    ∷ refuses (lowered (two_of ++ never ++ large_type)) 6
    ∷ []

-- behind a type that is refused with n: files of rows 11, 13, 14, 15 and 16 whatever the type (no frame exceeds 4,096 bytes), and no room
behind : ℕ → List ℕ → List Case
behind n ty =
    refuses (unframed after ty (replicate 4097 0)) n
    ∷ refuses (part_read after ty [] (hex 1 0)) n
    ∷ refuses (part_read after ty [] no_path) n
    ∷ refuses (framed after ty []) n
    ∷ refuses (shaped ty no_value) n
    ∷ refuses_first (lowered ty) n
    ∷ []

-- the same with rows 8 and 9
behind_all : ℕ → List ℕ → List Case
behind_all n ty =
    refuses (reconstructed ty long_shape) n
    ∷ refuses (reconstructed ty []) n
    ∷ refuses (cleaned_shape ty long_shape) n
    ∷ refuses (cleaned_shape ty []) n
    ∷ behind n ty

-- where another file has part in it
file_pairs : List Case
file_pairs =
    -- reconstruction skips 6 and 7: with 8, with 9, with 10, and alone
    refuses (reconstructed never long_tree) 8
    ∷ refuses (reconstructed never []) 9
    ∷ refuses (reconstructed never (digits 1 0)) 10
    ∷ refuses (reconstructed large_type long_tree) 8
    ∷ refuses (reconstructed large_type []) 9
    ∷ refuses (reconstructed large_type (digits 1 0)) 10
    ∷ gives (reconstructed (two_of ++ boolean ++ options 1 ++ never) (digits 5 32010)) (tuple_of 2 ++ bool_is 1 ++ none_is)
    ∷ gives (reconstructed (two_of ++ boolean ++ options 1 ++ large_type) (digits 5 32010)) (tuple_of 2 ++ bool_is 1 ++ none_is)
    -- so does cleaning
    ∷ refuses (cleaned_shape never long_tree) 8
    ∷ refuses (cleaned_shape never []) 9
    ∷ refuses (cleaned_shape never (digits 1 0)) 10
    ∷ refuses (cleaned_shape large_type (digits 1 0)) 10
    ∷ gives (cleaned_shape (two_of ++ nothing ++ options 1 ++ never) (digits 6 330010)) (digits 4 3010)
    ∷ gives (cleaned_shape (two_of ++ nothing ++ options 1 ++ large_type) (digits 6 330010)) (digits 4 3010)
    -- 1 and 10, 1 and 12, 1 and 20; 5 and 10, 5 and 12, 5 and 20: behind the type in front
    ∷ refuses (reconstructed (boolean ++ 0 ∷ []) (digits 1 0)) 1
    ∷ refuses (unframed after (boolean ++ 0 ∷ []) (hex 1 0x40)) 1
    ∷ refuses (reconstructed (nothing ++ 0 ∷ []) (digits 2 10)) 1
    ∷ refuses (cleaned_shape (boolean ++ 0 ∷ []) (digits 1 0)) 1
    ∷ refuses (reconstructed (boolean ++ boolean) (digits 1 0)) 5
    ∷ refuses (unframed after (boolean ++ boolean) (hex 1 0x40)) 5
    ∷ refuses (reconstructed (nothing ++ nothing) (digits 2 10)) 5
    ∷ refuses (cleaned_shape (boolean ++ boolean) (digits 1 0)) 5
    -- 7 and 12: none, behind it 16,640 bits of padding and 7 of the tail
    ∷ refuses (unframed after (options 1 ++ large_type) (replicate 2081 127)) 7
    -- 8 and 9; 8 and 10
    ∷ refuses (reconstructed nothing long_shape) 8
    ∷ refuses (reconstructed boolean long_tree) 8
    ∷ refuses (cleaned_shape nothing long_shape) 8
    ∷ refuses (cleaned_shape boolean long_tree) 8
    -- 8 and 20; 9 and 20: a second tree, a byte above 3, a tree cut short
    ∷ refuses (reconstructed no_booleans long_tree) 8
    ∷ refuses (reconstructed nothing (digits 3 100)) 9
    ∷ refuses (reconstructed nothing (digits 2 14)) 9
    ∷ refuses (reconstructed nothing (digits 3 310)) 9
    -- 10 and 20: the one or the other first in the shape
    ∷ refuses (reconstructed (two_of ++ nothing ++ boolean) (digits 4 3100)) 10
    ∷ refuses (reconstructed (two_of ++ boolean ++ nothing) (digits 4 3010)) 10
    ∷ refuses (reconstructed (two_of ++ nothing ++ never) (digits 4 3100)) 10
    ∷ refuses (reconstructed (two_of ++ never ++ nothing) (digits 4 3010)) 10
    ∷ refuses (cleaned_shape (two_of ++ nothing ++ boolean) (digits 4 3100)) 10
    ∷ refuses (cleaned_shape (two_of ++ boolean ++ nothing) (digits 4 3010)) 10
    -- 11 and 12: a byte too long, and its padding is 1
    ∷ refuses (unframed after boolean (hex 2 0x4000)) 11
    -- 11 and 13; 11 and 14; 11 and 15; 11 and 16
    ∷ refuses (part_read after boolean [] (hex 1 0)) 11
    ∷ refuses (part_read after boolean [] no_path) 11
    ∷ edit_refuses boolean [] [] [] 11
    ∷ edit_refuses boolean [] [] no_value 11
    -- 12 and 13; 12 and 14; 12 and 15; 12 and 16
    ∷ refuses (part_read after boolean (hex 1 0x40) (hex 1 0)) 12
    ∷ refuses (part_read after boolean (hex 1 0x40) no_path) 12
    ∷ edit_refuses boolean (hex 1 0x40) [] [] 12
    ∷ edit_refuses boolean (hex 1 0x40) [] no_value 12
    -- 13 and 14; 13 and 15; 13 and 16
    ∷ refuses (part_read after boolean (hex 1 0) (hex 3 0xFFFF00)) 13
    ∷ edit_refuses boolean (hex 1 0) (hex 1 0) [] 13
    ∷ edit_refuses boolean (hex 1 0) (hex 1 0) no_value 13
    -- 14 and 15; 14 and 16
    ∷ edit_refuses boolean (hex 1 0) no_path [] 14
    ∷ edit_refuses boolean (hex 1 0) no_path no_value 14
    -- 15 and 16: no record; a byte more than one
    ∷ refuses (shaped boolean []) 15
    ∷ refuses (shaped boolean (no_value ++ 0 ∷ [])) 15
    -- 15 and 21; 15 and 22: a byte more than records
    ∷ refuses (shaped u1 (u1_is 2 ++ 0 ∷ [])) 15
    ∷ refuses (shaped list_2 (list_of 2 ++ 0 ∷ [])) 15
    -- 16 and 21 at one record: choice, bits, kind
    ∷ refuses (shaped u1 (val 2 1 1 2)) 16
    ∷ refuses (shaped u1 (val 2 0 2 2)) 16
    ∷ refuses (shaped u1 (val 2 0 2 9)) 16
    ∷ refuses (shaped u1 (val 1 0 1 2)) 16
    -- 16 and 22 at one record: choice, kind, integer
    ∷ refuses (shaped list_4 (val 7 1 4 0)) 16
    ∷ refuses (shaped list_4 (val 6 0 4 0)) 16
    ∷ refuses (shaped list_4 (val 7 0 4 1)) 16
    -- at two records the earlier one decides: 16 and 21, 16 and 22, 21 and 22, each in both orders
    ∷ refuses (shaped (two_of ++ boolean ++ u1) (tuple_of 2 ++ bool_is 2 ++ u1_is 2)) 16
    ∷ refuses (shaped (two_of ++ u1 ++ boolean) (tuple_of 2 ++ u1_is 2 ++ bool_is 2)) 21
    ∷ refuses (shaped (two_of ++ u1 ++ u1) (tuple_of 2 ++ bool_is 1 ++ u1_is 2)) 16
    ∷ refuses (shaped (two_of ++ u1 ++ u1) (tuple_of 2 ++ u1_is 2 ++ bool_is 1)) 21
    ∷ refuses (shaped (two_of ++ boolean ++ list_4) (tuple_of 2 ++ bool_is 2 ++ list_of 4)) 16
    ∷ refuses (shaped (two_of ++ list_4 ++ boolean) (tuple_of 2 ++ list_of 4 ++ bool_is 2)) 22
    ∷ refuses (shaped (two_of ++ u1 ++ list_4) (tuple_of 2 ++ u1_is 2 ++ list_of 4)) 21
    ∷ refuses (shaped (two_of ++ list_4 ++ u1) (tuple_of 2 ++ list_of 4 ++ u1_is 2)) 22
    -- a parent before its child: a wrong count, a choice of 2, a list at its bound, each over a u1 holding 2
    ∷ refuses (shaped (two_of ++ u1 ++ u1) (tuple_of 1 ++ u1_is 2)) 16
    ∷ refuses (shaped (hex 8 0x06000002_02000001) (array_of 1 ++ u1_is 2)) 16
    ∷ refuses (shaped (options 1 ++ u1) (val 4 2 0 0 ++ u1_is 2)) 16
    ∷ refuses (shaped list_4 (list_of 4 ++ u1_is 2 ++ u1_is 2 ++ u1_is 2 ++ u1_is 2)) 22
    ∷ refuses (shaped list_4 (list_of 3 ++ u1_is 1 ++ u1_is 2 ++ u1_is 2)) 21
    -- before a missing record and before one left over; but leftovers are not looked at
    ∷ refuses (shaped (two_of ++ u1 ++ boolean) (tuple_of 2 ++ u1_is 2)) 21
    ∷ refuses (shaped list_4 (list_of 3 ++ u1_is 2)) 21
    ∷ refuses (shaped u1 (u1_is 2 ++ u1_is 1)) 21
    ∷ refuses (shaped list_4 (list_of 5)) 22
    ∷ refuses (shaped list_2 (list_of 2 ++ u1_is 1 ++ u1_is 1 ++ u1_is 1)) 22
    ∷ refuses (shaped list_4 (list_of 3 ++ u1_is 1)) 16
    ∷ refuses (shaped u1 (u1_is 1 ++ u1_is 2)) 16
    -- a variant past the last, before its payload
    ∷ refuses (shaped variants (variant 3 ++ u1_is 2)) 16
    ∷ refuses (shaped variants (variant 1 ++ u1_is 2)) 21
    -- 1, 5, 6 and 7, each and 21 and 22
    ∷ refuses (shaped (u1 ++ 0 ∷ []) (u1_is 2)) 1
    ∷ refuses (shaped (list_4 ++ 0 ∷ []) (list_of 4)) 1
    ∷ refuses (shaped (u1 ++ u1) (u1_is 2)) 5
    ∷ refuses (shaped (list_4 ++ u1) (list_of 4)) 5
    ∷ refuses (shaped (two_of ++ u1 ++ never) (tuple_of 2 ++ u1_is 2)) 6
    ∷ refuses (shaped (two_of ++ list_4 ++ never) (tuple_of 2 ++ list_of 4)) 6
    ∷ refuses (shaped (two_of ++ u1 ++ large_type) (tuple_of 2 ++ u1_is 2)) 7
    ∷ refuses (shaped (two_of ++ list_4 ++ large_type) (tuple_of 2 ++ list_of 4)) 7
    -- 11 to 14, each and 21 and 22
    ∷ edit_refuses u1 [] [] (u1_is 2) 11
    ∷ edit_refuses list_4 [] [] (list_of 4) 11
    ∷ edit_refuses u1 (hex 1 0x40) [] (u1_is 2) 12
    ∷ edit_refuses list_4 (hex 1 0x40) [] (list_of 4) 12
    ∷ edit_refuses u1 (hex 1 0) (hex 1 0) (u1_is 2) 13
    ∷ edit_refuses list_4 (hex 1 0) (hex 1 0) (list_of 4) 13
    ∷ edit_refuses u1 (hex 1 0) no_path (u1_is 2) 14
    ∷ edit_refuses list_4 (hex 1 0) no_path (list_of 4) 14
    -- 8 to 16, 21 and 22, and 17
    ∷ refuses_first (reconstructed nothing long_tree) 8
    ∷ refuses_first (reconstructed nothing []) 9
    ∷ refuses_first (reconstructed boolean (digits 1 0)) 10
    ∷ refuses_first (reconstructed nothing (digits 2 10)) 20
    ∷ refuses_first (cleaned_shape nothing long_tree) 8
    ∷ refuses_first (cleaned_shape nothing []) 9
    ∷ refuses_first (cleaned_shape boolean (digits 1 0)) 10
    ∷ refuses_first (unframed after boolean []) 11
    ∷ refuses_first (unframed after boolean (hex 1 0x40)) 12
    ∷ refuses_first (part_read after boolean (hex 1 0) (hex 1 0)) 13
    ∷ refuses_first (part_read after boolean (hex 1 0) no_path) 14
    ∷ refuses_first (framed after boolean []) 15
    ∷ refuses_first (framed after boolean no_value) 16
    ∷ refuses_first (framed after u1 (u1_is 2)) 21
    ∷ refuses_first (framed after list_4 (list_of 4)) 22
    ∷ []

pairs : List Case
pairs = type_pairs ++ behind_all 1 [] ++ behind_all 2 long_type ++ behind_all 3 bad_kind ++ behind_all 4 deep_type ++ behind_all 5 (options 1) ++ behind 6 never ++ behind 7 large_type ++ file_pairs

-- 01'S TRAPS

traps : List Case
traps =
    -- three parts give the left 1
    gives (shaped three_booleans (tuple_of 3 ++ bool_is 1 ++ bool_is 0 ++ bool_is 1)) (digits 8 32031020)
    ∷ gives (reconstructed three_booleans (digits 8 32031020)) (tuple_of 3 ++ bool_is 1 ++ bool_is 0 ++ bool_is 1)
    ∷ refuses (reconstructed three_booleans (digits 8 33201020)) 10
    -- five variants too: left 1, right 4
    ∷ gives (lowered five_variants) (digits 9 101100100)
    ∷ gives (shaped five_variants (variant 1)) (digits 4 2110)
    ∷ gives (reconstructed five_variants (digits 4 2210)) (variant 3)
    -- a block of b/2 is full with exactly b/2 elements: four of bound 8, written, framed, and both read back
    ∷ gives (shaped list_8 (list_of 4 ++ u1_is 1 ++ u1_is 0 ++ u1_is 1 ++ u1_is 1)) (digits 18 323320103202031010)
    ∷ gives (framed after list_8 (list_of 4 ++ u1_is 1 ++ u1_is 0 ++ u1_is 1 ++ u1_is 1)) (hex 2 0xD800)
    ∷ gives (reconstructed list_8 (digits 18 323320103202031010)) (list_of 4 ++ u1_is 1 ++ u1_is 0 ++ u1_is 1 ++ u1_is 1)
    ∷ gives (unframed after list_8 (hex 2 0xD800)) (list_of 4 ++ u1_is 1 ++ u1_is 0 ++ u1_is 1 ++ u1_is 1)
    -- and exactly two that remain for the block of 2; one of bound 2
    ∷ gives (framed after list_8 (list_of 6 ++ u1_is 0 ++ u1_is 0 ++ u1_is 0 ++ u1_is 0 ++ u1_is 1 ++ u1_is 1)) (hex 2 0x8700)
    ∷ gives (framed after list_2 (list_of 1 ++ u1_is 1)) (hex 1 0xC0)
    -- an Enum of one variant adds no sum
    ∷ gives (lowered (hex 12 0x08000001_09000001_02000001)) (digits 3 100)
    ∷ gives (shaped (hex 12 0x08000001_09000001_02000001) (variant 0 ++ u1_is 1)) (digits 2 20)
    ∷ gives (reconstructed (hex 12 0x08000001_09000001_02000001) (digits 2 20)) (variant 0 ++ u1_is 1)
    ∷ gives (framed after (hex 12 0x08000001_09000001_02000001) (variant 0 ++ u1_is 1)) (hex 1 0x80)
    ∷ gives (lowered (hex 8 0x08000001_09000000)) (digits 1 0)
    -- a Never is refused only where the shape reaches it: Option, Either, an Array of 0; writing gives 6
    ∷ gives (reconstructed (options 1 ++ never) (digits 2 10)) none_is
    ∷ refuses (reconstructed (options 1 ++ never) (digits 2 20)) 10
    ∷ refuses (shaped (options 1 ++ never) none_is) 6
    ∷ gives (reconstructed (hex 12 0x03000000_00000000_01000000) (digits 3 210)) (right_of ++ bool_is 0)
    ∷ refuses (reconstructed (hex 12 0x03000000_00000000_01000000) (digits 2 10)) 10
    ∷ gives (reconstructed (hex 8 0x06000000_00000000) (digits 1 0)) (array_of 0)
    -- each of an integer's bits is checked to be one
    ∷ refuses (reconstructed u2 (digits 4 3100)) 10
    ∷ refuses (reconstructed u2 (digits 6 310300)) 10
    ∷ []

-- THE OTHER CASES ALONG THE EDGES. Type files

type_edges : List Case
type_edges =
    -- 3: byte 1; n of each kind; a Variant where a type belongs, and the reverse
    refuses (lowered (hex 4 0x01010000)) 3
    ∷ refuses (lowered (hex 4 0x00000001)) 3
    ∷ refuses (lowered (hex 4 0x01000001)) 3
    ∷ refuses (lowered (hex 4 0x02000000)) 3
    ∷ refuses (lowered (hex 4 0x02000003)) 3
    ∷ refuses (lowered (hex 4 0x02000200)) 3
    ∷ refuses (lowered (hex 12 0x03000001_01000000_01000000)) 3
    ∷ refuses (lowered (hex 8 0x04000001_01000000)) 3
    ∷ refuses (lowered (hex 8 0x07000000_01000000)) 3
    ∷ refuses (lowered (hex 8 0x07000001_01000000)) 3
    ∷ refuses (lowered (hex 8 0x07000003_01000000)) 3
    ∷ refuses (lowered (hex 8 0x0700C000_01000000)) 3
    ∷ refuses (lowered (hex 4 0x08000000)) 3
    ∷ refuses (lowered (hex 4 0x09000000)) 3
    ∷ refuses (lowered (hex 8 0x08000001_05000000)) 3
    ∷ refuses (lowered (hex 8 0x08000001_09010000)) 3
    -- the largest bound is accepted: the empty list in its fifteen blocks
    ∷ gives (reconstructed (hex 8 0x07008000_05000000) (digits 44 31031031031031031031031031031031031031031010)) (list_of 0)
    -- 4: at depth 32 a Boolean is accepted; a Variant at depth 33 is not, and no Variant there is 3
    ∷ gives (lowered (options 31 ++ boolean)) (digits 65 10101010101010101010101010101010101010101010101010101010101010100)
    ∷ refuses (lowered (options 31 ++ hex 8 0x08000001_09000000)) 4
    ∷ refuses (lowered (options 31 ++ hex 8 0x08000001_01000000)) 3
    -- 5: one left over; a second side missing; a second Variant missing
    ∷ refuses (lowered (boolean ++ boolean)) 5
    ∷ refuses (lowered (hex 8 0x03000000_01000000)) 5
    ∷ refuses (lowered (hex 8 0x08000002_09000000)) 5
    -- 6: in an Array of 0, in a List, in a Variant
    ∷ refuses (lowered (hex 8 0x06000000_00000000)) 6
    ∷ refuses (lowered (hex 8 0x07000002_00000000)) 6
    ∷ refuses (lowered (hex 16 0x08000002_09000000_09000001_00000000)) 6
    -- 7: a type in it, though an Array of 0 lowers to one record; 65,537 records; 65,535 of them are accepted (64 u256), and do not fit the one byte
    ∷ refuses (lowered (hex 4 0x06000000 ++ large_type)) 7
    ∷ refuses (lowered (two_of ++ nothing ++ hex 8 0x06000040_02000100)) 7
    ∷ refuses (lowered (hex 8 0x06000040_02000100)) 17
    -- lowered types of the other kinds
    ∷ gives (lowered boolean) (digits 3 100)
    ∷ gives (lowered u4_or_bool) (digits 19 1221001002100100100)
    ∷ gives (lowered option_bool) (digits 5 10100)
    ∷ gives (lowered (hex 8 0x05000001_01000000)) (digits 3 100)
    ∷ gives (lowered (hex 8 0x06000000_01000000)) (digits 1 0)
    ∷ gives (lowered (hex 8 0x06000001_01000000)) (digits 3 100)
    ∷ gives (lowered (hex 8 0x06000003_05000000)) (digits 5 20200)
    ∷ gives (lowered list_2) (digits 5 10100)
    ∷ gives (lowered (hex 8 0x07000008_05000000)) (digits 19 2102200200210200100)
    ∷ gives (lowered variants) (digits 13 1011002100100)
    ∷ gives (lowered u4_and_list) (digits 31 2221001002100100210210010010100)
    ∷ []

-- Where a unit belongs
unit_edges : List Case
unit_edges =
    -- 20: a pair, a left or a right for an empty tuple, an array of 0, a variant without parts, a payload of one empty tuple; a unit is read
    refuses (reconstructed nothing (digits 3 300)) 20
    ∷ refuses (reconstructed nothing (digits 2 20)) 20
    ∷ gives (reconstructed nothing (digits 1 0)) (tuple_of 0)
    ∷ refuses (reconstructed no_booleans (digits 3 300)) 20
    ∷ refuses (reconstructed no_booleans (digits 2 10)) 20
    ∷ gives (reconstructed no_booleans (digits 1 0)) (array_of 0)
    ∷ refuses (reconstructed variants (digits 4 1300)) 20
    ∷ gives (reconstructed variants (digits 2 10)) (variant 0)
    ∷ refuses (reconstructed five_variants (digits 5 22210)) 20
    ∷ gives (reconstructed five_variants (digits 4 2220)) (variant 4)
    ∷ refuses (reconstructed one_variant (digits 3 300)) 20
    ∷ gives (reconstructed one_variant (digits 1 0)) (variant 0)
    ∷ refuses (reconstructed nothing_variant (digits 2 10)) 20
    ∷ gives (reconstructed nothing_variant (digits 1 0)) (variant 0 ++ tuple_of 0)
    -- under a some, on either side, in a tuple of one, in an array
    ∷ refuses (reconstructed (options 1 ++ nothing) (digits 3 210)) 20
    ∷ gives (reconstructed (options 1 ++ nothing) (digits 2 20)) (some_of ++ tuple_of 0)
    ∷ refuses (reconstructed (either_of ++ nothing ++ boolean) (digits 3 120)) 20
    ∷ refuses (reconstructed (either_of ++ boolean ++ nothing) (digits 3 210)) 20
    ∷ gives (reconstructed (either_of ++ boolean ++ nothing) (digits 2 20)) (right_of ++ tuple_of 0)
    ∷ refuses (reconstructed (hex 4 0x05000001 ++ nothing) (digits 2 10)) 20
    ∷ gives (reconstructed (hex 4 0x05000001 ++ nothing) (digits 1 0)) (tuple_of 1 ++ tuple_of 0)
    ∷ refuses (reconstructed (hex 4 0x06000002 ++ nothing) (digits 4 3020)) 20
    ∷ gives (reconstructed (hex 4 0x06000002 ++ nothing) (digits 3 300)) (array_of 2 ++ tuple_of 0 ++ tuple_of 0)
    -- in the first block of a list, at its first element and its second; in the last block
    ∷ refuses (reconstructed list_4_nothing (digits 8 32310010)) 20
    ∷ refuses (reconstructed list_4_nothing (digits 8 32302010)) 20
    ∷ refuses (reconstructed list_4_nothing (digits 6 310210)) 20
    ∷ gives (reconstructed list_4_nothing (digits 7 3230010)) (list_of 2 ++ tuple_of 0 ++ tuple_of 0)
    -- two spots: at the first, the second, both; and a Never or a large type that is not reached
    ∷ refuses (reconstructed two_nothings (digits 4 3100)) 20
    ∷ refuses (reconstructed two_nothings (digits 5 30300)) 20
    ∷ refuses (reconstructed two_nothings (digits 5 31010)) 20
    ∷ gives (reconstructed two_nothings (digits 3 300)) (tuple_of 2 ++ tuple_of 0 ++ tuple_of 0)
    ∷ refuses (reconstructed (two_of ++ nothing ++ options 1 ++ never) (digits 5 31010)) 20
    ∷ refuses (reconstructed (two_of ++ nothing ++ options 1 ++ large_type) (digits 5 31010)) 20
    -- a side that the shape does not take holds no spot; under a none, a bit or an empty block it is 10
    ∷ gives (reconstructed (options 1 ++ nothing) (digits 2 10)) none_is
    ∷ gives (reconstructed (either_of ++ nothing ++ boolean) (digits 3 220)) (right_of ++ bool_is 1)
    ∷ gives (reconstructed list_4_nothing (digits 5 31010)) (list_of 0)
    ∷ refuses (reconstructed (options 1 ++ nothing) (digits 3 110)) 10
    ∷ refuses (reconstructed option_bool (digits 4 1300)) 10
    ∷ refuses (reconstructed boolean (digits 3 110)) 10
    ∷ refuses (reconstructed list_4_nothing (digits 6 311010)) 10
    ∷ []

-- Shapes cleaned
clean_edges : List Case
clean_edges =
    -- a left, a right or a pair for an empty tuple, an array of 0, a variant without parts, a payload of one empty tuple; a unit stays
    gives (cleaned_shape nothing (digits 2 10)) (digits 1 0)
    ∷ gives (cleaned_shape nothing (digits 2 20)) (digits 1 0)
    ∷ gives (cleaned_shape nothing (digits 3 300)) (digits 1 0)
    ∷ gives (cleaned_shape nothing (digits 1 0)) (digits 1 0)
    ∷ gives (cleaned_shape no_booleans (digits 5 31020)) (digits 1 0)
    ∷ gives (cleaned_shape variants (digits 4 1300)) (digits 2 10)
    ∷ gives (cleaned_shape five_variants (digits 5 22210)) (digits 4 2220)
    ∷ gives (cleaned_shape one_variant (digits 3 300)) (digits 1 0)
    ∷ gives (cleaned_shape nothing_variant (digits 2 10)) (digits 1 0)
    -- under a some, on either side, in a tuple of one, in an array
    ∷ gives (cleaned_shape (options 1 ++ nothing) (digits 3 210)) (digits 2 20)
    ∷ gives (cleaned_shape (either_of ++ nothing ++ boolean) (digits 3 120)) (digits 2 10)
    ∷ gives (cleaned_shape (either_of ++ boolean ++ nothing) (digits 3 210)) (digits 2 20)
    ∷ gives (cleaned_shape (hex 4 0x05000001 ++ nothing) (digits 2 10)) (digits 1 0)
    ∷ gives (cleaned_shape (hex 4 0x06000002 ++ nothing) (digits 4 3020)) (digits 3 300)
    -- in the first block of a list, at its first element and its second; in the last block
    ∷ gives (cleaned_shape list_4_nothing (digits 8 32310010)) (digits 7 3230010)
    ∷ gives (cleaned_shape list_4_nothing (digits 8 32302010)) (digits 7 3230010)
    ∷ gives (cleaned_shape list_4_nothing (digits 6 310210)) (digits 5 31020)
    -- at the first of two spots, at the second, at both; what stands behind a spot, and beside it, is copied
    ∷ gives (cleaned_shape two_nothings (digits 4 3100)) (digits 3 300)
    ∷ gives (cleaned_shape two_nothings (digits 5 30300)) (digits 3 300)
    ∷ gives (cleaned_shape two_nothings (digits 6 310300)) (digits 3 300)
    ∷ gives (cleaned_shape (two_of ++ nothing ++ boolean) (digits 6 330020)) (digits 4 3020)
    ∷ gives (cleaned_shape (two_of ++ boolean ++ nothing) (digits 6 320300)) (digits 4 3200)
    ∷ gives (cleaned_shape u4_nothing_u4 (digits 29 33320103102033102033201031020)) (digits 25 3332010310203033201031020)
    -- nothing to clean: a side that is not taken holds no spot
    ∷ gives (cleaned_shape u4_and_list (digits 18 333201031020310220)) (digits 18 333201031020310220)
    ∷ gives (cleaned_shape list_8 (digits 18 323320103202031010)) (digits 18 323320103202031010)
    ∷ gives (cleaned_shape (options 1 ++ nothing) (digits 2 10)) (digits 2 10)
    ∷ gives (cleaned_shape (either_of ++ nothing ++ boolean) (digits 3 220)) (digits 3 220)
    ∷ gives (cleaned_shape list_4_nothing (digits 5 31010)) (digits 5 31010)
    -- 10: under a none, a bit or an empty block it is no spot
    ∷ refuses (cleaned_shape (options 1 ++ nothing) (digits 3 110)) 10
    ∷ refuses (cleaned_shape option_bool (digits 4 1300)) 10
    ∷ refuses (cleaned_shape boolean (digits 3 110)) 10
    ∷ refuses (cleaned_shape list_4_nothing (digits 6 311010)) 10
    ∷ refuses (cleaned_shape u2 (digits 4 3100)) 10
    -- 9: a byte above 3; a tree cut short; a second tree
    ∷ refuses (cleaned_shape nothing (digits 2 14)) 9
    ∷ refuses (cleaned_shape nothing (digits 2 30)) 9
    ∷ refuses (cleaned_shape nothing (digits 3 100)) 9
    -- below another type: an array of 0, of a Never too, and a variant without parts; a payload of two parts; a list of bound 2
    ∷ gives (cleaned_shape (options 1 ++ no_booleans) (digits 4 2300)) (digits 2 20)
    ∷ gives (cleaned_shape (hex 4 0x06000000 ++ never) (digits 2 10)) (digits 1 0)
    ∷ gives (cleaned_shape (two_of ++ five_variants ++ boolean) (digits 6 311020)) (digits 5 31020)
    ∷ gives (cleaned_shape (hex 16 0x08000001_09000002_05000000_01000000) (digits 6 330010)) (digits 4 3010)
    ∷ gives (cleaned_shape (hex 8 0x07000002_05000000) (digits 3 220)) (digits 2 20)
    -- 17: the cleaned shape decides, not the shape
    ∷ answers (cleaned_shape nothing (digits 2 10)) [] (17, 0, [])
    ∷ answers (cleaned_shape nothing (digits 3 300)) (hex 1 0xEE) (0, 1, digits 1 0)
    ∷ answers (cleaned_shape two_nothings (digits 5 31010)) (hex 2 0xEEEE) (17, 0, hex 2 0xEEEE)
    ∷ answers (cleaned_shape two_nothings (digits 5 31010)) (hex 3 0xEEEEEE) (0, 3, digits 3 300)
    ∷ []

-- Shapes and values
shape_edges : List Case
shape_edges =
    gives (shaped u4_and_list nine_and_one) (digits 18 333201031020310220)
    ∷ gives (reconstructed u4_and_list (digits 18 333201031020310220)) nine_and_one
    ∷ gives (reconstructed list_4 (digits 6 310220)) (list_of 1 ++ u1_is 1)
    ∷ gives (reconstructed list_4 (digits 10 3232010220)) (list_of 3 ++ u1_is 1 ++ u1_is 0 ++ u1_is 1)
    ∷ gives (reconstructed variants (digits 7 2232010)) (variant 2 ++ u1_is 1 ++ bool_is 0)
    -- 9: a byte above 3; a tree cut short; a second tree
    ∷ refuses (reconstructed nothing (digits 1 4)) 9
    ∷ refuses (reconstructed nothing (digits 2 30)) 9
    ∷ refuses (reconstructed nothing (digits 2 0)) 9
    -- 22: four in a list of bound 4; 16,384 in one of that bound; the largest number of two bytes
    ∷ refuses (shaped list_4 (list_of 4 ++ u1_is 1 ++ u1_is 0 ++ u1_is 1 ++ u1_is 1)) 22
    ∷ refuses (shaped (hex 8 0x07004000_05000000) (list_of 16384)) 22
    ∷ refuses (shaped list_2 (list_of 65535)) 22
    -- 21: a u1 of 2, a u8 of 256, the highest of the 256 bits; every integer fits a u256
    ∷ refuses (shaped u1 (u1_is 2)) 21
    ∷ refuses (shaped (hex 4 0x02000008) (val 2 0 8 256)) 21
    ∷ refuses (shaped u1 (2 ∷ 0 ∷ hex 2 1 ++ 128 ∷ replicate 31 0)) 21
    ∷ gives (framed after u256 (2 ∷ 0 ∷ hex 2 256 ++ replicate 32 255)) (replicate 32 255)
    -- 16: a bad choice, n, integer, kind; wrong counts; records missing and left over
    ∷ refuses (shaped boolean (val 1 2 0 0)) 16
    ∷ refuses (shaped boolean (val 1 0 1 0)) 16
    ∷ refuses (shaped boolean (val 1 0 0 1)) 16
    ∷ refuses (shaped u2 (val 2 1 2 0)) 16
    ∷ refuses (shaped u2 (u1_is 1)) 16
    ∷ refuses (shaped u4_or_bool (val 3 2 0 0 ++ bool_is 1)) 16
    ∷ refuses (shaped u4_or_bool (left_of ++ bool_is 1)) 16
    ∷ refuses (shaped (hex 8 0x06000002_01000000) (array_of 1 ++ bool_is 1)) 16
    ∷ refuses (shaped variants (variant 3)) 16
    ∷ refuses (shaped option_bool some_of) 16
    ∷ refuses (shaped option_bool (none_is ++ bool_is 0)) 16
    ∷ []

-- Frames and buffers
frame_edges : List Case
frame_edges =
    gives (framed after u4_or_bool (left_of ++ u4_is 9)) (hex 1 0x48)
    ∷ gives (unframed after u4_or_bool (hex 1 0x48)) (left_of ++ u4_is 9)
    ∷ gives (unframed after u4_or_bool (hex 1 0xC0)) (right_of ++ bool_is 1)
    ∷ gives (unframed after u4_and_list (hex 2 0x9180)) nine_and_one
    ∷ gives (framed after variants (variant 0)) (hex 1 0x00)
    ∷ gives (framed after variants (variant 2 ++ u1_is 1 ++ bool_is 0)) (hex 1 0xE0)
    ∷ gives (unframed after variants (hex 1 0xA0)) (variant 1 ++ u1_is 1)
    -- an integer's high byte first, in value file and frame
    ∷ gives (framed after (hex 4 0x02000010) (val 2 0 16 0x1234)) (hex 2 0x1234)
    ∷ gives (unframed after u256 (hex 32 0x0102030405060708090A0B0C0D0E0F101112131415161718191A1B1C1D1E1F20)) (val 2 0 256 0x0102030405060708090A0B0C0D0E0F101112131415161718191A1B1C1D1E1F20)
    -- 12: behind the narrower side; in the tail; in a block that is not taken; in an unused variant's place
    ∷ refuses (unframed after u4_or_bool (hex 1 0xC8)) 12
    ∷ refuses (unframed after u4_or_bool (hex 1 0xC1)) 12
    ∷ refuses (unframed after list_4 (hex 1 0x58)) 12
    ∷ refuses (unframed after variants (hex 1 0xB0)) 12
    -- a type of width 0 has a frame of no bytes, which a buffer of no bytes holds
    ∷ answers (framed after nothing (tuple_of 0)) [] (0, 0, [])
    ∷ gives (unframed after nothing []) (tuple_of 0)
    ∷ refuses (unframed after nothing (hex 1 0)) 11
    ∷ gives (unframed after (hex 8 0x06000003_05000000) []) (array_of 3 ++ tuple_of 0 ++ tuple_of 0 ++ tuple_of 0)
    -- a buffer of exactly the length; one byte short, and it stays; bytes past the end stay
    ∷ answers (lowered u2) (hex 7 0xEEEEEEEEEEEEEE) (0, 7, digits 7 2100100)
    ∷ answers (lowered u2) (hex 6 0xEEEEEEEEEEEE) (17, 0, hex 6 0xEEEEEEEEEEEE)
    ∷ answers (framed after u4_and_list nine_and_one) (hex 4 0x01020304) (0, 2, hex 4 0x91800304)
    ∷ answers (framed after u4_and_list nine_and_one) (hex 1 0x01) (17, 0, hex 1 0x01)
    ∷ answers (part_read after boolean (hex 1 0x80) []) (replicate 35 7) (17, 0, replicate 35 7)
    ∷ []

-- Parts read. List of u4 bound 8: 1 to 7 is 0x891A55AE, in blocks of 4, 2 and 1; 9 alone is 0x00000032
read_edges : List Case
read_edges =
    -- the whole, by the empty path
    gives (part_read after u4_and_list (hex 2 0x9180) []) nine_and_one
    ∷ gives (part_read after boolean (hex 1 0x80) []) (bool_is 1)
    -- a Tuple's parts, one of them of width 0
    ∷ gives (part_read after u4_and_list (hex 2 0x9180) (hex 2 0)) (u4_is 9)
    ∷ gives (part_read after u4_and_list (hex 2 0x9180) (hex 2 1)) (list_of 1 ++ u1_is 1)
    ∷ gives (part_read after u4_and_list (hex 2 0x9180) (hex 4 0x00010000)) (u1_is 1)
    ∷ gives (part_read after u4_nothing_u4 (hex 1 0x96) (hex 2 1)) (tuple_of 0)
    ∷ gives (part_read after u4_nothing_u4 (hex 1 0x96) (hex 2 2)) (u4_is 6)
    -- no such part: past the end; past the list's; step 256, high byte first; in an integer
    ∷ refuses (part_read after u4_and_list (hex 2 0x9180) (hex 2 2)) 14
    ∷ refuses (part_read after u4_and_list (hex 2 0x9180) (hex 4 0x00010001)) 14
    ∷ refuses (part_read after u4_and_list (hex 2 0x9180) (hex 2 0x0100)) 14
    ∷ refuses (part_read after u4_and_list (hex 2 0x9180) (hex 4 0x00000000)) 14
    -- Array
    ∷ gives (part_read after three_u4 (hex 2 0x1230) (hex 2 0)) (u4_is 1)
    ∷ gives (part_read after three_u4 (hex 2 0x1230) (hex 2 2)) (u4_is 3)
    ∷ refuses (part_read after three_u4 (hex 2 0x1230) (hex 2 3)) 14
    -- List: each block, and the first element in the last one
    ∷ gives (part_read after list_8_u4 (hex 4 0x891A55AE) (hex 2 0)) (u4_is 1)
    ∷ gives (part_read after list_8_u4 (hex 4 0x891A55AE) (hex 2 3)) (u4_is 4)
    ∷ gives (part_read after list_8_u4 (hex 4 0x891A55AE) (hex 2 4)) (u4_is 5)
    ∷ gives (part_read after list_8_u4 (hex 4 0x891A55AE) (hex 2 6)) (u4_is 7)
    ∷ refuses (part_read after list_8_u4 (hex 4 0x891A55AE) (hex 2 7)) 14
    ∷ gives (part_read after list_8_u4 (hex 4 0x00000032) (hex 2 0)) (u4_is 9)
    -- Either: the side taken, the other one, and no third
    ∷ gives (part_read after u4_or_bool (hex 1 0x48) (hex 2 0)) (u4_is 9)
    ∷ gives (part_read after u4_or_bool (hex 1 0xC0) (hex 2 1)) (bool_is 1)
    ∷ refuses (part_read after u4_or_bool (hex 1 0x48) (hex 2 1)) 14
    ∷ refuses (part_read after u4_or_bool (hex 1 0xC0) (hex 2 0)) 14
    ∷ refuses (part_read after u4_or_bool (hex 1 0xC0) (hex 2 2)) 14
    -- Option: 0, if some
    ∷ gives (part_read after option_u4 (hex 1 0xC8) (hex 2 0)) (u4_is 9)
    ∷ refuses (part_read after option_u4 (hex 1 0xC8) (hex 2 1)) 14
    ∷ refuses (part_read after option_u4 (hex 1 0x00) (hex 2 0)) 14
    -- Enum: a part of the variant present
    ∷ gives (part_read after variants (hex 1 0xA0) (hex 2 0)) (u1_is 1)
    ∷ gives (part_read after variants (hex 1 0xE0) (hex 2 0)) (u1_is 1)
    ∷ gives (part_read after variants (hex 1 0xE0) (hex 2 1)) (bool_is 0)
    ∷ refuses (part_read after variants (hex 1 0xE0) (hex 2 2)) 14
    ∷ refuses (part_read after variants (hex 1 0xA0) (hex 2 1)) 14
    ∷ refuses (part_read after variants (hex 1 0x00) (hex 2 0)) 14
    ∷ []

-- Parts edited
edit_edges : List Case
edit_edges =
    edits u4_and_list (hex 2 0x9180) (hex 2 1) (list_of 3 ++ u1_is 1 ++ u1_is 0 ++ u1_is 1) (hex 2 0x9D80)
    ∷ edits u4_and_list (hex 2 0x9D80) (hex 2 1) (list_of 0) (hex 2 0x9000)
    ∷ edits u4_and_list (hex 2 0x9180) (hex 4 0x00010000) (u1_is 0) (hex 2 0x9100)
    ∷ edit_refuses u4_and_list (hex 2 0x9180) (hex 4 0x00010001) (u1_is 0) 14
    -- the whole, by the empty path
    ∷ edits u4_or_bool (hex 1 0xC0) [] (left_of ++ u4_is 9) (hex 1 0x48)
    ∷ edits u4_and_list (hex 2 0x9180) [] (tuple_of 2 ++ u4_is 6 ++ list_of 3 ++ u1_is 1 ++ u1_is 0 ++ u1_is 1) (hex 2 0x6D80)
    -- a part of width 0, and the one behind it
    ∷ edits u4_nothing_u4 (hex 1 0x96) (hex 2 1) (tuple_of 0) (hex 1 0x96)
    ∷ edits u4_nothing_u4 (hex 1 0x96) (hex 2 2) (u4_is 1) (hex 1 0x91)
    ∷ edits nothing [] [] (tuple_of 0) []
    -- Array; List, each block; Either; Option; Enum
    ∷ edits three_u4 (hex 2 0x1230) (hex 2 1) (u4_is 15) (hex 2 0x1F30)
    ∷ edits list_8_u4 (hex 4 0x891A55AE) (hex 2 0) (u4_is 15) (hex 4 0xF91A55AE)
    ∷ edits list_8_u4 (hex 4 0x891A55AE) (hex 2 5) (u4_is 9) (hex 4 0x891A566E)
    ∷ edits list_8_u4 (hex 4 0x891A55AE) (hex 2 6) (u4_is 0) (hex 4 0x891A55A0)
    ∷ edits u4_or_bool (hex 1 0x48) (hex 2 0) (u4_is 6) (hex 1 0x30)
    ∷ edits option_u4 (hex 1 0xC8) (hex 2 0) (u4_is 6) (hex 1 0xB0)
    ∷ edits variants (hex 1 0xE0) (hex 2 1) (bool_is 1) (hex 1 0xF0)
    -- the new value must have the part's type, not another's
    ∷ edit_refuses u4_and_list (hex 2 0x9180) (hex 2 0) (u1_is 1) 16
    ∷ edit_refuses u4_and_list (hex 2 0x9180) (hex 2 1) (list_of 4 ++ u1_is 1 ++ u1_is 0 ++ u1_is 1 ++ u1_is 1) 22
    ∷ edit_refuses u4_and_list (hex 2 0x9180) (hex 2 0) (u4_is 16) 21
    ∷ edit_refuses u4_and_list (hex 2 0x9180) (hex 2 0) (u4_is 16 ++ u4_is 6) 21
    ∷ edit_refuses u4_and_list (hex 2 0x9180) [] (tuple_of 2 ++ u4_is 16 ++ list_of 4) 21
    ∷ edit_refuses u4_and_list (hex 2 0x9180) [] (tuple_of 2 ++ u4_is 9 ++ list_of 4) 22
    ∷ edit_refuses u4_and_list (hex 2 0x9180) [] (tuple_of 2 ++ u4_is 9 ++ list_of 1 ++ u1_is 2) 21
    ∷ edit_refuses u4_and_list (hex 2 0x9180) [] (tuple_of 2 ++ bool_is 0 ++ list_of 4) 16
    ∷ edit_refuses u4_and_list (hex 2 0x9180) (hex 2 0) (u4_is 6 ++ u4_is 6) 16
    ∷ edit_refuses u4_and_list (hex 2 0x9180) (hex 2 0) nine_and_one 16
    ∷ edit_refuses u4_or_bool (hex 1 0xC0) (hex 2 0) (u4_is 9) 14
    ∷ []

edges : List Case
edges = type_edges ++ unit_edges ++ clean_edges ++ shape_edges ++ frame_edges ++ read_edges ++ edit_edges

-- THE TABLE

pub table : List Case
table = starred ++ rows ++ pairs ++ traps ++ edges

-- every case of the table holds: the checker computes it from the definitions
pub computed : all_hold table ≡ true
unfolding digits_in times same_list holds all_hold starred rows type_pairs behind behind_all file_pairs pairs traps type_edges unit_edges clean_edges shape_edges frame_edges read_edges edit_edges edges table to_bits of_bits byte_bits bits_of pack fill number in_bytes next next_power_of_two btree_split_index grow btree fold type_records shape_records enum_injection partition_type partition head variant_parts read_type type_of lower has_never over_large inject unfold_tree combine as_enum_leaf reconstruct in_list walk read_shape shape_of encode value_file same parse_at value_of bits frame frame_file from_bits padding unframe steps span among element in_variant step pick_child follow found lowering lowered shaped earlier_reading reconstructed cleaned_shape framed unframed part_read edited delivered
computed = refl

-- TWO EDITS OF ONE FRAME (02, R-2)

pub two_edit_table : List Case
two_edit_table =
    -- neither part within the other: a part and one of the part beside it; one that changes a list's length
    either_way u4_and_list (hex 2 0x9180) (hex 2 0) (u4_is 6) (hex 2 0x6180) (hex 4 0x00010000) (u1_is 0) (hex 2 0x9100) (hex 2 0x6100)
    ++ either_way u4_and_list (hex 2 0x9180) (hex 2 0) (u4_is 6) (hex 2 0x6180) (hex 2 1) (list_of 3 ++ u1_is 1 ++ u1_is 0 ++ u1_is 1) (hex 2 0x9D80) (hex 2 0x6D80)
    -- (9, [1, 2, 3], none), to four hits and a density of 61
    ++ either_way sensors (hex 6 0x9000044A6000) (hex 2 1) four_hits (hex 6 0x9891A0000000) (hex 2 2) (some_of ++ u8_is 61) (hex 6 0x9000044A73D0) (hex 6 0x9891A00013D0)
    -- two elements of one list, of different blocks; neighbours on both sides of a block's end, and in one block
    ++ either_way list_8_u4 (hex 4 0x891A55AE) (hex 2 0) (u4_is 15) (hex 4 0xF91A55AE) (hex 2 6) (u4_is 0) (hex 4 0x891A55A0) (hex 4 0xF91A55A0)
    ++ either_way list_8_u4 (hex 4 0x891A55AE) (hex 2 3) (u4_is 15) (hex 4 0x891FD5AE) (hex 2 4) (u4_is 0) (hex 4 0x891A41AE) (hex 4 0x891FC1AE)
    ++ either_way list_8_u4 (hex 4 0x891A55AE) (hex 2 4) (u4_is 0) (hex 4 0x891A41AE) (hex 2 5) (u4_is 15) (hex 4 0x891A57EE) (hex 4 0x891A43EE)
    -- of one array; of one variant
    ++ either_way three_u4 (hex 2 0x1230) (hex 2 0) (u4_is 15) (hex 2 0xF230) (hex 2 2) (u4_is 0) (hex 2 0x1200) (hex 2 0xF200)
    ++ either_way variants (hex 1 0xE0) (hex 2 0) (u1_is 0) (hex 1 0xC0) (hex 2 1) (bool_is 1) (hex 1 0xF0) (hex 1 0xD0)
    -- parts of width 0, which lie side by side though their stretches begin at one bit; one beside parts that have bits
    ++ either_way two_nothings [] (hex 2 0) (tuple_of 0) [] (hex 2 1) (tuple_of 0) [] []
    ++ either_way u4_nothing_u4 (hex 1 0x96) (hex 2 1) (tuple_of 0) (hex 1 0x96) (hex 2 2) (u4_is 3) (hex 1 0x93) (hex 1 0x93)
    -- the same part: a number, a list that grows and shrinks, the side of an Either, an Option, a part of width 0, the whole
    ++ second_only u4_and_list (hex 2 0x9180) (hex 2 0) (u4_is 6) (hex 2 0x6180) (u4_is 3) (hex 2 0x3180)
    ++ second_only u4_and_list (hex 2 0x9180) (hex 2 1) (list_of 3 ++ u1_is 1 ++ u1_is 0 ++ u1_is 1) (hex 2 0x9D80) (list_of 0) (hex 2 0x9000)
    ++ second_only u4_or_bool (hex 1 0x48) [] (right_of ++ bool_is 1) (hex 1 0xC0) (left_of ++ u4_is 6) (hex 1 0x30)
    ++ second_only option_u4 (hex 1 0xC8) [] none_is (hex 1 0x00) (some_of ++ u4_is 6) (hex 1 0xB0)
    ++ second_only two_nothings [] (hex 2 1) (tuple_of 0) [] (tuple_of 0) []
    ++ second_only u4_and_list (hex 2 0x9180) [] (tuple_of 2 ++ u4_is 6 ++ list_of 0) (hex 2 0x6000) nine_and_one (hex 2 0x9180)
    -- the value already there: a part, a part of it, the whole, a part of width 0
    ++ stays u4_and_list (hex 2 0x9180) (hex 2 1) (list_of 1 ++ u1_is 1)
    ++ stays u4_and_list (hex 2 0x9180) (hex 4 0x00010000) (u1_is 1)
    ++ stays u4_and_list (hex 2 0x9180) [] nine_and_one
    ++ stays u4_nothing_u4 (hex 1 0x96) (hex 2 1) (tuple_of 0)
    -- one part within the other, the list [1, 0] and its first element 0: the order counts
    ++ edits u4_and_list (hex 2 0x9180) (hex 2 1) (list_of 2 ++ u1_is 1 ++ u1_is 0) (hex 2 0x9C00)
    ∷ edits u4_and_list (hex 2 0x9C00) (hex 4 0x00010000) (u1_is 0) (hex 2 0x9800)
    ∷ edits u4_and_list (hex 2 0x9180) (hex 4 0x00010000) (u1_is 0) (hex 2 0x9100)
    ∷ edits u4_and_list (hex 2 0x9100) (hex 2 1) (list_of 2 ++ u1_is 1 ++ u1_is 0) (hex 2 0x9C00)
    -- and the second may be refused
    ∷ edits u4_and_list (hex 2 0x9180) (hex 2 1) (list_of 0) (hex 2 0x9000)
    ∷ edit_refuses u4_and_list (hex 2 0x9000) (hex 4 0x00010000) (u1_is 0) 14
    ∷ edit_refuses u4_or_bool (hex 1 0xC0) (hex 2 0) (u4_is 6) 14
    -- what is refused alone is refused behind an edit of a part apart, with the same number
    ∷ edit_refuses sensors (hex 6 0x9000044A6000) (hex 2 0) (u4_is 16) 21
    ∷ edit_refuses sensors (hex 6 0x9000044A73D0) (hex 2 0) (u4_is 16) 21
    ∷ edit_refuses sensors (hex 6 0x9000044A6000) (hex 4 0x00010003) (u4_is 15) 14
    ∷ edit_refuses sensors (hex 6 0x9000044A73D0) (hex 4 0x00010003) (u4_is 15) 14
    -- behind an edit of the list a fourth hit may be there
    ∷ edits sensors (hex 6 0x9891A0000000) (hex 4 0x00010003) (u4_is 15) (hex 6 0x9891F8000000)
    ∷ []

-- and so does every case of two edits
pub two_edits_computed : all_hold two_edit_table ≡ true
unfolding digits_in times same_list holds all_hold two_edit_table to_bits of_bits byte_bits bits_of pack fill number in_bytes next next_power_of_two btree_split_index grow btree fold type_records shape_records enum_injection partition_type partition head variant_parts read_type type_of lower has_never over_large inject unfold_tree combine as_enum_leaf reconstruct encode value_file same parse_at value_of bits frame frame_file from_bits padding unframe steps span among element in_variant step pick_child follow found lowering framed unframed part_read edited delivered
two_edits_computed = refl

-- ROOM (02, R-1)

-- an Array of 8 (): no bits, and a shape of 15 records
abbrev eight_nothings : List ℕ
eight_nothings = hex 8 0x06000008_05000000

-- variants (u4) and (an Array of 8 ()): the second has fewer bits and the longer shape
abbrev narrow_longer : List ℕ
narrow_longer = hex 12 0x08000002_09000001_02000004 ++ hex 4 0x09000001 ++ eight_nothings

pub room_table : List Case
room_table =
    -- of every kind: a bit has two records, an integer of w bits 2 w and w - 1 pairs
    takes boolean 3 1 2
    ∷ takes u1 3 1 2
    ∷ takes u2 7 2 5
    ∷ takes u256 1023 256 767
    -- an Either: one and the longer side, which is the wider one in the first, the narrower one in the other two
    ∷ takes u4_or_bool 19 5 12
    ∷ takes (either_of ++ hex 4 0x02000004 ++ eight_nothings) 31 5 16
    ∷ takes (either_of ++ eight_nothings ++ hex 4 0x02000004) 31 5 16
    -- an Option: one more
    ∷ takes option_bool 5 2 3
    ∷ takes (options 1 ++ nothing) 3 1 2
    ∷ takes (options 31 ++ boolean) 65 32 33
    -- Tuples and Arrays: the parts and the pairs, one unit for none
    ∷ takes nothing 1 0 1
    ∷ takes (hex 4 0x05000001 ++ boolean) 3 1 2
    ∷ takes two_nothings 3 0 3
    ∷ takes three_booleans 11 3 8
    ∷ takes no_booleans 1 0 1
    ∷ takes (hex 4 0x06000001 ++ boolean) 3 1 2
    ∷ takes (hex 8 0x06000003_05000000) 5 0 5
    ∷ takes three_u4 47 12 35
    ∷ takes u4_and_list 31 9 22
    ∷ takes sensors 167 44 123
    -- Lists with bound b: b - 1 elements, b - 1 records and log2 b - 1 pairs of blocks; of u1, of u4, of (), of Lists
    ∷ takes list_2 5 2 3
    ∷ takes list_4 15 5 10
    ∷ takes list_8 33 10 23
    ∷ takes list_8_u4 117 31 86
    ∷ takes (hex 8 0x07000002_05000000) 3 1 2
    ∷ takes list_4_nothing 9 2 7
    ∷ takes (hex 8 0x07000008_05000000) 19 3 16
    ∷ takes (hex 4 0x07000004 ++ list_4) 51 17 34
    -- Enums of one variant, of three and of five; where the narrow side has the longer shape
    ∷ takes one_variant 1 0 1
    ∷ takes nothing_variant 1 0 1
    ∷ takes variants 13 4 7
    ∷ takes five_variants 9 3 4
    ∷ takes narrow_longer 31 5 16
    -- an Array of 0 takes no part of what it is of
    ∷ takes (hex 4 0x06000000 ++ u256) 1 0 1
    -- each row, with 0 for the three numbers
    ∷ takes_none [] 1
    ∷ takes_none (nothing ++ 0 ∷ []) 1
    ∷ takes_none long_type 2
    ∷ takes_none bad_kind 3
    ∷ takes_none deep_type 4
    ∷ takes_none (options 1) 5
    ∷ takes_none never 6
    ∷ takes_none (hex 4 0x06000000 ++ never) 6
    ∷ takes_none large_type 7
    ∷ takes_none (hex 8 0x06008001_05000000) 7
    ∷ takes_none (hex 4 0x06000000 ++ large_type) 7
    -- 3 before 6, 5 before 7, 6 before 7
    ∷ takes_none (two_of ++ never ++ bad_kind) 3
    ∷ takes_none (large_type ++ boolean) 5
    ∷ takes_none (two_of ++ never ++ large_type) 6
    -- the records of a value's shape: the most that there are, and fewer
    ∷ counts boolean (bool_is 1) 2
    ∷ counts u2 (val 2 0 2 3) 5
    ∷ counts u4_or_bool (left_of ++ u4_is 9) 12
    ∷ counts u4_or_bool (right_of ++ bool_is 0) 3
    ∷ counts option_bool none_is 2
    ∷ counts option_bool (some_of ++ bool_is 0) 3
    ∷ counts nothing (tuple_of 0) 1
    ∷ counts two_nothings (tuple_of 2 ++ tuple_of 0 ++ tuple_of 0) 3
    ∷ counts no_booleans (array_of 0) 1
    ∷ counts (hex 4 0x05000001 ++ boolean) (tuple_of 1 ++ bool_is 1) 2
    ∷ counts (hex 4 0x06000001 ++ boolean) (array_of 1 ++ bool_is 1) 2
    ∷ counts list_4 (list_of 0) 5
    ∷ counts list_4 (list_of 1 ++ u1_is 1) 6
    ∷ counts list_4 (list_of 2 ++ u1_is 1 ++ u1_is 0) 9
    ∷ counts list_4 (list_of 3 ++ u1_is 1 ++ u1_is 0 ++ u1_is 1) 10
    ∷ counts list_4_nothing (list_of 3 ++ times 3 (tuple_of 0)) 7
    ∷ counts list_8_u4 (list_of 0) 8
    ∷ counts list_8_u4 four_hits 54
    ∷ counts list_8_u4 (list_of 7 ++ times 7 (u4_is 9)) 86
    ∷ counts variants (variant 0) 2
    ∷ counts variants (variant 1 ++ u1_is 1) 4
    ∷ counts variants (variant 2 ++ u1_is 1 ++ bool_is 0) 7
    ∷ counts five_variants (variant 0) 2
    ∷ counts five_variants (variant 4) 4
    ∷ counts narrow_longer (variant 0 ++ u4_is 9) 12
    ∷ counts narrow_longer (variant 1 ++ array_of 8 ++ times 8 (tuple_of 0)) 16
    -- each row of the type, whatever the value; 15, 16, 21, 22
    ∷ counts_none [] [] 1
    ∷ counts_none long_type [] 2
    ∷ counts_none bad_kind no_value 3
    ∷ counts_none deep_type [] 4
    ∷ counts_none (options 1) none_is 5
    ∷ counts_none (options 1 ++ never) none_is 6
    ∷ counts_none large_type [] 7
    ∷ counts_none boolean [] 15
    ∷ counts_none boolean (bool_is 0 ++ 0 ∷ []) 15
    ∷ counts_none boolean no_value 16
    ∷ counts_none boolean (bool_is 0 ++ bool_is 0) 16
    ∷ counts_none list_4 (list_of 2 ++ u1_is 0) 16
    ∷ counts_none u1 (u1_is 2) 21
    ∷ counts_none list_2 (list_of 2) 22
    -- the record whose fault comes first in the file decides
    ∷ counts_none (two_of ++ u1 ++ list_2) (tuple_of 2 ++ u1_is 2 ++ list_of 2) 21
    ∷ counts_none (two_of ++ list_2 ++ u1) (tuple_of 2 ++ list_of 2 ++ u1_is 2) 22
    ∷ counts_none (two_of ++ u1 ++ u1) (tuple_of 2 ++ bool_is 0 ++ u1_is 2) 16
    ∷ []

-- and so does every case of room
pub room_computed : all_hold room_table ≡ true
unfolding digits_in times same_list holds all_hold room_table to_bits of_bits byte_bits bits_of pack fill number in_bytes next next_power_of_two btree_split_index grow btree fold type_records shape_records enum_injection partition_type partition head variant_parts read_type type_of lower has_never over_large inject encode same parse_at value_of lowering room shaped shape_room told_room told_count
room_computed = refl
