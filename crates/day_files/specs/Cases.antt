-- Cases of the search (02, R-4), as those of the model's tables: of each day file all the frames that match, by their indexes, or the row that refuses. The checker computes them from the definitions. Any index of the list is a right answer,
-- and none only where the list is empty (`Laws/Matching.antt`). Every right side is a literal, worked out by hand from 01 and 02.
use Rattle.std.specs.Prelude.{◌≡◌, refl, true, List, [], ◌∷◌, ◌++◌, ℕ}
use Rattle.model.specs.Bytes.{to_bits, of_bits, byte_bits, bits_of, pack, fill, number, in_bytes}
use Rattle.model.specs.Balanced.{next, next_power_of_two, btree_split_index, grow, btree, fold}
use Rattle.model.specs.Structural.{type_records, shape_records, enum_injection, partition_type, partition}
use Rattle.model.specs.TypeFiles.{head, variant_parts, read_type, type_of}
use Rattle.model.specs.Lowering.{lower, has_never, over_large}
use Rattle.model.specs.Values.{inject}
use Rattle.model.specs.Reconstruct.{unfold_tree, combine, as_enum_leaf, reconstruct}
use Rattle.model.specs.ValueFiles.{encode, value_file, same, parse_at, value_of}
use Rattle.model.specs.Frames.{after, bits, frame, frame_file, from_bits, padding, unframe}
use Rattle.model.specs.Paths.{steps, span, among, element, in_variant, step, pick_child, follow, found}
use Rattle.model.specs.Operations.{lowering, unframed, part_read, delivered}
use Rattle.model.specs.DayFiles.{searchable}
use Rattle.model.proofs.Laws.Cases.{digits_in, hex, times, Case, gives, refuses, same_list, holds, all_hold, never, boolean, u1, nothing, two_of, either_of, options, option_u4, u4_or_bool, three_u4, u4_nothing_u4, list_8_u4, u4_and_list, sensors, variants, large_type, bad_kind, deep_type, long_type, bool_is, u1_is, u4_is, u8_is, right_of, none_is, some_of, tuple_of, array_of, list_of, nine_and_one, four_hits, no_value, no_path}
use Rattle.day_files.specs.Matching.{is_result, matching_among, matching}

-- type, day file, path, value; all the frames that match
abbrev finds : List ℕ → List ℕ → List ℕ → List ℕ → List ℕ → Case
finds ty day path val indexes = gives (matching after ty day path val) indexes

abbrev nowhere : List ℕ → List ℕ → List ℕ → List ℕ → Case
nowhere ty day path val = finds ty day path val []

-- type, day file, path, value; the number
abbrev search_refuses : List ℕ → List ℕ → List ℕ → List ℕ → ℕ → Case
search_refuses ty day path val n = refuses (matching after ty day path val) n

-- a path of one byte
abbrev odd : List ℕ
odd = 0 ∷ []

-- variants (u4) and (u1)
abbrev u4_or_u1 : List ℕ
u4_or_u1 = hex 20 0x08000002_09000001_02000004_09000001_02000001

pub table : List Case
table =
    -- no frame, whatever the value file
    nowhere u4_and_list [] (hex 2 0) (u4_is 9)
    ∷ nowhere u4_and_list [] [] []
    -- one
    ∷ finds u4_and_list (hex 2 0x9180) (hex 2 0) (u4_is 9) (0 ∷ [])
    ∷ nowhere u4_and_list (hex 2 0x9180) (hex 2 0) (u4_is 6)
    ∷ finds u4_and_list (hex 2 0x9180) [] nine_and_one (0 ∷ [])
    -- two that match, with another between; the last of three; all
    ∷ finds u4_and_list (hex 6 0x9180_6180_9000) (hex 2 0) (u4_is 9) (0 ∷ 2 ∷ [])
    ∷ finds u4_and_list (hex 6 0x9180_9000_6180) (hex 2 0) (u4_is 6) (2 ∷ [])
    ∷ finds u4_and_list (hex 6 0x9180_9180_9180) [] nine_and_one (0 ∷ 1 ∷ 2 ∷ [])
    -- the whole part counts, not its first record
    ∷ finds u4_and_list (hex 6 0x9100_9180_9C00) (hex 2 1) (list_of 1 ++ u1_is 1) (1 ∷ [])
    ∷ finds u4_and_list (hex 6 0x9100_9180_9C00) (hex 2 1) (list_of 2 ++ u1_is 1 ++ u1_is 0) (2 ∷ [])
    ∷ finds u4_and_list (hex 4 0x9100_9000) (hex 2 1) (list_of 0) (1 ∷ [])
    -- a damaged frame before a match: a tail bit, a padding bit; only damaged ones
    ∷ finds u4_and_list (hex 4 0x9181_9180) (hex 2 0) (u4_is 9) (1 ∷ [])
    ∷ finds u4_and_list (hex 4 0x9380_9180) (hex 2 0) (u4_is 9) (1 ∷ [])
    ∷ nowhere u4_and_list (hex 4 0x9181_9380) (hex 2 0) (u4_is 9)
    ∷ nowhere u4_and_list (hex 2 0x9181) [] nine_and_one
    -- a path that leads nowhere in some frames, and in all
    ∷ finds u4_and_list (hex 8 0x9000_9180_9100_6180) (hex 4 0x00010000) (u1_is 1) (1 ∷ 3 ∷ [])
    ∷ finds u4_and_list (hex 6 0x9180_9C00_9D80) (hex 4 0x00010002) (u1_is 1) (2 ∷ [])
    ∷ nowhere u4_and_list (hex 4 0x9000_9180) (hex 4 0x00010001) (u1_is 1)
    ∷ nowhere u4_and_list (hex 4 0x9180_9180) (hex 2 2) (u4_is 9)
    ∷ nowhere u4_and_list (hex 4 0x9180_9180) (hex 4 0x00000000) (u4_is 9)
    ∷ nowhere u4_and_list (hex 2 0x9180) no_path (u4_is 9)
    -- a value file that says no value of the part's type matches nothing: none, cut, garbage, too large, another width, one record more, too long a list, another part's
    ∷ nowhere u4_and_list (hex 2 0x9180) (hex 2 0) []
    ∷ nowhere u4_and_list (hex 2 0x9180) (hex 2 0) (hex 35 0)
    ∷ nowhere u4_and_list (hex 2 0x9180) (hex 2 0) no_value
    ∷ nowhere u4_and_list (hex 2 0x0000) (hex 2 0) (u4_is 16)
    ∷ nowhere u4_and_list (hex 2 0x9180) (hex 2 0) (u8_is 9)
    ∷ nowhere u4_and_list (hex 2 0x9180) (hex 2 0) (u4_is 9 ++ u4_is 9)
    ∷ nowhere u4_and_list (hex 2 0x9180) (hex 2 1) (list_of 4 ++ times 4 (u1_is 1))
    ∷ nowhere u4_and_list (hex 2 0x9180) (hex 2 1) (u4_is 9)
    ∷ nowhere u4_and_list (hex 2 0x9180) [] (u4_is 9)
    -- parts of other kinds: a side, an Option's, an element of an Array and of a List, a variant's; the whole of each
    ∷ finds u4_or_bool (hex 3 0x48C048) (hex 2 0) (u4_is 9) (0 ∷ 2 ∷ [])
    ∷ finds u4_or_bool (hex 3 0x48C048) (hex 2 1) (bool_is 1) (1 ∷ [])
    ∷ finds u4_or_bool (hex 3 0x48C048) [] (right_of ++ bool_is 1) (1 ∷ [])
    ∷ finds option_u4 (hex 3 0x00C800) (hex 2 0) (u4_is 9) (1 ∷ [])
    ∷ finds option_u4 (hex 3 0x00C800) [] none_is (0 ∷ 2 ∷ [])
    ∷ finds three_u4 (hex 4 0x1230_3210) (hex 2 2) (u4_is 1) (1 ∷ [])
    ∷ finds three_u4 (hex 4 0x1230_3210) (hex 2 1) (u4_is 2) (0 ∷ 1 ∷ [])
    ∷ finds three_u4 (hex 4 0x1230_3210) [] (array_of 3 ++ u4_is 3 ++ u4_is 2 ++ u4_is 1) (1 ∷ [])
    ∷ finds list_8_u4 (hex 8 0x00000000_891A0000) [] four_hits (1 ∷ [])
    ∷ finds list_8_u4 (hex 8 0x00000000_891A0000) [] (list_of 0) (0 ∷ [])
    ∷ finds list_8_u4 (hex 8 0x891A0000_891A55AE) (hex 2 3) (u4_is 4) (0 ∷ 1 ∷ [])
    ∷ finds list_8_u4 (hex 8 0x891A0000_891A55AE) (hex 2 6) (u4_is 7) (1 ∷ [])
    ∷ finds sensors (hex 12 0x9000044A6000_9891A00013D0) (hex 2 1) four_hits (1 ∷ [])
    ∷ finds sensors (hex 12 0x9000044A6000_9891A00013D0) (hex 4 0x00020000) (u8_is 61) (1 ∷ [])
    ∷ finds variants (hex 5 0x00A0E0C0A0) (hex 2 0) (u1_is 1) (1 ∷ 2 ∷ 4 ∷ [])
    ∷ finds variants (hex 5 0x00A0E0C0A0) (hex 2 1) (bool_is 0) (2 ∷ 3 ∷ [])
    -- where the variants' parts have different types, those of the value's own
    ∷ finds u4_or_u1 (hex 4 0x48C048C0) (hex 2 0) (u1_is 1) (1 ∷ 3 ∷ [])
    ∷ finds u4_or_u1 (hex 4 0x48C048C0) (hex 2 0) (u4_is 9) (0 ∷ 2 ∷ [])
    -- a part of width 0 is the same in all
    ∷ finds u4_nothing_u4 (hex 2 0x9693) (hex 2 1) (tuple_of 0) (0 ∷ 1 ∷ [])
    ∷ nowhere u4_nothing_u4 (hex 2 0x9693) (hex 2 1) (array_of 0)
    -- each row
    ∷ search_refuses [] [] [] [] 1
    ∷ search_refuses (nothing ++ 0 ∷ []) [] [] [] 1
    ∷ search_refuses long_type [] [] [] 2
    ∷ search_refuses bad_kind [] [] [] 3
    ∷ search_refuses deep_type [] [] [] 4
    ∷ search_refuses (options 1) [] [] [] 5
    ∷ search_refuses never [] [] [] 6
    ∷ search_refuses large_type [] [] [] 7
    ∷ search_refuses nothing [] [] (tuple_of 0) 18
    ∷ search_refuses u4_and_list (hex 1 0x91) [] nine_and_one 19
    ∷ search_refuses u4_and_list (hex 3 0x918061) (hex 2 0) (u4_is 9) 19
    ∷ search_refuses u4_and_list [] odd (u4_is 9) 13
    ∷ search_refuses u4_and_list (hex 4 0x91809180) odd (u4_is 9) 13
    ∷ search_refuses u4_and_list (hex 2 0x9180) (hex 3 0) (u4_is 9) 13
    -- which comes first: the type's before 18 and 19, these before 13, 18 before 19; no row for the value file
    ∷ search_refuses [] (0 ∷ []) odd [] 1
    ∷ search_refuses (options 1) (hex 3 0) odd [] 5
    ∷ search_refuses (two_of ++ never ++ nothing) (0 ∷ []) odd [] 6
    ∷ search_refuses large_type (hex 3 0) odd no_value 7
    ∷ search_refuses (two_of ++ never ++ three_u4) (hex 3 0) odd [] 6
    ∷ search_refuses (hex 8 0x06008001_05000000) [] odd [] 7
    ∷ search_refuses nothing (0 ∷ []) [] [] 18
    ∷ search_refuses nothing [] odd [] 18
    ∷ search_refuses nothing (0 ∷ []) odd no_value 18
    ∷ search_refuses u4_and_list (hex 3 0x918061) odd (u4_is 9) 19
    ∷ search_refuses u4_and_list (hex 3 0x918061) no_path no_value 19
    ∷ search_refuses u4_and_list (hex 2 0x9181) odd no_value 13
    ∷ []

-- every case of the table holds
pub computed : all_hold table ≡ true
unfolding digits_in times same_list holds all_hold table to_bits of_bits byte_bits bits_of pack fill number in_bytes next next_power_of_two btree_split_index grow btree fold type_records shape_records enum_injection partition_type partition head variant_parts read_type type_of lower has_never over_large inject unfold_tree combine as_enum_leaf reconstruct encode value_file same parse_at value_of bits frame frame_file from_bits padding unframe steps span among element in_variant step pick_child follow found lowering unframed part_read delivered searchable is_result matching_among matching
computed = refl
