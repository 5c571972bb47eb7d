-- Where a path leads, by the tags that stand in a frame (01, 'Part read and part edit'): the type's record of the part, the levels from there on, and the part's first bit.
-- Beside the type file s stand its tables of ends E and of widths W.
use Rattle.std.specs.Prelude.{◌≡◌, true, false, List, [], ◌∷◌, map, ℕ, zero, suc, ◌+◌, ◌-◌, ◌*◌, ◌^◌, ◌<◌, ltb, eqb, length, drop, get_or, Option as Optional, Some, None, Result, Ok, Err}
use Rattle.num.specs.declared.NonZeroPow2Usize.{NonZeroPow2Usize}
use Rattle.num.specs.Powers.{bound_two, bound_log2}
use Rattle.model.specs.Outcome.{Outcome, done, refused}
use Rattle.model.specs.Options.{pick}
use Rattle.model.specs.Bytes.{records, two_at}
use Rattle.model.specs.Paths.{steps}
use Rattle.reply.specs.declared.Refusal.{Refusal}
use Rattle.reply.specs.declared.Refusal.TheVariants.{PathOdd, NoSuchPart}
use Rattle.types.specs.declared.Head.{Head}
use Rattle.types.specs.declared.Head.TheVariants.{Missing, Faulty, Never, Boolean, UInt, Either, Opt, Tuple, Array, Listed, Variants, Payload}
use Rattle.types.specs.declared.Rec.{Rec}
use Rattle.types.specs.declared.Rec.TheVariants.{Gone, Wrong, Types, Enum, Variant}
use Rattle.types.specs.Record.{head_at, rec_at}
use Rattle.told.specs.Forms.{hops}
use Rattle.accept.specs.Forms.{tag_at, choice_in}
use Rattle.part.specs.declared.Spot.{Spot}

-- the type at record p, with d levels from there on, whose value begins at a bit
abbrev pub spot : ℕ → ℕ → ℕ → Spot
spot p d bit = record { at = p; level = d; bit = bit }

-- ONE STEP

-- the bits that i types take, one behind the other from record p on
unfoldable pub wide_row : List ℕ → List ℕ → ℕ → ℕ → ℕ
wide_row E W zero p = 0
wide_row E W (suc i) p = get_or W p 0 + wide_row E W i (get_or E p 0)

-- part i of the n types from record p on, which stand one behind the other from a bit on
unfoldable pub among : ℕ → List ℕ → List ℕ → ℕ → ℕ → ℕ → ℕ → Optional Spot
among d E W n p bit i = pick (ltb i n) (Some (spot (hops E i p) d (bit + wide_row E W i p))) None

-- copy i of n of the one type at record p
unfoldable pub copy : ℕ → List ℕ → ℕ → ℕ → ℕ → ℕ → Optional Spot
copy d W n p bit i = pick (ltb i n) (Some (spot p d (bit + i * get_or W p 0))) None

-- element i of a list, through the blocks; exponent e is for the bound 2 ^ suc e
unfoldable pub element : ℕ → List ℕ → ℕ → ℕ → List ℕ → ℕ → ℕ → Optional Spot
element d W zero p fr bit i = elim (tag_at fr bit) [ false ↦ None | true ↦ copy d W 1 p (bit + 1) i ]
element d W (suc e) p fr bit i =
    let n = 2 ^ suc e in
    let next = bit + 1 + n * get_or W p 0 in
    elim (tag_at fr bit) [
      | false ↦ element d W e p fr next i
      | true ↦ pick (ltb i n) (copy d W n p (bit + 1) i) (element d W e p fr next (i - n))
    ]

-- the bits that such a list takes
unfoldable pub wide_list : ℕ → ℕ → ℕ
wide_list zero w = 1 + w
wide_list (suc e) w = 1 + 2 ^ suc e * w + wide_list e w

-- of a list with the bound
unfoldable pub listed : ℕ → List ℕ → NonZeroPow2Usize → ℕ → List ℕ → ℕ → ℕ → Optional Spot
listed d W b p fr bit i = element d W (bound_log2 b.value - 1) p fr bit i

-- payload part i of the Variant at record p, by what the record says
unfoldable pub in_variant : Rec → ℕ → List ℕ → List ℕ → ℕ → ℕ → ℕ → Optional Spot
in_variant Gone d E W p bit i = None
in_variant Wrong d E W p bit i = None
in_variant (Types n) d E W p bit i = None
in_variant (Enum n) d E W p bit i = None
in_variant (Variant n) d E W p bit i = among (d - 1) E W n (p + 1) bit i

-- the one of the two types from record p on that the tag leads to, if it is the one that was asked for
unfoldable pub side : ℕ → List ℕ → ℕ → List ℕ → ℕ → ℕ → Optional Spot
side d E p fr bit i =
    let x = choice_in 2 fr bit in
    pick (eqb i x.0) (Some (spot (hops E x.0 p) d x.1)) None

-- payload part i of the one of the n Variants from record p on that the tags lead to
unfoldable pub variant : ℕ → List ℕ → List ℕ → List ℕ → ℕ → ℕ → List ℕ → ℕ → ℕ → Optional Spot
variant d s E W n p fr bit i =
    let x = choice_in n fr bit in
    let q = hops E x.0 p in
    in_variant (rec_at s q) d E W q x.1 i

-- below a record that says this; p is the record behind it, with d levels from there on
unfoldable pub below : Head → ℕ → List ℕ → List ℕ → List ℕ → ℕ → List ℕ → ℕ → ℕ → Optional Spot
below Missing d s E W p fr bit i = None
below Faulty d s E W p fr bit i = None
below Never d s E W p fr bit i = None
below Boolean d s E W p fr bit i = None
below (UInt w) d s E W p fr bit i = None
below Either d s E W p fr bit i = side d E p fr bit i
below Opt d s E W p fr bit i = listed d W bound_two p fr bit i
below (Tuple n) d s E W p fr bit i = among d E W n p bit i
below (Array n) d s E W p fr bit i = copy d W n p bit i
below (Listed b) d s E W p fr bit i = listed d W b p fr bit i
below (Variants n) d s E W p fr bit i = variant d s E W n p fr bit i
below (Payload n) d s E W p fr bit i = None

-- step i from the type at record p, with d levels from there on, whose value begins at a bit
unfoldable pub step_at : ℕ → List ℕ → List ℕ → List ℕ → ℕ → List ℕ → ℕ → ℕ → Optional Spot
step_at d s E W p fr bit i = below (head_at s p) (d - 1) s E W (p + 1) fr bit i

-- A PATH

-- and on from the place that a step has found
abbrev pub further : Optional Spot → (ℕ → ℕ → ℕ → Optional Spot) → Optional Spot
further None f = None
further (Some x) f = f x.at x.level x.bit

unfoldable pub follow : ℕ → List ℕ → List ℕ → List ℕ → ℕ → List ℕ → ℕ → List ℕ → Optional Spot
follow d s E W p fr bit [] = Some (spot p d bit)
follow d s E W p fr bit (i ∷ picks) = further (step_at d s E W p fr bit i) (λ q e b. follow e s E W q fr b picks)

-- the steps that a path says from a byte on
unfoldable pub picks_from : List ℕ → ℕ → List ℕ
picks_from path j = map (λ step. two_at step 0) (records 2 (drop j path))

-- rows 13 and 14
abbrev pub target : Optional Spot → Result Spot Refusal
target (Some x) = Ok x
target None = Err NoSuchPart

abbrev pub led_to : Outcome (List ℕ) → (List ℕ → Optional Spot) → Result Spot Refusal
led_to (refused n) f = Err PathOdd
led_to (done picks) f = target (f picks)

-- where a path leads in a whole frame
unfoldable pub found_in : List ℕ → List ℕ → List ℕ → List ℕ → List ℕ → Result Spot Refusal
found_in s E W fr path = led_to (steps path) (follow 32 s E W 0 fr 0)

-- A PATH THROUGH TUPLES AND ARRAYS, which leads to one place in all frames

unfoldable pub fixed_below : Head → ℕ → List ℕ → List ℕ → ℕ → ℕ → ℕ → Optional Spot
fixed_below Missing d E W p bit i = None
fixed_below Faulty d E W p bit i = None
fixed_below Never d E W p bit i = None
fixed_below Boolean d E W p bit i = None
fixed_below (UInt w) d E W p bit i = None
fixed_below Either d E W p bit i = None
fixed_below Opt d E W p bit i = None
fixed_below (Tuple n) d E W p bit i = among d E W n p bit i
fixed_below (Array n) d E W p bit i = copy d W n p bit i
fixed_below (Listed b) d E W p bit i = None
fixed_below (Variants n) d E W p bit i = None
fixed_below (Payload n) d E W p bit i = None

-- step i from the type at record p, with d levels from there on, whose value begins at a bit
unfoldable pub fixed_at : ℕ → List ℕ → List ℕ → List ℕ → ℕ → ℕ → ℕ → Optional Spot
fixed_at d s E W p bit i = fixed_below (head_at s p) (d - 1) E W (p + 1) bit i

unfoldable pub fixed : ℕ → List ℕ → List ℕ → List ℕ → ℕ → ℕ → List ℕ → Optional Spot
fixed d s E W p bit [] = Some (spot p d bit)
fixed d s E W p bit (i ∷ picks) = further (fixed_at d s E W p bit i) (λ q e b. fixed e s E W q b picks)

-- in a frame, or in every frame where none is given
abbrev pub stepped : ℕ → List ℕ → List ℕ → List ℕ → ℕ → Optional (List ℕ) → ℕ → ℕ → Optional Spot
stepped d s E W p (Some fr) bit i = step_at d s E W p fr bit i
stepped d s E W p None bit i = fixed_at d s E W p bit i

abbrev pub followed : ℕ → List ℕ → List ℕ → List ℕ → ℕ → Optional (List ℕ) → ℕ → List ℕ → Optional Spot
followed d s E W p (Some fr) bit picks = follow d s E W p fr bit picks
followed d s E W p None bit picks = fixed d s E W p bit picks

-- where a path of whole steps leads in every frame
unfoldable pub fixed_in : List ℕ → List ℕ → List ℕ → List ℕ → Optional Spot
fixed_in s E W path = fixed 32 s E W 0 0 (picks_from path 0)

-- WHAT IS ASKED

-- n types stand in the tables from record p on, and their bits from `bit` on end at a number of the machine
pub record Rowed (E W : List ℕ) (n p bit : ℕ) : Type 0 where
  pub each : (j : ℕ) → j < n → (hops E j p < length E) × (hops E j p < length W)
  pub fits : bit + wide_row E W n p < 2 ^ 64

-- the one of the n Variants from record p on that the tags lead to has its payload's types in the tables
pub record Cased (s E W : List ℕ) (n p : ℕ) (fr : List ℕ) (bit : ℕ) : Type 0 where
  pub payload : (m : ℕ) → let x = choice_in n fr bit in let q = hops E x.0 p in rec_at s q ≡ Variant m → Rowed E W m (q + 1) x.1
