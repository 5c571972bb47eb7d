-- Paths (01, 'Part read and part edit' and the words of demand 3; rows 13 and 14): two-byte steps, followed in a value's file.
-- The path starts at the first record, and each step picks a child of the record reached, passing over whole subtrees. The part is the record reached with all under it;
-- its type is found by the same steps in the type.
use Rattle.std.specs.Prelude.{not, List, [], ◌∷◌, ◌++◌, map, ℕ, zero, suc, ◌+◌, ◌-◌, ◌*◌, ◌%◌, eqb, length, take, drop}
use Rattle.std.proofs.Math.Option.{Option, none, some}
use Rattle.model.specs.Numbers.{path_odd}
use Rattle.model.specs.Outcome.{Outcome, done, refused, ◌>>=◌, ◌>>◌, refuse}
use Rattle.model.specs.Options.{when, map_o, bind_o}
use Rattle.model.specs.Bytes.{records, two_at}
use Rattle.model.specs.Types.{Ty, Tys, Variants, never, bool, uint, either, option, tuple, array, list, enum, nil, cons, last, more}
use Rattle.model.specs.ValueFiles.{Rec, parse, value_record}

-- the steps of a path
unfoldable pub steps : List ℕ → Outcome (List ℕ)
steps path = do
  refuse path_odd (not (eqb (length path % 2) 0))
  done (map (λ step. two_at step 0) (records 2 path))

-- the records that one value of the type takes at the front
unfoldable pub span : Ty → List Rec → ℕ
span t rs = elim (parse t rs) [ done x ↦ length rs - length x.1 | refused n ↦ 0 ]

-- ONE STEP: the child's type, and the records passed over

-- behind the values of the types in front of it
unfoldable pub among : Tys → ℕ → List Rec → Option (Ty × ℕ)
among nil i rs = none
among (cons t ts) zero rs = some (t, 0)
among (cons t ts) (suc i) rs = map_o (λ x. (x.0, span t rs + x.1)) (among ts i (drop (span t rs) rs))

-- behind i values of the one type, of n
unfoldable pub element : Ty → ℕ → ℕ → List Rec → Option (Ty × ℕ)
element a zero i rs = none
element a (suc n) zero rs = some (a, 0)
element a (suc n) (suc i) rs = map_o (λ x. (x.0, span a rs + x.1)) (element a n i (drop (span a rs) rs))

-- in the variant present
unfoldable pub in_variant : Variants → ℕ → ℕ → List Rec → Option (Ty × ℕ)
in_variant (last ts) zero i rs = among ts i rs
in_variant (last ts) (suc k) i rs = none
in_variant (more ts vs) zero i rs = among ts i rs
in_variant (more ts vs) (suc k) i rs = in_variant vs k i rs

-- Tuple, Array, List: index. Either: 0 or 1, the side taken. Option: 0, if some. Enum: payload index in the variant present.
unfoldable pub step : Ty → ℕ → Rec → List Rec → Option (Ty × ℕ)
step never i r rs = none
step bool i r rs = none
step (uint w) i r rs = none
step (either a b) zero r rs = when (eqb r.choice 0) (some (a, 0))
step (either a b) (suc zero) r rs = when (eqb r.choice 1) (some (b, 0))
step (either a b) (suc (suc i)) r rs = none
step (option a) zero r rs = when (eqb r.choice 1) (some (a, 0))
step (option a) (suc i) r rs = none
step (tuple ts) i r rs = among ts i rs
step (array a n) i r rs = element a n i rs
step (list a e) i r rs = element a r.n i rs
step (enum vs) i r rs = in_variant vs r.n i rs

-- from the record reached, which is passed over too
unfoldable pub pick_child : Ty → ℕ → List Rec → Option (Ty × ℕ)
pick_child t i [] = none
pick_child t i (r ∷ rs) = map_o (λ c. (c.0, suc c.1)) (step t i r rs)

-- THE PART: its type, its first record, and the first record behind it

pub record Found : Type 0 where
  pub type : Ty
  pub first : ℕ
  pub end : ℕ

abbrev pub behind : ℕ → Found → Found
behind k f = record { type = f.type; first = k + f.first; end = k + f.end }

unfoldable pub follow : Ty → List ℕ → List Rec → Option Found
follow t [] rs = some (record { type = t; first = 0; end = span t rs })
follow t (i ∷ path) rs = bind_o (pick_child t i rs) (λ c. map_o (behind c.1) (follow c.0 path (drop c.1 rs)))

-- in a value's file of the type
unfoldable pub found : Ty → List ℕ → List ℕ → Option Found
found t path file = follow t path (map value_record (records 36 file))

-- the part's records, and others in their place
abbrev pub part_records : Found → List ℕ → List ℕ
part_records f file = take (36 * f.end - 36 * f.first) (drop (36 * f.first) file)

abbrev pub replaced : Found → List ℕ → List ℕ → List ℕ
replaced f file new = take (36 * f.first) file ++ new ++ drop (36 * f.end) file
