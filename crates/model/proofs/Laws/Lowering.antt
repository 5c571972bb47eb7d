-- What a type that lowers is known by: its file says it, no Never stands in it, and its lowered type has at most 65,536 records.
use Rattle.std.specs.Prelude.{◌≡◌, Bool, false, ◌||◌, List, ℕ, ◌≤◌, length}
use Rattle.std.proofs.Common.{sym, ap, ◌∙◌, arith, ltb-false}
use Rattle.model.specs.Numbers.{never_stands, too_large, most_shape_records}
use Rattle.model.specs.Outcome.{done, ◌>>=◌, ◌>>◌, refuse}
use Rattle.model.specs.Bytes.{Bytes}
use Rattle.model.specs.Structural.{type_records}
use Rattle.model.specs.Types.{Ty, Tys, Variants, never, bool, uint, either, option, tuple, array, list, enum, nil, cons, last, more}
use Rattle.model.specs.TypeFiles.{type_of}
use Rattle.model.specs.Lowering.{lower, large, has_never, some_never, variant_never, over_large}
use Rattle.model.specs.Operations.{lowering}
use Rattle.model.proofs.Laws.Outcome.{outcome_step, refuse_step, done_injective, or_false}
use Rattle.model.proofs.Laws.TypeFiles.{TypeRead, type_written_read}
use Rattle.model.proofs.Laws.Shapes.{Lowers, LowersAll, LowersChoice}

mutual
  unfolding has_never

  pub no_never : (t : Ty) → has_never t ≡ false → Lowers t
  no_never never h = let z : ◌≡◌ {A = ℕ} 0 1 = cc in omega arith
  no_never bool h = tt
  no_never (uint w) h = tt
  no_never (either a b) h = let (x, y) = or_false (has_never a) (has_never b) h in (no_never a x, no_never b y)
  no_never (option a) h = no_never a h
  no_never (tuple ts) h = none_never ts h
  no_never (array a n) h = no_never a h
  no_never (list a e) h = no_never a h
  no_never (enum vs) h = no_variant_never vs h

  none_never : (ts : Tys) → some_never ts ≡ false → LowersAll ts
  none_never nil h = tt
  none_never (cons t ts) h = let (x, y) = or_false (has_never t) (some_never ts) h in (no_never t x, none_never ts y)

  no_variant_never : (vs : Variants) → variant_never vs ≡ false → LowersChoice vs
  no_variant_never (last ts) h = none_never ts h
  no_variant_never (more ts vs) h = let (x, y) = or_false (some_never ts) (variant_never vs) h in (none_never ts x, no_variant_never vs y)

-- neither it nor a part of it is too large
not_large : (t : Ty) (b : Bool) → large (lower t) || b ≡ false → length (type_records (lower t)) ≤ most_shape_records
not_large t b h = ltb-false most_shape_records (length (type_records (lower t))) (or_false (large (lower t)) b h).0

pub small : (t : Ty) → over_large t ≡ false → length (type_records (lower t)) ≤ most_shape_records
unfolding over_large lower type_records
small never h = omega arith
small bool h = omega arith
small (uint w) h = ltb-false most_shape_records (length (type_records (lower (uint w)))) h
small (either a b) h = not_large (either a b) _ h
small (option a) h = not_large (option a) _ h
small (tuple ts) h = not_large (tuple ts) _ h
small (array a n) h = not_large (array a n) _ h
small (list a e) h = not_large (list a e) _ h
small (enum vs) h = not_large (enum vs) _ h

-- row 7 does not hold of a type that lowers
pub lowers_not_large : (ty : List ℕ) (t : Ty) → lowering ty ≡ done t → over_large t ≡ false
unfolding lowering
lowers_not_large ty t h =
    let (u, e, f) = outcome_step (type_of ty) (λ u. refuse never_stands (has_never u) >> (refuse too_large (over_large u) >> done u)) t h in
    let (x, g) = refuse_step never_stands (has_never u) (refuse too_large (over_large u) >> done u) t f in
    let (y, k) = refuse_step too_large (over_large u) (done u) t g in
    ap over_large (sym (done_injective u t k)) ∙ y

pub record Known (ty : List ℕ) (t : Ty) : Type 0 where
  pub says : type_of ty ≡ done t
  pub file : TypeRead ty t
  pub lowers : Lowers t
  pub size : length (type_records (lower t)) ≤ most_shape_records

pub known : (ty : List ℕ) (t : Ty) → Bytes ty → lowering ty ≡ done t → Known ty t
unfolding lowering
known ty t b h =
    let (u, e, f) = outcome_step (type_of ty) (λ u. refuse never_stands (has_never u) >> (refuse too_large (over_large u) >> done u)) t h in
    go u e f
  where
    go : (u : Ty) → type_of ty ≡ done u → refuse never_stands (has_never u) >> (refuse too_large (over_large u) >> done u) ≡ done t → Known ty t
    go u e f =
        let (x, g) = refuse_step never_stands (has_never u) (refuse too_large (over_large u) >> done u) t f in
        let (y, k) = refuse_step too_large (over_large u) (done u) t g in
        let same : u ≡ t = done_injective u t k in
        rw (← same) (record { says = e; file = type_written_read ty u b e; lowers = no_never u x; size = small u y })
