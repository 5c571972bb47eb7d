-- The file that is written for an allowed type is a list of bytes: each kind is below 10, and each number of a record is below 65,536.
use Rattle.std.specs.Prelude.{◌≡◌, true, ℕ, suc, ◌^◌, ◌≤◌, ◌<◌}
use Rattle.std.proofs.Math.Nat.{pow-le-pow_right}
use Rattle.std.proofs.Common.{arith}
use Rattle.model.specs.Options.{one_of, All}
use Rattle.model.specs.Bytes.{Bytes}
use Rattle.model.specs.Types.{Ty, Tys, Variants, never, bool, uint, either, option, tuple, array, list, enum, nil, cons, last, more}
use Rattle.model.specs.TypeFiles.{TRec, widths, type_bytes, encode_type, encode_types, encode_variants, type_file}
use Rattle.model.proofs.Laws.Options.{one_of_all}
use Rattle.model.proofs.Laws.Records.{all_append, all_flat_map}
use Rattle.model.proofs.Laws.TypeFiles.{Allowed, AllowedAll, AllowedVariants}

-- a record whose parts fit into its four bytes
abbrev Fits : TRec → Type 0
Fits r = (r.kind < 256) × (r.spare < 256) × (r.n < 65536)

fits_bytes : (r : TRec) → Fits r → Bytes (type_bytes r)
fits_bytes r f = (f.0, (f.1, (omega (arith, f.2), (omega arith, tt))))

width_fits : (w : ℕ) → one_of w widths ≡ true → w < 65536
width_fits w h = one_of_all (λ n. n < 65536) w widths (omega arith) h

bound_fits : (e : ℕ) → e < 15 → 2 ^ suc e < 65536
bound_fits e h = let k : suc e ≤ 15 = omega arith in let m : 2 ^ suc e ≤ 2 ^ 15 = pow-le-pow_right {n = 2} (omega arith) {i = suc e} {j = 15} k in omega arith

mutual
  unfolding encode_type

  encoded_fits : (t : Ty) → Allowed t → All Fits (encode_type t)
  encoded_fits never a = (omega arith, tt)
  encoded_fits bool a = (omega arith, tt)
  encoded_fits (uint w) a = (omega (arith, width_fits w a), tt)
  encoded_fits (either s t) a = (omega arith, all_append Fits (encode_type s) (encode_type t) (encoded_fits s a.0) (encoded_fits t a.1))
  encoded_fits (option t) a = (omega arith, encoded_fits t a)
  encoded_fits (tuple ts) a = (omega (arith, a.0), encoded_types_fit ts a.1)
  encoded_fits (array t n) a = (omega (arith, a.0), encoded_fits t a.1)
  encoded_fits (list t e) a = (omega (arith, bound_fits e a.0), encoded_fits t a.1)
  encoded_fits (enum vs) a = (omega (arith, a.0), encoded_variants_fit vs a.1)

  encoded_types_fit : (ts : Tys) → AllowedAll ts → All Fits (encode_types ts)
  encoded_types_fit nil a = tt
  encoded_types_fit (cons t ts) a = all_append Fits (encode_type t) (encode_types ts) (encoded_fits t a.0) (encoded_types_fit ts a.1)

  encoded_variants_fit : (vs : Variants) → AllowedVariants vs → All Fits (encode_variants vs)
  encoded_variants_fit (last ts) a = (omega (arith, a.0), encoded_types_fit ts a.1)
  encoded_variants_fit (more ts vs) a = (omega (arith, a.0.0), all_append Fits (encode_types ts) (encode_variants vs) (encoded_types_fit ts a.0.1) (encoded_variants_fit vs a.1))

-- the file written for an allowed type is bytes
pub type_file_bytes : (t : Ty) → Allowed t → Bytes (type_file t)
unfolding type_file
type_file_bytes t a = all_flat_map Fits (λ b. b < 256) type_bytes fits_bytes (encode_type t) (encoded_fits t a)
