-- Bits: a bit and an integer stand in their own record, an integer of every width in its last bits.
use Rattle.std.specs.Prelude.{◌≡◌, true, false, ◌⊎◌, ℕ, ◌+◌, ◌-◌, ◌*◌, ◌/◌, ◌^◌, ◌<◌, ◌≤◌, leb, length, take, drop}
use Rattle.std.proofs.Math.Path.{sym, ap}
use Rattle.std.proofs.Common.{◌∙◌, inl, inr, length-take, length-drop, drop-cons}
use mathlib.Core.List.{List, [], ◌∷◌, map}
use Rattle.std.proofs.Math.Option.{some}
use native.Mathlib.Omega.{arith}
use borrow.Author.Tests.{leb-false}
use Rattle.model.specs.Numbers.{integer_too_large}
use Rattle.model.specs.Outcome.{Outcome, done, ◌>>◌, refuse}
use Rattle.model.specs.Bytes.{odd, byte_bits, bits_of, to_bits, number}
use Rattle.model.specs.Balanced.{grow, btree, fold}
use Rattle.model.specs.Structural.{SValue, unit, pair}
use Rattle.model.specs.Types.{bool, uint}
use Rattle.model.specs.Values.{bit, inject}
use Rattle.model.specs.ValueFiles.{Rec, rec, same, encode, parse_at}
use Rattle.model.proofs.Laws.Shapes.{length_bits_of}
use Rattle.bits.specs.Bits.{bits_at}
use Rattle.bits.specs.Laws.Integers.{low_bits_at, low_bits_number}
use Rattle.bits.specs.Laws.Window.{bits_within}
use Rattle.value.specs.Model as places
use Rattle.told.specs.Forms.{rows_from, choice_at, record_bits, bits_told}
use Rattle.told.specs.Laws.Seen.{seen, seen_row, seen_must, seen_pick}
use Rattle.told.specs.Laws.Products.{said_at, choice_is}

module _ (val : List ℕ) (v : ℕ) (there : v < length val / 36) where
  -- the bits of m bytes of a record
  bits_in : (b m j n : ℕ) → b + m ≤ 36 → j + n ≤ 8 * m → record_bits val v (8 * b + j) n ≡ bits_at (take m (drop (v * 36 + b) val)) j n
  unfolding record_bits
  bits_in b m j n h k =
      let e : 8 * (v * 36) + (8 * b + j) ≡ 8 * (v * 36 + b) + j = omega arith in
      sym (bits_within val (v * 36) 36 (omega arith) (8 * b + j) n (omega arith)) ∙ ap (λ i. bits_at val i n) e ∙ bits_within val (v * 36 + b) m (omega arith) j n k

  -- the last bits say the integer
  integer_bits : (w : ℕ) → w ≤ 256 → number (take 32 (drop (v * 36 + 4) val)) < 2 ^ w → record_bits val v (288 - w) w ≡ to_bits w (number (take 32 (drop (v * 36 + 4) val)))
  integer_bits w h l =
      let m = take 32 (drop (v * 36 + 4) val) in
      let e : 288 - w ≡ 8 * 4 + (8 * 32 - w) = omega arith in
      let k : length m ≡ 32 = length-take 32 (drop (v * 36 + 4) val) ∙ omega (arith, length-drop (v * 36 + 4) val) in
      ap (λ i. record_bits val v i w) e ∙ bits_in 4 32 (8 * 32 - w) w (omega arith) (omega arith) ∙ low_bits_at 32 m w k (omega arith) ∙ low_bits_number m w (omega arith) l

  -- the last bit of the choice
  choice_bit : record_bits val v 15 1 ≡ odd (choice_at val v) ∷ []
  unfolding choice_at bits_of byte_bits
  choice_bit = bits_in 1 1 7 1 (omega arith) (omega arith) ∙ ap (λ l. bits_at (take 1 l) 7 1) (drop-cons val (v * 36 + 1) 0 (omega arith))

  one_bit : (c : ℕ) → choice_at val v ≡ c → bit (odd c) ≡ bits_told val v 15 1
  unfolding bits_told fold btree grow
  one_bit c e = sym (ap (λ l. fold pair unit (btree 1) (map bit l)) choice_bit ∙ ap (λ c. bit (odd c)) e)

  module _ (y : SValue × ℕ) where
    pub uint_said : (w : ℕ) → w ≤ 256 → said_at (uint w) val v ≡ some y → said_at (uint w) val v ≡ some (bits_told val v (288 - w) w, v + 1)
    unfolding parse_at encode inject bits_told
    uint_said w k h =
        let r = places.row val v in
        let o : Outcome (ℕ × List Rec) = done (r.integer, rows_from val (v + 1)) in
        let q = seen_must (inject (uint w)) (encode (uint w)) v y r (rec 2 0 w r.integer) (refuse integer_too_large (leb (2 ^ w) r.integer) >> o) h in
        let u = seen_row (inject (uint w)) (encode (uint w)) v y integer_too_large (leb (2 ^ w) r.integer) o (sym q.1 ∙ h) in
        let l : r.integer < 2 ^ w = leb-false _ _ u.0 in
        q.1 ∙ u.1 ∙ ap (λ n. some (fold pair unit (btree n) (map bit (to_bits w r.integer)), v + 1)) (length_bits_of w r.integer) ∙ ap (λ l. some (fold pair unit (btree w) (map bit l), v + 1)) (sym (integer_bits w k l))

    pub bool_said : said_at bool val v ≡ some y → said_at bool val v ≡ some (bits_told val v 15 1, v + 1)
    unfolding parse_at encode inject
    bool_said h =
        let r = places.row val v in
        go (seen_pick (inject bool) (encode bool) v y (same r (rec 1 0 0 0)) r (rec 1 1 0 0) (done (false, rows_from val (v + 1))) (done (true, rows_from val (v + 1))) h)
      where
        go : ((same (places.row val v) (rec 1 0 0 0) ≡ true) × (said_at bool val v ≡ seen (inject bool) (encode bool) v (done (false, rows_from val (v + 1)))))
            ⊎ ((same (places.row val v) (rec 1 1 0 0) ≡ true) × (said_at bool val v ≡ seen (inject bool) (encode bool) v (done (true, rows_from val (v + 1)))))
            → said_at bool val v ≡ some (bits_told val v 15 1, v + 1)
        go (inl q) = q.1 ∙ ap (λ z. some (z, v + 1)) (one_bit 0 (choice_is val v _ _ _ _ q.0))
        go (inr q) = q.1 ∙ ap (λ z. some (z, v + 1)) (one_bit 1 (choice_is val v _ _ _ _ q.0))
