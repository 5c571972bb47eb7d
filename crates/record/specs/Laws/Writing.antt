-- Laws of records written over the front of a buffer: two pieces, the second into the rest behind the first; a record put before what was written behind it; an integer put into its record.
use Rattle.std.specs.Prelude.{◌≡◌, refl, List, [], ◌∷◌, ◌++◌, ℕ, suc, ◌+◌, ◌≤◌}
use Rattle.std.proofs.Math.Path.{sym}
use Rattle.std.proofs.Common.{ap, ◌∙◌, append_assoc, append-nil, length-append, length-drop, drop_at}
use native.Mathlib.Omega.{arith}
use Rattle.std.proofs.Math.ListN.{length, take, drop, length-take, take-append-drop}
use Rattle.model.specs.Bytes.{two, in_bytes}
use Rattle.model.specs.ValueFiles.{Rec, rec, value_bytes}
use Rattle.model.proofs.Laws.Bytes.{length_in_bytes}
use Rattle.model.proofs.Laws.ValueFiles.{length_value_bytes}
use Rattle.structural.specs.Writing.{put, Wrote}
use Rattle.structural.proofs.Laws.Writing.{rest, back, wrote_length, wrote_room, wrote_lent, wrote_as}
use Rattle.record.specs.Marks.{bytes, written}

-- TWO PIECES

written_append : (rs ss : List Rec) → written (rs ++ ss) ≡ written rs ++ written ss
unfolding written
written_append [] ss = refl
written_append (r ∷ rs) ss = ap (λ l. value_bytes r ++ l) (written_append rs ss) ∙ sym (append_assoc (value_bytes r) (written rs) (written ss))

module _ (rs ss : List Rec) (out : List ℕ) (h : length (written (rs ++ ss)) ≤ length out) where
  both_fit : length (written rs) + length (written ss) ≤ length out
  both_fit = omega (arith, h, ap length (written_append rs ss), length-append (written rs) (written ss))

  pub first_room : length (written rs) ≤ length out
  first_room = let l = both_fit in omega arith

  module _ {o : List ℕ} {k : ℕ} (v : Wrote (written rs) out o k) where
    pub first_fits : k ≤ length o
    first_fits = let l = both_fit in let e = v.len in omega (arith, wrote_length v first_room)

    pub second_room : length (written ss) ≤ length (rest k o)
    second_room = wrote_room v (length (written ss)) both_fit

    module _ {p : List ℕ} {r : ℕ} (u : Wrote (written ss) (rest k o) p r) where
      pub both_done : Wrote (written (rs ++ ss)) out (back k o p) (r + k)
      both_done = wrote_as (written_append rs ss) (wrote_lent v both_fit u)

      pub both_small : r + k ≤ length out
      both_small = let l = both_fit in let e = v.len in let f = u.len in omega arith

-- A RECORD BEFORE THE OTHERS

length_bytes : (r : Rec) → length (bytes r) ≡ 36
unfolding bytes
length_bytes r = length_value_bytes r

written_cons : (r : Rec) (rs : List Rec) → written (r ∷ rs) ≡ bytes r ++ written rs
unfolding written bytes
written_cons r rs = refl

put_over : (xs us ys o : List ℕ) → length xs ≡ length us → put xs (put (us ++ ys) o) ≡ put (xs ++ ys) o
unfolding put
put_over xs us ys o e =
    ap (λ l. xs ++ drop (length xs) l) (append_assoc us ys (drop (length (us ++ ys)) o))
    ∙ ap (λ l. xs ++ l) (drop_at us (ys ++ drop (length (us ++ ys)) o) (length xs) (sym e))
    ∙ sym (append_assoc xs ys (drop (length (us ++ ys)) o))
    ∙ ap (λ n. (xs ++ ys) ++ drop n o) (length-append us ys ∙ ap (λ n. n + length ys) (sym e) ∙ sym (length-append xs ys))

module _ (r : Rec) (rs : List Rec) (out : List ℕ) (h : length (written (r ∷ rs)) ≤ length out) where
  record_fits : 36 + length (written rs) ≤ length out
  record_fits = omega (arith, h, ap length (written_cons r rs), length-append (bytes r) (written rs), length_bytes r)

  pub record_room : 36 ≤ length out
  record_room = let l = record_fits in omega arith

  -- the front of the buffer stands there as it was
  front : Wrote (take 36 out) out out 36
  unfolding put
  front =
      let l = record_fits in
      let e : length (take 36 out) ≡ 36 = length-take 36 out ∙ omega arith in
      record { len = sym e; out = sym (ap (λ n. take 36 out ++ drop n out) e ∙ take-append-drop 36 out) }

  pub below_room : length (written rs) ≤ length (rest 36 out)
  below_room = wrote_room front (length (written rs)) (let l = record_fits in omega (arith, length-take 36 out))

  module _ {p : List ℕ} {k : ℕ} (v : Wrote (written rs) (rest 36 out) p k) where
    below_done : Wrote (take 36 out ++ written rs) out (back 36 out p) (k + 36)
    below_done = wrote_lent front (let l = record_fits in omega (arith, length-take 36 out)) v

    pub below_length : length (back 36 out p) ≡ length out
    below_length = wrote_length below_done (let l = record_fits in omega (arith, length-take 36 out, length-append (take 36 out) (written rs)))

    pub record_small : k + 36 ≤ length out
    record_small = let l = record_fits in let e = v.len in omega arith

    pub record_done : (o : List ℕ) → o ≡ put (bytes r) (back 36 out p) → Wrote (written (r ∷ rs)) out o (k + 36)
    record_done o e =
        let l = record_fits in
        let m = length_bytes r in
        let f = v.len in
        let n : length (bytes r) ≡ length (take 36 out) = omega (arith, length-take 36 out) in
        record {
          len = omega (arith, ap length (written_cons r rs), length-append (bytes r) (written rs));
          out = e ∙ ap (put (bytes r)) below_done.out ∙ put_over (bytes r) (take 36 out) (written rs) out n ∙ ap (λ l. put l out) (sym (written_cons r rs));
        }

-- one record alone
pub record_alone : (r : Rec) (out o : List ℕ) → o ≡ put (bytes r) out → Wrote (written (r ∷ [])) out o 36
unfolding written bytes
record_alone r out o e = let w : written (r ∷ []) ≡ bytes r = append-nil (value_bytes r) in record { len = sym (ap length w ∙ length_bytes r); out = e ∙ ap (λ l. put l out) (sym w) }

-- AN INTEGER IN ITS RECORD

-- the bytes of the integer, as they are lent
abbrev pub lent : List ℕ → List ℕ
lent o = take 32 (drop 4 o)

-- o after they came back as p
abbrev pub returned : List ℕ → List ℕ → List ℕ
returned o p = take 4 o ++ (p ++ drop 32 (drop 4 o))

pub lent_length : (o : List ℕ) → 36 ≤ length o → length (lent o) ≡ 32
lent_length o h = simp (length-take, length-drop) (omega arith)

pub integer_put : (w n : ℕ) (out o p : List ℕ) → o ≡ put (bytes (rec 2 0 w 0)) out → p ≡ in_bytes 32 n → returned o p ≡ put (bytes (rec 2 0 w n)) out
unfolding put bytes
integer_put w n out o p e h =
    let a = length_in_bytes 32 0 in
    let b = length_in_bytes 32 n in
    let m : length (in_bytes 32 0) ≡ length (in_bytes 32 n) = a ∙ sym b in
    rw (e, h)
    (ap (λ l. 2 ∷ 0 ∷ two w ++ (in_bytes 32 n ++ l)) (drop_at (in_bytes 32 0) (drop (suc (suc (suc (suc (length (in_bytes 32 0)))))) out) 32 a ∙ ap (λ k. drop (suc (suc (suc (suc k)))) out) m))
