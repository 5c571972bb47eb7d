-- Laws of writing over the front of a buffer, piece by piece: a byte more, and a part of the buffer that was lent to a writer and came back.
-- What writes a byte and then two pieces, each into the rest after the piece before it, writes them all (`Fork`); so does what writes the first of two same pieces and copies it.
use Rattle.std.specs.Prelude.{◌≡◌, length, take, set}
use Rattle.std.proofs.Math.Path.{refl, ap}
use Rattle.std.proofs.Common.{sym, ◌∙◌, arith, add-one, drop_of_length-le, take-append-drop, length-append, length-drop, take_at, drop_at, drop-drop, drop-cons, length-take-le, take-suc}
use mathlib.Core.List.{List, [], ◌∷◌, ◌++◌, append_assoc, append-nil}
use Prim.Native.Nat.{ℕ, suc, ◌+◌, ◌-◌, ◌≤◌, ◌<◌}
use Rattle.std.proofs.Math.ListN.{get_or, drop, length-take, get_or-append}
use Rattle.std.proofs.Math.Seq.{take_all, get_or-take, drop-append-add}
use Rattle.std.proofs.lemmas.List.{set_at}
use Rattle.structural.specs.Writing.{put, Wrote}

length_put : (xs o : List ℕ) → length xs ≤ length o → length (put xs o) ≡ length o
unfolding put
length_put xs o h = simp (length-append, length-drop) (omega arith)

put_set : (xs : List ℕ) (x : ℕ) (o : List ℕ) (n : ℕ) → n ≡ length xs → n < length o → set (put xs o) n x ≡ put (xs ++ (x ∷ [])) o
unfolding put
put_set xs x o n e h =
    let h' : length xs < length o = omega arith in
    ap (λ (l : List ℕ). set (xs ++ l) n x) (drop-cons o (length xs) 0 h')
    ∙ set_at xs (get_or o (length xs) 0) (drop (suc (length xs)) o) x n (sym e)
    ∙ simp (append_assoc, length-append, add-one)

-- the rest of o from k on, as it is lent
abbrev pub rest : ℕ → List ℕ → List ℕ
rest k o = take (length o - k) (drop k o)

-- o after that rest came back as p
abbrev pub back : ℕ → List ℕ → List ℕ → List ℕ
back k o p = take k o ++ (p ++ drop (length o - k) (drop k o))

put_back : (xs ys o : List ℕ) (n : ℕ) → n ≡ length xs → n + length ys ≤ length o → back n (put xs o) (put ys (rest n (put xs o))) ≡ put (xs ++ ys) o
unfolding put
put_back xs ys o n e h =
    let d : List ℕ = drop (length xs) o in
    let k : ℕ = length (xs ++ d) - n in
    let short : length d ≤ k = omega (arith, length-append xs d) in
    rw (take_at xs d n (sym e), drop_at xs d n (sym e), take_all k d short, drop_of_length-le d short)
    (simp (append-nil, append_assoc, drop-drop, length-append))

put_over : (xs ys o : List ℕ) → length ys ≤ length xs → put xs (put ys o) ≡ put xs o
unfolding put
put_over xs ys o h =
    let m : ℕ = length xs - length ys in
    let e : length xs ≡ length ys + m = omega arith in
    ap (λ (l : List ℕ). xs ++ l) (ap (λ n. drop n (ys ++ drop (length ys) o)) e ∙ drop-append-add ys (drop (length ys) o) m ∙ drop-drop m (length ys) o ∙ ap (λ n. drop n o) (sym e))

-- nothing is written yet
pub wrote_none : (out : List ℕ) → Wrote [] out out 0
unfolding put
wrote_none out = record { len = refl; out = refl }

module _ {xs out o : List ℕ} {k : ℕ} (w : Wrote xs out o k) where
  -- a byte more
  pub wrote_set : (x : ℕ) → k < length out → Wrote (xs ++ (x ∷ [])) out (set o k x) (k + 1)
  wrote_set x h = record { len = ap (λ (n : ℕ). n + 1) w.len ∙ sym (length-append xs (x ∷ [])); out = rw w.out (put_set xs x out k w.len h) }

  -- the buffer is as long as it was
  pub wrote_length : length xs ≤ length out → length o ≡ length out
  wrote_length h = rw w.out (length_put xs out h)

  -- the rest has room for m more
  pub wrote_room : (m : ℕ) → length xs + m ≤ length out → m ≤ length (rest k o)
  wrote_room m h =
      let l = wrote_length (omega arith) in
      let e = w.len in
      simp (length-take, length-drop) (omega arith)

  -- the rest was lent to a writer, and came back
  pub wrote_lent : {ys p : List ℕ} {r : ℕ} → length xs + length ys ≤ length out → Wrote ys (rest k o) p r → Wrote (xs ++ ys) out (back k o p) (r + k)
  wrote_lent {ys} h v =
      let e = w.len in
      let f = v.len in
      record { len = omega (arith, length-append xs ys); out = rw (v.out, w.out) (put_back xs ys out k e (omega arith)) }

pub wrote_as : {xs ys out o : List ℕ} {k : ℕ} → ys ≡ xs → Wrote xs out o k → Wrote ys out o k
wrote_as e w = rw e w

-- what was written over a shorter piece was written over what stood there before
wrote_over : {xs ys out o o' : List ℕ} {k r : ℕ} → length ys ≤ length xs → Wrote ys out o k → Wrote xs o o' r → Wrote xs out o' r
wrote_over {xs} {ys} {out} h w v = record { len = v.len; out = v.out ∙ ap (put xs) w.out ∙ put_over xs ys out h }

-- THE FRONT ONCE MORE

-- i of the first n bytes stand once more behind them
abbrev pub Repeated : ℕ → ℕ → List ℕ → List ℕ → Type 0
Repeated n i out o = Wrote (take n out ++ take i out) out o (n + i)

pub repeated_none : (n : ℕ) (out : List ℕ) → n ≤ length out → Repeated n 0 out out
unfolding put
repeated_none n out h =
    let e : length (take n out) ≡ n = length-take-le n out h in
    record { len = rw (append-nil (take n out)) (omega arith); out = rw (append-nil (take n out), e) (sym (take-append-drop n out)) }

module _ {n i : ℕ} {out o : List ℕ} (h : n + n ≤ length out) (w : Repeated n i out o) where
  pub repeated_length : i ≤ n → length o ≡ length out
  repeated_length l = wrote_length w (omega (arith, length-append (take n out) (take i out), length-take n out, length-take i out))

  -- the byte that is to be copied is as it was
  repeated_byte : i < n → get_or o i 0 ≡ get_or out i 0
  unfolding put
  repeated_byte l =
      ap (λ (x : List ℕ). get_or x i 0) (w.out ∙ append_assoc (take n out) _ _)
      ∙ get_or-append (take n out) _ 0 i (omega (arith, length-take n out))
      ∙ get_or-take n out i 0 l

  pub repeated_next : i < n → Repeated n (i + 1) out (set o (n + i) (get_or o i 0))
  repeated_next l =
      let e : take n out ++ take (i + 1) out ≡ (take n out ++ take i out) ++ (get_or o i 0 ∷ []) = rw (add-one, repeated_byte l, take-suc out i 0 (omega arith)) (sym (append_assoc (take n out) (take i out) _)) in
      let m : n + (i + 1) ≡ n + i + 1 = omega arith in
      rw m (wrote_as e (wrote_set w (get_or o i 0) (omega arith)))

-- A BYTE AND TWO PIECES

-- they are what is to be written over the front of out, which has room for it
pub record Fork (b : ℕ) (l r xs out : List ℕ) : Type 0 where
  pub same : xs ≡ b ∷ (l ++ r)
  pub room : length xs ≤ length out

module _ {b : ℕ} {l r xs out : List ℕ} (f : Fork b l r xs out) where
  fork_total : suc (length l + length r) ≤ length out
  fork_total = omega (arith, ap length f.same, f.room, length-append l r)

  begun : Wrote (b ∷ []) out (set out 0 b) 1
  begun = let t = fork_total in wrote_set (wrote_none out) b (omega arith)

  pub fork_start : 1 ≤ length (set out 0 b)
  fork_start = let t = fork_total in omega (arith, wrote_length begun (omega arith))

  pub left_room : length l ≤ length (rest 1 (set out 0 b))
  left_room = let t = fork_total in wrote_room begun (length l) (omega arith)

  module _ {p : List ℕ} {a : ℕ} (v : Wrote l (rest 1 (set out 0 b)) p a) where
    left_done : Wrote (b ∷ l) out (back 1 (set out 0 b) p) (a + 1)
    left_done = let t = fork_total in wrote_lent begun (omega arith) v

    pub left_small : a + 1 ≤ length out
    left_small = let t = fork_total in let e = v.len in omega arith

    pub left_fits : a + 1 ≤ length (back 1 (set out 0 b) p)
    left_fits = let t = fork_total in let e = v.len in omega (arith, wrote_length left_done (omega arith))

    pub right_room : length r ≤ length (rest (a + 1) (back 1 (set out 0 b) p))
    right_room = let t = fork_total in wrote_room left_done (length r) (omega arith)

    module _ {q : List ℕ} {c : ℕ} (u : Wrote r (rest (a + 1) (back 1 (set out 0 b) p)) q c) where
      pub fork_done : Wrote xs out (back (a + 1) (back 1 (set out 0 b) p) q) (c + (a + 1))
      fork_done = let t = fork_total in wrote_as f.same (wrote_lent left_done (omega arith) u)

      pub fork_small : c + (a + 1) ≤ length out
      fork_small = let t = fork_total in let e = v.len in let g = u.len in omega arith

-- A BYTE AND A PIECE TWICE

module _ {b : ℕ} {l xs out : List ℕ} (f : Fork b l l xs out) {p : List ℕ} {a : ℕ} (v : Wrote l (rest 1 (set out 0 b)) p a) where
  -- the first piece stands in the rest behind the byte
  first_stands : rest 1 (back 1 (set out 0 b) p) ≡ l ++ drop (suc (length l)) out
  unfolding put
  first_stands = let d : List ℕ = drop (suc (length l)) out in ap (rest 1) (left_done f v).out ∙ take_all (suc (length (l ++ d)) - 1) (l ++ d) (omega arith)

  byte_stands : Wrote (b ∷ []) (back 1 (set out 0 b) p) (back 1 (set out 0 b) p) 1
  unfolding put
  byte_stands = rw (left_done f v).out (record { len = refl; out = refl })

  pub again_room : a + a ≤ length (rest 1 (back 1 (set out 0 b) p))
  again_room = let t = fork_total f in let e = v.len in wrote_room byte_stands (a + a) (omega (arith, wrote_length (left_done f v) (omega arith)))

  module _ {q : List ℕ} {c : ℕ} (u : Wrote (take a (rest 1 (back 1 (set out 0 b) p)) ++ take a (rest 1 (back 1 (set out 0 b) p))) (rest 1 (back 1 (set out 0 b) p)) q c) where
    both : Wrote (l ++ l) (rest 1 (back 1 (set out 0 b) p)) q c
    both = let e : take a (rest 1 (back 1 (set out 0 b) p)) ≡ l = ap (take a) first_stands ∙ take_at l _ a (sym v.len) in wrote_as (ap (λ (x : List ℕ). x ++ x) (sym e)) u

    pub again_done : Wrote xs out (back 1 (back 1 (set out 0 b) p) q) (c + 1)
    again_done =
        let t = fork_total f in
        let n = length-append l l in
        wrote_as f.same (wrote_over (omega arith) (left_done f v) (wrote_lent byte_stands (omega (arith, wrote_length (left_done f v) (omega arith))) both))

    pub again_small : c + 1 ≤ length out
    again_small = let t = fork_total f in let e = both.len in omega (arith, length-append l l)
