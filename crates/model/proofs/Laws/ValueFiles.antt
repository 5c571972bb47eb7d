-- The two laws of value files of a type: what is written is read as itself, and what is read is exactly what the writer makes. First over records, then over bytes.
use Rattle.std.specs.Prelude.{◌≡◌, refl, ◌⊎◌, ◌↔◌, List, [], ◌∷◌, ◌++◌, map, Bool, true, false, ◌&&◌, ◌||◌, not, ℕ, zero, suc, ◌+◌, ◌*◌, ◌%◌, ◌/◌, ◌≤◌, ◌<◌, ◌^◌, eqb, leb, length}
use Rattle.std.proofs.Common.{sym, ap, ap₂, ◌∙◌, inl, inr, append_assoc, append-nil, arith, le_trans, lit<, eqb-true, eq-eqb, ne_eqb, leb-false}
use Rattle.std.proofs.Math.Bool.{and-eq-true_iff}
use Rattle.std.proofs.Math.Option.{none, some}
use Rattle.std.proofs.Math.Nat.{one-le-pow, pow-le-pow_right}
use Rattle.std.proofs.lemmas.Bool.{lt-leb, not-false}
use Rattle.model.specs.Options.{pick, flat_map, one_of, All}
use Rattle.model.specs.Types.{Ty, Tys, Variants, never, bool, uint, either, option, tuple, array, list, enum, nil, cons, last, more, size, count}
use Rattle.model.specs.Values.{Value, Values, Choice, Valid, Valids, ValidChoice, index, inject}
use Rattle.model.specs.ValueFiles.{Rec, rec, same, must_be, encode, encodes, encode_choice, Reader, made, many, parse, parse_at, parses, parse_choice, value_record, value_bytes, value_file, value_of}
use Rattle.model.specs.Bytes.{Bytes, records}
use Rattle.model.specs.TypeFiles.{widths}
use Rattle.model.specs.Numbers.{value_length, not_one_value, integer_too_large, list_too_long}
use Rattle.model.specs.Outcome.{Outcome, done, ◌>>=◌, ◌>>◌, all_read}
use Rattle.model.proofs.Laws.Options.{one_of_all}
use Rattle.model.proofs.Laws.Outcome.{refused_done, done_injective, outcome_step, outcome_made, refuse_step, whole_read, length_row}
use Rattle.model.proofs.Laws.Shapes.{index_count}
use Rattle.model.proofs.Laws.Bytes.{number_in_bytes, in_bytes_number, length_in_bytes, bytes_in_bytes}
use Rattle.model.proofs.Laws.Records.{two_of, all_append, all_flat_map, length_written, read_written, written_read}
use Rattle.model.proofs.Laws.TypeFiles.{Allowed, AllowedAll, AllowedVariants}

-- RECORDS

pub same_eq : (r s : Rec) → same r s ≡ true → r ≡ s
unfolding same
same_eq r s h =
    let a = eqb r.kind s.kind in let b = eqb r.choice s.choice in let c = eqb r.n s.n in let d = eqb r.integer s.integer in
    let x = (and-eq-true_iff (a && b && c) d).0 h in
    let y = (and-eq-true_iff (a && b) c).0 x.0 in
    let z = (and-eq-true_iff a b).0 y.0 in
    λ i. record { kind = eqb-true r.kind s.kind z.0 i; choice = eqb-true r.choice s.choice z.1 i; n = eqb-true r.n s.n y.1 i; integer = eqb-true r.integer s.integer x.1 i }

other : (same (rec 1 1 0 0) (rec 1 0 0 0) ≡ false) × (same (rec 3 1 0 0) (rec 3 0 0 0) ≡ false) × (same (rec 4 1 0 0) (rec 4 0 0 0) ≡ false)
unfolding same
other = (refl, refl, refl)

pub same_refl : (r : Rec) → same r r ≡ true
unfolding same
same_refl r = rw (eq-eqb r.kind r.kind refl, eq-eqb r.choice r.choice refl, eq-eqb r.n r.n refl, eq-eqb r.integer r.integer refl)

-- reading what was written

many_encode : {A : Type 0} (P : A → Type 0) (f : Reader A) (g : A → List Rec) → ((x : A) (rs : List Rec) → P x → f (g x ++ rs) ≡ done (x, rs)) → (xs : List A) (rs : List Rec) → All P xs → many f (length xs) (flat_map g xs ++ rs) ≡ done (xs, rs)
many_encode P f g h [] rs k = refl
many_encode P f g h (x ∷ xs) rs k = rw (append_assoc (g x) (flat_map g xs) rs, h x (flat_map g xs ++ rs) k.0, many_encode P f g h xs rs k.1)

mutual
  unfolding encode parse_at inject

  pub parse_encode : (t : Ty) (v : Value t) (rs : List Rec) → Valid t v → parse t (encode t v ++ rs) ≡ done (v, rs)
  parse_encode never v rs h = absurd v
  parse_encode bool true rs h = rw (other.0, same_refl (rec 1 1 0 0))
  parse_encode bool false rs h = rw (same_refl (rec 1 0 0 0))
  parse_encode (uint k) n rs h = rw (same_refl (rec 2 0 k n), lt-leb (2 ^ k) n h)
  parse_encode (either a b) (inl x) rs h = rw (same_refl (rec 3 0 0 0), parse_encode a x rs h)
  parse_encode (either a b) (inr y) rs h = rw (other.1, same_refl (rec 3 1 0 0), parse_encode b y rs h)
  parse_encode (option a) none rs h = rw (same_refl (rec 4 0 0 0))
  parse_encode (option a) (some x) rs h = rw (other.2, same_refl (rec 4 1 0 0), parse_encode a x rs h)
  parse_encode (tuple ts) v rs h = rw (same_refl (rec 5 0 (size ts) 0)) (parses_encodes ts v rs h)
  parse_encode (array a n) xs rs h = rw (same_refl (rec 6 0 n 0), ← h.0) (many_encode (Valid a) (parse a) (encode a) (parse_encode a) xs rs h.1)
  parse_encode (list a e) xs rs h = rw (same_refl (rec 7 0 (length xs) 0), lt-leb (2 ^ suc e) (length xs) h.0) (many_encode (Valid a) (parse a) (encode a) (parse_encode a) xs rs h.1)
  parse_encode (enum vs) c rs h = rw (same_refl (rec 8 0 (index vs c) 0)) (parse_choice_encode vs c rs h)

  pub parses_encodes : (ts : Tys) (v : Values ts) (rs : List Rec) → Valids ts v → parses ts (encodes ts v ++ rs) ≡ done (v, rs)
  parses_encodes nil v rs h = refl
  parses_encodes (cons t ts) v rs h = rw (append_assoc (encode t v.0) (encodes ts v.1) rs, parse_encode t v.0 (encodes ts v.1 ++ rs) h.0, parses_encodes ts v.1 rs h.1)

  pub parse_choice_encode : (vs : Variants) (c : Choice vs) (rs : List Rec) → ValidChoice vs c → parse_choice vs (index vs c) (encode_choice vs c ++ rs) ≡ done (c, rs)
  parse_choice_encode (last ts) c rs h = parses_encodes ts c rs h
  parse_choice_encode (more ts vs) (inl c) rs h = rw (parses_encodes ts c rs h)
  parse_choice_encode (more ts vs) (inr c) rs h = rw (parse_choice_encode vs c rs h)

-- writing what was read

pub record Wrote {A : Type 0} (P : A → Type 0) (g : A → List Rec) (rs : List Rec) (x : A × List Rec) : Type 0 where
  pub valid : P x.0
  pub back : rs ≡ g x.0 ++ x.1

-- a reader that gives only what the writer g wrote
abbrev pub Sound : {A : Type 0} → (A → Type 0) → (A → List Rec) → Reader A → Type 0
Sound {A} P g f = (rs : List Rec) (x : A × List Rec) → f rs ≡ done x → Wrote P g rs x

-- a record that must be this one is, where there is a result
must_be_done : {A : Type 0} (r s : Rec) (o : Outcome A) (x : A) → (must_be r s >> o) ≡ done x → (same r s ≡ true) × (o ≡ done x)
must_be_done r s o x h = let (e, k) = refuse_step not_one_value (not (same r s)) o x h in (not-false (same r s) e, k)

made_sound : {A B : Type 0} (P : A → Type 0) (Q : B → Type 0) (g : A → List Rec) (k : B → List Rec) (c : A → B) (f : Reader A) → Sound P g f → ((a : A) → P a → Q (c a)) → ((a : A) → k (c a) ≡ g a) → Sound Q k (λ rs. made c (f rs))
made_sound P Q g k c f s q e rs x h =
    let (y, l, m) = outcome_made (f rs) (λ z. (c z.0, z.1)) x h in
    let w = s rs y l in
    rw (← m) (record { valid = q y.0 w.valid; back = w.back ∙ ap (λ l. l ++ y.1) (sym (e y.0)) })

cons_back : {A : Type 0} (P : A → Type 0) (g : A → List Rec) (rs : List Rec) (y : A × List Rec) (z : List A × List Rec) → Wrote P g rs y → Wrote (All P) (flat_map g) y.1 z → Wrote (All P) (flat_map g) rs (y.0 ∷ z.0, z.1)
cons_back P g rs y z u v = record { valid = (u.valid, v.valid); back = u.back ∙ ap (λ l. g y.0 ++ l) v.back ∙ sym (append_assoc (g y.0) (flat_map g z.0) z.1) }

many_sound : {A : Type 0} (P : A → Type 0) (g : A → List Rec) (f : Reader A) → Sound P g f → (n : ℕ) → Sound (λ xs. (length xs ≡ n) × All P xs) (flat_map g) (many f n)
many_sound P g f s zero rs x h = rw (← done_injective _ _ h) (record { valid = (refl, tt); back = refl })
many_sound P g f s (suc n) rs x h =
    let (y, l, m) = outcome_step (f rs) _ x h in
    let (z, u, v) = outcome_made (many f n y.1) (λ w. (y.0 ∷ w.0, w.1)) x m in
    let q = many_sound P g f s n y.1 z u in
    let r = cons_back P g rs y z (s rs y l) (record { valid = q.valid.1; back = q.back }) in
    rw (← v) (record { valid = (ap suc q.valid.0, r.valid); back = r.back })

pick_cases : {A : Type 0} (b : Bool) (o q : Outcome A) (x : A) → pick b o q ≡ done x → ((b ≡ true) × (o ≡ done x)) ⊎ (q ≡ done x)
pick_cases true o q x h = inl (refl, h)
pick_cases false o q x h = inr h

-- a record, and what stands behind it
headed : {A : Type 0} (P : A → Type 0) (g : A → List Rec) (hd : Rec) (r : Rec) (rs : List Rec) (x : A × List Rec) → same r hd ≡ true → Wrote P g rs x → Wrote P (λ v. hd ∷ g v) (r ∷ rs) x
headed P g hd r rs x h w = record { valid = w.valid; back = ap₂ {C = List Rec} ◌∷◌ (same_eq r hd h) w.back }

one : {A : Type 0} (P : A → Type 0) (k : A → List Rec) (hd r : Rec) (rs : List Rec) (v : A) (x : A × List Rec) → same r hd ≡ true → done (v, rs) ≡ done x → P v → k v ≡ hd ∷ [] → Wrote P k (r ∷ rs) x
one P k hd r rs v x h e p q = rw (← done_injective (v, rs) x e) (record { valid = p; back = ap {B = List Rec} (λ y. y ∷ rs) (same_eq r hd h) ∙ sym (ap (λ l. l ++ rs) q) })

headed_made : {A B : Type 0} (P : A → Type 0) (Q : B → Type 0) (g : A → List Rec) (k : B → List Rec) (c : A → B) (hd r : Rec) (rs : List Rec) (f : Reader A) (x : B × List Rec) → Sound P g f → same r hd ≡ true → made c (f rs) ≡ done x → ((a : A) → P a → Q (c a)) → ((a : A) → k (c a) ≡ hd ∷ g a) → Wrote Q k (r ∷ rs) x
headed_made P Q g k c hd r rs f x s h e q l =
    let (y, m, n) = outcome_made (f rs) (λ z. (c z.0, z.1)) x e in
    let w = s rs y m in
    rw (← n) (record { valid = q y.0 w.valid; back = ap₂ {C = List Rec} ◌∷◌ (same_eq r hd h) w.back ∙ sym (ap (λ z. z ++ y.1) (l y.0)) })

sized : {A : Type 0} (P : A → Type 0) (Q : A → Type 0) (g : A → List Rec) (count : A → ℕ) (k : ℕ) (r : Rec) (rs : List Rec) (x : A × List Rec) → same r (rec k 0 r.n 0) ≡ true → Wrote (λ a. Q a × (count a ≡ r.n)) g rs x → ((a : A) → Q a → count a ≡ r.n → P a)
    → Wrote P (λ a. rec k 0 (count a) 0 ∷ g a) (r ∷ rs) x
sized P Q g count k r rs x h w f = record { valid = f x.0 w.valid.0 w.valid.1; back = ap₂ {C = List Rec} ◌∷◌ (same_eq r (rec k 0 r.n 0) h ∙ ap (λ n. rec k 0 n 0) (sym w.valid.1)) w.back }

bool_sound : (r : Rec) (rs : List Rec) (x : Bool × List Rec) → parse_at bool r rs ≡ done x → Wrote (Valid bool) (encode bool) (r ∷ rs) x
unfolding parse_at encode
bool_sound r rs x h = go (pick_cases _ _ _ x h)
  where
    go : ((same r (rec 1 0 0 0) ≡ true) × (done (false, rs) ≡ done x)) ⊎ ((must_be r (rec 1 1 0 0) >> done (true, rs)) ≡ done x) → Wrote (Valid bool) (encode bool) (r ∷ rs) x
    go (inl e) = one (Valid bool) (encode bool) (rec 1 0 0 0) r rs false x e.0 e.1 tt refl
    go (inr e) = let k = must_be_done _ _ _ x e in one (Valid bool) (encode bool) (rec 1 1 0 0) r rs true x k.0 k.1 tt refl

uint_sound : (k : ℕ) (r : Rec) (rs : List Rec) (x : ℕ × List Rec) → parse_at (uint k) r rs ≡ done x → Wrote (Valid (uint k)) (encode (uint k)) (r ∷ rs) x
unfolding parse_at encode
uint_sound k r rs x h =
    let (e, w) = must_be_done _ _ _ x h in
    let (l, d) = refuse_step integer_too_large (leb (2 ^ k) r.integer) (done (r.integer, rs)) x w in
    one (Valid (uint k)) (encode (uint k)) (rec 2 0 k r.integer) r rs r.integer x e d (leb-false _ _ l) refl

either_sound : (a b : Ty) → Sound (Valid a) (encode a) (parse a) → Sound (Valid b) (encode b) (parse b) → (r : Rec) (rs : List Rec) (x : Value (either a b) × List Rec) → parse_at (either a b) r rs ≡ done x → Wrote (Valid (either a b)) (encode (either a b)) (r ∷ rs) x
unfolding parse_at encode
either_sound a b f g r rs x h = go (pick_cases _ _ _ x h)
  where
    go : ((same r (rec 3 0 0 0) ≡ true) × (made inl (parse a rs) ≡ done x)) ⊎ ((must_be r (rec 3 1 0 0) >> made inr (parse b rs)) ≡ done x) → Wrote (Valid (either a b)) (encode (either a b)) (r ∷ rs) x
    go (inl e) = headed_made (Valid a) (Valid (either a b)) (encode a) (encode (either a b)) inl (rec 3 0 0 0) r rs (parse a) x f e.0 e.1 (λ y o. o) (λ y. refl)
    go (inr e) = let k = must_be_done _ _ _ x e in headed_made (Valid b) (Valid (either a b)) (encode b) (encode (either a b)) inr (rec 3 1 0 0) r rs (parse b) x g k.0 k.1 (λ y o. o) (λ y. refl)

option_sound : (a : Ty) → Sound (Valid a) (encode a) (parse a) → (r : Rec) (rs : List Rec) (x : Value (option a) × List Rec) → parse_at (option a) r rs ≡ done x → Wrote (Valid (option a)) (encode (option a)) (r ∷ rs) x
unfolding parse_at encode
option_sound a f r rs x h = go (pick_cases _ _ _ x h)
  where
    go : ((same r (rec 4 0 0 0) ≡ true) × (done (none, rs) ≡ done x)) ⊎ ((must_be r (rec 4 1 0 0) >> made some (parse a rs)) ≡ done x) → Wrote (Valid (option a)) (encode (option a)) (r ∷ rs) x
    go (inl e) = one (Valid (option a)) (encode (option a)) (rec 4 0 0 0) r rs none x e.0 e.1 tt refl
    go (inr e) = let k = must_be_done _ _ _ x e in headed_made (Valid a) (Valid (option a)) (encode a) (encode (option a)) some (rec 4 1 0 0) r rs (parse a) x f k.0 k.1 (λ y o. o) (λ y. refl)

list_sound : (a : Ty) (e : ℕ) → Sound (Valid a) (encode a) (parse a) → (r : Rec) (rs : List Rec) (x : Value (list a e) × List Rec) → parse_at (list a e) r rs ≡ done x → Wrote (Valid (list a e)) (encode (list a e)) (r ∷ rs) x
unfolding parse_at encode
list_sound a e f r rs x h =
    let (k, w) = must_be_done _ _ _ x h in
    let (b, d) = refuse_step list_too_long (leb (2 ^ suc e) r.n) (many (parse a) r.n rs) x w in
    let l : r.n < 2 ^ suc e = leb-false _ _ b in
    let q = many_sound (Valid a) (encode a) (parse a) f r.n rs x d in
    sized (Valid (list a e)) (All (Valid a)) (flat_map (encode a)) length 7 r rs x k (record { valid = (q.valid.1, q.valid.0); back = q.back }) (λ y o m. (rw m l, o))

cons_sound : (t : Ty) (ts : Tys) → Sound (Valid t) (encode t) (parse t) → Sound (Valids ts) (encodes ts) (parses ts) → Sound (Valids (cons t ts)) (encodes (cons t ts)) (parses (cons t ts))
unfolding parse_at encode
cons_sound t ts f g rs x h =
    let (y, l, m) = outcome_step (parse t rs) _ x h in
    let (z, u, v) = outcome_made (parses ts y.1) (λ w. ((y.0, w.0), w.1)) x m in
    let p = f rs y l in
    let q = g y.1 z u in
    rw (← v) (record { valid = (p.valid, q.valid); back = p.back ∙ ap (λ k. encode t y.0 ++ k) q.back ∙ sym (append_assoc (encode t y.0) (encodes ts z.0) z.1) })

mutual
  unfolding encode parse_at inject

  pub parse_sound : (t : Ty) → Sound (Valid t) (encode t) (parse t)
  parse_sound never [] x h = absurd (refused_done not_one_value x h)
  parse_sound never (r ∷ rs) x h = absurd (refused_done not_one_value x h)
  parse_sound bool [] x h = absurd (refused_done not_one_value x h)
  parse_sound bool (r ∷ rs) x h = bool_sound r rs x h
  parse_sound (uint k) [] x h = absurd (refused_done not_one_value x h)
  parse_sound (uint k) (r ∷ rs) x h = uint_sound k r rs x h
  parse_sound (either a b) [] x h = absurd (refused_done not_one_value x h)
  parse_sound (either a b) (r ∷ rs) x h = either_sound a b (parse_sound a) (parse_sound b) r rs x h
  parse_sound (option a) [] x h = absurd (refused_done not_one_value x h)
  parse_sound (option a) (r ∷ rs) x h = option_sound a (parse_sound a) r rs x h
  parse_sound (tuple ts) [] x h = absurd (refused_done not_one_value x h)
  parse_sound (tuple ts) (r ∷ rs) x h = let w = must_be_done r (rec 5 0 (size ts) 0) (parses ts rs) x h in headed (Valids ts) (encodes ts) (rec 5 0 (size ts) 0) r rs x w.0 (parses_sound ts rs x w.1)
  parse_sound (array a n) [] x h = absurd (refused_done not_one_value x h)
  parse_sound (array a n) (r ∷ rs) x h = let w = must_be_done r (rec 6 0 n 0) (many (parse a) n rs) x h in headed (Valid (array a n)) (flat_map (encode a)) (rec 6 0 n 0) r rs x w.0 (many_sound (Valid a) (encode a) (parse a) (parse_sound a) n rs x w.1)
  parse_sound (list a e) [] x h = absurd (refused_done not_one_value x h)
  parse_sound (list a e) (r ∷ rs) x h = list_sound a e (parse_sound a) r rs x h
  parse_sound (enum vs) [] x h = absurd (refused_done not_one_value x h)
  parse_sound (enum vs) (r ∷ rs) x h = let w = must_be_done r (rec 8 0 r.n 0) (parse_choice vs r.n rs) x h in sized (ValidChoice vs) (ValidChoice vs) (encode_choice vs) (index vs) 8 r rs x w.0 (parse_choice_sound vs r.n rs x w.1) (λ c o m. o)

  pub parses_sound : (ts : Tys) → Sound (Valids ts) (encodes ts) (parses ts)
  parses_sound nil rs x h = rw (← done_injective _ _ h) (record { valid = tt; back = refl })
  parses_sound (cons t ts) rs x h = cons_sound t ts (λ us y k. parse_sound t us y k) (λ us y k. parses_sound ts us y k) rs x h

  pub parse_choice_sound : (vs : Variants) (i : ℕ) → Sound (λ c. ValidChoice vs c × (index vs c ≡ i)) (encode_choice vs) (parse_choice vs i)
  parse_choice_sound (last ts) zero rs x h = let w = parses_sound ts rs x h in record { valid = (w.valid, refl); back = w.back }
  parse_choice_sound (last ts) (suc i) rs x h = absurd (refused_done not_one_value x h)
  parse_choice_sound (more ts vs) zero rs x h = made_sound (Valids ts) (λ c. ValidChoice (more ts vs) c × (index (more ts vs) c ≡ 0)) (encodes ts) (encode_choice (more ts vs)) inl (parses ts) (λ us y k. parses_sound ts us y k) (λ a v. (v, refl)) (λ a. refl) rs x h
  parse_choice_sound (more ts vs) (suc i) rs x h = made_sound (λ c. ValidChoice vs c × (index vs c ≡ i)) (λ c. ValidChoice (more ts vs) c × (index (more ts vs) c ≡ suc i)) (encode_choice vs) (encode_choice (more ts vs)) inr (parse_choice vs i) (parse_choice_sound vs i) (λ a v. (v.0, ap suc v.1)) (λ a. refl) rs x h

-- BYTES

-- a record that 36 bytes can say
pub record Fits (r : Rec) : Type 0 where
  pub kind : r.kind < 256
  pub choice : r.choice < 256
  pub n : r.n < 65536
  pub integer : r.integer < 2 ^ 256

pub length_value_bytes : (r : Rec) → length (value_bytes r) ≡ 36
length_value_bytes r = omega (arith, length_in_bytes 32 r.integer)

record_read : (r : Rec) → Fits r → value_record (value_bytes r) ≡ r
record_read r f = λ i. record { kind = r.kind; choice = r.choice; n = two_number i; integer = number_in_bytes 32 r.integer f.integer i }
  where
    two_number : r.n / 256 * 256 + r.n % 256 ≡ r.n
    two_number = omega arith

record_written : (l : List ℕ) → length l ≡ 36 → Bytes l → value_bytes (value_record l) ≡ l
record_written [] h b = absurd (omega arith)
record_written (k ∷ []) h b = absurd (omega arith)
record_written (k ∷ c ∷ []) h b = absurd (omega arith)
record_written (k ∷ c ∷ x ∷ []) h b = absurd (omega arith)
record_written (k ∷ c ∷ x ∷ y ∷ l) h b =
    ap₂ {C = List ℕ} (λ m z. k ∷ c ∷ m ++ z) (two_of x y (x * 256 + y) b.1.1.0 b.1.1.1.0 refl) (in_bytes_number 32 l (omega arith) b.1.1.1.1)

bytes_value_bytes : (r : Rec) → Fits r → Bytes (value_bytes r)
bytes_value_bytes r f = let h = f.n in (f.kind, (f.choice, (omega arith, (omega arith, bytes_in_bytes 32 r.integer))))

-- the records of a valid value fit

narrow : (w : ℕ) → one_of w widths ≡ true → w ≤ 256
narrow w h = one_of_all (λ n. n ≤ 256) w widths (omega arith) h

small : (k c n : ℕ) → k < 256 → c < 256 → n < 65536 → Fits (rec k c n 0)
small k c n hk hc hn = record { kind = hk; choice = hc; n = hn; integer = one-le-pow 256 2 (omega arith) }

abbrev AllFit : List Rec → Type 0
AllFit = All Fits

flat_fit : {A : Type 0} (P : A → Type 0) (f : A → List Rec) → ((x : A) → P x → AllFit (f x)) → (xs : List A) → All P xs → AllFit (flat_map f xs)
flat_fit P f h xs k = all_flat_map P Fits f h xs k

short_list : (e n : ℕ) → e < 15 → n < 2 ^ suc e → n < 65536
short_list e n h k = let q : 2 ^ suc e ≤ 2 ^ 15 = pow-le-pow_right (omega arith) {i = suc e} {j = 15} (omega arith) in omega arith

mutual
  unfolding encode inject

  pub encode_fits : (t : Ty) (v : Value t) → Allowed t → Valid t v → AllFit (encode t v)
  encode_fits never v a h = absurd v
  encode_fits bool true a h = (small 1 1 0 (lit< tt) (lit< tt) (lit< tt), tt)
  encode_fits bool false a h = (small 1 0 0 (lit< tt) (lit< tt) (lit< tt), tt)
  encode_fits (uint w) n a h = (record { kind = lit< tt; choice = lit< tt; n = omega (arith, narrow w a); integer = le_trans h (pow-le-pow_right (omega arith) (narrow w a)) }, tt)
  encode_fits (either a b) (inl x) o h = (small 3 0 0 (lit< tt) (lit< tt) (lit< tt), encode_fits a x o.0 h)
  encode_fits (either a b) (inr y) o h = (small 3 1 0 (lit< tt) (lit< tt) (lit< tt), encode_fits b y o.1 h)
  encode_fits (option a) none o h = (small 4 0 0 (lit< tt) (lit< tt) (lit< tt), tt)
  encode_fits (option a) (some x) o h = (small 4 1 0 (lit< tt) (lit< tt) (lit< tt), encode_fits a x o h)
  encode_fits (tuple ts) v o h = (small 5 0 (size ts) (lit< tt) (lit< tt) o.0, encodes_fit ts v o.1 h)
  encode_fits (array a n) xs o h = (small 6 0 n (lit< tt) (lit< tt) o.0, flat_fit (Valid a) (encode a) (λ x k. encode_fits a x o.1 k) xs h.1)
  encode_fits (list a e) xs o h = (small 7 0 (length xs) (lit< tt) (lit< tt) (short_list e (length xs) o.0 h.0), flat_fit (Valid a) (encode a) (λ x k. encode_fits a x o.1 k) xs h.1)
  encode_fits (enum vs) c o h = (small 8 0 (index vs c) (lit< tt) (lit< tt) (omega (arith, index_count vs c)), encode_choice_fits vs c o.1 h)

  pub encodes_fit : (ts : Tys) (v : Values ts) → AllowedAll ts → Valids ts v → AllFit (encodes ts v)
  encodes_fit nil v o h = tt
  encodes_fit (cons t ts) v o h = all_append Fits (encode t v.0) (encodes ts v.1) (encode_fits t v.0 o.0 h.0) (encodes_fit ts v.1 o.1 h.1)

  pub encode_choice_fits : (vs : Variants) (c : Choice vs) → AllowedVariants vs → ValidChoice vs c → AllFit (encode_choice vs c)
  encode_choice_fits (last ts) c o h = encodes_fit ts c o.1 h
  encode_choice_fits (more ts vs) (inl c) o h = encodes_fit ts c o.0.1 h
  encode_choice_fits (more ts vs) (inr c) o h = encode_choice_fits vs c o.1 h

-- there is a first record
pub encode_some : (t : Ty) (v : Value t) → 1 ≤ length (encode t v)
unfolding encode
encode_some never v = absurd v
encode_some bool v = omega arith
encode_some (uint w) v = omega arith
encode_some (either a b) (inl x) = omega arith
encode_some (either a b) (inr x) = omega arith
encode_some (option a) none = omega arith
encode_some (option a) (some x) = omega arith
encode_some (tuple ts) v = omega arith
encode_some (array a n) v = omega arith
encode_some (list a e) v = omega arith
encode_some (enum vs) v = omega arith

-- THE TWO LAWS

-- the records of a written file
pub records_value_file : (t : Ty) (v : Value t) → Allowed t → Valid t v → map value_record (records 36 (value_file t v)) ≡ encode t v
unfolding value_file
records_value_file t v a h = read_written 36 value_bytes length_value_bytes (λ k. omega arith) value_record Fits record_read (encode t v) (encode_fits t v a h)

pub length_value_file : (t : Ty) (v : Value t) → length (value_file t v) ≡ length (encode t v) * 36
unfolding value_file
length_value_file t v = length_written 36 value_bytes length_value_bytes (encode t v)

pub bytes_value_file : (t : Ty) (v : Value t) → Allowed t → Valid t v → Bytes (value_file t v)
unfolding value_file
bytes_value_file t v a h = all_flat_map Fits (λ b. b < 256) value_bytes bytes_value_bytes (encode t v) (encode_fits t v a h)

-- what is written is read as itself
pub value_read_written : (t : Ty) (v : Value t) → Allowed t → Valid t v → value_of t (value_file t v) ≡ done v
unfolding value_of
value_read_written t v a h =
    let n = length_value_file t v in
    let k = encode_some t v in
    rw (ne_eqb (length (value_file t v)) 0 (λ e. omega arith), eq-eqb (length (value_file t v) % 36) 0 (omega arith), records_value_file t v a h, (rw (append-nil (encode t v)) at (parse_encode t v [] h)))

-- what is read is exactly what the writer makes
pub value_written_read : (t : Ty) (file : List ℕ) (v : Value t) → Bytes file → value_of t file ≡ done v → Valid t v × (file ≡ value_file t v)
unfolding value_of value_file
value_written_read t file v b h =
    let (e, k) = refuse_step value_length (eqb (length file) 0 || not (eqb (length file % 36) 0)) (parse t (map value_record (records 36 file)) >>= all_read not_one_value) v h in
    let m = (length_row (length file % 36) (length file) e).1 in
    let w = parse_sound t (map value_record (records 36 file)) (v, []) (whole_read not_one_value (parse t (map value_record (records 36 file))) v k) in
    (w.valid, sym (written_read 36 value_bytes length_value_bytes value_record record_written (length file / 36) file (omega arith) b) ∙ ap (flat_map value_bytes) (w.back ∙ append-nil (encode t v)))

-- so the accepted files of a type are those of its valid values, and each is of one
pub value_accepted : (t : Ty) → Allowed t → (file : List ℕ) (v : Value t) → Bytes file → (value_of t file ≡ done v) ↔ (Valid t v × (file ≡ value_file t v))
value_accepted t a file v b = (value_written_read t file v b, λ h. ap (value_of t) h.1 ∙ value_read_written t v a h.0)
