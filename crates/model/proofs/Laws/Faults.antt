-- The reader of value files refuses with the number that is found record by record (`Faults`), and where none is found it gives a value.
use Rattle.std.specs.Prelude.{◌≡◌, refl, Bool, true, false, ◌&&◌, ◌||◌, not, List, [], ◌∷◌, ◌++◌, map, ◌⊎◌, ℕ, zero, suc, ◌%◌, ◌^◌, ◌≤◌, eqb, leb, length, replicate}
use Rattle.std.proofs.Common.{sym, ap, ◌∙◌, inl, inr, arith, eq-eqb, leb-true, le-leb}
use Rattle.std.proofs.Math.Bool.{and-true}
use Rattle.std.proofs.Math.Option.{none, some}
use Rattle.std.proofs.Math.Dec.{leb-suc-suc}
use Rattle.std.proofs.lemmas.Bool.{lt-leb}
use Rattle.model.specs.Numbers.{value_length, not_one_value, integer_too_large, list_too_long}
use Rattle.model.specs.Outcome.{Outcome, done, refused, ◌>>=◌, ◌>>◌, refuse, all_read}
use Rattle.model.specs.Options.{pick}
use Rattle.model.specs.Bytes.{records}
use Rattle.model.specs.Types.{Ty, Tys, Variants, never, bool, uint, either, option, tuple, array, list, enum, nil, cons, last, more, size, count}
use Rattle.model.specs.ValueFiles.{Rec, rec, value_record, same, must, must_be, Reader, made, many, parse_at, parses, parse_choice, parse, value_of}
use Rattle.model.proofs.Laws.ValueFiles.{same_eq, same_refl}
use Rattle.model.specs.Faults.{chooses, is_kind, fault, types, payload_types, children, verdict}

-- what is read, and then the verdict on the records behind it
abbrev then : {A : Type 0} → Outcome (A × List Rec) → List Ty → Outcome (Unit {0})
then o due = o >>= λ x. verdict due x.1

-- a reader whose number is found record by record, where these types are due first
abbrev Told : {A : Type 0} → List Ty → Reader A → Type 0
Told ts f = (due : List Ty) (rs : List Rec) → verdict (ts ++ due) rs ≡ then (f rs) due

made_then : {A B : Type 0} (f : A → B) (o : Outcome (A × List Rec)) (due : List Ty) → then (made f o) due ≡ then o due
made_then f (done x) due = refl
made_then f (refused n) due = refl

both_then : {A B C : Type 0} (c : A → B → C) (o : Outcome (A × List Rec)) (g : Reader B) (ts due : List Ty) → Told ts g → then o (ts ++ due) ≡ then {A = C} (o >>= λ x. made (c x.0) (g x.1)) due
both_then c (done x) g ts due k = k due x.1 ∙ sym (made_then (c x.0) (g x.1) due)
both_then c (refused n) g ts due k = refl

-- ONE RECORD

-- all but the integer is given; all but the number
but_integer : (r : Rec) (k n : ℕ) → same r (rec k 0 n r.integer) ≡ eqb r.kind k && eqb r.choice 0 && eqb r.n n
unfolding same
but_integer r k n = rw (eq-eqb r.integer r.integer refl) (and-true (eqb r.kind k && eqb r.choice 0 && eqb r.n n))

but_number : (r : Rec) (k : ℕ) → same r (rec k 0 r.n 0) ≡ eqb r.kind k && eqb r.choice 0 && eqb r.integer 0
unfolding same
but_number r k = rw (eq-eqb r.n r.n refl) (ap (λ b. b && eqb r.integer 0) (and-true (eqb r.kind k && eqb r.choice 0)))

-- a record of choice 0 or 1: one test of both, and then the choice
chosen : {A : Type 0} (k c d n i : Bool) (o q : Outcome A) → pick (k && c && n && i) o (must (k && d && n && i) >> q) ≡ (must (k && (c || d) && n && i) >> pick c o q)
chosen false c d n i o q = refl
chosen true true true true true o q = refl
chosen true true true true false o q = refl
chosen true true true false i o q = refl
chosen true true false true true o q = refl
chosen true true false true false o q = refl
chosen true true false false i o q = refl
chosen true false true n i o q = refl
chosen true false false n i o q = refl

-- VALUES, one after the other

-- a record, and then what it calls for
abbrev told_at : Ty → List Ty → Rec → List Rec → Outcome (Unit {0})
told_at t due r rs = fault t r >> verdict (children t r ++ due) rs

told_record : (t : Ty) → ((due : List Ty) (r : Rec) (rs : List Rec) → told_at t due r rs ≡ then (parse_at t r rs) due) → Told (t ∷ []) (parse t)
unfolding verdict
told_record t k due [] = refl
told_record t k due (r ∷ rs) = k due r rs

told_both : {A B C : Type 0} (c : A → B → C) (t : Ty) (ts : List Ty) (f : Reader A) (g : Reader B) → Told (t ∷ []) f → Told ts g → Told {A = C} (t ∷ ts) (λ rs. f rs >>= λ x. made (c x.0) (g x.1))
told_both c t ts f g j k due rs = j (ts ++ due) rs ∙ both_then c (f rs) g ts due k

told_many : (a : Ty) → Told (a ∷ []) (parse a) → (n : ℕ) → Told (replicate n a) (many (parse a) n)
told_many a k zero due rs = refl
told_many a k (suc n) due rs = told_both (λ x xs. x ∷ xs) a (replicate n a) (parse a) (many (parse a) n) k (told_many a k n) due rs

row_told : {A : Type 0} (n : ℕ) (b : Bool) (o : Outcome (A × List Rec)) (due : List Ty) (q : Outcome (Unit {0})) → q ≡ then o due → (refuse n b >> q) ≡ then (refuse n b >> o) due
row_told n true o due q k = refl
row_told n false o due q k = k

-- a record of one choice, and then the finer test and what is called for
form_told : {A : Type 0} (a c : Bool) (x : Outcome (Unit {0})) (o : Outcome (A × List Rec)) (due : List Ty) (z : Outcome (Unit {0})) → c ≡ a → (x >> z) ≡ then o due → ((must a >> x) >> z) ≡ then (must c >> o) due
form_told a c x o due z e k = rw e (go a)
  where
    go : (a : Bool) → ((must a >> x) >> z) ≡ then (must a >> o) due
    go false = refl
    go true = k

-- a record of choice 0 or 1, and then what its choice calls for
choice_told : {A : Type 0} (k : ℕ) (r : Rec) (o q : Outcome (A × List Rec)) (due : List Ty) (z : Bool → Outcome (Unit {0})) → z true ≡ then o due → z false ≡ then q due → (must (chooses k r) >> z (eqb r.choice 0)) ≡ then (pick (same r (rec k 0 0 0)) o (must_be r (rec k 1 0 0) >> q)) due
unfolding same
choice_told {A} k r o q due z e f =
    row_told not_one_value (not (chooses k r)) (pick (eqb r.choice 0) o q) due (z (eqb r.choice 0)) (go (eqb r.choice 0))
    ∙ ap (λ w. then {A = A} w due) (sym (chosen (eqb r.kind k) (eqb r.choice 0) (eqb r.choice 1) (eqb r.n 0) (eqb r.integer 0) o q))
  where
    go : (c : Bool) → z c ≡ then (pick c o q) due
    go true = e
    go false = f

mutual
  unfolding fault children verdict same parse_at

  told : (t : Ty) (due : List Ty) (r : Rec) (rs : List Rec) → told_at t due r rs ≡ then (parse_at t r rs) due
  told never due r rs = refl
  told bool due r rs = choice_told 1 r (done (false, rs)) (done (true, rs)) due (λ c. verdict due rs) refl refl
  told (uint w) due r rs = form_told _ _ _ _ due _ (but_integer r 2 w) (row_told integer_too_large (leb (2 ^ w) r.integer) (done (r.integer, rs)) due _ refl)
  told (either a b) due r rs = choice_told 3 r (made inl (parse a rs)) (made inr (parse b rs)) due (λ c. verdict (pick c a b ∷ due) rs) (told_record a (λ d r s. told a d r s) due rs ∙ sym (made_then inl (parse a rs) due)) (told_record b (λ d r s. told b d r s) due rs ∙ sym (made_then inr (parse b rs) due))
  told (option a) due r rs = choice_told 4 r (done (none, rs)) (made some (parse a rs)) due (λ c. verdict (pick c [] (a ∷ []) ++ due) rs) refl (told_record a (λ d r s. told a d r s) due rs ∙ sym (made_then some (parse a rs) due))
  told (tuple ts) due r rs = row_told not_one_value (not (same r (rec 5 0 (size ts) 0))) (parses ts rs) due _ (tolds ts due rs)
  told (array a n) due r rs = row_told not_one_value (not (same r (rec 6 0 n 0))) (many (parse a) n rs) due _ (told_many a (told_record a (λ d r s. told a d r s)) n due rs)
  told (list a e) due r rs = form_told _ _ _ _ due _ (but_number r 7) (row_told list_too_long (leb (2 ^ suc e) r.n) (many (parse a) r.n rs) due _ (told_many a (told_record a (λ d r s. told a d r s)) r.n due rs))
  told (enum vs) due r rs = form_told _ _ _ _ due _ (but_number r 8) (told_choice vs r.n due rs)

  tolds : (ts : Tys) → Told (types ts) (parses ts)
  tolds nil due rs = refl
  tolds (cons t ts) due rs = told_both (λ v vs. (v, vs)) t (types ts) (parse t) (parses ts) (told_record t (λ d r s. told t d r s)) (λ d s. tolds ts d s) due rs

  told_choice : (vs : Variants) (i : ℕ) (due : List Ty) (rs : List Rec) → (refuse not_one_value (leb (count vs) i) >> verdict (payload_types vs i ++ due) rs) ≡ then (parse_choice vs i rs) due
  told_choice (last ts) zero due rs = tolds ts due rs
  told_choice (last ts) (suc i) due rs = rw (le-leb 1 (suc i) (omega arith)) refl
  told_choice (more ts vs) zero due rs = rw (lt-leb (suc (count vs)) 0 (omega arith)) (tolds ts due rs ∙ sym (made_then inl (parses ts rs) due))
  told_choice (more ts vs) (suc i) due rs = rw (leb-suc-suc (count vs) i) (told_choice vs i due rs ∙ sym (made_then inr (parse_choice vs i rs) due))

-- THE FILE

nothing_behind : {A : Type 0} (o : Outcome (A × List Rec)) → then o [] ≡ (o >>= all_read not_one_value >>= λ v. done tt)
unfolding verdict
nothing_behind {A} (done x) = go x.0 x.1
  where
    go : (a : A) (rs : List Rec) → verdict [] rs ≡ (all_read not_one_value (a, rs) >>= λ v. done tt)
    go a [] = refl
    go a (r ∷ rs) = refl
nothing_behind (refused n) = refl

row_after : {A B : Type 0} (n : ℕ) (b : Bool) (o : Outcome A) (f : A → Outcome B) → (refuse n b >> o) >>= f ≡ (refuse n b >> (o >>= f))
row_after n true o f = refl
row_after n false o f = refl

-- a value file of the type is refused with 15 by its length, else with the number that is found record by record; where there is none, it is accepted
pub value_verdict : (t : Ty) (file : List ℕ) → (value_of t file >>= λ v. done tt) ≡ (refuse value_length (eqb (length file) 0 || not (eqb (length file % 36) 0)) >> verdict (t ∷ []) (map value_record (records 36 file)))
unfolding value_of
value_verdict t file =
    let rs = map value_record (records 36 file) in
    let bad = eqb (length file) 0 || not (eqb (length file % 36) 0) in
    row_after value_length bad (parse t rs >>= all_read not_one_value) (λ v. done tt)
    ∙ ap (λ o. refuse value_length bad >> o) (sym (told_record t (told t) [] rs ∙ nothing_behind (parse t rs)))

-- WHAT EACH NUMBER TELLS: 21 and 22 exactly what they say, 16 every other fault. So the three exclude each other.

-- the record is as a UInt's of the type's width should be, but its integer is too large
pub record Large (t : Ty) (r : Rec) : Type 0 where
  pub width : ℕ
  pub type : t ≡ uint width
  pub form : r ≡ rec 2 0 width r.integer
  pub large : 2 ^ width ≤ r.integer

-- the record is as a List's should be, but its length is not below the bound
pub record Long (t : Ty) (r : Rec) : Type 0 where
  pub element : Ty
  pub exponent : ℕ
  pub type : t ≡ list element exponent
  pub form : r ≡ rec 7 0 r.n 0
  pub long : 2 ^ suc exponent ≤ r.n

abbrev pub Tells : Ty → Rec → ℕ → Type 0
Tells t r n = (n ≡ not_one_value) ⊎ ((n ≡ integer_too_large) × Large t r) ⊎ ((n ≡ list_too_long) × Long t r)

as_itself : (r s : Rec) → r ≡ s → same r s ≡ true
as_itself r s e = ap (same r) (sym e) ∙ same_refl r

by_row : {P : Type 0} (m : ℕ) (b : Bool) (n : ℕ) → refuse m b ≡ refused n → (n ≡ m → b ≡ true → P) → P
by_row m true n h k = let e : n ≡ m = cc in k e refl
by_row m false n h k = absurd (let z : ◌≡◌ {A = ℕ} 0 1 = cc in omega arith)

by_form : {t : Ty} {r : Rec} (b : Bool) (o : Outcome (Unit {0})) (n : ℕ) → (must b >> o) ≡ refused n → (b ≡ true → o ≡ refused n → Tells t r n) → Tells t r n
by_form true o n h k = k refl h
by_form false o n h k = inl cc

pub fault_tells : (t : Ty) (r : Rec) (n : ℕ) → fault t r ≡ refused n → Tells t r n
unfolding fault same
fault_tells never r n h = inl cc
fault_tells bool r n h = by_row not_one_value (not (chooses 1 r)) n h (λ e b. inl e)
fault_tells (uint w) r n h = by_form (is_kind 2 r && eqb r.n w) (refuse integer_too_large (leb (2 ^ w) r.integer)) n h (λ f k. by_row integer_too_large (leb (2 ^ w) r.integer) n k (λ e b. inr (inl (e, record { width = w; type = refl; form = same_eq r (rec 2 0 w r.integer) (but_integer r 2 w ∙ f); large = leb-true (2 ^ w) r.integer b }))))
fault_tells (either a b) r n h = by_row not_one_value (not (chooses 3 r)) n h (λ e b. inl e)
fault_tells (option a) r n h = by_row not_one_value (not (chooses 4 r)) n h (λ e b. inl e)
fault_tells (tuple ts) r n h = by_row not_one_value (not (same r (rec 5 0 (size ts) 0))) n h (λ e b. inl e)
fault_tells (array a k) r n h = by_row not_one_value (not (same r (rec 6 0 k 0))) n h (λ e b. inl e)
fault_tells (list a e) r n h = by_form (is_kind 7 r && eqb r.integer 0) (refuse list_too_long (leb (2 ^ suc e) r.n)) n h (λ f k. by_row list_too_long (leb (2 ^ suc e) r.n) n k (λ i b. inr (inr (i, record { element = a; exponent = e; type = refl; form = same_eq r (rec 7 0 r.n 0) (but_number r 7 ∙ f); long = leb-true (2 ^ suc e) r.n b }))))
fault_tells (enum vs) r n h = by_form (is_kind 8 r && eqb r.integer 0) (refuse not_one_value (leb (count vs) r.n)) n h (λ f k. by_row not_one_value (leb (count vs) r.n) n k (λ e b. inl e))

pub fault_large : (t : Ty) (r : Rec) → Large t r → fault t r ≡ refused integer_too_large
unfolding fault
fault_large t r l = rw (l.type, sym (but_integer r 2 l.width) ∙ as_itself r (rec 2 0 l.width r.integer) l.form, le-leb (2 ^ l.width) r.integer l.large) refl

pub fault_long : (t : Ty) (r : Rec) → Long t r → fault t r ≡ refused list_too_long
unfolding fault
fault_long t r l = rw (l.type, sym (but_number r 7) ∙ as_itself r (rec 7 0 r.n 0) l.form, le-leb (2 ^ suc l.exponent) r.n l.long) refl
