-- The value file of 01 by positions and by the model's reader: what the check answers is what `value_of` reads, with the length of the shape.
-- The reader takes records from the front of a list, the check stands at a record: what the reader has left after e records is the list dropped by e.
use Rattle.std.specs.Prelude.{◌≡◌, Bool, not, ◌&&◌, ◌||◌, leb, take, get_or, Some, None, Result, Ok, Err}
use Rattle.std.proofs.Math.Path.{refl, sym, ap}
use Rattle.std.proofs.Common.{ap₂, ◌∙◌, inl, inr, zero-add, add-zero, add-one, drop_of_length-le, drop-cons, drop-drop, get_or-take, get_or-drop}
use mathlib.Core.List.{List, [], ◌∷◌, map}
use Rattle.std.proofs.Math.Bool.{true, false}
use Rattle.std.proofs.Math.Option.{none, some}
use Prim.Native.Nat.{ℕ, zero, suc, ◌+◌, ◌*◌, ◌/◌, ◌%◌, ◌^◌, ◌<◌, ◌≤◌}
use native.Mathlib.Omega.{arith}
use Rattle.std.proofs.Math.Dec.{ltb, eqb}
use Rattle.std.proofs.Math.ListN.{length, drop}
use Rattle.std.proofs.lemmas.List.{length-map}
use borrow.Author.Tests.{ltb-true, ltb-false, lt-ltb, le-ltb, lt-leb, le-leb, eqb-true, eqb-false, eq-eqb, ne_eqb}
use Rattle.reply.specs.declared.Refusal.{Refusal}
use Rattle.reply.specs.declared.Refusal.TheVariants.{ValueLength, NotOneValue, IntegerTooLarge, ListTooLong}
use Rattle.reply.specs.Numbers.{refusal_number}
use Rattle.model.specs.Numbers.{value_length, not_one_value, integer_too_large, list_too_long, most_shape_records}
use Rattle.model.specs.Outcome.{Outcome, done, refused, ◌>>=◌, ◌>>◌, refuse, all_read}
use Rattle.model.specs.ShapeFiles.{shape_file}
use Rattle.model.specs.Options.{pick}
use Rattle.model.specs.Bytes.{records, number, to_bits}
use Rattle.model.specs.ValueFiles.{Rec, rec, value_record, same, must_be, made, on_record, many, parse_at, parses, parse_choice, parse, value_of}
use Rattle.model.proofs.Laws.Records.{drop_take, length_cut, cut_at}
use Rattle.value.specs.Record.{starts, number_at, integer_bytes, below, choice_at, count_at}
use Rattle.value.specs.Lengths.{add, joints, blocks, tags}
use Rattle.value.specs.Check.{wrong, side, says, next, run, check, checks, check_case, whole, file_answer}
use Rattle.value.specs.Sizes.{shape_size, sizes, size_tuple, size_left_of, size_right_of, add_integer, add_list, add_enum}
use Rattle.model.specs.Structural.{SValue, shape_records, type_records, tuple_of, partition, enum_injection}
use Rattle.model.specs.Balanced.{btree}
use Rattle.model.proofs.Laws.Shapes.{length_injects, inject_belongs}
use Rattle.model.proofs.Laws.ValueFiles.{parse_sound, parse_choice_sound}
use Rattle.model.proofs.Laws.Outcome.{done_injective, outcome_step, outcome_made, refuse_step, whole_read}
use Rattle.model.proofs.Laws.Sizes as model_sizes
use Rattle.model.specs.Lowering.{lower}
use Rattle.model.specs.Types.{Ty, Tys, Variants, never, bool, uint, either, option, tuple, array, list, enum, nil, cons, last, more, size, count}
use Rattle.model.specs.Values.{Value, Values, Choice, inject, injects, index, payload, bit}
use Rattle.table.specs.Facts as table

-- THE RECORDS BY THEIR PLACE

abbrev pub rows : List ℕ → List Rec
rows s = map value_record (records 36 s)

abbrev pub row : List ℕ → ℕ → Rec
row s v = rec (get_or s (v * 36) 0) (get_or s (v * 36 + 1) 0) (get_or s (v * 36 + 2) 0 * 256 + get_or s (v * 36 + 3) 0) (number (take 32 (drop (v * 36 + 4) s)))

pub length_rows : (s : List ℕ) → length (rows s) ≡ length s / 36
length_rows s = length-map (records 36 s) value_record ∙ length_cut 36 (length s / 36) s

row_bytes : (s : List ℕ) (v : ℕ) → value_record (take 36 (drop (v * 36) s)) ≡ row s v
row_bytes s v = λ i. record { kind = (byte 0 (omega arith) ∙ ap (λ n. get_or s n 0) (add-zero (v * 36))) i; choice = byte 1 (omega arith) i; n = byte 2 (omega arith) i * 256 + byte 3 (omega arith) i; integer = number (integer i) }
  where
    byte : (j : ℕ) → j < 36 → get_or (take 36 (drop (v * 36) s)) j 0 ≡ get_or s (v * 36 + j) 0
    byte j h = get_or-take 36 (drop (v * 36) s) j 0 h ∙ get_or-drop (v * 36) s j 0

    integer : drop 4 (take 36 (drop (v * 36) s)) ≡ take 32 (drop (v * 36 + 4) s)
    integer = drop_take 4 32 (drop (v * 36) s) ∙ ap (take 32) (drop-drop 4 (v * 36) s)

pub rows_end : (s : List ℕ) (v : ℕ) → length s / 36 ≤ v → drop v (rows s) ≡ []
rows_end s v h = let l : length (rows s) ≤ v = omega (arith, length_rows s) in drop_of_length-le (rows s) l

pub rows_at : (s : List ℕ) (v : ℕ) → v < length s / 36 → drop v (rows s) ≡ row s v ∷ drop (v + 1) (rows s)
rows_at s v h =
    drop-cons (rows s) v (row s v) (omega (arith, length_rows s))
    ∙ ap₂ {C = List Rec} (λ r n. r ∷ drop n (rows s)) (cut_at 36 value_record (length s / 36) v s (row s v) h ∙ row_bytes s v) (sym (add-one v))

-- WHAT IS READ, AND WHAT THE CHECK ANSWERS: with k records of the shape before it

abbrev total : {A : Type 0} → (A → ℕ) → List A → ℕ
total f [] = 0
total f (x ∷ xs) = f x + total f xs

data Agree {A : Type 0} (s : List ℕ) (size : A → ℕ) : Outcome (A × List Rec) → (ℕ → Result (ℕ × ℕ) Refusal) → Type 0 where
  fails : {n : ℕ} {c : ℕ → (Result (ℕ × ℕ) Refusal)} (x : Refusal) → refusal_number x ≡ n → ((k : ℕ) → c (table.cut k) ≡ Err x) → Agree s size (refused n) c
  goes : {c : ℕ → (Result (ℕ × ℕ) Refusal)} {x : A × List Rec} (e : ℕ) → e ≤ length s / 36 → x.1 ≡ drop e (rows s) → ((k : ℕ) → c (table.cut k) ≡ Ok (e, (table.cut (k + size x.0)))) → Agree s size (done x) c

add_own : (k own : ℕ) → add (table.cut k) own ≡ table.cut (k + own)
unfolding add
add_own k own = omega arith

module _ (s : List ℕ) where
  -- a part with own records before it
  made_agree : {A B : Type 0} (f : A → B) (own : ℕ) (sA : A → ℕ) (sB : B → ℕ) → ((x : A) → own + sA x ≡ sB (f x)) → (o : Outcome (A × List Rec)) (c : ℕ → Result (ℕ × ℕ) Refusal) → Agree s sA o c → Agree s sB (made f o) (λ k. c (add k own))
  made_agree f own sA sB h o c (fails x q p) = fails x q (λ k. ap c (add_own k own) ∙ p (k + own))
  made_agree f own sA sB h o c (goes {x = x} e l r p) = goes {x = (f x.0, x.1)} e l r (λ k. ap c (add_own k own) ∙ p (k + own) ∙ ap (λ n. Ok (e, (table.cut n))) (omega (arith, h x.0)))

  -- a part and what follows it
  then_agree : {A B C : Type 0} (f : A → B → C) (sA : A → ℕ) (sB : B → ℕ) (sC : C → ℕ) → ((x : A) (y : B) → sA x + sB y ≡ sC (f x y)) → (g : List Rec → Outcome (B × List Rec)) (h : ℕ → ℕ → Result (ℕ × ℕ) Refusal) → ((e : ℕ) → e ≤ length s / 36 → Agree s sB (g (drop e (rows s))) (h e))
      → (o : Outcome (A × List Rec)) (c : ℕ → Result (ℕ × ℕ) Refusal) → Agree s sA o c → Agree s sC (o >>= λ x. made (λ y. f x.0 y) (g x.1)) (λ k. next (c k) h)
  unfolding next
  then_agree f sA sB sC q g h i o c (fails x z p) = fails x z (λ k. ap (λ z. next z h) (p k))
  then_agree {A} {B} {C} f sA sB sC q g h i o c (goes {x = x} e l r p) = rw r (last (g (drop e (rows s))) (h e) (i e l) (λ k. ap (λ z. next z h) (p k)))
    where
      last : (u : Outcome (B × List Rec)) (d : ℕ → Result (ℕ × ℕ) Refusal) → Agree s sB u d → ((k : ℕ) → next (c (table.cut k)) h ≡ d (table.cut (k + sA x.0))) → Agree s sC (made (λ y. f x.0 y) u) (λ k. next (c k) h)
      last u d (fails y z w) j = fails y z (λ k. j k ∙ w (k + sA x.0))
      last u d (goes {x = y} e l r w) j = goes {x = (f x.0 y.0, y.1)} e l r (λ k. j k ∙ w (k + sA x.0) ∙ ap (λ n. Ok (e, (table.cut n))) (omega (arith, q x.0 y.0)))

  -- n values of one type
  many_agree : {A : Type 0} (sA : A → ℕ) (g : List Rec → Outcome (A × List Rec)) (f : ℕ → ℕ → Result (ℕ × ℕ) Refusal) → ((v : ℕ) → Agree s sA (g (drop v (rows s))) (f v)) → (n v : ℕ) → v ≤ length s / 36 → Agree s (total sA) (many g n (drop v (rows s))) (run f n v)
  unfolding run
  many_agree sA g f h zero v l = goes {x = ([], drop v (rows s))} v l refl (λ k. ap (λ n. Ok (v, (table.cut n))) (sym (add-zero k)))
  many_agree sA g f h (suc n) v l = then_agree (λ x xs. x ∷ xs) sA (total sA) (total sA) (λ x xs. refl) (many g n) (run f n) (λ e m. many_agree sA g f h n e m) (g (drop v (rows s))) (f v) (h v)

  -- THE TESTS OF A RECORD

  starts_not : (v k c : ℕ) → length s / 36 ≤ v → starts s v k c ≡ false
  unfolding starts
  starts_not v k c h = rw (le-ltb v (length s / 36) h)

  starts_is : (v k c : ℕ) → v < length s / 36 → starts s v k c ≡ eqb (row s v).kind k && eqb (row s v).choice c
  unfolding starts
  starts_is v k c h = rw (lt-ltb v (length s / 36) h) (go (eqb (get_or s (v * 36) 0) k) (eqb (get_or s (v * 36 + 1) 0) c))
    where
      go : (a b : Bool) → pick a b false ≡ a && b
      go true b = refl
      go false b = refl

  below_zero : (v : ℕ) → below s v 0 ≡ eqb (row s v).integer 0
  unfolding below integer_bytes
  below_zero v = go (number (take 32 (drop (v * 36 + 4) s)))
    where
      go : (n : ℕ) → ltb n (2 ^ 0) ≡ eqb n 0
      go zero = lt-ltb 0 (2 ^ 0) (omega arith)
      go (suc n) = le-ltb (suc n) (2 ^ 0) (omega arith) ∙ sym (ne_eqb (suc n) 0 (λ z. omega arith))

  -- the record by its choice
  choice_agree : {A : Type 0} (size : A → ℕ) (v i : ℕ) (P Q : List Rec → Outcome (A × List Rec)) (c d : ℕ → Result (ℕ × ℕ) Refusal) → (v < length s / 36 → Agree s size (P (drop (v + 1) (rows s))) c) → (v < length s / 36 → Agree s size (Q (drop (v + 1) (rows s))) d)
      → Agree s size (on_record (λ r rs. pick (same r (rec i 0 0 0)) (P rs) (must_be r (rec i 1 0 0) >> Q rs)) (drop v (rows s))) (λ k. side (choice_at s v i) (c k) (d k))
  unfolding side choice_at same number_at
  choice_agree {A} size v i P Q c d p q = place (ltb v (length s / 36)) refl
    where
      go : v < length s / 36 → (a x y n z : Bool) → Agree s size (pick (a && x && n && z) (P (drop (v + 1) (rows s))) (refuse not_one_value (not (a && y && n && z)) >> Q (drop (v + 1) (rows s)))) (λ k. side (pick (a && x) (pick n (pick z (Some false) None) None) (pick (a && y) (pick n (pick z (Some true) None) None) None)) (c k) (d k))
      go l false x y n z = fails NotOneValue refl (λ k. refl)
      go l true true y true true = p l
      go l true true true true false = fails NotOneValue refl (λ k. refl)
      go l true true false true false = fails NotOneValue refl (λ k. refl)
      go l true true true false z = fails NotOneValue refl (λ k. refl)
      go l true true false false z = fails NotOneValue refl (λ k. refl)
      go l true false true true true = q l
      go l true false true true false = fails NotOneValue refl (λ k. refl)
      go l true false true false z = fails NotOneValue refl (λ k. refl)
      go l true false false n z = fails NotOneValue refl (λ k. refl)

      place : (b : Bool) → ltb v (length s / 36) ≡ b → Agree s size (on_record (λ r rs. pick (same r (rec i 0 0 0)) (P rs) (must_be r (rec i 1 0 0) >> Q rs)) (drop v (rows s))) (λ k. side (choice_at s v i) (c k) (d k))
      place true h = let l = ltb-true v (length s / 36) h in rw (rows_at s v l, starts_is v i 0 l, starts_is v i 1 l, below_zero v) (go l (eqb (row s v).kind i) (eqb (row s v).choice 0) (eqb (row s v).choice 1) (eqb (row s v).n 0) (eqb (row s v).integer 0))
      place false h = let l = ltb-false v (length s / 36) h in rw (rows_end s v l, starts_not v i 0 l, starts_not v i 1 l) (fails NotOneValue refl (λ k. refl))

  -- the record by its number
  count_agree : {A : Type 0} (size : A → ℕ) (v i : ℕ) (P : ℕ → List Rec → Outcome (A × List Rec)) (c : ℕ → ℕ → Result (ℕ × ℕ) Refusal) → ((m : ℕ) → v < length s / 36 → Agree s size (P m (drop (v + 1) (rows s))) (c m))
      → Agree s size (on_record (λ r rs. must_be r (rec i 0 r.n 0) >> P r.n rs) (drop v (rows s))) (λ k. says (count_at s v i) (λ m. c m k))
  unfolding says count_at same number_at
  count_agree {A} size v i P c p = place (ltb v (length s / 36)) refl
    where
      go : v < length s / 36 → (a x z : Bool) (m : ℕ) → Agree s size (refuse not_one_value (not (a && x && true && z)) >> P m (drop (v + 1) (rows s))) (λ k. says (pick (a && x) (pick z (Some m) None) None) (λ m. c m k))
      go l false x z m = fails NotOneValue refl (λ k. refl)
      go l true true true m = p m l
      go l true true false m = fails NotOneValue refl (λ k. refl)
      go l true false z m = fails NotOneValue refl (λ k. refl)

      place : (b : Bool) → ltb v (length s / 36) ≡ b → Agree s size (on_record (λ r rs. must_be r (rec i 0 r.n 0) >> P r.n rs) (drop v (rows s))) (λ k. says (count_at s v i) (λ m. c m k))
      place true h = let l = ltb-true v (length s / 36) h in rw (rows_at s v l, starts_is v i 0 l, below_zero v, eq-eqb (row s v).n (row s v).n refl) (go l (eqb (row s v).kind i) (eqb (row s v).choice 0) (eqb (row s v).integer 0) (row s v).n)
      place false h = let l = ltb-false v (length s / 36) h in rw (rows_end s v l, starts_not v i 0 l) (fails NotOneValue refl (λ k. refl))

  -- a record with a certain number is one with its own number, if that is it
  same_n : (i n : ℕ) (r : Rec) → same r (rec i 0 n 0) ≡ same r (rec i 0 r.n 0) && eqb r.n n
  unfolding same
  same_n i n r = rw (eq-eqb r.n r.n refl) (go (eqb r.kind i && eqb r.choice 0) (eqb r.n n) (eqb r.integer 0))
    where
      go : (a b c : Bool) → a && b && c ≡ a && true && c && b
      go true true true = refl
      go true true false = refl
      go true false true = refl
      go true false false = refl
      go false b c = refl

  refuse_both : {A : Type 0} (n : ℕ) (a b : Bool) (o : Outcome A) → (refuse n (not (a && b)) >> o) ≡ (refuse n (not a) >> (refuse n (not b) >> o))
  refuse_both n true b o = refl
  refuse_both n false b o = refl

  -- a test, and the row where it does not hold
  test_agree : {A : Type 0} (size : A → ℕ) (x : Refusal) (b : Bool) (o : Outcome (A × List Rec)) (c : ℕ → Result (ℕ × ℕ) Refusal) → (b ≡ true → Agree s size o c) → Agree s size (refuse (refusal_number x) (not b) >> o) (λ k. pick b (c k) (Err x))
  test_agree size x true o c p = p refl
  test_agree size x false o c p = fails x refl (λ k. refl)

  not_below : (m n : ℕ) → leb n m ≡ not (ltb m n)
  not_below m n = go (ltb m n) refl
    where
      go : (b : Bool) → ltb m n ≡ b → leb n m ≡ not b
      go true h = lt-leb n m (ltb-true m n h)
      go false h = le-leb n m (ltb-false m n h)

  on_same : {A : Type 0} (f g : Rec → List Rec → Outcome (A × List Rec)) → ((r : Rec) (rs : List Rec) → f r rs ≡ g r rs) → (l : List Rec) → on_record f l ≡ on_record g l
  on_same f g h [] = refl
  on_same f g h (r ∷ rs) = h r rs

  -- a tuple and an array: the number is the type's
  exact_agree : {A : Type 0} (size : A → ℕ) (v i n : ℕ) (P : List Rec → Outcome (A × List Rec)) (c : ℕ → Result (ℕ × ℕ) Refusal) → (v < length s / 36 → Agree s size (P (drop (v + 1) (rows s))) c)
      → Agree s size (on_record (λ r rs. must_be r (rec i 0 n 0) >> P rs) (drop v (rows s))) (λ k. says (count_at s v i) (λ m. pick (eqb m n) (c k) wrong))
  exact_agree size v i n P c p =
      rw (on_same (λ r rs. must_be r (rec i 0 n 0) >> P rs) (λ r rs. must_be r (rec i 0 r.n 0) >> (refuse not_one_value (not (eqb r.n n)) >> P rs)) (λ r rs. ap (λ b. refuse not_one_value (not b) >> P rs) (same_n i n r) ∙ refuse_both not_one_value (same r (rec i 0 r.n 0)) (eqb r.n n) (P rs)) (drop v (rows s)))
      (count_agree size v i (λ m rs. refuse not_one_value (not (eqb m n)) >> P rs) (λ m k. pick (eqb m n) (c k) wrong) (λ m l. test_agree size NotOneValue (eqb m n) (P (drop (v + 1) (rows s))) c (λ e. p l)))

  -- a list: the number is below the bound
  below_agree : {A : Type 0} (size : A → ℕ) (v i n : ℕ) (P : ℕ → List Rec → Outcome (A × List Rec)) (c : ℕ → ℕ → Result (ℕ × ℕ) Refusal) → ((m : ℕ) → m < n → v < length s / 36 → Agree s size (P m (drop (v + 1) (rows s))) (c m))
      → Agree s size (on_record (λ r rs. must_be r (rec i 0 r.n 0) >> (refuse list_too_long (leb n r.n) >> P r.n rs)) (drop v (rows s))) (λ k. says (count_at s v i) (λ m. pick (ltb m n) (c m k) (Err ListTooLong)))
  below_agree size v i n P c p =
      count_agree size v i (λ m rs. refuse list_too_long (leb n m) >> P m rs) (λ m k. pick (ltb m n) (c m k) (Err ListTooLong))
      (λ m l. rw (not_below m n) (test_agree size ListTooLong (ltb m n) (P m (drop (v + 1) (rows s))) (c m) (λ e. p m (ltb-true m n e) l)))

  -- an integer
  uint_agree : (w v : ℕ) → Agree s (λ n. shape_size (inject (uint w) n)) (parse (uint w) (drop v (rows s))) (λ k. check (uint w) s v k)
  unfolding parse_at check inject same below number_at integer_bytes
  uint_agree w v = place (ltb v (length s / 36)) refl
    where
      go : v < length s / 36 → (a x n z : Bool) → Agree s (λ n. shape_size (inject (uint w) n)) (refuse not_one_value (not (a && x && n && true)) >> (refuse integer_too_large (not z) >> done ((row s v).integer, drop (v + 1) (rows s)))) (λ k. pick (a && x) (pick n (pick z (Ok ((v + 1), (add k (joints w + 2 * w)))) (Err IntegerTooLarge)) wrong) wrong)
      go l false x n z = fails NotOneValue refl (λ k. refl)
      go l true false n z = fails NotOneValue refl (λ k. refl)
      go l true true false z = fails NotOneValue refl (λ k. refl)
      go l true true true false = fails IntegerTooLarge refl (λ k. refl)
      go l true true true true = goes {x = ((row s v).integer, drop (v + 1) (rows s))} (v + 1) (omega arith) refl (λ k. ap (λ n. Ok ((v + 1), n)) (add_integer (table.cut k) w (row s v).integer ∙ add_own k (shape_size (tuple_of (map bit (to_bits w (row s v).integer))))))

      place : (b : Bool) → ltb v (length s / 36) ≡ b → Agree s (λ n. shape_size (inject (uint w) n)) (parse (uint w) (drop v (rows s))) (λ k. check (uint w) s v k)
      place true h = let l = ltb-true v (length s / 36) h in rw (rows_at s v l, starts_is v 2 0 l, eq-eqb (row s v).integer (row s v).integer refl, not_below (row s v).integer (2 ^ w)) (go l (eqb (row s v).kind 2) (eqb (row s v).choice 0) (eqb (row s v).n w) (ltb (row s v).integer (2 ^ w)))
      place false h = let l = ltb-false v (length s / 36) h in rw (rows_end s v l, starts_not v 2 0 l) (fails NotOneValue refl (λ k. refl))

  -- own records before what is read
  own_agree : {A : Type 0} (own : ℕ) (sA sB : A → ℕ) (o : Outcome (A × List Rec)) (c : ℕ → Result (ℕ × ℕ) Refusal) → ((x : A × List Rec) → o ≡ done x → (k : ℕ) → add k (own + sA x.0) ≡ add k (sB x.0)) → Agree s sA o c → Agree s sB o (λ k. c (add k own))
  unfolding add
  own_agree own sA sB o c h (fails x q p) = fails x q (λ k. ap c (add_own k own) ∙ p (k + own))
  own_agree own sA sB o c h (goes {x = x} e l r p) = goes {x = x} e l r (λ k. ap c (add_own k own) ∙ p (k + own) ∙ ap (λ n. Ok (e, n)) (ap table.cut (more k own (sA x.0)) ∙ h x refl k))
    where
      more : (a b c : ℕ) → a + b + c ≡ a + (b + c)
      more a b c = omega arith

  as_agree : {A B : Type 0} (f : A → B) (sA : A → ℕ) (sB : B → ℕ) → ((x : A) → sA x ≡ sB (f x)) → (o : Outcome (A × List Rec)) (c : ℕ → Result (ℕ × ℕ) Refusal) → Agree s sA o c → Agree s sB (made f o) c
  as_agree f sA sB h o c (fails x q p) = fails x q p
  as_agree f sA sB h o c (goes {x = x} e l r p) = goes {x = (f x.0, x.1)} e l r (λ k. p k ∙ ap (λ n. Ok (e, (table.cut (k + n)))) (h x.0))

  never_agree : (l : List Rec) → Agree s (λ x. shape_size (inject never x)) (parse never l) (λ k. wrong)
  unfolding parse_at
  never_agree [] = fails NotOneValue refl (λ k. refl)
  never_agree (r ∷ rs) = fails NotOneValue refl (λ k. refl)

  bit_agree : (b : Bool) (v : ℕ) → v < length s / 36 → Agree s (λ x. shape_size (inject bool x)) (done (b, drop (v + 1) (rows s))) (λ k. Ok ((v + 1), (add k 2)))
  unfolding inject shape_size shape_records
  bit_agree true v l = goes {x = (true, drop (v + 1) (rows s))} (v + 1) (omega arith) refl (λ k. ap (λ n. Ok ((v + 1), n)) (add_own k 2))
  bit_agree false v l = goes {x = (false, drop (v + 1) (rows s))} (v + 1) (omega arith) refl (λ k. ap (λ n. Ok ((v + 1), n)) (add_own k 2))

  none_agree : (a : Ty) (v : ℕ) → v < length s / 36 → Agree s (λ x. shape_size (inject (option a) x)) (done (none, drop (v + 1) (rows s))) (λ k. Ok ((v + 1), (add k 2)))
  unfolding inject shape_size shape_records
  none_agree a v l = goes {x = (none, drop (v + 1) (rows s))} (v + 1) (omega arith) refl (λ k. ap (λ n. Ok ((v + 1), n)) (add_own k 2))

length_many : {A : Type 0} (g : List Rec → Outcome (A × List Rec)) (n : ℕ) (rs : List Rec) (x : List A × List Rec) → many g n rs ≡ done x → length x.0 ≡ n
length_many g zero rs x h = sym (ap (λ z. length z.0) (done_injective ([], rs) x h))
length_many g (suc n) rs x h =
    let (a, p, q) = outcome_step (g rs) (λ y. made (λ ys. y.0 ∷ ys) (many g n y.1)) x h in
    let (b, u, w) = outcome_made (many g n a.1) (λ z. (a.0 ∷ z.0, z.1)) x q in
    sym (ap (λ z. length z.0) w) ∙ ap suc (length_many g n a.1 b u)

total_sizes : {A : Type 0} (f : A → SValue) (xs : List A) → total (λ x. shape_size (f x)) xs ≡ sizes (map f xs)
unfolding sizes
total_sizes f [] = refl
total_sizes f (x ∷ xs) = ap (λ n. shape_size (f x) + n) (total_sizes f xs)

-- THE TYPES

next_in : (s : List ℕ) (v : ℕ) → v < length s / 36 → v + 1 ≤ length s / 36
next_in s v l = omega arith

one_more : (n : ℕ) → 1 + n ≡ suc n
one_more n = omega arith

tuple_own : (ts : Tys) (x : Values ts) (k : ℕ) → add k (joints (size ts) + sizes (injects ts x)) ≡ add k (shape_size (tuple_of (injects ts x)))
tuple_own ts x k = ap (add k) (ap (λ n. joints n + sizes (injects ts x)) (sym (length_injects ts x)) ∙ sym (size_tuple (injects ts x)))

array_own : (a : Ty) (n : ℕ) (xs : List (Value a)) (k : ℕ) → length xs ≡ n → add k (joints n + total (λ x. shape_size (inject a x)) xs) ≡ add k (shape_size (tuple_of (map (λ x. inject a x) xs)))
array_own a n xs k h = ap (add k) (ap₂ (λ m j. joints m + j) (sym h ∙ sym (length-map xs (λ x. inject a x))) (total_sizes (λ x. inject a x) xs) ∙ sym (size_tuple (map (λ x. inject a x) xs)))

list_own : (a : Ty) (e m : ℕ) (xs : List (Value a)) (k : ℕ) → length xs ≡ m → m < 2 ^ suc e → add k (blocks e m 0 + total (λ x. shape_size (inject a x)) xs) ≡ add k (shape_size (partition e (map (λ x. inject a x) xs)))
list_own a e m xs k h l =
    let q : length (map (λ x. inject a x) xs) ≡ m = length-map xs (λ x. inject a x) ∙ h in
    ap (add k) (ap₂ (λ m j. blocks e m 0 + j) (sym q) (total_sizes (λ x. inject a x) xs)) ∙ add_list k e (map (λ x. inject a x) xs) (omega (arith, q))

enum_own : (vs : Variants) (i : ℕ) (rs : List Rec) (x : Choice vs × List Rec) (k : ℕ) → parse_choice vs i rs ≡ done x → add k (tags (btree (count vs)) i 0 + shape_size (payload vs x.0)) ≡ add k (shape_size (enum_injection (btree (count vs)) (index vs x.0) (payload vs x.0)))
enum_own vs i rs x k h =
    let q : index vs x.0 ≡ i = (parse_choice_sound vs i rs x h).valid.1 in
    add_enum k i (btree (count vs)) (payload vs x.0) ∙ ap (λ j. add k (shape_size (enum_injection (btree (count vs)) j (payload vs x.0)))) (sym q)

mutual
  unfolding parse_at check inject sizes

  value_agree : (s : List ℕ) (t : Ty) (v : ℕ) → Agree s (λ x. shape_size (inject t x)) (parse t (drop v (rows s))) (λ k. check t s v k)
  value_agree s never v = never_agree s (drop v (rows s))
  value_agree s bool v = choice_agree s (λ x. shape_size (inject bool x)) v 1 (λ rs. done (false, rs)) (λ rs. done (true, rs)) (λ k. Ok ((v + 1), (add k 2))) (λ k. Ok ((v + 1), (add k 2))) (bit_agree s false v) (bit_agree s true v)
  value_agree s (uint w) v = uint_agree s w v
  value_agree s (either a b) v =
      choice_agree s {A = Value (either a b)} (λ x. shape_size (inject (either a b) x)) v 3 (λ rs. made inl (parse a rs)) (λ rs. made inr (parse b rs)) (λ k. check a s (v + 1) (add k 1)) (λ k. check b s (v + 1) (add k 1))
      (λ l. made_agree s {A = Value a} {B = Value (either a b)} inl 1 (λ x. shape_size (inject a x)) (λ x. shape_size (inject (either a b) x)) (λ x. one_more (shape_size (inject a x)) ∙ sym (size_left_of (inject a x))) (parse a (drop (v + 1) (rows s))) (λ k. check a s (v + 1) k) (value_agree s a (v + 1)))
      (λ l. made_agree s {A = Value b} {B = Value (either a b)} inr 1 (λ x. shape_size (inject b x)) (λ x. shape_size (inject (either a b) x)) (λ x. one_more (shape_size (inject b x)) ∙ sym (size_right_of (inject b x))) (parse b (drop (v + 1) (rows s))) (λ k. check b s (v + 1) k) (value_agree s b (v + 1)))
  value_agree s (option a) v =
      choice_agree s {A = Value (option a)} (λ x. shape_size (inject (option a) x)) v 4 (λ rs. done (none, rs)) (λ rs. made some (parse a rs)) (λ k. Ok ((v + 1), (add k 2))) (λ k. check a s (v + 1) (add k 1))
      (none_agree s a v)
      (λ l. made_agree s {A = Value a} {B = Value (option a)} some 1 (λ x. shape_size (inject a x)) (λ x. shape_size (inject (option a) x)) (λ x. one_more (shape_size (inject a x)) ∙ sym (size_right_of (inject a x))) (parse a (drop (v + 1) (rows s))) (λ k. check a s (v + 1) k) (value_agree s a (v + 1)))
  value_agree s (tuple ts) v =
      exact_agree s {A = Values ts} (λ x. shape_size (tuple_of (injects ts x))) v 5 (size ts) (parses ts) (λ k. checks ts s (v + 1) (add k (joints (size ts))))
      (λ l. own_agree s {A = Values ts} (joints (size ts)) (λ x. sizes (injects ts x)) (λ x. shape_size (tuple_of (injects ts x))) (parses ts (drop (v + 1) (rows s))) (λ k. checks ts s (v + 1) k) (λ x h k. tuple_own ts x.0 k) (values_agree s ts (v + 1) (next_in s v l)))
  value_agree s (array a n) v =
      exact_agree s {A = List (Value a)} (λ x. shape_size (tuple_of (map (λ x. inject a x) x))) v 6 n (λ rs. many (parse a) n rs) (λ k. run (λ i j. check a s i j) n (v + 1) (add k (joints n)))
      (λ l. own_agree s {A = List (Value a)} (joints n) (total (λ x. shape_size (inject a x))) (λ x. shape_size (tuple_of (map (λ x. inject a x) x))) (many (parse a) n (drop (v + 1) (rows s))) (λ k. run (λ i j. check a s i j) n (v + 1) k) (λ x h k. array_own a n x.0 k (length_many (parse a) n (drop (v + 1) (rows s)) x h))
      (many_agree s {A = Value a} (λ x. shape_size (inject a x)) (parse a) (λ i j. check a s i j) (λ i. value_agree s a i) n (v + 1) (next_in s v l)))
  value_agree s (list a e) v =
      below_agree s {A = List (Value a)} (λ x. shape_size (partition e (map (λ x. inject a x) x))) v 7 (2 ^ suc e) (λ m rs. many (parse a) m rs) (λ m k. run (λ i j. check a s i j) m (v + 1) (add k (blocks e m 0)))
      (λ m b l. own_agree s {A = List (Value a)} (blocks e m 0) (total (λ x. shape_size (inject a x))) (λ x. shape_size (partition e (map (λ x. inject a x) x))) (many (parse a) m (drop (v + 1) (rows s))) (λ k. run (λ i j. check a s i j) m (v + 1) k) (λ x h k. list_own a e m x.0 k (length_many (parse a) m (drop (v + 1) (rows s)) x h) b)
      (many_agree s {A = Value a} (λ x. shape_size (inject a x)) (parse a) (λ i j. check a s i j) (λ i. value_agree s a i) m (v + 1) (next_in s v l)))
  value_agree s (enum vs) v =
      count_agree s {A = Choice vs} (λ x. shape_size (inject (enum vs) x)) v 8 (λ i rs. parse_choice vs i rs) (λ i k. check_case vs i s (v + 1) (add k (tags (btree (count vs)) i 0)))
      (λ i l. own_agree s {A = Choice vs} (tags (btree (count vs)) i 0) (λ x. shape_size (payload vs x)) (λ x. shape_size (inject (enum vs) x)) (parse_choice vs i (drop (v + 1) (rows s))) (λ k. check_case vs i s (v + 1) k) (λ x h k. enum_own vs i (drop (v + 1) (rows s)) x k h) (case_agree s vs i (v + 1) (next_in s v l)))

  values_agree : (s : List ℕ) (ts : Tys) (v : ℕ) → v ≤ length s / 36 → Agree s (λ x. sizes (injects ts x)) (parses ts (drop v (rows s))) (λ k. checks ts s v k)
  values_agree s nil v l = goes {x = (tt, drop v (rows s))} v l refl (λ k. ap (λ n. Ok (v, (table.cut n))) (sym (add-zero k)))
  values_agree s (cons t ts) v l =
      then_agree s {A = Value t} {B = Values ts} {C = Values (cons t ts)} (λ x xs. (x, xs)) (λ x. shape_size (inject t x)) (λ x. sizes (injects ts x)) (λ x. sizes (injects (cons t ts) x)) (λ x xs. refl) (parses ts) (λ e j. checks ts s e j) (λ e m. values_agree s ts e m) (parse t (drop v (rows s))) (λ k. check t s v k) (value_agree s t v)

  case_agree : (s : List ℕ) (vs : Variants) (i v : ℕ) → v ≤ length s / 36 → Agree s (λ x. shape_size (payload vs x)) (parse_choice vs i (drop v (rows s))) (λ k. check_case vs i s v k)
  case_agree s (last ts) zero v l = own_agree s {A = Values ts} (joints (size ts)) (λ x. sizes (injects ts x)) (λ x. shape_size (tuple_of (injects ts x))) (parses ts (drop v (rows s))) (λ k. checks ts s v k) (λ x h k. tuple_own ts x.0 k) (values_agree s ts v l)
  case_agree s (last ts) (suc i) v l = fails NotOneValue refl (λ k. refl)
  case_agree s (more ts vs) zero v l =
      as_agree s {A = Values ts} {B = Choice (more ts vs)} inl (λ x. shape_size (tuple_of (injects ts x))) (λ x. shape_size (payload (more ts vs) x)) (λ x. refl) (parses ts (drop v (rows s))) (λ k. checks ts s v (add k (joints (size ts))))
      (own_agree s {A = Values ts} (joints (size ts)) (λ x. sizes (injects ts x)) (λ x. shape_size (tuple_of (injects ts x))) (parses ts (drop v (rows s))) (λ k. checks ts s v k) (λ x h k. tuple_own ts x.0 k) (values_agree s ts v l))
  case_agree s (more ts vs) (suc i) v l =
      as_agree s {A = Choice vs} {B = Choice (more ts vs)} inr (λ x. shape_size (payload vs x)) (λ x. shape_size (payload (more ts vs) x)) (λ x. refl) (parse_choice vs i (drop v (rows s))) (λ k. check_case vs i s v k) (case_agree s vs i v l)

-- THE FILE

-- the answer about a value file: the records of the shape, or a number
abbrev pub outcome_of : Result (ℕ × ℕ) Refusal → Outcome ℕ
outcome_of (Ok (e, k)) = done k
outcome_of (Err x) = refused (refusal_number x)

module _ (s : List ℕ) where
  -- one value and nothing after it
  whole_is : {A : Type 0} (size : A → ℕ) (o : Outcome (A × List Rec)) (c : ℕ → Result (ℕ × ℕ) Refusal) → Agree s size o c → ((o >>= all_read not_one_value) >>= λ x. done (table.cut (size x))) ≡ outcome_of (whole (length s / 36) (c 0))
  unfolding whole
  whole_is size o c (fails x q p) = ap refused (sym q) ∙ ap (λ z. outcome_of (whole (length s / 36) z)) (sym (p 0))
  whole_is size o c (goes {x = x} e l r p) = go (eqb e (length s / 36)) refl ∙ ap (λ z. outcome_of (whole (length s / 36) z)) (sym (p 0))
    where
      go : (b : Bool) → eqb e (length s / 36) ≡ b → (all_read not_one_value x >>= λ x. done (table.cut (size x))) ≡ outcome_of (pick (eqb e (length s / 36)) (Ok (e, (table.cut (0 + size x.0)))) wrong)
      go true q = let h = eqb-true e (length s / 36) q in rw (q, r, rows_end s e (omega arith)) (ap (λ n. done (table.cut n)) (sym (zero-add (size x.0))))
      go false q = let h = eqb-false e (length s / 36) q in rw (q, r, rows_at s e (omega (arith, h)))

-- rows 15, 16, 21 and 22: the model reads a value file as the check does, and the check tells the length of the value's shape
pub value_of_is : (t : Ty) (s : List ℕ) → (value_of t s >>= λ v. done (table.cut (length (shape_file (inject t v))))) ≡ outcome_of (file_answer t s)
unfolding value_of file_answer shape_size
value_of_is t s = go (eqb (length s) 0) (eqb (length s % 36) 0)
  where
    go : (a b : Bool) → ((refuse value_length (a || not b) >> (parse t (rows s) >>= all_read not_one_value)) >>= λ v. done (table.cut (length (shape_file (inject t v))))) ≡ outcome_of (pick a (Err ValueLength) (pick b (whole (length s / 36) (check t s 0 0)) (Err ValueLength)))
    go true b = refl
    go false false = refl
    go false true = whole_is s (λ x. shape_size (inject t x)) (parse t (rows s)) (λ k. check t s 0 k) (value_agree s t 0)

-- what is read of a type that lowers to no more than 65,536 records has a shape of no more, so that nothing is cut
pub nothing_cut : (t : Ty) (s : List ℕ) (v : Value t) → length (type_records (lower t)) ≤ most_shape_records → value_of t s ≡ done v → table.cut (length (shape_file (inject t v))) ≡ length (shape_file (inject t v))
unfolding value_of
nothing_cut t s v h p =
    let (a, q) = refuse_step value_length (eqb (length s) 0 || not (eqb (length s % 36) 0)) (parse t (rows s) >>= all_read not_one_value) v p in
    let w = (parse_sound t (rows s) (v, []) (whole_read not_one_value (parse t (rows s)) v q)).valid in
    let l = model_sizes.shape_size (inject_belongs t v w) in
    let n = model_sizes.length_type_records (lower t) in
    omega arith
