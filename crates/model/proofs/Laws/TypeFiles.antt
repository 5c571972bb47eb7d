-- The two laws of type files: the file written for a type reads back as that type, and bytes that read as a type are the file written for it.
-- Allowed and depth say which types have a file: their numbers are those that a record can say, and their records stand no deeper than the limit.
-- Over records, the first law is an induction over the type, with the levels left at least its depth; the second one over the levels: a reader
-- that is sound for the children is sound for the record above them. From bytes to records and back it is four bytes to a record.
use Rattle.std.specs.Prelude.{◌≡◌, refl, Bool, true, false, ◌&&◌, ◌||◌, not, List, [], ◌∷◌, ◌++◌, map, ℕ, zero, suc, ◌+◌, ◌*◌, ◌/◌, ◌%◌, ◌^◌, ◌≤◌, ◌<◌, max, eqb, ltb, length, take, drop, get_or}
use Rattle.std.proofs.Common.{sym, ap, ap₂, subst, ◌∙◌, true≢false, append_assoc, append-nil, arith, eq-eqb, eqb-true, ne_eqb, ltb-false, le-ltb}
use Rattle.std.proofs.Math.Option.{some, none-ne-some, some-injective}
use Rattle.std.proofs.Math.Nat.{two-pow-succ, one-le-pow, pow-le-pow_right}
use Rattle.std.proofs.Math.Decide.{dec_le}
use Rattle.std.proofs.lemmas.Bool.{not-false}
use Rattle.model.specs.Numbers.{type_length, type_too_long, bad_record, too_deep, not_one_type, most_type_records, deepest}
use Rattle.model.specs.Outcome.{done, refused, ◌>>=◌, or_refuse, all_read}
use Rattle.model.specs.Options.{pick, when, one_of, find, flat_map, All}
use Rattle.model.specs.Bytes.{Bytes, cut, records}
use Rattle.model.specs.Types.{Ty, Tys, Variants, never, bool, uint, either, option, tuple, array, list, enum, nil, cons, last, more, size, count}
use Rattle.model.proofs.Laws.Options.{when_some, map_o_some}
use Rattle.model.proofs.Laws.Outcome.{refused_done, done_injective, outcome_step, refuse_step, or_refuse_done, all_read_done}
use Rattle.model.proofs.Laws.Records.{length_written, read_written, written_read, all_take, all_drop, two_of}
use Rattle.model.specs.TypeFiles.{TRec, type_record, Head, is_never, is_bool, is_either, is_option, is_uint, is_tuple, is_array, is_list, is_enum, widths, by_kind, head, variant_parts, Reader, made, read_types, read_variants, read_children, read_type, read_variant, type_of, trec, type_bytes, encode_type, encode_types, encode_variants, type_file}

-- WHAT A FILE CAN SAY

-- the numbers in a type are those that a file can say
abbrev mutual
  pub Allowed : Ty → Type 0
  Allowed never = Unit
  Allowed bool = Unit
  Allowed (uint w) = one_of w widths ≡ true
  Allowed (either a b) = Allowed a × Allowed b
  Allowed (option a) = Allowed a
  Allowed (tuple ts) = (size ts < 65536) × AllowedAll ts
  Allowed (array a n) = (n < 65536) × Allowed a
  Allowed (list a e) = (e < 15) × Allowed a
  Allowed (enum vs) = (count vs < 65536) × AllowedVariants vs

  pub AllowedAll : Tys → Type 0
  AllowedAll nil = Unit
  AllowedAll (cons t ts) = Allowed t × AllowedAll ts

  pub AllowedVariants : Variants → Type 0
  AllowedVariants (last ts) = (size ts < 65536) × AllowedAll ts
  AllowedVariants (more ts vs) = ((size ts < 65536) × AllowedAll ts) × AllowedVariants vs

-- the levels of a type's records: a leaf has one, a Variant is a level below its Enum
abbrev mutual
  pub depth : Ty → ℕ
  depth never = 1
  depth bool = 1
  depth (uint w) = 1
  depth (either a b) = suc (max (depth a) (depth b))
  depth (option a) = suc (depth a)
  depth (tuple ts) = suc (depths ts)
  depth (array a n) = suc (depth a)
  depth (list a e) = suc (depth a)
  depth (enum vs) = suc (variant_depth vs)

  pub depths : Tys → ℕ
  depths nil = 0
  depths (cons t ts) = max (depth t) (depths ts)

  pub variant_depth : Variants → ℕ
  variant_depth (last ts) = suc (depths ts)
  variant_depth (more ts vs) = max (suc (depths ts)) (variant_depth vs)

-- WHAT IS WRITTEN READS BACK

-- below a record there is one level less
below : (P : ℕ → Type 0) (d l : ℕ) → suc d ≤ l → ((k : ℕ) → d ≤ k → P (suc k)) → P l
below P d zero h f = absurd (omega arith)
below P d (suc k) h f = f k (omega arith)

two_pow_less : (i k : ℕ) → i < k → 2 ^ suc i < 2 ^ suc k
two_pow_less i k h = let m : 2 ^ suc (suc i) ≤ 2 ^ suc k = pow-le-pow_right (omega arith) (omega arith) in omega (arith, two-pow-succ (suc i), one-le-pow (suc i) 2 (omega arith))

find_bound : (fuel i k : ℕ) → i ≤ k → k < i + fuel → find (λ e. 2 ^ suc e) fuel i (2 ^ suc k) ≡ some k
find_bound zero i k h m = absurd (omega arith)
find_bound (suc fuel) i k h m = go (dec_le k i) (λ q. find_bound fuel (suc i) k q (omega arith))
  where
    go : Dec (k ≤ i) → (i < k → find (λ e. 2 ^ suc e) fuel (suc i) (2 ^ suc k) ≡ some k) → pick (eqb (2 ^ suc k) (2 ^ suc i)) (some i) (find (λ e. 2 ^ suc e) fuel (suc i) (2 ^ suc k)) ≡ some k
    go (yes q) rest = let e : k ≡ i = omega arith in rw (e, eq-eqb (2 ^ suc i) (2 ^ suc i) refl)
    go (no q) rest = rw (ne_eqb (2 ^ suc k) (2 ^ suc i) (λ e. omega (arith, two_pow_less i k (omega arith)))) (rest (omega arith))

-- an Enum's variants but one
abbrev others : Variants → ℕ
others (last ts) = 0
others (more ts vs) = suc (others vs)

count_others : (vs : Variants) → count vs ≡ suc (others vs)
count_others (last ts) = refl
count_others (more ts vs) = ap suc (count_others vs)

-- a type's records are read, whatever stands behind them
abbrev Reads : Ty → ℕ → Type 0
Reads t l = (rs : List TRec) → read_type l (encode_type t ++ rs) ≡ done (t, rs)

abbrev ReadsVariant : Tys → ℕ → Type 0
ReadsVariant ts l = (rs : List TRec) → read_variant l (trec 9 (size ts) ∷ encode_types ts ++ rs) ≡ done (ts, rs)

mutual
  unfolding read_type encode_type head variant_parts

  encoded_reads : (t : Ty) (l : ℕ) → Allowed t → depth t ≤ l → Reads t l
  encoded_reads never l a d = below (Reads never) 0 l d (λ k e rs. refl)
  encoded_reads bool l a d = below (Reads bool) 0 l d (λ k e rs. refl)
  encoded_reads (uint w) l a d = below (Reads (uint w)) 0 l d (λ k e rs. rw a)
  encoded_reads (either s t) l a d = below (Reads (either s t)) (max (depth s) (depth t)) l d (λ k e rs. rw (append_assoc (encode_type s) (encode_type t) rs, encoded_reads s k a.0 (omega arith) (encode_type t ++ rs), encoded_reads t k a.1 (omega arith) rs))
  encoded_reads (option t) l a d = below (Reads (option t)) (depth t) l d (λ k e rs. rw (encoded_reads t k a e rs))
  encoded_reads (tuple ts) l a d = below (Reads (tuple ts)) (depths ts) l d (λ k e rs. rw (encoded_types_read ts k a.1 e rs))
  encoded_reads (array t n) l a d = below (Reads (array t n)) (depth t) l d (λ k e rs. rw (encoded_reads t k a.1 e rs))
  encoded_reads (list t n) l a d = below (Reads (list t n)) (depth t) l d (λ k e rs. rw (find_bound 15 0 n (omega arith) (omega (arith, a.0)), encoded_reads t k a.1 e rs))
  encoded_reads (enum vs) l a d = below (Reads (enum vs)) (variant_depth vs) l d (λ k e rs. rw (count_others vs, encoded_variants_read vs k a.1 e rs))

  encoded_types_read : (ts : Tys) (l : ℕ) → AllowedAll ts → depths ts ≤ l → (rs : List TRec) → read_types (λ x. read_type l x) (size ts) (encode_types ts ++ rs) ≡ done (ts, rs)
  encoded_types_read nil l a d rs = refl
  encoded_types_read (cons t ts) l a d rs = rw (append_assoc (encode_type t) (encode_types ts) rs, encoded_reads t l a.0 (omega arith) (encode_types ts ++ rs), encoded_types_read ts l a.1 (omega arith) rs)

  encoded_variants_read : (vs : Variants) (l : ℕ) → AllowedVariants vs → variant_depth vs ≤ l → (rs : List TRec) → read_variants (λ x. read_variant l x) (others vs) (encode_variants vs ++ rs) ≡ done (vs, rs)
  encoded_variants_read (last ts) l a d rs = rw (below (ReadsVariant ts) (depths ts) l d (λ k e us. encoded_types_read ts k a.1 e us) rs)
  encoded_variants_read (more ts vs) l a d rs = rw (append_assoc (encode_types ts) (encode_variants vs) rs, below (ReadsVariant ts) (depths ts) l (omega arith) (λ k e us. encoded_types_read ts k a.0.1 e us) (encode_variants vs ++ rs), encoded_variants_read vs l a.1 (omega arith) rs)

-- WHAT IS READ IS WHAT IS WRITTEN

-- n is a number of two bytes
abbrev Small : TRec → Type 0
Small r = r.n < 65536

-- what was read from the front of records: it is written so, it is good, and the rest is as the records are
record Said {A : Type 0} (write : A → List TRec) (Good : A → Type 0) (rs : List TRec) (x : A × List TRec) : Type 0 where
  same : rs ≡ write x.0 ++ x.1
  good : Good x.0
  rest : All Small x.1

-- all that a reader reads is said so
abbrev Sound : {A : Type 0} → (A → List TRec) → (A → Type 0) → Reader A → Type 0
Sound {A} write Good f = (rs : List TRec) (x : A × List TRec) → All Small rs → f rs ≡ done x → Said write Good rs x

-- behind the records l, one part
said_made : {A B : Type 0} {write : A → List TRec} {Good : A → Type 0} {write' : B → List TRec} {Good' : B → Type 0} (f : Reader A) → Sound write Good f → (c : A → B) (l : List TRec) → ((a : A) → Good a → (write' (c a) ≡ l ++ write a) × Good' (c a)) → (rs : List TRec) (x : B × List TRec) → All Small rs → made c (f rs) ≡ done x → Said write' Good' (l ++ rs) x
said_made {write} f sound c l p rs x a h =
    let (y, m, n) = outcome_step (f rs) (λ z. done (c z.0, z.1)) x h in
    let e : (c y.0, y.1) ≡ x = done_injective (c y.0, y.1) x n in
    let s = sound rs y a m in
    let q = p y.0 s.good in
    rw (← e) (record { same = ap (λ k. l ++ k) s.same ∙ sym (append_assoc l (write y.0) y.1) ∙ ap (λ k. k ++ y.1) (sym q.0); good = q.1; rest = s.rest })

-- behind the records l, two parts
said_both : {A B C : Type 0} {write : A → List TRec} {Good : A → Type 0} {write' : B → List TRec} {Good' : B → Type 0} {write'' : C → List TRec} {Good'' : C → Type 0} (f : Reader A) (g : Reader B) → Sound write Good f → Sound write' Good' g → (c : A → B → C) (l : List TRec) → ((a : A) (b : B) → Good a → Good' b → (write'' (c a b) ≡ l ++ write a ++ write' b) × Good'' (c a b)) → (rs : List TRec) (x : C × List TRec) → All Small rs → (f rs >>= λ y. made (c y.0) (g y.1)) ≡ done x → Said write'' Good'' (l ++ rs) x
said_both {write} {write''} {Good''} f g sound sound' c l p rs x a h =
    let (y, m, n) = outcome_step (f rs) (λ z. made (c z.0) (g z.1)) x h in
    let s = sound rs y a m in
    let q : Said write'' Good'' (l ++ write y.0 ++ y.1) x = said_made g sound' (c y.0) (l ++ write y.0) (λ b k. p y.0 b s.good k) y.1 x s.rest n in
    record { same = ap (λ k. l ++ k) s.same ∙ sym (append_assoc l (write y.0) y.1) ∙ q.same; good = q.good; rest = q.rest }

-- allowed, within so many levels, and of the number of parts that was read
abbrev GoodType : ℕ → Ty → Type 0
GoodType l t = Allowed t × (depth t ≤ l)

abbrev GoodTypes : ℕ → ℕ → Tys → Type 0
GoodTypes l n ts = AllowedAll ts × (depths ts ≤ l) × (size ts ≡ n)

abbrev GoodVariant : ℕ → Tys → Type 0
GoodVariant l ts = ((size ts < 65536) × AllowedAll ts) × (depths ts < l)

abbrev GoodVariants : ℕ → ℕ → Variants → Type 0
GoodVariants l n vs = AllowedVariants vs × (variant_depth vs ≤ l) × (count vs ≡ suc n)

-- a Variant's records
abbrev encode_variant : Tys → List TRec
encode_variant ts = trec 9 (size ts) ∷ encode_types ts

read_types_sound : (l : ℕ) (f : Reader Ty) → Sound encode_type (GoodType l) f → (n : ℕ) → Sound encode_types (GoodTypes l n) (read_types f n)
unfolding encode_type
read_types_sound l f s zero rs x a h = let e : (nil, rs) ≡ x = done_injective (nil, rs) x h in rw (← e) (record { same = refl; good = (tt, omega arith, refl); rest = a })
read_types_sound l f s (suc n) rs x a h = said_both f (read_types f n) s (read_types_sound l f s n) cons [] (λ t ts u v. (refl, ((u.0, v.0), omega arith, ap suc v.2))) rs x a h

read_variants_sound : (l : ℕ) (g : Reader Tys) → Sound encode_variant (GoodVariant l) g → (n : ℕ) → Sound encode_variants (GoodVariants l n) (read_variants g n)
unfolding encode_type
read_variants_sound l g s zero rs x a h = said_made g s last [] (λ ts u. (refl, (u.0, u.1, refl))) rs x a h
read_variants_sound l g s (suc n) rs x a h = said_both g (read_variants g n) s (read_variants_sound l g s n) more [] (λ ts vs u v. (refl, ((u.0, v.0), omega arith, ap suc v.2))) rs x a h

-- the record that says a head
abbrev head_record : Head → TRec
head_record is_never = trec 0 0
head_record is_bool = trec 1 0
head_record is_either = trec 3 0
head_record is_option = trec 4 0
head_record (is_uint w) = trec 2 w
head_record (is_tuple n) = trec 5 n
head_record (is_array n) = trec 6 n
head_record (is_list e) = trec 7 (2 ^ suc e)
head_record (is_enum n) = trec 8 (suc n)

-- the numbers that a head can have
abbrev Sayable : Head → Type 0
Sayable is_never = Unit
Sayable is_bool = Unit
Sayable is_either = Unit
Sayable is_option = Unit
Sayable (is_uint w) = one_of w widths ≡ true
Sayable (is_tuple n) = Unit
Sayable (is_array n) = Unit
Sayable (is_list e) = e < 15
Sayable (is_enum n) = Unit

record HeadSaid (r : TRec) (h : Head) : Type 0 where
  same : r ≡ head_record h
  can : Sayable h

head_is : (r : TRec) (k h : Head) → r ≡ head_record k → Sayable k → k ≡ h → HeadSaid r h
head_is r k h e c q = rw (← q) (record { same = e; can = c })

zero_said : (k : Head) (j n : ℕ) (h : Head) → trec j 0 ≡ head_record k → Sayable k → when (eqb n 0) (some k) ≡ some h → HeadSaid (trec j n) h
zero_said k j n h q c m = let (e, f) = when_some (eqb n 0) k h m in head_is (trec j n) k h (ap (trec j) (eqb-true n 0 e) ∙ q) c f

-- a number that is found is at the place that is told
pub find_sound : (f : ℕ → ℕ) (fuel i n k : ℕ) → find f fuel i n ≡ some k → (n ≡ f k) × (k < i + fuel)
find_sound f zero i n k h = absurd (none-ne-some k h)
find_sound f (suc fuel) i n k h = go (eqb n (f i)) refl (find_sound f fuel (suc i) n k) h
  where
    go : (b : Bool) → eqb n (f i) ≡ b → (find f fuel (suc i) n ≡ some k → (n ≡ f k) × (k < suc i + fuel)) → pick b (some i) (find f fuel (suc i) n) ≡ some k → (n ≡ f k) × (k < i + suc fuel)
    go true e rest m = let q : i ≡ k = some-injective i k m in (eqb-true n (f i) e ∙ ap f q, omega arith)
    go false e rest m = let q = rest m in (q.0, omega arith)

by_kind_sound : (j n : ℕ) (h : Head) → by_kind j n ≡ some h → HeadSaid (trec j n) h
by_kind_sound zero n h m = zero_said is_never 0 n h refl tt m
by_kind_sound (suc zero) n h m = zero_said is_bool 1 n h refl tt m
by_kind_sound (suc (suc zero)) n h m = let (e, f) = when_some (one_of n widths) (is_uint n) h m in head_is (trec 2 n) (is_uint n) h refl e f
by_kind_sound (suc (suc (suc zero))) n h m = zero_said is_either 3 n h refl tt m
by_kind_sound (suc (suc (suc (suc zero)))) n h m = zero_said is_option 4 n h refl tt m
by_kind_sound (suc (suc (suc (suc (suc zero))))) n h m = head_is (trec 5 n) (is_tuple n) h refl tt (some-injective (is_tuple n) h m)
by_kind_sound (suc (suc (suc (suc (suc (suc zero)))))) n h m = head_is (trec 6 n) (is_array n) h refl tt (some-injective (is_array n) h m)
by_kind_sound (suc (suc (suc (suc (suc (suc (suc zero))))))) n h m =
    let (e, f, q) = map_o_some is_list (find (λ e. 2 ^ suc e) 15 0 n) h m in
    let b = find_sound (λ e. 2 ^ suc e) 15 0 n e f in
    head_is (trec 7 n) (is_list e) h (ap (trec 7) b.0) b.1 q
by_kind_sound (suc (suc (suc (suc (suc (suc (suc (suc zero)))))))) zero h m = absurd (none-ne-some h m)
by_kind_sound (suc (suc (suc (suc (suc (suc (suc (suc zero)))))))) (suc n) h m = head_is (trec 8 (suc n)) (is_enum n) h refl tt (some-injective (is_enum n) h m)
by_kind_sound (suc (suc (suc (suc (suc (suc (suc (suc (suc j))))))))) n h m = absurd (none-ne-some h m)

head_sound : (r : TRec) (h : Head) → head r ≡ some h → HeadSaid r h
unfolding head
head_sound r h m = go (eqb r.spare 0) refl m
  where
    go : (b : Bool) → eqb r.spare 0 ≡ b → when b (by_kind r.kind r.n) ≡ some h → HeadSaid r h
    go true e q = let s = by_kind_sound r.kind r.n h q in record { same = (λ i. record { kind = r.kind; spare = eqb-true r.spare 0 e i; n = r.n }) ∙ s.same; can = s.can }
    go false e q = absurd (none-ne-some h q)

variant_sound : (r : TRec) (n : ℕ) → variant_parts r ≡ some n → r ≡ trec 9 n
unfolding variant_parts
variant_sound r n h = go (eqb r.spare 0) refl (eqb r.kind 9) refl h
  where
    go : (b : Bool) → eqb r.spare 0 ≡ b → (c : Bool) → eqb r.kind 9 ≡ c → when (b && c) (some r.n) ≡ some n → r ≡ trec 9 n
    go true e true f m = λ i. record { kind = eqb-true r.kind 9 f i; spare = eqb-true r.spare 0 e i; n = some-injective r.n n m i }
    go true e false f m = absurd (none-ne-some n m)
    go false e c f m = absurd (none-ne-some n m)

leaf_said : (l : ℕ) (t : Ty) (r : TRec) → encode_type t ≡ r ∷ [] → GoodType l t → (rs : List TRec) (x : Ty × List TRec) → All Small rs → done (t, rs) ≡ done x → Said encode_type (GoodType l) (r ∷ rs) x
leaf_said l t r q g rs x a h = let e : (t, rs) ≡ x = done_injective (t, rs) x h in rw (← e) (record { same = ap (λ k. k ++ rs) (sym q); good = g; rest = a })

children_sound : (l : ℕ) (f : Reader Ty) (g : Reader Tys) → Sound encode_type (GoodType l) f → Sound encode_variant (GoodVariant l) g → (h : Head) → Sayable h → Small (head_record h) → (rs : List TRec) (x : Ty × List TRec) → All Small rs → read_children f g h rs ≡ done x → Said encode_type (GoodType (suc l)) (head_record h ∷ rs) x
unfolding encode_type
children_sound l f g s v is_never c b rs x a h = leaf_said (suc l) never (trec 0 0) refl (tt, omega arith) rs x a h
children_sound l f g s v is_bool c b rs x a h = leaf_said (suc l) bool (trec 1 0) refl (tt, omega arith) rs x a h
children_sound l f g s v is_either c b rs x a h = said_both f f s s either (trec 3 0 ∷ []) (λ p q m n. (refl, ((m.0, n.0), omega arith))) rs x a h
children_sound l f g s v is_option c b rs x a h = said_made f s option (trec 4 0 ∷ []) (λ p m. (refl, (m.0, omega arith))) rs x a h
children_sound l f g s v (is_uint w) c b rs x a h = leaf_said (suc l) (uint w) (trec 2 w) refl (c, omega arith) rs x a h
children_sound l f g s v (is_tuple n) c b rs x a h = said_made (read_types f n) (read_types_sound l f s n) tuple (trec 5 n ∷ []) (λ p m. (ap {B = List TRec} (λ k. trec 5 k ∷ encode_types p) m.2, ((omega arith, m.0), omega arith))) rs x a h
children_sound l f g s v (is_array n) c b rs x a h = said_made f s (λ p. array p n) (trec 6 n ∷ []) (λ p m. (refl, ((b, m.0), omega arith))) rs x a h
children_sound l f g s v (is_list e) c b rs x a h = said_made f s (λ p. list p e) (trec 7 (2 ^ suc e) ∷ []) (λ p m. (refl, ((c, m.0), omega arith))) rs x a h
children_sound l f g s v (is_enum n) c b rs x a h = said_made (read_variants g n) (read_variants_sound l g v n) enum (trec 8 (suc n) ∷ []) (λ p m. (ap {B = List TRec} (λ k. trec 8 k ∷ encode_variants p) m.2, ((omega arith, m.0), omega arith))) rs x a h

mutual
  unfolding read_type

  read_type_sound : (l : ℕ) → Sound encode_type (GoodType l) (read_type l)
  read_type_sound zero [] x a h = absurd (refused_done not_one_type x h)
  read_type_sound zero (r ∷ rs) x a h = let (k, e, f) = outcome_step (or_refuse bad_record (head r)) (λ k. refused too_deep) x h in absurd (refused_done too_deep x f)
  read_type_sound (suc l) [] x a h = absurd (refused_done not_one_type x h)
  read_type_sound (suc l) (r ∷ rs) x a h =
      let (k, e, f) = outcome_step (or_refuse bad_record (head r)) (λ k. read_children (λ y. read_type l y) (λ y. read_variant l y) k rs) x h in
      let s = head_sound r k (or_refuse_done bad_record (head r) k e) in
      let b : Small (head_record k) = rw (← s.same) a.0 in
      rw s.same (children_sound l (λ y. read_type l y) (λ y. read_variant l y) (λ us y c m. read_type_sound l us y c m) (λ us y c m. read_variant_sound l us y c m) k s.can b rs x a.1 f)

  read_variant_sound : (l : ℕ) → Sound encode_variant (GoodVariant l) (read_variant l)
  read_variant_sound zero [] x a h = absurd (refused_done not_one_type x h)
  read_variant_sound zero (r ∷ rs) x a h = let (k, e, f) = outcome_step (or_refuse bad_record (variant_parts r)) (λ k. refused too_deep) x h in absurd (refused_done too_deep x f)
  read_variant_sound (suc l) [] x a h = absurd (refused_done not_one_type x h)
  read_variant_sound (suc l) (r ∷ rs) x a h =
      let (n, e, f) = outcome_step (or_refuse bad_record (variant_parts r)) (λ n. read_types (λ y. read_type l y) n rs) x h in
      let s : r ≡ trec 9 n = variant_sound r n (or_refuse_done bad_record (variant_parts r) n e) in
      let q = read_types_sound l (λ y. read_type l y) (λ us y c m. read_type_sound l us y c m) n rs x a.1 f in
      let b : n < 65536 = rw (ap (λ z. z.n) s) at a.0 in
      record { same = ap₂ {C = List TRec} ◌∷◌ (s ∙ ap (trec 9) (sym q.good.2)) q.same; good = ((omega (arith, q.good.2), q.good.0), omega (arith, q.good.1)); rest = q.rest }

-- FROM BYTES TO RECORDS

all_of : {A : Type 0} (P : A → Type 0) → ((x : A) → P x) → (xs : List A) → All P xs
all_of P h [] = tt
all_of P h (x ∷ xs) = (h x, all_of P h xs)

pub byte_at : (l : List ℕ) (i : ℕ) → Bytes l → get_or l i 0 < 256
byte_at [] i b = omega arith
byte_at (x ∷ l) zero b = b.0
byte_at (x ∷ l) (suc i) b = byte_at l i b.1

-- each record cut out of bytes has a number of two bytes
small_records : (k : ℕ) (l : List ℕ) → Bytes l → All Small (map type_record (cut 4 k l))
small_records zero l b = tt
small_records (suc k) l b =
    let h = all_take (λ x. x < 256) 4 l b in
    (omega (arith, byte_at (take 4 l) 2 h, byte_at (take 4 l) 3 h), small_records k (drop 4 l) (all_drop (λ x. x < 256) 4 l b))

-- a record's bytes
record_bytes : (l : List ℕ) → length l ≡ 4 → Bytes l → type_bytes (type_record l) ≡ l
record_bytes [] e b = absurd (omega arith)
record_bytes (k ∷ []) e b = absurd (omega arith)
record_bytes (k ∷ s ∷ []) e b = absurd (omega arith)
record_bytes (k ∷ s ∷ m ∷ []) e b = absurd (omega arith)
record_bytes (k ∷ s ∷ m ∷ n ∷ []) e b = ap {B = List ℕ} (λ l. k ∷ s ∷ l) (two_of m n (m * 256 + n) b.1.1.0 b.1.1.1.0 refl)
record_bytes (k ∷ s ∷ m ∷ n ∷ o ∷ l) e b = absurd (omega arith)

bytes_record : (r : TRec) → type_record (type_bytes r) ≡ r
bytes_record r = let e : r.n / 256 * 256 + r.n % 256 ≡ r.n = omega arith in λ i. record { kind = r.kind; spare = r.spare; n = e i }

records_back : (t : Ty) → map type_record (records 4 (type_file t)) ≡ encode_type t
unfolding type_file
records_back t = read_written 4 type_bytes (λ r. refl) (λ k. omega arith) type_record (λ r. Unit) (λ r u. bytes_record r) (encode_type t) (all_of (λ r. Unit) (λ r. tt) (encode_type t))

length_file : (t : Ty) → length (type_file t) ≡ length (encode_type t) * 4
unfolding type_file
length_file t = length_written 4 type_bytes (λ r. refl) (encode_type t)

-- where a type is read, there is a record
read_some : (rs : List TRec) (x : Ty × List TRec) → read_type deepest rs ≡ done x → 0 < length rs
unfolding read_type
read_some [] x h = absurd (refused_done not_one_type x h)
read_some (r ∷ rs) x h = omega arith

-- no bytes over
no_more : (a b : Bool) → (a || not b) ≡ false → b ≡ true
no_more true b h = absurd (true≢false h)
no_more false b h = not-false b h

-- THE TWO LAWS

-- the file that is written for a type reads back as that type
pub type_read_written : (t : Ty) → Allowed t → depth t ≤ deepest → length (type_file t) ≤ 4 * most_type_records → type_of (type_file t) ≡ done t
unfolding type_of
type_read_written t a d l =
    let m : read_type deepest (encode_type t) ≡ done (t, []) = ap (read_type deepest) (sym (append-nil (encode_type t))) ∙ encoded_reads t deepest a d [] in
    let n : length (type_file t) ≡ length (encode_type t) * 4 = length_file t in
    let e : eqb (length (type_file t)) 0 ≡ false = ne_eqb (length (type_file t)) 0 (λ z. omega (arith, read_some (encode_type t) (t, []) m)) in
    let f : eqb (length (type_file t) % 4) 0 ≡ true = eq-eqb (length (type_file t) % 4) 0 (omega arith) in
    rw (e, f, le-ltb (4 * most_type_records) (length (type_file t)) l, records_back t, m)

-- what a file that reads as a type is: the file written for it, within the limits
pub record TypeRead (file : List ℕ) (t : Ty) : Type 0 where
  pub same : file ≡ type_file t
  pub allowed : Allowed t
  pub deep : depth t ≤ deepest
  pub long : length file ≤ 4 * most_type_records

-- a file that reads as a type is the one written for it
pub type_written_read : (file : List ℕ) (t : Ty) → Bytes file → type_of file ≡ done t → TypeRead file t
unfolding type_of type_file
type_written_read file t b h =
    let q = refuse_step type_length (eqb (length file) 0 || not (eqb (length file % 4) 0)) _ t h in
    let p = refuse_step type_too_long (ltb (4 * most_type_records) (length file)) _ t q.1 in
    let (x, m, n) = outcome_step (read_type deepest (map type_record (records 4 file))) (all_read not_one_type) t p.1 in
    let (e, f) = all_read_done not_one_type x t n in
    let s = read_type_sound deepest (map type_record (records 4 file)) x (small_records (length file / 4) file b) m in
    let k : length file % 4 ≡ 0 = eqb-true (length file % 4) 0 (no_more (eqb (length file) 0) (eqb (length file % 4) 0) q.0) in
    let w : flat_map type_bytes (map type_record (records 4 file)) ≡ file = written_read 4 type_bytes (λ r. refl) type_record record_bytes (length file / 4) file (omega arith) b in
    let y : encode_type x.0 ++ x.1 ≡ encode_type t = ap₂ (λ u v. encode_type u ++ v) f e ∙ append-nil (encode_type t) in
    record {
      same = sym w ∙ ap (flat_map type_bytes) (s.same ∙ y);
      allowed = subst Allowed f s.good.0;
      deep = subst (λ u. depth u ≤ deepest) f s.good.1;
      long = ltb-false (4 * most_type_records) (length file) p.0;
    }
