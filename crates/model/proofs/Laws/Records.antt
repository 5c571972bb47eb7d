-- Laws of files as records: what is cut out of written records are those records, and the records of a file, one behind the other, are the file.
use Rattle.std.specs.Prelude.{◌≡◌, refl, List, [], ◌∷◌, ◌++◌, map, ℕ, zero, suc, ◌+◌, ◌*◌, ◌/◌, ◌<◌, length, take, drop, get_or}
use Rattle.std.proofs.Common.{sym, ap, ap₂, ◌∙◌, append_assoc, arith, zero-add, suc-add, zero-mul, mul-zero, suc-mul, mul-suc, add_comm, length-append, length-take, length-drop, take-append-drop, take_at, drop_at, drop-drop}
use Rattle.std.proofs.Math.Seq.{take-nil, drop-nil, take-append-add, drop-append-add}
use Rattle.model.specs.Options.{flat_map, All}
use Rattle.model.specs.Bytes.{Bytes, cut, records, two}

-- EACH ELEMENT

pub all_append : {A : Type 0} (P : A → Type 0) (xs ys : List A) → All P xs → All P ys → All P (xs ++ ys)
all_append P [] ys h k = k
all_append P (x ∷ xs) ys h k = (h.0, all_append P xs ys h.1 k)

pub all_take : {A : Type 0} (P : A → Type 0) (n : ℕ) (xs : List A) → All P xs → All P (take n xs)
all_take P zero xs h = tt
all_take P (suc n) [] h = tt
all_take P (suc n) (x ∷ xs) h = (h.0, all_take P n xs h.1)

pub all_drop : {A : Type 0} (P : A → Type 0) (n : ℕ) (xs : List A) → All P xs → All P (drop n xs)
all_drop P zero xs h = h
all_drop P (suc n) [] h = tt
all_drop P (suc n) (x ∷ xs) h = all_drop P n xs h.1

pub all_flat_map : {A B : Type 0} (P : A → Type 0) (Q : B → Type 0) (f : A → List B) → ((x : A) → P x → All Q (f x)) → (xs : List A) → All P xs → All Q (flat_map f xs)
all_flat_map P Q f h [] k = tt
all_flat_map P Q f h (x ∷ xs) k = all_append Q (f x) (flat_map f xs) (h x k.0) (all_flat_map P Q f h xs k.1)

pub flat_map_append : {A B : Type 0} (f : A → List B) (xs ys : List A) → flat_map f (xs ++ ys) ≡ flat_map f xs ++ flat_map f ys
flat_map_append f [] ys = refl
flat_map_append f (x ∷ xs) ys = ap (λ l. f x ++ l) (flat_map_append f xs ys) ∙ sym (append_assoc (f x) (flat_map f xs) (flat_map f ys))

-- the last n of the first m + n
pub drop_take : {A : Type 0} (m n : ℕ) (l : List A) → drop m (take (m + n) l) ≡ take n (drop m l)
drop_take zero n l = ap (λ i. take i l) (zero-add n)
drop_take (suc m) n [] = ap (λ i. drop (suc m) (take i [])) (suc-add m n) ∙ sym (take-nil n)
drop_take (suc m) n (x ∷ l) = ap (λ i. drop (suc m) (take i (x ∷ l))) (suc-add m n) ∙ drop_take m n l

-- RECORDS

module _ {A : Type 0} (size : ℕ) (write : A → List ℕ) (sized : (x : A) → length (write x) ≡ size) where
  pub length_written : (xs : List A) → length (flat_map write xs) ≡ length xs * size
  length_written [] = sym (zero-mul size)
  length_written (x ∷ xs) = length-append (write x) (flat_map write xs) ∙ omega (arith, sized x, length_written xs, suc-mul (length xs) size)

  pub cut_written : (xs : List A) → cut size (length xs) (flat_map write xs) ≡ map write xs
  cut_written [] = refl
  cut_written (x ∷ xs) = ap₂ {C = List (List ℕ)} ◌∷◌ (take_at (write x) (flat_map write xs) size (sized x)) (ap (cut size (length xs)) (drop_at (write x) (flat_map write xs) size (sized x)) ∙ cut_written xs)

  -- the first k records, and the others
  pub take_written : (k : ℕ) (xs : List A) → take (size * k) (flat_map write xs) ≡ flat_map write (take k xs)
  take_written zero xs = ap (λ n. take n (flat_map write xs)) (mul-zero size)
  take_written (suc k) [] = take-nil (size * suc k)
  take_written (suc k) (x ∷ xs) =
      ap (λ n. take n (write x ++ flat_map write xs)) (mul-suc size k ∙ add_comm (size * k) size ∙ ap (λ n. n + size * k) (sym (sized x)))
      ∙ take-append-add (write x) (flat_map write xs) (size * k) ∙ ap (λ l. write x ++ l) (take_written k xs)

  pub drop_written : (k : ℕ) (xs : List A) → drop (size * k) (flat_map write xs) ≡ flat_map write (drop k xs)
  drop_written zero xs = ap (λ n. drop n (flat_map write xs)) (mul-zero size)
  drop_written (suc k) [] = drop-nil (size * suc k)
  drop_written (suc k) (x ∷ xs) =
      ap (λ n. drop n (write x ++ flat_map write xs)) (mul-suc size k ∙ add_comm (size * k) size ∙ ap (λ n. n + size * k) (sym (sized x)))
      ∙ drop-append-add (write x) (flat_map write xs) (size * k) ∙ drop_written k xs

  module _ (quotient : (k : ℕ) → k * size / size ≡ k) where
    pub records_written : (xs : List A) → records size (flat_map write xs) ≡ map write xs
    records_written xs = ap (λ n. cut size (n / size) (flat_map write xs)) (length_written xs) ∙ ap (λ n. cut size n (flat_map write xs)) (quotient (length xs)) ∙ cut_written xs

    -- reading each record gives back what was written
    pub read_written : (read : List ℕ → A) (P : A → Type 0) → ((x : A) → P x → read (write x) ≡ x) → (xs : List A) → All P xs → map read (records size (flat_map write xs)) ≡ xs
    read_written read P h xs k = ap (map read) (records_written xs) ∙ each xs k
      where
        each : (xs : List A) → All P xs → map read (map write xs) ≡ xs
        each [] k = refl
        each (x ∷ xs) k = ap₂ {C = List A} ◌∷◌ (h x k.0) (each xs k.1)

  -- writing each record that was read gives back the file
  pub written_read : (read : List ℕ → A) → ((l : List ℕ) → length l ≡ size → Bytes l → write (read l) ≡ l) → (k : ℕ) (l : List ℕ) → length l ≡ k * size → Bytes l → flat_map write (map read (cut size k l)) ≡ l
  written_read read h zero [] e b = refl
  written_read read h zero (x ∷ l) e b = absurd (omega (arith, zero-mul size))
  written_read read h (suc k) l e b =
      ap₂ ◌++◌ (h (take size l) (length-take size l ∙ omega (arith, suc-mul k size)) (all_take (λ b. b < 256) size l b)) (written_read read h k (drop size l) (length-drop size l ∙ omega (arith, suc-mul k size)) (all_drop (λ b. b < 256) size l b))
      ∙ take-append-drop size l

pub length_cut : (size k : ℕ) (l : List ℕ) → length (cut size k l) ≡ k
length_cut size zero l = refl
length_cut size (suc k) l = ap suc (length_cut size k (drop size l))

-- record i of the first k, as it is read
pub cut_at : {A : Type 0} (size : ℕ) (f : List ℕ → A) (k i : ℕ) (l : List ℕ) (x : A) → i < k → get_or (map f (cut size k l)) i x ≡ f (take size (drop (i * size) l))
cut_at size f zero i l x h = absurd (omega arith)
cut_at size f (suc k) zero l x h = ap (λ n. f (take size (drop n l))) (sym (zero-mul size))
cut_at size f (suc k) (suc i) l x h =
    let e : size + i * size ≡ suc i * size = omega (arith, suc-mul i size) in
    cut_at size f k i (drop size l) x (omega arith) ∙ ap (λ m. f (take size m)) (drop-drop (i * size) size l ∙ ap (λ n. drop n l) e)

-- a two-byte number
pub two_of : (a b n : ℕ) → a < 256 → b < 256 → n ≡ a * 256 + b → two n ≡ a ∷ b ∷ []
two_of a b n ha hb e = ap₂ {C = List ℕ} (λ x y. x ∷ y ∷ []) (omega arith) (omega arith)
