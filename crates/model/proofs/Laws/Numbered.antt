-- DEMAND 1, of the operations: each finishes with a result or with a number of its own rows in the table of 01 with 02's numbers. So 0 tells a result.
use Rattle.std.specs.Prelude.{◌≡◌, Bool, true, false, not, ◌&&◌, ◌||◌, List, [], ◌∷◌, ◌++◌, map, ℕ, zero, suc, ◌*◌, ◌%◌, ◌≤◌, eqb, ltb, length, take}
use Rattle.std.proofs.Math.Path.{refl}
use Rattle.std.proofs.Common.{sym, subst, ◌∙◌, inl, inr, arith}
use Rattle.std.proofs.lemmas.Bool.{false≢true}
use Rattle.std.proofs.Math.Bool.{and-eq-true_iff}
use Rattle.std.proofs.Math.Option.{Option, none, some}
use Rattle.model.specs.Numbers.{type_length, type_too_long, bad_record, too_deep, not_one_type, never_stands, too_large, shape_too_long, not_one_tree, not_reconstructed, no_unit, frame_length, stray_bit, no_bytes, day_length, path_odd, no_such_part, value_length, not_one_value, integer_too_large, list_too_long, most_type_records, deepest, most_shape_records}
use Rattle.model.specs.Outcome.{Outcome, done, refused, ◌>>=◌, ◌>>◌, refuse, or_refuse, all_read}
use Rattle.model.specs.Options.{any, one_of, All}
use Rattle.model.specs.Bytes.{records, bits_of}
use Rattle.model.specs.Types.{Ty, Tys}
use Rattle.model.specs.TypeFiles.{TRec, type_record, Head, is_never, is_bool, is_either, is_option, is_uint, is_tuple, is_array, is_list, is_enum, head, variant_parts, Reader, on_record, read_types, read_variants, read_children, read_type, read_variant, type_of}
use Rattle.model.specs.Lowering.{lower, has_never, over_large}
use Rattle.model.specs.Reconstruct.{reconstruct}
use Rattle.model.specs.Spots.{lacks_unit}
use Rattle.model.specs.ShapeFiles.{read_shape, shape_of}
use Rattle.model.specs.ValueFiles.{Rec, value_record, value_of}
use Rattle.model.specs.Faults.{fault, children, verdict}
use Rattle.model.specs.Frames.{Place, width, frame_bytes, from_bits, stray_bits, unframe}
use Rattle.model.specs.Paths.{steps, found}
use Rattle.model.proofs.Laws.Options.{one_of_all}
use Rattle.model.proofs.Laws.Faults.{Tells, fault_tells, value_verdict}
use Rattle.model.specs.Operations.{lowering, lowered, room, shaped, shape_room, earlier_reading, earlier_reconstructed, reconstructed, cleaned_shape, framed, unframed, part_read, edited}
use Rattle.model.specs.DayFiles.{searchable}

-- THE ROWS OF EACH PLACE

abbrev pub type_rows : List ℕ
type_rows = type_length ∷ type_too_long ∷ bad_record ∷ too_deep ∷ not_one_type ∷ []

abbrev pub lowering_rows : List ℕ
lowering_rows = never_stands ∷ too_large ∷ []

abbrev pub shape_rows : List ℕ
shape_rows = shape_too_long ∷ not_one_tree ∷ not_reconstructed ∷ []

-- the row that today's reading of a shape has beside those of the earlier one
abbrev pub unit_rows : List ℕ
unit_rows = no_unit ∷ []

abbrev pub frame_rows : List ℕ
frame_rows = frame_length ∷ stray_bit ∷ []

-- of a day file, in their place
abbrev pub day_rows : List ℕ
day_rows = no_bytes ∷ day_length ∷ []

-- of a path, where no part is asked for yet
abbrev pub step_rows : List ℕ
step_rows = path_odd ∷ []

abbrev pub path_rows : List ℕ
path_rows = path_odd ∷ no_such_part ∷ []

abbrev pub value_rows : List ℕ
value_rows = value_length ∷ not_one_value ∷ integer_too_large ∷ list_too_long ∷ []

-- it gives a result, or refuses with a number of these rows
pub record Within {A : Type 0} (rows : List ℕ) (o : Outcome A) : Type 0 where
  pub refuses : (n : ℕ) → o ≡ refused n → one_of n rows ≡ true

-- where 0 is no row, no refusal has it
pub never_zero : {A : Type 0} {rows : List ℕ} {o : Outcome A} → Within rows o → one_of 0 rows ≡ false → (n : ℕ) → o ≡ refused n → 1 ≤ n
never_zero w z zero h = absurd (false≢true (sym z ∙ w.refuses zero h))
never_zero w z (suc n) h = omega arith

-- STEPS: where a chain refuses, one of its steps does

finished : {A : Type 0} {rows : List ℕ} (a : A) → Within rows (done a)
finished a = record { refuses = λ n h. absurd (let z : ◌≡◌ {A = ℕ} 0 1 = cc in omega arith) }

refusal : {A : Type 0} {rows : List ℕ} (m : ℕ) → one_of m rows ≡ true → Within {A = A} rows (refused m)
refusal {rows = rows} m k = record { refuses = λ n h. let e : m ≡ n = cc in subst (λ n. one_of n rows ≡ true) e k }

step : {A B : Type 0} {rows : List ℕ} (o : Outcome A) (f : A → Outcome B) → Within rows o → ((a : A) → Within rows (f a)) → Within rows (o >>= f)
step (done a) f w k = k a
step (refused m) f w k = refusal m (w.refuses m refl)

next : {A B : Type 0} {rows : List ℕ} (o : Outcome A) (q : Outcome B) → Within rows o → Within rows q → Within rows (o >> q)
next (done a) q w u = u
next (refused m) q w u = refusal m (w.refuses m refl)

row : {A : Type 0} {rows : List ℕ} (m : ℕ) (b : Bool) (o : Outcome A) → one_of m rows ≡ true → Within rows o → Within rows (refuse m b >> o)
row m true o k w = refusal m k
row m false o k w = w

-- what is made of a result changes no refusal
passed : {A B : Type 0} {rows : List ℕ} (o : Outcome A) (f : A → B) → Within rows (o >>= λ a. done (f a)) → Within rows o
passed (done a) f w = finished a
passed (refused m) f w = refusal m (w.refuses m refl)

there : {A : Type 0} {rows : List ℕ} (m : ℕ) (o : Option A) → one_of m rows ≡ true → Within rows (or_refuse m o)
there m none k = refusal m k
there m (some a) k = finished a

nothing_left : {A X : Type 0} {rows : List ℕ} (m : ℕ) (x : A × List X) → one_of m rows ≡ true → Within rows (all_read m x)
nothing_left {A} {X} {rows} m x k = go x.0 x.1
  where
    go : (a : A) (l : List X) → Within rows (all_read m (a, l))
    go a [] = finished a
    go a (r ∷ rs) = refusal m k

made_of : {A B X : Type 0} {rows : List ℕ} (f : A → B) (o : Outcome (A × List X)) → Within rows o → Within {A = B × List X} rows (o >>= λ x. done (f x.0, x.1))
made_of f o w = step o _ w (λ x. finished (f x.0, x.1))

-- rows among more rows
abbrev each_in : List ℕ → List ℕ → Bool
each_in [] ys = true
each_in (x ∷ xs) ys = one_of x ys && each_in xs ys

each_found : (xs ys : List ℕ) → each_in xs ys ≡ true → All (λ m. one_of m ys ≡ true) xs
each_found [] ys h = tt
each_found (x ∷ xs) ys h = let (e, f) = (and-eq-true_iff (one_of x ys) (each_in xs ys)).0 h in (e, each_found xs ys f)

among : {A : Type 0} {xs ys : List ℕ} {o : Outcome A} → each_in xs ys ≡ true → Within xs o → Within ys o
among {xs = xs} {ys = ys} s w = record { refuses = λ n h. one_of_all (λ m. one_of m ys ≡ true) n xs (each_found xs ys s) (w.refuses n h) }

-- TYPE FILES

abbrev Reads : {A : Type 0} → Reader A → Type 0
Reads f = (rs : List TRec) → Within type_rows (f rs)

types_read : (f : Reader Ty) → Reads f → (k : ℕ) → Reads (read_types f k)
types_read f i zero rs = finished _
types_read f i (suc k) rs = step (f rs) _ (i rs) (λ x. made_of _ (read_types f k x.1) (types_read f i k x.1))

variants_read : (g : Reader Tys) → Reads g → (k : ℕ) → Reads (read_variants g k)
variants_read g i zero rs = made_of _ (g rs) (i rs)
variants_read g i (suc k) rs = step (g rs) _ (i rs) (λ x. made_of _ (read_variants g k x.1) (variants_read g i k x.1))

children_read : (f : Reader Ty) (g : Reader Tys) → Reads f → Reads g → (k : Head) → Reads (read_children f g k)
children_read f g i j is_never rs = finished _
children_read f g i j is_bool rs = finished _
children_read f g i j is_either rs = step (f rs) _ (i rs) (λ x. made_of _ (f x.1) (i x.1))
children_read f g i j is_option rs = made_of _ (f rs) (i rs)
children_read f g i j (is_uint w) rs = finished _
children_read f g i j (is_tuple k) rs = made_of _ (read_types f k rs) (types_read f i k rs)
children_read f g i j (is_array k) rs = made_of _ (f rs) (i rs)
children_read f g i j (is_list e) rs = made_of _ (f rs) (i rs)
children_read f g i j (is_enum k) rs = made_of _ (read_variants g k rs) (variants_read g j k rs)

recorded : {A : Type 0} (f : TRec → Reader A) → ((r : TRec) → Reads (f r)) → Reads (on_record f)
recorded f i [] = refusal not_one_type refl
recorded f i (r ∷ rs) = i r rs

mutual
  unfolding read_type

  type_read : (l : ℕ) → Reads (read_type l)
  type_read zero rs = recorded _ (λ r s. step (or_refuse bad_record (head r)) _ (there bad_record (head r) refl) (λ k. refusal too_deep refl)) rs
  type_read (suc l) rs = recorded _ (λ r s. step (or_refuse bad_record (head r)) _ (there bad_record (head r) refl) (λ k. children_read (λ x. read_type l x) (λ x. read_variant l x) (λ x. type_read l x) (λ x. variant_read l x) k s)) rs

  variant_read : (l : ℕ) → Reads (read_variant l)
  variant_read zero rs = recorded _ (λ r s. step (or_refuse bad_record (variant_parts r)) _ (there bad_record (variant_parts r) refl) (λ k. refusal too_deep refl)) rs
  variant_read (suc l) rs = recorded _ (λ r s. step (or_refuse bad_record (variant_parts r)) _ (there bad_record (variant_parts r) refl) (λ k. types_read (λ x. read_type l x) (λ x. type_read l x) k s)) rs

type_row : (ty : List ℕ) → Within type_rows (type_of ty)
unfolding type_of
type_row ty =
    row type_length (eqb (length ty) 0 || not (eqb (length ty % 4) 0)) _ refl
    (row type_too_long (ltb (4 * most_type_records) (length ty)) _ refl
    (step (read_type deepest (map type_record (records 4 ty))) _ (type_read deepest (map type_record (records 4 ty))) (λ x. nothing_left not_one_type x refl)))

-- VALUE FILES, record by record

fault_row : (t : Ty) (r : Rec) → Within value_rows (fault t r)
fault_row t r = record { refuses = λ n h. go n (fault_tells t r n h) }
  where
    go : (n : ℕ) → Tells t r n → one_of n value_rows ≡ true
    go n (inl e) = rw e refl
    go n (inr (inl e)) = rw e.0 refl
    go n (inr (inr e)) = rw e.0 refl

verdict_row : (due : List Ty) (rs : List Rec) → Within value_rows (verdict due rs)
unfolding verdict
verdict_row [] [] = finished tt
verdict_row [] (r ∷ rs) = refusal not_one_value refl
verdict_row (t ∷ due) [] = refusal not_one_value refl
verdict_row (t ∷ due) (r ∷ rs) = next (fault t r) _ (fault_row t r) (verdict_row (children t r ++ due) rs)

-- a value file is refused with 15, 16, 21 or 22
pub value_row : (t : Ty) (val : List ℕ) → Within value_rows (value_of t val)
value_row t val =
    let rs = map value_record (records 36 val) in
    let bad = eqb (length val) 0 || not (eqb (length val % 36) 0) in
    passed (value_of t val) (λ v. tt) (subst (Within value_rows) (sym (value_verdict t val)) (row value_length bad (verdict (t ∷ []) rs) refl (verdict_row (t ∷ []) rs)))

-- OTHER FILES

shape_row : (shape : List ℕ) → Within shape_rows (shape_of shape)
unfolding shape_of
shape_row shape =
    row shape_too_long (ltb most_shape_records (length shape)) _ refl
    (step (or_refuse not_one_tree (read_shape (length shape) shape)) _ (there not_one_tree (read_shape (length shape) shape) refl) (λ x. nothing_left not_one_tree x refl))

frame_row : (p : Place) (t : Ty) (frame : List ℕ) → Within frame_rows (unframe p t frame)
unfolding unframe
frame_row p t frame =
    row frame_length (not (eqb (length frame) (frame_bytes t))) _ refl
    (row stray_bit (any (stray_bits p t frame)) _ refl
    (there stray_bit (reconstruct t (from_bits p (lower t) (take (width (lower t)) (bits_of frame)))) refl))

path_row : (path : List ℕ) → Within step_rows (steps path)
unfolding steps
path_row path = row path_odd (not (eqb (length path % 2) 0)) _ refl (finished _)

-- THE OPERATIONS

abbrev pub lowering_all : List ℕ
lowering_all = type_rows ++ lowering_rows

lowering_row : (ty : List ℕ) → Within lowering_all (lowering ty)
unfolding lowering
lowering_row ty =
    step (type_of ty) _ (among refl (type_row ty))
    (λ t. row never_stands (has_never t) _ refl (row too_large (over_large t) _ refl (finished t)))

pub lowered_row : (ty : List ℕ) → Within lowering_all (lowered ty)
unfolding lowered
lowered_row ty = step (lowering ty) _ (lowering_row ty) (λ t. finished _)

pub shaped_row : (ty val : List ℕ) → Within (lowering_all ++ value_rows) (shaped ty val)
unfolding shaped
shaped_row ty val = step (lowering ty) _ (among refl (lowering_row ty)) (λ t. step (value_of t val) _ (among refl (value_row t val)) (λ v. finished _))

-- what is told without a buffer has the rows of what it is told of
pub room_row : (ty : List ℕ) → Within lowering_all (room ty)
unfolding room
room_row ty = step (lowering ty) _ (lowering_row ty) (λ t. finished _)

pub shape_room_row : (ty val : List ℕ) → Within (lowering_all ++ value_rows) (shape_room ty val)
unfolding shape_room
shape_room_row ty val = step (shaped ty val) _ (shaped_row ty val) (λ shape. finished _)

reading_row : (ty shape : List ℕ) → Within (type_rows ++ shape_rows) (earlier_reading ty shape)
unfolding earlier_reading
reading_row ty shape =
    step (type_of ty) _ (among refl (type_row ty))
    (λ t. step (shape_of shape) _ (among refl (shape_row shape))
    (λ s. step (or_refuse not_reconstructed (reconstruct t s)) _ (there not_reconstructed (reconstruct t s) refl) (λ v. finished _)))

pub earlier_row : (ty shape : List ℕ) → Within (type_rows ++ shape_rows) (earlier_reconstructed ty shape)
unfolding earlier_reconstructed
earlier_row ty shape = step (earlier_reading ty shape) _ (reading_row ty shape) (λ r. finished _)

pub reconstructed_row : (ty shape : List ℕ) → Within (type_rows ++ shape_rows ++ unit_rows) (reconstructed ty shape)
unfolding reconstructed
reconstructed_row ty shape = step (earlier_reading ty shape) _ (among refl (reading_row ty shape)) (λ r. row no_unit (lacks_unit r.type r.tree) _ refl (finished _))

-- cleaning has the rows of the earlier reading
pub cleaned_row : (ty shape : List ℕ) → Within (type_rows ++ shape_rows) (cleaned_shape ty shape)
unfolding cleaned_shape
cleaned_row ty shape = step (earlier_reading ty shape) _ (reading_row ty shape) (λ r. finished _)

-- a search: 14, 15 and 16 do not occur, nor do 11 and 12
pub searchable_row : (ty day path : List ℕ) → Within (lowering_all ++ day_rows ++ step_rows) (searchable ty day path)
unfolding searchable
searchable_row ty day path =
    step (lowering ty) _ (among refl (lowering_row ty))
    (λ t. row no_bytes (eqb (frame_bytes t) 0) _ refl
    (row day_length (not (eqb (length day % frame_bytes t) 0)) _ refl
    (step (steps path) _ (among refl (path_row path)) (λ q. finished _))))

module _ (p : Place) where
  pub framed_row : (ty val : List ℕ) → Within (lowering_all ++ value_rows) (framed p ty val)
  unfolding framed
  framed_row ty val = step (lowering ty) _ (among refl (lowering_row ty)) (λ t. step (value_of t val) _ (among refl (value_row t val)) (λ v. finished _))

  pub unframed_row : (ty frame : List ℕ) → Within (lowering_all ++ frame_rows) (unframed p ty frame)
  unfolding unframed
  unframed_row ty frame = step (lowering ty) _ (among refl (lowering_row ty)) (λ t. step (unframe p t frame) _ (among refl (frame_row p t frame)) (λ v. finished _))

  pub part_read_row : (ty frame path : List ℕ) → Within (lowering_all ++ frame_rows ++ path_rows) (part_read p ty frame path)
  unfolding part_read
  part_read_row ty frame path =
      step (lowering ty) _ (among refl (lowering_row ty))
      (λ t. step (unframed p ty frame) _ (among refl (unframed_row ty frame))
      (λ old. step (steps path) _ (among refl (path_row path))
      (λ q. step (or_refuse no_such_part (found t q old)) _ (there no_such_part (found t q old) refl) (λ f. finished _))))

  pub edited_row : (ty frame path val : List ℕ) → Within (lowering_all ++ frame_rows ++ path_rows ++ value_rows) (edited p ty frame path val)
  unfolding edited
  edited_row ty frame path val =
      step (lowering ty) _ (among refl (lowering_row ty))
      (λ t. step (unframed p ty frame) _ (among refl (unframed_row ty frame))
      (λ old. step (steps path) _ (among refl (path_row path))
      (λ q. step (or_refuse no_such_part (found t q old)) _ (there no_such_part (found t q old) refl)
      (λ f. step (value_of f.type val) _ (among refl (value_row f.type val)) (λ w. among refl (framed_row ty _))))))
