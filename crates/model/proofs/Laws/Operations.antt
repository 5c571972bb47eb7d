-- The operations on files that are written for values of a type that lowers, and back: what every theorem of `Demands` rests on.
use Rattle.std.specs.Prelude.{◌≡◌, refl, Bool, false, drop, set, get_or}
use Rattle.std.proofs.Math.Path.{sym, ap, ap₂}
use Rattle.std.proofs.Common.{subst, ◌∙◌, add-sub_of_le, length-append, length-take, get_or-take, get_or-drop, get_or-append-add}
use Rattle.std.proofs.Math.Logic.{inl, inr}
use mathlib.Core.List.{List, [], ◌∷◌, ◌++◌, append_assoc, append-nil}
use Rattle.std.proofs.Math.Option.{Option, none, some}
use Prim.Native.Nat.{ℕ, zero, suc, ◌+◌, ◌-◌, ◌*◌, ◌≤◌, ◌<◌}
use native.Mathlib.Omega.{arith}
use Rattle.std.proofs.Math.ListN.{length, take, get_elem?, get_or-append}
use Rattle.std.proofs.Math.Seq.{take_at, drop_at}
use Rattle.std.proofs.lemmas.List.{take-append-le, drop-append-le}
use Rattle.model.specs.Numbers.{not_reconstructed, most_shape_records}
use Rattle.model.specs.Outcome.{done, or_refuse}
use Rattle.model.specs.Options.{map_o, bind_o, flat_map}
use Rattle.model.specs.Bytes.{Bytes, bits_of, bytes_for, zeros}
use Rattle.model.specs.Balanced.{btree}
use Rattle.model.specs.Types.{Ty, Tys, Variants, never, bool, uint, either, option, tuple, array, list, enum, nil, cons, last, more, count}
use Rattle.model.specs.TypeFiles.{type_of}
use Rattle.model.specs.Lowering.{lower, payloads}
use Rattle.model.specs.Values.{Value, Values, Choice, Valid, index, inject}
use Rattle.model.specs.Reconstruct.{reconstruct}
use Rattle.model.specs.ShapeFiles.{shape_of, shape_file}
use Rattle.model.specs.ValueFiles.{encode, value_bytes, value_file, value_of}
use Rattle.model.specs.Frames.{Place, width, frame, frame_file, unframe}
use Rattle.model.specs.Paths.{Found, found, part_records, replaced}
use Rattle.model.specs.Parts.{Part, within, element_of, ahead_of_payload, part_of, choice_part, child, part, offset, extent}
use Rattle.model.specs.Operations.{lowering, shaped, Reading, earlier_reading, reconstructed, framed, unframed}
use Rattle.model.proofs.Laws.Outcome.{outcome_step, done_injective, or_refuse_done}
use Rattle.model.proofs.Laws.Records.{take_written, drop_written, flat_map_append}
use Rattle.model.proofs.Laws.TypeFiles.{Allowed, AllowedAll, AllowedVariants}
use Rattle.model.proofs.Laws.ValueFiles.{length_value_bytes, records_value_file, value_read_written, value_written_read}
use Rattle.model.proofs.Laws.Shapes.{inject_belongs, reconstruct_inject}
use Rattle.model.proofs.Laws.Spots.{written_clean}
use Rattle.model.proofs.Laws.ShapeFiles.{shape_read_written}
use Rattle.model.proofs.Laws.Sizes.{length_type_records, shape_size}
use Rattle.model.proofs.Laws.FrameFiles.{length_frame, bits_frame_file, frame_read_written, frame_written_read}
use Rattle.model.proofs.Laws.Parts.{IfSome, ifsome_map, Lies, part_there, edit_frame}
use Rattle.model.proofs.Laws.FileParts.{Stands, Leads, part_leads}
use Rattle.model.proofs.Laws.Lowering.{Known}

-- A PART'S RECORDS IN THE FILE

module _ (p : Place) (t : Ty) (v : Value t) (c : Part (Value t)) (l : Lies p (Valid t) (frame p t) v c) (r : Option Found) (s : Stands p (encode t) c r) where
  abbrev pub there : Found
  there = record { type = c.type; first = length s.front; end = length s.front + length (encode c.type c.value) }

  old_records : encode t v ≡ s.front ++ encode c.type c.value ++ s.back
  old_records = ap (encode t) (sym l.same) ∙ s.splits c.value

  ahead_of_part : take (36 * length s.front) (value_file t v) ≡ flat_map value_bytes s.front
  unfolding value_file
  ahead_of_part = take_written 36 value_bytes length_value_bytes (length s.front) (encode t v)
      ∙ ap (flat_map value_bytes) (ap (take (length s.front)) (old_records ∙ append_assoc s.front (encode c.type c.value) s.back) ∙ take_at s.front _ (length s.front) refl)

  behind_part : drop (36 * (length s.front + length (encode c.type c.value))) (value_file t v) ≡ flat_map value_bytes s.back
  unfolding value_file
  behind_part = drop_written 36 value_bytes length_value_bytes (length s.front + length (encode c.type c.value)) (encode t v)
      ∙ ap (flat_map value_bytes) (ap (drop (length s.front + length (encode c.type c.value))) old_records ∙ drop_at (s.front ++ encode c.type c.value) s.back _ (length-append s.front (encode c.type c.value)))

  -- the file with the part's records replaced is the file of the value with the part replaced
  pub replaced_file : (w : Value c.type) → replaced there (value_file t v) (value_file c.type w) ≡ value_file t (c.put w)
  unfolding value_file
  replaced_file w =
      ap₂ (λ x y. x ++ value_file c.type w ++ y) ahead_of_part behind_part
      ∙ sym (ap (flat_map value_bytes) (s.splits w) ∙ flat_map_append value_bytes (s.front ++ encode c.type w) s.back ∙ ap (λ x. x ++ flat_map value_bytes s.back) (flat_map_append value_bytes s.front (encode c.type w)))

  -- the part's records are its value's file
  pub part_file : part_records there (value_file t v) ≡ value_file c.type c.value
  unfolding value_file
  part_file =
      let n : 36 * (length s.front + length (encode c.type c.value)) - 36 * length s.front ≡ 36 * length (encode c.type c.value) = omega arith in
      ap₂ take n (drop_written 36 value_bytes length_value_bytes (length s.front) (encode t v) ∙ ap (flat_map value_bytes) (ap (drop (length s.front)) (old_records ∙ append_assoc s.front (encode c.type c.value) s.back) ∙ drop_at s.front _ (length s.front) refl))
      ∙ take_written 36 value_bytes length_value_bytes (length (encode c.type c.value)) (encode c.type c.value ++ s.back)
      ∙ ap (flat_map value_bytes) (take_at (encode c.type c.value) s.back _ refl)

-- a path in the file leads where it leads in the value
pub found_leads : (p : Place) (t : Ty) (v : Value t) (path : List ℕ) → Allowed t → Valid t v → Leads p (encode t) (part p t path v) (found t path (value_file t v))
unfolding found
found_leads p t v path a h = rw (records_value_file t v a h) (rw (append-nil (encode t v)) at (part_leads p path t v [] h))

-- a part's type is one that a file can say
module _ (p : Place) where
  in_tuple_allowed : (ts : Tys) (i : ℕ) (v : Values ts) → AllowedAll ts → IfSome (λ c. Allowed c.type) (part_of p ts i v)
  unfolding part_of
  in_tuple_allowed nil i v a = tt
  in_tuple_allowed (cons t ts) zero v a = a.0
  in_tuple_allowed (cons t ts) (suc i) v a = ifsome_map (λ c. Allowed c.type) (λ c. Allowed c.type) (within (λ r. (v.0, r)) (frame p t v.0)) (λ c k. k) (part_of p ts i v.1) (in_tuple_allowed ts i v.1 a.1)

  in_variant_allowed : (vs : Variants) (i : ℕ) (x : Choice vs) → AllowedVariants vs → IfSome (λ c. Allowed c.type) (choice_part p vs i x)
  unfolding choice_part
  in_variant_allowed (last ts) i x a = in_tuple_allowed ts i x a.1
  in_variant_allowed (more ts vs) i (inl x) a = ifsome_map (λ c. Allowed c.type) (λ c. Allowed c.type) (within inl []) (λ c k. k) (part_of p ts i x) (in_tuple_allowed ts i x a.0.1)
  in_variant_allowed (more ts vs) i (inr x) a = ifsome_map (λ c. Allowed c.type) (λ c. Allowed c.type) (within inr []) (λ c k. k) (choice_part p vs i x) (in_variant_allowed vs i x a.1)

  element_allowed : (a : Ty) (k : List Bool) (i : ℕ) (xs : List (Value a)) → Allowed a → IfSome {A = Part (List (Value a))} (λ c. Allowed c.type) (element_of a k i xs)
  element_allowed a k i xs h = go (get_elem? xs i)
    where
      go : (o : Option (Value a)) → IfSome {A = Part (List (Value a))} (λ c. Allowed c.type) (map_o (λ x. record { type = a; value = x; put = λ w. set xs i w; ahead = k }) o)
      go none = tt
      go (some x) = h

  child_allowed : (t : Ty) (i : ℕ) (v : Value t) → Allowed t → IfSome (λ c. Allowed c.type) (child p t i v)
  unfolding child
  child_allowed never i v a = tt
  child_allowed bool i v a = tt
  child_allowed (uint w) i v a = tt
  child_allowed (either x y) zero (inl v) a = a.0
  child_allowed (either x y) zero (inr v) a = tt
  child_allowed (either x y) (suc zero) (inl v) a = tt
  child_allowed (either x y) (suc zero) (inr v) a = a.1
  child_allowed (either x y) (suc (suc i)) v a = tt
  child_allowed (option x) zero none a = tt
  child_allowed (option x) zero (some v) a = a
  child_allowed (option x) (suc i) v a = tt
  child_allowed (tuple ts) i v a = in_tuple_allowed ts i v a.1
  child_allowed (array x n) i v a = element_allowed x _ i v a.1
  child_allowed (list x e) i v a = element_allowed x _ i v a.1
  child_allowed (enum vs) i v a = ifsome_map (λ c. Allowed c.type) (λ c. Allowed c.type) (within (λ d. d) (ahead_of_payload p (btree (count vs)) (payloads vs) (index vs v))) (λ c k. k) (choice_part p vs i v) (in_variant_allowed vs i v a.1)

  path_allowed : (path : List ℕ) (t : Ty) (v : Value t) → Allowed t → IfSome (λ c. Allowed c.type) (part p t path v)
  unfolding part
  path_allowed [] t v a = a
  path_allowed (i ∷ path) t v a = go (child p t i v) (child_allowed t i v a) (path_allowed path)
    where
      go : (o : Option (Part (Value t))) → IfSome (λ c. Allowed c.type) o → ((u : Ty) (w : Value u) → Allowed u → IfSome (λ c. Allowed c.type) (part p u path w))
          → IfSome (λ c. Allowed c.type) (bind_o o (λ c. map_o (within c.put c.ahead) (part p c.type path c.value)))
      go none k ih = tt
      go (some c) k ih = ifsome_map (λ d. Allowed d.type) (λ d. Allowed d.type) (within c.put c.ahead) (λ d m. m) (part p c.type path c.value) (ih c.type c.value k)

  pub part_allowed : (path : List ℕ) (t : Ty) (v : Value t) (c : Part (Value t)) → Allowed t → part p t path v ≡ some c → Allowed c.type
  part_allowed path t v c a e = rw e at (path_allowed path t v a)

-- A PART'S BITS IN THE FRAME

module _ (p : Place) (t : Ty) (v : Value t) (path : List ℕ) (c : Part (Value t)) (h : Valid t v) (e : part p t path v ≡ some c) where
  -- the stretch lies inside the frame
  pub stretch_inside : offset c + extent c ≤ width (lower t)
  stretch_inside =
      let l = part_there p t path v c h e in
      let s : frame p t v ≡ c.ahead ++ frame p c.type c.value ++ l.stretch.back = sym (ap (frame p t) l.same) ∙ l.stretch.splits c.value l.valid in
      let n : length (frame p t v) ≡ length c.ahead + length (frame p c.type c.value) + length l.stretch.back =
      ap length s ∙ length-append (c.ahead ++ frame p c.type c.value) l.stretch.back ∙ ap (λ k. k + length l.stretch.back) (length-append c.ahead (frame p c.type c.value)) in
      omega (arith, length_frame p t v h, length_frame p c.type c.value l.valid)

  -- the bits of the frame file: those ahead of the part, the part's own, and those behind
  pub stretch_bits : bits_of (frame_file p t v) ≡ c.ahead ++ frame p c.type c.value ++ drop (offset c + extent c) (bits_of (frame_file p t v))
  stretch_bits =
      let l = part_there p t path v c h e in
      let x : bits_of (frame_file p t v) ≡ c.ahead ++ frame p c.type c.value ++ (l.stretch.back ++ zeros (8 * bytes_for (width (lower t)) - width (lower t))) =
      bits_frame_file p t v h ∙ ap (λ y. y ++ zeros (8 * bytes_for (width (lower t)) - width (lower t))) (sym (ap (frame p t) l.same) ∙ l.stretch.splits c.value l.valid) ∙ append_assoc (c.ahead ++ frame p c.type c.value) l.stretch.back _ in
      let n : length (c.ahead ++ frame p c.type c.value) ≡ offset c + extent c = length-append c.ahead (frame p c.type c.value) ∙ ap (λ k. length c.ahead + k) (length_frame p c.type c.value l.valid) in
      x ∙ ap (λ y. c.ahead ++ frame p c.type c.value ++ y) (sym (ap (drop (offset c + extent c)) x ∙ drop_at (c.ahead ++ frame p c.type c.value) _ (offset c + extent c) n))

  -- the bits of the edited frame file: those of the old one, with the part's own in its stretch
  pub edited_bits : (w : Value c.type) → Valid c.type w → bits_of (frame_file p t (c.put w)) ≡ take (offset c) (bits_of (frame_file p t v)) ++ frame p c.type w ++ drop (offset c + extent c) (bits_of (frame_file p t v))
  edited_bits w o =
      let l = part_there p t path v c h e in
      let i : offset c + extent c ≤ length (frame p t v) = omega (arith, stretch_inside, length_frame p t v h) in
      bits_frame_file p t (c.put w) (l.puts w o)
      ∙ ap (λ x. x ++ z) (edit_frame p t path v c h e w o)
      ∙ append_assoc (take (offset c) (frame p t v) ++ frame p c.type w) (drop (offset c + extent c) (frame p t v)) z
      ∙ sym (ap₂ (λ x y. x ++ frame p c.type w ++ y)
      (ap (take (offset c)) (bits_frame_file p t v h) ∙ take-append-le (offset c) (frame p t v) z (omega arith))
      (ap (drop (offset c + extent c)) (bits_frame_file p t v h) ∙ drop-append-le (offset c + extent c) (frame p t v) z i))
    where
      z : List Bool
      z = zeros (8 * bytes_for (width (lower t)) - width (lower t))

-- bits outside a stretch that is replaced stay
pub outside : (old new inner : List Bool) (o n i : ℕ) → o + n ≤ length old → length inner ≡ n → new ≡ take o old ++ inner ++ drop (o + n) old → (i < o → get_or new i false ≡ get_or old i false) × (o + n ≤ i → get_or new i false ≡ get_or old i false)
outside old new inner o n i h m e = (front, back)
  where
    front : i < o → get_or new i false ≡ get_or old i false
    front k =
        let q : i < length (take o old) = rw (length-take o old) (omega arith) in
        ap (λ l. get_or l i false) (e ∙ append_assoc (take o old) inner (drop (o + n) old)) ∙ get_or-append (take o old) (inner ++ drop (o + n) old) false i q ∙ get_or-take o old i false k

    back : o + n ≤ i → get_or new i false ≡ get_or old i false
    back k =
        let q : length (take o old ++ inner) ≡ o + n = length-append (take o old) inner ∙ ap₂ ◌+◌ (length-take o old ∙ omega arith) m in
        let j : i ≡ length (take o old ++ inner) + (i - (o + n)) = omega arith in
        ap₂ (λ l a. get_or l a false) e j ∙ get_or-append-add (take o old ++ inner) (drop (o + n) old) (i - (o + n)) false ∙ get_or-drop (o + n) old (i - (o + n)) false ∙ ap (λ a. get_or old a false) (add-sub_of_le k)

-- THE EARLIER READING OF A SHAPE

-- where it gives a value, the files say the type and the tree, and the Rust reads the value of them
pub record Reads (ty shape : List ℕ) (r : Reading) : Type 0 where
  pub says : type_of ty ≡ done r.type
  pub stands : shape_of shape ≡ done r.tree
  pub gives : reconstruct r.type r.tree ≡ some r.value

pub reading_is : (ty shape : List ℕ) (r : Reading) → earlier_reading ty shape ≡ done r → Reads ty shape r
unfolding earlier_reading
reading_is ty shape r h =
    let (t, e, f) = outcome_step (type_of ty) _ r h in
    let (s, g, k) = outcome_step (shape_of shape) _ r f in
    let (v, m, n) = outcome_step (or_refuse not_reconstructed (reconstruct t s)) _ r k in
    subst (Reads ty shape) (done_injective (record { type = t; tree = s; value = v }) r n) (record { says = e; stands = g; gives = or_refuse_done not_reconstructed (reconstruct t s) v m })

-- OPERATIONS ON WRITTEN FILES

module _ (ty : List ℕ) (t : Ty) (k : lowering ty ≡ done t) (q : Known ty t) where
  -- a shape of a type that lowers is no longer than a shape file may be
  pub shape_fits : (v : Value t) → Valid t v → length (shape_file (inject t v)) ≤ most_shape_records
  shape_fits v h = omega (arith, shape_size (inject_belongs t v h), length_type_records (lower t), q.size)

  pub shaped_is : (v : Value t) → Valid t v → shaped ty (value_file t v) ≡ done (shape_file (inject t v))
  unfolding shaped
  shaped_is v h = rw (k, value_read_written t v q.file.allowed h)

  pub reconstructed_is : (v : Value t) → Valid t v → reconstructed ty (shape_file (inject t v)) ≡ done (value_file t v)
  unfolding reconstructed earlier_reading
  reconstructed_is v h = rw (q.says, shape_read_written (inject t v) (shape_fits v h), reconstruct_inject t v h, written_clean t v h)

  -- a value that is written, and its shape
  pub record Shaped (val shape : List ℕ) : Type 0 where
    pub value : Value t
    pub valid : Valid t value
    pub shape_is : shape ≡ shape_file (inject t value)
    pub file_is : val ≡ value_file t value

  pub shaped_read : (val shape : List ℕ) → Bytes val → shaped ty val ≡ done shape → Shaped val shape
  unfolding shaped
  shaped_read val shape b h =
      let (v, g, m) = outcome_step (value_of t val) (λ v. done (shape_file (inject t v))) shape (rw k at h) in
      let (o, i) = value_written_read t val v b g in
      record { value = v; valid = o; shape_is = sym (done_injective (shape_file (inject t v)) shape m); file_is = i }

module _ (p : Place) (ty : List ℕ) (t : Ty) (k : lowering ty ≡ done t) (q : Known ty t) where
  pub framed_is : (v : Value t) → Valid t v → framed p ty (value_file t v) ≡ done (frame_file p t v)
  unfolding framed
  framed_is v h = rw (k, value_read_written t v q.file.allowed h)

  pub unframed_is : (v : Value t) → Valid t v → unframed p ty (frame_file p t v) ≡ done (value_file t v)
  unfolding unframed
  unframed_is v h = rw (k, frame_read_written p t v h)

  -- a frame that is read, and its value
  pub record Old (frame old : List ℕ) : Type 0 where
    pub value : Value t
    pub valid : Valid t value
    pub frame_is : frame ≡ frame_file p t value
    pub file_is : old ≡ value_file t value

  pub unframed_read : (frame old : List ℕ) → Bytes frame → unframed p ty frame ≡ done old → Old frame old
  unfolding unframed
  unframed_read frame old b h =
      let (v, g, m) = outcome_step (unframe p t frame) (λ v. done (value_file t v)) old (rw k at h) in
      let (o, i) = frame_written_read p t q.lowers frame v b g in
      record { value = v; valid = o; frame_is = i; file_is = sym (done_injective (value_file t v) old m) }

  pub framed_read : (val frame : List ℕ) → Bytes val → framed p ty val ≡ done frame → Old frame val
  unfolding framed
  framed_read val frame b h =
      let (v, g, m) = outcome_step (value_of t val) (λ v. done (frame_file p t v)) frame (rw k at h) in
      let (o, i) = value_written_read t val v b g in
      record { value = v; valid = o; frame_is = sym (done_injective (frame_file p t v) frame m); file_is = i }
