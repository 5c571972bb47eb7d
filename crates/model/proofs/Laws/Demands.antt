-- THE DEMANDS, as theorems about files. A file is a list of bytes; `p` is the place of the padding (01: after).
-- 1. the two laws of each kind of file. 2. Demand 2. 3. Demand 3. 4. Sizes.
use Rattle.std.specs.Prelude.{◌≡◌, true, false, ◌↔◌, ℕ, ◌+◌, ◌*◌, ◌≤◌}
use Rattle.std.proofs.Math.Path.{refl, sym, ap, ap₂}
use Rattle.std.proofs.Common.{subst, ◌∙◌, arith}
use mathlib.Core.List.{List, ◌++◌, append_assoc}
use Rattle.std.proofs.Math.Option.{Option, none, some, none-ne-some, some-injective}
use Rattle.std.proofs.Math.ListN.{length, take, drop}
use Rattle.std.proofs.Math.Seq.{take_at}
use Rattle.model.specs.Numbers.{stray_bit, frame_length, no_unit, no_such_part, most_type_records, most_shape_records, deepest}
use Rattle.model.specs.Outcome.{Outcome, done, refused, ◌>>=◌, ◌>>◌, or_refuse}
use Rattle.model.specs.Options.{any}
use Rattle.model.specs.Bytes.{Bytes, bits_of, bytes_for}
use Rattle.model.specs.Structural.{SValue, Belongs, type_records}
use Rattle.model.specs.Types.{Ty}
use Rattle.model.specs.TypeFiles.{type_of, type_file}
use Rattle.model.specs.Lowering.{lower}
use Rattle.model.specs.Values.{Value, Valid, inject}
use Rattle.model.specs.Spots.{lacks_unit}
use Rattle.model.specs.ShapeFiles.{shape_of, shape_file}
use Rattle.model.specs.ValueFiles.{value_of, value_file, encode}
use Rattle.model.specs.Frames.{Place, width, frame_bytes, stray_bits, frame as frame_bits, frame_file, unframe}
use Rattle.model.specs.Paths.{Found, found, steps, part_records, replaced}
use Rattle.model.specs.Parts.{Part, part}
use Rattle.model.specs.Operations.{lowering, lowered, shaped, earlier_reading, reconstructed, framed, unframed, part_read, edited, delivered}
use Rattle.model.specs.Conditions.{ShapeBelongs, TypeLowers, FrameAccepted, PathLeads, HasType, Begins}
use Rattle.model.specs.Edits.{MayEdit, Replaced}
use Rattle.model.proofs.Laws.Outcome.{refused_done, done_injective, outcome_step, refuse_step, or_refuse_done}
use Rattle.model.proofs.Laws.Bytes.{length_bits_of}
use Rattle.model.proofs.Laws.TypeFiles.{Allowed, depth, type_read_written, type_written_read}
use Rattle.model.proofs.Laws.TypeBytes.{type_file_bytes}
use Rattle.model.proofs.Laws.ShapeFiles.{shape_read_written, shape_written_read}
use Rattle.model.proofs.Laws.ValueFiles.{value_read_written, value_written_read, bytes_value_file}
use Rattle.model.proofs.Laws.FrameFiles.{bytes_frame_file, length_frame, length_frame_file, frame_read_written, frame_written_read, Framing, other_length, stray, whole, framing}
use Rattle.model.proofs.Laws.Shapes.{inject_belongs, Reconstructs, reconstructs_shape}
use Rattle.model.proofs.Laws.Valid.{reconstruct_valid}
use Rattle.model.proofs.Laws.Sizes.{length_type_records, width_nodes, shape_size, frame_limit}
use Rattle.model.proofs.Laws.Parts.{part_there}
use Rattle.model.proofs.Laws.FileParts.{Stands, Leads}
use Rattle.model.proofs.Laws.Lowering.{Known, known}
use Rattle.model.proofs.Laws.Operations.{reading_is, shape_fits, there, replaced_file, part_file, found_leads, part_allowed, stretch_inside, stretch_bits, edited_bits, outside, shaped_is, reconstructed_is, shaped_read, framed_is, unframed_is, Old, unframed_read, framed_read}
use Rattle.model.proofs.Laws.Delivered.{fills, refuses}

-- 1. THE TWO LAWS OF EACH KIND OF FILE: what is written is read as itself; what is read is exactly what the writer makes

-- type files: of each type whose numbers a file can say, at most 32 deep and 1,024 records long
pub type_file_reads : (t : Ty) → Allowed t → depth t ≤ deepest → length (type_file t) ≤ 4 * most_type_records → Bytes (type_file t) × (type_of (type_file t) ≡ done t)
type_file_reads t a d n = (type_file_bytes t a, type_read_written t a d n)

pub type_file_writes : (file : List ℕ) (t : Ty) → Bytes file → type_of file ≡ done t → (file ≡ type_file t) × Allowed t × (depth t ≤ deepest) × (length file ≤ 4 * most_type_records)
type_file_writes file t b h = let r = type_written_read file t b h in (r.same, r.allowed, r.deep, r.long)

-- value files of a type
pub value_file_reads : (t : Ty) (v : Value t) → Allowed t → Valid t v → Bytes (value_file t v) × (value_of t (value_file t v) ≡ done v)
value_file_reads t v a h = (bytes_value_file t v a h, value_read_written t v a h)

pub value_file_writes : (t : Ty) (file : List ℕ) (v : Value t) → Bytes file → value_of t file ≡ done v → Valid t v × (file ≡ value_file t v)
value_file_writes = value_written_read

-- shape files, as trees
pub shape_file_reads : (s : SValue) → length (shape_file s) ≤ most_shape_records → shape_of (shape_file s) ≡ done s
shape_file_reads = shape_read_written

pub shape_file_writes : (file : List ℕ) (s : SValue) → shape_of file ≡ done s → (file ≡ shape_file s) × (length file ≤ most_shape_records)
shape_file_writes = shape_written_read

-- frame files of a type that lowers
pub frame_file_reads : (p : Place) (t : Ty) (v : Value t) → Valid t v → Bytes (frame_file p t v) × (unframe p t (frame_file p t v) ≡ done v)
frame_file_reads p t v h = (bytes_frame_file p t v, frame_read_written p t v h)

pub frame_file_writes : (p : Place) (ty : List ℕ) (t : Ty) → Bytes ty → lowering ty ≡ done t → (file : List ℕ) (v : Value t) → Bytes file → unframe p t file ≡ done v → Valid t v × (file ≡ frame_file p t v)
frame_file_writes p ty t b k = frame_written_read p t (known ty t b k).lowers

-- 2. DEMAND 2

-- what is read of a shape or a frame: one value file, which writes it again, and no other does
pub record OneValue (reads writes : List ℕ → Outcome (List ℕ)) (file : List ℕ) : Type 0 where
  pub val : List ℕ
  pub read : reads file ≡ done val
  pub back : writes val ≡ done file
  pub only : (other : List ℕ) → Bytes other → writes other ≡ done file → other ≡ val

-- the type that an operation on it has read
with_type : {A P : Type 0} (ty : List ℕ) → Bytes ty → (f : Ty → Outcome A) (a : A) → (lowering ty >>= f) ≡ done a → ((t : Ty) → lowering ty ≡ done t → Known ty t → P) → P
with_type ty b f a h g = let (t, k, m) = outcome_step (lowering ty) f a h in g t k (known ty t b k)

true_false : true ≡ false → ⊥
true_false h = let z : ◌≡◌ {A = ℕ} 0 1 = cc in omega arith

eleven_twelve : ◌≡◌ {A = Outcome (List ℕ)} (refused frame_length) (refused stray_bit) → ⊥
eleven_twelve h = let z : ◌≡◌ {A = ℕ} 11 12 = cc in omega arith

module _ (ty : List ℕ) (t : Ty) (k : lowering ty ≡ done t) (q : Known ty t) where
  shape_back : (val shape : List ℕ) → Bytes val → shaped ty val ≡ done shape → reconstructed ty shape ≡ done val
  shape_back val shape c h = let s = shaped_read ty t k q val shape c h in
      ap (reconstructed ty) s.shape_is ∙ reconstructed_is ty t k q s.value s.valid ∙ ap done (sym s.file_is)

  shape_belongs : (val shape : List ℕ) → Bytes val → shaped ty val ≡ done shape → ShapeBelongs ty shape
  shape_belongs val shape c h = let s = shaped_read ty t k q val shape c h in
      record { type = t; lowers = k; tree = inject t s.value; says = ap shape_of s.shape_is ∙ shape_read_written (inject t s.value) (shape_fits ty t k q s.value s.valid); belongs = inject_belongs t s.value s.valid }

  one_shape : (shape : List ℕ) (tree : SValue) → shape_of shape ≡ done tree → Belongs (lower t) tree → OneValue (reconstructed ty) (shaped ty) shape
  one_shape shape tree h o = go (reconstructs_shape t q.lowers tree o)
    where
      go : Reconstructs t tree → OneValue (reconstructed ty) (shaped ty) shape
      go r =
          let e : shape ≡ shape_file (inject t r.value) = (shape_written_read shape tree h).0 ∙ ap shape_file (sym r.back) in
          let read : reconstructed ty shape ≡ done (value_file t r.value) = rw e (reconstructed_is ty t k q r.value r.valid) in
          record {
            val = value_file t r.value;
            read = read;
            back = rw e (shaped_is ty t k q r.value r.valid);
            only = λ other c m. done_injective other (value_file t r.value) (sym (shape_back other shape c m) ∙ read);
          }

  module _ (p : Place) where
    frame_back : (val frame : List ℕ) → Bytes val → framed p ty val ≡ done frame → unframed p ty frame ≡ done val
    frame_back val frame c h = let s = framed_read p ty t k q val frame c h in
        ap (unframed p ty) s.frame_is ∙ unframed_is p ty t k q s.value s.valid ∙ ap done (sym s.file_is)

    one_frame : (frame val : List ℕ) → Bytes frame → unframed p ty frame ≡ done val → OneValue (unframed p ty) (framed p ty) frame
    one_frame frame val c h = let s = unframed_read p ty t k q frame val c h in
        record {
          val = val;
          read = h;
          back = ap (framed p ty) s.file_is ∙ framed_is p ty t k q s.value s.valid ∙ ap done (sym s.frame_is);
          only = λ other d m. done_injective other val (sym (frame_back other frame d m) ∙ h);
        }

    -- no frame row holds exactly when the frame is read
    clean_read : (frame : List ℕ) → Bytes frame → length frame ≡ frame_bytes t → any (stray_bits p t frame) ≡ false → (val : List ℕ) × (unframed p ty frame ≡ done val)
    clean_read frame c n e = go (framing p t q.lowers frame c)
      where
        go : Framing p t frame → (val : List ℕ) × (unframed p ty frame ≡ done val)
        go (other_length m f) = absurd (m n)
        go (stray m x f g) = absurd (true_false (sym x ∙ e))
        go (whole x v h f g) = (value_file t v, ap (unframed p ty) f ∙ unframed_is p ty t k q v h)

    read_clean : (frame val : List ℕ) → Bytes frame → unframed p ty frame ≡ done val → FrameAccepted p ty frame
    read_clean frame val c e = let s = unframed_read p ty t k q frame val c e in go s.value s.valid s.frame_is (framing p t q.lowers frame c)
      where
        go : (v : Value t) → Valid t v → frame ≡ frame_file p t v → Framing p t frame → FrameAccepted p ty frame
        go v h f (other_length m g) = absurd (m (ap length f ∙ length_frame_file p t v h))
        go v h f (stray m x g w) = absurd (g v h f)
        go v h f (whole x u w g y) = record { type = t; lowers = k; long = ap length f ∙ length_frame_file p t v h; clean = x }

    refused_by : (frame : List ℕ) (n : ℕ) → unframe p t frame ≡ refused n → unframed p ty frame ≡ refused n
    unfolding unframed
    refused_by frame n e = rw (k, e)

    stray_row : (frame : List ℕ) → Bytes frame → (unframed p ty frame ≡ refused stray_bit) ↔ ((length frame ≡ bytes_for (width (lower t))) × ((val : List ℕ) → Bytes val → framed p ty val ≡ done frame → ⊥))
    stray_row frame c = go (framing p t q.lowers frame c)
      where
        go : Framing p t frame → (unframed p ty frame ≡ refused stray_bit) ↔ ((length frame ≡ bytes_for (width (lower t))) × ((val : List ℕ) → Bytes val → framed p ty val ≡ done frame → ⊥))
        go (other_length n e) = ((λ h. absurd (eleven_twelve (sym (refused_by frame frame_length e) ∙ h))), λ h. absurd (n h.0))
        go (stray n c f e) = ((λ h. (n, λ val d m. let s = framed_read p ty t k q val frame d m in f s.value s.valid s.frame_is)), λ h. refused_by frame stray_bit e)
        go (whole c v h f e) = (
          (λ m. absurd (refused_done stray_bit (value_file t v) (sym m ∙ ap (unframed p ty) f ∙ unframed_is p ty t k q v h))),
          λ m. absurd (m.1 (value_file t v) (bytes_value_file t v q.file.allowed h) (framed_is p ty t k q v h ∙ ap done (sym f))),
        )

module _ (ty : List ℕ) (b : Bytes ty) where
  -- every value of a type that lowers has a shape, which belongs to the type
  pub value_has_shape : (t : Ty) → lowering ty ≡ done t → (val : List ℕ) (v : Value t) → value_of t val ≡ done v → Bytes val → (shape : List ℕ) × (shaped ty val ≡ done shape) × ShapeBelongs ty shape
  value_has_shape t k val v h c =
      let q = known ty t b k in
      let (o, f) = value_written_read t val v c h in
      let e : shaped ty val ≡ done (shape_file (inject t v)) = ap (shaped ty) f ∙ shaped_is ty t k q v o in
      (shape_file (inject t v), e, shape_belongs ty t k q val (shape_file (inject t v)) c e)

  -- a written value reads back as itself: by its shape
  pub shape_reads_back : (val shape : List ℕ) → Bytes val → shaped ty val ≡ done shape → reconstructed ty shape ≡ done val
  unfolding shaped
  shape_reads_back val shape c h = with_type ty b _ shape h (λ t k q. shape_back ty t k q val shape c h)

  -- that shape belongs to the type
  pub written_shape_belongs : (val shape : List ℕ) → Bytes val → shaped ty val ≡ done shape → ShapeBelongs ty shape
  unfolding shaped
  written_shape_belongs val shape c h = with_type ty b _ shape h (λ t k q. shape_belongs ty t k q val shape c h)

  -- a shape that belongs to the type reads as exactly one value, which writes it again
  pub belonging_shape_reads : (shape : List ℕ) → ShapeBelongs ty shape → OneValue (reconstructed ty) (shaped ty) shape
  belonging_shape_reads shape s = one_shape ty s.type s.lowers (known ty s.type b s.lowers) shape s.tree s.says s.belongs

  -- whatever shape `reconstruct` accepts, be it of a type that lowers or not, it gives a value of the type
  pub reconstructed_has_type : (shape val : List ℕ) → reconstructed ty shape ≡ done val → (t : Ty) × (v : Value t) × (type_of ty ≡ done t) × (value_of t val ≡ done v)
  unfolding reconstructed
  reconstructed_has_type shape val h =
      let (r, e, f) = outcome_step (earlier_reading ty shape) _ val h in
      let (c, n) = refuse_step no_unit (lacks_unit r.type r.tree) (done (value_file r.type r.value)) val f in
      let k = reading_is ty shape r e in
      (r.type, r.value, k.says, ap (value_of r.type) (sym (done_injective (value_file r.type r.value) val n)) ∙ value_read_written r.type r.value (type_written_read ty r.type b k.says).allowed (reconstruct_valid r.type r.tree r.value k.gives))

  module _ (p : Place) where
    -- every value of a type that lowers has a frame, which is accepted for the type
    pub value_has_frame : (t : Ty) → lowering ty ≡ done t → (val : List ℕ) (v : Value t) → value_of t val ≡ done v → Bytes val → (frame : List ℕ) × (framed p ty val ≡ done frame) × FrameAccepted p ty frame
    value_has_frame t k val v h c =
        let q = known ty t b k in
        let (o, f) = value_written_read t val v c h in
        let e : framed p ty val ≡ done (frame_file p t v) = ap (framed p ty) f ∙ framed_is p ty t k q v o in
        (frame_file p t v, e, read_clean ty t k q p (frame_file p t v) val (bytes_frame_file p t v) (frame_back ty t k q p val (frame_file p t v) c e))

    -- a written value reads back as itself: by its frame
    pub frame_reads_back : (val frame : List ℕ) → Bytes val → framed p ty val ≡ done frame → unframed p ty frame ≡ done val
    unfolding framed
    frame_reads_back val frame c h = with_type ty b _ frame h (λ t k q. frame_back ty t k q p val frame c h)

    -- a frame of the type, that is, one of the right length whose padding and tail bits are zero, reads as exactly one value, which writes it again
    pub accepted_frame_reads : (frame : List ℕ) → Bytes frame → FrameAccepted p ty frame → OneValue (unframed p ty) (framed p ty) frame
    accepted_frame_reads frame c a =
        let q = known ty a.type b a.lowers in
        let (val, h) = clean_read ty a.type a.lowers q p frame c a.long a.clean in
        one_frame ty a.type a.lowers q p frame val c h

    -- and no other is read
    pub frame_accepted : (frame : List ℕ) → Bytes frame → ((val : List ℕ) × (unframed p ty frame ≡ done val)) ↔ FrameAccepted p ty frame
    unfolding unframed
    frame_accepted frame c = ((λ r. with_type ty b _ r.0 r.1 (λ t k q. read_clean ty t k q p frame r.0 c r.1)), λ a. clean_read ty a.type a.lowers (known ty a.type b a.lowers) p frame c a.long a.clean)

    -- row 12 holds exactly when the length is right and no value has that frame
    pub row_12 : (t : Ty) → lowering ty ≡ done t → (frame : List ℕ) → Bytes frame → (unframed p ty frame ≡ refused stray_bit) ↔ ((length frame ≡ bytes_for (width (lower t))) × ((val : List ℕ) → Bytes val → framed p ty val ≡ done frame → ⊥))
    row_12 t k frame c = stray_row ty t k (known ty t b k) p frame c

-- 3. DEMAND 3

-- what a part of a frame is: records i to j of its value's file are the value file of the part's value, and the bits of the whole are
-- those that writing the whole writes before the part, the part's own frame bits, and those behind them
pub record Reading (p : Place) (ty frame path : List ℕ) (target : Found) (old : List ℕ) : Type 0 where
  pub value : Value target.type
  pub reads : value_of target.type (part_records target old) ≡ done value
  pub bit : ℕ
  pub begins : Begins p ty frame path bit
  pub bits : bits_of frame ≡ begins.place.ahead ++ frame_bits p target.type value ++ drop (bit + width (lower target.type)) (bits_of frame)

module _ (p : Place) (ty : List ℕ) (t : Ty) (k : lowering ty ≡ done t) (q : Known ty t) (frame old : List ℕ) (s : Old p ty t k q frame old) (path picks : List ℕ) (even : steps path ≡ done picks) where
  module _ (c : Part (Value t)) (e : part p t picks s.value ≡ some c) (st : Stands p (encode t) c (found t picks (value_file t s.value))) where
    abbrev at_part : Found
    at_part = there p t s.value c (part_there p t picks s.value c s.valid e) (found t picks (value_file t s.value)) st

    begins_there : Begins p ty frame path (length c.ahead)
    begins_there = record { type = t; lowers = k; whole = s.value; reads = ap (unframe p t) s.frame_is ∙ frame_read_written p t s.value s.valid; picks = picks; even = even; place = c; leads = e; here = refl }

    edit_there : (val : List ℕ) (new : Value c.type) → Bytes val → value_of c.type val ≡ done new → (result : List ℕ) × Replaced p ty frame path val at_part old new result
    unfolding begins_there
    edit_there val new b h =
        let l = part_there p t picks s.value c s.valid e in
        let (o, f) = value_written_read c.type val new b h in
        let file : replaced at_part old val ≡ value_file t (c.put new) = ap₂ (replaced at_part) s.file_is f ∙ replaced_file p t s.value c l (found t picks (value_file t s.value)) st new in
        let valid : Valid t (c.put new) = l.puts new o in
        let n : length frame ≡ bytes_for (width (lower t)) = ap length s.frame_is ∙ length_frame_file p t s.value s.valid in
        let i : length c.ahead + width (lower c.type) ≤ 8 * length frame = omega (arith, stretch_inside p t s.value picks c s.valid e) in
        let w : length (frame_bits p c.type new) ≡ width (lower c.type) = length_frame p c.type new o in
        let x : bits_of (frame_file p t (c.put new)) ≡ take (length c.ahead) (bits_of frame) ++ frame_bits p c.type new ++ drop (length c.ahead + width (lower c.type)) (bits_of frame) =
        edited_bits p t s.value picks c s.valid e new o ∙ ap (λ y. take (length c.ahead) (bits_of y) ++ frame_bits p c.type new ++ drop (length c.ahead + width (lower c.type)) (bits_of y)) (sym s.frame_is) in
        let y = stretch_bits p t s.value picks c s.valid e in
        let z : take (length c.ahead) (bits_of frame) ≡ c.ahead = ap (λ f. take (length c.ahead) (bits_of f)) s.frame_is ∙ ap (take (length c.ahead)) (y ∙ append_assoc c.ahead _ _) ∙ take_at c.ahead _ (length c.ahead) refl in (
          frame_file p t (c.put new),
          record {
            frame_was = ap (framed p ty) s.file_is ∙ framed_is p ty t k q s.value s.valid ∙ ap done (sym s.frame_is);
            frame_of = ap (framed p ty) file ∙ framed_is p ty t k q (c.put new) valid;
            reads = unframed_is p ty t k q (c.put new) valid ∙ ap done (sym file);
            size = length_frame_file p t (c.put new) valid ∙ sym n;
            bit = length c.ahead;
            begins = begins_there;
            ahead = z;
            type_is = refl;
            own = w;
            inside = i;
            bits = x;
            others = λ j. outside (bits_of frame) (bits_of (frame_file p t (c.put new))) (frame_bits p c.type new) (length c.ahead) (width (lower c.type)) j (omega (arith, length_bits_of frame)) w x;
          },
        )

    read_there : Reading p ty frame path at_part old
    unfolding begins_there
    read_there =
        let l = part_there p t picks s.value c s.valid e in
        let x = stretch_bits p t s.value picks c s.valid e in
        record {
          value = c.value;
          reads = ap (λ f. value_of c.type (part_records at_part f)) s.file_is ∙ ap (value_of c.type) (part_file p t s.value c l (found t picks (value_file t s.value)) st) ∙ value_read_written c.type c.value (part_allowed p picks t s.value c q.file.allowed e) l.valid;
          bit = length c.ahead;
          begins = begins_there;
          bits = ap bits_of s.frame_is ∙ x ∙ ap (λ y. c.ahead ++ frame_bits p c.type c.value ++ drop (length c.ahead + width (lower c.type)) (bits_of y)) (sym s.frame_is);
        }

  -- what holds of each part of the value holds of each part that the path leads to in the file
  leads_there : (target : Found) → found t picks old ≡ some target → (P : Found → Type 0) → ((c : Part (Value t)) (e : part p t picks s.value ≡ some c) (st : Stands p (encode t) c (found t picks (value_file t s.value))) → P (at_part c e st)) → P target
  leads_there target leads P h = go (part p t picks s.value) refl (found_leads p t s.value picks q.file.allowed s.valid)
    where
      found_there : found t picks (value_file t s.value) ≡ some target
      found_there = ap (found t picks) (sym s.file_is) ∙ leads

      go : (o : Option (Part (Value t))) → part p t picks s.value ≡ o → Leads p (encode t) o (found t picks (value_file t s.value)) → P target
      go none e st = absurd (none-ne-some target (sym st ∙ found_there))
      go (some c) e st = subst P (some-injective (at_part c e st) target (sym st.leads ∙ found_there)) (h c e st)

  part_at : (target : Found) → found t picks old ≡ some target → Reading p ty frame path target old
  part_at target leads = leads_there target leads (λ f. Reading p ty frame path f old) read_there

  edit_at : (target : Found) → found t picks old ≡ some target → (val : List ℕ) (new : Value target.type) → Bytes val → value_of target.type val ≡ done new → (result : List ℕ) × Replaced p ty frame path val target old new result
  edit_at target leads = leads_there target leads (λ f. (val : List ℕ) (new : Value f.type) → Bytes val → value_of f.type val ≡ done new → (result : List ℕ) × Replaced p ty frame path val f old new result) edit_there

module _ (p : Place) (ty frame path val : List ℕ) where
  -- the chain of the edit's steps, once each is known
  edit_chain : (target : Found) (l : PathLeads p ty frame path target) (new : Value target.type) → value_of target.type val ≡ done new → edited p ty frame path val ≡ framed p ty (replaced target l.old val)
  unfolding edited
  edit_chain target l new h = rw (l.lowers, l.accepted, l.even, l.leads, h)

  edit_conditions : (result : List ℕ) → edited p ty frame path val ≡ done result → TypeLowers ty × ((old : List ℕ) × (unframed p ty frame ≡ done old)) × ((target : Found) × PathLeads p ty frame path target × HasType target val)
  unfolding edited
  edit_conditions result h =
      let (t, k, a) = outcome_step (lowering ty) _ result h in
      let (old, l, b) = outcome_step (unframed p ty frame) _ result a in
      let (picks, m, c) = outcome_step (steps path) _ result b in
      let (target, n, d) = outcome_step (or_refuse no_such_part (found t picks old)) _ result c in
      let (new, o, e) = outcome_step (value_of target.type val) _ result d in
      ((t, k), (old, l), (target, record { type = t; lowers = k; old = old; accepted = l; picks = picks; even = m; leads = or_refuse_done no_such_part (found t picks old) target n }, (new, o)))

  module _ (tyb : Bytes ty) (fb : Bytes frame) (vb : Bytes val) where
    -- accepted, it leaves exactly the frame of the old value with that one part replaced, and no bit outside the part's own stretch has changed
    pub edit_leaves : (target : Found) (l : PathLeads p ty frame path target) (has : HasType target val) → (result : List ℕ) × Replaced p ty frame path val target l.old has.0 result × (edited p ty frame path val ≡ done result)
    edit_leaves target l has =
        let q = known ty l.type tyb l.lowers in
        let s = unframed_read p ty l.type l.lowers q frame l.old fb l.accepted in
        let (result, e) = edit_at p ty l.type l.lowers q frame l.old s path l.picks l.even target l.leads val has.0 vb has.1 in
        (result, e, edit_chain target l has.0 has.1 ∙ e.frame_of)

    -- accepted exactly when the type lowers, the frame is accepted for it, the path leads to a part present in it, and the new value has that part's type
    pub edit_accepted : ((result : List ℕ) × (edited p ty frame path val ≡ done result)) ↔ MayEdit p ty frame path val
    edit_accepted = ((λ r. let c = edit_conditions r.0 r.1 in (c.0, (frame_accepted ty tyb p frame fb).0 c.1, c.2)), λ c. let (result, e, g) = edit_leaves c.2.0 c.2.1 c.2.2 in (result, g))

    -- in the lent buffer: accepted, the frame's own bytes become the result
    pub edit_in_place : (result : List ℕ) → edited p ty frame path val ≡ done result → delivered (edited p ty frame path val) frame ≡ (0, length frame, result)
    edit_in_place result h =
        let c = edit_conditions result h in
        let (left, e, g) = edit_leaves c.2.0 c.2.1 c.2.2 in
        let r : left ≡ result = done_injective left result (sym g ∙ h) in
        fills (edited p ty frame path val) result frame h (ap length (sym r) ∙ e.size)

    -- refused, it has changed none
    pub edit_refused : (n : ℕ) → edited p ty frame path val ≡ refused n → delivered (edited p ty frame path val) frame ≡ (n, 0, frame)
    edit_refused n = refuses (edited p ty frame path val) n frame

-- PART READ

module _ (p : Place) (ty frame path : List ℕ) (tyb : Bytes ty) (fb : Bytes frame) where
  part_chain : (target : Found) (l : PathLeads p ty frame path target) → part_read p ty frame path ≡ done (part_records target l.old)
  unfolding part_read
  part_chain target l = rw (l.lowers, l.accepted, l.even, l.leads)

  -- part read gives records i to j of what reading the frame gives
  pub part_read_gives : (target : Found) (l : PathLeads p ty frame path target) → (part_read p ty frame path ≡ done (part_records target l.old)) × Reading p ty frame path target l.old
  part_read_gives target l =
      let q = known ty l.type tyb l.lowers in
      (part_chain target l, part_at p ty l.type l.lowers q frame l.old (unframed_read p ty l.type l.lowers q frame l.old fb l.accepted) path l.picks l.even target l.leads)

  -- and it is accepted exactly when the type lowers, the frame is accepted for it and the path leads to a part
  pub part_read_accepted : ((result : List ℕ) × (part_read p ty frame path ≡ done result)) ↔ ((target : Found) × PathLeads p ty frame path target)
  unfolding part_read
  part_read_accepted = ((λ r. conditions r.0 r.1), λ c. (part_records c.0 c.1.old, part_chain c.0 c.1))
    where
      conditions : (result : List ℕ) → part_read p ty frame path ≡ done result → (target : Found) × PathLeads p ty frame path target
      conditions result h =
          let (t, k, a) = outcome_step (lowering ty) _ result h in
          let (old, l, b) = outcome_step (unframed p ty frame) _ result a in
          let (picks, m, c) = outcome_step (steps path) _ result b in
          let (target, n, d) = outcome_step (or_refuse no_such_part (found t picks old)) _ result c in
          (target, record { type = t; lowers = k; old = old; accepted = l; picks = picks; even = m; leads = or_refuse_done no_such_part (found t picks old) target n })

-- 4. SIZES

module _ (ty : List ℕ) (b : Bytes ty) (t : Ty) (k : lowering ty ≡ done t) where
  -- with s lowered records, 2 * width + 1 ≤ s
  pub width_and_records : 2 * width (lower t) + 1 ≤ length (type_records (lower t))
  width_and_records = omega (arith, width_nodes (lower t), length_type_records (lower t))

  -- a type that lowers has at most 65,536 lowered records, and the lowered file is these
  pub lowered_records : (lowered ty ≡ done (type_records (lower t))) × (length (type_records (lower t)) ≤ most_shape_records)
  unfolding lowered
  lowered_records = (rw k, (known ty t b k).size)

  -- a shape of the type has at most as many
  pub shape_records_at_most : (shape : List ℕ) (tree : SValue) → shape_of shape ≡ done tree → Belongs (lower t) tree → length shape ≤ length (type_records (lower t))
  shape_records_at_most shape tree h o = omega (arith, ap length (shape_written_read shape tree h).0, shape_size o, length_type_records (lower t))

  -- no frame exceeds 4,096 bytes
  pub frame_bytes_at_most : frame_bytes t ≤ 4096
  frame_bytes_at_most = frame_limit (lower t) (known ty t b k).size
