-- What is told has a frame as wide as its type: a value that was read is valid, and the shape of a valid value belongs to its lowered type.
use Rattle.std.specs.Prelude.{◌≡◌, Bool, true, false, List, ℕ, ◌+◌, length}
use Rattle.std.proofs.Common.{sym, ◌∙◌}
use Rattle.std.proofs.Math.Path.{ap}
use Rattle.std.proofs.Math.Option.{some, some-injective}
use Rattle.model.specs.Structural.{SValue, Belongs, tuple_of}
use Rattle.model.specs.Values.{inject, injects}
use Rattle.model.specs.ValueFiles.{encode, encodes, parse, parses}
use Rattle.model.specs.Frames.{width, bits}
use Rattle.model.proofs.Laws.Options.{map_o_some}
use Rattle.model.proofs.Laws.Products.{tuple_of_belongs}
use Rattle.model.proofs.Laws.Shapes.{inject_belongs, injects_belong}
use Rattle.model.proofs.Laws.ValueFiles.{parse_sound, parses_sound}
use Rattle.model.proofs.Laws.Frames.{length_bits}
use Rattle.types.specs.Record.{rec_at}
use Rattle.types.specs.Trees.{tree, treev}
use Rattle.types.specs.Lows.{low}
use Rattle.structural.specs.Forms.{is_variant}
use Rattle.structural.specs.Forms as structural
use Rattle.bits.specs.Bits.{Inside, Wrote}
use Rattle.bits.specs.Laws.Writing.{wrote_same}
use Rattle.told.specs.Forms.{rows_from, read}
use Rattle.told.specs.Laws.Seen.{read_some}
use Rattle.told.specs.Forms as told
use Rattle.frame.specs.Forms.{place, framed, frame_at, Fitted, Framed}

told_belongs : (d : ℕ) (b : Bool) (s val : List ℕ) (p v : ℕ) (y : SValue × ℕ) → told.told d b s val p v ≡ some y → Belongs (low d b s p) y.0
unfolding told.told low
told_belongs d false s val p v y h =
    let t = tree d s p in
    let (x, e, q) = map_o_some (λ x. (inject t x.0, v + length (encode t x.0))) (read (parse t (rows_from val v))) y h in
    let b = inject_belongs t x.0 (parse_sound t (rows_from val v) x (read_some (parse t (rows_from val v)) x e)).valid in
    rw (← q) b
told_belongs d true s val p v y h =
    let ts = treev d s p in
    let (x, e, q) = map_o_some (λ x. (tuple_of (injects ts x.0), v + length (encodes ts x.0))) (read (parses ts (rows_from val v))) y h in
    let b = tuple_of_belongs (injects_belong ts x.0 (parses_sound ts (rows_from val v) x (read_some (parses ts (rows_from val v)) x e)).valid) in
    rw (← q) b

pub standing_width : (d : ℕ) (s val : List ℕ) (p v : ℕ) (y : SValue × ℕ) → told.standing d s val p v ≡ some y → length (bits place (structural.standing d s p) y.0) ≡ width (structural.standing d s p)
unfolding told.standing structural.standing
standing_width d s val p v y h = length_bits place (told_belongs d (is_variant (rec_at s p)) s val p v y h)

-- the shape behind a frame
pub record Shape (d : ℕ) (s val : List ℕ) (p v : ℕ) (frame : List Bool) (next : ℕ) : Type 0 where
  pub shape : SValue
  pub told : told.standing d s val p v ≡ some (shape, next)
  pub same : frame ≡ bits place (structural.standing d s p) shape

pub shape_of : (d : ℕ) (s val : List ℕ) (p v : ℕ) (frame : List Bool) (next : ℕ) → frame_at d s val p v ≡ some (frame, next) → Shape d s val p v frame next
unfolding frame_at framed
shape_of d s val p v frame next h =
    let (x, e, q) = map_o_some (λ x. (bits place (structural.standing d s p) x.0, x.1)) (told.standing d s val p v) (frame, next) h in
    let m : x.1 ≡ next = ap (λ (z : List Bool × ℕ). z.1) q in
    record { shape = x.0; told = e ∙ ap (λ n. some (x.0, n)) m; same = sym (ap (λ (z : List Bool × ℕ). z.0) q) }

pub frame_width : (d : ℕ) (s val : List ℕ) (p v : ℕ) (frame : List Bool) (next : ℕ) → frame_at d s val p v ≡ some (frame, next) → length frame ≡ width (structural.standing d s p)
frame_width d s val p v frame next h =
    let x = shape_of d s val p v frame next h in
    ap length x.same ∙ standing_width d s val p v (x.shape, next) x.told

-- AS A SHAPE: what is asked and answered of a frame, by the shape that is told

module _ (d : ℕ) (s val : List ℕ) (p v : ℕ) (x : SValue) (e : ℕ) (h : told.standing d s val p v ≡ some (x, e)) where
  told_framed : frame_at d s val p v ≡ some (bits place (structural.standing d s p) x, e)
  unfolding frame_at framed
  told_framed = ap (framed (structural.standing d s p)) h

  pub shape_fitted : {buf : List ℕ} {bit : ℕ} → Inside buf bit (width (structural.standing d s p)) → Fitted (frame_at d s val p v) buf bit
  shape_fitted i = record { frame = bits place (structural.standing d s p) x; next = e; told = told_framed; inside = rw (standing_width d s val p v (x, e) h) i }

  pub shape_framed : {before : List ℕ} {bit : ℕ} {after : List ℕ} {next end : ℕ} → Framed (frame_at d s val p v) before bit after next end → (next ≡ e) × Wrote before bit (bits place (structural.standing d s p) x) after
  shape_framed {next = next} f =
      let q = some-injective (f.frame, next) (bits place (structural.standing d s p) x, e) (sym f.told ∙ told_framed) in
      (ap (λ (z : List Bool × ℕ). z.1) q, wrote_same f.wrote (ap (λ (z : List Bool × ℕ). z.0) q))
