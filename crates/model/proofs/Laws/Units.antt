-- R-5, as theorems about files: where reading a shape refuses with 20, that it is the earlier reading elsewhere, and which shapes it accepts.
-- Both operations stand on one reading (`earlier_reading`): each law is a case on what that gives, and on whether what it read lacks a unit (`View`).
use Rattle.std.specs.Prelude.{◌≡◌, Bool, true, false, List, ◌↔◌, ℕ}
use Rattle.std.proofs.Math.Path.{refl}
use Rattle.std.proofs.Common.{sym, ap, ◌∙◌, true≢false}
use Rattle.model.specs.Numbers.{no_unit}
use Rattle.model.specs.Outcome.{Outcome, done, refused}
use Rattle.model.specs.Bytes.{Bytes}
use Rattle.model.specs.Values.{Valid, inject}
use Rattle.model.specs.Spots.{lacks_unit}
use Rattle.model.specs.ShapeFiles.{shape_file}
use Rattle.model.specs.ValueFiles.{value_file}
use Rattle.model.specs.Conditions.{ShapeBelongs, LacksUnit, TypeLowers}
use Rattle.model.specs.Operations.{Reading, earlier_reading, earlier_reconstructed, reconstructed, lowering, shaped}
use Rattle.model.proofs.Laws.Outcome.{refused_done, done_injective}
use Rattle.model.proofs.Laws.ShapeFiles.{shape_written_read}
use Rattle.model.proofs.Laws.Spots.{clean_written}
use Rattle.model.proofs.Laws.ValueFiles.{bytes_value_file}
use Rattle.model.proofs.Laws.Valid.{reconstruct_valid}
use Rattle.model.proofs.Laws.Lowering.{Known, known}
use Rattle.model.proofs.Laws.Operations.{Reads, reading_is, shaped_is}
use Rattle.model.proofs.Laws.Demands.{written_shape_belongs, belonging_shape_reads}
use Rattle.model.proofs.Laws.Numbered.{earlier_row}

module _ (ty shape : List ℕ) where
  -- WHAT IS READ, AND WHAT IS NOT

  module _ (r : Reading) (e : earlier_reading ty shape ≡ done r) where
    earlier_is : earlier_reconstructed ty shape ≡ done (value_file r.type r.value)
    unfolding earlier_reconstructed
    earlier_is = rw e refl

    pub clean_is : lacks_unit r.type r.tree ≡ false → reconstructed ty shape ≡ done (value_file r.type r.value)
    unfolding reconstructed
    clean_is h = rw (e, h) refl

    lacking_is : lacks_unit r.type r.tree ≡ true → reconstructed ty shape ≡ refused no_unit
    unfolding reconstructed
    lacking_is h = rw (e, h) refl

  module _ (n : ℕ) (e : earlier_reading ty shape ≡ refused n) where
    earlier_not : earlier_reconstructed ty shape ≡ refused n
    unfolding earlier_reconstructed
    earlier_not = rw e refl

    not_read : reconstructed ty shape ≡ refused n
    unfolding reconstructed
    not_read = rw e refl

  -- so there are three cases
  data View : Type 0 where
    refuses : (n : ℕ) → earlier_reading ty shape ≡ refused n → View
    lacking : (r : Reading) → earlier_reading ty shape ≡ done r → lacks_unit r.type r.tree ≡ true → View
    clean : (r : Reading) → earlier_reading ty shape ≡ done r → lacks_unit r.type r.tree ≡ false → View

  view : View
  view = go (earlier_reading ty shape) refl
    where
      by_unit : (r : Reading) → earlier_reading ty shape ≡ done r → (b : Bool) → lacks_unit r.type r.tree ≡ b → View
      by_unit r e true l = lacking r e l
      by_unit r e false l = clean r e l

      go : (o : Outcome Reading) → earlier_reading ty shape ≡ o → View
      go (done r) e = by_unit r e (lacks_unit r.type r.tree) refl
      go (refused n) e = refuses n e

  -- TODAY'S READING AND THE EARLIER ONE

  -- 20 exactly where the earlier reading gives a value and anything but a unit stands at a spot
  pub no_unit_row : (reconstructed ty shape ≡ refused no_unit) ↔ LacksUnit ty shape
  no_unit_row = (there view, λ l. lacking_is l.read l.reads l.lacks)
    where
      same : (m n : ℕ) → ◌≡◌ {A = Outcome (List ℕ)} (refused m) (refused n) → m ≡ n
      same m n h = cc

      there : View → reconstructed ty shape ≡ refused no_unit → LacksUnit ty shape
      there (refuses n e) h = absurd (true≢false (sym ((earlier_row ty shape).refuses no_unit (earlier_not n e ∙ ap refused (same n no_unit (sym (not_read n e) ∙ h))))))
      there (lacking r e l) h = record { read = r; reads = e; lacks = l }
      there (clean r e l) h = absurd (refused_done no_unit _ (sym h ∙ clean_is r e l))

  -- and elsewhere it is the earlier reading
  pub elsewhere_earlier : (LacksUnit ty shape → ⊥) → reconstructed ty shape ≡ earlier_reconstructed ty shape
  elsewhere_earlier h = go view
    where
      go : View → reconstructed ty shape ≡ earlier_reconstructed ty shape
      go (refuses n e) = not_read n e ∙ sym (earlier_not n e)
      go (lacking r e l) = absurd (h (record { read = r; reads = e; lacks = l }))
      go (clean r e l) = clean_is r e l ∙ sym (earlier_is r e)

  -- what the earlier reading refuses is refused with its number: a shape that is 10 anywhere is 10, whatever stands at its spots
  pub earlier_refuses : (n : ℕ) → earlier_reconstructed ty shape ≡ refused n → reconstructed ty shape ≡ refused n
  earlier_refuses n h = elsewhere_earlier (λ l. refused_done n _ (sym h ∙ earlier_is l.read l.reads)) ∙ h

  -- what is accepted the earlier reading accepts, too, with the same value
  pub today_earlier : (val : List ℕ) → reconstructed ty shape ≡ done val → earlier_reconstructed ty shape ≡ done val
  today_earlier val h = sym (elsewhere_earlier (λ l. refused_done no_unit val (sym (no_unit_row.1 l) ∙ h))) ∙ h

  -- THE ACCEPTED SHAPES

  -- each is the shape of its value
  pub record Accepted (val : List ℕ) : Type 0 where
    pub read : Reading
    pub reads : earlier_reading ty shape ≡ done read
    pub file : val ≡ value_file read.type read.value
    pub is : shape ≡ shape_file (inject read.type read.value)

  pub accepted : (val : List ℕ) → reconstructed ty shape ≡ done val → Accepted val
  accepted val h = go view
    where
      go : View → Accepted val
      go (refuses n e) = absurd (refused_done n val (sym (not_read n e) ∙ h))
      go (lacking r e l) = absurd (refused_done no_unit val (sym (lacking_is r e l) ∙ h))
      go (clean r e l) =
          let k = reading_is ty shape r e in
          record {
            read = r;
            reads = e;
            file = done_injective val _ (sym h ∙ clean_is r e l);
            is = (shape_written_read shape r.tree k.stands).0 ∙ ap shape_file ((clean_written r.type r.tree r.value k.gives).0 l);
          }

-- for a type that lowers
module _ (ty : List ℕ) (b : Bytes ty) (l : TypeLowers ty) (shape : List ℕ) where
  module _ (val : List ℕ) (h : reconstructed ty shape ≡ done val) where
    abbrev a : Accepted ty shape val
    a = accepted ty shape val h

    abbrev r : Reading
    r = a.read

    reads : Reads ty shape r
    reads = reading_is ty shape r a.reads

    lowers : lowering ty ≡ done r.type
    lowers = l.1 ∙ ap done (done_injective l.0 _ (sym (known ty l.0 b l.1).says ∙ reads.says))

    knows : Known ty r.type
    knows = known ty r.type b lowers

    valid : Valid r.type r.value
    valid = reconstruct_valid r.type r.tree r.value reads.gives

    -- an accepted shape is what the writer makes of its value
    pub accepted_written : shaped ty val ≡ done shape
    accepted_written = ap (shaped ty) a.file ∙ shaped_is ty r.type lowers knows r.value valid ∙ ap done (sym a.is)

    -- so it belongs to the type
    belongs : ShapeBelongs ty shape
    belongs = written_shape_belongs ty b val shape (rw a.file (bytes_value_file r.type r.value knows.file.allowed valid)) accepted_written

  -- reading accepts exactly the shapes that belong to the type
  pub accepted_belongs : ((val : List ℕ) × (reconstructed ty shape ≡ done val)) ↔ ShapeBelongs ty shape
  accepted_belongs = ((λ x. belongs x.0 x.1), λ s. let o = belonging_shape_reads ty b shape s in (o.val, o.read))
