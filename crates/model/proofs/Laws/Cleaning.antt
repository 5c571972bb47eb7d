-- R-6, as theorems about files: cleaning refuses what the earlier reading refuses, and of what it reads it makes the shape of the value,
-- so that today's reading accepts it, with the same value. The laws stand on that and on what is proved of today's reading (`Units`).
use Rattle.std.specs.Prelude.{◌≡◌, List, ◌↔◌, ℕ, ◌+◌, ◌≤◌, length}
use Rattle.std.proofs.Math.Path.{refl, ap}
use Rattle.std.proofs.Common.{sym, ◌∙◌, arith}
use Rattle.model.specs.Numbers.{most_shape_records}
use Rattle.model.specs.Outcome.{done, refused}
use Rattle.model.specs.Bytes.{Bytes}
use Rattle.model.specs.Values.{inject}
use Rattle.model.specs.Spots.{cleaned}
use Rattle.model.specs.ShapeFiles.{shape_of, shape_file}
use Rattle.model.specs.ValueFiles.{value_file}
use Rattle.model.specs.Conditions.{ShapeBelongs, TypeLowers}
use Rattle.model.specs.Operations.{Reading, earlier_reading, earlier_reconstructed, reconstructed, cleaned_shape, shaped}
use Rattle.model.proofs.Laws.Outcome.{outcome_made, made_refused}
use Rattle.model.proofs.Laws.ShapeFiles.{shape_read_written, shape_written_read}
use Rattle.model.proofs.Laws.Spots.{surplus, cleaned_length, no_surplus, clean_same, cleaned_inject, cleaned_reads}
use Rattle.model.proofs.Laws.Operations.{Reads, reading_is}
use Rattle.model.proofs.Laws.Units.{clean_is, accepted, accepted_written, accepted_belongs}

module _ (ty shape : List ℕ) where
  -- REFUSALS

  -- they are those of the earlier reading, each with its number
  pub cleaned_refusals : (n : ℕ) → (cleaned_shape ty shape ≡ refused n) ↔ (earlier_reconstructed ty shape ≡ refused n)
  unfolding cleaned_shape earlier_reconstructed
  cleaned_refusals n =
      let c = made_refused (earlier_reading ty shape) (λ r. shape_file (cleaned r.type r.tree)) n in
      let e = made_refused (earlier_reading ty shape) (λ r. value_file r.type r.value) n in
      ((λ h. e.1 (c.0 h)), λ h. c.1 (e.0 h))

  -- RESULTS

  module _ (r : Reading) (e : earlier_reading ty shape ≡ done r) where
    reads : Reads ty shape r
    reads = reading_is ty shape r e

    pub cleaned_is : cleaned_shape ty shape ≡ done (shape_file (cleaned r.type r.tree))
    unfolding cleaned_shape
    cleaned_is = rw e refl

    -- the shape of the value that was read
    pub cleaned_value : cleaned_shape ty shape ≡ done (shape_file (inject r.type r.value))
    cleaned_value = cleaned_is ∙ ap (λ s. done (shape_file s)) (cleaned_inject r.type r.tree r.value reads.gives)

    pub length_is : length (shape_file (cleaned r.type r.tree)) + surplus r.type r.tree ≡ length shape
    length_is = cleaned_length r.type r.tree ∙ ap length (sym (shape_written_read shape r.tree reads.stands).0)

    -- it is no longer than the shape, so the file says one
    says_cleaned : shape_of (shape_file (cleaned r.type r.tree)) ≡ done (cleaned r.type r.tree)
    says_cleaned = shape_read_written (cleaned r.type r.tree) (omega (arith, length_is, (shape_written_read shape r.tree reads.stands).1))

    -- which both readings read as that value
    read_again : earlier_reading ty (shape_file (cleaned r.type r.tree)) ≡ done (record { type = r.type; tree = cleaned r.type r.tree; value = r.value })
    unfolding earlier_reading
    read_again = rw (reads.says, says_cleaned, (cleaned_reads r.type r.tree r.value reads.gives).0) refl

    passes : reconstructed ty (shape_file (cleaned r.type r.tree)) ≡ done (value_file r.type r.value)
    passes = clean_is ty _ _ read_again (cleaned_reads r.type r.tree r.value reads.gives).1

    unchanged : length (shape_file (cleaned r.type r.tree)) ≡ length shape → shape_file (cleaned r.type r.tree) ≡ shape
    unchanged h =
        let z : surplus r.type r.tree ≡ 0 = omega (arith, length_is) in
        ap shape_file ((clean_same r.type r.tree).0 ((no_surplus r.type r.tree).1 z)) ∙ sym (shape_written_read shape r.tree reads.stands).0

  -- a cleaned shape was read before
  was_read : (clean : List ℕ) → cleaned_shape ty shape ≡ done clean → (r : Reading) × (earlier_reading ty shape ≡ done r) × (shape_file (cleaned r.type r.tree) ≡ clean)
  unfolding cleaned_shape
  was_read clean h = outcome_made (earlier_reading ty shape) _ clean h

  -- it passes today's reading with the value that the earlier reading gave
  pub cleaned_passes : (val : List ℕ) → earlier_reconstructed ty shape ≡ done val → (clean : List ℕ) × (cleaned_shape ty shape ≡ done clean) × (reconstructed ty clean ≡ done val)
  unfolding earlier_reconstructed
  cleaned_passes val h =
      let (r, e, k) = outcome_made (earlier_reading ty shape) _ val h in
      (shape_file (cleaned r.type r.tree), cleaned_is r e, passes r e ∙ ap done k)

  -- and there is such a value whenever a shape is cleaned
  pub passes_cleaned : (clean : List ℕ) → cleaned_shape ty shape ≡ done clean → (val : List ℕ) × (earlier_reconstructed ty shape ≡ done val) × (reconstructed ty clean ≡ done val)
  unfolding earlier_reconstructed
  passes_cleaned clean h =
      let (r, e, k) = was_read clean h in
      (value_file r.type r.value, rw e refl, ap (reconstructed ty) (sym k) ∙ passes r e)

  -- nothing is longer than it was
  pub never_longer : (clean : List ℕ) → cleaned_shape ty shape ≡ done clean → length clean ≤ length shape
  never_longer clean h = let (r, e, k) = was_read clean h in omega (arith, length_is r e, ap length k)

  -- so a shape file has room for it
  pub cleaned_short : (clean : List ℕ) → cleaned_shape ty shape ≡ done clean → length clean ≤ most_shape_records
  cleaned_short clean h = let (r, e, k) = was_read clean h in omega (arith, never_longer clean h, (shape_written_read shape r.tree (reads r e).stands).1)

  -- and what is as long is as it was
  pub as_long_same : (clean : List ℕ) → cleaned_shape ty shape ≡ done clean → length clean ≡ length shape → clean ≡ shape
  as_long_same clean h l = let (r, e, k) = was_read clean h in sym k ∙ unchanged r e (ap length k ∙ l)

  -- a shape comes back equal exactly if it passes today's reading
  pub passing_same : ((val : List ℕ) × (reconstructed ty shape ≡ done val)) ↔ (cleaned_shape ty shape ≡ done shape)
  passing_same = (
    (λ x. let a = accepted ty shape x.0 x.1 in cleaned_value a.read a.reads ∙ ap done (sym a.is)),
    λ h. let x = passes_cleaned shape h in (x.0, x.2),
  )

-- cleaning again changes nothing
pub cleaned_again : (ty shape clean : List ℕ) → cleaned_shape ty shape ≡ done clean → cleaned_shape ty clean ≡ done clean
cleaned_again ty shape clean h = let x = passes_cleaned ty shape clean h in (passing_same ty clean).0 (x.0, x.2)

-- for a type that lowers
module _ (ty : List ℕ) (b : Bytes ty) (l : TypeLowers ty) (shape val : List ℕ) (h : earlier_reconstructed ty shape ≡ done val) where
  -- it is what the writer makes of that value
  pub cleaned_written : cleaned_shape ty shape ≡ shaped ty val
  cleaned_written = let x = cleaned_passes ty shape val h in x.1 ∙ sym (accepted_written ty b l x.0 val x.2)

  -- so it belongs to the type
  pub cleaned_belongs : (clean : List ℕ) → cleaned_shape ty shape ≡ done clean → ShapeBelongs ty clean
  cleaned_belongs clean c = let x = passes_cleaned ty shape clean c in (accepted_belongs ty b l clean).0 (x.0, x.2)
