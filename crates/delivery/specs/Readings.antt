-- What is known of a type and a shape at each answer of their checks, of which `reconstruct` and `clean_shape` know the same: rows 1 to 5 (`Checked`),
-- rows 8 and 9 (`ShapeTold`), row 10 with the value's records and the shape's surplus (`value_records`). It is what the earlier reading gives.
use Rattle.std.specs.Prelude.{⊤, ◌≡◌, false, List, ℕ, ◌≤◌, length, Option as Optional, Some, None, Result, Ok, Err}
use Rattle.std.proofs.Math.Path.{refl, subst}
use Rattle.std.proofs.Common.{sym, ap, ◌∙◌, arith}
use Rattle.std.proofs.Math.Option.{Option, none, some}
use Rattle.model.specs.Numbers.{most_shape_records}
use Rattle.model.specs.Outcome.{done, refused}
use Rattle.model.specs.Structural.{SValue}
use Rattle.model.specs.Values.{Value}
use Rattle.model.specs.TypeFiles.{type_of}
use Rattle.model.specs.ShapeFiles.{shape_of}
use Rattle.model.specs.Reconstruct.{reconstruct}
use Rattle.model.specs.ValueFiles.{encode}
use Rattle.model.specs.Operations.{earlier_reading}
use Rattle.model.proofs.Laws.ShapeFiles.{shape_written_read}
use Rattle.model.proofs.Laws.Spots.{surplus}
use Rattle.reply.specs.declared.Refusal.{Refusal}
use Rattle.reply.specs.declared.Refusal.TheVariants.{NotReconstructed}
use Rattle.reply.specs.Numbers.{refusal_number}
use Rattle.types.specs.Table.{Checked}
use Rattle.types.specs.Trees.{tree, type_in}
use Rattle.types.specs.Steps.{Given}
use Rattle.types.specs.Accepted.{given}
use Rattle.types.specs.Model.{type_of_is, accepted_tree}
use Rattle.rebuild.specs.ShapeRows.{ShapeTold}
use Rattle.rebuild.specs.Reads.{value_records}
use Rattle.rebuild.specs.Laws.Model.{known, value_records_reconstruct}
use Rattle.rebuild.specs.Laws.Few.{count_in, surplus_in, some_in}

-- what is known of a value is that there is none, or its records
module _ (t : _) where
  known_none : (k : ℕ) (o : Option (Value t)) → known t k o ≡ None → o ≡ none
  known_none k none h = refl
  known_none k (some v) h = let z = ap some_in h in absurd (omega arith)

  pub record Known (k : ℕ) (o : Option (Value t)) (n j : ℕ) : Type 0 where
    pub value : Value t
    pub is : o ≡ some value
    pub count : length (encode t value) ≡ n
    pub over : k ≡ j

  known_some : (k : ℕ) (o : Option (Value t)) (n j : ℕ) → known t k o ≡ Some (n, j) → Known k o n j
  known_some k none n j h = let z = ap some_in h in absurd (omega arith)
  known_some k (some v) n j h = record { value = v; is = refl; count = ap count_in h; over = ap surplus_in h }

module _ {s E : List ℕ} {r : Result ℕ Refusal} (c : Checked s r E) where
  pub bad_type : (sh : List ℕ) {x : Refusal} → r ≡ Err x → earlier_reading s sh ≡ refused (refusal_number x)
  unfolding earlier_reading
  bad_type sh e = rw (type_of_is s, ← c.answer, e) refl

  module _ {n : ℕ} (e : r ≡ Ok n) where
    pub type_given : Given 32 false s E 0
    type_given = given c e

    says : type_of s ≡ done (tree 32 s 0)
    says = accepted_tree s n (sym c.answer ∙ e)

    module _ (sh : List ℕ) {a : Result ⊤ Refusal} (told : ShapeTold sh a) where
      pub bad_shape : {x : Refusal} → a ≡ Err x → earlier_reading s sh ≡ refused (refusal_number x)
      unfolding earlier_reading
      bad_shape h = let q : shape_of sh ≡ refused _ = subst (λ a. ShapeTold sh a) h told in rw (says, q) refl

      module _ (h : a ≡ (Ok tt)) where
        pub shape : (x : SValue) × (shape_of sh ≡ done x)
        shape = subst (λ a. ShapeTold sh a) h told

        pub shape_short : length sh ≤ most_shape_records
        shape_short = (shape_written_read sh shape.0 shape.1).1

        abbrev read : Option (Value (tree 32 s 0))
        read = reconstruct (tree 32 s 0) shape.0

        -- a value of m records, and j of surplus
        abbrev pub Valued : ℕ → ℕ → Type 0
        Valued m j = Known (tree 32 s 0) (surplus (tree 32 s 0) shape.0) read m j

        module _ {v : Optional (ℕ × ℕ)} (k : v ≡ value_records (type_in s) sh) where
          knows : v ≡ known (tree 32 s 0) (surplus (tree 32 s 0) shape.0) read
          unfolding type_in
          knows = k ∙ value_records_reconstruct (tree 32 s 0) sh shape.0 shape.1

          pub no_value : v ≡ None → earlier_reading s sh ≡ refused (refusal_number NotReconstructed)
          unfolding earlier_reading
          no_value q = rw (says, shape.1, known_none (tree 32 s 0) _ read (sym knows ∙ q)) refl

          module _ {m j : ℕ} (q : v ≡ Some (m, j)) where
            pub value : Valued m j
            value = known_some (tree 32 s 0) _ read m j (sym knows ∙ q)

            pub reads : earlier_reading s sh ≡ done (record { type = tree 32 s 0; tree = shape.0; value = value.value })
            unfolding earlier_reading
            reads = rw (says, shape.1, value.is) refl
