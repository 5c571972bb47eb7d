-- The records of a value, of the tree that is its shape: what the model's `reconstruct` gives of it, as one of what stands at a record of a type file.
use Rattle.std.specs.Prelude.{Bool, true, false, List, [], ◌∷◌, ◌++◌, ℕ, zero, suc, ◌-◌, length}
use Rattle.std.proofs.Math.Option.{Option, none, some}
use Rattle.num.specs.declared.NonZeroPow2Usize.{NonZeroPow2Usize}
use Rattle.num.specs.Powers.{bound_log2}
use Rattle.model.specs.Options.{map_o, bind_o, map_m}
use Rattle.model.specs.Balanced.{btree}
use Rattle.model.specs.Structural.{SValue}
use Rattle.model.specs.Types.{size}
use Rattle.model.specs.Reconstruct.{as_tuple, as_bit, as_block, combine, as_enum_leaf, reconstruct, reconstructs}
use Rattle.model.specs.ValueFiles.{Rec, encode, encodes}
use Rattle.types.specs.Record.{rec_at}
use Rattle.types.specs.Trees.{tree, treev}
use Rattle.structural.specs.Forms.{is_variant}
use Rattle.types.specs.declared.forms.Parts.{Parts}
use Rattle.types.specs.declared.forms.Parts.TheVariants.{Copies}
use Rattle.told.specs.Forms.{after, hops}

-- as a value of the type at record p, with d levels from there on; or, where a Variant stands, of its payload type
unfoldable pub value_in : ℕ → Bool → List ℕ → ℕ → SValue → Option (List Rec)
value_in d false s p x = map_o (encode (tree d s p)) (reconstruct (tree d s p) x)
value_in d true s p x = map_o (encodes (treev d s p)) (bind_o (as_tuple (size (treev d s p)) x) (λ xs. reconstructs (treev d s p) xs))

-- as one of what stands at record p, be it a type or a Variant
unfoldable pub part : ℕ → List ℕ → ℕ → SValue → Option (List Rec)
part d s p x = value_in d (is_variant (rec_at s p)) s p x

-- n trees as the parts from record p on, one after the other
unfoldable pub row : Parts → ℕ → List ℕ → ℕ → ℕ → List SValue → Option (List Rec)
row k d s zero p [] = some []
row k d s zero p (x ∷ xs) = none
row k d s (suc n) p [] = none
row k d s (suc n) p (x ∷ xs) = bind_o (part d s p x) (λ rs. map_o (λ ys. rs ++ ys) (row k d s n (after k d s p) xs))

-- a balanced product of n parts
unfoldable pub product : Parts → ℕ → List ℕ → ℕ → ℕ → SValue → Option (List Rec)
product k d s n p x = bind_o (as_tuple n x) (λ xs. row k d s n p xs)

-- with a number of its own: the choice taken, or how many elements
abbrev pub numbered : ℕ → Option (List Rec) → Option (ℕ × List Rec)
numbered i = map_o (λ rs. (i, rs))

-- one of n choices, the records of which stand from record p on
unfoldable pub sum : ℕ → List ℕ → List ℕ → ℕ → ℕ → SValue → Option (ℕ × List Rec)
sum d s E n p x = bind_o (as_enum_leaf (btree n) x) (λ y. numbered y.0 (part d s (hops E y.0 p) y.1))

-- a list with the bound
unfoldable pub elements : ℕ → List ℕ → NonZeroPow2Usize → ℕ → SValue → Option (ℕ × List Rec)
elements d s b p x = bind_o (combine (bound_log2 b.value - 1) x) (λ xs. numbered (length xs) (row Copies d s (length xs) p xs))

-- a block of n of its elements: none or all
unfoldable pub blocked : ℕ → List ℕ → ℕ → ℕ → SValue → Option (ℕ × List Rec)
blocked d s n p x = bind_o (as_block n x) (λ xs. numbered (length xs) (row Copies d s (length xs) p xs))

-- n bits
unfoldable pub bit_row : ℕ → SValue → Option (List Bool)
bit_row n x = bind_o (as_tuple n x) (λ xs. map_m as_bit xs)
