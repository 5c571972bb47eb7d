-- Products and lists: what the model gives of a tuple, an array, a list or an Option is the row of its parts behind the value's record.
use Rattle.std.specs.Prelude.{◌≡◌, Bool, length}
use Rattle.std.proofs.Math.Path.{refl, sym, ap, ap₂}
use Rattle.std.proofs.Common.{◌∙◌}
use Rattle.std.proofs.Math.Bool.{false}
use mathlib.Core.List.{List, [], ◌∷◌, ◌++◌, append-nil}
use Rattle.std.proofs.Math.Option.{Option, none, some}
use Prim.Native.Nat.{ℕ, zero, suc, ◌-◌}
use Rattle.num.specs.declared.NonZeroPow2Usize.{NonZeroPow2Usize}
use Rattle.num.specs.Powers.{bound_two, bound_log2}
use Rattle.model.specs.Options.{map_o, bind_o, map_m, flat_map}
use Rattle.model.specs.Balanced.{btree, grow}
use Rattle.model.specs.Structural.{SValue}
use Rattle.model.specs.Types.{Ty, Tys, option, tuple, array, list, size}
use Rattle.model.specs.Values.{Value}
use Rattle.model.specs.Reconstruct.{unfold_tree, as_tuple, as_option, as_elements, combine, optional, reconstruct, reconstructs}
use Rattle.model.specs.ValueFiles.{Rec, rec, encode, encodes}
use Rattle.model.proofs.Laws.Options.{map_o_map_o, map_o_bind_o, map_o_known, bind_o_known}
use Rattle.model.proofs.Laws.Valid.{length_as_tuple, length_map_m}
use Rattle.types.specs.Walks.{walk}
use Rattle.types.specs.Trees.{end_of, kids, tree}
use Rattle.types.specs.Steps.{Given, GivenRow, given_end, size_kids}
use Rattle.structural.proofs.Laws.Forms.{is_kind, ending_is}
use Rattle.types.specs.declared.forms.Parts.TheVariants.{Copies, Types}
use Rattle.told.specs.Forms.{after}
use Rattle.told.specs.Laws.Rows.{first, rest}
use Rattle.record.specs.Trees.{value_in, part, row, product, numbered, elements}
use Rattle.record.specs.Laws.Maybe.{joined}

-- the records of a tree as a value of the type, and as values of the types in a tuple or a Variant
abbrev pub records_of : (t : Ty) → SValue → Option (List Rec)
records_of t x = map_o (encode t) (reconstruct t x)

abbrev pub payload_of : (ts : Tys) → SValue → Option (List Rec)
payload_of ts x = map_o (encodes ts) (bind_o (as_tuple (size ts) x) (λ xs. reconstructs ts xs))

pub part_is : {d : ℕ} {v : Bool} {s E : List ℕ} {p : ℕ} → Given d v s E p → (x : SValue) → part d s p x ≡ value_in d v s p x
unfolding part
part_is {d} {v} {s} {E} {p} g x = ap (λ b. value_in d b s p x) (is_kind g)

-- ROWS

module _ (d : ℕ) (s E : List ℕ) where
  -- a tuple's parts
  types_row : (n p : ℕ) (xs : List SValue) → GivenRow d false s E n p → row Types d s n p xs ≡ map_o (encodes (kids (tree d s) (walk d false s) n p)) (reconstructs (kids (tree d s) (walk d false s) n p) xs)
  unfolding row kids encode reconstruct after value_in
  types_row zero p [] g = refl
  types_row zero p (x ∷ xs) g = refl
  types_row (suc n) p [] g = refl
  types_row (suc n) p (x ∷ xs) g =
      let t = tree d s p in
      let q = end_of (walk d false s p) in
      let ts = kids (tree d s) (walk d false s) n q in
      ap₂ (λ o u. bind_o o (λ rs. map_o (λ ys. rs ++ ys) u)) (part_is (first g) x) (ap (λ j. row Types d s n j xs) (ending_is (first g)) ∙ types_row n q xs (rw (given_end (first g)) at (rest g)))
      ∙ joined (encode t) (encodes ts) (λ v vs. (v, vs)) (encodes (kids (tree d s) (walk d false s) (suc n) p)) (λ v vs. refl) (reconstruct t x) (reconstructs ts xs)

  -- copies of one
  copies_row : (p : ℕ) (xs : List SValue) → Given d false s E p → row Copies d s (length xs) p xs ≡ map_o (flat_map (λ x. encode (tree d s p) x)) (map_m (λ x. reconstruct (tree d s p) x) xs)
  unfolding row after value_in
  copies_row p [] g = refl
  copies_row p (x ∷ xs) g =
      let t = tree d s p in
      ap₂ (λ o u. bind_o o (λ rs. map_o (λ ys. rs ++ ys) u)) (part_is g x) (copies_row p xs g)
      ∙ joined (encode t) (flat_map (λ x. encode t x)) (λ v vs. v ∷ vs) (flat_map (λ x. encode t x)) (λ v vs. refl) (reconstruct t x) (map_m (λ x. reconstruct t x) xs)

  -- PRODUCTS

  pub payload_product : (n p : ℕ) (x : SValue) → GivenRow d false s E n p → payload_of (kids (tree d s) (walk d false s) n p) x ≡ product Types d s n p x
  unfolding product
  payload_product n p x g =
      let ts = kids (tree d s) (walk d false s) n p in
      map_o_bind_o (reconstructs ts) (encodes ts) (as_tuple (size ts) x)
      ∙ ap (λ m. bind_o (as_tuple m x) (λ xs. map_o (encodes ts) (reconstructs ts xs))) (size_kids (tree d s) (walk d false s) n p)
      ∙ bind_o_known (as_tuple n x) _ _ (λ xs e. sym (types_row n p xs g))

  pub tuple_product : (n p : ℕ) (x : SValue) → GivenRow d false s E n p → records_of (tuple (kids (tree d s) (walk d false s) n p)) x ≡ map_o (λ rs. rec 5 0 n 0 ∷ rs) (product Types d s n p x)
  unfolding encode reconstruct
  tuple_product n p x g =
      let ts = kids (tree d s) (walk d false s) n p in
      sym (map_o_map_o (encodes ts) (λ rs. rec 5 0 (size ts) 0 ∷ rs) (bind_o (as_tuple (size ts) x) (λ xs. reconstructs ts xs)))
      ∙ ap (λ m. map_o (λ rs. rec 5 0 m 0 ∷ rs) (payload_of ts x)) (size_kids (tree d s) (walk d false s) n p)
      ∙ ap (map_o (λ rs. rec 5 0 n 0 ∷ rs)) (payload_product n p x g)

  pub array_product : (n p : ℕ) (x : SValue) → Given d false s E p → records_of (array (tree d s p) n) x ≡ map_o (λ rs. rec 6 0 n 0 ∷ rs) (product Copies d s n p x)
  unfolding encode reconstruct product
  array_product n p x g =
      let t = tree d s p in
      sym (map_o_map_o (flat_map (λ x. encode t x)) (λ rs. rec 6 0 n 0 ∷ rs) (bind_o (as_tuple n x) (map_m (λ x. reconstruct t x))))
      ∙ ap (map_o (λ rs. rec 6 0 n 0 ∷ rs)) (map_o_bind_o (map_m (λ x. reconstruct t x)) (flat_map (λ x. encode t x)) (as_tuple n x)
      ∙ bind_o_known (as_tuple n x) _ _ (λ xs e. sym (ap (λ m. row Copies d s m p xs) (sym (length_as_tuple n x xs e)) ∙ copies_row p xs g)))

  -- LISTS

  pub list_elements : (b : NonZeroPow2Usize) (p : ℕ) (x : SValue) → Given d false s E p → records_of (list (tree d s p) (bound_log2 b.value - 1)) x ≡ map_o (λ y. rec 7 0 y.0 0 ∷ y.1) (elements d s b p x)
  unfolding encode reconstruct elements
  list_elements b p x g =
      let t = tree d s p in
      let e = bound_log2 b.value - 1 in
      map_o_bind_o (map_m (λ x. reconstruct t x)) (encode (list t e)) (combine e x)
      ∙ bind_o_known (combine e x) _ _ (λ xs f.
      map_o_known (map_m (λ x. reconstruct t x) xs) (encode (list t e)) (λ vs. rec 7 0 (length xs) 0 ∷ flat_map (λ x. encode t x) vs) (λ vs f. ap (λ m. rec 7 0 m 0 ∷ flat_map (λ x. encode t x) vs) (length_map_m (λ x. reconstruct t x) xs vs f))
      ∙ sym (map_o_map_o (flat_map (λ x. encode t x)) (λ rs. rec 7 0 (length xs) 0 ∷ rs) (map_m (λ x. reconstruct t x) xs))
      ∙ ap (map_o (λ rs. rec 7 0 (length xs) 0 ∷ rs)) (sym (copies_row p xs g))
      ∙ sym (map_o_map_o (λ rs. (length xs, rs)) (λ (y : ℕ × List Rec). rec 7 0 y.0 0 ∷ y.1) (row Copies d s (length xs) p xs)))
      ∙ sym (map_o_bind_o (λ xs. numbered (length xs) (row Copies d s (length xs) p xs)) (λ (y : ℕ × List Rec). rec 7 0 y.0 0 ∷ y.1) (combine e x))

  -- an Option is a list of none or one
  pub option_elements : (p : ℕ) (x : SValue) → Given d false s E p → records_of (option (tree d s p)) x ≡ map_o (λ y. rec 4 y.0 0 0 ∷ y.1) (elements d s bound_two p x)
  unfolding encode reconstruct elements bound_log2 combine row after unfold_tree btree grow value_in
  option_elements p x g = go (as_option x)
    where
      one : (o : Option (Value (tree d s p))) → map_o (encode (option (tree d s p))) (map_o some o) ≡ map_o (λ (y : ℕ × List Rec). rec 4 y.0 0 0 ∷ y.1) (numbered 1 (bind_o (map_o (encode (tree d s p)) o) (λ rs. some (rs ++ []))))
      one none = refl
      one (some v) = ap (λ l. some (rec 4 1 0 0 ∷ l)) (sym (append-nil (encode (tree d s p) v)))

      go : (o : Option (Option SValue)) → map_o (encode (option (tree d s p))) (bind_o o (optional (λ x. reconstruct (tree d s p) x))) ≡ map_o (λ y. rec 4 y.0 0 0 ∷ y.1) (bind_o (bind_o o (as_elements 1)) (λ xs. numbered (length xs) (row Copies d s (length xs) p xs)))
      go none = refl
      go (some none) = refl
      go (some (some z)) = one (reconstruct (tree d s p) z) ∙ ap (λ o. map_o (λ (y : ℕ × List Rec). rec 4 y.0 0 0 ∷ y.1) (numbered 1 (bind_o o (λ rs. some (rs ++ []))))) (sym (part_is g z))
