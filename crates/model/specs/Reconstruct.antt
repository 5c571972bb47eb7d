-- `Value::reconstruct` and the Rust's `mod destruct`, function by function (01, 'Value file').
-- It never looks where an empty tuple, an array of 0 or a variant without parts is read (`Spots` does), and refuses Never only where it is reached.
use Rattle.std.specs.Prelude.{Bool, true, false, List, [], ◌∷◌, ◌++◌, ℕ, zero, suc, ◌+◌, ◌^◌}
use Rattle.std.proofs.Common.{inl, inr}
use Rattle.std.proofs.Math.Option.{Option, none, some}
use Rattle.model.specs.Options.{map_o, bind_o, map_m}
use Rattle.model.specs.Bytes.{of_bits}
use Rattle.model.specs.Balanced.{BTree, leaf, fork, leaves, btree}
use Rattle.model.specs.Structural.{SValue, unit, left, right, pair}
use Rattle.model.specs.Types.{Ty, Tys, Variants, never, bool, uint, either, option, tuple, array, list, enum, nil, cons, last, more, size, count}
use Rattle.model.specs.Values.{Value, Values, Choice}

-- Unfolder::unfold
unfoldable pub unfold_tree : BTree → SValue → Option (List SValue)
unfold_tree leaf s = some (s ∷ [])
unfold_tree (fork l r) unit = none
unfold_tree (fork l r) (left s) = none
unfold_tree (fork l r) (right s) = none
unfold_tree (fork l r) (pair s t) = bind_o (unfold_tree l s) (λ xs. map_o (λ ys. xs ++ ys) (unfold_tree r t))

-- destruct::as_tuple, as_array
abbrev pub as_tuple : ℕ → SValue → Option (List SValue)
as_tuple zero s = some []
as_tuple (suc n) s = unfold_tree (btree (suc n)) s

-- destruct::as_bit
abbrev pub as_bit : SValue → Option Bool
as_bit unit = none
as_bit (left unit) = some false
as_bit (left (left s)) = none
as_bit (left (right s)) = none
as_bit (left (pair s t)) = none
as_bit (right unit) = some true
as_bit (right (left s)) = none
as_bit (right (right s)) = none
as_bit (right (pair s t)) = none
as_bit (pair s t) = none

-- destruct::as_integer: each bit is checked to be one
abbrev pub as_integer : ℕ → SValue → Option ℕ
as_integer w s = bind_o (as_tuple w s) (λ ss. map_o of_bits (map_m as_bit ss))

-- destruct::as_option
abbrev pub as_option : SValue → Option (Option SValue)
as_option unit = none
as_option (left unit) = some none
as_option (left (left s)) = none
as_option (left (right s)) = none
as_option (left (pair s t)) = none
as_option (right s) = some (some s)
as_option (pair s t) = none

-- destruct::as_list: a block of n, then Combiner::unfold
abbrev pub as_elements : ℕ → Option SValue → Option (List SValue)
as_elements n none = some []
as_elements n (some s) = as_tuple n s

abbrev pub as_block : ℕ → SValue → Option (List SValue)
as_block n s = bind_o (as_option s) (as_elements n)

unfoldable pub combine : ℕ → SValue → Option (List SValue)
combine zero s = as_block 1 s
combine (suc e) unit = none
combine (suc e) (left s) = none
combine (suc e) (right s) = none
combine (suc e) (pair b r) = bind_o (as_block (2 ^ suc e) b) (λ xs. map_o (λ ys. xs ++ ys) (combine e r))

-- destruct::as_enum_leaf
unfoldable pub as_enum_leaf : BTree → SValue → Option (ℕ × SValue)
as_enum_leaf leaf s = some (0, s)
as_enum_leaf (fork l r) unit = none
as_enum_leaf (fork l r) (left s) = as_enum_leaf l s
as_enum_leaf (fork l r) (right s) = map_o (λ x. (leaves l + x.0, x.1)) (as_enum_leaf r s)
as_enum_leaf (fork l r) (pair s t) = none

-- an Option's value, if its shape has one
abbrev pub optional : {A : Type 0} → (SValue → Option A) → Option SValue → Option (Option A)
optional f none = some none
optional f (some s) = map_o some (f s)

unfoldable mutual
  pub reconstruct : (t : Ty) → SValue → Option (Value t)
  reconstruct never s = none
  reconstruct bool s = as_bit s
  reconstruct (uint w) s = as_integer w s
  reconstruct (either a b) unit = none
  reconstruct (either a b) (left s) = map_o inl (reconstruct a s)
  reconstruct (either a b) (right s) = map_o inr (reconstruct b s)
  reconstruct (either a b) (pair s t) = none
  reconstruct (option a) s = bind_o (as_option s) (optional (λ x. reconstruct a x))
  reconstruct (tuple ts) s = bind_o (as_tuple (size ts) s) (λ ss. reconstructs ts ss)
  reconstruct (array a n) s = bind_o (as_tuple n s) (map_m (λ x. reconstruct a x))
  reconstruct (list a e) s = bind_o (combine e s) (map_m (λ x. reconstruct a x))
  reconstruct (enum vs) s = bind_o (as_enum_leaf (btree (count vs)) s) (λ x. choose vs x.0 x.1)

  pub reconstructs : (ts : Tys) → List SValue → Option (Values ts)
  reconstructs nil [] = some tt
  reconstructs nil (s ∷ ss) = none
  reconstructs (cons t ts) [] = none
  reconstructs (cons t ts) (s ∷ ss) = bind_o (reconstruct t s) (λ v. map_o (λ vs. (v, vs)) (reconstructs ts ss))

  -- variant i, its payload from the shape at the leaf
  pub choose : (vs : Variants) → ℕ → SValue → Option (Choice vs)
  choose (last ts) zero s = bind_o (as_tuple (size ts) s) (λ ss. reconstructs ts ss)
  choose (last ts) (suc i) s = none
  choose (more ts vs) zero s = map_o inl (bind_o (as_tuple (size ts) s) (λ ss. reconstructs ts ss))
  choose (more ts vs) (suc i) s = map_o inr (choose vs i s)
