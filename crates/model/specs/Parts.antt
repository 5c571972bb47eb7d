-- Parts of a value as a tree, and their stretch (01, 'Part read and part edit'): the bits of the part's own frame inside the whole one.
-- It begins where writing the whole value begins the part, and is as long as the part's type is wide.
-- That these are the parts that a path leads to in the value's file is a law (`Laws.FileParts`).
use Rattle.std.specs.Prelude.{Bool, true, false, List, [], ◌∷◌, ◌++◌, map, ℕ, zero, suc, ◌-◌, ◌^◌, ltb, length, take, drop, set}
use Rattle.std.proofs.Common.{inl, inr}
use Rattle.std.proofs.Math.Option.{Option, none, some}
use Rattle.std.proofs.Math.ListN.{get_elem?}
use Rattle.model.specs.Options.{pick, map_o, bind_o, flat_map}
use Rattle.model.specs.Bytes.{zeros}
use Rattle.model.specs.Balanced.{BTree, leaf, fork, leaves, btree}
use Rattle.model.specs.Structural.{SType, SValue, balanced_sum, block, block_type}
use Rattle.model.specs.Types.{Ty, Tys, Variants, never, bool, uint, either, option, tuple, array, list, enum, nil, cons, last, more, count}
use Rattle.model.specs.Lowering.{lower, payloads}
use Rattle.model.specs.Values.{Value, Values, Choice, inject, index}
use Rattle.model.specs.Frames.{Place, after, before, width, bits, frame}

-- a part of something: its type, its value, the whole with another value in its place, and the bits that writing the whole writes before it
pub record Part (X : Type 0) : Type 0 where
  pub type : Ty
  pub value : Value type
  pub put : Value type → X
  pub ahead : List Bool

-- a part of what is itself inside
abbrev pub within : {X Y : Type 0} → (X → Y) → List Bool → Part X → Part Y
within g front c = record { type = c.type; value = c.value; put = λ w. g (c.put w); ahead = front ++ c.ahead }

-- element i, behind these bits
abbrev pub element_of : (a : Ty) → List Bool → ℕ → List (Value a) → Option (Part (List (Value a)))
element_of a front i xs = map_o (λ x. record { type = a; value = x; put = λ w. set xs i w; ahead = front }) (get_elem? xs i)

module _ (p : Place) where
  -- the padding between tag and payload
  abbrev pub lead : ℕ → List Bool
  lead n = elim p [ after ↦ [] | before ↦ zeros n ]

  -- before the payload of variant i of a balanced sum
  unfoldable pub ahead_of_payload : BTree → List SType → ℕ → List Bool
  ahead_of_payload leaf ts i = []
  ahead_of_payload (fork l r) ts i =
      let a = width (balanced_sum l (take (leaves l) ts)) in
      let b = width (balanced_sum r (drop (leaves l) ts)) in
      pick (ltb i (leaves l))
      (false ∷ lead (b - a) ++ ahead_of_payload l (take (leaves l) ts) i)
      (true ∷ lead (a - b) ++ ahead_of_payload r (drop (leaves l) ts) (i - leaves l))

  -- before element i of an array
  abbrev pub ahead_in_array : SType → List SValue → ℕ → List Bool
  ahead_in_array t ss i = flat_map (bits p t) (take i ss)

  -- before element i of a list: the blocks in front of its block, that block's tag, the elements in front of it there
  unfoldable pub ahead_in_list : ℕ → SType → List SValue → ℕ → List Bool
  ahead_in_list zero t ss i = true ∷ ahead_in_array t ss i
  ahead_in_list (suc e) t ss i =
      pick (ltb (length ss) (2 ^ suc e))
      (bits p (block_type (2 ^ suc e) t) (block []) ++ ahead_in_list e t ss i)
      (pick (ltb i (2 ^ suc e))
      (true ∷ ahead_in_array t ss i)
      (bits p (block_type (2 ^ suc e) t) (block (take (2 ^ suc e) ss)) ++ ahead_in_list e t (drop (2 ^ suc e) ss) (i - 2 ^ suc e)))

  -- ONE STEP

  unfoldable pub part_of : (ts : Tys) → ℕ → Values ts → Option (Part (Values ts))
  part_of nil i v = none
  part_of (cons t ts) zero v = some (record { type = t; value = v.0; put = λ w. (w, v.1); ahead = [] })
  part_of (cons t ts) (suc i) v = map_o (within (λ r. (v.0, r)) (frame p t v.0)) (part_of ts i v.1)

  unfoldable pub choice_part : (vs : Variants) → ℕ → Choice vs → Option (Part (Choice vs))
  choice_part (last ts) i c = part_of ts i c
  choice_part (more ts vs) i (inl c) = map_o (within inl []) (part_of ts i c)
  choice_part (more ts vs) i (inr c) = map_o (within inr []) (choice_part vs i c)

  unfoldable pub child : (t : Ty) → ℕ → Value t → Option (Part (Value t))
  child never i v = none
  child bool i v = none
  child (uint w) i v = none
  child (either a b) zero (inl x) = some (record { type = a; value = x; put = inl; ahead = false ∷ lead (width (lower b) - width (lower a)) })
  child (either a b) zero (inr y) = none
  child (either a b) (suc zero) (inl x) = none
  child (either a b) (suc zero) (inr y) = some (record { type = b; value = y; put = inr; ahead = true ∷ lead (width (lower a) - width (lower b)) })
  child (either a b) (suc (suc i)) v = none
  child (option a) zero none = none
  child (option a) zero (some x) = some (record { type = a; value = x; put = some; ahead = true ∷ [] })
  child (option a) (suc i) v = none
  child (tuple ts) i v = part_of ts i v
  child (array a n) i xs = element_of a (ahead_in_array (lower a) (map (inject a) xs) i) i xs
  child (list a e) i xs = element_of a (ahead_in_list e (lower a) (map (inject a) xs) i) i xs
  child (enum vs) i c = map_o (within (λ d. d) (ahead_of_payload (btree (count vs)) (payloads vs) (index vs c))) (choice_part vs i c)

  -- A PATH

  unfoldable pub part : (t : Ty) → List ℕ → Value t → Option (Part (Value t))
  part t [] v = some (record { type = t; value = v; put = λ w. w; ahead = [] })
  part t (i ∷ path) v = bind_o (child t i v) (λ c. map_o (within c.put c.ahead) (part c.type path c.value))

-- the stretch: its first bit, and its length
abbrev pub offset : {X : Type 0} → Part X → ℕ
offset c = length c.ahead

abbrev pub extent : {X : Type 0} → Part X → ℕ
extent c = width (lower c.type)
