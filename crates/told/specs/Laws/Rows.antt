-- Parts in a row: what stands one after the other is what the model's reader of several values tells.
use Rattle.std.specs.Prelude.{◌≡◌, Bool, false, List, [], ◌∷◌, map, get_or}
use Rattle.std.proofs.Math.Path.{refl, ap}
use Rattle.std.proofs.Common.{sym, ◌∙◌, add-zero, sub-one, arith}
use Rattle.std.proofs.Math.Option.{Option, some}
use Prim.Native.Nat.{ℕ, zero, suc, ◌<◌}
use Rattle.model.specs.Options.{map_o, bind_o, flat_map}
use Rattle.model.specs.Structural.{SValue}
use Rattle.model.specs.Types.{Ty, Tys}
use Rattle.model.specs.Values.{Valid, inject, injects}
use Rattle.model.specs.ValueFiles.{encode, encodes, many, parse, parse_at, parses}
use Rattle.model.proofs.Laws.Options.{bind_o_known}
use Rattle.model.proofs.Laws.ValueFiles.{parse_sound}
use Rattle.types.specs.Walks.{walk}
use Rattle.types.specs.Trees.{end_of, kids, tree}
use Rattle.types.specs.Steps.{Given, GivenRow, given_first, given_rest, given_end, given_inside}
use Rattle.structural.specs.Forms.{Stands}
use Rattle.structural.proofs.Laws.Forms.{is_kind, stands, stands_end, ending_is}
use Rattle.types.specs.declared.forms.Parts.{Parts}
use Rattle.types.specs.declared.forms.Parts.TheVariants.{Copies, Types}
use Rattle.told.specs.Forms.{Told, rows_from, shown, told, standing, after, skip, row, GivenParts, hops, Hops, after_at}
use Rattle.told.specs.Laws.Seen.{seen, seen_then}

-- ONE OF THEM

pub standing_is : {d : ℕ} {v : Bool} {s E : List ℕ} {p : ℕ} (val : List ℕ) (at : ℕ) → Given d v s E p → standing d s val p at ≡ told d v s val p at
unfolding standing
standing_is {d} {v} {s} {E} {p} val at g = ap (λ b. told d b s val p at) (is_kind g)

-- a value of the type, and values of the types
abbrev pub said : Ty → List ℕ → ℕ → Told
said t val v = shown (inject t) (encode t) v (parse t (rows_from val v))

abbrev pub said_all : Tys → List ℕ → ℕ → Option (List SValue × ℕ)
said_all ts val v = seen (injects ts) (encodes ts) v (parses ts (rows_from val v))

-- PARTS THAT STAND IN THE FILE

module _ {d : ℕ} {v : Bool} {s E : List ℕ} where
  pub first : {n p : ℕ} → GivenRow d v s E (suc n) p → Given d v s E p
  first g = given_first (λ e. omega arith) g

  pub rest : {n p : ℕ} → GivenRow d v s E (suc n) p → GivenRow d v s E n (get_or E p 0)
  rest g = rw sub-one at (given_rest (λ e. omega arith) g)

  -- each of them, by the table of ends
  pub hopped : (i n p : ℕ) → i < n → GivenRow d v s E n p → Given d v s E (hops E i p)
  unfolding hops
  hopped i zero p l g = absurd (omega arith)
  hopped zero (suc n) p l g = first g
  hopped (suc i) (suc n) p l g = hopped i n (get_or E p 0) (omega arith) (rest g)

  pub hops_in : (i n p : ℕ) → i < n → GivenRow d v s E n p → Hops E i p
  hops_in i n p l g = record { each = λ j m. given_inside (hopped j n p (omega arith) g) }

  skipped : (i n p : ℕ) → i < n → GivenRow d v s E n p → skip Types d s i p ≡ hops E i p
  unfolding skip hops after
  skipped i zero p l g = absurd (omega arith)
  skipped zero (suc n) p l g = refl
  skipped (suc i) (suc n) p l g = ap (λ q. skip Types d s i q) (sym (stands_end (stands (first g)))) ∙ skipped i n (get_or E p 0) (omega arith) (rest g)

  pub given_types : (n p : ℕ) → GivenRow d v s E n p → GivenParts Types d s E n p
  given_types n p g = record { each = λ i l. rw (skipped i n p l g) (stands (hopped i n p l g)) }

-- the record after a part, by the table of ends
pub after_is : (k : Parts) {d : ℕ} {s E : List ℕ} {p : ℕ} → Stands d s E p → after_at k E p ≡ after k d s p
unfolding after
after_is Copies g = refl
after_is Types g = stands_end g

-- COPIES, all at one place

pub skip_copies : (d : ℕ) (s : List ℕ) (n p : ℕ) → skip Copies d s n p ≡ p
unfolding skip after
skip_copies d s zero p = refl
skip_copies d s (suc n) p = skip_copies d s n p

pub given_copies : {d : ℕ} {s E : List ℕ} {p : ℕ} (n : ℕ) → Stands d s E p → GivenParts Copies d s E n p
given_copies {d} {s} {E} {p} n g = record { each = λ i l. rw (skip_copies d s i p) g }

-- WHAT THEY TELL

-- a tuple's parts
pub types_row : (d : ℕ) (s E val : List ℕ) (n p v : ℕ) → GivenRow d false s E n p → row Types d s val n p v ≡ said_all (kids (tree d s) (walk d false s) n p) val v
unfolding row kids parse_at encode inject after told
types_row d s E val zero p v g = ap (λ n. some ([], n)) (sym (add-zero v))
types_row d s E val (suc n) p v g =
    let t = tree d s p in
    let q = end_of (walk d false s p) in
    let ts = kids (tree d s) (walk d false s) n q in
    bind_o_known (standing d s val p v) _ _ (λ x i. ap (map_o (λ y. (x.0 ∷ y.0, y.1))) (ap (λ j. row Types d s val n j x.1) (ending_is (first g)) ∙ types_row d s E val n q x.1 (rw (given_end (first g)) at (rest g))))
    ∙ ap (λ o. bind_o o (λ x. map_o (λ y. (x.0 ∷ y.0, y.1)) (said_all ts val x.1))) (standing_is val v (first g))
    ∙ sym (seen_then (Valid t) (inject t) (encode t) (injects ts) (encodes ts) (injects (kids (tree d s) (walk d false s) (suc n) p)) (encodes (kids (tree d s) (walk d false s) (suc n) p)) (λ x y. (x, y)) (λ x y. refl) (λ x y. refl) (parse t) (parse_sound t) (parses ts) val v)

-- copies of one
pub copies_row : (d : ℕ) (s E val : List ℕ) (n p v : ℕ) → Given d false s E p → row Copies d s val n p v ≡ seen (map (λ x. inject (tree d s p) x)) (flat_map (λ x. encode (tree d s p) x)) v (many (parse (tree d s p)) n (rows_from val v))
unfolding row after told
copies_row d s E val zero p v g = ap (λ n. some ([], n)) (sym (add-zero v))
copies_row d s E val (suc n) p v g =
    let t = tree d s p in
    bind_o_known (standing d s val p v) _ _ (λ x i. ap (map_o (λ y. (x.0 ∷ y.0, y.1))) (copies_row d s E val n p x.1 g))
    ∙ ap (λ o. bind_o o (λ x. map_o (λ y. (x.0 ∷ y.0, y.1)) (seen (map (λ x. inject t x)) (flat_map (λ x. encode t x)) x.1 (many (parse t) n (rows_from val x.1))))) (standing_is val v g)
    ∙ sym (seen_then (Valid t) (inject t) (encode t) (map (λ x. inject t x)) (flat_map (λ x. encode t x)) (map (λ x. inject t x)) (flat_map (λ x. encode t x)) (λ x y. x ∷ y) (λ x y. refl) (λ x y. refl) (parse t) (parse_sound t) (many (parse t) n) val v)
