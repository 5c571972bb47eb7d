-- Sums: an Either and an Enum are one choice of several behind their record, and the choice's own record is reached by the table of ends.
use Rattle.std.specs.Prelude.{◌≡◌, refl, true, List, ◌⊎◌, ℕ, zero, suc, ◌+◌, ◌<◌, ◌≤◌}
use Rattle.std.proofs.Common.{sym, ◌∙◌, arith}
use Rattle.std.proofs.Math.Path.{ap}
use Rattle.std.proofs.Math.Logic.{inl, inr}
use Rattle.std.proofs.Math.Option.{some}
use Rattle.std.proofs.Math.ListN.{length}
use Rattle.model.specs.Options.{map_o}
use Rattle.model.specs.Balanced.{next_power_of_two, btree_split_index, grow, btree}
use Rattle.model.specs.Balanced as powers
use Rattle.model.specs.Structural.{SValue, left, right, tuple_of, enum_injection}
use Rattle.model.specs.Types.{Ty, Variants, either, enum, more, count}
use Rattle.model.specs.Values.{inject, injects, index, payload}
use Rattle.model.specs.ValueFiles.{rec, same, encode, encodes, encode_choice, made, parse, parse_at, parses, parse_choice}
use Rattle.model.proofs.Laws.Options.{map_o_some}
use Rattle.model.proofs.Laws.ValueFiles.{parse_choice_sound}
use Rattle.model.proofs.Laws.Shapes.{index_count}
use Rattle.types.specs.Walks.{walk}
use Rattle.types.specs.Trees.{end_of, cases, treev}
use Rattle.types.specs.Steps.{GivenRow, given_end}
use Rattle.value.specs.Model as places
use Rattle.value.specs.Record.{number_at}
use Rattle.told.specs.Forms.{Told, rows_from, read, choice_at, told, standing, hops}
use Rattle.told.specs.Laws.Seen.{seen, read_some, seen_as, seen_made, seen_of, seen_must, seen_pick}
use Rattle.told.specs.Laws.Rows.{first, rest, standing_is, said}
use Rattle.told.specs.Laws.Products.{said_at, choice_is, one_more}

-- choice i of n that is told so
abbrev pub injected : ℕ → ℕ → Told → Told
injected n i = map_o (λ x. (enum_injection (btree n) i x.0, x.1))

-- the first of two, and the second
left_of_two : (z : SValue) → left z ≡ enum_injection (btree 2) 0 z
unfolding enum_injection btree grow btree_split_index next_power_of_two powers.next
left_of_two z = refl

right_of_two : (z : SValue) → right z ≡ enum_injection (btree 2) 1 z
unfolding enum_injection btree grow btree_split_index next_power_of_two powers.next
right_of_two z = refl

module _ (val : List ℕ) (v : ℕ) (y : SValue × ℕ) where
  pub either_said : (a b : Ty) → said_at (either a b) val v ≡ some y
      → ((choice_at val v ≡ 0) × (said_at (either a b) val v ≡ injected 2 0 (said a val (v + 1)))) ⊎ ((choice_at val v ≡ 1) × (said_at (either a b) val v ≡ injected 2 1 (said b val (v + 1))))
  unfolding parse_at encode inject
  either_said a b h =
      let r = places.row val v in
      go (seen_pick (inject (either a b)) (encode (either a b)) v y (same r (rec 3 0 0 0)) r (rec 3 1 0 0) (made inl (parse a (rows_from val (v + 1)))) (made inr (parse b (rows_from val (v + 1)))) h)
    where
      go : ((same (places.row val v) (rec 3 0 0 0) ≡ true) × (said_at (either a b) val v ≡ seen (inject (either a b)) (encode (either a b)) v (made inl (parse a (rows_from val (v + 1))))))
          ⊎ ((same (places.row val v) (rec 3 1 0 0) ≡ true) × (said_at (either a b) val v ≡ seen (inject (either a b)) (encode (either a b)) v (made inr (parse b (rows_from val (v + 1))))))
          → ((choice_at val v ≡ 0) × (said_at (either a b) val v ≡ injected 2 0 (said a val (v + 1)))) ⊎ ((choice_at val v ≡ 1) × (said_at (either a b) val v ≡ injected 2 1 (said b val (v + 1))))
      go (inl q) = inl (choice_is val v _ _ _ _ q.0, q.1 ∙ seen_made inl (inject (either a b)) (encode (either a b)) (inject a) (encode a) (enum_injection (btree 2) 0) v (v + 1) (λ x. left_of_two (inject a x)) (λ x. one_more v _) (parse a (rows_from val (v + 1))))
      go (inr q) = inr (choice_is val v _ _ _ _ q.0, q.1 ∙ seen_made inr (inject (either a b)) (encode (either a b)) (inject b) (encode b) (enum_injection (btree 2) 1) v (v + 1) (λ x. right_of_two (inject b x)) (λ x. one_more v _) (parse b (rows_from val (v + 1))))

  pub enum_said : (vs : Variants) → said_at (enum vs) val v ≡ some y
      → (number_at val v < count vs) × (said_at (enum vs) val v ≡ injected (count vs) (number_at val v) (seen (payload vs) (encode_choice vs) (v + 1) (parse_choice vs (number_at val v) (rows_from val (v + 1)))))
  unfolding parse_at encode inject number_at
  enum_said vs h =
      let r = places.row val v in
      let rs = rows_from val (v + 1) in
      let o = parse_choice vs r.n rs in
      let w = seen_must (inject (enum vs)) (encode (enum vs)) v y r (rec 8 0 r.n 0) o h in
      let (x, e, f) = map_o_some (λ x. (inject (enum vs) x.0, v + length (encode (enum vs) x.0))) (read o) y (sym w.1 ∙ h) in
      let k : index vs x.0 ≡ r.n = (parse_choice_sound vs r.n rs x (read_some o x e)).valid.1 in (
        omega (arith, index_count vs x.0),
        w.1 ∙ seen_as (inject (enum vs)) (encode (enum vs)) (payload vs) (encode_choice vs) (enum_injection (btree (count vs)) r.n) v (v + 1) (λ x. one_more v _) o (λ x e. ap (λ i. enum_injection (btree (count vs)) i (payload vs x.0)) (parse_choice_sound vs r.n rs x e).valid.1),
      )

-- a Variant of an Enum stands where the ends before it lead
pub case_stands : (d : ℕ) (s E val : List ℕ) (n i p v : ℕ) → i ≤ n → GivenRow d true s E (suc n) p
    → seen (payload (cases (treev d s) (walk d true s) n p)) (encode_choice (cases (treev d s) (walk d true s) n p)) v (parse_choice (cases (treev d s) (walk d true s) n p) i (rows_from val v)) ≡ standing d s val (hops E i p) v
unfolding cases parse_at encode inject hops told
case_stands d s E val zero zero p v l g = sym (standing_is val v (first g))
case_stands d s E val zero (suc i) p v l g = absurd (omega arith)
case_stands d s E val (suc n) zero p v l g =
    let ts = treev d s p in
    let vs = more ts (cases (treev d s) (walk d true s) n (end_of (walk d true s p))) in
    seen_of inl (payload vs) (encode_choice vs) (λ c. tuple_of (injects ts c)) (encodes ts) v (λ x. refl) (λ x. refl) (parses ts (rows_from val v)) ∙ sym (standing_is val v (first g))
case_stands d s E val (suc n) (suc i) p v l g =
    let q = end_of (walk d true s p) in
    let us = cases (treev d s) (walk d true s) n q in
    let vs = more (treev d s p) us in
    seen_of inr (payload vs) (encode_choice vs) (payload us) (encode_choice us) v (λ x. refl) (λ x. refl) (parse_choice us i (rows_from val v))
    ∙ case_stands d s E val n i q v (omega arith) (rw (given_end (first g)) at (rest g))
    ∙ ap (λ j. standing d s val (hops E i j) v) (sym (given_end (first g)))
