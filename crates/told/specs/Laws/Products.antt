-- Products: a tuple and an array are the balanced products of their parts behind their record, a list is made of its elements.
use Rattle.std.specs.Prelude.{◌≡◌, Bool, true, false, ◌⊎◌, ltb, leb}
use Rattle.std.proofs.Math.Path.{refl, ap}
use Rattle.std.proofs.Common.{sym, ◌∙◌, inl, inr, arith, ltb-true, ltb-false, leb-false}
use mathlib.Core.List.{List, [], ◌∷◌, map, append-nil}
use Rattle.std.proofs.Math.Option.{Option, none, some, none-ne-some}
use Prim.Native.Nat.{ℕ, suc, ◌+◌, ◌/◌, ◌^◌, ◌<◌}
use Rattle.std.proofs.Math.ListN.{length}
use Rattle.std.proofs.lemmas.List.{length-map}
use Rattle.model.specs.Numbers.{list_too_long}
use Rattle.model.specs.Outcome.{Outcome, done, refused, ◌>>=◌, ◌>>◌, refuse}
use Rattle.model.specs.Options.{map_o, flat_map}
use Rattle.model.specs.Balanced.{grow, btree, fold}
use Rattle.model.specs.Structural.{SValue, unit, left, right, pair, partition}
use Rattle.model.specs.Types.{Ty, Tys, option, tuple, array, list, size}
use Rattle.model.specs.Values.{Value, inject, injects}
use Rattle.model.specs.ValueFiles.{Rec, rec, same, encode, encodes, made, many, parse, parse_at, parses}
use Rattle.model.proofs.Laws.ValueFiles.{parse_sound, same_eq, same_refl}
use Rattle.model.proofs.Laws.Shapes.{length_injects}
use Rattle.value.specs.Model.{rows_at, rows_end}
use Rattle.value.specs.Model as places
use Rattle.value.specs.Record.{number_at}
use Rattle.told.specs.Forms.{Told, rows_from, choice_at}
use Rattle.told.specs.Laws.Seen.{seen, seen_as, seen_row, seen_must, seen_pick}
use Rattle.told.specs.Laws.Rows.{said, said_all}

-- THE RECORD OF A VALUE

-- what is told of a value by its record and those behind it
abbrev pub said_at : (t : Ty) → List ℕ → ℕ → Told
said_at t val v = seen (inject t) (encode t) v (parse_at t (places.row val v) (rows_from val (v + 1)))

-- a value has a record
pub has_record : (t : Ty) (val : List ℕ) (v : ℕ) (y : SValue × ℕ) → said t val v ≡ some y → v < length val / 36
has_record t val v y h = go (ltb v (length val / 36)) refl
  where
    go : (b : Bool) → ltb v (length val / 36) ≡ b → v < length val / 36
    go true e = ltb-true _ _ e
    go false e = absurd (none-ne-some y (rw (rows_end val v (ltb-false _ _ e)) at h))

pub by_record : (t : Ty) (val : List ℕ) (v : ℕ) → v < length val / 36 → said t val v ≡ said_at t val v
by_record t val v l = ap (λ r. seen (inject t) (encode t) v (parse t r)) (rows_at val v l)

pub one_more : (v n : ℕ) → v + suc n ≡ v + 1 + n
one_more v n = omega arith

-- the balanced product of n parts that are told so
abbrev pub product : ℕ → Option (List SValue × ℕ) → Told
product n = map_o (λ x. (fold pair unit (btree n) x.0, x.1))

-- n values of the type
abbrev elements : Ty → List ℕ → ℕ → ℕ → Option (List SValue × ℕ)
elements a val v n = seen (map (λ x. inject a x)) (flat_map (λ x. encode a x)) v (many (parse a) n (rows_from val v))

-- the list of them
abbrev pub parted : ℕ → Option (List SValue × ℕ) → Told
parted e = map_o (λ x. (partition e x.0, x.1))

pub choice_is : (val : List ℕ) (v k c n i : ℕ) → same (places.row val v) (rec k c n i) ≡ true → choice_at val v ≡ c
unfolding choice_at
choice_is val v k c n i h = ap (λ r. r.choice) (same_eq (places.row val v) (rec k c n i) h)

module _ (val : List ℕ) (v : ℕ) (y : SValue × ℕ) where
  pub tuple_said : (ts : Tys) → said_at (tuple ts) val v ≡ some y → said_at (tuple ts) val v ≡ product (size ts) (said_all ts val (v + 1))
  unfolding parse_at encode inject
  tuple_said ts h =
      (seen_must (inject (tuple ts)) (encode (tuple ts)) v y (places.row val v) (rec 5 0 (size ts) 0) (parses ts (rows_from val (v + 1))) h).1
      ∙ seen_as (inject (tuple ts)) (encode (tuple ts)) (injects ts) (encodes ts) (fold pair unit (btree (size ts))) v (v + 1) (λ x. one_more v _) (parses ts (rows_from val (v + 1))) (λ x e. ap (λ n. fold pair unit (btree n) (injects ts x.0)) (length_injects ts x.0))

  pub array_said : (a : Ty) (n : ℕ) → said_at (array a n) val v ≡ some y → said_at (array a n) val v ≡ product n (elements a val (v + 1) n)
  unfolding parse_at encode inject
  array_said a n h =
      let rs = rows_from val (v + 1) in
      (seen_must (inject (array a n)) (encode (array a n)) v y (places.row val v) (rec 6 0 n 0) (many (parse a) n rs) h).1
      ∙ seen_as (inject (array a n)) (encode (array a n)) (map (λ x. inject a x)) (flat_map (λ x. encode a x)) (fold pair unit (btree n)) v (v + 1) (λ x. one_more v _) (many (parse a) n rs)
      (λ x e. ap (λ n. fold pair unit (btree n) (map (λ x. inject a x) x.0)) (length-map x.0 (λ x. inject a x) ∙ (parse_sound (array a n) (rec 6 0 n 0 ∷ rs) x (rw (same_refl (rec 6 0 n 0)) e)).valid.0))

  pub list_said : (a : Ty) (e : ℕ) → said_at (list a e) val v ≡ some y → (number_at val v < 2 ^ suc e) × (said_at (list a e) val v ≡ parted e (elements a val (v + 1) (number_at val v)))
  unfolding parse_at encode inject number_at
  list_said a e h =
      let r = places.row val v in
      let o = many (parse a) r.n (rows_from val (v + 1)) in
      let w = seen_must (inject (list a e)) (encode (list a e)) v y r (rec 7 0 r.n 0) (refuse list_too_long (leb (2 ^ suc e) r.n) >> o) h in
      let u = seen_row (inject (list a e)) (encode (list a e)) v y list_too_long (leb (2 ^ suc e) r.n) o (sym w.1 ∙ h) in
      (leb-false _ _ u.0, w.1 ∙ u.1 ∙ seen_as (inject (list a e)) (encode (list a e)) (map (λ x. inject a x)) (flat_map (λ x. encode a x)) (partition e) v (v + 1) (λ x. one_more v _) o (λ x e. refl))

  -- an Option is a list of none or one
  pub option_said : (a : Ty) → said_at (option a) val v ≡ some y → (choice_at val v < 2) × (said_at (option a) val v ≡ parted 0 (elements a val (v + 1) (choice_at val v)))
  unfolding parse_at encode inject partition fold btree grow
  option_said a h =
      let r = places.row val v in
      go (seen_pick (inject (option a)) (encode (option a)) v y (same r (rec 4 0 0 0)) r (rec 4 1 0 0) (done (none, rows_from val (v + 1))) (made some (parse a (rows_from val (v + 1)))) h)
    where
      last : (o : Outcome (Value a × List Rec)) → seen (inject (option a)) (encode (option a)) v (made some o) ≡ parted 0 (seen (map (λ x. inject a x)) (flat_map (λ x. encode a x)) (v + 1) (o >>= λ x. done (x.0 ∷ [], x.1)))
      last (refused n) = refl
      last (done x) = ap (λ n. some (right (inject a x.0), n)) (one_more v _ ∙ ap (λ l. v + 1 + length l) (sym (append-nil (encode a x.0))))

      go : ((same (places.row val v) (rec 4 0 0 0) ≡ true) × (said_at (option a) val v ≡ seen (inject (option a)) (encode (option a)) v (done (none, rows_from val (v + 1)))))
          ⊎ ((same (places.row val v) (rec 4 1 0 0) ≡ true) × (said_at (option a) val v ≡ seen (inject (option a)) (encode (option a)) v (made some (parse a (rows_from val (v + 1))))))
          → (choice_at val v < 2) × (said_at (option a) val v ≡ parted 0 (elements a val (v + 1) (choice_at val v)))
      go (inl q) = let c = choice_is val v _ _ _ _ q.0 in (omega arith, rw c (q.1 ∙ ap (λ n. some (left unit, n)) (one_more v 0)))
      go (inr q) = let c = choice_is val v _ _ _ _ q.0 in (omega arith, rw c (q.1 ∙ last (parse a (rows_from val (v + 1)))))
