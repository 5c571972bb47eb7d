-- Which fault of a value file decides (02, R-7), record by record: the record whose fault comes earliest in the file. At that record its kind, choice, unused bytes and any width or
-- count unlike the type's come first, with 16, then the finer tests; a missing record, a variant past the last and what is left over are 16.
-- The reader of `ValueFiles` gives a value, and its refusals are these: `Laws/Faults`.
use Rattle.std.specs.Prelude.{Bool, ◌&&◌, ◌||◌, List, [], ◌∷◌, ◌++◌, ℕ, zero, suc, ◌^◌, eqb, leb, replicate}
use Rattle.model.specs.Numbers.{not_one_value, integer_too_large, list_too_long}
use Rattle.model.specs.Outcome.{Outcome, done, refused, ◌>>◌, refuse}
use Rattle.model.specs.Options.{pick}
use Rattle.model.specs.Types.{Ty, Tys, Variants, never, bool, uint, either, option, tuple, array, list, enum, nil, cons, last, more, size, count}
use Rattle.model.specs.ValueFiles.{Rec, must}

-- THE FAULT OF ONE RECORD, where a value of the type is due

-- the kind k and a choice of two, all else unused
abbrev pub chooses : ℕ → Rec → Bool
chooses k r = eqb r.kind k && (eqb r.choice 0 || eqb r.choice 1) && eqb r.n 0 && eqb r.integer 0

-- the kind k without a choice
abbrev pub is_kind : ℕ → Rec → Bool
is_kind k r = eqb r.kind k && eqb r.choice 0

unfoldable pub fault : Ty → Rec → Outcome (Unit {0})
fault never r = refused not_one_value
fault bool r = must (chooses 1 r)
fault (uint w) r = must (is_kind 2 r && eqb r.n w) >> refuse integer_too_large (leb (2 ^ w) r.integer)
fault (either a b) r = must (chooses 3 r)
fault (option a) r = must (chooses 4 r)
fault (tuple ts) r = must (is_kind 5 r && eqb r.n (size ts) && eqb r.integer 0)
fault (array a n) r = must (is_kind 6 r && eqb r.n n && eqb r.integer 0)
fault (list a e) r = must (is_kind 7 r && eqb r.integer 0) >> refuse list_too_long (leb (2 ^ suc e) r.n)
fault (enum vs) r = must (is_kind 8 r && eqb r.integer 0) >> refuse not_one_value (leb (count vs) r.n)

-- WHAT A RECORD CALLS FOR

abbrev pub types : Tys → List Ty
types nil = []
types (cons t ts) = t ∷ types ts

abbrev pub payload_types : Variants → ℕ → List Ty
payload_types (last ts) i = types ts
payload_types (more ts vs) zero = types ts
payload_types (more ts vs) (suc i) = payload_types vs i

-- the types of the values that follow a record without fault
unfoldable pub children : Ty → Rec → List Ty
children never r = []
children bool r = []
children (uint w) r = []
children (either a b) r = pick (eqb r.choice 0) a b ∷ []
children (option a) r = pick (eqb r.choice 0) [] (a ∷ [])
children (tuple ts) r = types ts
children (array a n) r = replicate n a
children (list a e) r = replicate r.n a
children (enum vs) r = payload_types vs r.n

-- the records in the file's order, where values of these types are due: the first fault decides
unfoldable pub verdict : List Ty → List Rec → Outcome (Unit {0})
verdict [] [] = done tt
verdict [] (r ∷ rs) = refused not_one_value
verdict (t ∷ due) [] = refused not_one_value
verdict (t ∷ due) (r ∷ rs) = fault t r >> verdict (children t r ++ due) rs
