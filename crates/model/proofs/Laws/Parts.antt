-- The law of a part: it is there whatever is put in its place, the whole stays valid, and the whole's bits are those ahead of the part, the part's own and those behind.
use Rattle.std.specs.Prelude.{◌≡◌, Bool, length, take, drop, set, get_or}
use Rattle.std.proofs.Math.Path.{refl, sym, ap}
use Rattle.std.proofs.Common.{ap₂, ◌∙◌, arith, length-append, length-set, take_at, drop_at}
use Rattle.std.proofs.Math.Logic.{inl, inr}
use mathlib.Core.List.{List, [], ◌∷◌, ◌++◌, map, append_assoc}
use Rattle.std.proofs.Math.Bool.{true, false}
use Rattle.std.proofs.Math.Option.{Option, none, some, none-ne-some, some-injective}
use Prim.Native.Nat.{ℕ, zero, suc, ◌+◌, ◌-◌, ◌<◌}
use Rattle.std.proofs.Math.Nat.{zero-sub}
use Rattle.std.proofs.Math.ListN.{get_elem?, length-map}
use Rattle.model.specs.Options.{map_o, bind_o, All}
use Rattle.model.specs.Balanced.{btree}
use Rattle.model.specs.Structural.{𝟙, SValue, Belongs, balanced_sum, enum_injection}
use Rattle.model.specs.Types.{Ty, Tys, Variants, never, bool, uint, either, option, tuple, array, list, enum, nil, cons, last, more, count}
use Rattle.model.specs.Lowering.{lower, lowers, payloads}
use Rattle.model.specs.Values.{Value, Values, Choice, Valid, Valids, ValidChoice, inject, injects, index, payload}
use Rattle.model.specs.Frames.{Place, width, bits, frame}
use Rattle.model.specs.Parts.{Part, within, element_of, ahead_of_payload, ahead_in_array, ahead_in_list, part_of, choice_part, child, part, offset, extent}
use Rattle.model.proofs.Laws.Options.{All-map}
use Rattle.model.proofs.Laws.Frames.{padded_zero}
use Rattle.model.proofs.Laws.Products.{bits_all, bits_tuple_of}
use Rattle.model.proofs.Laws.Partitions.{Each}
use Rattle.model.proofs.Laws.Shapes.{inject_belongs, injects_belong, length_payloads, count_leaves, index_bound}
use Rattle.model.proofs.Laws.FrameFiles.{length_frame}
use Rattle.model.proofs.Laws.Places.{Around, around, outer_is, pull, same_around, tagged_around, cons_around, then_around, after_around, enum_around, each_set, array_bits, run_around, list_around}

-- of the result, if there is one
abbrev pub IfSome : {A : Type 0} → (A → Type 0) → Option A → Type 0
IfSome P none = Unit
IfSome P (some a) = P a

pub ifsome_map : {A B : Type 0} (P : A → Type 0) (Q : B → Type 0) (f : A → B) → ((a : A) → P a → Q (f a)) → (o : Option A) → IfSome P o → IfSome Q (map_o f o)
ifsome_map P Q f h none k = tt
ifsome_map P Q f h (some a) k = h a k

pub ifsome_imp : {A : Type 0} (P Q : A → Type 0) → ((a : A) → P a → Q a) → (o : Option A) → IfSome P o → IfSome Q o
ifsome_imp P Q h none k = tt
ifsome_imp P Q h (some a) k = h a k

-- AN ELEMENT OF A LIST

pub record Elem {A : Type 0} (xs : List A) (i : ℕ) (x : A) : Type 0 where
  pub known : i < length xs
  pub same : set xs i x ≡ xs

pub elem : {A : Type 0} (xs : List A) (i : ℕ) (x : A) → get_elem? xs i ≡ some x → Elem xs i x
elem [] i x h = absurd (none-ne-some x h)
elem {A} (y ∷ ys) zero x h = record { known = omega arith; same = ap {B = List A} (λ z. z ∷ ys) (sym (some-injective y x h)) }
elem {A} (y ∷ ys) (suc i) x h = let e = elem ys i x h in record { known = omega (arith, e.known); same = ap {B = List A} (λ l. y ∷ l) e.same }

elem_all : {A : Type 0} (P : A → Type 0) (xs : List A) (i : ℕ) (x : A) → get_elem? xs i ≡ some x → All P xs → P x
elem_all P [] i x h k = absurd (none-ne-some x h)
elem_all P (y ∷ ys) zero x h k = rw (some-injective y x h) at k.0
elem_all P (y ∷ ys) (suc i) x h k = elem_all P ys i x h k.1

all_set : {A : Type 0} (P : A → Type 0) (xs : List A) (i : ℕ) (x : A) → All P xs → P x → All P (set xs i x)
all_set P [] i x h k = tt
all_set P (y ∷ ys) zero x h k = (k, h.1)
all_set P (y ∷ ys) (suc i) x h k = (h.0, all_set P ys i x h.1 k)

map_set : {A B : Type 0} (f : A → B) (xs : List A) (i : ℕ) (x : A) → map f (set xs i x) ≡ set (map f xs) i (f x)
map_set f [] i x = refl
map_set f (y ∷ ys) zero x = refl
map_set {B = B} f (y ∷ ys) (suc i) x = ap {B = List B} (λ l. f y ∷ l) (map_set f ys i x)

module _ (p : Place) where
  -- the part c of x
  pub record Lies {X : Type 0} (ok : X → Type 0) (bits_of : X → List Bool) (x : X) (c : Part X) : Type 0 where
    pub valid : Valid c.type c.value
    pub same : c.put c.value ≡ x
    pub puts : (w : Value c.type) → Valid c.type w → ok (c.put w)
    pub stretch : Around (Valid c.type) (frame p c.type) (λ w. bits_of (c.put w)) c.ahead

  lies_within : {X Y : Type 0} (okX : X → Type 0) (okY : Y → Type 0) (fX : X → List Bool) (fY : Y → List Bool) (g : X → Y) (k : List Bool)
      → ((x : X) → okX x → okY (g x)) → Around okX fX (λ x. fY (g x)) k → (x : X) (c : Part X) → Lies okX fX x c → Lies okY fY (g x) (within g k c)
  lies_within okX okY fX fY g k h a x c l = record {
    valid = l.valid;
    same = ap g l.same;
    puts = λ w o. h (c.put w) (l.puts w o);
    stretch = around {k = k} l.stretch (record { back = a.back; splits = λ w o. a.splits (c.put w) (l.puts w o) });
  }

  lies_ok : {X : Type 0} (ok ok' : X → Type 0) (f f' : X → List Bool) → ((x : X) → ok x → ok' x) → ((x : X) → ok x → f' x ≡ f x) → (x : X) (c : Part X) → Lies ok f x c → Lies ok' f' x c
  lies_ok ok ok' f f' h q x c l = record { valid = l.valid; same = l.same; puts = λ w o. h _ (l.puts w o); stretch = outer_is (λ w o. q (c.put w) (l.puts w o)) refl l.stretch }

  -- FRAMES OF TUPLES AND ENUMS

  -- the bits of the parts of a tuple, one after the other
  unfoldable pub frames : (ts : Tys) → Values ts → List Bool
  frames nil v = []
  frames (cons t ts) v = frame p t v.0 ++ frames ts v.1

  unfoldable pub choice_frame : (vs : Variants) → Choice vs → List Bool
  choice_frame (last ts) c = frames ts c
  choice_frame (more ts vs) (inl c) = frames ts c
  choice_frame (more ts vs) (inr c) = choice_frame vs c

  pub frames_all : (ts : Tys) (v : Values ts) → bits_all p (lowers ts) (injects ts v) ≡ frames ts v
  unfolding frames frame bits_all lower inject
  frames_all nil v = refl
  frames_all (cons t ts) v = ap (λ l. frame p t v.0 ++ l) (frames_all ts v.1)

  -- a product's bits are its parts' bits in order
  pub frame_tuple : (ts : Tys) (v : Values ts) → Valids ts v → frame p (tuple ts) v ≡ frames ts v
  unfolding frame lower inject
  frame_tuple ts v h = bits_tuple_of p (injects_belong ts v h) ∙ frames_all ts v

  pub choice_bits : (vs : Variants) (c : Choice vs) → ValidChoice vs c → bits p (get_or (payloads vs) (index vs c) 𝟙) (payload vs c) ≡ choice_frame vs c
  unfolding lower inject choice_frame
  choice_bits (last ts) c h = bits_tuple_of p (injects_belong ts c h) ∙ frames_all ts c
  choice_bits (more ts vs) (inl c) h = bits_tuple_of p (injects_belong ts c h) ∙ frames_all ts c
  choice_bits (more ts vs) (inr c) h = choice_bits vs c h

  abbrev pub SameVariant : (vs : Variants) → Choice vs → Choice vs → Type 0
  SameVariant vs c d = ValidChoice vs d × (index vs d ≡ index vs c)

  -- an enum's bits: its tags, the payload's parts in order, and padding
  pub frame_enum : (vs : Variants) (c : Choice vs) → Around (SameVariant vs c) (choice_frame vs) (frame p (enum vs)) (ahead_of_payload p (btree (count vs)) (payloads vs) (index vs c))
  unfolding frame lower inject
  frame_enum vs c = go (enum_around p (btree (count vs)) (payloads vs) (index vs c) (length_payloads vs ∙ sym (count_leaves vs)) (index_bound vs c))
    where
      go : Around {X = SValue} (λ s. Unit) (bits p (get_or (payloads vs) (index vs c) 𝟙)) (λ s. bits p (balanced_sum (btree (count vs)) (payloads vs)) (enum_injection (btree (count vs)) (index vs c) s)) (ahead_of_payload p (btree (count vs)) (payloads vs) (index vs c))
          → Around (SameVariant vs c) (choice_frame vs) (frame p (enum vs)) (ahead_of_payload p (btree (count vs)) (payloads vs) (index vs c))
      go a = record { back = a.back; splits = λ d o. rw (← choice_bits vs d o.0, o.1) (a.splits (payload vs d) tt) }

  -- ONE STEP

  tuple_lies : (ts : Tys) (i : ℕ) (v : Values ts) → Valids ts v → IfSome (Lies (Valids ts) (frames ts) v) (part_of p ts i v)
  unfolding part_of frames frame
  tuple_lies nil i v h = tt
  tuple_lies (cons t ts) zero v h = record { valid = h.0; same = refl; puts = λ w o. (o, h.1); stretch = then_around (frames ts v.1) (Valid t) (frame p t) }
  tuple_lies (cons t ts) (suc i) v h =
      ifsome_map (Lies (Valids ts) (frames ts) v.1) (Lies (Valids (cons t ts)) (frames (cons t ts)) v) (within (λ r. (v.0, r)) (frame p t v.0))
      (λ c l. lies_within (Valids ts) (Valids (cons t ts)) (frames ts) (frames (cons t ts)) (λ r. (v.0, r)) (frame p t v.0) (λ x o. (h.0, o)) (after_around (frame p t v.0) (Valids ts) (frames ts)) v.1 c l)
      (part_of p ts i v.1) (tuple_lies ts i v.1 h.1)

  choice_lies : (vs : Variants) (i : ℕ) (c : Choice vs) → ValidChoice vs c → IfSome (Lies (SameVariant vs c) (choice_frame vs) c) (choice_part p vs i c)
  unfolding choice_part choice_frame inject
  choice_lies (last ts) i c h =
      ifsome_imp (Lies (Valids ts) (frames ts) c) (Lies (SameVariant (last ts) c) (choice_frame (last ts)) c)
      (lies_ok (Valids ts) (SameVariant (last ts) c) (frames ts) (choice_frame (last ts)) (λ x o. (o, refl)) (λ x o. refl) c) (part_of p ts i c) (tuple_lies ts i c h)
  choice_lies (more ts vs) i (inl c) h =
      ifsome_map (Lies (Valids ts) (frames ts) c) (Lies (SameVariant (more ts vs) (inl c)) (choice_frame (more ts vs)) (inl c)) (within inl [])
      (λ d l. lies_within (Valids ts) (SameVariant (more ts vs) (inl c)) (frames ts) (choice_frame (more ts vs)) inl [] (λ x o. (o, refl)) (same_around (λ x o. refl)) c d l)
      (part_of p ts i c) (tuple_lies ts i c h)
  choice_lies (more ts vs) i (inr c) h =
      ifsome_map (Lies (SameVariant vs c) (choice_frame vs) c) (Lies (SameVariant (more ts vs) (inr c)) (choice_frame (more ts vs)) (inr c)) (within inr [])
      (λ d l. lies_within (SameVariant vs c) (SameVariant (more ts vs) (inr c)) (choice_frame vs) (choice_frame (more ts vs)) inr [] (λ x o. (o.0, ap suc o.1)) (same_around (λ x o. refl)) c d l)
      (choice_part p vs i c) (choice_lies vs i c h)

  element_lies : (a : Ty) (k : List Bool) (i : ℕ) (xs : List (Value a)) (ok : List (Value a) → Type 0) (f : List (Value a) → List Bool)
      → All (Valid a) xs → ((w : Value a) → Valid a w → ok (set xs i w)) → (i < length xs → Around (Valid a) (frame p a) (λ w. f (set xs i w)) k)
      → IfSome (Lies ok f xs) (element_of a k i xs)
  element_lies a k i xs ok f h puts s = go (get_elem? xs i) refl
    where
      go : (o : Option (Value a)) → get_elem? xs i ≡ o → IfSome (Lies ok f xs) (map_o (λ x. record { type = a; value = x; put = λ w. set xs i w; ahead = k }) o)
      go none e = tt
      go (some x) e = let m = elem xs i x e in record { valid = elem_all (Valid a) xs i x e h; same = m.same; puts = puts; stretch = s m.known }

  each_injected : (a : Ty) (xs : List (Value a)) → All (Valid a) xs → Each (lower a) (map (inject a) xs)
  each_injected a xs h = All-map (Valid a) (Belongs (lower a)) (inject a) (inject_belongs a) xs h

  array_stretch : (a : Ty) (n i : ℕ) (xs : List (Value a)) → Valid (array a n) xs → i < length xs → Around (Valid a) (frame p a) (λ w. frame p (array a n) (set xs i w)) (ahead_in_array p (lower a) (map (inject a) xs) i)
  unfolding frame lower inject
  array_stretch a n i xs h k = outer_is
      (λ w o. rw (map_set (inject a) xs i w) (array_bits p (lower a) n (set ss i (inject a w)) (length-set ss i (inject a w) ∙ length-map xs (inject a) ∙ h.0) (each_set (lower a) ss i (inject a w) (each_injected a xs h.1) (inject_belongs a w o))))
      refl
      (pull (Valid a) (inject a) (inject_belongs a) (run_around p (lower a) ss i (rw (length-map xs (inject a)) k)))
    where
      ss : List SValue
      ss = map (inject a) xs

  list_stretch : (a : Ty) (e i : ℕ) (xs : List (Value a)) → Valid (list a e) xs → i < length xs → Around (Valid a) (frame p a) (λ w. frame p (list a e) (set xs i w)) (ahead_in_list p e (lower a) (map (inject a) xs) i)
  unfolding frame lower inject
  list_stretch a e i xs h k = outer_is
      (λ w o. rw (map_set (inject a) xs i w) refl)
      refl
      (pull (Valid a) (inject a) (inject_belongs a) (list_around p (lower a) e (map (inject a) xs) i (rw (length-map xs (inject a)) k) (rw (length-map xs (inject a)) h.0) (each_injected a xs h.1)))

  pub child_lies : (t : Ty) (i : ℕ) (v : Value t) → Valid t v → IfSome (Lies (Valid t) (frame p t) v) (child p t i v)
  unfolding child frame lower inject bits
  child_lies never i v h = tt
  child_lies bool i v h = tt
  child_lies (uint w) i v h = tt
  child_lies (either a b) zero (inl x) h = record { valid = h; same = refl; puts = λ w o. o; stretch = tagged_around p false (width (lower b) - width (lower a)) (Valid a) (frame p a) }
  child_lies (either a b) zero (inr y) h = tt
  child_lies (either a b) (suc zero) (inl x) h = tt
  child_lies (either a b) (suc zero) (inr y) h = record { valid = h; same = refl; puts = λ w o. o; stretch = tagged_around p true (width (lower a) - width (lower b)) (Valid b) (frame p b) }
  child_lies (either a b) (suc (suc i)) v h = tt
  child_lies (option a) zero none h = tt
  child_lies (option a) zero (some x) h = record { valid = h; same = refl; puts = λ w o. o; stretch = outer_is (λ w o. rw (zero-sub (width (lower a)), padded_zero p (bits p (lower a) (inject a w)))) refl (cons_around true (Valid a) (frame p a)) }
  child_lies (option a) (suc i) v h = tt
  child_lies (tuple ts) i v h = ifsome_imp (Lies (Valids ts) (frames ts) v) (Lies (Valid (tuple ts)) (frame p (tuple ts)) v) (lies_ok (Valids ts) (Valids ts) (frames ts) (frame p (tuple ts)) (λ x o. o) (frame_tuple ts) v) (part_of p ts i v) (tuple_lies ts i v h)
  child_lies (array a n) i xs h = element_lies a (ahead_in_array p (lower a) (map (inject a) xs) i) i xs (Valid (array a n)) (frame p (array a n)) h.1 (λ w o. (length-set xs i w ∙ h.0, all_set (Valid a) xs i w h.1 o)) (array_stretch a n i xs h)
  child_lies (list a e) i xs h = element_lies a (ahead_in_list p e (lower a) (map (inject a) xs) i) i xs (Valid (list a e)) (frame p (list a e)) h.1 (λ w o. (rw (length-set xs i w) h.0, all_set (Valid a) xs i w h.1 o)) (list_stretch a e i xs h)
  child_lies (enum vs) i c h =
      ifsome_map (Lies (SameVariant vs c) (choice_frame vs) c) (Lies (Valid (enum vs)) (frame p (enum vs)) c) (within (λ d. d) (ahead_of_payload p (btree (count vs)) (payloads vs) (index vs c)))
      (λ d l. lies_within (SameVariant vs c) (Valid (enum vs)) (choice_frame vs) (frame p (enum vs)) (λ d. d) (ahead_of_payload p (btree (count vs)) (payloads vs) (index vs c)) (λ x o. o.0) (frame_enum vs c) c d l)
      (choice_part p vs i c) (choice_lies vs i c h)

  -- A PATH

  part_lies : (path : List ℕ) (t : Ty) (v : Value t) → Valid t v → IfSome (Lies (Valid t) (frame p t) v) (part p t path v)
  unfolding part
  part_lies [] t v h = record { valid = h; same = refl; puts = λ w o. o; stretch = same_around (λ w o. refl) }
  part_lies (i ∷ path) t v h = go (child p t i v) (child_lies t i v h) (part_lies path)
    where
      go : (o : Option (Part (Value t))) → IfSome (Lies (Valid t) (frame p t) v) o → ((u : Ty) (w : Value u) → Valid u w → IfSome (Lies (Valid u) (frame p u) w) (part p u path w))
          → IfSome (Lies (Valid t) (frame p t) v) (bind_o o (λ c. map_o (within c.put c.ahead) (part p c.type path c.value)))
      go none l rec = tt
      go (some c) l rec =
          ifsome_map (Lies (Valid c.type) (frame p c.type) c.value) (Lies (Valid t) (frame p t) v) (within c.put c.ahead)
          (λ d m. rw l.same at (lies_within (Valid c.type) (Valid t) (frame p c.type) (frame p t) c.put c.ahead l.puts l.stretch c.value d m))
          (part p c.type path c.value) (rec c.type c.value l.valid)

  pub part_there : (t : Ty) (path : List ℕ) (v : Value t) (c : Part (Value t)) → Valid t v → part p t path v ≡ some c → Lies (Valid t) (frame p t) v c
  part_there t path v c h e = rw e at (part_lies path t v h)

  -- replacing a part changes its own bits and no others
  pub edit_frame : (t : Ty) (path : List ℕ) (v : Value t) (c : Part (Value t)) → Valid t v → part p t path v ≡ some c
      → (w : Value c.type) → Valid c.type w
      → frame p t (c.put w) ≡ take (offset c) (frame p t v) ++ frame p c.type w ++ drop (offset c + extent c) (frame p t v)
  edit_frame t path v c h e w o = let l = part_there t path v c h e in
      stretches c.ahead (frame p c.type c.value) l.stretch.back (frame p c.type w) (frame p t v) (frame p t (c.put w)) (extent c)
      (length_frame p c.type c.value l.valid) (sym (ap (frame p t) l.same) ∙ l.stretch.splits c.value l.valid) (l.stretch.splits w o)
    where
      stretches : (front old back new whole result : List Bool) (n : ℕ) → length old ≡ n → whole ≡ front ++ old ++ back → result ≡ front ++ new ++ back
          → result ≡ take (length front) whole ++ new ++ drop (length front + n) whole
      stretches front old back new whole result n m e r =
          r ∙ ap₂ (λ x y. x ++ new ++ y) (sym (ap (take (length front)) (e ∙ append_assoc front old back) ∙ take_at front (old ++ back) (length front) refl)) (sym (ap (drop (length front + n)) e ∙ drop_at (front ++ old) back (length front + n) (length-append front old ∙ ap (λ k. length front + k) m)))
