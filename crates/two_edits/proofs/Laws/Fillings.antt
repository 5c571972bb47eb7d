-- Parts filled again, and two parts filled one after the other: a part that was filled is found again with the new value in it, and parts behind different steps
-- can be filled in either order. First of one step, kind by kind, then along a path. What is written ahead of a part can change by that, and nothing here looks at it: so it is left open (`ahead`).
use Rattle.std.specs.Prelude.{◌≡◌, ◌≢◌, Bool, set}
use Rattle.std.proofs.Math.Path.{refl, fun_ext}
use Rattle.std.proofs.Common.{sym, ap, ◌∙◌, set-set}
use Rattle.std.proofs.Math.Logic.{inl, inr}
use mathlib.Core.List.{List, [], ◌∷◌, ◌++◌, map}
use Rattle.std.proofs.Math.Option.{Option, none, some, none-ne-some}
use Prim.Native.Nat.{ℕ, zero, suc}
use Rattle.std.proofs.Math.ListN.{get_elem?}
use Rattle.std.proofs.lemmas.List.{set_comm}
use Rattle.model.specs.Options.{map_o, bind_o}
use Rattle.model.specs.Balanced.{btree}
use Rattle.model.specs.Types.{Ty, Tys, Variants, never, bool, uint, either, option, tuple, array, list, enum, nil, cons, last, more, count}
use Rattle.model.specs.Lowering.{lower, payloads}
use Rattle.model.specs.Values.{Value, Values, Choice, Valid, inject, index}
use Rattle.model.specs.Frames.{Place, frame}
use Rattle.model.specs.Parts.{Part, within, element_of, ahead_of_payload, ahead_in_array, ahead_in_list, part_of, choice_part, child, part}
use Rattle.model.proofs.Laws.Parts.{IfSome, ifsome_map, ifsome_imp, part_there}
use Rattle.two_edits.proofs.Laws.Diverging.{Diverge, here, there}

-- the same place with another value in it, behind these bits
abbrev pub holding : {X : Type 0} (c : Part X) → Value c.type → List Bool → Part X
holding c w k = record { type = c.type; value = w; put = c.put; ahead = k }

-- ELEMENTS OF A LIST

found_set : {A : Type 0} (xs : List A) (i : ℕ) (x y : A) → get_elem? xs i ≡ some x → get_elem? (set xs i y) i ≡ some y
found_set [] i x y h = absurd (none-ne-some x h)
found_set (z ∷ zs) zero x y h = refl
found_set (z ∷ zs) (suc i) x y h = found_set zs i x y h

found_other : {A : Type 0} (xs : List A) (i j : ℕ) (y : A) → i ≢ j → get_elem? (set xs i y) j ≡ get_elem? xs j
found_other [] i j y h = refl
found_other (z ∷ zs) zero zero y h = absurd (h refl)
found_other (z ∷ zs) zero (suc j) y h = refl
found_other (z ∷ zs) (suc i) zero y h = refl
found_other (z ∷ zs) (suc i) (suc j) y h = found_other zs i j y (λ e. h (ap suc e))

-- LAWS OF ONE STEP, for any step

-- filling the place c and taking the step again finds the place c with that value in it
pub record Again {X : Type 0} (step : X → Option (Part X)) (c : Part X) : Type 0 where
  pub ahead : Value c.type → List Bool
  pub finds : (w : Value c.type) → step (c.put w) ≡ some (holding c w (ahead w))

-- the places c and d can be filled in either order
pub record Swap {X : Type 0} (f g : X → Option (Part X)) (c d : Part X) : Type 0 where
  pub both : Value c.type → Value d.type → X
  pub left_ahead : Value c.type → List Bool
  pub right_ahead : Value d.type → List Bool
  pub left : (w : Value c.type) → g (c.put w) ≡ some (record { type = d.type; value = d.value; put = both w; ahead = left_ahead w })
  pub right : (x : Value d.type) → f (d.put x) ≡ some (record { type = c.type; value = c.value; put = λ w. both w x; ahead = right_ahead x })

-- what the two steps find can be filled in either order, where both find something
abbrev pub Swaps : {X : Type 0} → (f g : X → Option (Part X)) → Option (Part X) → Option (Part X) → Type 0
Swaps f g none q = Unit
Swaps f g (some c) none = Unit
Swaps f g (some c) (some d) = Swap f g c d

nothing_swaps : {X : Type 0} (f g : X → Option (Part X)) (o : Option (Part X)) → Swaps f g o none
nothing_swaps f g none = tt
nothing_swaps f g (some c) = tt

-- the two change places
turned : {X : Type 0} (f g : X → Option (Part X)) (o q : Option (Part X)) → Swaps f g o q → Swaps g f q o
turned f g none q s = nothing_swaps g f q
turned f g (some c) none s = tt
turned f g (some c) (some d) s = record { both = λ x w. s.both w x; left_ahead = s.right_ahead; right_ahead = s.left_ahead; left = s.right; right = s.left }

-- PARTS OF SOMETHING LARGER, which is made of x by k and writes the bits `front x` ahead of it
module _ {X Y : Type 0} (k : X → Y) (front : X → List Bool) (ahead : List Bool) where
  -- the step g from the larger is the step f from x
  abbrev Inside : (X → Option (Part X)) → (Y → Option (Part Y)) → Type 0
  Inside f g = (x : X) → g (k x) ≡ map_o (within k (front x)) (f x)

  again_inside : (f : X → Option (Part X)) (g : Y → Option (Part Y)) → Inside f g → (o : Option (Part X)) → IfSome (Again f) o → IfSome (Again g) (map_o (within k ahead) o)
  again_inside f g e none h = tt
  again_inside f g e (some c) h = record { ahead = λ w. front (c.put w) ++ h.ahead w; finds = λ w. e (c.put w) ∙ rw (h.finds w) refl }

  swap_inside : (f f' : X → Option (Part X)) (g g' : Y → Option (Part Y)) → Inside f g → Inside f' g' → (o q : Option (Part X)) → Swaps f f' o q → Swaps g g' (map_o (within k ahead) o) (map_o (within k ahead) q)
  swap_inside f f' g g' e e' none q s = tt
  swap_inside f f' g g' e e' (some c) none s = tt
  swap_inside f f' g g' e e' (some c) (some d) s = record {
    both = λ w x. k (s.both w x);
    left_ahead = λ w. front (c.put w) ++ s.left_ahead w;
    right_ahead = λ x. front (d.put x) ++ s.right_ahead x;
    left = λ w. e' (c.put w) ∙ rw (s.left w) refl;
    right = λ x. e (d.put x) ∙ rw (s.right x) refl;
  }

module _ (p : Place) where
  element_again : (a : Ty) (k : List (Value a) → List Bool) (i : ℕ) (xs : List (Value a)) → IfSome (Again (λ ys. element_of a (k ys) i ys)) (element_of a (k xs) i xs)
  element_again a k i xs = go (get_elem? xs i) refl
    where
      go : (o : Option (Value a)) → get_elem? xs i ≡ o → IfSome (Again (λ ys. element_of a (k ys) i ys)) (map_o (λ x. record { type = a; value = x; put = λ w. set xs i w; ahead = k xs }) o)
      go none e = tt
      go (some x) e = record {
        ahead = λ w. k (set xs i w);
        finds = λ w. rw (found_set xs i x w e) (ap {B = Option (Part (List (Value a)))} (λ f. some (record { type = a; value = w; put = f; ahead = k (set xs i w) })) (fun_ext (λ y. set-set xs i w y)));
      }

  tuple_again : (ts : Tys) (i : ℕ) (v : Values ts) → IfSome (Again (part_of p ts i)) (part_of p ts i v)
  unfolding part_of
  tuple_again nil i v = tt
  tuple_again (cons t ts) zero v = record { ahead = λ w. []; finds = λ w. refl }
  tuple_again (cons t ts) (suc i) v = again_inside (λ r. (v.0, r)) (λ r. frame p t v.0) (frame p t v.0) (part_of p ts i) (part_of p (cons t ts) (suc i)) (λ r. refl) (part_of p ts i v.1) (tuple_again ts i v.1)

  choice_again : (vs : Variants) (i : ℕ) (x : Choice vs) → IfSome (Again (choice_part p vs i)) (choice_part p vs i x)
  unfolding choice_part
  choice_again (last ts) i x = ifsome_imp (Again (part_of p ts i)) (Again (choice_part p (last ts) i)) (λ c h. record { ahead = h.ahead; finds = h.finds }) (part_of p ts i x) (tuple_again ts i x)
  choice_again (more ts vs) i (inl x) = again_inside inl (λ d. []) [] (part_of p ts i) (choice_part p (more ts vs) i) (λ d. refl) (part_of p ts i x) (tuple_again ts i x)
  choice_again (more ts vs) i (inr x) = again_inside inr (λ d. []) [] (choice_part p vs i) (choice_part p (more ts vs) i) (λ d. refl) (choice_part p vs i x) (choice_again vs i x)

  -- the bits of an Enum ahead of the payload present
  abbrev payload_ahead : (vs : Variants) → Choice vs → List Bool
  payload_ahead vs x = ahead_of_payload p (btree (count vs)) (payloads vs) (index vs x)

  child_again : (t : Ty) (i : ℕ) (v : Value t) → IfSome (Again (child p t i)) (child p t i v)
  unfolding child
  child_again never i v = tt
  child_again bool i v = tt
  child_again (uint k) i v = tt
  child_again (either a b) zero (inl x) = record { ahead = λ w. _; finds = λ w. refl }
  child_again (either a b) zero (inr y) = tt
  child_again (either a b) (suc zero) (inl x) = tt
  child_again (either a b) (suc zero) (inr y) = record { ahead = λ w. _; finds = λ w. refl }
  child_again (either a b) (suc (suc i)) v = tt
  child_again (option a) zero none = tt
  child_again (option a) zero (some x) = record { ahead = λ w. _; finds = λ w. refl }
  child_again (option a) (suc i) v = tt
  child_again (tuple ts) i v = tuple_again ts i v
  child_again (array a n) i xs = element_again a (λ ys. ahead_in_array p (lower a) (map (inject a) ys) i) i xs
  child_again (list a e) i xs = element_again a (λ ys. ahead_in_list p e (lower a) (map (inject a) ys) i) i xs
  child_again (enum vs) i x = again_inside (λ d. d) (payload_ahead vs) (payload_ahead vs x) (choice_part p vs i) (child p (enum vs) i) (λ d. refl) (choice_part p vs i x) (choice_again vs i x)

  -- TWO STEPS APART

  element_swap : (a : Ty) (k l : List (Value a) → List Bool) (i j : ℕ) (xs : List (Value a)) → i ≢ j → Swaps (λ ys. element_of a (k ys) i ys) (λ ys. element_of a (l ys) j ys) (element_of a (k xs) i xs) (element_of a (l xs) j xs)
  element_swap a k l i j xs n = go (get_elem? xs i) refl (get_elem? xs j) refl
    where
      go : (o : Option (Value a)) → get_elem? xs i ≡ o → (q : Option (Value a)) → get_elem? xs j ≡ q
          → Swaps (λ ys. element_of a (k ys) i ys) (λ ys. element_of a (l ys) j ys) (map_o (λ x. record { type = a; value = x; put = λ w. set xs i w; ahead = k xs }) o) (map_o (λ x. record { type = a; value = x; put = λ w. set xs j w; ahead = l xs }) q)
      go none e q f = tt
      go (some x) e none f = tt
      go (some x) e (some y) f = record {
        both = λ w z. set (set xs i w) j z;
        left_ahead = λ w. l (set xs i w);
        right_ahead = λ z. k (set xs j z);
        left = λ w. rw (found_other xs i j w n, f);
        right = λ z. rw (found_other xs j i z (λ m. n (sym m)), e) (ap {B = Option (Part (List (Value a)))} (λ h. some (record { type = a; value = x; put = h; ahead = k (set xs j z) })) (fun_ext (λ w. sym (set_comm xs i j w z n))));
      }

  -- the first part of a tuple and a later one
  head_swap : (t : Ty) (ts : Tys) (j : ℕ) (v : Values (cons t ts)) → Swaps (part_of p (cons t ts) zero) (part_of p (cons t ts) (suc j)) (part_of p (cons t ts) zero v) (part_of p (cons t ts) (suc j) v)
  unfolding part_of
  head_swap t ts j v = go (part_of p ts j v.1) refl
    where
      go : (o : Option (Part (Values ts))) → part_of p ts j v.1 ≡ o → Swaps (part_of p (cons t ts) zero) (part_of p (cons t ts) (suc j)) (part_of p (cons t ts) zero v) (map_o (within (λ r. (v.0, r)) (frame p t v.0)) o)
      go none e = tt
      go (some d) e = record { both = λ w x. (w, d.put x); left_ahead = λ w. frame p t w ++ d.ahead; right_ahead = λ x. []; left = λ w. rw e refl; right = λ x. refl }

  tuple_swap : (ts : Tys) (i j : ℕ) → i ≢ j → (v : Values ts) → Swaps (part_of p ts i) (part_of p ts j) (part_of p ts i v) (part_of p ts j v)
  unfolding part_of
  tuple_swap nil i j n v = tt
  tuple_swap (cons t ts) zero zero n v = absurd (n refl)
  tuple_swap (cons t ts) zero (suc j) n v = head_swap t ts j v
  tuple_swap (cons t ts) (suc i) zero n v = turned (part_of p (cons t ts) zero) (part_of p (cons t ts) (suc i)) (part_of p (cons t ts) zero v) (part_of p (cons t ts) (suc i) v) (head_swap t ts i v)
  tuple_swap (cons t ts) (suc i) (suc j) n v =
      swap_inside (λ r. (v.0, r)) (λ r. frame p t v.0) (frame p t v.0) (part_of p ts i) (part_of p ts j) (part_of p (cons t ts) (suc i)) (part_of p (cons t ts) (suc j)) (λ r. refl) (λ r. refl)
      (part_of p ts i v.1) (part_of p ts j v.1) (tuple_swap ts i j (λ e. n (ap suc e)) v.1)

  choice_swap : (vs : Variants) (i j : ℕ) → i ≢ j → (v : Choice vs) → Swaps (choice_part p vs i) (choice_part p vs j) (choice_part p vs i v) (choice_part p vs j v)
  unfolding choice_part
  choice_swap (last ts) i j n v = same (part_of p ts i v) (part_of p ts j v) (tuple_swap ts i j n v)
    where
      same : (o q : Option (Part (Values ts))) → Swaps (part_of p ts i) (part_of p ts j) o q → Swaps (choice_part p (last ts) i) (choice_part p (last ts) j) o q
      same none q h = tt
      same (some c) none h = tt
      same (some c) (some d) h = record { both = h.both; left_ahead = h.left_ahead; right_ahead = h.right_ahead; left = h.left; right = h.right }
  choice_swap (more ts vs) i j n (inl v) =
      swap_inside inl (λ d. []) [] (part_of p ts i) (part_of p ts j) (choice_part p (more ts vs) i) (choice_part p (more ts vs) j) (λ x. refl) (λ x. refl) (part_of p ts i v) (part_of p ts j v) (tuple_swap ts i j n v)
  choice_swap (more ts vs) i j n (inr v) =
      swap_inside inr (λ d. []) [] (choice_part p vs i) (choice_part p vs j) (choice_part p (more ts vs) i) (choice_part p (more ts vs) j) (λ x. refl) (λ x. refl) (choice_part p vs i v) (choice_part p vs j v) (choice_swap vs i j n v)

  child_swap : (t : Ty) (i j : ℕ) → i ≢ j → (v : Value t) → Swaps (child p t i) (child p t j) (child p t i v) (child p t j v)
  unfolding child
  child_swap never i j n v = tt
  child_swap bool i j n v = tt
  child_swap (uint k) i j n v = tt
  child_swap (either a b) zero zero n (inl x) = absurd (n refl)
  child_swap (either a b) zero (suc zero) n (inl x) = tt
  child_swap (either a b) zero (suc (suc j)) n (inl x) = tt
  child_swap (either a b) zero j n (inr y) = tt
  child_swap (either a b) (suc zero) j n (inl x) = tt
  child_swap (either a b) (suc zero) zero n (inr y) = tt
  child_swap (either a b) (suc zero) (suc zero) n (inr y) = absurd (n refl)
  child_swap (either a b) (suc zero) (suc (suc j)) n (inr y) = tt
  child_swap (either a b) (suc (suc i)) j n v = tt
  child_swap (option a) zero j n none = tt
  child_swap (option a) zero zero n (some x) = absurd (n refl)
  child_swap (option a) zero (suc j) n (some x) = tt
  child_swap (option a) (suc i) j n v = tt
  child_swap (tuple ts) i j n v = tuple_swap ts i j n v
  child_swap (array a m) i j n xs = element_swap a (λ ys. ahead_in_array p (lower a) (map (inject a) ys) i) (λ ys. ahead_in_array p (lower a) (map (inject a) ys) j) i j xs n
  child_swap (list a e) i j n xs = element_swap a (λ ys. ahead_in_list p e (lower a) (map (inject a) ys) i) (λ ys. ahead_in_list p e (lower a) (map (inject a) ys) j) i j xs n
  child_swap (enum vs) i j n v =
      swap_inside (λ d. d) (payload_ahead vs) (payload_ahead vs v) (choice_part p vs i) (choice_part p vs j) (child p (enum vs) i) (child p (enum vs) j) (λ d. refl) (λ d. refl) (choice_part p vs i v) (choice_part p vs j v) (choice_swap vs i j n v)

  -- A PATH

  -- from what a step found onward by the path
  abbrev onward : (t : Ty) → List ℕ → Option (Part (Value t)) → Option (Part (Value t))
  onward t path o = bind_o o (λ c. map_o (within c.put c.ahead) (part p c.type path c.value))

  -- a part that was filled is found again, with the new value in it
  pub part_again : (path : List ℕ) (t : Ty) (v : Value t) → IfSome (Again (part p t path)) (part p t path v)
  unfolding part
  part_again [] t v = record { ahead = λ w. []; finds = λ w. refl }
  part_again (i ∷ path) t v = go (child p t i v) (child_again t i v) (part_again path)
    where
      go : (o : Option (Part (Value t))) → IfSome (Again (child p t i)) o → ((u : Ty) (w : Value u) → IfSome (Again (part p u path)) (part p u path w))
          → IfSome (Again (part p t (i ∷ path))) (onward t path o)
      go none h rec = tt
      go (some c) h rec =
          ifsome_map (Again (part p c.type path)) (Again (part p t (i ∷ path))) (within c.put c.ahead)
          (λ d k. record { ahead = λ w. h.ahead (d.put w) ++ k.ahead w; finds = λ w. rw (h.finds (d.put w), k.finds w) refl }) (part p c.type path c.value) (rec c.type c.value)

  module _ (q r : List ℕ) (t : Ty) where
    -- where the paths take different steps from here
    swap_here : (f g : Value t → Option (Part (Value t))) (c d : Part (Value t)) → Swap f g c d → (o : Option (Part (Value c.type))) → part p c.type q c.value ≡ o → (u : Option (Part (Value d.type))) → part p d.type r d.value ≡ u
        → Swaps (λ v. onward t q (f v)) (λ v. onward t r (g v)) (map_o (within c.put c.ahead) o) (map_o (within d.put d.ahead) u)
    swap_here f g c d s none e u k = tt
    swap_here f g c d s (some x) e none k = tt
    swap_here f g c d s (some x) e (some y) k = record {
      both = λ w z. s.both (x.put w) (y.put z);
      left_ahead = λ w. s.left_ahead (x.put w) ++ y.ahead;
      right_ahead = λ z. s.right_ahead (y.put z) ++ x.ahead;
      left = λ w. rw (s.left (x.put w)) (rw k refl);
      right = λ z. rw (s.right (y.put z)) (rw e refl);
    }

    -- and where they take the same step
    swap_there : (f : Value t → Option (Part (Value t))) (c : Part (Value t)) → Again f c → (o u : Option (Part (Value c.type))) → Swaps (part p c.type q) (part p c.type r) o u
        → Swaps (λ v. onward t q (f v)) (λ v. onward t r (f v)) (map_o (within c.put c.ahead) o) (map_o (within c.put c.ahead) u)
    swap_there f c a none u s = tt
    swap_there f c a (some x) none s = tt
    swap_there f c a (some x) (some y) s = record {
      both = λ w z. c.put (s.both w z);
      left_ahead = λ w. a.ahead (x.put w) ++ s.left_ahead w;
      right_ahead = λ z. a.ahead (y.put z) ++ s.right_ahead z;
      left = λ w. rw (a.finds (x.put w)) (rw (s.left w) refl);
      right = λ z. rw (a.finds (y.put z)) (rw (s.right z) refl);
    }

  -- parts behind different steps can be filled in either order
  pub part_swap : {q r : List ℕ} → Diverge q r → (t : Ty) (v : Value t) → Swaps (part p t q) (part p t r) (part p t q v) (part p t r v)
  unfolding part
  part_swap (here {i} {j} {q} {r} n) t v = go (child p t i v) (child p t j v) (child_swap t i j n v)
    where
      go : (o u : Option (Part (Value t))) → Swaps (child p t i) (child p t j) o u → Swaps (part p t (i ∷ q)) (part p t (j ∷ r)) (onward t q o) (onward t r u)
      go none u s = tt
      go (some c) none s = nothing_swaps (part p t (i ∷ q)) (part p t (j ∷ r)) (map_o (within c.put c.ahead) (part p c.type q c.value))
      go (some c) (some d) s = swap_here q r t (child p t i) (child p t j) c d s (part p c.type q c.value) refl (part p d.type r d.value) refl
  part_swap (there {i} {q} {r} d) t v = go (child p t i v) (child_again t i v) (part_swap d)
    where
      go : (o : Option (Part (Value t))) → IfSome (Again (child p t i)) o → ((u : Ty) (w : Value u) → Swaps (part p u q) (part p u r) (part p u q w) (part p u r w))
          → Swaps (part p t (i ∷ q)) (part p t (i ∷ r)) (onward t q o) (onward t r o)
      go none a rec = tt
      go (some c) a rec = swap_there q r t (child p t i) c a (part p c.type q c.value) (part p c.type r c.value) (rec c.type c.value)

  -- and where the other path leads nowhere, it still does
  pub none_stays : {q r : List ℕ} → Diverge q r → (t : Ty) (v : Value t) → Valid t v → (c : Part (Value t)) → part p t q v ≡ some c → part p t r v ≡ none → (w : Value c.type) → part p t r (c.put w) ≡ none
  none_stays {q} {r} d t v h c e n w = go (part p t r (c.put w)) refl
    where
      a : Again (part p t q) c
      a = rw e at (part_again q t v)

      go : (o : Option (Part (Value t))) → part p t r (c.put w) ≡ o → o ≡ none
      go none f = refl
      go (some x) f = absurd (back x (rw (a.finds w, f) at (part_swap d t (c.put w))))
        where
          back : (x : Part (Value t)) → Swap (part p t q) (part p t r) (holding c w (a.ahead w)) x → ⊥
          back x s = none-ne-some _ (sym n ∙ ap (part p t r) (sym (part_there p t q v c h e).same) ∙ s.left c.value)
