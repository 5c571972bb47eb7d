-- The part that a path leads to in a value's file is the part of the value as a tree: the same type, and its records stand together in the file, whatever is put in its place.
use Rattle.std.specs.Prelude.{◌≡◌, Bool}
use Rattle.std.proofs.Math.Path.{refl, sym, ap}
use Rattle.std.proofs.Common.{ap₂, ◌∙◌, arith, length-append, length-set}
use Rattle.std.proofs.Math.Logic.{inl, inr}
use mathlib.Core.List.{List, [], ◌∷◌, ◌++◌, append_assoc, append-nil}
use Rattle.std.proofs.Math.Option.{Option, none, some}
use Prim.Native.Nat.{ℕ, zero, suc, ◌+◌}
use Rattle.std.proofs.Math.ListN.{length, drop, set, get_elem?}
use Rattle.std.proofs.Math.Seq.{drop-append_seam}
use Rattle.model.specs.Options.{map_o, bind_o, flat_map, All}
use Rattle.model.specs.Balanced.{btree}
use Rattle.model.specs.Types.{Ty, Tys, Variants, never, bool, uint, either, option, tuple, array, list, enum, nil, cons, last, more, size, count}
use Rattle.model.specs.Lowering.{payloads}
use Rattle.model.specs.Values.{Value, Values, Choice, Valid, Valids, ValidChoice, inject, index}
use Rattle.model.specs.ValueFiles.{Rec, rec, encode, encodes, encode_choice}
use Rattle.model.specs.Frames.{Place, frame}
use Rattle.model.specs.Paths.{span, among, element, in_variant, step, pick_child, Found, behind, follow}
use Rattle.model.specs.Parts.{Part, within, element_of, ahead_of_payload, part_of, choice_part, child, part}
use Rattle.model.proofs.Laws.ValueFiles.{parse_encode}
use Rattle.model.proofs.Laws.Parts.{IfSome, Lies, child_lies}

-- a value takes the records that are written for it
pub span_encode : (t : Ty) (v : Value t) (rest : List Rec) → Valid t v → span t (encode t v ++ rest) ≡ length (encode t v)
unfolding span
span_encode t v rest h = rw (parse_encode t v rest h, span) (omega (arith, length-append (encode t v) rest))

-- ONE STEP

-- the step picks the part's first record, behind the records in front of it
pub record Picked {X : Type 0} (write : X → List Rec) (c : Part X) (r : Option (Ty × ℕ)) : Type 0 where
  pub front : List Rec
  pub back : List Rec
  pub splits : (w : Value c.type) → write (c.put w) ≡ front ++ encode c.type w ++ back
  pub picks : r ≡ some (c.type, length front)

-- it picks a part where there is one, and nothing where there is none
abbrev pub Picks : {X : Type 0} → (X → List Rec) → Option (Part X) → Option (Ty × ℕ) → Type 0
Picks write none r = r ≡ none
Picks write (some c) r = Picked write c r

-- behind the records `over`, which stay whatever is put
shifted : {X Y : Type 0} (f : X → List Rec) (g : Y → List Rec) (k : X → Y) (bits : List Bool) (over : List Rec) (move : Ty × ℕ → Ty × ℕ)
    → ((u : Ty) (n : ℕ) → move (u, n) ≡ (u, length over + n)) → (o : Option (Part X)) → IfSome (λ c. (w : Value c.type) → g (k (c.put w)) ≡ over ++ f (c.put w)) o
    → (r : Option (Ty × ℕ)) → Picks f o r → Picks g (map_o (within k bits) o) (map_o move r)
shifted f g k bits over move m none e r h = rw h refl
shifted f g k bits over move m (some c) e r h = record {
  front = over ++ h.front;
  back = h.back;
  splits = λ w. e w ∙ ap (λ l. over ++ l) (h.splits w) ∙ simp append_assoc;
  picks = rw h.picks (ap {B = Option (Ty × ℕ)} some (m c.type (length h.front) ∙ ap (λ n. (c.type, n)) (sym (length-append over h.front))));
}

-- as a part of something larger that is written alike
inside : {X Y : Type 0} (f : X → List Rec) (g : Y → List Rec) (k : X → Y) (bits : List Bool) (o : Option (Part X)) → ((x : X) → g (k x) ≡ f x)
    → (r : Option (Ty × ℕ)) → Picks f o r → Picks g (map_o (within k bits) o) r
inside f g k bits none e r h = h
inside f g k bits (some c) e r h = record { front = h.front; back = h.back; splits = λ w. e (c.put w) ∙ h.splits w; picks = h.picks }

-- behind the record of the whole
headed : {X : Type 0} (f g : X → List Rec) (hd : Rec) (o : Option (Part X)) → IfSome (λ c. (w : Value c.type) → g (c.put w) ≡ hd ∷ f (c.put w)) o
    → (r : Option (Ty × ℕ)) → Picks f o r → Picks g o (map_o (λ c. (c.0, suc c.1)) r)
headed f g hd none e r h = rw h refl
headed f g hd (some c) e r h = record { front = hd ∷ h.front; back = h.back; splits = λ w. e w ∙ ap {B = List Rec} (λ l. hd ∷ l) (h.splits w); picks = rw h.picks refl }

always : {A : Type 0} (P : A → Type 0) → ((a : A) → P a) → (o : Option A) → IfSome P o
always P h none = tt
always P h (some a) = h a

module _ (p : Place) where
  among_picks : (ts : Tys) (i : ℕ) (v : Values ts) (rest : List Rec) → Valids ts v → Picks (encodes ts) (part_of p ts i v) (among ts i (encodes ts v ++ rest))
  unfolding part_of among encode
  among_picks nil i v rest h = refl
  among_picks (cons t ts) zero v rest h = record { front = []; back = encodes ts v.1; splits = λ w. refl; picks = refl }
  among_picks (cons t ts) (suc i) v rest h =
      let s : span t ((encode t v.0 ++ encodes ts v.1) ++ rest) ≡ length (encode t v.0) = ap (span t) (append_assoc (encode t v.0) (encodes ts v.1) rest) ∙ span_encode t v.0 (encodes ts v.1 ++ rest) h.0 in
      let d : drop (length (encode t v.0)) ((encode t v.0 ++ encodes ts v.1) ++ rest) ≡ encodes ts v.1 ++ rest = ap (drop (length (encode t v.0))) (append_assoc (encode t v.0) (encodes ts v.1) rest) ∙ drop-append_seam (encode t v.0) (encodes ts v.1 ++ rest) in
      rw (s, d) (shifted (encodes ts) (encodes (cons t ts)) (λ r. (v.0, r)) (frame p t v.0) (encode t v.0) (λ x. (x.0, length (encode t v.0) + x.1)) (λ u n. refl)
      (part_of p ts i v.1) (always _ (λ c w. refl) (part_of p ts i v.1)) (among ts i (encodes ts v.1 ++ rest)) (among_picks ts i v.1 rest h.1))

  element_picks : (a : Ty) (k : List Bool) (i : ℕ) (xs : List (Value a)) (rest : List Rec) → All (Valid a) xs → Picks (flat_map (encode a)) (element_of a k i xs) (element a (length xs) i (flat_map (encode a) xs ++ rest))
  unfolding element
  element_picks a k i [] rest h = refl
  element_picks a k zero (x ∷ xs) rest h = record { front = []; back = flat_map (encode a) xs; splits = λ w. refl; picks = refl }
  element_picks a k (suc i) (x ∷ xs) rest h =
      let s : span a ((encode a x ++ flat_map (encode a) xs) ++ rest) ≡ length (encode a x) = ap (span a) (append_assoc (encode a x) (flat_map (encode a) xs) rest) ∙ span_encode a x (flat_map (encode a) xs ++ rest) h.0 in
      let d : drop (length (encode a x)) ((encode a x ++ flat_map (encode a) xs) ++ rest) ≡ flat_map (encode a) xs ++ rest = ap (drop (length (encode a x))) (append_assoc (encode a x) (flat_map (encode a) xs) rest) ∙ drop-append_seam (encode a x) (flat_map (encode a) xs ++ rest) in
      rw (s, d) (go (get_elem? xs i) (element_picks a k i xs rest h.1))
    where
      go : (o : Option (Value a)) → Picks (flat_map (encode a)) (map_o (λ y. record { type = a; value = y; put = λ w. set xs i w; ahead = k }) o) (element a (length xs) i (flat_map (encode a) xs ++ rest))
          → Picks (flat_map (encode a)) (map_o (λ y. record { type = a; value = y; put = λ w. x ∷ set xs i w; ahead = k }) o) (map_o (λ y. (y.0, length (encode a x) + y.1)) (element a (length xs) i (flat_map (encode a) xs ++ rest)))
      go none e = rw e refl
      go (some y) e = record {
        front = encode a x ++ e.front;
        back = e.back;
        splits = λ w. ap (λ l. encode a x ++ l) (e.splits w) ∙ simp append_assoc;
        picks = rw e.picks (ap {B = Option (Ty × ℕ)} (λ n. some (a, n)) (sym (length-append (encode a x) e.front)));
      }

  -- another payload keeps the variant
  choice_index : (vs : Variants) (i : ℕ) (x : Choice vs) → IfSome (λ c. (w : Value c.type) → index vs (c.put w) ≡ index vs x) (choice_part p vs i x)
  unfolding choice_part inject
  choice_index (last ts) i x = always _ (λ c w. refl) (part_of p ts i x)
  choice_index (more ts vs) i (inl x) = go (part_of p ts i x)
    where
      go : (o : Option (Part (Values ts))) → IfSome (λ c. (w : Value c.type) → index (more ts vs) (c.put w) ≡ 0) (map_o (within inl []) o)
      go none = tt
      go (some c) = λ w. refl
  choice_index (more ts vs) i (inr x) = go (choice_part p vs i x) (choice_index vs i x)
    where
      go : (o : Option (Part (Choice vs))) → IfSome (λ c. (w : Value c.type) → index vs (c.put w) ≡ index vs x) o → IfSome (λ c. (w : Value c.type) → index (more ts vs) (c.put w) ≡ suc (index vs x)) (map_o (within inr []) o)
      go none h = tt
      go (some c) h = λ w. ap suc (h w)

  variant_picks : (vs : Variants) (i : ℕ) (c : Choice vs) (rest : List Rec) → ValidChoice vs c → Picks (encode_choice vs) (choice_part p vs i c) (in_variant vs (index vs c) i (encode_choice vs c ++ rest))
  unfolding choice_part in_variant inject encode
  variant_picks (last ts) i c rest h = among_picks ts i c rest h
  variant_picks (more ts vs) i (inl c) rest h = inside (encodes ts) (encode_choice (more ts vs)) inl [] (part_of p ts i c) (λ x. refl) (among ts i (encodes ts c ++ rest)) (among_picks ts i c rest h)
  variant_picks (more ts vs) i (inr c) rest h = inside (encode_choice vs) (encode_choice (more ts vs)) inr [] (choice_part p vs i c) (λ x. refl) (in_variant vs (index vs c) i (encode_choice vs c ++ rest)) (variant_picks vs i c rest h)

  enum_headed : (vs : Variants) (i : ℕ) (x : Choice vs) (k : List Bool) (o : Option (Part (Choice vs))) → IfSome (λ c. (w : Value c.type) → index vs (c.put w) ≡ index vs x) o
      → IfSome (λ c. (w : Value c.type) → encode (enum vs) (c.put w) ≡ rec 8 0 (index vs x) 0 ∷ encode_choice vs (c.put w)) (map_o (within (λ d. d) k) o)
  unfolding encode
  enum_headed vs i x k none h = tt
  enum_headed vs i x k (some c) h = λ w. ap {B = List Rec} (λ n. rec 8 0 n 0 ∷ encode_choice vs (c.put w)) (h w)

  list_headed : (a : Ty) (e i : ℕ) (xs : List (Value a)) (k : List Bool) → IfSome {A = Part (List (Value a))} (λ c. (w : Value c.type) → encode (list a e) (c.put w) ≡ rec 7 0 (length xs) 0 ∷ flat_map (encode a) (c.put w)) (element_of a k i xs)
  unfolding encode
  list_headed a e i xs k = go (get_elem? xs i)
    where
      go : (o : Option (Value a)) → IfSome {A = Part (List (Value a))} (λ c. (w : Value c.type) → encode (list a e) (c.put w) ≡ rec 7 0 (length xs) 0 ∷ flat_map (encode a) (c.put w)) (map_o (λ x. record { type = a; value = x; put = λ w. set xs i w; ahead = k }) o)
      go none = tt
      go (some x) = λ w. ap {B = List Rec} (λ n. rec 7 0 n 0 ∷ flat_map (encode a) (set xs i w)) (length-set xs i w)

  one_child : (u : Ty) (X : Type 0) (write : X → List Rec) (hd : Rec) (x : Value u) (k : Value u → X) (bits : List Bool) → ((w : Value u) → write (k w) ≡ hd ∷ encode u w) → Picked write (record { type = u; value = x; put = k; ahead = bits }) (some (u, 1))
  one_child u X write hd x k bits e = record { front = hd ∷ []; back = []; splits = λ w. e w ∙ ap {B = List Rec} (λ l. hd ∷ l) (sym (append-nil (encode u w))); picks = refl }

  -- a step of the path picks the child of the value, in its file
  pub child_picks : (t : Ty) (i : ℕ) (v : Value t) (rest : List Rec) → Valid t v → Picks (encode t) (child p t i v) (pick_child t i (encode t v ++ rest))
  unfolding child encode pick_child step
  child_picks never i v rest h = absurd v
  child_picks bool i v rest h = refl
  child_picks (uint n) i v rest h = refl
  child_picks (either a b) zero (inl x) rest h = one_child a (Value (either a b)) (encode (either a b)) (rec 3 0 0 0) x inl _ (λ w. refl)
  child_picks (either a b) zero (inr y) rest h = refl
  child_picks (either a b) (suc zero) (inl x) rest h = refl
  child_picks (either a b) (suc zero) (inr y) rest h = one_child b (Value (either a b)) (encode (either a b)) (rec 3 1 0 0) y inr _ (λ w. refl)
  child_picks (either a b) (suc (suc i)) (inl x) rest h = refl
  child_picks (either a b) (suc (suc i)) (inr y) rest h = refl
  child_picks (option a) zero none rest h = refl
  child_picks (option a) zero (some x) rest h = one_child a (Value (option a)) (encode (option a)) (rec 4 1 0 0) x some _ (λ w. refl)
  child_picks (option a) (suc i) none rest h = refl
  child_picks (option a) (suc i) (some x) rest h = refl
  child_picks (tuple ts) i v rest h = headed (encodes ts) (encode (tuple ts)) (rec 5 0 (size ts) 0) (part_of p ts i v) (always _ (λ c w. refl) (part_of p ts i v)) (among ts i (encodes ts v ++ rest)) (among_picks ts i v rest h)
  child_picks (array a n) i xs rest h =
      rw (← h.0) (headed (flat_map (encode a)) (encode (array a (length xs))) (rec 6 0 (length xs) 0) (element_of a _ i xs) (always _ (λ c w. refl) (element_of a _ i xs)) (element a (length xs) i (flat_map (encode a) xs ++ rest)) (element_picks a _ i xs rest h.1))
  child_picks (list a e) i xs rest h = headed (flat_map (encode a)) (encode (list a e)) (rec 7 0 (length xs) 0) (child p (list a e) i xs) (list_headed a e i xs _) (element a (length xs) i (flat_map (encode a) xs ++ rest)) (element_picks a _ i xs rest h.1)
  child_picks (enum vs) i c rest h =
      headed (encode_choice vs) (encode (enum vs)) (rec 8 0 (index vs c) 0) (child p (enum vs) i c) (enum_headed vs i c (ahead_of_payload p (btree (count vs)) (payloads vs) (index vs c)) (choice_part p vs i c) (choice_index vs i c)) (in_variant vs (index vs c) i (encode_choice vs c ++ rest))
      (inside (encode_choice vs) (encode_choice vs) (λ d. d) (ahead_of_payload p (btree (count vs)) (payloads vs) (index vs c)) (choice_part p vs i c) (λ x. refl) (in_variant vs (index vs c) i (encode_choice vs c ++ rest)) (variant_picks vs i c rest h))

  -- behind the records in front of a child, the child's own stand first
  pub child_dropped : (t : Ty) (v : Value t) (rest : List Rec) (c : Part (Value t)) (r : Option (Ty × ℕ)) (m : Picked (encode t) c r) → Lies p (Valid t) (frame p t) v c → drop (length m.front) (encode t v ++ rest) ≡ encode c.type c.value ++ (m.back ++ rest)
  child_dropped t v rest c r m l =
      ap (λ x. drop (length m.front) (encode t x ++ rest)) (sym l.same) ∙ ap (λ y. drop (length m.front) (y ++ rest)) (m.splits c.value)
      ∙ ap (drop (length m.front)) (regroup m.front (encode c.type c.value) m.back rest) ∙ drop-append_seam m.front (encode c.type c.value ++ (m.back ++ rest))
    where
      regroup : (a b c d : List Rec) → ((a ++ b) ++ c) ++ d ≡ a ++ (b ++ (c ++ d))
      regroup a b c d = simp append_assoc

  -- A PATH

  -- the path leads to the part: from the first of its records to the last
  pub record Stands {X : Type 0} (write : X → List Rec) (c : Part X) (r : Option Found) : Type 0 where
    pub front : List Rec
    pub back : List Rec
    pub splits : (w : Value c.type) → write (c.put w) ≡ front ++ encode c.type w ++ back
    pub leads : r ≡ some (record { type = c.type; first = length front; end = length front + length (encode c.type c.value) })

  abbrev pub Leads : {X : Type 0} → (X → List Rec) → Option (Part X) → Option Found → Type 0
  Leads write none r = r ≡ none
  Leads write (some c) r = Stands write c r

  -- a part of a part
  deeper : {X Y : Type 0} (f : X → List Rec) (g : Y → List Rec) (k : X → Y) (bits : List Bool) (front back : List Rec) → ((x : X) → g (k x) ≡ front ++ f x ++ back)
      → (o : Option (Part X)) (r : Option Found) → Leads f o r → Leads g (map_o (within k bits) o) (map_o (behind (length front)) r)
  deeper f g k bits front back e none r h = rw h refl
  deeper f g k bits front back e (some c) r h = record {
    front = front ++ h.front;
    back = h.back ++ back;
    splits = λ w. e (c.put w) ∙ ap (λ l. front ++ l ++ back) (h.splits w) ∙ simp append_assoc;
    leads = rw h.leads (ap₂ {C = Option Found} (λ m n. some (record { type = c.type; first = m; end = n })) (sym (length-append front h.front)) (omega (arith, length-append front h.front)));
  }

  pub part_leads : (path : List ℕ) (t : Ty) (v : Value t) (rest : List Rec) → Valid t v → Leads (encode t) (part p t path v) (follow t path (encode t v ++ rest))
  unfolding part follow
  part_leads [] t v rest h = record { front = []; back = []; splits = λ w. sym (append-nil (encode t w)); leads = ap {B = Option Found} (λ n. some (record { type = t; first = 0; end = n })) (span_encode t v rest h ∙ omega arith) }
  part_leads (i ∷ path) t v rest h = go (child p t i v) (child_picks t i v rest h) (child_lies p t i v h) (part_leads path)
    where
      go : (o : Option (Part (Value t))) → Picks (encode t) o (pick_child t i (encode t v ++ rest)) → IfSome (Lies p (Valid t) (frame p t) v) o
          → ((u : Ty) (w : Value u) (rest : List Rec) → Valid u w → Leads (encode u) (part p u path w) (follow u path (encode u w ++ rest)))
          → Leads (encode t) (bind_o o (λ c. map_o (within c.put c.ahead) (part p c.type path c.value))) (bind_o (pick_child t i (encode t v ++ rest)) (λ c. map_o (behind c.1) (follow c.0 path (drop c.1 (encode t v ++ rest)))))
      go none e l ih = rw e refl
      go (some c) e l ih =
          let d = child_dropped t v rest c _ e l in
          rw e.picks (rw d (deeper (encode c.type) (encode t) c.put c.ahead e.front e.back e.splits (part p c.type path c.value) (follow c.type path (encode c.type c.value ++ (e.back ++ rest)))
          (ih c.type c.value (e.back ++ rest) l.valid)))
