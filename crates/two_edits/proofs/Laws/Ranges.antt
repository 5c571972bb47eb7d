-- The records of two parts of one value: a part behind a longer path lies within the part that the path's beginning leads to; where two paths part, so do the records.
-- So a part lies within another exactly when its path begins with the other's steps.
use Rattle.std.specs.Prelude.{◌≡◌, ◌⊎◌, ◌↔◌, Bool, true, false, ℕ, zero, suc, ◌+◌, ◌≤◌, ◌<◌, eqb, ltb, drop}
use Rattle.std.proofs.Math.Path.{refl, ap}
use Rattle.std.proofs.Common.{sym, ◌∙◌, inl, inr, length-append, drop-drop, eqb-true, ltb-true, ltb-false}
use mathlib.Core.List.{List, [], ◌∷◌, ◌++◌, append-nil}
use Rattle.std.proofs.Math.Option.{Option, none, some, none-ne-some, some-injective}
use native.Mathlib.Omega.{arith}
use Rattle.std.proofs.Math.ListN.{length}
use Rattle.model.specs.Types.{Ty, Tys, Variants, never, bool, uint, either, option, tuple, array, list, enum, nil, cons, last, more}
use Rattle.model.specs.Values.{Value, Valid}
use Rattle.model.specs.ValueFiles.{Rec, encode}
use Rattle.model.specs.Frames.{Place, frame}
use Rattle.model.specs.Paths.{span, among, element, in_variant, step, pick_child, Found, behind, follow}
use Rattle.model.specs.Parts.{Part, child, part}
use Rattle.model.proofs.Laws.Options.{map_o_some, when_some}
use Rattle.model.proofs.Laws.ValueFiles.{encode_some}
use Rattle.model.proofs.Laws.Parts.{IfSome, Lies, child_lies, part_there}
use Rattle.model.proofs.Laws.FileParts.{span_encode, Picks, child_picks, child_dropped, Leads, part_leads}
use Rattle.two_edits.specs.TwoEdits.{LiesWithin, Apart, BeginWith}
use Rattle.two_edits.proofs.Laws.Diverging.{Diverge, here, there, Compared, compare, first_begins, second_begins, diverge}

-- CHILDREN STAND ONE BEHIND THE OTHER

-- the child x ends before the child y begins
abbrev Before : List Rec → Ty × ℕ → Ty × ℕ → Type 0
Before rs x y = x.1 + span x.0 (drop x.1 rs) ≤ y.1

-- behind k records more
before_behind : (k : ℕ) (rs : List Rec) (x y : Ty × ℕ) → Before (drop k rs) x y → Before rs (x.0, k + x.1) (y.0, k + y.1)
before_behind k rs x y h = rw (← drop-drop x.1 k rs) (omega arith)

among_before : (ts : Tys) (i j : ℕ) (rs : List Rec) (x y : Ty × ℕ) → i < j → among ts i rs ≡ some x → among ts j rs ≡ some y → Before rs x y
unfolding among
among_before nil i j rs x y l e f = absurd (none-ne-some x e)
among_before (cons t ts) i zero rs x y l e f = absurd (omega arith)
among_before (cons t ts) zero (suc j) rs x y l e f =
    let (z, g, h) = map_o_some _ (among ts j (drop (span t rs) rs)) y f in
    rw (← some-injective _ _ e, ← h) (omega arith)
among_before (cons t ts) (suc i) (suc j) rs x y l e f =
    let (w, g, h) = map_o_some _ (among ts i (drop (span t rs) rs)) x e in
    let (z, m, n) = map_o_some _ (among ts j (drop (span t rs) rs)) y f in
    rw (← h, ← n) (before_behind (span t rs) rs w z (among_before ts i j (drop (span t rs) rs) w z (omega arith) g m))

element_before : (a : Ty) (n i j : ℕ) (rs : List Rec) (x y : Ty × ℕ) → i < j → element a n i rs ≡ some x → element a n j rs ≡ some y → Before rs x y
unfolding element
element_before a zero i j rs x y l e f = absurd (none-ne-some x e)
element_before a (suc n) i zero rs x y l e f = absurd (omega arith)
element_before a (suc n) zero (suc j) rs x y l e f =
    let (z, g, h) = map_o_some _ (element a n j (drop (span a rs) rs)) y f in
    rw (← some-injective _ _ e, ← h) (omega arith)
element_before a (suc n) (suc i) (suc j) rs x y l e f =
    let (w, g, h) = map_o_some _ (element a n i (drop (span a rs) rs)) x e in
    let (z, m, o) = map_o_some _ (element a n j (drop (span a rs) rs)) y f in
    rw (← h, ← o) (before_behind (span a rs) rs w z (element_before a n i j (drop (span a rs) rs) w z (omega arith) g m))

variant_before : (vs : Variants) (k i j : ℕ) (rs : List Rec) (x y : Ty × ℕ) → i < j → in_variant vs k i rs ≡ some x → in_variant vs k j rs ≡ some y → Before rs x y
unfolding in_variant
variant_before (last ts) zero i j rs x y l e f = among_before ts i j rs x y l e f
variant_before (last ts) (suc k) i j rs x y l e f = absurd (none-ne-some x e)
variant_before (more ts vs) zero i j rs x y l e f = among_before ts i j rs x y l e f
variant_before (more ts vs) (suc k) i j rs x y l e f = variant_before vs k i j rs x y l e f

step_before : (t : Ty) (i j : ℕ) (r : Rec) (rs : List Rec) (x y : Ty × ℕ) → i < j → step t i r rs ≡ some x → step t j r rs ≡ some y → Before rs x y
unfolding step
step_before never i j r rs x y l e f = absurd (none-ne-some x e)
step_before bool i j r rs x y l e f = absurd (none-ne-some x e)
step_before (uint w) i j r rs x y l e f = absurd (none-ne-some x e)
step_before (either a b) i zero r rs x y l e f = absurd (omega arith)
step_before (either a b) zero (suc zero) r rs x y l e f =
    let m : r.choice ≡ 0 = eqb-true _ _ (when_some (eqb r.choice 0) _ x e).0 in
    let n : r.choice ≡ 1 = eqb-true _ _ (when_some (eqb r.choice 1) _ y f).0 in
    absurd (omega arith)
step_before (either a b) (suc i) (suc zero) r rs x y l e f = absurd (omega arith)
step_before (either a b) i (suc (suc j)) r rs x y l e f = absurd (none-ne-some y f)
step_before (option a) i zero r rs x y l e f = absurd (omega arith)
step_before (option a) i (suc j) r rs x y l e f = absurd (none-ne-some y f)
step_before (tuple ts) i j r rs x y l e f = among_before ts i j rs x y l e f
step_before (array a n) i j r rs x y l e f = element_before a n i j rs x y l e f
step_before (list a e) i j r rs x y l m f = element_before a r.n i j rs x y l m f
step_before (enum vs) i j r rs x y l e f = variant_before vs r.n i j rs x y l e f

child_before : (t : Ty) (i j : ℕ) (rs : List Rec) (x y : Ty × ℕ) → i < j → pick_child t i rs ≡ some x → pick_child t j rs ≡ some y → Before rs x y
unfolding pick_child
child_before t i j [] x y l e f = absurd (none-ne-some x e)
child_before t i j (r ∷ rs) x y l e f =
    let (w, g, h) = map_o_some _ (step t i r rs) x e in
    let (z, m, n) = map_o_some _ (step t j r rs) y f in
    let b = step_before t i j r rs w z l g m in
    rw (← h, ← n) (omega arith)

-- THE RECORDS OF A PART

module _ (p : Place) where
  -- a part has at least one record, and all of them are the whole's
  record Ranged (t : Ty) (v : Value t) (f : Found) : Type 0 where
    pub some_records : f.first < f.end
    pub in_file : f.end ≤ length (encode t v)

  ranged : (path : List ℕ) (t : Ty) (v : Value t) (rest : List Rec) (f : Found) → Valid t v → follow t path (encode t v ++ rest) ≡ some f → Ranged t v f
  ranged path t v rest f h e = go (part p t path v) refl (part_leads p path t v rest h)
    where
      go : (o : Option (Part (Value t))) → part p t path v ≡ o → Leads p (encode t) o (follow t path (encode t v ++ rest)) → Ranged t v f
      go none g st = absurd (none-ne-some f (sym st ∙ e))
      go (some c) g st =
          let l = part_there p t path v c h g in
          let n : length (encode t v) ≡ length st.front + length (encode c.type c.value) + length st.back =
          ap (λ x. length (encode t x)) (sym l.same) ∙ ap length (st.splits c.value) ∙ length-append (st.front ++ encode c.type c.value) st.back ∙ ap (λ k. k + length st.back) (length-append st.front (encode c.type c.value)) in
          let s = encode_some c.type c.value in
          let same : record { type = c.type; first = length st.front; end = length st.front + length (encode c.type c.value) } ≡ f = some-injective _ f (sym st.leads ∙ e) in
          record { some_records = rw (← same) (omega arith); in_file = rw (← same) (omega arith) }

  -- one step down: a path from the child is the same path from the whole, behind the records in front of the child
  record Below (t : Ty) (i : ℕ) (v : Value t) (rest : List Rec) : Type 0 where
    pub place : Part (Value t)
    pub valid : Valid place.type place.value
    pub front : List Rec
    pub more : List Rec
    pub picks : pick_child t i (encode t v ++ rest) ≡ some (place.type, length front)
    pub dropped : drop (length front) (encode t v ++ rest) ≡ encode place.type place.value ++ more
    pub goes : (path : List ℕ) (f : Found) → follow t (i ∷ path) (encode t v ++ rest) ≡ some f → (x : Found) × (follow place.type path (encode place.type place.value ++ more) ≡ some x) × (behind (length front) x ≡ f)

  below : (t : Ty) (i : ℕ) (path : List ℕ) (v : Value t) (rest : List Rec) (f : Found) → Valid t v → follow t (i ∷ path) (encode t v ++ rest) ≡ some f → Below t i v rest
  unfolding follow
  below t i path v rest f h e = go (child p t i v) (child_picks p t i v rest h) (child_lies p t i v h)
    where
      go : (o : Option (Part (Value t))) → Picks (encode t) o (pick_child t i (encode t v ++ rest)) → IfSome (Lies p (Valid t) (frame p t) v) o → Below t i v rest
      go none m l = absurd (none-ne-some f (rw m at e))
      go (some c) m l =
          let d = child_dropped p t v rest c _ m l in
          record { place = c; valid = l.valid; front = m.front; more = m.back ++ rest; picks = m.picks; dropped = d; goes = λ path g k. map_o_some _ (follow c.type path (encode c.type c.value ++ (m.back ++ rest))) g (rw (m.picks, d) at k) }

  -- a part behind a longer path lies within
  begin_within : (q on : List ℕ) (t : Ty) (v : Value t) (rest : List Rec) (f g : Found) → Valid t v → follow t q (encode t v ++ rest) ≡ some f → follow t (q ++ on) (encode t v ++ rest) ≡ some g → LiesWithin g f
  unfolding follow
  begin_within [] on t v rest f g h e m =
      let s = ranged on t v rest g h m in
      let n = span_encode t v rest h in
      rw (← some-injective _ _ e) (omega arith, omega arith)
  begin_within (i ∷ q) on t v rest f g h e m =
      let d = below t i q v rest f h e in
      let (x, k, l) = d.goes q f e in
      let (y, n, o) = d.goes (q ++ on) g m in
      let w = begin_within q on d.place.type d.place.value d.more x y d.valid k n in
      rw (← l, ← o) (omega (arith, w.0), omega (arith, w.1))

  -- a child's records begin behind the record of the whole
  child_behind : (t : Ty) (i : ℕ) (rs : List Rec) (x : Ty × ℕ) → pick_child t i rs ≡ some x → 1 ≤ x.1
  unfolding pick_child
  child_behind t i [] x e = absurd (none-ne-some x e)
  child_behind t i (r ∷ rs) x e = let (w, g, h) = map_o_some _ (step t i r rs) x e in rw (← h) (omega arith)

  -- and at another record, if the path is longer
  begin_same : (q on : List ℕ) (t : Ty) (v : Value t) (rest : List Rec) (f g : Found) → Valid t v → follow t q (encode t v ++ rest) ≡ some f → follow t (q ++ on) (encode t v ++ rest) ≡ some g → f.first ≡ g.first → on ≡ []
  unfolding follow
  begin_same [] [] t v rest f g h e m s = refl
  begin_same [] (i ∷ on) t v rest f g h e m s =
      let d = below t i on v rest g h m in
      let (y, n, o) = d.goes on g m in
      let z : 0 ≡ f.first = ap (λ (x : Found). x.first) (some-injective _ _ e) in
      let w : length d.front + y.first ≡ g.first = ap (λ (x : Found). x.first) o in
      let c = child_behind t i (encode t v ++ rest) _ d.picks in
      absurd (omega arith)
  begin_same (i ∷ q) on t v rest f g h e m s =
      let d = below t i q v rest f h e in
      let (x, k, l) = d.goes q f e in
      let (y, n, o) = d.goes (q ++ on) g m in
      let z : length d.front + x.first ≡ f.first = ap (λ (x : Found). x.first) l in
      let w : length d.front + y.first ≡ g.first = ap (λ (x : Found). x.first) o in
      begin_same q on d.place.type d.place.value d.more x y d.valid k n (omega arith)

  -- the records of one part end before those of the other begin
  abbrev Disjoint : Found → Found → Type 0
  Disjoint f g = (f.end ≤ g.first) ⊎ (g.end ≤ f.first)

  earlier : (i j : ℕ) (q r : List ℕ) → i < j → (t : Ty) (v : Value t) (rest : List Rec) (f g : Found) → Valid t v → follow t (i ∷ q) (encode t v ++ rest) ≡ some f → follow t (j ∷ r) (encode t v ++ rest) ≡ some g → f.end ≤ g.first
  earlier i j q r s t v rest f g h e m =
      let a = below t i q v rest f h e in
      let b = below t j r v rest g h m in
      let (x, k, l) = a.goes q f e in
      let (y, n, o) = b.goes r g m in
      let z = ranged q a.place.type a.place.value a.more x a.valid k in
      let u : span a.place.type (drop (length a.front) (encode t v ++ rest)) ≡ length (encode a.place.type a.place.value) = ap (span a.place.type) a.dropped ∙ span_encode a.place.type a.place.value a.more a.valid in
      let w = child_before t i j (encode t v ++ rest) _ _ s a.picks b.picks in
      rw (← l, ← o) (omega arith)

  diverge_disjoint : {q r : List ℕ} → Diverge q r → (t : Ty) (v : Value t) (rest : List Rec) (f g : Found) → Valid t v → follow t q (encode t v ++ rest) ≡ some f → follow t r (encode t v ++ rest) ≡ some g → Disjoint f g
  diverge_disjoint (here {i} {j} {q} {r} n) t v rest f g h e m = go (ltb i j) refl
    where
      go : (b : Bool) → ltb i j ≡ b → Disjoint f g
      go true x = inl (earlier i j q r (ltb-true i j x) t v rest f g h e m)
      go false x = inr (earlier j i r q (let y = ltb-false i j x in omega arith) t v rest g f h m e)
  diverge_disjoint (there {i} {q} {r} d) t v rest f g h e m =
      let a = below t i q v rest f h e in
      let (x, k, l) = a.goes q f e in
      let (y, n, o) = a.goes r g m in
      go (length a.front) x y l o (diverge_disjoint d a.place.type a.place.value a.more x y a.valid k n)
    where
      go : (k : ℕ) (x y : Found) → behind k x ≡ f → behind k y ≡ g → Disjoint x y → Disjoint f g
      go k x y l o (inl z) = inl (rw (← l, ← o) (omega arith))
      go k x y l o (inr z) = inr (rw (← l, ← o) (omega arith))

  module _ (q r : List ℕ) (t : Ty) (v : Value t) (rest : List Rec) (f g : Found) (h : Valid t v) (e : follow t q (encode t v ++ rest) ≡ some f) (m : follow t r (encode t v ++ rest) ≡ some g) where
    -- where the paths part, the one does not lie within the other: its records are elsewhere, and it has one
    outside : Diverge q r → LiesWithin g f → ⊥
    outside d w = go (ranged q t v rest f h e) (ranged r t v rest g h m) (diverge_disjoint d t v rest f g h e m)
      where
        go : Ranged t v f → Ranged t v g → Disjoint f g → ⊥
        go x y (inl z) = omega (arith, w.0, w.1)
        go x y (inr z) = omega (arith, w.0, w.1)

    -- so the one lies within the other exactly when its path begins with the other's steps
    pub within_steps : LiesWithin g f ↔ BeginWith r q
    within_steps = ((λ w. go w (compare q r)), λ b. begin_within q b.0 t v rest f g h e (rw b.1 m))
      where
        go : LiesWithin g f → Compared q r → BeginWith r q
        go w (first_begins b) = b
        go w (second_begins b) =
            let u = begin_within r b.0 t v rest g f h m (rw b.1 e) in
            let z = begin_same r b.0 t v rest g f h m (rw b.1 e) (omega (arith, w.0, u.0)) in
            ([], append-nil q ∙ sym b.1 ∙ ap (λ l. r ++ l) z ∙ append-nil r)
        go w (diverge d) = absurd (outside d w)

    -- and where neither does, they take different steps somewhere
    pub apart_diverge : Apart f g → Diverge q r
    apart_diverge a = go (compare q r)
      where
        go : Compared q r → Diverge q r
        go (first_begins b) = absurd (a.1 (within_steps.1 b))
        go (second_begins b) = absurd (a.0 (begin_within r b.0 t v rest g f h m (rw b.1 e)))
        go (diverge d) = d

    -- the same first record is reached by the same steps only
    pub same_steps : f.first ≡ g.first → q ≡ r
    same_steps s = go (compare q r)
      where
        go : Compared q r → q ≡ r
        go (first_begins b) = sym (append-nil q) ∙ ap (λ l. q ++ l) (sym (begin_same q b.0 t v rest f g h e (rw b.1 m) s)) ∙ b.1
        go (second_begins b) = sym b.1 ∙ ap (λ l. r ++ l) (begin_same r b.0 t v rest g f h m (rw b.1 e) (sym s)) ∙ append-nil r
        go (diverge d) = let x = ranged q t v rest f h e in let y = ranged r t v rest g h m in absurd (neither x y (diverge_disjoint d t v rest f g h e m))
          where
            neither : Ranged t v f → Ranged t v g → Disjoint f g → ⊥
            neither x y (inl z) = omega arith
            neither x y (inr z) = omega arith
