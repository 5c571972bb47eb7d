-- What a value's record calls for is what the check goes on with, by what the type's record says. Assumes nothing.
use Rattle.std.specs.Prelude.{◌≡◌, Bool, List, length, get_or, eqb, Option, Some, None, Result, Ok, Err}
use Rattle.std.proofs.Math.Path.{refl, sym, ap, ap₂}
use Rattle.std.proofs.Common.{subst, ◌∙◌, arith, Fits, ltb-true, ltb-false}
use Rattle.std.proofs.Math.Bool.{true, false}
use Prim.Native.Nat.{ℕ, zero, suc, ◌+◌, ◌-◌, ◌*◌, ◌^◌, ◌<◌, ◌≤◌, ◌/◌}
use Rattle.std.proofs.Math.Numerals.{sub-one}
use Rattle.std.proofs.Math.Dec.{ltb}
use Rattle.std.specs.Int.{w64}
use Rattle.model.specs.Options.{pick}
use Rattle.model.specs.Balanced.{btree}
use Rattle.model.specs.Types.{uint, enum, size, count}
use Rattle.num.specs.Powers.{bound_log2}
use Rattle.num.specs.Laws.{bounded}
use Rattle.types.specs.declared.Head.{Head}
use Rattle.types.specs.declared.Head.TheVariants.{Missing, Faulty, Never, Boolean, UInt, Either, Opt, Tuple, Array, Listed, Payload}
use Rattle.types.specs.declared.Head.TheVariants as head
use Rattle.types.specs.Record.{head_at, calls_for, rec_at}
use Rattle.types.specs.Heads.{Fair}
use Rattle.types.specs.Walks.{walk}
use Rattle.types.specs.Unique.{kind}
use Rattle.types.specs.Unique as unique
use Rattle.types.specs.Trees.{end_of, kids, cases, node, tree, treev}
use Rattle.types.specs.Steps.{Given, GivenRow, given_levels, given_head, given_first, given_end, given_rest, tree_in, size_kids, count_cases}
use Rattle.reply.specs.declared.Refusal.{Refusal}
use Rattle.reply.specs.declared.Refusal.TheVariants.{NotOneValue, IntegerTooLarge, ListTooLong}
use Rattle.value.specs.declared.Opens.{Opens}
use Rattle.value.specs.declared.Opens.TheVariants.{Run, Parts, Case}
use Rattle.value.specs.Record.{starts, number_at, below, choice_at, count_at}
use Rattle.value.specs.Lengths.{add, joints, blocks, tags}
use Rattle.value.specs.Opening.{by_choice, counted, uint_opens, list_opens, enum_opens, opens_of}
use Rattle.table.specs.Hops.{hops, Hops}
use Rattle.value.specs.Check.{wrong, side, says, next, run, check, checks, check_case, parts}
use Rattle.value.specs.Arms.{starts_there}
use Rattle.value.specs.Steps.{GivenIf, Here, rec_here, given_hop, given_hops, no_hops}

-- d levels are left for the children, the first of which stands at p
unfoldable pub follow : ℕ → List ℕ → List ℕ → ℕ → List ℕ → ℕ → ℕ → Result Opens Refusal → Result (ℕ × ℕ) Refusal
follow d s E p val v k (Err x) = Err x
follow d s E p val v k (Ok (Run j n own)) = run (check (tree d s (hops E j p)) val) n (v + 1) (add k own)
follow d s E p val v k (Ok (Parts n)) = parts (kids (tree d s) (walk d false s) n p) val (v + 1) k
follow d s E p val v k (Ok (Case i own)) = parts (treev d s (hops E i p)) val (v + 1) (add k own)

less_one : (n : ℕ) → suc n - 1 ≡ n
less_one n = omega arith

run_one : (f : ℕ → ℕ → Result (ℕ × ℕ) Refusal) (v k : ℕ) → run f 1 v k ≡ f v k
unfolding run next
run_one f v k = go (f v k)
  where
    go : (c : Result (ℕ × ℕ) Refusal) → next c (run f 0) ≡ c
    go (Ok (e, j)) = refl
    go (Err x) = refl

module _ (d : ℕ) (s E : List ℕ) (val : List ℕ) (v k : ℕ) where
  side_follow : (p : ℕ) (c : Option Bool) (a b : Opens) → side c (follow d s E p val v k (Ok a)) (follow d s E p val v k (Ok b)) ≡ follow d s E p val v k (by_choice c a b)
  unfolding side by_choice follow
  side_follow p (Some false) a b = refl
  side_follow p (Some true) a b = refl
  side_follow p None a b = refl

  pick_follow : (p : ℕ) (x : Refusal) (b : Bool) (o : Result Opens Refusal) → pick b (follow d s E p val v k o) (Err x) ≡ follow d s E p val v k (pick b o (Err x))
  unfolding follow
  pick_follow p x true o = refl
  pick_follow p x false o = refl

  -- the first child, and the second
  first_child : (p j : ℕ) → run (check (tree d s (hops E 0 p)) val) 1 (v + 1) j ≡ check (tree d s p) val (v + 1) j
  unfolding hops
  first_child p j = run_one (check (tree d s p) val) (v + 1) j

  second_child : (p n j : ℕ) → 0 < n → GivenRow d false s E n p → run (check (tree d s (hops E 1 p)) val) 1 (v + 1) j ≡ check (tree d s (end_of (walk d false s p))) val (v + 1) j
  unfolding hops
  second_child p n j l g = run_one (check (tree d s (get_or E p 0)) val) (v + 1) j ∙ ap (λ q. check (tree d s q) val (v + 1) j) (given_end (given_first (λ z. omega arith) g))

  -- the payload of Variant i of those from p on
  case_in : (i n p j : ℕ) → i < suc n → GivenRow d true s E (suc n) p → check_case (cases (treev d s) (walk d true s) n p) i val (v + 1) j ≡ parts (treev d s (hops E i p)) val (v + 1) j
  unfolding cases check_case hops parts
  case_in zero zero p j l g = refl
  case_in zero (suc n) p j l g = refl
  case_in (suc i) zero p j l g = absurd (omega arith)
  case_in (suc i) (suc n) p j l g =
      let e = given_end (given_first (λ z. omega arith) g) in
      let r : GivenRow d true s E (suc n) (get_or E p 0) = rw sub-one at (given_rest (λ z. omega arith) g) in
      ap (λ q. check_case (cases (treev d s) (walk d true s) n q) i val (v + 1) j) (sym e) ∙ case_in i n (get_or E p 0) j (omega arith) r

  case_past : (i n p j : ℕ) → suc n ≤ i → check_case (cases (treev d s) (walk d true s) n p) i val (v + 1) j ≡ wrong
  unfolding cases check_case
  case_past zero n p j l = absurd (omega arith)
  case_past (suc i) zero p j l = refl
  case_past (suc i) (suc n) p j l = case_past i n (end_of (walk d true s p)) j (omega arith)

  module _ (p : ℕ) where
    tuple_follow : (n : ℕ) (c : Option ℕ) → says c (λ m. pick (eqb m (size (kids (tree d s) (walk d false s) n p))) (checks (kids (tree d s) (walk d false s) n p) val (v + 1) (add k (joints (size (kids (tree d s) (walk d false s) n p))))) wrong) ≡ follow d s E p val v k (counted c n (Parts n))
    unfolding says counted follow parts
    tuple_follow n None = refl
    tuple_follow n (Some m) = ap (λ z. pick (eqb m z) (parts (kids (tree d s) (walk d false s) n p) val (v + 1) k) wrong) (size_kids (tree d s) (walk d false s) n p) ∙ pick_follow p NotOneValue (eqb m n) (Ok (Parts n))

    array_follow : (n : ℕ) (c : Option ℕ) → says c (λ m. pick (eqb m n) (run (check (tree d s p) val) n (v + 1) (add k (joints n))) wrong) ≡ follow d s E p val v k (counted c n (Run 0 n (joints n)))
    unfolding says counted follow hops
    array_follow n None = refl
    array_follow n (Some m) = pick_follow p NotOneValue (eqb m n) (Ok (Run 0 n (joints n)))

    list_follow : (b : ℕ) (c : Option ℕ) → 2 ^ suc (bound_log2 b - 1) ≡ b → says c (λ m. pick (ltb m (2 ^ suc (bound_log2 b - 1))) (run (check (tree d s p) val) m (v + 1) (add k (blocks (bound_log2 b - 1) m 0))) (Err ListTooLong)) ≡ follow d s E p val v k (list_opens c b)
    unfolding says list_opens follow hops
    list_follow b None e = refl
    list_follow b (Some m) e = ap (λ z. pick (ltb m z) (run (check (tree d s p) val) m (v + 1) (add k (blocks (bound_log2 b - 1) m 0))) (Err ListTooLong)) e ∙ pick_follow p ListTooLong (ltb m b) (Ok (Run 0 m (blocks (bound_log2 b - 1) m 0)))

    enum_follow : (n : ℕ) (c : Option ℕ) → GivenRow d true s E (suc n) p → says c (λ i. check_case (cases (treev d s) (walk d true s) n p) i val (v + 1) (add k (tags (btree (count (cases (treev d s) (walk d true s) n p))) i 0))) ≡ follow d s E p val v k (enum_opens c (suc n))
    unfolding says enum_opens follow
    enum_follow n None g = refl
    enum_follow n (Some i) g = rw (count_cases (treev d s) (walk d true s) n p) (go (ltb i (suc n)) refl)
      where
        go : (b : Bool) → ltb i (suc n) ≡ b → check_case (cases (treev d s) (walk d true s) n p) i val (v + 1) (add k (tags (btree (suc n)) i 0)) ≡ follow d s E p val v k (pick b (Ok (Case i (tags (btree (suc n)) i 0))) (Err NotOneValue))
        go true e = case_in i n p _ (ltb-true i (suc n) e) g
        go false e = case_past i n p _ (ltb-false i (suc n) e)

    uint_follow : (w : ℕ) → check (uint w) val v k ≡ follow d s E p val v k (uint_opens w val v)
    unfolding check uint_opens run follow
    uint_follow w =
        ap (λ x. pick (starts val v 2 0) x wrong) (ap (λ x. pick (eqb (number_at val v) w) x wrong) leaf ∙ pick_follow p NotOneValue (eqb (number_at val v) w) (pick (below val v w) (Ok (Run 0 0 (joints w + 2 * w))) (Err IntegerTooLarge)))
        ∙ pick_follow p NotOneValue (starts val v 2 0) (pick (eqb (number_at val v) w) (pick (below val v w) (Ok (Run 0 0 (joints w + 2 * w))) (Err IntegerTooLarge)) (Err NotOneValue))
      where
        leaf : pick (below val v w) (Ok ((v + 1), (add k (joints w + 2 * w)))) (Err IntegerTooLarge) ≡ follow d s E p val v k (pick (below val v w) (Ok (Run 0 0 (joints w + 2 * w))) (Err IntegerTooLarge))
        leaf = pick_follow p IntegerTooLarge (below val v w) (Ok (Run 0 0 (joints w + 2 * w)))

    bound_of_fair : (b : ℕ) (x : ℕ) → Rattle.model.specs.Options.find (λ e. 2 ^ suc e) 15 0 b ≡ mathlib.Core.Option.some x → 2 ^ suc (bound_log2 b - 1) ≡ b
    bound_of_fair b x f = let r = bounded b x f in let z : bound_log2 b - 1 ≡ x = omega (arith, r.log2) in ap (λ n. 2 ^ suc n) z ∙ sym r.power

    node_follow : (h : Head) → Fair h → Here false (calls_for h) → GivenRow d (kind (calls_for h)) s E (unique.count (calls_for h)) p → check (node h (tree d s) (walk d false s) (treev d s) (walk d true s) p) val v k ≡ follow d s E p val v k (opens_of h val v)
    unfolding node check opens_of follow run
    node_follow Missing f o g = absurd o
    node_follow Faulty f o g = absurd o
    node_follow Never f o g = pick_follow p NotOneValue false (Err NotOneValue)
    node_follow Boolean f o g = side_follow p (choice_at val v 1) (Run 0 0 2) (Run 0 0 2)
    node_follow (UInt w) f o g = uint_follow w.value
    node_follow Either f o g = ap₂ (λ x y. side (choice_at val v 3) x y) (sym (first_child p (add k 1))) (sym (second_child p 2 (add k 1) (omega arith) g)) ∙ side_follow p (choice_at val v 3) (Run 0 1 1) (Run 1 1 1)
    node_follow Opt f o g = ap (λ x. side (choice_at val v 4) (Ok ((v + 1), (add k 2))) x) (sym (first_child p (add k 1))) ∙ side_follow p (choice_at val v 4) (Run 0 0 2) (Run 0 1 1)
    node_follow (Tuple n) f o g = tuple_follow n (count_at val v 5)
    node_follow (Array n) f o g = array_follow n (count_at val v 6)
    node_follow (Listed b) f o g = list_follow b.value (count_at val v 7) (bound_of_fair b.value f.exponent f.admitted)
    node_follow (head.Variants zero) f o g = absurd (let z = f.0 in omega arith)
    node_follow (head.Variants (suc n)) f o g = ap (λ m. check (enum (cases (treev d s) (walk d true s) m p)) val v k) (less_one n) ∙ enum_follow n (count_at val v 8) g
    node_follow (Payload n) f o g = absurd o

-- THE RECORD IN THE FILE, AND THE CHILDREN IN THE TYPE

abbrev Fit : ℕ → List ℕ → List ℕ → ℕ → List ℕ → ℕ → Result Opens Refusal → Type 0
Fit d s E p val v (Err x) = Unit
Fit d s E p val v (Ok (Run j n own)) = GivenIf n d s E (hops E j p) × (v < length val / 36) × Hops E j p
Fit d s E p val v (Ok (Parts n)) = GivenRow d false s E n p × (v < length val / 36)
Fit d s E p val v (Ok (Case i own)) = Given d true s E (hops E i p) × (v < length val / 36) × Hops E i p

module _ (d : ℕ) (s E : List ℕ) (p : ℕ) (val : List ℕ) (v : ℕ) where
  pick_fit : (x : Refusal) (b : Bool) (o : Result Opens Refusal) → (b ≡ true → Fit d s E p val v o) → Fit d s E p val v (pick b o (Err x))
  pick_fit x true o f = f refl
  pick_fit x false o f = tt

  in_file : (k c : ℕ) → starts val v k c ≡ true → v < length val / 36
  in_file k c e = starts_there val v k c (starts val v k c) refl e

  choice_fit : (k : ℕ) (a b : Opens) → (v < length val / 36 → Fit d s E p val v (Ok a)) → (v < length val / 36 → Fit d s E p val v (Ok b)) → Fit d s E p val v (by_choice (choice_at val v k) a b)
  unfolding choice_at by_choice
  choice_fit k a b f g = go (starts val v k 0) (starts val v k 1) (eqb (number_at val v) 0) (below val v 0) refl refl
    where
      go : (x y n c : Bool) → starts val v k 0 ≡ x → starts val v k 1 ≡ y → Fit d s E p val v (by_choice (pick x (pick n (pick c (Some false) None) None) (pick y (pick n (pick c (Some true) None) None) None)) a b)
      go true y true true h j = f (in_file k 0 h)
      go true y true false h j = tt
      go true y false c h j = tt
      go false true true true h j = g (in_file k 1 j)
      go false true true false h j = tt
      go false true false c h j = tt
      go false false n c h j = tt

  count_fit : (k : ℕ) (f : Option ℕ → Result Opens Refusal) → Fit d s E p val v (f None) → ((m : ℕ) → v < length val / 36 → Fit d s E p val v (f (Some m))) → Fit d s E p val v (f (count_at val v k))
  unfolding count_at
  count_fit k f z g = go (starts val v k 0) (below val v 0) refl
    where
      go : (x c : Bool) → starts val v k 0 ≡ x → Fit d s E p val v (f (pick x (pick c (Some (number_at val v)) None) None))
      go true true h = g (number_at val v) (in_file k 0 h)
      go true false h = z
      go false c h = z

  none_of : (q : ℕ) → GivenIf 0 d s E q
  none_of q = record { there = λ h. absurd (h refl) }

  some_of : (j n m : ℕ) → j < n → GivenRow d false s E n p → GivenIf m d s E (hops E j p)
  some_of j n m l g = record { there = λ h. given_hop d false s E j n p l g }

  fit : (h : Head) → GivenRow d (kind (calls_for h)) s E (unique.count (calls_for h)) p → Fit d s E p val v (opens_of h val v)
  unfolding opens_of counted uint_opens list_opens enum_opens
  fit Missing g = tt
  fit Faulty g = tt
  fit Never g = tt
  fit Boolean g = choice_fit 1 (Run 0 0 2) (Run 0 0 2) (λ l. (none_of _, l, no_hops E p)) (λ l. (none_of _, l, no_hops E p))
  fit (UInt w) g = pick_fit NotOneValue (starts val v 2 0) _ (λ e. pick_fit NotOneValue (eqb (number_at val v) w.value) _ (λ q. pick_fit IntegerTooLarge (below val v w.value) (Ok (Run 0 0 (joints w.value + 2 * w.value))) (λ r. (none_of _, in_file 2 0 e, no_hops E p))))
  fit Either g = choice_fit 3 (Run 0 1 1) (Run 1 1 1) (λ l. (some_of 0 2 1 (omega arith) g, l, given_hops d false s E 0 2 p (omega arith) g)) (λ l. (some_of 1 2 1 (omega arith) g, l, given_hops d false s E 1 2 p (omega arith) g))
  fit Opt g = choice_fit 4 (Run 0 0 2) (Run 0 1 1) (λ l. (none_of _, l, no_hops E p)) (λ l. (some_of 0 1 1 (omega arith) g, l, given_hops d false s E 0 1 p (omega arith) g))
  fit (Tuple n) g = count_fit 5 (λ c. counted c n (Parts n)) tt (λ m l. pick_fit NotOneValue (eqb m n) (Ok (Parts n)) (λ e. (g, l)))
  fit (Array n) g = count_fit 6 (λ c. counted c n (Run 0 n (joints n))) tt (λ m l. pick_fit NotOneValue (eqb m n) (Ok (Run 0 n (joints n))) (λ e. (some_of 0 1 n (omega arith) g, l, given_hops d false s E 0 1 p (omega arith) g)))
  fit (Listed b) g = count_fit 7 (λ c. list_opens c b.value) tt (λ m l. pick_fit ListTooLong (ltb m b.value) (Ok (Run 0 m (blocks (bound_log2 b.value - 1) m 0))) (λ e. (some_of 0 1 m (omega arith) g, l, given_hops d false s E 0 1 p (omega arith) g)))
  fit (head.Variants n) g = count_fit 8 (λ c. enum_opens c n) tt (λ i l. pick_fit NotOneValue (ltb i n) (Ok (Case i (tags (btree n) i 0))) (λ e. (given_hop d true s E i n p (ltb-true i n e) g, l, given_hops d true s E i n p (let l = ltb-true i n e in omega arith) g)))
  fit (Payload n) g = tt

-- IN THE FORM OF THE NEEDS

module _ {d : ℕ} {s E : List ℕ} {at : ℕ} (h : Head) (o : Result Opens Refusal) (val : List ℕ) (v : ℕ) (g : Given d false s E at) (p : (h ≡ head_at s at) × Fair h) (q : o ≡ opens_of h val v) where
  fits_here : Fit (d - 1) s E (at + 1) val v o
  fits_here = subst (Fit (d - 1) s E (at + 1) val v) (sym q) (fit (d - 1) s E (at + 1) val v h (given_head h g p.0 refl))

  as_said : (k : ℕ) → check (tree d s at) val v k ≡ follow (d - 1) s E (at + 1) val v k o
  unfolding rec_at
  as_said k =
      ap (λ t. check t val v k) (tree_in s at d h h (given_levels g) p.0 refl)
      ∙ node_follow (d - 1) s E val v k (at + 1) h p.1 (rec_here g (calls_for h) (calls_for h) (ap calls_for p.0) refl) (given_head h g p.0 refl)
      ∙ ap (λ x. follow (d - 1) s E (at + 1) val v k x) (sym q)

  pub wrong_is : (k : ℕ) (x : Refusal) → o ≡ Err x → Err x ≡ check (tree d s at) val v k
  unfolding follow
  wrong_is k x e = sym (as_said k ∙ rw e)

  module _ (r : Opens) (e : o ≡ Ok r) where
    here : Fit (d - 1) s E (at + 1) val v (Ok r)
    here = rw e at fits_here

    said : (k : ℕ) → check (tree d s at) val v k ≡ follow (d - 1) s E (at + 1) val v k (Ok r)
    said k = as_said k ∙ rw e

    pub opened_next : length val < 2 ^ 64 → Fits w64 (v + 1)
    opened_next l = go r here
      where
        go : (r : Opens) → Fit (d - 1) s E (at + 1) val v (Ok r) → Fits w64 (v + 1)
        go (Run j n own) f = let m = f.1 in omega arith
        go (Parts n) f = let m = f.1 in omega arith
        go (Case i own) f = let m = f.1 in omega arith

    module _ (j n own : ℕ) (f : r ≡ Run j n own) where
      pub run_given : (p : ℕ) → p ≡ hops E j (at + 1) → GivenIf n (d - 1) s E p
      run_given p q = rw q (rw f at here).0

      pub run_hops : Hops E j (at + 1)
      run_hops = (rw f at here).2

      pub run_is : (p k i : ℕ) (b : Result (ℕ × ℕ) Refusal) → p ≡ hops E j (at + 1) → i ≡ add k own → b ≡ run (check (tree (d - 1) s p) val) n (v + 1) i → b ≡ check (tree d s at) val v k
      unfolding follow
      run_is p k i b q a c = c ∙ sym (said k ∙ rw (f, ← q, ← a))

    module _ (n : ℕ) (f : r ≡ Parts n) where
      pub parts_given : GivenRow (d - 1) false s E n (at + 1)
      parts_given = (rw f at here).0

      pub parts_is : (k : ℕ) (b : Result (ℕ × ℕ) Refusal) → b ≡ parts (kids (tree (d - 1) s) (walk (d - 1) false s) n (at + 1)) val (v + 1) k → b ≡ check (tree d s at) val v k
      unfolding follow
      parts_is k b c = c ∙ sym (said k ∙ rw f)

    module _ (i own : ℕ) (f : r ≡ Case i own) where
      pub case_given : (p : ℕ) → p ≡ hops E i (at + 1) → Given (d - 1) true s E p
      case_given p q = rw q (rw f at here).0

      pub case_hops : Hops E i (at + 1)
      case_hops = (rw f at here).2

      pub case_is : (p k j : ℕ) (b : Result (ℕ × ℕ) Refusal) → p ≡ hops E i (at + 1) → j ≡ add k own → b ≡ parts (treev (d - 1) s p) val (v + 1) j → b ≡ check (tree d s at) val v k
      unfolding follow
      case_is p k j b q a c = c ∙ sym (said k ∙ rw (f, ← q, ← a))
