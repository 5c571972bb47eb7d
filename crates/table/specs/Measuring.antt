-- The loop that fills the table, from the last record to the first: what one step does, what holds between the steps, and what it comes to.
use Rattle.std.specs.Prelude.{◌≡◌, refl, ⊤, List, Bool, true, false, ◌||◌, ℕ, zero, suc, ◌+◌, ◌-◌, ◌≤◌, ◌<◌, ◌/◌, eqb, ltb, length, get_or, set, Option, Some, None, Result, Ok, Err}
use Rattle.std.proofs.Common.{sym, ap, ap₂, subst, ◌∙◌, arith, length-set, get_or-set_same, get_or-set_other}
use Rattle.std.proofs.Math.Decide.{dec_le}
use Rattle.std.proofs.Math.Bool.{or_comm}
use Rattle.std.proofs.lemmas.Bool.{eqb-false}
use Rattle.model.specs.Options.{pick}
use Rattle.model.specs.Numbers.{most_shape_records}
use Rattle.model.specs.Frames.{width}
use Rattle.model.proofs.Laws.Sizes.{nodes}
use Rattle.model.specs.Lowering.{has_never, over_large}
use Rattle.num.specs.Powers.{bound_of, width_of}
use Rattle.reply.specs.declared.Refusal.{Refusal}
use Rattle.reply.specs.declared.Refusal.TheVariants.{NeverStands, TooLarge}
use Rattle.types.specs.declared.Head.{Head}
use Rattle.types.specs.declared.Head.TheVariants.{Missing, Faulty, Never, Boolean, UInt, Either, Opt, Tuple, Array, Listed, Variants, Payload}
use Rattle.types.specs.Record.{by_width, by_bound, head_of, head_at}
use Rattle.types.specs.Heads.{Fair}
use Rattle.types.specs.Walks.{walk}
use Rattle.types.specs.Table.{Ends, type_answer}
use Rattle.types.specs.Trees.{tree}
use Rattle.types.specs.Lows.{low}
use Rattle.types.specs.Accepted.{ends_whole}
use Rattle.types.specs.Unique.{inside}
use Rattle.table.specs.declared.Facts as facts
use Rattle.table.specs.declared.Flags as flags
use Rattle.table.specs.Facts.{cut, facts_of, facts_true, Measured}
use Rattle.table.specs.Entries.{facts_right}
use Rattle.table.specs.Flags.{flagged}
use Rattle.table.specs.Lowering.{never_at, large_at, is_never, never_flagged, large_flagged}
use Rattle.num.specs.declared.Pow2Usize.{Pow2Usize}
use Rattle.num.specs.declared.NonZeroPow2Usize.{NonZeroPow2Usize}

-- what the loop is given: an accepted file of n records, its ends, and columns that are long enough
pub record Measurable (s E S W : List ℕ) (n : ℕ) : Type 0 where
  pub ends : Ends s E
  pub accepted : type_answer s ≡ Ok n
  pub sizes : n ≤ length S
  pub widths : n ≤ length W

-- row 6, or else row 7
abbrev pub verdict : Bool → Bool → Result ⊤ Refusal
verdict never large = pick never (Err NeverStands) (pick large (Err TooLarge) (Ok tt))

-- what it comes to: each entry right, and whether a Never stands and whether something is too large
pub record Flagged (s : List ℕ) (r : flags.Flags) (S W : List ℕ) : Type 0 where
  pub measured : Measured s S W 0
  pub never : r.never ≡ has_never (tree 32 s 0)
  pub large : r.large ≡ over_large (tree 32 s 0)

-- the same, told by rows 6 and 7
pub record Measures (s : List ℕ) (r : Result ⊤ Refusal) (S W : List ℕ) : Type 0 where
  pub measured : Measured s S W 0
  pub answer : r ≡ verdict (has_never (tree 32 s 0)) (over_large (tree 32 s 0))

-- record i, which says h, has been put down, with this size
pub record Entered (h : Head) (E : List ℕ) (i : ℕ) (S W : List ℕ) (r : ℕ) (S' W' : List ℕ) : Type 0 where
  pub size : r ≡ (facts_of h E S W (i + 1)).size
  pub sizes : S' ≡ set S i (facts_of h E S W (i + 1)).size
  pub widths : W' ≡ set W i (facts_of h E S W (i + 1)).width

pub entered : (E S W : List ℕ) (i : ℕ) (h : Head) (f : facts.Facts) → f ≡ facts_of h E S W (i + 1) → Entered h E i S W f.size (set S i f.size) (set W i f.width)
entered E S W i h f e = record {
  size = ap (λ (f : facts.Facts). f.size) e;
  sizes = ap (λ (f : facts.Facts). set S i f.size) e;
  widths = ap (λ (f : facts.Facts). set W i f.width) e;
}

-- BETWEEN THE STEPS: the records from i on are put down

pub record Filling (s E : List ℕ) (n i : ℕ) (x y : Bool) (S W : List ℕ) : Type 0 where
  pub given : Measurable s E S W n
  pub within : i ≤ n
  pub measured : Measured s S W i
  pub never : x ≡ flagged (never_at s) i (n - i)
  pub large : y ≡ flagged (large_at S) i (n - i)

pub filling_start : (s E S W : List ℕ) (n : ℕ) → Measurable s E S W n → Filling s E n n false false S W
unfolding flagged
filling_start s E S W n m =
    let (w, l) = ends_whole s n m.accepted in
    let out : (i d e : ℕ) (v : Bool) → n ≤ i → walk d v s i ≡ Ok e → ⊥ = λ i d e v h q. let k = inside d v s i e q in omega arith in
    let none : n - n ≡ 0 = omega arith in
    record {
      given = m;
      within = omega arith;
      measured = record { size = λ i d e v h q. absurd (out i d e v h q); width = λ i d e v h q. absurd (out i d e v h q) };
      never = sym (ap (flagged (never_at s) n) none);
      large = sym (ap (flagged (large_at S) n) none);
    }

-- a flag that agrees from p on
flagged_same : (f g : ℕ → Bool) (p n : ℕ) → ((i : ℕ) → p ≤ i → f i ≡ g i) → flagged f p n ≡ flagged g p n
unfolding flagged
flagged_same f g p zero h = refl
flagged_same f g p (suc n) h = ap₂ ◌||◌ (h p (omega arith)) (flagged_same f g (p + 1) n (λ i k. h i (omega arith)))

flagged_first : (f : ℕ → Bool) (p n : ℕ) → p + 1 ≤ n → flagged f p (n - p) ≡ f p || flagged f (p + 1) (n - (p + 1))
unfolding flagged
flagged_first f p n h = let z : n - p ≡ suc (n - (p + 1)) = omega arith in ap (flagged f p) z

-- one more record, at place i
filling_at : (s E S W S' W' : List ℕ) (n i : ℕ) (x y x' y' : Bool) (h : Head) (r : ℕ) → Filling s E n (i + 1) x y S W → (h ≡ head_at s i) × Fair h → Entered h E i S W r S' W' → x' ≡ is_never h || x → y' ≡ ltb most_shape_records r || y → Filling s E n i x' y' S' W'
unfolding large_at never_at
filling_at s E S W S' W' n i x y x' y' h r g k t ex ey =
    let f = facts_of h E S W (i + 1) in
    let l : i < length S = let a = g.within in let b = g.given.sizes in omega arith in
    let m : i < length W = let a = g.within in let b = g.given.widths in omega arith in
    let sl : length S' ≡ length S = ap length t.sizes ∙ length-set S i f.size in
    let wl : length W' ≡ length W = ap length t.widths ∙ length-set W i f.width in
    let here_size : get_or S' i 0 ≡ f.size = ap (λ l. get_or l i 0) t.sizes ∙ get_or-set_same S i f.size 0 l in
    let here_width : get_or W' i 0 ≡ f.width = ap (λ l. get_or l i 0) t.widths ∙ get_or-set_same W i f.width 0 m in
    let past_size : (j : ℕ) → i + 1 ≤ j → get_or S' j 0 ≡ get_or S j 0 = λ j h. ap (λ l. get_or l j 0) t.sizes ∙ get_or-set_other S i j f.size 0 (apart i j h) in
    let past_width : (j : ℕ) → i + 1 ≤ j → get_or W' j 0 ≡ get_or W j 0 = λ j h. ap (λ l. get_or l j 0) t.widths ∙ get_or-set_other W i j f.width 0 (apart i j h) in
    let right : (d e : ℕ) (v : Bool) → walk d v s i ≡ Ok e → f ≡ facts_true (low d v s i) = λ d e v q. ap (λ h. facts_of h E S W (i + 1)) k.0 ∙ facts_right d v s E S W i e g.given.ends g.measured (subst Fair k.0 k.1) q in
    record {
      given = record { ends = g.given.ends; accepted = g.given.accepted; sizes = let b = g.given.sizes in omega arith; widths = let b = g.given.widths in omega arith };
      within = let a = g.within in omega arith;
      measured = record {
        size = λ j d e v h q. by_place i j (λ j. get_or S' j 0 ≡ cut (nodes (low d v s j))) h (λ k. here_size ∙ ap (λ (f : facts.Facts). f.size) (right d e v (rw k q))) (λ k. past_size j k ∙ g.measured.size j d e v k q);
        width = λ j d e v h q. by_place i j (λ j. get_or W' j 0 ≡ cut (width (low d v s j))) h (λ k. here_width ∙ ap (λ (f : facts.Facts). f.width) (right d e v (rw k q))) (λ k. past_width j k ∙ g.measured.width j d e v k q);
      };
      never = ex ∙ ap₂ ◌||◌ (ap is_never k.0) g.never ∙ sym (flagged_first (never_at s) i n g.within);
      large = ey ∙ ap₂ ◌||◌ (ap (ltb most_shape_records) (t.size ∙ sym here_size)) (g.large ∙ flagged_same (large_at S) (large_at S') (i + 1) (n - (i + 1)) (λ j h. ap (ltb most_shape_records) (sym (past_size j h)))) ∙ sym (flagged_first (large_at S') i n g.within);
    }
  where
    apart : (i j : ℕ) → i + 1 ≤ j → j ≡ i → ⊥
    apart i j h e = omega arith

    by_place : (i j : ℕ) (P : ℕ → Type 0) → i ≤ j → (i ≡ j → P i) → (i + 1 ≤ j → P j) → P j
    by_place i j P h f g = go (dec_le j i)
      where
        go : Dec (j ≤ i) → P j
        go (yes k) = let e : i ≡ j = omega arith in subst P e (f e)
        go (no k) = g (omega arith)

pub filling_next : {s E S W S' W' : List ℕ} {n i : ℕ} {x y : Bool} (x' y' : Bool) (h : Head) (r : ℕ) → Filling s E n i x y S W → 0 < i → (h ≡ head_at s (i - 1)) × Fair h → Entered h E (i - 1) S W r S' W' → x' ≡ x || is_never h → y' ≡ y || ltb most_shape_records r → Filling s E n (i - 1) x' y' S' W'
filling_next {s} {E} {S} {W} {S'} {W'} {n} {i} {x} {y} x' y' h r g l k t ex ey =
    let z : i ≡ (i - 1) + 1 = omega arith in
    filling_at s E S W S' W' n (i - 1) x y x' y' h r (subst (λ i. Filling s E n i x y S W) z g) k t (ex ∙ or_comm x (is_never h)) (ey ∙ or_comm y (ltb most_shape_records r))

-- ALL OF THEM

-- a record says 0 Variants in no file
abbrev HasVariants : Head → Type 0
HasVariants Missing = Unit
HasVariants Faulty = Unit
HasVariants Never = Unit
HasVariants Boolean = Unit
HasVariants (UInt w) = Unit
HasVariants Either = Unit
HasVariants Opt = Unit
HasVariants (Tuple n) = Unit
HasVariants (Array n) = Unit
HasVariants (Listed b) = Unit
HasVariants (Variants n) = n ≡ 0 → ⊥
HasVariants (Payload n) = Unit

both : (b : Bool) (x y : Head) → (b ≡ true → HasVariants x) → (b ≡ false → HasVariants y) → HasVariants (pick b x y)
both true x y f g = f refl
both false x y f g = g refl

some_width : (w : Option Pow2Usize) → HasVariants (by_width w)
some_width (Some w) = tt
some_width None = tt

some_bound : (b : Option NonZeroPow2Usize) → HasVariants (by_bound b)
some_bound (Some b) = tt
some_bound None = tt

some_of : (k z n : ℕ) → HasVariants (head_of k z n)
unfolding head_of
some_of k z n =
    both (eqb z 0) _ _ (λ e.
    both (eqb k 0) _ _ (λ e. both (eqb n 0) _ _ (λ e. tt) (λ e. tt)) (λ e.
    both (eqb k 1) _ _ (λ e. both (eqb n 0) _ _ (λ e. tt) (λ e. tt)) (λ e.
    both (eqb k 2) _ _ (λ e. some_width (width_of n)) (λ e.
    both (eqb k 3) _ _ (λ e. both (eqb n 0) _ _ (λ e. tt) (λ e. tt)) (λ e.
    both (eqb k 4) _ _ (λ e. both (eqb n 0) _ _ (λ e. tt) (λ e. tt)) (λ e.
    both (eqb k 5) _ _ (λ e. tt) (λ e.
    both (eqb k 6) _ _ (λ e. tt) (λ e.
    both (eqb k 7) _ _ (λ e. some_bound (bound_of n)) (λ e.
    both (eqb k 8) _ _ (λ e. both (eqb n 0) _ _ (λ e. tt) (λ f. eqb-false n 0 f)) (λ e.
    both (eqb k 9) _ _ (λ e. tt) (λ e. tt)))))))))))
    (λ e. tt)

pub some_variants : (s : List ℕ) (i : ℕ) → head_at s i ≡ Variants 0 → ⊥
unfolding head_at
some_variants s i e = subst HasVariants e (both (ltb i (length s / 4)) _ _ (λ h. some_of _ _ _) (λ h. tt)) refl

pub filling_flags : {s E S W : List ℕ} {n i : ℕ} {x y : Bool} (r : flags.Flags) → Filling s E n i x y S W → i ≤ 0 → r.never ≡ x → r.large ≡ y → Flagged s r S W
filling_flags {s} {E} {S} {W} {n} {i} {x} {y} r g h u v =
    let z : i ≡ 0 = omega arith in
    let a : n - i ≡ n = omega arith in
    let w = (ends_whole s n g.given.accepted).0 in
    let m : Measured s S W 0 = subst (Measured s S W) z g.measured in
    record {
      measured = m;
      never = u ∙ g.never ∙ ap₂ (flagged (never_at s)) z a ∙ never_flagged s (some_variants s) 32 n w;
      large = v ∙ g.large ∙ ap₂ (flagged (large_at S)) z a ∙ large_flagged s S W m (some_variants s) 32 n w;
    }

pub flags_measure : {s S W : List ℕ} {f : flags.Flags} (r : Result ⊤ Refusal) → Flagged s f S W → r ≡ verdict f.never f.large → Measures s r S W
flags_measure r g v = record { measured = g.measured; answer = v ∙ ap₂ verdict g.never g.large }

pub filling_end : {s E S W : List ℕ} {n i : ℕ} {x y : Bool} (r : Result ⊤ Refusal) → Filling s E n i x y S W → i ≤ 0 → r ≡ verdict x y → Measures s r S W
filling_end {s} {E} {S} {W} {n} {i} {x} {y} r g h v =
    let z : i ≡ 0 = omega arith in
    let a : n - i ≡ n = omega arith in
    let w = (ends_whole s n g.given.accepted).0 in
    let m : Measured s S W 0 = subst (Measured s S W) z g.measured in
    record {
      measured = m;
      answer = v ∙ ap₂ verdict
          (g.never ∙ ap₂ (flagged (never_at s)) z a ∙ never_flagged s (some_variants s) 32 n w)
          (g.large ∙ ap₂ (flagged (large_at S)) z a ∙ large_flagged s S W m (some_variants s) 32 n w);
    }
