-- A path through Tuples and Arrays: what is known at each step, and that it leads to the same place in every frame.
use Rattle.std.proofs.Math.Path.{◌≡◌, refl, sym, ap}
use Rattle.std.proofs.Common.{◌∙◌, arith}
use Rattle.std.specs.Prelude.{List, [], ◌∷◌, ℕ, ◌+◌, ◌-◌, ◌*◌, ◌/◌, ◌%◌, ◌≤◌, ◌<◌, length, Option as Optional, Some, None, Ok}
use Rattle.model.specs.Bytes.{two_at}
use Rattle.num.specs.declared.NonZeroPow2Usize.{NonZeroPow2Usize}
use Rattle.types.specs.declared.Head.{Head}
use Rattle.types.specs.declared.Head.TheVariants.{Missing, Faulty, Never, Boolean, UInt, Either, Opt, Tuple, Array, Listed, Variants, Payload}
use Rattle.types.specs.Record.{head_at}
use Rattle.told.specs.Widths.{Wide}
use Rattle.part.specs.declared.Spot.{Spot}
use Rattle.part.specs.Forms.{spot, step_at, below, further, follow, picks_from, target, found_in, fixed_below, fixed_at, fixed, stepped, followed, fixed_in}
use Rattle.part.specs.Holds.{Held, HoldsIn}
use Rattle.part.specs.Laws.Steps.{step_holds}
use Rattle.part.specs.Laws.Asked.{step_says, step_none, picks_next, picks_none, found_even}

-- A STEP

module _ (d : ℕ) (s E W : List ℕ) (p bit i : ℕ) where
  pub fixed_says : (h k : Head) → h ≡ head_at s p → h ≡ k → fixed_below k (d - 1) E W (p + 1) bit i ≡ fixed_at d s E W p bit i
  unfolding fixed_at
  fixed_says h k e f = ap (λ h. fixed_below h (d - 1) E W (p + 1) bit i) (sym f ∙ e)

  -- nowhere, if it is no Tuple and no Array
  pub fixed_none : {h : Head} → h ≡ head_at s p → ((n : ℕ) → h ≡ Tuple n → ⊥) → ((n : ℕ) → h ≡ Array n → ⊥) → None ≡ fixed_at d s E W p bit i
  unfolding fixed_below
  fixed_none {h} e a b = go h refl
    where
      go : (k : Head) → h ≡ k → None ≡ fixed_at d s E W p bit i
      go Missing q = fixed_says h Missing e q
      go Faulty q = fixed_says h Faulty e q
      go Never q = fixed_says h Never e q
      go Boolean q = fixed_says h Boolean e q
      go (UInt n) q = fixed_says h (UInt n) e q
      go Either q = fixed_says h Either e q
      go Opt q = fixed_says h Opt e q
      go (Tuple n) q = absurd (a n q)
      go (Array n) q = absurd (b n q)
      go (Listed l) q = fixed_says h (Listed l) e q
      go (Variants n) q = fixed_says h (Variants n) e q
      go (Payload n) q = fixed_says h (Payload n) e q

  -- where it leads to a place, it leads there in every frame
  below_fixed : (fr : List ℕ) (h : Head) {q e b : ℕ} → fixed_below h (d - 1) E W (p + 1) bit i ≡ Some (spot q e b) → below h (d - 1) s E W (p + 1) fr bit i ≡ Some (spot q e b)
  unfolding fixed_below below
  below_fixed fr Missing k = k
  below_fixed fr Faulty k = k
  below_fixed fr Never k = k
  below_fixed fr Boolean k = k
  below_fixed fr (UInt w) k = k
  below_fixed fr Either k = absurd (let z : ◌≡◌ {A = ℕ} 0 1 = cc in omega arith)
  below_fixed fr Opt k = absurd (let z : ◌≡◌ {A = ℕ} 0 1 = cc in omega arith)
  below_fixed fr (Tuple n) k = k
  below_fixed fr (Array n) k = k
  below_fixed fr (Listed b) k = absurd (let z : ◌≡◌ {A = ℕ} 0 1 = cc in omega arith)
  below_fixed fr (Variants n) k = absurd (let z : ◌≡◌ {A = ℕ} 0 1 = cc in omega arith)
  below_fixed fr (Payload n) k = k

  pub step_fixed : (fr : List ℕ) {q e b : ℕ} → fixed_at d s E W p bit i ≡ Some (spot q e b) → step_at d s E W p fr bit i ≡ Some (spot q e b)
  unfolding fixed_at step_at
  step_fixed fr k = below_fixed fr (head_at s p) k

-- IN A FRAME OR IN ALL

-- some value stands there in some frame
pub held_in : {d : ℕ} {s E : List ℕ} {p : ℕ} (o : Optional (List ℕ)) {bit : ℕ} → HoldsIn d s E p o bit → Held d s E p bit
held_in (Some fr) h = record { frame = fr; holds = h }
held_in None h = h

-- a step that is told by the record alone
pub both_say : (d : ℕ) (s E W : List ℕ) (p : ℕ) (o : Optional (List ℕ)) (bit i : ℕ) {h : Head} (k : Head) {r : Optional Spot} → ((fr : List ℕ) → below k (d - 1) s E W (p + 1) fr bit i ≡ r) → fixed_below k (d - 1) E W (p + 1) bit i ≡ r
    → h ≡ head_at s p → h ≡ k → r ≡ stepped d s E W p o bit i
both_say d s E W p (Some fr) bit i k a b e f = sym (a fr) ∙ step_says d s E W p fr bit i _ k e f
both_say d s E W p None bit i k a b e f = sym b ∙ fixed_says d s E W p bit i _ k e f

-- nowhere, if it says none of the kinds that have parts
pub stepped_none : (d : ℕ) (s E W : List ℕ) (p : ℕ) (o : Optional (List ℕ)) (bit i : ℕ) {h : Head} → h ≡ head_at s p → (h ≡ Either → ⊥) → (h ≡ Opt → ⊥) → ((n : ℕ) → h ≡ Tuple n → ⊥) → ((n : ℕ) → h ≡ Array n → ⊥) → ((b : NonZeroPow2Usize) → h ≡ Listed b → ⊥) → ((n : ℕ) → h ≡ Variants n → ⊥)
    → None ≡ stepped d s E W p o bit i
stepped_none d s E W p (Some fr) bit i e a b c f g j = step_none d s E W p fr bit i e a b c f g j
stepped_none d s E W p None bit i e a b c f g j = fixed_none d s E W p bit i e c f

-- A PATH

-- it leads to one place in all frames
follow_fixed : (s E W fr : List ℕ) (picks : List ℕ) (d p bit : ℕ) {q e b : ℕ} → fixed d s E W p bit picks ≡ Some (spot q e b) → follow d s E W p fr bit picks ≡ Some (spot q e b)
unfolding fixed follow
follow_fixed s E W fr [] d p bit k = k
follow_fixed s E W fr (i ∷ picks) d p bit {q} {e} {b} k = go (λ c r a. follow_fixed s E W fr picks c r a) (fixed_at d s E W p bit i) refl k
  where
    go : ((c r a : ℕ) → fixed c s E W r a picks ≡ Some (spot q e b) → follow c s E W r fr a picks ≡ Some (spot q e b)) → (x : Optional Spot) → fixed_at d s E W p bit i ≡ x → further x (λ q e b. fixed e s E W q b picks) ≡ Some (spot q e b) → further (step_at d s E W p fr bit i) (λ q e b. follow e s E W q fr b picks) ≡ Some (spot q e b)
    go rec None f l = absurd (let z : ◌≡◌ {A = ℕ} 0 1 = cc in omega arith)
    go rec (Some x) f l = rw (step_fixed d s E W p bit i fr f) (rec x.level x.at x.bit l)

pub found_fixed : (s E W path : List ℕ) → length path % 2 ≡ 0 → {p d bit : ℕ} → Some (spot p d bit) ≡ fixed_in s E W path → (fr : List ℕ) → Ok (spot p d bit) ≡ found_in s E W fr path
unfolding fixed_in
found_fixed s E W path h k fr = sym (found_even s E W fr path h ∙ ap target (follow_fixed s E W fr (picks_from path 0) 32 0 0 (sym k)))

-- a step, and then the others
followed_more : (o : Optional (List ℕ)) (s E W : List ℕ) (d p bit i : ℕ) (picks : List ℕ) → followed d s E W p o bit (i ∷ picks) ≡ further (stepped d s E W p o bit i) (λ q e b. followed e s E W q o b picks)
unfolding follow fixed
followed_more (Some fr) s E W d p bit i picks = refl
followed_more None s E W d p bit i picks = refl

-- and none
followed_none : (o : Optional (List ℕ)) (s E W : List ℕ) (d p bit : ℕ) → followed d s E W p o bit [] ≡ Some (spot p d bit)
unfolding follow fixed
followed_none (Some fr) s E W d p bit = refl
followed_none None s E W d p bit = refl

-- a value stands where a step leads
stepped_holds : (o : Optional (List ℕ)) {s E W : List ℕ} (x : Spot) → HoldsIn x.level s E x.at o x.bit → Wide s E W → (i : ℕ) {y : Spot} → stepped x.level s E W x.at o x.bit i ≡ Some y → HoldsIn y.level s E y.at o y.bit
stepped_holds (Some fr) x h w i e = step_holds h w i e
stepped_holds None {s} {E} {W} x h w i e = record { frame = h.frame; holds = step_holds h.holds w i (step_fixed x.level s E W x.at x.bit i h.frame e) }

-- j steps of a path were followed: what is left of it leads on from the place that was reached
pub record Following (o : Optional (List ℕ)) (s E W path : List ℕ) (x : Spot) (j : ℕ) : Type 0 where
  pub holds : HoldsIn x.level s E x.at o x.bit
  pub same : followed 32 s E W 0 o 0 (picks_from path 0) ≡ followed x.level s E W x.at o x.bit (picks_from path (2 * j))

module _ (o : Optional (List ℕ)) (s E W path : List ℕ) where
  pub following_start : HoldsIn 32 s E 0 o 0 → Following o s E W path (spot 0 32 0) 0
  following_start h = record { holds = h; same = refl }

module _ {o : Optional (List ℕ)} {s E W path : List ℕ} {x : Spot} {j : ℕ} (h : Following o s E W path x j) where
  module _ {i : ℕ} (l : j < length path / 2) (e : i ≡ two_at path (2 * j)) {r : Optional Spot} (k : r ≡ stepped x.level s E W x.at o x.bit i) where
    abbrev on : Optional Spot → Optional Spot
    on r = further r (λ q e b. followed e s E W q o b (picks_from path (2 * (j + 1))))

    one_more : followed 32 s E W 0 o 0 (picks_from path 0) ≡ on r
    one_more = h.same ∙ ap (followed x.level s E W x.at o x.bit) (picks_next path j (omega arith)) ∙ followed_more o s E W x.level x.at x.bit (two_at path (2 * j)) (picks_from path (2 * (j + 1))) ∙ rw (← e, ← k) refl

    pub following_nowhere : r ≡ None → None ≡ followed 32 s E W 0 o 0 (picks_from path 0)
    following_nowhere g = sym (one_more ∙ ap on g)

    pub following_next : Wide s E W → {y : Spot} → r ≡ Some y → Following o s E W path y (j + 1)
    following_next w {y} g = record { holds = stepped_holds o x h.holds w i (sym k ∙ g); same = one_more ∙ ap on g }

  pub following_end : length path / 2 ≤ j → Some x ≡ followed 32 s E W 0 o 0 (picks_from path 0)
  following_end l = sym (h.same ∙ ap (followed x.level s E W x.at o x.bit) (picks_none path (2 * j) (omega arith)) ∙ followed_none o s E W x.level x.at x.bit)
