-- Laws of lists at a place of a shape file: a block is a side and the elements that it holds, none or all; a list is a block of 1, or a pair of a block of half the bound and a list with that bound.
use Rattle.std.proofs.Math.Path.{◌≡◌, refl, sym, ap}
use Rattle.std.proofs.Common.{◌∙◌, length-append}
use mathlib.Core.List.{List, [], ◌++◌}
use Rattle.std.proofs.Math.Option.{Option, some, none-ne-some, some-injective}
use Prim.Native.Nat.{ℕ, suc, ◌+◌, ◌-◌, ◌^◌, ◌<◌}
use native.Mathlib.Omega.{arith}
use Rattle.std.proofs.Math.ListN.{length}
use Rattle.std.specs.Prelude.{get_or, Some, None}
use Rattle.num.specs.declared.NonZeroPow2Usize.{NonZeroPow2Usize}
use Rattle.num.specs.Powers.{bound_log2, half_bound}
use Rattle.num.specs.Laws.{no_half, HalfOf, half_of}
use Rattle.model.specs.Options.{map_o, bind_o}
use Rattle.model.specs.Structural.{SValue, unit, left, right, pair}
use Rattle.model.specs.ValueFiles.{Rec}
use Rattle.model.specs.Reconstruct.{as_tuple, as_block, combine}
use Rattle.model.proofs.Laws.Options.{bind_o_some, map_o_some}
use Rattle.model.proofs.Laws.Valid.{length_as_tuple}
use Rattle.structural.proofs.Laws.Bounds.{Power, power_of}
use Rattle.types.specs.declared.forms.Parts.TheVariants.{Copies}
use Rattle.told.specs.Laws.Rows.{skip_copies}
use Rattle.record.specs.Trees.{row, product, numbered, blocked, elements}
use Rattle.restore.specs.Forms.{held, tree_at, made_at}
use Rattle.restore.specs.Laws.Made.{made_same, made_of, numbered_some}
use Rattle.restore.specs.Laws.Places.{Two, left_at, right_at, pair_at, made_there}
use Rattle.restore.specs.Laws.Splits.{none_product, row_append}

module _ (sh : List ℕ) (d : ℕ) (s : List ℕ) where
  -- elements and how many
  abbrev numbered_row : ℕ → List SValue → Option (ℕ × List Rec)
  numbered_row p xs = numbered (length xs) (row Copies d s (length xs) p xs)

  -- BLOCKS

  -- its side, and behind it the elements that it holds, none or all
  pub record Held (n p q i : ℕ) (rs : List Rec) (e : ℕ) : Type 0 where
    pub inside : q < length sh
    pub number : held (get_or sh q 0) n ≡ i
    pub below : made_at sh (product Copies d s i p) (q + 1) ≡ some (rs, e)

  in_block : (n p q i : ℕ) (rs : List Rec) (e : ℕ) (x : SValue) → tree_at sh q ≡ some (x, e) → bind_o (as_block n x) (numbered_row p) ≡ some (i, rs) → Held n p q i rs e
  unfolding row product held
  in_block n p q i rs e unit t g = absurd (none-ne-some (i, rs) g)
  in_block n p q i rs e (pair x y) t g = absurd (none-ne-some (i, rs) g)
  in_block n p q i rs e (left (left x)) t g = absurd (none-ne-some (i, rs) g)
  in_block n p q i rs e (left (right x)) t g = absurd (none-ne-some (i, rs) g)
  in_block n p q i rs e (left (pair x y)) t g = absurd (none-ne-some (i, rs) g)
  in_block n p q i rs e (left unit) t g =
      let o = left_at unit t in
      let k = some-injective (0, []) (i, rs) g in
      let z : 0 ≡ i = ap (λ (y : ℕ × List Rec). y.0) k in
      record {
        inside = o.inside;
        number = ap (λ a. held a n) o.starts ∙ z;
        below = none_product Copies d s sh i p (q + 1) unit e (sym z) o.below ∙ ap (λ us. some (us, e)) (ap (λ (y : ℕ × List Rec). y.1) k);
      }
  in_block n p q i rs e (right x) t g =
      let o = right_at x t in
      let (xs, f, k) = bind_o_some (as_tuple n x) _ (i, rs) g in
      let (m, r) = numbered_some (length xs) (row Copies d s (length xs) p xs) i rs k in
      let z : length xs ≡ n = length_as_tuple n x xs f in
      let a : n ≡ i = sym (m ∙ z) in
      record {
        inside = o.inside;
        number = ap (λ a. held a n) o.starts ∙ a;
        below = ap (λ j. made_at sh (product Copies d s j p) (q + 1)) (sym a) ∙ made_there (record { tree = x; stood = o.below; made = ap (λ o. bind_o o (λ xs. row Copies d s n p xs)) f ∙ ap (λ j. row Copies d s j p xs) (sym z) ∙ r });
      }

  pub block_held : (n p q i : ℕ) (rs : List Rec) (e : ℕ) → made_at sh (blocked d s n p) q ≡ some ((i, rs), e) → Held n p q i rs e
  unfolding blocked
  block_held n p q i rs e h = let m = made_of sh (blocked d s n p) q ((i, rs), e) h in in_block n p q i rs e m.tree m.stood m.made

  -- LISTS

  -- with the bound 2 a list is a block of 1
  pub list_two : (p q : ℕ) (b : NonZeroPow2Usize) → None ≡ half_bound b → made_at sh (elements d s b p) q ≡ made_at sh (blocked d s 1 p) q
  unfolding elements blocked combine
  list_two p q b h = made_same sh (elements d s b p) (blocked d s 1 p) q one
    where
      one : (x : SValue) → bind_o (combine (bound_log2 b.value - 1) x) (numbered_row p) ≡ bind_o (as_block 1 x) (numbered_row p)
      one x = rw (no_half {b = b} h).log2 refl

  -- with a larger one it is a pair of a block of the half, and the list with that bound
  pub record Halves (b h : NonZeroPow2Usize) (p q i : ℕ) (rs : List Rec) (e : ℕ) : Type 0 where
    pub less : h.value < b.value
    pub inside : q < length sh
    pub mid : ℕ
    pub first : ℕ
    pub second : ℕ
    pub firsts : List Rec
    pub seconds : List Rec
    pub block_there : made_at sh (blocked d s h.value p) (q + 1) ≡ some ((first, firsts), mid)
    pub list_there : made_at sh (elements d s h p) mid ≡ some ((second, seconds), e)
    pub number : i ≡ first + second
    pub all : rs ≡ firsts ++ seconds

  -- elements one behind the other
  record Rows (p i : ℕ) (rs : List Rec) (xs ys : List SValue) : Type 0 where
    firsts : List Rec
    seconds : List Rec
    first_row : row Copies d s (length xs) p xs ≡ some firsts
    second_row : row Copies d s (length ys) p ys ≡ some seconds
    number : i ≡ length xs + length ys
    all : rs ≡ firsts ++ seconds

  both_rows : (p i : ℕ) (rs : List Rec) (xs ys : List SValue) → numbered_row p (xs ++ ys) ≡ some (i, rs) → Rows p i rs xs ys
  both_rows p i rs xs ys h =
      let (m, r) = numbered_some (length (xs ++ ys)) (row Copies d s (length (xs ++ ys)) p (xs ++ ys)) i rs h in
      let a : bind_o (row Copies d s (length xs) p xs) (λ us. map_o (λ vs. us ++ vs) (row Copies d s (length ys) p ys)) ≡ some rs = ap (λ j. bind_o (row Copies d s (length xs) p xs) (λ us. map_o (λ vs. us ++ vs) (row Copies d s (length ys) j ys))) (sym (skip_copies d s (length xs) p)) ∙ sym (row_append Copies d s (length xs) (length ys) p xs ys refl) ∙ ap (λ j. row Copies d s j p (xs ++ ys)) (sym (length-append xs ys)) ∙ r in
      let (vs, f, g) = bind_o_some (row Copies d s (length xs) p xs) _ rs a in
      let (ws, k, l) = map_o_some _ (row Copies d s (length ys) p ys) rs g in
      record { firsts = vs; seconds = ws; first_row = f; second_row = k; number = m ∙ length-append xs ys; all = sym l }

  -- of the trees of a block and a list
  halves_in : {b h : NonZeroPow2Usize} {p q i : ℕ} {rs : List Rec} {e : ℕ} (k : HalfOf b h) (x y : SValue) → Two sh q x y e → (xs ys : List SValue) → as_block (2 ^ suc k.exponent) x ≡ some xs → combine k.exponent y ≡ some ys → Rows p i rs xs ys → Halves b h p q i rs e
  unfolding elements blocked
  halves_in {b} {h} {p = p} k x y t xs ys u v r =
      let l : bound_log2 h.value - 1 ≡ k.exponent = let m = k.log2 in omega arith in
      record {
        less = k.less;
        inside = t.inside;
        mid = t.mid;
        first = length xs;
        second = length ys;
        firsts = r.firsts;
        seconds = r.seconds;
        block_there = made_there (record { tree = x; stood = t.first; made = ap (λ j. bind_o (as_block j x) (numbered_row p)) k.power ∙ ap (λ o. bind_o o (numbered_row p)) u ∙ ap (numbered (length xs)) r.first_row });
        list_there = made_there (record { tree = y; stood = t.second; made = ap (λ j. bind_o (combine j y) (numbered_row p)) l ∙ ap (λ o. bind_o o (numbered_row p)) v ∙ ap (numbered (length ys)) r.second_row });
        number = r.number;
        all = r.all;
      }

  halves_of : {b h : NonZeroPow2Usize} (p q i : ℕ) (rs : List Rec) (e : ℕ) (k : HalfOf b h) (x : SValue) → tree_at sh q ≡ some (x, e) → bind_o (combine (suc k.exponent) x) (numbered_row p) ≡ some (i, rs) → Halves b h p q i rs e
  unfolding combine
  halves_of p q i rs e k unit t g = absurd (none-ne-some (i, rs) g)
  halves_of p q i rs e k (left x) t g = absurd (none-ne-some (i, rs) g)
  halves_of p q i rs e k (right x) t g = absurd (none-ne-some (i, rs) g)
  halves_of p q i rs e k (pair x y) t g =
      let (zs, a, c) = bind_o_some (bind_o (as_block (2 ^ suc k.exponent) x) (λ xs. map_o (λ ys. xs ++ ys) (combine k.exponent y))) _ (i, rs) g in
      let (xs, u, v) = bind_o_some (as_block (2 ^ suc k.exponent) x) _ zs a in
      let (ys, w, z) = map_o_some _ (combine k.exponent y) zs v in
      halves_in k x y (pair_at x y t) xs ys u w (both_rows p i rs xs ys (ap (numbered_row p) z ∙ c))

  pub list_more : {b h : NonZeroPow2Usize} (p q i : ℕ) (rs : List Rec) (e : ℕ) → Some h ≡ half_bound b → made_at sh (elements d s b p) q ≡ some ((i, rs), e) → Halves b h p q i rs e
  unfolding elements
  list_more {b} {h} p q i rs e k g =
      let u = half_of k in
      let j : bound_log2 b.value - 1 ≡ suc u.exponent = omega (arith, u.log2_twice) in
      let v = made_of sh (elements d s b p) q ((i, rs), e) g in
      halves_of p q i rs e u v.tree v.stood (ap (λ j. bind_o (combine j v.tree) (numbered_row p)) (sym j) ∙ v.made)
