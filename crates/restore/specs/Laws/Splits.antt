-- Laws of balanced products at a place of a shape file: of none, of one part, and of two or more, which is a pair of the one side's parts and the other's.
use Rattle.std.specs.Prelude.{◌≡◌, Bool, true, false, get_or}
use Rattle.std.proofs.Math.Path.{refl, sym, ap, ap₂}
use Rattle.std.proofs.Common.{◌∙◌, zero-add, suc-add}
use mathlib.Core.List.{List, [], ◌∷◌, ◌++◌, append_assoc, append-nil}
use Rattle.std.proofs.Math.Option.{Option, none, some, none-ne-some, some-injective}
use Prim.Native.Nat.{ℕ, zero, suc, ◌+◌, ◌-◌, ◌≤◌, ◌<◌}
use native.Mathlib.Omega.{arith}
use Rattle.std.proofs.Math.ListN.{length}
use Rattle.model.specs.Options.{map_o, bind_o, map_m}
use Rattle.model.specs.Balanced.{fork, btree, grow, btree_split_index}
use Rattle.model.specs.Structural.{SValue, unit, left, right, pair}
use Rattle.model.specs.ValueFiles.{Rec, bit_number}
use Rattle.model.specs.Reconstruct.{unfold_tree, as_tuple, as_bit}
use Rattle.model.proofs.Laws.Options.{bind_o_some, map_o_some}
use Rattle.model.proofs.Laws.Balanced.{split_bounds, btree_fork}
use Rattle.model.proofs.Laws.Valid.{length_as_tuple, length_map_m}
use Rattle.types.specs.declared.forms.Parts.{Parts}
use Rattle.told.specs.Forms.{after, skip}
use Rattle.record.specs.Trees.{part, row, product, bit_row}
use Rattle.restore.specs.Forms.{tree_at, made_at, standing}
use Rattle.restore.specs.Laws.Made.{made_same, made_of}
use Rattle.restore.specs.Laws.Places.{left_at, right_at, unit_at, pair_at, made_there}

-- THE TWO SIDES

-- the tree x of n parts is a pair, and its parts are those of the one side and those of the other
record Sides (m n : ℕ) (x : SValue) (xs : List SValue) : Type 0 where
  first : SValue
  second : SValue
  same : x ≡ pair first second
  firsts : List SValue
  seconds : List SValue
  left_parts : as_tuple m first ≡ some firsts
  right_parts : as_tuple n second ≡ some seconds
  all : xs ≡ firsts ++ seconds

tuple_tree : (n : ℕ) (x : SValue) → 1 ≤ n → as_tuple n x ≡ unfold_tree (btree n) x
tuple_tree zero x h = absurd (omega arith)
tuple_tree (suc n) x h = refl

sides : (n : ℕ) (x : SValue) (xs : List SValue) → 2 ≤ n → as_tuple n x ≡ some xs → Sides (btree_split_index n) (n - btree_split_index n) x xs
unfolding unfold_tree
sides n x xs h k =
    let b = split_bounds n h in
    go x (sym (ap (λ t. unfold_tree t x) (btree_fork n h)) ∙ sym (tuple_tree n x (omega arith)) ∙ k) (λ y. tuple_tree (btree_split_index n) y b.0) (λ y. tuple_tree (n - btree_split_index n) y (omega arith))
  where
    go : (x : SValue) → unfold_tree (fork (btree (btree_split_index n)) (btree (n - btree_split_index n))) x ≡ some xs
        → ((y : SValue) → as_tuple (btree_split_index n) y ≡ unfold_tree (btree (btree_split_index n)) y)
        → ((y : SValue) → as_tuple (n - btree_split_index n) y ≡ unfold_tree (btree (n - btree_split_index n)) y)
        → Sides (btree_split_index n) (n - btree_split_index n) x xs
    go unit k f g = absurd (none-ne-some xs k)
    go (left a) k f g = absurd (none-ne-some xs k)
    go (right a) k f g = absurd (none-ne-some xs k)
    go (pair a c) k f g =
        let (ys, e, l) = bind_o_some (unfold_tree (btree (btree_split_index n)) a) _ xs k in
        let (zs, i, m) = map_o_some _ (unfold_tree (btree (n - btree_split_index n)) c) xs l in
        record { first = a; second = c; same = refl; firsts = ys; seconds = zs; left_parts = f a ∙ e; right_parts = g c ∙ i; all = sym m }

-- BITS

map_m_append : {A B : Type 0} (f : A → Option B) (xs ys : List A) → map_m f (xs ++ ys) ≡ bind_o (map_m f xs) (λ us. map_o (λ vs. us ++ vs) (map_m f ys))
map_m_append f [] ys = go (map_m f ys)
  where
    go : {B : Type 0} (o : Option (List B)) → o ≡ map_o (λ bs. [] ++ bs) o
    go none = refl
    go (some a) = refl
map_m_append {A} {B} f (x ∷ xs) ys = go (f x) (map_m f xs) (map_m f ys) (map_m f (xs ++ ys)) (map_m_append f xs ys)
  where
    go : (u : Option B) (v w z : Option (List B)) → z ≡ bind_o v (λ us. map_o (λ vs. us ++ vs) w)
        → bind_o u (λ y. map_o {B = List B} (λ ys. y ∷ ys) z) ≡ bind_o (bind_o u (λ y. map_o {B = List B} (λ ys. y ∷ ys) v)) (λ us. map_o (λ vs. us ++ vs) w)
    go none v w z h = refl
    go (some y) none w z h = ap (map_o {B = List B} (λ ys. y ∷ ys)) h
    go (some y) (some a) none z h = ap (map_o {B = List B} (λ ys. y ∷ ys)) h
    go (some y) (some a) (some b) z h = ap (map_o {B = List B} (λ ys. y ∷ ys)) h

-- a bit stands at q: a left with a unit, or a right
pub record Bit (sh : List ℕ) (q : ℕ) (b : Bool) (e : ℕ) : Type 0 where
  pub inside : q + 1 < length sh
  pub end : e ≡ q + 2
  pub side : get_or sh q 0 ≡ suc (bit_number b)

pub bit_at : {sh : List ℕ} {q e : ℕ} {b : Bool} (x : SValue) → tree_at sh q ≡ some (x, e) → as_bit x ≡ some b → Bit sh q b e
bit_at {b = b} unit h k = absurd (none-ne-some b k)
bit_at {b = b} (pair x y) h k = absurd (none-ne-some b k)
bit_at {b = b} (left (left x)) h k = absurd (none-ne-some b k)
bit_at {b = b} (left (right x)) h k = absurd (none-ne-some b k)
bit_at {b = b} (left (pair x y)) h k = absurd (none-ne-some b k)
bit_at {b = b} (right (left x)) h k = absurd (none-ne-some b k)
bit_at {b = b} (right (right x)) h k = absurd (none-ne-some b k)
bit_at {b = b} (right (pair x y)) h k = absurd (none-ne-some b k)
bit_at {b = b} (left unit) h k =
    let o = left_at unit h in
    let u = unit_at o.below in
    let l = u.inside in let m = u.end in
    record { inside = l; end = omega arith; side = o.starts ∙ ap (λ b. suc (bit_number b)) (some-injective false b k) }
bit_at {b = b} (right unit) h k =
    let o = right_at unit h in
    let u = unit_at o.below in
    let l = u.inside in let m = u.end in
    record { inside = l; end = omega arith; side = o.starts ∙ ap (λ b. suc (bit_number b)) (some-injective true b k) }

-- one bit
pub record OneBit (sh : List ℕ) (q : ℕ) (bs : List Bool) (e : ℕ) : Type 0 where
  pub bit : Bool
  pub same : bs ≡ bit ∷ []
  pub there : Bit sh q bit e

pub bit_row_one : (sh : List ℕ) (n q : ℕ) (bs : List Bool) (e : ℕ) → n ≡ 1 → made_at sh (bit_row n) q ≡ some (bs, e) → OneBit sh q bs e
unfolding bit_row unfold_tree btree grow
bit_row_one sh n q bs e z h =
    let m = made_of sh (bit_row 1) q (bs, e) (rw z at h) in
    let (b, k, l) = bind_o_some (as_bit m.tree) _ bs m.made in
    record { bit = b; same = sym (some-injective (b ∷ []) bs l); there = bit_at m.tree m.stood k }

-- two or more
pub record BitSides (sh : List ℕ) (n few q : ℕ) (bs : List Bool) (e : ℕ) : Type 0 where
  pub inside : q < length sh
  pub mid : ℕ
  pub firsts : List Bool
  pub seconds : List Bool
  pub left_bits : made_at sh (bit_row few) (q + 1) ≡ some (firsts, mid)
  pub right_bits : made_at sh (bit_row (n - few)) mid ≡ some (seconds, e)
  pub few_bits : length firsts ≡ few
  pub all : bs ≡ firsts ++ seconds

-- of the trees of both sides
bits_of_sides : {sh : List ℕ} {n q : ℕ} {bs : List Bool} {e : ℕ} (x : SValue) (xs : List SValue) → tree_at sh q ≡ some (x, e) → Sides (btree_split_index n) (n - btree_split_index n) x xs → map_m as_bit xs ≡ some bs → BitSides sh n (btree_split_index n) q bs e
unfolding bit_row
bits_of_sides {bs = bs} {e = e} x xs h s g =
    let t = pair_at s.first s.second (h ∙ ap (λ x. some (x, e)) s.same) in
    let (us, a, b) = bind_o_some (map_m as_bit s.firsts) _ bs (sym (map_m_append as_bit s.firsts s.seconds) ∙ ap (map_m as_bit) (sym s.all) ∙ g) in
    let (cs, c, d) = map_o_some _ (map_m as_bit s.seconds) bs b in
    record {
      inside = t.inside;
      mid = t.mid;
      firsts = us;
      seconds = cs;
      left_bits = made_there (record { tree = s.first; stood = t.first; made = ap (λ o. bind_o o (λ xs. map_m as_bit xs)) s.left_parts ∙ a });
      right_bits = made_there (record { tree = s.second; stood = t.second; made = ap (λ o. bind_o o (λ xs. map_m as_bit xs)) s.right_parts ∙ c });
      few_bits = length_map_m as_bit s.firsts us a ∙ length_as_tuple _ s.first s.firsts s.left_parts;
      all = sym d;
    }

pub bit_row_sides : (sh : List ℕ) (n few q : ℕ) (bs : List Bool) (e : ℕ) → 2 ≤ n → few ≡ btree_split_index n → made_at sh (bit_row n) q ≡ some (bs, e) → BitSides sh n few q bs e
unfolding bit_row
bit_row_sides sh n few q bs e h i k =
    let m = made_of sh (bit_row n) q (bs, e) k in
    let (xs, f, g) = bind_o_some (as_tuple n m.tree) _ bs m.made in
    rw i (bits_of_sides m.tree xs m.stood (sides n m.tree xs h f) g)

pub length_bit_row : (sh : List ℕ) (n q : ℕ) (bs : List Bool) (e : ℕ) → made_at sh (bit_row n) q ≡ some (bs, e) → length bs ≡ n
unfolding bit_row
length_bit_row sh n q bs e k =
    let m = made_of sh (bit_row n) q (bs, e) k in
    let (xs, f, g) = bind_o_some (as_tuple n m.tree) _ bs m.made in
    length_map_m as_bit xs bs g ∙ length_as_tuple n m.tree xs f

-- RECORDS

module _ (k : Parts) (d : ℕ) (s : List ℕ) where
  pub row_append : (m n p : ℕ) (xs ys : List SValue) → length xs ≡ m → row k d s (m + n) p (xs ++ ys) ≡ bind_o (row k d s m p xs) (λ us. map_o (λ vs. us ++ vs) (row k d s n (skip k d s m p) ys))
  unfolding row skip
  row_append zero n p [] ys h = ap (λ i. row k d s i p ys) (zero-add n) ∙ go (row k d s n p ys)
    where
      go : (o : Option (List Rec)) → o ≡ map_o (λ vs. [] ++ vs) o
      go none = refl
      go (some a) = refl
  row_append zero n p (x ∷ xs) ys h = absurd (omega arith)
  row_append (suc m) n p [] ys h = absurd (omega arith)
  row_append (suc m) n p (x ∷ xs) ys h = ap (λ i. row k d s i p (x ∷ xs ++ ys)) (suc-add m n) ∙ go (part d s p x) (row k d s m (after k d s p) xs) (row k d s n (skip k d s m (after k d s p)) ys) (row k d s (m + n) (after k d s p) (xs ++ ys)) (row_append m n (after k d s p) xs ys (omega arith))
    where
      go : (u v w z : Option (List Rec)) → z ≡ bind_o v (λ us. map_o (λ vs. us ++ vs) w)
          → bind_o u (λ rs. map_o (λ ys. rs ++ ys) z) ≡ bind_o (bind_o u (λ rs. map_o (λ ys. rs ++ ys) v)) (λ us. map_o (λ vs. us ++ vs) w)
      go none v w z h = refl
      go (some y) none w z h = ap (map_o (λ ys. y ++ ys)) h
      go (some y) (some a) none z h = ap (map_o (λ ys. y ++ ys)) h
      go (some y) (some a) (some b) z h = ap (map_o (λ ys. y ++ ys)) h ∙ ap some (sym (append_assoc y a b))

  -- of none any tree is passed over
  pub record NoParts (sh : List ℕ) (q : ℕ) (rs : List Rec) (e : ℕ) : Type 0 where
    pub tree : SValue
    pub there : tree_at sh q ≡ some (tree, e)
    pub empty : rs ≡ []

  pub product_none : (sh : List ℕ) (n p q : ℕ) (rs : List Rec) (e : ℕ) → n ≡ 0 → made_at sh (product k d s n p) q ≡ some (rs, e) → NoParts sh q rs e
  unfolding product row
  product_none sh n p q rs e z h =
      let m = made_of sh (product k d s 0 p) q (rs, e) (rw z at h) in
      record { tree = m.tree; there = m.stood; empty = sym (some-injective [] rs m.made) }

  pub none_product : (sh : List ℕ) (n p q : ℕ) (x : SValue) (e : ℕ) → n ≡ 0 → tree_at sh q ≡ some (x, e) → made_at sh (product k d s n p) q ≡ some ([], e)
  unfolding product row
  none_product sh n p q x e z h = rw z (made_there (record { tree = x; stood = h; made = refl }))

  -- one part
  pub product_one : (sh : List ℕ) (n p q : ℕ) → n ≡ 1 → made_at sh (product k d s n p) q ≡ standing sh d s p q
  unfolding product row standing unfold_tree btree grow
  product_one sh n p q z = rw z (made_same sh (product k d s 1 p) (part d s p) q (λ x. end (part d s p x)))
    where
      end : (o : Option (List Rec)) → bind_o o (λ rs. some (rs ++ [])) ≡ o
      end none = refl
      end (some rs) = ap some (append-nil rs)

  -- two or more
  pub record ProductSides (sh : List ℕ) (n few p q : ℕ) (rs : List Rec) (e : ℕ) : Type 0 where
    pub inside : q < length sh
    pub mid : ℕ
    pub firsts : List Rec
    pub seconds : List Rec
    pub left_parts : made_at sh (product k d s few p) (q + 1) ≡ some (firsts, mid)
    pub right_parts : made_at sh (product k d s (n - few) (skip k d s few p)) mid ≡ some (seconds, e)
    pub all : rs ≡ firsts ++ seconds

  parts_of_sides : {sh : List ℕ} {n p q : ℕ} {rs : List Rec} {e : ℕ} (x : SValue) (xs : List SValue) → 2 ≤ n → tree_at sh q ≡ some (x, e) → Sides (btree_split_index n) (n - btree_split_index n) x xs → row k d s n p xs ≡ some rs → ProductSides sh n (btree_split_index n) p q rs e
  unfolding product
  parts_of_sides {n = n} {p = p} {rs = rs} {e = e} x xs h i v g =
      let l = btree_split_index n in
      let w = split_bounds n h in
      let o : l + (n - l) ≡ n = omega arith in
      let t = pair_at v.first v.second (i ∙ ap (λ x. some (x, e)) v.same) in
      let z : length v.firsts ≡ l = length_as_tuple l v.first v.firsts v.left_parts in
      let (us, a, b) = bind_o_some (row k d s l p v.firsts) _ rs (sym (row_append l (n - l) p v.firsts v.seconds z) ∙ ap₂ (λ i ys. row k d s i p ys) o (sym v.all) ∙ g) in
      let (vs, c, y) = map_o_some _ (row k d s (n - l) (skip k d s l p) v.seconds) rs b in
      record {
        inside = t.inside;
        mid = t.mid;
        firsts = us;
        seconds = vs;
        left_parts = made_there (record { tree = v.first; stood = t.first; made = ap (λ o. bind_o o (λ xs. row k d s l p xs)) v.left_parts ∙ a });
        right_parts = made_there (record { tree = v.second; stood = t.second; made = ap (λ o. bind_o o (λ xs. row k d s (n - l) (skip k d s l p) xs)) v.right_parts ∙ c });
        all = sym y;
      }

  pub product_sides : (sh : List ℕ) (n few p q : ℕ) (rs : List Rec) (e : ℕ) → 2 ≤ n → few ≡ btree_split_index n → made_at sh (product k d s n p) q ≡ some (rs, e) → ProductSides sh n few p q rs e
  unfolding product
  product_sides sh n few p q rs e h i j =
      let m = made_of sh (product k d s n p) q (rs, e) j in
      let (xs, f, g) = bind_o_some (as_tuple n m.tree) _ rs m.made in
      rw i (parts_of_sides m.tree xs h m.stood (sides n m.tree xs h f) g)
