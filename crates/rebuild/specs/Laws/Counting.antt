-- The readers that count follow the walk that counts the surplus: they answer the end of the shape that stands at a place, what is counted of it, and its surplus.
use Rattle.std.specs.Prelude.{◌≡◌, refl, List, ℕ, ◌+◌, ◌-◌, length, Option as Optional, None}
use Rattle.std.proofs.Common.{ap, zero-add, arith}
use Rattle.std.proofs.Math.Option.{Option, none, some}
use Rattle.model.specs.Options.{map_o}
use Rattle.model.specs.Structural.{SValue, unit, left, right, pair, shape_records}
use Rattle.model.specs.Spots.{in_sum}
use Rattle.model.proofs.Laws.Spots.{counting}
use Rattle.rebuild.specs.declared.Read.{Read}
use Rattle.rebuild.specs.Reads.{Reader, read_to, plus, next, counts, reader}
use Rattle.rebuild.specs.Laws.Places.{plus_o, Follows}
use Rattle.rebuild.specs.Laws.Answers.{Agrees, follows}

abbrev pub answer : ℕ → Option ℕ → ℕ → Optional Read
answer e none k = None
answer e (some n) k = read_to e n k

next_told : (r : Reader) (m e : ℕ) (u v : Option ℕ) (i j : ℕ) → r m ≡ answer e v j → next (answer m u i) r ≡ answer e (plus_o u v) (i + j)
next_told r m e none v i j h = refl
next_told r m e (some n) none i j h = ap (plus n i) h
next_told r m e (some n) (some k) i j h = ap (plus n i) h

one_told : (e : ℕ) (u : Option ℕ) (k : ℕ) → plus 1 0 (answer e u k) ≡ answer e (map_o (λ n. 1 + n) u) k
one_told e none k = refl
one_told e (some n) k = ap (read_to e (1 + n)) (zero-add k)

tree_told : (p n : ℕ) → read_to (p + n) 0 (p + n - (p + 1)) ≡ read_to (p + n) 0 (n - 1)
tree_told p n = ap (read_to (p + n) 0) (omega arith)

bit_weight : (x : SValue) → in_sum counting (λ x. 0) (λ x. 0) x ≡ 0
bit_weight unit = refl
bit_weight (left x) = refl
bit_weight (right x) = refl
bit_weight (pair x y) = refl

counts_agree : Agrees answer counts counting
unfolding counts
counts_agree = record {
  nothing = λ e k. refl;
  unit = λ e. refl;
  lefts = λ e o k. refl;
  rights = λ e o k. refl;
  pairs = next_told;
  tree = λ p x. tree_told p (length (shape_records x));
  one = one_told;
  bit = bit_weight;
}

pub reader_follows : (s : List ℕ) → Follows answer s (reader s) counting
unfolding reader
reader_follows s = follows answer counts_agree s
