-- The copiers follow the walk that cleans: of a shape that can be read they tell the cleaned shape and the end.
use Rattle.std.specs.Prelude.{◌≡◌, refl, List, ℕ, ◌+◌, length}
use Rattle.std.proofs.Common.{ap, ◌∙◌}
use Rattle.std.proofs.Math.Option.{Option, none, some}
use Rattle.model.specs.Outcome.{done}
use Rattle.model.specs.Options.{map_o}
use Rattle.model.specs.Structural.{SValue, unit, left, right, pair}
use Rattle.model.specs.Types.{Ty}
use Rattle.model.specs.Values.{Value}
use Rattle.model.specs.Reconstruct.{reconstruct}
use Rattle.model.specs.ValueFiles.{encode}
use Rattle.model.specs.ShapeFiles.{shape_of}
use Rattle.model.specs.Spots.{in_sum, cleaning, cleaned}
use Rattle.told.specs.Forms.{Told}
use Rattle.told.specs.Laws.Trees.{paired, joined}
use Rattle.told.specs.Laws.Lists.{tagged}
use Rattle.rebuild.specs.Laws.Places.{plus_o, Follows}
use Rattle.rebuild.specs.Laws.Answers.{Agrees, follows}
use Rattle.rebuild.specs.Laws.Model.{file_same}
use Rattle.shape_clean.specs.Copies.{Copier, copied, copier, copies}

-- of what is counted only whether it is there matters
abbrev answer : ℕ → Option ℕ → SValue → Told
answer e none y = none
answer e (some n) y = some (y, e)

tagged_told : (f : SValue → SValue) (e : ℕ) (o : Option ℕ) (y : SValue) → tagged f (answer e o y) ≡ answer e o (f y)
tagged_told f e none y = refl
tagged_told f e (some n) y = refl

joined_told : (r : Copier) (m e : ℕ) (u v : Option ℕ) (i j : SValue) → r m ≡ answer e v j → joined (answer m u i) r ≡ answer e (plus_o u v) (pair i j)
joined_told r m e none v i j h = refl
joined_told r m e (some n) none i j h = ap (map_o (paired i)) h
joined_told r m e (some n) (some k) i j h = ap (map_o (paired i)) h

one_told : (e : ℕ) (o : Option ℕ) (y : SValue) → answer e o y ≡ answer e (map_o (λ n. 1 + n) o) y
one_told e none y = refl
one_told e (some n) y = refl

bit_made : (x : SValue) → in_sum cleaning (λ x. x) (λ x. x) x ≡ x
bit_made unit = refl
bit_made (left x) = refl
bit_made (right x) = refl
bit_made (pair x y) = refl

copied_agrees : Agrees answer copied cleaning
unfolding copied
copied_agrees = record {
  nothing = λ e y. refl;
  unit = λ e. refl;
  lefts = tagged_told left;
  rights = tagged_told right;
  pairs = joined_told;
  tree = λ p x. refl;
  one = one_told;
  bit = bit_made;
}

copier_follows : (s : List ℕ) → Follows answer s (copier s) cleaning
unfolding copier
copier_follows s = follows answer copied_agrees s

-- for a file that says the shape x and gives the value v, what is copied is the cleaned shape, and all of the file
pub copies_cleaned : (t : Ty) (s : List ℕ) (x : SValue) (v : Value t) → shape_of s ≡ done x → reconstruct t x ≡ some v → copies s t ≡ some (cleaned t x, length s)
unfolding copies
copies_cleaned t s x v h g = file_same answer s (copier_follows s) t x h ∙ ap (λ o. answer (length s) (map_o (λ w. length (encode t w)) o) (cleaned t x)) g
