-- What the table holds of a record, computed from the entries of its children: sizes and widths cut at 65,537.
use Rattle.std.specs.Prelude.{◌≡◌, List, ℕ, zero, suc, ◌+◌, ◌-◌, ◌*◌, ◌≤◌, min, max, Bool, get_or, eqb, Ok}
use Rattle.model.specs.Options.{pick}
use Rattle.model.specs.Balanced.{BTree, leaf, fork, btree}
use Rattle.model.specs.Structural.{SType}
use Rattle.num.specs.Powers.{bound_log2}
use Rattle.types.specs.declared.Head.{Head}
use Rattle.types.specs.declared.Head.TheVariants.{Missing, Faulty, Never, Boolean, UInt, Either, Opt, Tuple, Array, Listed, Variants, Payload}
use Rattle.model.specs.Frames.{width}
use Rattle.model.proofs.Laws.Sizes.{nodes}
use Rattle.types.specs.Walks.{walk}
use Rattle.types.specs.Lows.{low}
use Rattle.table.specs.declared.Facts as facts

-- one more than a lowered type may have
abbrev pub limit : ℕ
limit = 65537

abbrev pub cut : ℕ → ℕ
cut n = min n limit

-- entry i of a column, cut; 0 past its end
abbrev pub entry : List ℕ → ℕ → ℕ
entry column i = cut (get_or column i 0)

-- the size and the width of record i, cut
abbrev pub cut_entry : List ℕ → List ℕ → ℕ → facts.Facts
cut_entry S W i = record { size = entry S i; width = entry W i }

-- the entries of n records one after the other, added up
unfoldable pub sums : List ℕ → List ℕ → List ℕ → ℕ → ℕ → ℕ → ℕ → facts.Facts
sums E S W zero p a b = record { size = a; width = b }
sums E S W (suc n) p a b = sums E S W n (get_or E p 0) (cut (a + entry S p)) (cut (b + entry W p))

-- of a sum of two
abbrev pub sum : facts.Facts → facts.Facts → facts.Facts
sum a b = record { size = cut (a.size + b.size + 1); width = cut (max a.width b.width + 1) }

-- the place after what stands one after the other, and the facts of its balanced sum
unfoldable pub sum_facts : BTree → List ℕ → List ℕ → List ℕ → ℕ → ℕ × facts.Facts
sum_facts leaf E S W p = (get_or E p 0, cut_entry S W p)
sum_facts (fork l r) E S W p =
    let x = sum_facts l E S W p in
    let y = sum_facts r E S W x.0 in
    (y.0, sum x.1 y.1)

-- of a product of n parts whose entries add up to f
unfoldable pub product : facts.Facts → ℕ → facts.Facts
product f n = pick (eqb n 0) (record { size = 1; width = 0 }) (record { size = cut (f.size + (n - 1)); width = f.width })

-- of a UInt of w bits
abbrev pub uint_facts : ℕ → facts.Facts
uint_facts w = record { size = 4 * w - 1; width = w }

-- of an Either whose two types stand from p on
abbrev pub either_facts : List ℕ → List ℕ → List ℕ → ℕ → facts.Facts
either_facts E S W p = sum (cut_entry S W p) (cut_entry S W (get_or E p 0))

-- of an Option whose type stands at p
abbrev pub option_facts : List ℕ → List ℕ → ℕ → facts.Facts
option_facts S W p = record { size = cut (entry S p + 2); width = cut (entry W p + 1) }

-- of an Array of n whose type stands at p
abbrev pub array_facts : List ℕ → List ℕ → ℕ → ℕ → facts.Facts
array_facts S W n p = product (record { size = cut (n * entry S p); width = cut (n * entry W p) }) n

-- of a List with the bound b whose type stands at p
abbrev pub list_facts : List ℕ → List ℕ → ℕ → ℕ → facts.Facts
list_facts S W b p =
    let m = b - 1 in
    let l = bound_log2 b in
    record { size = cut (cut (m * entry S p) + (m + 2 * l - 1)); width = cut (cut (m * entry W p) + l) }

-- of an Enum whose n Variants stand from p on
abbrev pub enum_facts : List ℕ → List ℕ → List ℕ → ℕ → ℕ → facts.Facts
enum_facts E S W n p = (sum_facts (btree n) E S W p).1

-- of a record that says this, from the entries of its children, the first of which stands at p
unfoldable pub facts_of : Head → List ℕ → List ℕ → List ℕ → ℕ → facts.Facts
facts_of Missing E S W p = record { size = 1; width = 0 }
facts_of Faulty E S W p = record { size = 1; width = 0 }
facts_of Never E S W p = record { size = 1; width = 0 }
facts_of Boolean E S W p = record { size = 3; width = 1 }
facts_of (UInt w) E S W p = uint_facts w.value
facts_of Either E S W p = either_facts E S W p
facts_of Opt E S W p = option_facts S W p
facts_of (Tuple n) E S W p = product (sums E S W n p 0 0) n
facts_of (Array n) E S W p = array_facts S W n p
facts_of (Listed b) E S W p = list_facts S W b.value p
facts_of (Variants n) E S W p = enum_facts E S W n p
facts_of (Payload n) E S W p = product (sums E S W n p 0 0) n

-- what is true of a lowered type, cut
abbrev pub facts_true : SType → facts.Facts
facts_true t = record { size = cut (nodes t); width = cut (Rattle.model.specs.Frames.width t) }

-- from record a on the table says what stands at each record
pub record Measured (s S W : List ℕ) (a : ℕ) : Type 0 where
  pub size : (i d e : ℕ) (v : Bool) → a ≤ i → walk d v s i ≡ Ok e → get_or S i 0 ≡ cut (nodes (low d v s i))
  pub width : (i d e : ℕ) (v : Bool) → a ≤ i → walk d v s i ≡ Ok e → get_or W i 0 ≡ cut (Rattle.model.specs.Frames.width (low d v s i))
