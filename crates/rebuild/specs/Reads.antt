-- Reading a shape file in lock step with a type (01, 'Value file'), over places: each reader tells the place after what it read,
-- the number of value records and the surplus, or that it cannot be read. The surplus is the shape's records beyond one at the spots of R-5.
use Rattle.std.specs.Prelude.{List, ℕ, ◌+◌, ◌-◌, Option, Some, None}
use Rattle.model.specs.Types.{Ty}
use Rattle.rebuild.specs.declared.Read.{Read}
use Rattle.rebuild.specs.Kinds.{Readers, reads}
use Rattle.rebuild.specs.Places.{Answers, at_places}

abbrev pub Reader : Type 0
Reader = ℕ → Option Read

-- so much was read, up to e
abbrev pub read_to : ℕ → ℕ → ℕ → Option Read
read_to e n k = Some (record { next = e; records = n; surplus = k })

-- n records more, and k more of surplus
abbrev pub plus : ℕ → ℕ → Option Read → Option Read
plus n k (Some r) = read_to r.next (n + r.records) (k + r.surplus)
plus n k None = None

-- what was read, and then what stands behind it
abbrev pub next : Option Read → Reader → Option Read
next (Some x) r = plus x.records x.surplus (r x.next)
next None r = None

-- what they answer: of a tree that is not looked into all but the first record is surplus
unfoldable pub counts : Answers (Option Read)
counts = record { nothing = None; unit = λ e. read_to e 0 0; lefts = λ r. r; rights = λ r. r; pairs = next; tree = λ p e. read_to e 0 (e - (p + 1)); one = plus 1 0 }

-- the readers that count
unfoldable pub reader : List ℕ → Readers Reader
reader s = at_places counts s

-- the two numbers alone
abbrev pub records_in : Option Read → Option (ℕ × ℕ)
records_in (Some r) = Some (r.records, r.surplus)
records_in None = None

-- the number of records of the value that reading a shape file gives, and the file's surplus
unfoldable pub value_records : Ty → List ℕ → Option (ℕ × ℕ)
value_records t s = records_in (reads (reader s) t 0)
