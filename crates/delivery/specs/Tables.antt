-- What an operation is given of a type file that was read: its table of entries, as the laws of the operations ask for it; or what refuses the file.
use Rattle.std.specs.Prelude.{◌≡◌, refl, false, [], List, ℕ, ◌≤◌, length, Result, Ok, Err, MatchResult}
use Rattle.std.proofs.Common.{subst, arith}
use Rattle.reply.specs.declared.Refusal.{Refusal}
use Rattle.types.specs.declared.entry.Entry.{Entry}
use Rattle.types.specs.declared.places.Table.{Table}
use Rattle.types.specs.Entries.{ends, sizes, widths, sizes_length, widths_length}
use Rattle.types.specs.Steps.{Given}
use Rattle.types.specs.Table.{Checked}
use Rattle.table.specs.Tabled.{Tabled}
use Rattle.told.specs.Widths.{Wide}
use Rattle.accept.specs.Answers.{Lowered}
use Rattle.delivery.specs.Lowers.{lower_given}
use Rattle.delivery.specs.Frames.{frame_wide}
use Rattle.delivery.specs.Unframes.{unframe_lowers}

-- none of rows 1 to 5 holds of the type file, and the table has its ends
pub record IsRead (ty : List ℕ) (table : List Entry) : Type 0 where
  pub records : ℕ
  pub checked : Checked ty (Ok records) (ends table)

-- nor of rows 6 and 7, and the table has its sizes and widths
pub record IsMeasured (ty : List ℕ) (table : List Entry) : Type 0 where
  pub records : ℕ
  pub tabled : Tabled ty (Ok records) (ends table) (sizes table) (widths table)
  pub long : 1024 ≤ length table

-- what reading a type file gave where it need not lower: the table of this very file, or the row of 1 to 5 that refuses it
abbrev pub TypeRead : List ℕ → Result Table Refusal → Type 0
TypeRead ty read = MatchResult read (λ table. (table.ty.now ≡ ty) × IsRead ty table.entries.now) (λ x. Checked ty (Err x) [])

-- and where it is to lower: the row of 1 to 7
abbrev pub TypeMeasured : List ℕ → Result Table Refusal → Type 0
TypeMeasured ty read = MatchResult read (λ table. (table.ty.now ≡ ty) × IsMeasured ty table.entries.now) (λ x. Tabled ty (Err x) [] [] [])

-- where the file is refused
module _ {ty : List ℕ} {read : Result Table Refusal} {x : Refusal} (e : read ≡ Err x) where
  pub read_not : TypeRead ty read → Checked ty (Err x) []
  read_not = subst (λ (r : Result Table Refusal). TypeRead ty r) e

  pub measured_not : TypeMeasured ty read → Tabled ty (Err x) [] [] []
  measured_not = subst (λ (r : Result Table Refusal). TypeMeasured ty r) e

module _ {ty : List ℕ} {table : List Entry} (m : IsMeasured ty table) where
  pub sizes_long : 1024 ≤ length (sizes table)
  sizes_long = let l = m.long in omega (arith, sizes_length table)

  pub widths_long : 1024 ≤ length (widths table)
  widths_long = let l = m.long in omega (arith, widths_length table)

  pub measured_given : Given 32 false ty (ends table) 0
  measured_given = lower_given m.tabled refl

  pub measured_wide : Wide ty (ends table) (widths table)
  measured_wide = frame_wide m.tabled refl widths_long

  pub measured_lowers : Lowered ty
  measured_lowers = unframe_lowers m.tabled refl
