-- The columns of a table: the ends, the sizes and the widths of its entries.
use Rattle.std.specs.Prelude.{◌≡◌, List, ℕ, map, length}
use Rattle.std.proofs.lemmas.List.{length-map}
use Rattle.types.specs.declared.entry.Entry.{Entry}

abbrev pub no_entry : Entry
no_entry = record { end = 0; size = 0; width = 0 }

unfoldable pub ends : List Entry → List ℕ
ends t = map (λ (e : Entry). e.end) t

unfoldable pub sizes : List Entry → List ℕ
sizes t = map (λ (e : Entry). e.size) t

unfoldable pub widths : List Entry → List ℕ
widths t = map (λ (e : Entry). e.width) t

pub ends_length : (t : List Entry) → length (ends t) ≡ length t
unfolding ends
ends_length t = length-map t _

pub sizes_length : (t : List Entry) → length (sizes t) ≡ length t
unfolding sizes
sizes_length t = length-map t _

pub widths_length : (t : List Entry) → length (widths t) ≡ length t
unfolding widths
widths_length t = length-map t _
