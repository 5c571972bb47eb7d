-- Laws of the columns of a table (`Entries` of specs/): what stands at an entry, and what one entry that is put down does to each column.
use Rattle.std.specs.Prelude.{◌≡◌, List, ℕ, get_or, set}
use Rattle.std.proofs.Common.{sym}
use Rattle.std.proofs.Math.ListN.{get_or-map}
use Rattle.std.proofs.Math.Seq.{map-set_same}
use Rattle.std.proofs.lemmas.List.{map-set}
use Rattle.types.specs.declared.entry.Entry.{Entry}
use Rattle.types.specs.Entries.{no_entry, ends, sizes, widths}

pub ends_at : (t : List Entry) (i : ℕ) → (get_or t i no_entry).end ≡ get_or (ends t) i 0
unfolding ends
ends_at t i = sym (get_or-map _ t i no_entry)

pub sizes_at : (t : List Entry) (i : ℕ) → (get_or t i no_entry).size ≡ get_or (sizes t) i 0
unfolding sizes
sizes_at t i = sym (get_or-map _ t i no_entry)

pub widths_at : (t : List Entry) (i : ℕ) → (get_or t i no_entry).width ≡ get_or (widths t) i 0
unfolding widths
widths_at t i = sym (get_or-map _ t i no_entry)

pub ends_set : (t : List Entry) (i : ℕ) (e : Entry) → ends (set t i e) ≡ set (ends t) i e.end
unfolding ends
ends_set t i e = map-set _ t i e

pub sizes_set : (t : List Entry) (i : ℕ) (e : Entry) → sizes (set t i e) ≡ set (sizes t) i e.size
unfolding sizes
sizes_set t i e = map-set _ t i e

pub widths_set : (t : List Entry) (i : ℕ) (e : Entry) → widths (set t i e) ≡ set (widths t) i e.width
unfolding widths
widths_set t i e = map-set _ t i e

pub ends_same : (t : List Entry) (i : ℕ) (e : Entry) → e.end ≡ (get_or t i no_entry).end → ends (set t i e) ≡ ends t
unfolding ends
ends_same t i e h = map-set_same _ t i e no_entry h

pub sizes_same : (t : List Entry) (i : ℕ) (e : Entry) → e.size ≡ (get_or t i no_entry).size → sizes (set t i e) ≡ sizes t
unfolding sizes
sizes_same t i e h = map-set_same _ t i e no_entry h

pub widths_same : (t : List Entry) (i : ℕ) (e : Entry) → e.width ≡ (get_or t i no_entry).width → widths (set t i e) ≡ widths t
unfolding widths
widths_same t i e h = map-set_same _ t i e no_entry h
