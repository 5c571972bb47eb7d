use Rattle.std.specs.Prelude.{◌≡◌, get_or, Option, Some, None, ℕ}
use Rattle.std.proofs.Common.{ap, ap₂, ◌∙◌, le_refl}
use Rattle.std.specs.Option.{UnwrapsOrElse, unwrap_or}
use Rattle.types.specs.declared.entry.Entry.{Entry}
use Rattle.types.specs.Entries.{no_entry}
use Rattle.types.proofs.Entries.{ends_at, sizes_at, widths_at}
use Rattle.types.specs.contracts.entry.EntryDefault.TheImpl.{is_default-value}
use Rattle.table.specs.declared.Facts as facts
use Rattle.table.specs.Facts.{cut}
use Rattle.table.specs.Sums.{same_facts}
use Rattle.table.proofs.entry_at.Goals as goal

found : (r : Option Entry) (e : Entry) → UnwrapsOrElse r is_default-value.it e → e ≡ unwrap_or r no_entry
found None e h = λ i. record { end = h.0 i; size = h.1.0 i; width = h.1.1 i }
found (Some x) e h = h

pub returns : goal.returns
returns c =
    let e : c.unwrap_or_default-e.result ≡ get_or c.args.entries.now c.args.i no_entry =
    found _ _ c.unwrap_or_default-e.ensures ∙ ap (λ r. unwrap_or r no_entry) c.copied.ensures ∙ c.get.ensures.lookup.4 (le_refl _) no_entry in
    ap₂ {C = ℕ × facts.Facts} (λ n f. (n, f)) (ap (λ (e : Entry). e.end) e ∙ ends_at _ _)
    (same_facts (c.cut_off-size.ensures ∙ ap (λ (e : Entry). cut e.size) e ∙ ap cut (sizes_at _ _)) (c.cut_off-width.ensures ∙ ap (λ (e : Entry). cut e.width) e ∙ ap cut (widths_at _ _)))
