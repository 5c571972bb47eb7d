-- The library's digits are those of the line. Assumes nothing.
use Rattle.std.proofs.Common.{◌≡◌, sym, ap, ◌∙◌, arith, length}
use Rattle.text.specs.Lines.{decimal}
use Rattle.structural.proofs.Laws.Writing.{wrote_as}
use Rattle.text.proofs.Laws.Decimal.{printed_is}
use Rattle.text.proofs.write_decimal.Goals as goal

pub write_name-requires : goal.write_name-requires
write_name-requires c =
    let e : c.as_bytes.result.now ≡ decimal c.args.n = c.as_bytes.ensures.value ∙ c.format.ensures.text ∙ printed_is c.args.n c.ranges.n.fits in
    omega (arith, ap length e)

pub returns : goal.returns
returns c =
    let e : c.as_bytes.result.now ≡ decimal c.args.n = c.as_bytes.ensures.value ∙ c.format.ensures.text ∙ printed_is c.args.n c.ranges.n.fits in
    wrote_as (sym e) c.write_name.ensures
