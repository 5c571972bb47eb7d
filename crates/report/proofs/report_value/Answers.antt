-- `report::report_value` meets its contract. Each answer is one law: a value that is refused, and the three lines of what is accepted. Assumes nothing.
use Rattle.std.proofs.Common.{refl, arith}
use Rattle.delivery.specs.Tables.{widths_long, measured_given}
use Rattle.report.specs.Laws.{refusal_written, bad_value, accepted, text_short, text_counts}
use Rattle.report.proofs.report_value.Goals as goal

pub check_file-requires : goal.check_file-requires
check_file-requires c = measured_given c.requires.measured

pub write_refused-requires : goal.write_refused-requires
write_refused-requires c = let room = c.requires.printable.room in omega arith

pub write_accepted-requires : goal.write_accepted-requires
write_accepted-requires c =
    let asked = c.requires in
    record {
      accepted = accepted _ _ asked.printable.short_type asked.printable.short_value asked.measured.tabled refl c.check_file.ensures c.in-Ok.is (widths_long asked.measured);
      in_bounds = asked.printable.room;
    }

pub returns-in-Err : goal.returns-in-Err
returns-in-Err c =
    let asked = c.requires in
    refusal_written _ _ c.in-Err.why (bad_value _ _ asked.printable.short_type asked.printable.short_value asked.measured.tabled refl c.check_file.ensures c.in-Err.is) asked.printable.room c.write_refused.ensures

pub returns-in-Ok : goal.returns-in-Ok
returns-in-Ok c =
    let asked = c.requires in
    let a = accepted _ _ asked.printable.short_type asked.printable.short_value asked.measured.tabled refl c.check_file.ensures c.in-Ok.is (widths_long asked.measured) in
    text_counts _ _ (omega (arith, text_short a, asked.printable.room)) c.write_accepted.ensures
