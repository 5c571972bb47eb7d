-- `report::report_type` meets its contract: a type that is refused, and what is written of one that lowers. Assumes nothing.
use Rattle.std.proofs.Common.{arith}
use Rattle.report.specs.Laws.{refusal_written, bad_type}
use Rattle.report.proofs.report_type.Goals as goal

pub write_refused-requires : goal.write_refused-requires
write_refused-requires c = let room = c.requires.room in omega arith

pub returns-in-Err : goal.returns-in-Err
returns-in-Err c = refusal_written _ _ c.in-Err.x (bad_type _ _ c.requires.short_type c.requires.short_value c.tabulate.ensures c.in-Err.is) c.requires.room c.write_refused.ensures
