-- `report::report` meets its contract. Each answer is one law: a file that is too long, or what `report_type` wrote of two files that are not. Assumes nothing.
use Rattle.std.proofs.Common.{arith, ◌≡◌}
use Rattle.reply.specs.declared.Refusal.TheVariants.{NoRoom}
use Rattle.reply.specs.Numbers.{refusal_number}
use Rattle.text.specs.Lines.{refusal_line}
use Rattle.report.specs.Job.{job_text}
use Rattle.report.specs.Laws.{refusal_written, long_type, long_value}
use Rattle.report.proofs.report.Goals.{then-ty-gt-MOST-via-then-ty-gt-MOST, then-ty-gt-MOST-via-else-ty-gt-MOST+then-val-gt-MOST}
use Rattle.report.proofs.report.Goals as goal

pub returns-then-ty-gt-MOST : goal.returns-then-ty-gt-MOST
returns-then-ty-gt-MOST c =
    let long : job_text c.args.ty.now c.args.val.now ≡ refusal_line (refusal_number NoRoom) =
    elim c.then-ty-gt-MOST.branch [
      | then-ty-gt-MOST-via-then-ty-gt-MOST w ↦ long_type _ _ w.if-ty-gt-MOST.true
      | then-ty-gt-MOST-via-else-ty-gt-MOST+then-val-gt-MOST w ↦ long_value _ _ w.if-ty-gt-MOST.false w.if-val-gt-MOST.true
    ] in
    let r = refusal_written _ _ NoRoom long c.requires c.write_refused.ensures in
    record { wrote = r.wrote; prefix_len = r.counts }

pub report_type-requires : goal.report_type-requires
report_type-requires c = record { short_type = c.if-ty-gt-MOST.false; short_value = c.if-val-gt-MOST.false; room = c.requires }

pub returns : goal.returns
returns c = record { wrote = c.report_type.ensures.wrote; prefix_len = c.report_type.ensures.counts }
