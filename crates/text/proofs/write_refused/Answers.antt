-- It is the line of that name and number, which is short. Assumes nothing.
use Rattle.std.proofs.Common.{◌≤◌, arith, length}
use Rattle.reply.specs.Numbers.{refusal_number}
use Rattle.text.specs.Lines.{refused_name, short_line, refusal_line}
use Rattle.text.proofs.Laws.Refusals.{refusal_room, refused_as}
use Rattle.text.proofs.write_refused.Goals as goal

pub write_short-requires : goal.write_short-requires
unfolding refusal_line short_line
write_short-requires c =
    let f : length (short_line refused_name (refusal_number c.args.x)) ≤ 12 = refusal_room c.args.x in
    let enough = c.requires in
    rw c.from.ensures (omega arith)

pub returns : goal.returns
unfolding refusal_line short_line
returns c = refused_as c.from.ensures c.write_short.ensures
