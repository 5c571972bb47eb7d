-- Each line fits 27 bytes.
use Rattle.std.proofs.Common.{rules}
use Rattle.finder.specs.Laws.{found_counts, refused_counts}
use Rattle.finder.proofs.say.Goals as goal

pub returns-in-Ok-Some-clause-prefix_len : goal.returns-in-Ok-Some-clause-prefix_len
returns-in-Ok-Some-clause-prefix_len c = found_counts c.requires (search rules) c.write_found.ensures

pub returns-in-Err-clause-prefix_len : goal.returns-in-Err-clause-prefix_len
returns-in-Err-clause-prefix_len c = refused_counts c.in-Err.x c.requires c.write_refused.ensures
