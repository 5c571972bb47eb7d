-- The front of the buffer is the name's copy. Assumes nothing.
use Rattle.std.proofs.Common.{refl, ap, ◌++◌, drop, length}
use Rattle.structural.specs.Writing.{put}
use Rattle.text.proofs.write_name.Goals as goal

pub returns : goal.returns
unfolding put
returns c = record { len = refl; out = ap (λ l. l ++ drop (length c.args.name.now) c.args.out.now) c.copy_from_slice.ensures.after }
