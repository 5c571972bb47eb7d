-- The bits that are told are those of the type's frame, of at most 4,096 bytes.
use Rattle.std.proofs.Common.{◌≡◌, rules}
use Rattle.reply.specs.Numbers.{room_of}
use Rattle.finder.specs.Laws.{told_size}
use Rattle.finder.proofs.frame_size.Goals as goal

pub returns : goal.returns
returns c =
    let e : c.unwrap_or_default.result ≡ room_of c.room.result = search rules in
    rw (c.div_ceil.ensures, e) (told_size _ _ c.room.ensures)
