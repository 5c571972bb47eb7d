-- The check tells whether the file says a value, and where it does, the writer has room for its bits. Each answer is one law of `Seeks`. Assumes nothing.
use Rattle.structural.proofs.Laws.Forms.{stands}
use Rattle.search.specs.Laws.Seeks.{seek_none, seek_fitted, seek_said}
use Rattle.search.proofs.seek.Goals as goal

pub write_record-requires : goal.write_record-requires
write_record-requires c = record { stands = stands c.requires.given; wide = c.requires.wide; fitted = seek_fitted c.requires.given _ c.check_part.ensures c.in-Ok.is c.requires.wide _ c.told-bits }

pub returns-in-Err : goal.returns-in-Err
returns-in-Err c = seek_none c.requires.given _ c.check_part.ensures c.in-Err.is

pub returns-in-Ok : goal.returns-in-Ok
returns-in-Ok c = seek_said c.requires.given _ c.check_part.ensures c.in-Ok.is c.write_record.ensures
