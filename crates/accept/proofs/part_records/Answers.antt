-- The walk answers a number of records, since there is a value and its records are few. Assumes nothing.
use Rattle.accept.specs.Laws.Answers.{part_some, part_counted}
use Rattle.accept.proofs.part_records.Goals as goal

pub unwrap-requires : goal.unwrap-requires
unwrap-requires c = part_some _ _ c.requires.counted c.see_record.ensures

pub returns : goal.returns
returns c = part_counted _ _ c.requires.counted c.see_record.ensures _ c.unwrap.ensures
