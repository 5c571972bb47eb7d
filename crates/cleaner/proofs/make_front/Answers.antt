-- Where the entry gives a shape, it stands in the buffer; where it refuses, the buffer is as it was, with room for the line.
use Rattle.cleaner.specs.Laws.{made_shape, shape_counts, made_line, line_counts}
use Rattle.cleaner.proofs.make_front.Goals as goal

pub returns-in-Ok-clause-cleaned : goal.returns-in-Ok-clause-cleaned
returns-in-Ok-clause-cleaned c = made_shape _ _ _ _ _ c.requires c.clean_shape.ensures _ c.in-Ok.is

pub returns-in-Ok-clause-prefix_len : goal.returns-in-Ok-clause-prefix_len
returns-in-Ok-clause-prefix_len c = shape_counts _ _ _ _ _ c.requires c.clean_shape.ensures _ c.in-Ok.is

pub returns-in-Err-clause-refused : goal.returns-in-Err-clause-refused
returns-in-Err-clause-refused c = made_line _ _ _ _ _ c.requires c.clean_shape.ensures _ c.in-Err.is _ _ c.write_refused.ensures

pub returns-in-Err-clause-prefix_len : goal.returns-in-Err-clause-prefix_len
returns-in-Err-clause-prefix_len c = line_counts _ _ _ _ _ c.requires c.clean_shape.ensures _ c.in-Err.is _ _ c.write_refused.ensures
