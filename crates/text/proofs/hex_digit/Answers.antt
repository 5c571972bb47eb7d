-- The test decides which digit it is. Assumes nothing.
use borrow.Author.Rules.{rules}
use Rattle.text.proofs.Laws.Contents.{low_digit, high_digit}
use Rattle.text.proofs.hex_digit.Goals as goal

pub returns-then-d-lt10 : goal.returns-then-d-lt10
returns-then-d-lt10 c = search (low_digit, rules)

pub returns-else-d-lt10 : goal.returns-else-d-lt10
returns-else-d-lt10 c = search (high_digit, rules)
