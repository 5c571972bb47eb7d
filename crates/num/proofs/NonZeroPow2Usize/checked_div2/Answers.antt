-- Each answer is what the half's number is admitted as.
use Rattle.num.specs.Laws.{half_none, half_some}
use Rattle.num.proofs.NonZeroPow2Usize.checked_div2.Goals as goal

pub returns-then-half-lt2 : goal.returns-then-half-lt2
returns-then-half-lt2 c = half_none c.args.self c.if-half-lt2.true

pub returns : goal.returns
returns c = half_some c.args.self _
