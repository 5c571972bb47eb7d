-- What `accept` answers tells whether the frame is a value's. Assumes nothing.
use Rattle.search.specs.Laws.Looks.{accepted_told}
use Rattle.search.proofs.is_accepted.Goals as goal

pub returns : goal.returns
returns c = accepted_told c.requires.lowered c.requires.given c.requires.wide c.type_is_bytes.ensures _ (λ i. (c.type_inv.frame i).fits) c.accept.result c.accept.ensures c.is_ok.ensures.value
