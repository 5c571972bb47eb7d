use Rattle.table.specs.Steps.{small_of, share_left, share_sub, share_right}
use Rattle.table.proofs.+sum_facts.Goals as goal

pub sum_facts-q-requires : goal.sum_facts-q-requires
sum_facts-q-requires t c = share_left _ _ _ c.decreases c.if-n-eq1.false c.requires.0 c.requires.1 c.btree_split_index-h.ensures

pub overflow_sub-n : goal.overflow_sub-n
overflow_sub-n t c = share_sub _ _ t c.if-n-eq1.false c.requires.0 c.btree_split_index-h.ensures

pub sum_facts-next-requires : goal.sum_facts-next-requires
sum_facts-next-requires t c = share_right _ _ _ c.decreases c.if-n-eq1.false c.requires.0 c.requires.1 c.btree_split_index-h.ensures

pub sum_of-requires : goal.sum_of-requires
sum_of-requires t c = (small_of _ _ _ _ _ _ c.sum_facts-q.ensures, small_of _ _ _ _ _ _ c.sum_facts-next.ensures)
