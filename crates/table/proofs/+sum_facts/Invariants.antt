use Rattle.table.proofs.+sum_facts.Given as goal

abbrev pub decreases-sum_facts : goal.decreases-sum_facts
decreases-sum_facts l = l.n
