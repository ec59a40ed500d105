use Rattle.sc_weights.proofs.select.+powers_value_by_blocks.Given as goal

abbrev pub decreases-powers_value_by_blocks : goal.decreases-powers_value_by_blocks
decreases-powers_value_by_blocks g l = l.halvings
