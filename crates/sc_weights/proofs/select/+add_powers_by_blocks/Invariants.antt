use Rattle.sc_weights.proofs.select.+add_powers_by_blocks.Given as goal

abbrev pub decreases-add_powers_by_blocks : goal.decreases-add_powers_by_blocks
decreases-add_powers_by_blocks g l = l.halvings
