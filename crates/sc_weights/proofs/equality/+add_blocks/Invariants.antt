use Rattle.std.proofs.Common.{length}
use Rattle.sc_weights.proofs.equality.+add_blocks.Given as goal

abbrev pub decreases-add_blocks : goal.decreases-add_blocks
decreases-add_blocks g l = length l.outer.now
