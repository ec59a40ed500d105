use Rattle.std.proofs.Common.{length}
use Rattle.sc_weights.proofs.successor.+add_moved_blocks.Given as goal

abbrev pub decreases-add_moved_blocks : goal.decreases-add_moved_blocks
decreases-add_moved_blocks g l = length l.outer.now
