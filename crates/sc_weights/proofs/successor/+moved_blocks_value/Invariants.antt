use Rattle.std.proofs.Common.{length}
use Rattle.sc_weights.proofs.successor.+moved_blocks_value.Given as goal

abbrev pub decreases-moved_blocks_value : goal.decreases-moved_blocks_value
decreases-moved_blocks_value g l = length l.outer.now
