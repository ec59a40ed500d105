use Rattle.std.proofs.Common.{length}
use Rattle.sc_weights.proofs.successor.+moved_down_value.Given as goal

abbrev pub decreases-moved_down_value : goal.decreases-moved_down_value
decreases-moved_down_value g l = length l.point.now
