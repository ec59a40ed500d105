use Rattle.std.proofs.Common.{length}
use Rattle.sc_weights.proofs.successor.+add_moved_up.Given as goal

abbrev pub decreases-add_moved_up : goal.decreases-add_moved_up
decreases-add_moved_up g l = length l.point.now
