use Rattle.std.proofs.Common.{length}
use Rattle.sc_svo_layout_tests.proofs.tests.svo.grids.+value_at.Given as goal

abbrev pub decreases-value_at : goal.decreases-value_at
decreases-value_at g l = length l.digits.now
