use Rattle.std.proofs.Common.{length}
use Rattle.sc_weights.proofs.coefficients.+equality_at.Given as goal

abbrev pub decreases-equality_at : goal.decreases-equality_at
decreases-equality_at g l = length l.z.now
