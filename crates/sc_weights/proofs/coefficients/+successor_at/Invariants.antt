use Rattle.std.proofs.Common.{length}
use Rattle.sc_weights.proofs.coefficients.+successor_at.Given as goal

abbrev pub decreases-successor_at : goal.decreases-successor_at
decreases-successor_at g l = length l.z.now
