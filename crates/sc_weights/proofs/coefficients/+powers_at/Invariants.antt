use Rattle.std.proofs.Common.{length}
use Rattle.sc_weights.proofs.coefficients.+powers_at.Given as goal

abbrev pub decreases-powers_at : goal.decreases-powers_at
decreases-powers_at g l = length l.x.now
