use Rattle.std.proofs.Common.{length}
use Rattle.sc_weights.proofs.coefficients.+products_at.Given as goal

abbrev pub decreases-products_at : goal.decreases-products_at
decreases-products_at g l = length l.z.now
