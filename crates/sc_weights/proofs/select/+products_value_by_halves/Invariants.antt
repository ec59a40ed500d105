use Rattle.std.proofs.Common.{length}
use Rattle.sc_weights.proofs.select.+products_value_by_halves.Given as goal

abbrev pub decreases-products_value_by_halves : goal.decreases-products_value_by_halves
decreases-products_value_by_halves g l = length l.z.now
