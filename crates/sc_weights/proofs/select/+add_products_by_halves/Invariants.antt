use Rattle.std.proofs.Common.{length}
use Rattle.sc_weights.proofs.select.+add_products_by_halves.Given as goal

abbrev pub decreases-add_products_by_halves : goal.decreases-add_products_by_halves
decreases-add_products_by_halves g l = length l.z.now
