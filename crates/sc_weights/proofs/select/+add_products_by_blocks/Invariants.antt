use Rattle.std.proofs.Common.{length}
use Rattle.sc_weights.proofs.select.+add_products_by_blocks.Given as goal

abbrev pub decreases-add_products_by_blocks : goal.decreases-add_products_by_blocks
decreases-add_products_by_blocks g l = length l.z.now
