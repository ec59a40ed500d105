use Rattle.std.proofs.Common.{length}
use Rattle.sc_weights.proofs.select.+products_value_by_blocks.Given as goal

abbrev pub decreases-products_value_by_blocks : goal.decreases-products_value_by_blocks
decreases-products_value_by_blocks g l = length l.z.now
