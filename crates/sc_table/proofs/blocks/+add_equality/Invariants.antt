use Rattle.std.proofs.Common.{length}
use Rattle.sc_table.proofs.blocks.+add_equality.Given as goal

abbrev pub decreases-add_equality : goal.decreases-add_equality
decreases-add_equality g l = length l.z.now
