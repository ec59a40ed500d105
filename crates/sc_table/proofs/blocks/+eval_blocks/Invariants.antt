use Rattle.std.proofs.Common.{length}
use Rattle.sc_table.proofs.blocks.+eval_blocks.Given as goal

abbrev pub decreases-eval_blocks : goal.decreases-eval_blocks
decreases-eval_blocks g l = length l.outer.now
