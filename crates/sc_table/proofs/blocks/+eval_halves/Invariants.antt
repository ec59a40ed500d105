use Rattle.std.proofs.Common.{length}
use Rattle.sc_table.proofs.blocks.+eval_halves.Given as goal

abbrev pub decreases-eval_halves : goal.decreases-eval_halves
decreases-eval_halves g l = length l.z.now
