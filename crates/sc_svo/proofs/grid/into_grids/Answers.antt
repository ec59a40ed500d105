use Rattle.std.proofs.Common.{arith}
use Rattle.std.proofs.lemmas.Grind.{common_steps}
use Rattle.sc_svo.proofs.grid.into_grids.Goals as goal

-- a grid more is a sum more
pub loop-sum-preserved : goal.loop-sum-preserved
loop-sum-preserved g c = grind (arith, common_steps)
