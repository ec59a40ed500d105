use Rattle.std.proofs.Common.{rules}
use Rattle.sc_challenger.proofs.grinding.first_witness.Goals as goal

-- one element more does not pass
pub loop-index-preserved : goal.loop-index-preserved
loop-index-preserved g c = search rules

-- before the first element none was tried
pub loop-index-init : goal.loop-index-init
loop-index-init g c = search rules
