use Rattle.std.proofs.Common.{arith}
use Rattle.std.proofs.lemmas.Grind.{common_steps}
use Rattle.sc_definitions.specs.Events.{draws, extension_draw}
use Rattle.sc_challenger.proofs.extension.sample_ext.Goals as goal

-- a part more is a draw more
pub loop-i-preserved : goal.loop-i-preserved
unfolding draws extension_draw
loop-i-preserved g c = grind (arith, common_steps)
