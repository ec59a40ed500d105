use Rattle.std.proofs.Common.{length}
use Rattle.sc_circuit.proofs.layers.+replay_from.Given as goal

abbrev pub decreases-replay_from : goal.decreases-replay_from
decreases-replay_from g l = length l.came.now
