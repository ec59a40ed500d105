use Rattle.std.proofs.Common.{length}
use Rattle.sc_circuit.proofs.luck.+luck_from.Given as goal

abbrev pub decreases-luck_from : goal.decreases-luck_from
decreases-luck_from g l = length l.played.stack.layers.now
