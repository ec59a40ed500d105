use Rattle.std.proofs.Common.{length}
use Rattle.sc_circuit.proofs.turn.+turn_from.Given as goal

abbrev pub decreases-turn_from : goal.decreases-turn_from
decreases-turn_from g l = length l.left.messages.now
