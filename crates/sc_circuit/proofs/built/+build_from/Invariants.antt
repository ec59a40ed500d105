use Rattle.std.proofs.Common.{length}
use Rattle.sc_circuit.proofs.built.+build_from.Given as goal

abbrev pub decreases-build_from : goal.decreases-build_from
decreases-build_from g l = length l.below.now
