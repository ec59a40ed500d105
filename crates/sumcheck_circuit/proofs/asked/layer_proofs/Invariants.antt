use Rattle.std.proofs.Common.{◌≡◌, map, take}
use Rattle.sc_circuit.specs.Runs.{layer_in}
use Rattle.sumcheck_circuit.specs.CircuitReplies.{layer_given}
use Rattle.sumcheck_circuit.proofs.asked.layer_proofs.Given as goal

abbrev pub invariant-loop-layer : goal.invariant-loop-layer
invariant-loop-layer g l = map (layer_in g.F.Field.number g.EF.Field.number) l.found.items ≡ map layer_given (take l.layer-index l.layers)
