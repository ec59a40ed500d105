use Rattle.std.proofs.Common.{◌≡◌, map, take}
use Rattle.sumcheck_circuit.proofs.asked.gate_lists.Given as goal

abbrev pub invariant-loop-gates : goal.invariant-loop-gates
invariant-loop-gates l = map (λ gates. gates.items) l.found.items ≡ take l.gates-index l.layers
