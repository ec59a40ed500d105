use Rattle.std.proofs.Common.{append_assoc, rules}
use Rattle.sumcheck_circuit.specs.CircuitLines.{lucky_layer_name}
use Rattle.sumcheck_circuit.proofs.lines.push_lucky_layer_name.Goals as goal

pub returns : goal.returns
unfolding lucky_layer_name
returns c = simp append_assoc (search rules)
