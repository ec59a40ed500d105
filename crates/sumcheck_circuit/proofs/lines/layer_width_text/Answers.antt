use Rattle.std.proofs.Common.{append_assoc, rules}
use Rattle.sumcheck_circuit.specs.CircuitLines.{layer_width_text}
use Rattle.sumcheck_circuit.proofs.lines.layer_width_text.Goals as goal

pub returns : goal.returns
unfolding layer_width_text
returns c = simp append_assoc (search rules)
