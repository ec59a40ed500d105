use Rattle.std.proofs.Common.{append_assoc, rules}
use Rattle.sumcheck_circuit.specs.CircuitLines.{outputs_text}
use Rattle.sumcheck_circuit.proofs.lines.outputs_text.Goals as goal

pub returns : goal.returns
unfolding outputs_text
returns c = simp append_assoc (search rules)
