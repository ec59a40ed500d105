use Rattle.std.proofs.Common.{append_assoc, rules}
use Rattle.sumcheck_circuit.specs.CircuitLines.{layers_text}
use Rattle.sumcheck_circuit.proofs.lines.layers_text.Goals as goal

pub returns : goal.returns
unfolding layers_text
returns c = simp append_assoc (search rules)
