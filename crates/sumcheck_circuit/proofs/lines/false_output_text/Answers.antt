use Rattle.std.proofs.Common.{append_assoc, rules}
use Rattle.sumcheck_circuit.specs.CircuitLines.{false_output_text}
use Rattle.sumcheck_circuit.proofs.lines.false_output_text.Goals as goal

pub returns : goal.returns
unfolding false_output_text
returns c = simp append_assoc (search rules)
