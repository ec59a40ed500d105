use Rattle.std.proofs.Common.{append_assoc, rules}
use Rattle.sumcheck_circuit.specs.CircuitLines.{wire_text}
use Rattle.sumcheck_circuit.proofs.lines.wire_text.Goals as goal

pub returns : goal.returns
unfolding wire_text
returns c = simp append_assoc (search rules)
