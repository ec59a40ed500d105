use Rattle.std.proofs.Common.{append_assoc, rules}
use Rattle.sumcheck_matmul.specs.MatmulLines.{false_entry_text}
use Rattle.sumcheck_matmul.proofs.lines.false_entry_text.Goals as goal

pub returns : goal.returns
unfolding false_entry_text
returns c = simp append_assoc (search rules)
