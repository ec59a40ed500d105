use Rattle.std.proofs.Common.{append_assoc, rules}
use Rattle.sumcheck_matmul.specs.MatmulLines.{side_text}
use Rattle.sumcheck_matmul.proofs.lines.side_text.Goals as goal

pub returns : goal.returns
unfolding side_text
returns c = simp append_assoc (search rules)
