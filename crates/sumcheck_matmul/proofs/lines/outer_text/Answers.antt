use Rattle.std.proofs.Common.{append_assoc, rules}
use Rattle.sumcheck_matmul.specs.MatmulLines.{outer_text}
use Rattle.sumcheck_matmul.proofs.lines.outer_text.Goals as goal

pub returns : goal.returns
unfolding outer_text
returns c = simp append_assoc (search rules)
