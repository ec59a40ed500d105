use Rattle.std.proofs.Common.{append_assoc, rules}
use Rattle.sumcheck_matmul.specs.MatmulLines.{inner_text}
use Rattle.sumcheck_matmul.proofs.lines.inner_text.Goals as goal

pub returns : goal.returns
unfolding inner_text
returns c = simp append_assoc (search rules)
