use Rattle.std.proofs.Common.{append_assoc, rules}
use Rattle.sumcheck_openings.specs.OpeningsLines.{table_text}
use Rattle.sumcheck_openings.proofs.lines.table_text.Goals as goal

pub returns : goal.returns
unfolding table_text
returns c = simp append_assoc (search rules)
