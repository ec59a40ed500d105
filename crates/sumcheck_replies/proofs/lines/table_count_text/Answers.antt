use Rattle.std.proofs.Common.{append_assoc, rules}
use Rattle.sumcheck_replies.specs.Lines.{table_count_text}
use Rattle.sumcheck_replies.proofs.lines.table_count_text.Goals as goal

pub returns : goal.returns
unfolding table_count_text
returns c = simp append_assoc (search rules)
