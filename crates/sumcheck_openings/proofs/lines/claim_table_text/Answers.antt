use Rattle.std.proofs.Common.{append_assoc, rules}
use Rattle.sumcheck_openings.specs.OpeningsLines.{claim_table_text}
use Rattle.sumcheck_openings.proofs.lines.claim_table_text.Goals as goal

pub returns : goal.returns
unfolding claim_table_text
returns c = simp append_assoc (search rules)
