use Rattle.std.proofs.Common.{append_assoc, rules}
use Rattle.sumcheck_openings.specs.OpeningsLines.{opening_count_text}
use Rattle.sumcheck_openings.proofs.lines.opening_count_text.Goals as goal

pub returns : goal.returns
unfolding opening_count_text
returns c = simp append_assoc (search rules)
