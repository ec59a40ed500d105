use Rattle.std.proofs.Common.{append_assoc, rules}
use Rattle.sumcheck_replies.specs.Lines.{witness_text}
use Rattle.sumcheck_replies.proofs.lines.witness_text.Goals as goal

pub returns : goal.returns
unfolding witness_text
returns c = simp append_assoc (search rules)
