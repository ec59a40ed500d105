use Rattle.std.proofs.Common.{append_assoc, rules}
use Rattle.sumcheck_replies.specs.Lines.{witnesses_text}
use Rattle.sumcheck_replies.proofs.lines.witnesses_text.Goals as goal

pub returns : goal.returns
unfolding witnesses_text
returns c = simp append_assoc (search rules)
