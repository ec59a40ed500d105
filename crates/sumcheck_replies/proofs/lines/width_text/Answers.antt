use Rattle.std.proofs.Common.{append_assoc, rules}
use Rattle.sumcheck_replies.specs.Lines.{width_text}
use Rattle.sumcheck_replies.proofs.lines.width_text.Goals as goal

pub returns : goal.returns
unfolding width_text
returns c = simp append_assoc (search rules)
