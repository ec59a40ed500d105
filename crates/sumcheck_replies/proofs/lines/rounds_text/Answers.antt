use Rattle.std.proofs.Common.{append_assoc, rules}
use Rattle.sumcheck_replies.specs.Lines.{rounds_text}
use Rattle.sumcheck_replies.proofs.lines.rounds_text.Goals as goal

pub returns : goal.returns
unfolding rounds_text
returns c = simp append_assoc (search rules)
