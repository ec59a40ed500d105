use Rattle.std.proofs.Common.{append_assoc, rules}
use Rattle.sumcheck_replies.specs.Lines.{difficulty_text}
use Rattle.sumcheck_replies.proofs.lines.difficulty_text.Goals as goal

pub returns : goal.returns
unfolding difficulty_text
returns c = simp append_assoc (search rules)
