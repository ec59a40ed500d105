use Rattle.std.proofs.Common.{append_assoc, rules}
use Rattle.sumcheck_replies.specs.Lines.{arity_text}
use Rattle.sumcheck_replies.proofs.lines.arity_text.Goals as goal

pub returns : goal.returns
unfolding arity_text
returns c = simp append_assoc (search rules)
