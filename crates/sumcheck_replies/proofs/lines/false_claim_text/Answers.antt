use Rattle.std.proofs.Common.{append_assoc, rules}
use Rattle.sumcheck_replies.specs.Lines.{false_claim_text}
use Rattle.sumcheck_replies.proofs.lines.false_claim_text.Goals as goal

pub returns : goal.returns
unfolding false_claim_text
returns c = simp append_assoc (search rules)
