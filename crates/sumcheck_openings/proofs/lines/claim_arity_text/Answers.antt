use Rattle.std.proofs.Common.{append_assoc, rules}
use Rattle.sumcheck_openings.specs.OpeningsLines.{claim_arity_text}
use Rattle.sumcheck_openings.proofs.lines.claim_arity_text.Goals as goal

pub returns : goal.returns
unfolding claim_arity_text
returns c = simp append_assoc (search rules)
