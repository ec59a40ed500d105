use Rattle.std.proofs.Common.{append_assoc, rules}
use Rattle.sumcheck_replies.specs.Lines.{lucky_round_name}
use Rattle.sumcheck_replies.proofs.lines.push_lucky_round_name.Goals as goal

pub returns : goal.returns
unfolding lucky_round_name
returns c = simp append_assoc (search rules)
