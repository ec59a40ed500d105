use Rattle.std.proofs.Common.{append_assoc, rules}
use Rattle.sumcheck_replies.proofs.LineLaws.{round_line-plain, round_line-witness}
use Rattle.sumcheck_replies.proofs.lines.push_round.Goals as goal

pub returns-in-None : goal.returns-in-None
returns-in-None c = rw (c.in-None.is, round_line-plain) (simp append_assoc (search rules))

pub returns-in-Some : goal.returns-in-Some
returns-in-Some c = rw (c.in-Some.is, round_line-witness) (simp append_assoc (search rules))
