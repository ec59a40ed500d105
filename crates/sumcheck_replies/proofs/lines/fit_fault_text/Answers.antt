use Rattle.std.proofs.Common.{append_assoc, rules}
use Rattle.sumcheck_replies.specs.Lines.{fit_fault_text}
use Rattle.sumcheck_replies.proofs.lines.fit_fault_text.Goals as goal

pub returns-in-Variables : goal.returns-in-Variables
unfolding fit_fault_text
returns-in-Variables c = rw c.in-Variables.is (simp append_assoc (search rules))
