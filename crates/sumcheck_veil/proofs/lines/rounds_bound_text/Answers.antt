use Rattle.std.proofs.Common.{append_assoc, rules}
use Rattle.sumcheck_veil.specs.VeilLines.{rounds_bound_text}
use Rattle.sumcheck_veil.proofs.lines.rounds_bound_text.Goals as goal

pub returns : goal.returns
unfolding rounds_bound_text
returns c = simp append_assoc (search rules)
