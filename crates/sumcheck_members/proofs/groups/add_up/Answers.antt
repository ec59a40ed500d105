use Rattle.std.proofs.Common.{rules}
use Rattle.sumcheck_members.proofs.groups.add_up.Goals as goal

-- where the first is no more than the sum, the second has to be the rest
pub returns-then-left-sum : goal.returns-then-left-sum
returns-then-left-sum c = search rules
