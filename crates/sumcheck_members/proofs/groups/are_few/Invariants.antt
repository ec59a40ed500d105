use Rattle.std.proofs.Common.{◌≡◌, ◌+◌, length, take}
use Rattle.sumcheck_members.specs.Groups.{most_statements}
use Rattle.sumcheck_members.specs.Statements.{all_claims}
use Rattle.sumcheck_members.proofs.groups.are_few.Given as goal

abbrev pub invariant-loop-group : goal.invariant-loop-group
invariant-loop-group l = l.room + length (all_claims (λ n. n) (take l.group-index l.groups)) ≡ most_statements
