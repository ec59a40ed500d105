use Rattle.std.proofs.Common.{rules}
use Rattle.sc_constraints.proofs.constraint.Constraint.new_with_existing_claim.Goals as goal

-- a claim that is there takes the first power
pub returns-clause-power : goal.returns-clause-power
returns-clause-power g c = search rules
