-- The statuses of refusals, by the replies to them.
use Rattle.std.proofs.Common.{rules}
use Rattle.sumcheck_replies.specs.Reply.{refused, proof_refused, no_witness_at}
use Rattle.sumcheck_c.proofs.tables.status_of.Goals as goal

pub returns-in-JobShape : goal.returns-in-JobShape
unfolding refused proof_refused no_witness_at
returns-in-JobShape c = search rules

pub returns-in-StrategyUnfit : goal.returns-in-StrategyUnfit
unfolding refused proof_refused no_witness_at
returns-in-StrategyUnfit c = search rules

pub returns-in-FalseClaim : goal.returns-in-FalseClaim
unfolding refused proof_refused no_witness_at
returns-in-FalseClaim c = search rules

pub returns-in-MissingSumcheckData : goal.returns-in-MissingSumcheckData
unfolding refused proof_refused no_witness_at
returns-in-MissingSumcheckData c = search rules

pub returns-in-RoundCountMismatch : goal.returns-in-RoundCountMismatch
unfolding refused proof_refused no_witness_at
returns-in-RoundCountMismatch c = search rules

pub returns-in-PowWitnessCountMismatch : goal.returns-in-PowWitnessCountMismatch
unfolding refused proof_refused no_witness_at
returns-in-PowWitnessCountMismatch c = search rules

pub returns-in-InvalidPowWitness : goal.returns-in-InvalidPowWitness
unfolding refused proof_refused no_witness_at
returns-in-InvalidPowWitness c = search rules

pub returns-in-NoWitness : goal.returns-in-NoWitness
unfolding refused proof_refused no_witness_at
returns-in-NoWitness c = search rules
