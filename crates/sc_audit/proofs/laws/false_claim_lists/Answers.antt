use Rattle.sc_jobs.proofs.Passing.{reports_are_accepted}
use Rattle.sc_audit.proofs.laws.false_claim_lists.Goals as goal

pub returns-clause-reported : goal.returns-clause-reported
returns-clause-reported g c = reports_are_accepted
