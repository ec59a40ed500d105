use Rattle.sc_jobs.proofs.AgreeingBuilds.{builds_agree}
use Rattle.sc_audit.proofs.laws.build_laws.Goals as goal

pub returns : goal.returns
returns c = builds_agree
