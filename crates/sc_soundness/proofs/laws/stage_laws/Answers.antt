use Rattle.sc_soundness.proofs.StageLaws.{stages-sound, audits-are_stages}
use Rattle.sc_soundness.proofs.laws.stage_laws.Goals as goal

pub returns-clause-sound : goal.returns-clause-sound
returns-clause-sound c = stages-sound

pub returns-clause-audits : goal.returns-clause-audits
returns-clause-audits c = audits-are_stages
