use Rattle.sc_soundness.proofs.CourseLaws.{rounds-sound, honest-end_true}
use Rattle.sc_soundness.proofs.MergedLaws.{merged_rounds-are}
use Rattle.sc_soundness.proofs.laws.round_laws.Goals as goal

pub returns-clause-sound : goal.returns-clause-sound
returns-clause-sound c = rounds-sound

pub returns-clause-honest : goal.returns-clause-honest
returns-clause-honest c = honest-end_true

pub returns-clause-merged : goal.returns-clause-merged
returns-clause-merged c = merged_rounds-are
