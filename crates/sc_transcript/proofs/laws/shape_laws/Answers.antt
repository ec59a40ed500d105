use Rattle.sc_transcript.proofs.SeedLaws.{shape-same}
use Rattle.sc_transcript.proofs.laws.shape_laws.Goals as goal

pub returns-clause-seeds : goal.returns-clause-seeds
returns-clause-seeds c = shape-same
