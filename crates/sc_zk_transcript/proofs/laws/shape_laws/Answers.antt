use Rattle.sc_zk_transcript.proofs.SeedLaws.{masked-same, seeds-differ}
use Rattle.sc_zk_transcript.proofs.laws.shape_laws.Goals as goal

pub returns-clause-shapes : goal.returns-clause-shapes
returns-clause-shapes c = masked-same

pub returns-clause-protocols : goal.returns-clause-protocols
returns-clause-protocols c = seeds-differ
