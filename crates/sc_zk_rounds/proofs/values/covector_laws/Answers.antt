use Rattle.sc_zk_rounds.proofs.CovectorLaws.{covectors-tell}
use Rattle.sc_zk_rounds.proofs.values.covector_laws.Goals as goal

pub returns : goal.returns
returns g c = covectors-tell g.EF.Field.ops g.met.EF.Field.is_field.ring
