use Rattle.sc_degree.proofs.SentLaws.{takes-values}
use Rattle.sc_degree.proofs.laws.round_laws.Goals as goal

pub returns : goal.returns
returns g c = record { values = takes-values g.EF.Field.ops g.met.EF.Field.is_field }
