use Rattle.sc_field.proofs.NodeLaws.{unique}
use Rattle.sc_field.proofs.laws.interpolation_laws.Goals as goal

pub returns : goal.returns
returns g c = record { unique = unique g.F.Field.ops g.met.F.Field.is_field }
