use Rattle.sc_definitions.proofs.RootCount.{roots_are_few}
use Rattle.sc_field.proofs.laws.root_laws.Goals as goal

pub returns : goal.returns
returns g c = record { few = roots_are_few g.F.Field.ops g.met.F.Field.is_field }
