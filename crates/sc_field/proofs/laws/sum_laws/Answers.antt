use Rattle.sc_definitions.proofs.Sums.{sum-split, sum-plus, times-sum}
use Rattle.sc_field.proofs.SumsLaws.{sum-exchange}
use Rattle.sc_field.proofs.laws.sum_laws.Goals as goal

pub returns-clause-split : goal.returns-clause-split
returns-clause-split g c = sum-split g.F.Field.ops g.met.F.Field.is_field.ring

pub returns-clause-add : goal.returns-clause-add
returns-clause-add g c = sum-plus g.F.Field.ops g.met.F.Field.is_field.ring

pub returns-clause-exchange : goal.returns-clause-exchange
returns-clause-exchange g c = sum-exchange g.F.Field.ops g.met.F.Field.is_field.ring

pub returns-clause-factor : goal.returns-clause-factor
returns-clause-factor g c = times-sum g.F.Field.ops g.met.F.Field.is_field.ring
