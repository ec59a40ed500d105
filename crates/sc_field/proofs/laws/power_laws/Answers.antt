use Rattle.sc_definitions.proofs.Power.{power-zero}
use Rattle.sc_definitions.proofs.PowerSums.{poly_at-powers}
use Rattle.sc_field.proofs.PowersLaws.{power-plus, power-times, items_are_powers}
use Rattle.sc_field.proofs.laws.power_laws.Goals as goal

pub returns-clause-none : goal.returns-clause-none
returns-clause-none g c = power-zero g.F.Field.ops g.met.F.Field.is_field.ring

pub returns-clause-split : goal.returns-clause-split
returns-clause-split g c = power-plus g.F.Field.ops g.met.F.Field.is_field.ring

pub returns-clause-product : goal.returns-clause-product
returns-clause-product g c = power-times g.F.Field.ops g.met.F.Field.is_field.ring

pub returns-clause-items : goal.returns-clause-items
returns-clause-items g c =
    items_are_powers g.F.Field.ops g.met.F.Field.is_field.ring g.F.Field.number g.met.F.Field.number_below

pub returns-clause-values : goal.returns-clause-values
returns-clause-values g c = poly_at-powers g.F.Field.ops g.met.F.Field.is_field.ring
