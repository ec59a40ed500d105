use Rattle.std.proofs.Common.{◌∙◌}
use Rattle.sc_circuit.proofs.SumLaws.{weighted-products}
use Rattle.sc_circuit.proofs.weights.weighted.Goals as goal

pub returns : goal.returns
returns g c =
    c.dot_base.ensures
    ∙ weighted-products g.EF.Field.ops g.met.EF.Field.is_field.ring g.F.Field.number g.EF.Algebra.embedding g.EF.Field.number c.args.values.now c.args.weights.now
