use Rattle.std.proofs.Common.{map, ◌∙◌, ap}
use Rattle.sc_definitions.specs.Tables.{equality_weight, value_in}
use Rattle.sc_table.specs.Strategy.{basis_of}
use Rattle.sc_weights.proofs.EqualityValues.{value-weight_of}
use Rattle.sc_weights.proofs.equality.PointRowWeights.value_at.Goals as goal

pub returns : goal.returns
returns g c =
    let f = g.EF.Field in
    let basis = basis_of c.args.basis in
    c.equality_in.ensures ∙ ap (λ l. value_in basis f.ops (equality_weight f.ops (map f.number l)) (map f.number c.as_slice-2.result.now)) c.as_slice.ensures
    ∙ ap (λ l. value_in basis f.ops (equality_weight f.ops (map f.number c.args.self.now)) (map f.number l)) c.as_slice-2.ensures
    ∙ value-weight_of basis f.ops (map f.number c.args.self.now) (map f.number c.args.row.now)
