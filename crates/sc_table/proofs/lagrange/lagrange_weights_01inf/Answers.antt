use Rattle.std.proofs.Common.{ap, ◌∙◌}
use Rattle.sc_definitions.specs.Rounds.{extrapolated}
use Rattle.sc_table.proofs.lagrange.lagrange_weights_01inf.Goals as goal

pub returns-clause-sum : goal.returns-clause-sum
unfolding extrapolated
returns-clause-sum g c = λ e0 e1 e_inf.
    let f = g.F.Field in
    let one = ap f.number c.ONE.ensures ∙ g.met.F.Field.one_is in
    let one' = ap f.number c.ONE-2.ensures ∙ g.met.F.Field.one_is in
    cc (c.sub.ensures, c.mul.ensures, c.sub-2.ensures, one, one')
