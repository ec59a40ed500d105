use Rattle.std.proofs.Common.{sym, ◌∙◌, refl}
use Rattle.sc_definitions.specs.Tables.{entries, rows_of}
use Rattle.sc_table.specs.Strategy.{basis_of, order_of}
use Rattle.sc_definitions.proofs.PairMoves.{even_power, one_more, halved, message_halves}
use Rattle.sc_rounds.proofs.strategy.base.BaseProduct.measure.Goals as goal

pub sumcheck_coefficients-requires-clause-even : goal.sumcheck_coefficients-requires-clause-even
sumcheck_coefficients-requires-clause-even g c = even_power _ _ c.requires c.args.self.now.same

pub sumcheck_coefficients-requires-clause-same : goal.sumcheck_coefficients-requires-clause-same
sumcheck_coefficients-requires-clause-same g c = c.args.self.now.same ∙ sym c.as_slice.ensures.size

pub returns : goal.returns
unfolding entries rows_of
returns g c =
    let o = g.EF.Field.ops in
    let N = g.EF.Field.number in
    let more = one_more _ c.requires in
    let basis = basis_of c.args.self.now.basis in
    let order = order_of c.args.self.now.order in
    halved basis order o _ _ _ _ more
    (message_halves basis order o _ _ more.0 _ _ _ _ (N c.sumcheck_coefficients.result.c_a) (N c.sumcheck_coefficients.result.c_inf) c.args.self.now.same more.1
    refl c.as_slice.ensures.numbers c.sumcheck_coefficients.ensures.first c.sumcheck_coefficients.ensures.leading)
