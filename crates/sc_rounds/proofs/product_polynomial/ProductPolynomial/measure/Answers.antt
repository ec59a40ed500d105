use Rattle.std.proofs.Common.{ap, sym, ◌∙◌, ◌^◌}
use Rattle.sc_table.specs.Strategy.{basis_of, order_of}
use Rattle.sc_definitions.proofs.PairMoves.{even_power, message_halves, one_more, halved}
use Rattle.sc_rounds.proofs.product_polynomial.ProductPolynomial.measure.Goals as goal

pub sumcheck_coefficients-requires-clause-even : goal.sumcheck_coefficients-requires-clause-even
sumcheck_coefficients-requires-clause-even g c = even_power _ _ c.requires c.as_slice-evals.ensures.size

pub sumcheck_coefficients-requires-clause-same : goal.sumcheck_coefficients-requires-clause-same
sumcheck_coefficients-requires-clause-same g c = c.as_slice-evals.ensures.size ∙ ap (λ n. 2 ^ n) c.args.self.now.same ∙ sym c.as_slice-weights.ensures.size

pub sumcheck_coefficients-requires-clause-offered : goal.sumcheck_coefficients-requires-clause-offered
sumcheck_coefficients-requires-clause-offered g c = c.args.self.now.offered

pub returns : goal.returns
returns g c =
    let o = g.EF.Field.ops in
    let N = g.EF.Field.number in
    let more = one_more _ c.requires in
    let basis = basis_of c.args.self.now.basis in
    let order = order_of c.args.self.now.order in
    halved basis order o _ _ _ _ more
    (message_halves basis order o _ _ more.0 _ _ _ _ (N c.sumcheck_coefficients.result.c_a) (N c.sumcheck_coefficients.result.c_inf) c.as_slice-evals.ensures.size more.1
    c.as_slice-evals.ensures.numbers c.as_slice-weights.ensures.numbers c.sumcheck_coefficients.ensures.first c.sumcheck_coefficients.ensures.leading)
