use Rattle.std.proofs.Common.{◌^◌, ap, sym, ◌∙◌}
use Rattle.sc_definitions.specs.Tables.{evaluation, prefix}
use Rattle.sc_definitions.proofs.PairMoves.{even_power, message_halves, one_more, halved}
use Rattle.sc_merged.proofs.weighted.WeightedPoly.message.Goals as goal

pub sumcheck_coefficients_prefix-requires-clause-even : goal.sumcheck_coefficients_prefix-requires-clause-even
sumcheck_coefficients_prefix-requires-clause-even g c = even_power _ _ c.requires c.as_slice.ensures.size

pub sumcheck_coefficients_prefix-requires-clause-same : goal.sumcheck_coefficients_prefix-requires-clause-same
sumcheck_coefficients_prefix-requires-clause-same g c = c.as_slice.ensures.size ∙ ap (λ n. 2 ^ n) (sym c.args.self.now.same) ∙ sym c.as_slice-2.ensures.size

pub returns : goal.returns
returns g c =
    let o = g.EF.Field.ops in
    let N = g.EF.Field.number in
    let more = one_more _ c.requires in
    let m = c.sumcheck_coefficients_prefix in
    halved evaluation prefix o _ _ _ _ more
    (message_halves evaluation prefix o _ _ more.0 _ _ _ _ (N m.result.c_a) (N m.result.c_inf) c.as_slice.ensures.size more.1
    c.as_slice.ensures.numbers c.as_slice-2.ensures.numbers m.ensures.first m.ensures.leading)
