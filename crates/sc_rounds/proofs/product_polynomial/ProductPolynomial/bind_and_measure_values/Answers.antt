use Rattle.std.proofs.Common.{◌<◌, ◌^◌, arith, refl, ap, sym, subst, ◌∙◌}
use Rattle.sc_definitions.specs.Tables.{evaluation, folded_in}
use Rattle.sc_definitions.specs.Messages.{message_of}
use Rattle.sc_definitions.specs.ProverStates.{half_rows}
use Rattle.sc_table.specs.Polys.{variables_of, table_of}
use Rattle.sc_table.specs.Strategy.{order_of}
use Rattle.sc_transcript.proofs.BatchLaws.{one_less}
use Rattle.sc_definitions.proofs.PairMoves.{message_halves, one_more, halved}
use Rattle.sc_rounds.proofs.product_polynomial.ProductPolynomial.bind_and_measure_values.Goals as goal

pub returns-clause-message : goal.returns-clause-message
returns-clause-message g c =
    let o = g.EF.Field.ops in
    let N = g.EF.Field.number in
    let order = order_of c.args.self.now.order in
    let fold = c.fold_and_round_coefficients in
    let left : 0 < variables_of fold.new.evals = omega (arith, fold.ensures.evals.fewer, c.requires.two) in
    let more = one_more _ left in
    halved evaluation order o _ _ _ _ more
    (message_halves evaluation order o _ _ more.0 _ _ _ _ (N fold.result.c_a) (N fold.result.c_inf) refl more.1 refl refl fold.ensures.first fold.ensures.leading)
    ∙ ap (λ b. message_of b order o (half_rows (variables_of fold.new.evals)) (table_of N fold.new.evals) (table_of N fold.new.weights)) (sym c.requires.values)

pub returns-clause-bound : goal.returns-clause-bound
returns-clause-bound g c =
    let o = g.EF.Field.ops in
    let N = g.EF.Field.number in
    let old = c.args.self.now in
    let order = order_of old.order in
    let fold = c.fold_and_round_coefficients in
    let values = sym c.requires.values in
    let same = one_less _ _ _ _ fold.ensures.evals.fewer fold.ensures.weights.fewer old.same in
    record {
      basis = refl;
      order = refl;
      fewer = fold.ensures.evals.fewer;
      evals = λ b low. fold.ensures.evals.rows b low ∙ ap (λ k. folded_in k order o (variables_of fold.new.evals) (N c.args.r) (table_of N old.evals) b) values;
      weights = λ b low. fold.ensures.weights.rows b (subst (λ n. b < 2 ^ n) (sym same) low)
          ∙ ap (λ n. folded_in evaluation order o n (N c.args.r) (table_of N old.weights) b) same
          ∙ ap (λ k. folded_in k order o (variables_of fold.new.evals) (N c.args.r) (table_of N old.weights) b) values;
    }
