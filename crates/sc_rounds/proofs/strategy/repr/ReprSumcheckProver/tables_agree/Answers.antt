use Rattle.std.proofs.Common.{◌≡◌, ◌∙◌, arith}
use Rattle.sc_table.specs.Polys.{variables_of}
use Rattle.sc_definitions.proofs.MappedRounds.{same_images}
use Rattle.sc_definitions.proofs.PairMoves.{dot_sum}
use Rattle.sc_rounds.proofs.RepresentedLaws.{agree}
use Rattle.sc_rounds.proofs.strategy.repr.ReprSumcheckProver.tables_agree.Goals as goal

pub returns-then-num_variables : goal.returns-then-num_variables
returns-then-num_variables g c =
    let same : variables_of c.args.evals.now ≡ variables_of c.args.weights.now = omega (arith, c.num_variables.ensures, c.num_variables-2.ensures, c.if-num_variables.true) in
    agree g.EF.Field.ops same
    (c.index.ensures ∙ dot_sum g.EF.Field.ops _ c.dot.ensures c.as_slice.ensures.size c.as_slice.ensures.numbers
    (same_images g.R.Field.ops g.EF.Field.ops g.met.R.Field.is_field.ring g.met.EF.Field.is_field.ring g.R.FromTable.to_number g.met.R.FromTable.represents.back
    g.R.Field.number g.R.Field.number _ _ c.as_slice-then-num_variables.ensures.numbers))
    c.index-then-num_variables.ensures
