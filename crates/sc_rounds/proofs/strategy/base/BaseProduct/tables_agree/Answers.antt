use Rattle.std.proofs.Common.{◌≡◌, ◌^◌, length, refl, arith}
use Rattle.sc_table.specs.Polys.{variables_of}
use Rattle.sc_definitions.proofs.PairMoves.{dot_sum}
use Rattle.sc_rounds.proofs.BaseLaws.{base_agrees}
use Rattle.sc_rounds.proofs.strategy.base.BaseProduct.tables_agree.Goals as goal

pub returns-then-evals-num_evals : goal.returns-then-evals-num_evals
returns-then-evals-num_evals g c =
    let rows : length c.args.evals.now ≡ 2 ^ variables_of c.args.weights.now = omega (arith, c.num_evals.ensures, c.if-evals-num_evals.true) in
    base_agrees g.EF.Field.ops g.EF.Field.number c.args.weights.now rows
    (dot_sum g.EF.Field.ops _ c.dot_images.ensures rows refl c.as_slice.ensures.numbers)
    c.index.ensures c.index-then-evals-num_evals.ensures refl
