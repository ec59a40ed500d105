use Rattle.std.proofs.Common.{ap, ◌∙◌}
use Rattle.std.proofs.lemmas.Result.{IfOk-weaker}
use Rattle.sc_definitions.specs.ProverViews.{ProverView}
use Rattle.sc_rounds.proofs.HeldLaws.{settled_pair}
use Rattle.sc_rounds.proofs.ShownLaws.{numbers_if_ok}
use Rattle.sc_rounds.proofs.strategy.SumcheckProver.evals.Goals as goal

pub returns-clause-variables : goal.returns-clause-variables
returns-clause-variables g c =
    let t = c.settle.new.self in
    let e = c.settle.ensures in
    let same = settled_pair g.EF.Field.ops g.EF.Field.number t.poly t.sum t.held _ e.settled e.kept in
    IfOk-weaker c.evals.result _ _ (λ q size. size ∙ ap (λ (s : ProverView). s.variables) same) c.evals.ensures.variables

pub returns-clause-table : goal.returns-clause-table
returns-clause-table g c =
    let N = g.EF.Field.number in
    let t = c.settle.new.self in
    let e = c.settle.ensures in
    let same = settled_pair g.EF.Field.ops N t.poly t.sum t.held _ e.settled e.kept in
    IfOk-weaker c.evals.result _ _ (λ q is. is ∙ ap (λ (s : ProverView). s.evals) same)
    (numbers_if_ok N N t.poly.evals c.evals.result c.evals.ensures.variables c.evals.ensures.table)
