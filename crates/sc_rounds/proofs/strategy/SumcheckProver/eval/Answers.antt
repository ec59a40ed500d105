use Rattle.std.proofs.Common.{ap, sym, ◌∙◌, map}
use Rattle.sc_definitions.specs.Tables.{rows_of, value_in}
use Rattle.sc_definitions.specs.ProverViews.{ProverView}
use Rattle.sc_rounds.specs.Products.{basis_in}
use Rattle.sc_rounds.proofs.HeldLaws.{settled_pair}
use Rattle.sc_rounds.proofs.ShownLaws.{rows-numbers}
use Rattle.sc_rounds.proofs.strategy.SumcheckProver.eval.Goals as goal

pub eval-requires : goal.eval-requires
eval-requires g c =
    let t = c.settle.new.self in
    let e = c.settle.ensures in
    c.requires ∙ ap (λ (s : ProverView). s.variables) (sym (settled_pair g.EF.Field.ops g.EF.Field.number t.poly t.sum t.held _ e.settled e.kept))

pub returns-clause-number : goal.returns-clause-number
returns-clause-number g c =
    let o = g.EF.Field.ops in
    let N = g.EF.Field.number in
    let t = c.settle.new.self in
    let e = c.settle.ensures in
    let zs = map N c.args.point.now in
    c.eval.ensures ∙ ap (λ f. value_in (basis_in t.poly) o f zs) (sym (rows-numbers N t.poly.evals.evals.items))
    ∙ ap (λ (s : ProverView). value_in s.basis o (rows_of s.evals) zs) (settled_pair o N t.poly t.sum t.held _ e.settled e.kept)
