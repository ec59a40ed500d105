use Rattle.std.proofs.Common.{ap, ◌∙◌, ◌^◌, refl}
use Rattle.sc_definitions.specs.ProverViews.{ProverView}
use Rattle.sc_rounds.specs.Provers.{number_if_some}
use Rattle.sc_rounds.proofs.HeldLaws.{settled_pair}
use Rattle.sc_rounds.proofs.ShownLaws.{same_entries}
use Rattle.sc_rounds.proofs.strategy.SumcheckProver.evals_view.Goals as goal

-- the prover is lent whole, with its tables settled
pub returns : goal.returns
returns g c =
    let N = g.EF.Field.number in
    let t = c.settle.new.self in
    let e = c.settle.ensures in
    let same = settled_pair g.EF.Field.ops N t.poly t.sum t.held _ e.settled e.kept in (
      (refl, λ after. tt, (e.kept, ap (number_if_some N) e.settled)),
      record {
        kept = tt;
        numbers = same_entries N t.poly.evals _ c.evals_view.ensures.size c.evals_view.ensures.numbers ∙ ap (λ (s : ProverView). s.evals) same;
        size = c.evals_view.ensures.size ∙ ap (λ (s : ProverView). 2 ^ s.variables) same;
      },
    )
