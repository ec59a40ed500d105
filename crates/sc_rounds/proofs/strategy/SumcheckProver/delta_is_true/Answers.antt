use Rattle.std.proofs.Common.{ap, sym, ◌∙◌, ◌^◌}
use Rattle.sc_definitions.specs.Tables.{entries}
use Rattle.sc_definitions.specs.ProverViews.{ProverView, sum_with}
use Rattle.sc_rounds.proofs.HeldLaws.{settled_pair}
use Rattle.sc_rounds.proofs.ShownLaws.{sum_shown, equal_by}
use Rattle.sc_rounds.proofs.strategy.SumcheckProver.delta_is_true.Goals as goal

pub dot_with-requires : goal.dot_with-requires
dot_with-requires g c =
    let t = c.settle.new.self in
    let e = c.settle.ensures in
    c.requires ∙ ap (λ (s : ProverView). 2 ^ s.variables) (sym (settled_pair g.EF.Field.ops g.EF.Field.number t.poly t.sum t.held _ e.settled e.kept))

pub returns-clause-exact : goal.returns-clause-exact
returns-clause-exact g c =
    let o = g.EF.Field.ops in
    let N = g.EF.Field.number in
    let t = c.settle.new.self in
    let e = c.settle.ensures in
    let w = entries N c.args.weights_delta.now in
    equal_by _ _ _ _
    (c.index.ensures ∙ c.dot_with.ensures ∙ sym (sum_shown N o t.poly t.sum w)
    ∙ ap (λ (s : ProverView). sum_with o s w) (settled_pair o N t.poly t.sum t.held _ e.settled e.kept)) c.index-2.ensures
