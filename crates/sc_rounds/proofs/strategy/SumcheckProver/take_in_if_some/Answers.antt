use Rattle.std.proofs.Common.{ap, sym, ◌∙◌}
use Rattle.sc_rounds.specs.ProverViews.{stored_with}
use Rattle.sc_rounds.proofs.HeldLaws.{stored_settled}
use Rattle.sc_rounds.proofs.strategy.SumcheckProver.take_in_if_some.Goals as goal

pub returns-in-Some-clause-stored : goal.returns-in-Some-clause-stored
returns-in-Some-clause-stored g c =
    let t = c.take_in.new.self in
    stored_settled g.EF.Field.ops g.EF.Field.number t.poly t.sum t.held _ c.take_in.ensures.settled c.take_in.ensures.taken
    ∙ ap (stored_with c.args.self.now) (sym c.in-Some.is)
