use Rattle.std.proofs.Common.{sym, ◌∙◌}
use Rattle.sc_rounds.specs.Provers.{held_shown}
use Rattle.sc_rounds.proofs.HeldLaws.{honest_shown-message}
use Rattle.sc_rounds.proofs.strategy.SumcheckProver.measure_round.Goals as goal

pub returns-clause-message : goal.returns-clause-message
returns-clause-message g c =
    let o = g.EF.Field.ops in
    let t = c.args.self.now.rounds in
    c.measure.ensures.message ∙ sym (honest_shown-message o g.met.EF.Field.is_field.ring (held_shown o g.EF.Field.number t.poly t.held t.sum) t.poly.offered c.requires)
