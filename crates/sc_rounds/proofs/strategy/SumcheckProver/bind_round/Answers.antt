use Rattle.std.proofs.Common.{ap, sym, ◌∙◌}
use Rattle.sc_rounds.specs.Provers.{held_shown, number_if_some}
use Rattle.sc_definitions.specs.ProverViews.{ProverView}
use Rattle.sc_rounds.specs.Products.{numbers_of}
use Rattle.sc_rounds.proofs.HeldLaws.{honest_shown-message, numbered, none_held}
use Rattle.sc_rounds.proofs.strategy.SumcheckProver.bind_round.Goals as goal

pub bind-requires-clause-message : goal.bind-requires-clause-message
bind-requires-clause-message g c =
    let o = g.EF.Field.ops in
    let t = c.args.self.now.rounds in
    c.requires.message ∙ honest_shown-message o g.met.EF.Field.is_field.ring (held_shown o g.EF.Field.number t.poly t.held t.sum) t.poly.offered c.requires.left

pub bind-requires-clause-settled : goal.bind-requires-clause-settled
bind-requires-clause-settled g c = numbered g.EF.Field.number c.args.self.now.rounds.held c.requires.settled

pub returns-clause-holds : goal.returns-clause-holds
returns-clause-holds g c =
    let N = g.EF.Field.number in
    let t = c.args.self.now.rounds in
    let same = none_held g.EF.Field.ops N t.poly t.sum t.held (numbered N t.held c.requires.settled) in
    record {
      evals = ap (λ p. numbers_of N p.evals) c.bind.ensures.poly ∙ sym (ap (λ (s : ProverView). s.evals) same);
      weights = ap (λ p. numbers_of N p.weights) c.bind.ensures.poly ∙ sym (ap (λ (s : ProverView). s.weights) same);
      held = ap (number_if_some N) c.bind.ensures.held;
    }
