use Rattle.std.proofs.Common.{◌++◌, map, ap, ◌∙◌}
use Rattle.sc_definitions.specs.declared.events.Event.TheVariants.{Draw}
use Rattle.sc_definitions.specs.Events.{extension_draw}
use Rattle.sc_definitions.specs.Transcript.{sent}
use Rattle.std.specs.Prelude.{replicate}
use Rattle.sc_openings.proofs.checking.replay.Goals as goal

-- the challenge was drawn first
pub returns-clause-answered : goal.returns-clause-answered
returns-clause-answered g c =
    let E = g.EF.ExtensionField.extension in
    let N = g.EF.Field.number in
    let party = g.C.Challenger.party c.args.challenger.now in
    let claimed = ap (map N) c.deref.ensures.value ∙ (c.requires.values party).claimed in
    c.replay_at.ensures.answered party
    (record {
      rules = c.in_ok-challenge.ensures.rules;
      challenge = c.in_ok-challenge.ensures.drawn ∙ ap (λ l. extension_draw party.rules E (party.history ++ sent E l)) claimed;
      history = c.in_ok-challenge.ensures.after ∙ ap (λ l. party.history ++ sent E l ++ replicate E.degree Draw) claimed;
    })
