use Rattle.std.proofs.Common.{◌++◌, ◌∙◌, ap}
use Rattle.sc_definitions.specs.declared.events.Event.TheVariants.{Draw}
use Rattle.std.specs.Prelude.{replicate}
use Rattle.sc_definitions.specs.Events.{words, extension_draw}
use Rattle.sc_circuit.proofs.RunLaws.{values-sent}
use Rattle.sc_circuit.proofs.replay.merge_values.Goals as goal

pub returns-clause-merge : goal.returns-clause-merge
returns-clause-merge g c =
    let E = g.EF.ExtensionField.extension in
    let kept = c.in_ok-reserve.ensures.kept in
    let first = rw c.unwrap.ensures at c.observe_ext.ensures in
    let second = rw c.unwrap-2.ensures at c.observe_ext-2.ensures in
    let drawn = rw c.unwrap-3.ensures at c.sample_ext.ensures.drawn in
    drawn
    ∙ ap (λ R. extension_draw R E (g.C.Challenger.party c.observe_ext-2.new.challenger).history) (second.rules ∙ first.rules ∙ kept.rules)
    ∙ ap (extension_draw (g.C.Challenger.party c.args.challenger.now).rules E)
    (values-sent E (g.C.Challenger.party c.args.challenger.now).history _ _ (g.EF.Field.number c.args.left) (g.EF.Field.number c.args.right)
    (first.history ∙ ap (λ k. k ++ words (E.parts (g.EF.Field.number c.args.left))) kept.history) second.history)

pub returns-clause-history : goal.returns-clause-history
returns-clause-history g c =
    let E = g.EF.ExtensionField.extension in
    let kept = c.in_ok-reserve.ensures.kept in
    let first = rw c.unwrap.ensures at c.observe_ext.ensures in
    let second = rw c.unwrap-2.ensures at c.observe_ext-2.ensures in
    let third = rw c.unwrap-3.ensures at c.sample_ext.ensures.left in
    third.history
    ∙ ap (λ k. k ++ replicate g.EF.ExtensionField.DEGREE Draw)
    (values-sent E (g.C.Challenger.party c.args.challenger.now).history _ _ (g.EF.Field.number c.args.left) (g.EF.Field.number c.args.right)
    (first.history ∙ ap (λ k. k ++ words (E.parts (g.EF.Field.number c.args.left))) kept.history) second.history)
