use Rattle.std.proofs.Common.{rules, ◌≡◌, ◌+◌, ◌*◌, length, sym, ◌∙◌, ap, subst, arith}
use Rattle.sc_definitions.specs.Events.{extension_draw}
use Rattle.sc_challenger.specs.Parties.{LeavesAppended}
use Rattle.sc_zk_definitions.specs.MaskedTranscripts.{masks_events}
use Rattle.sc_zk_transcript.proofs.HeadLaws.{commitment-grown, masks-grown, masks-length}
use Rattle.sc_zk_transcript.proofs.head.combine_masks.Goals as goal

pub returns-clause-drawn : goal.returns-clause-drawn
returns-clause-drawn g c =
    let E = g.EF.ExtensionField.extension in
    let mu = g.EF.Field.number c.args.mu_tilde in
    let kept = c.in_ok-reserve.ensures.kept in
    let told = rw c.unwrap.ensures at c.observe_ext.ensures in
    (rw c.unwrap-2.ensures at c.sample_ext.ensures.drawn)
    ∙ ap (λ R. extension_draw R E (g.C.Challenger.party c.observe_ext.new.challenger).history) (told.rules ∙ c.observe_words.ensures.rules ∙ kept.rules)
    ∙ ap (extension_draw (g.C.Challenger.party c.args.challenger.now).rules E)
    (commitment-grown E c.args.commitment.now mu g.EF.ExtensionField.DEGREE _ _ _ _ kept.history c.observe_words.ensures.history told.history)

pub returns-clause-left : goal.returns-clause-left
returns-clause-left g c =
    let E = g.EF.ExtensionField.extension in
    let mu = g.EF.Field.number c.args.mu_tilde in
    let kept = c.in_ok-reserve.ensures.kept in
    let told = rw c.unwrap.ensures at c.observe_ext.ensures in
    let drawn = rw c.unwrap-2.ensures at c.sample_ext.ensures.left in
    let size = masks-length E c.args.commitment.now mu g.EF.ExtensionField.DEGREE g.met.EF.ExtensionField.degree_is
    (g.met.EF.ExtensionField.extends.length_parts mu (g.met.EF.Field.number_below c.args.mu_tilde)) in
    record {
      rules = drawn.rules ∙ told.rules ∙ c.observe_words.ensures.rules ∙ kept.rules;
      history = masks-grown E c.args.commitment.now mu g.EF.ExtensionField.DEGREE _ _ _ g.met.EF.ExtensionField.degree_is
          (commitment-grown E c.args.commitment.now mu g.EF.ExtensionField.DEGREE _ _ _ _ kept.history c.observe_words.ensures.history told.history) drawn.history;
      spare = omega (arith, size, kept.spare, c.observe_words.ensures.spare, told.spare, drawn.spare, c.requires.count);
    }

pub returns-in_err-reserve-clause-left : goal.returns-in_err-reserve-clause-left
returns-in_err-reserve-clause-left g c =
    let E = g.EF.ExtensionField.extension in
    let parts = g.EF.ExtensionField.DEGREE in
    let mu = g.EF.Field.number c.args.mu_tilde in
    let events = masks_events E c.args.commitment.now mu in
    let many = masks-length E c.args.commitment.now mu parts g.met.EF.ExtensionField.degree_is
    (g.met.EF.ExtensionField.extends.length_parts mu (g.met.EF.Field.number_below c.args.mu_tilde)) in
    let size : length events ≡ 64 + 2 * parts = many ∙ ap (λ n. n + 2 * parts) c.requires.count in
    subst (λ n. LeavesAppended events n (g.C.Challenger.party c.args.challenger.now) (g.C.Challenger.party c.reserve.new.self) c.from_residual.result) (sym size)
    (search rules)
