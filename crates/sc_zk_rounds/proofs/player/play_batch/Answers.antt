use Rattle.std.proofs.Common.{ap, ◌∙◌}
use Rattle.sc_definitions.specs.Ring.{plus}
use Rattle.sc_zk_rounds.specs.Heads.{begun_at}
use Rattle.sc_zk_transcript.specs.Shapes.{fixed_by}
use Rattle.sc_zk_rounds.proofs.MaskedBatchLaws.{batch-as}
use Rattle.sc_zk_rounds.proofs.player.play_batch.Goals as goal

pub returns-clause-plays : goal.returns-clause-plays
returns-clause-plays g c =
    let o = g.EF.Field.ops in
    let N = g.EF.Field.number in
    let P = g.C.Challenger.party in
    let E = g.EF.ExtensionField.extension in
    let shown = g.P.PlainRounds.shown in
    let h = (P c.args.challenger.now).history in
    let claims = c.add-claim.ensures ∙ ap (λ n. plus o n (N c.args.aux)) c.claim.ensures in
    let begins = c.in_ok-begin_inherited.ensures.begins ∙ ap (begun_at E h (fixed_by c.args.shape)) claims in
    batch-as N E g.F.Field.ops.size c.args.shape.pow_bits o c.args.shape.prelude (shown c.args.prover.now) _ _ _ _ _ _ c.play_begun.result c.in_ok-begin_inherited.ensures.rules (c.play_begun.ensures.plays h begins)
